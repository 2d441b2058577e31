-- What the private functions hold while the steps of a field run.
use Rattle.std.specs.Prelude.{◌≡◌, List, ◌∷◌, map, length}
use Rattle.std.specs.Str.{chars}
use Rattle.doc_model.specs.Document.{Document}
use Rattle.doc_model.specs.RowLists.{AllBelow}
use Rattle.xpath_parser.specs.Typed.{expression}
use Rattle.query_script.specs.declared.script.FieldValue.{FieldValue}
use Rattle.query_script.specs.declared.script.FieldValue.TheVariants as value
use Rattle.query_script.specs.declared.script.Reason.{Reason}
use Rattle.query_script.specs.declared.script.Reason.TheVariants as reason
use Rattle.regex.specs.Strings.{regex_source}
use Rattle.query_chain.specs.declared.items.Items.{Items}
use Rattle.query_chain.specs.declared.items.Items.TheVariants.{Rows, Texts}
use Rattle.query_chain.specs.declared.limits.Stop.{Stop}
use Rattle.query_chain.specs.declared.limits.Stop.TheVariants.{Selection, Output, Memory}
use Rattle.query_chain.specs.declared.ready_steps.ReadyStep.{ReadyStep}
use Rattle.query_chain.specs.declared.ready_steps.ReadyStep.TheVariants as ready
use Rattle.query_chain.specs.Items.{Item, node, text}
use Rattle.query_chain.specs.Tasks.{Action, select, search, keep}
use Rattle.query_chain.specs.inner.Built.{IsBuilt}

abbrev pub items_of : Items → List Item
items_of (Rows rows) = map node rows.items
items_of (Texts texts) = map text texts.items

-- the rows are rows of the document
abbrev pub AreIn : Document → Items → Type 0
AreIn doc (Rows rows) = AllBelow (length doc) rows.items
AreIn doc (Texts texts) = Unit {0}

-- what a prepared step does
abbrev pub action_of : ReadyStep → Action
action_of (ready.Query typed) = select (expression typed)
action_of (ready.Match regex) = search (chars (regex_source regex))
action_of (ready.Keep kind other) = keep kind other

-- a pattern is built
abbrev pub IsUsable : ReadyStep → Type 0
IsUsable (ready.Query typed) = Unit {0}
IsUsable (ready.Match regex) = IsBuilt (chars (regex_source regex)) regex
IsUsable (ready.Keep kind other) = Unit {0}

-- why it was stopped, which is the first of the limits that are passed
abbrev pub IsFirst : Stop → List Reason → Type 0
IsFirst Selection passed = (more : List Reason) × (passed ≡ reason.Selection ∷ more)
IsFirst Output passed = (more : List Reason) × (passed ≡ reason.Output ∷ more)
IsFirst Memory passed = Unit {0}

-- what a stop says of a field's value
abbrev pub IsStopOf : Stop → FieldValue → Type 0
IsStopOf Selection v = v ≡ value.Refused reason.Selection
IsStopOf Output v = v ≡ value.Refused reason.Output
IsStopOf Memory v = Unit {0}
