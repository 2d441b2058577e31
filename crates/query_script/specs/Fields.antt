-- What a script reads as.
use Rattle.std.specs.Prelude.{◌≡◌, ◌≢◌, ◌⊎◌, ℕ, ◌<◌, ◌≤◌, true, false, List, [], ◌∷◌, length}
use Rattle.text_base.specs.declared.reasons.ScriptFault.{ScriptFault}
use Rattle.text_base.specs.declared.reasons.ScriptFault.TheVariants as script
use Rattle.text_base.specs.declared.reasons.SelectorFault.TheVariants as selector
use Rattle.text_base.specs.declared.reasons.XPathFault.TheVariants as xpath
use Rattle.test_registry.specs.Names.{Known}
use Rattle.css_selectors.specs.declared.selector.Dialect.{Dialect}
use Rattle.query_script.specs.declared.script.Chain.{Chain}
use Rattle.query_script.specs.declared.script.Chain.TheVariants as chain
use Rattle.query_script.specs.declared.script.ChainStep.{ChainStep}
use Rattle.query_script.specs.declared.script.Field.{Field}
use Rattle.query_script.specs.declared.script.Reason.{Reason}
use Rattle.query_script.specs.declared.script.Reason.TheVariants as reason
use Rattle.query_script.specs.declared.script.Take.{Take}
use Rattle.query_script.specs.declared.steps.RawStep.{RawStep}
use Rattle.query_script.specs.Cuts.{fields_of}
use Rattle.query_script.specs.Names.{is_named, name_of, after_colon}
use Rattle.query_script.specs.Steps.{IsChainText}
use Rattle.query_script.specs.Queries.{AreKept, IsFirstRefusal}

-- ---- one field

-- the text is no steps and an end
abbrev pub IsNoChain : List ℕ → Type 0
IsNoChain text = (steps : List RawStep) (take : Take) → IsChainText text steps take → ⊥

-- the text is steps and an end, and the first step that is refused is refused for this reason
pub record IsRefusedChain (tests : Known) (d : Dialect) (text : List ℕ) (why : Reason) : Type 0 where
  pub steps : List RawStep
  pub take : Take
  pub written : IsChainText text steps take
  pub first : IsFirstRefusal tests d true steps why

-- the text is steps and this end, and the steps are kept as these: the first starts from the root node
pub record IsAccepted (tests : Known) (d : Dialect) (text : List ℕ) (kept : List ChainStep) (take : Take) : Type 0 where
  pub steps : List RawStep
  pub written : IsChainText text steps take
  pub keeps : AreKept tests d true steps kept

-- what the text after a field's name reads as, where these tests are stored
abbrev pub IsChain : Known → Dialect → List ℕ → Chain → Type 0
IsChain tests d text (chain.Steps kept take) = IsAccepted tests d text kept take
IsChain tests d text (chain.Refused reason.Name) = ⊥
IsChain tests d text (chain.Refused reason.Chain) = IsNoChain text
IsChain tests d text (chain.Refused why) = IsRefusedChain tests d text why

pub record IsUnnamedField (piece : List ℕ) (field : Field) : Type 0 where
  pub unnamed : is_named piece ≡ false
  pub is : field.chain ≡ chain.Refused reason.Name

pub record IsNamedField (tests : Known) (d : Dialect) (piece : List ℕ) (field : Field) : Type 0 where
  pub named : is_named piece ≡ true
  pub is : IsChain tests d (after_colon piece) field.chain

-- the field that a piece is, where these tests are stored
pub record IsFieldOver (tests : Known) (d : Dialect) (piece : List ℕ) (field : Field) : Type 0 where
  pub name : field.name ≡ name_of piece
  pub reads : IsUnnamedField piece field ⊎ IsNamedField tests d piece field

-- the same where no tests are stored
abbrev pub IsField : Dialect → List ℕ → Field → Type 0
IsField d piece field = IsFieldOver [] d piece field

-- The reasons that a field has before it is run. The others are of running it or of blocks of records, and want of memory is
-- no reason of a text.
abbrev pub IsFieldReason : Reason → Type 0
IsFieldReason reason.Name = Unit {0}
IsFieldReason reason.Chain = Unit {0}
IsFieldReason reason.Order = Unit {0}
IsFieldReason reason.Test = Unit {0}
IsFieldReason reason.Block = ⊥
IsFieldReason reason.Twice = ⊥
IsFieldReason reason.Selection = ⊥
IsFieldReason reason.Output = ⊥
IsFieldReason reason.Pattern = ⊥
IsFieldReason (reason.Css f) = f ≢ selector.Memory
IsFieldReason (reason.XPath f) = f ≢ xpath.Memory

-- ---- the script

-- each piece is the field at its place
abbrev pub AreFields : Known → Dialect → List (List ℕ) → List Field → Type 0
AreFields tests d [] [] = Unit {0}
AreFields tests d [] (f ∷ fields) = ⊥
AreFields tests d (p ∷ pieces) [] = ⊥
AreFields tests d (p ∷ pieces) (f ∷ fields) = IsFieldOver tests d p f × AreFields tests d pieces fields

-- the most bytes of a script
abbrev pub most_script : ℕ
most_script = 65536

-- the most fields of a script
abbrev pub most_fields : ℕ
most_fields = 32

-- The script, as bytes, reads as these fields where these tests are stored: it is not too long, it has not too many fields,
-- and these are they.
pub record IsScriptOver (tests : Known) (d : Dialect) (text : List ℕ) (fields : List Field) : Type 0 where
  pub short : length text ≤ most_script
  pub few : length (fields_of text) ≤ most_fields
  pub are : AreFields tests d (fields_of text) fields

-- the same where no tests are stored
abbrev pub IsScript : Dialect → List ℕ → List Field → Type 0
IsScript d text fields = IsScriptOver [] d text fields

-- not too long, and more fields than a script may have
pub record HasManyFields (text : List ℕ) : Type 0 where
  pub short : length text ≤ most_script
  pub many : most_fields < length (fields_of text)

-- Why the script is refused as a whole, whatever tests are stored. Memory is no reason of the text.
abbrev pub IsScriptFault : List ℕ → ScriptFault → Type 0
IsScriptFault text script.Long = most_script < length text
IsScriptFault text script.Fields = HasManyFields text
IsScriptFault text script.Memory = ⊥

-- why the script gives no fields, where want of memory is always a reason
abbrev pub IsUnread : List ℕ → ScriptFault → Type 0
IsUnread text script.Memory = Unit {0}
IsUnread text f = IsScriptFault text f
