-- The value of a field on a document where some tests are stored: what its steps give, one after the other, within limits.
use Rattle.std.specs.Prelude.{◌≡◌, ℕ, Bool, true, false, if◌then◌else◌, nat_lt, List, [], ◌∷◌, ◌++◌, map, flat_map, length, take, Some, None, encode_utf8_all}
use Rattle.doc_model.specs.Document.{Document, row}
use Rattle.doc_model.specs.declared.Kind.{Kind}
use Rattle.doc_model.specs.declared.Kind.TheVariants.{Root, Element, Attribute, Text, Comment}
use Rattle.markup_out.specs.Markup.{markup}
use Rattle.xpath_values.specs.declared.value.Value.{Value}
use Rattle.xpath_values.specs.declared.value.Value.TheVariants.{Nodes, Num, Str, Bool as Truth}
use Rattle.xpath_values.specs.Numbers.{num_text}
use Rattle.xpath_values.specs.Strings.{text_of_bool}
use Rattle.test_registry.specs.Meets.{meets}
use Rattle.test_registry.specs.Names.{Known}
use Rattle.xpath_parser.specs.Denote.{denote}
use Rattle.query_script.specs.declared.script.Field.{Field}
use Rattle.query_script.specs.declared.script.FieldValue.{FieldValue}
use Rattle.query_script.specs.declared.script.FieldValue.TheVariants as value
use Rattle.query_script.specs.declared.script.Reason.{Reason}
use Rattle.query_script.specs.declared.script.Reason.TheVariants as reason
use Rattle.query_script.specs.declared.script.Take.{Take}
use Rattle.query_script.specs.declared.script.Take.TheVariants as taken
use Rattle.query_chain.specs.declared.limits.Limits.{Limits}
use Rattle.query_chain.specs.Items.{Item, node, text, strings, bytes_of}
use Rattle.query_chain.specs.Patterns.{found_texts}
use Rattle.query_chain.specs.Tasks.{Action, select, search, keep, Task, refuses, does, IsTaskOver}

-- ---- items, and what a step makes of them

-- the items that a value is: its rows in document order, or one text
abbrev pub value_items : Value → List Item
value_items (Nodes rows) = map node rows
value_items (Num n) = text (num_text n) ∷ []
value_items (Str s) = text s ∷ []
value_items (Truth b) = text (text_of_bool b) ∷ []

-- the text of a row: the value of an attribute, the content of a text, and else the markup
abbrev pub row_text : Kind → Document → ℕ → List ℕ
row_text Root doc x = markup doc x
row_text Element doc x = markup doc x
row_text Attribute doc x = (row doc x).text
row_text Text doc x = (row doc x).text
row_text Comment doc x = markup doc x

module _ (doc : Document) where
  abbrev pub item_text : Item → List ℕ
  item_text (node x) = row_text (row doc x).kind doc x
  item_text (text t) = t

  abbrev pub item_texts : List Item → List (List ℕ)
  item_texts items = map item_text items

  -- What an item gives: the value of the expression there, at position 1 of 1; what the pattern finds in its text; or the item
  -- itself where its text and the other meet the kind, on their bytes. No expression meets a text, since queries stand only
  -- after queries that give nodes.
  abbrev pub gives : Action → Item → List Item
  gives (select x) (node r) = value_items (denote doc x (record { row = r; position = 1; size = 1 }))
  gives (select x) (text t) = []
  gives (search source) item = map text (found_texts source (item_text item))
  gives (keep kind other) item = if meets kind (encode_utf8_all (item_text item)) (encode_utf8_all other) then item ∷ [] else []

  -- what a step gives: what the items give, joined in order, with their repeats
  abbrev pub step_items : Action → List Item → List Item
  step_items a items = flat_map (gives a) items

  -- what the last step gives
  abbrev pub last_items : List Item → List Action → List Item
  last_items items [] = items
  last_items items (a ∷ actions) = last_items (step_items a items) actions

  -- the texts that a step looks at: a search and a test look at those of all items that they are given, found or not, kept or not
  abbrev pub searched : Action → List Item → List (List ℕ)
  searched (select x) items = []
  searched (search source) items = item_texts items
  searched (keep kind other) items = item_texts items

-- ---- the limits

-- the reason, if this limit is passed
abbrev pub if_passed : Bool → Reason → List Reason
if_passed true why = why ∷ []
if_passed false why = []

-- more bytes than there may be
abbrev pub is_over : Limits → List (List ℕ) → Bool
is_over limits ts = nat_lt limits.bytes (bytes_of ts)

module _ (limits : Limits) (doc : Document) where
  -- the limits that a step passes, in their order: the bytes of the texts that it looks at, the number of its items, the bytes
  -- of its items that are texts
  abbrev pub step_passes : Action → List Item → List Reason
  step_passes a items =
      if_passed (is_over limits (searched doc a items)) reason.Output
      ++ (if_passed (nat_lt limits.items (length (step_items doc a items))) reason.Selection
      ++ if_passed (is_over limits (strings (step_items doc a items))) reason.Output)

  -- the same for all steps, one after the other
  abbrev pub steps_pass : List Item → List Action → List Reason
  steps_pass items [] = []
  steps_pass items (a ∷ actions) = step_passes a items ++ steps_pass (step_items doc a items) actions

  -- and at the end, for the texts that are given
  abbrev pub end_passes : List (List ℕ) → List Reason
  end_passes ts = if_passed (is_over limits ts) reason.Output

-- ---- the value

-- all texts, or the first alone, if there is one
abbrev pub taken_texts : Take → List (List ℕ) → List (List ℕ)
taken_texts taken.All ts = ts
taken_texts taken.First ts = take 1 ts

abbrev pub first_value : List (List ℕ) → FieldValue
first_value [] = value.One None
first_value (t ∷ ts) = value.One (Some t)

abbrev pub value_of : Take → List (List ℕ) → FieldValue
value_of taken.All ts = value.All ts
value_of taken.First ts = first_value ts

-- the first of these reasons, or this value where there is none
abbrev pub first_reason : List Reason → FieldValue → FieldValue
first_reason [] v = v
first_reason (why ∷ more) v = value.Refused why

-- what the chain of these actions has as its value, from row x
abbrev pub answer : Limits → Document → ℕ → List Action → Take → FieldValue
answer limits doc x actions end =
    let start = node x ∷ [] in
    let given = taken_texts end (item_texts doc (last_items doc start actions)) in
    first_reason (steps_pass limits doc start actions ++ end_passes limits doc given) (value_of end given)

-- the most items that a step gives
abbrev pub most_items : ℕ
most_items = 1000000

-- the most bytes that texts have together
abbrev pub most_text : ℕ
most_text = 8388608

abbrev pub field_limits : Limits
field_limits = record { items = most_items; bytes = most_text }

-- what a task has as its value, from row x: the reason, or what its actions give
abbrev pub outcome : Document → ℕ → Task → FieldValue
outcome doc x (refuses why) = value.Refused why
outcome doc x (does actions end) = answer field_limits doc x actions end

-- the value of a field whose chain starts with row x, where these tests are stored: that of its task
abbrev pub IsValueAtOver : Known → Document → ℕ → Field → FieldValue → Type 0
IsValueAtOver tests doc x field v = (task : Task) × IsTaskOver tests field task × (v ≡ outcome doc x task)

-- the value of a field, from the root node
abbrev pub IsValueOver : Known → Document → Field → FieldValue → Type 0
IsValueOver tests doc field v = IsValueAtOver tests doc 0 field v

-- the same where no tests are stored
abbrev pub IsValueAt : Document → ℕ → Field → FieldValue → Type 0
IsValueAt doc x field v = IsValueAtOver [] doc x field v

abbrev pub IsValue : Document → Field → FieldValue → Type 0
IsValue doc field v = IsValueAt doc 0 field v
