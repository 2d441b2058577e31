-- The line of a page by the entries of its script, as JSON (RFC 8259) without white space, the members of an object in the
-- order of their keys.
use Rattle.std.specs.Prelude.{◌≡◌, ℕ, Bool, true, false, List, [], ◌∷◌, ◌++◌, map, zip, length, codes, Some, None, encode_utf8_all}
use Rattle.std.specs.List.{list_any, join_with_byte, AllByRecursion, IsDistinct}
use Rattle.std.specs.Ordering.{nat_cmp}
use Rattle.std.specs.Cmp.Lexicographic.{slice_cmp}
use Rattle.std.specs.FinMap.{from_entries, entries}
use Rattle.std.specs.Str.{bytes_eq}
use Rattle.json.specs.Print.{quoted}
use Rattle.serde_json.specs.Data.{Data, array, object, string, null, Members, no_members, member}
use Rattle.serde_json.specs.View.{items_of}
use Rattle.query_script.specs.declared.script.Field.{Field}
use Rattle.query_script.specs.declared.script.FieldValue.{FieldValue}
use Rattle.query_script.specs.declared.script.FieldValue.TheVariants as value
use Rattle.json_lines.specs.Reasons.{field_reason}
use Rattle.json_lines.specs.Pages.{string_text, value_text, texts_data, field_data}
use Rattle.page_records.specs.declared.script.Block.{Block}
use Rattle.page_records.specs.declared.script.Entry.{Entry}
use Rattle.page_records.specs.declared.script.Entry.TheVariants as entry
use Rattle.page_records.specs.declared.script.EntryValue.{EntryValue}
use Rattle.page_records.specs.declared.script.EntryValue.TheVariants as entry_value

-- ---- which values an entry may have

-- a record has one value for each field of its block
abbrev pub IsRecordOf : List Field → List FieldValue → Type 0
IsRecordOf fields values = length values ≡ length fields

-- the value has the entry's form, or is a refusal
abbrev pub HasForm : Entry → EntryValue → Type 0
HasForm e (entry_value.Refused why) = Unit {0}
HasForm (entry.Plain field) (entry_value.Plain v) = Unit {0}
HasForm (entry.Plain field) (entry_value.Each records) = ⊥
HasForm (entry.Each block) (entry_value.Plain v) = ⊥
HasForm (entry.Each block) (entry_value.Each records) = AllByRecursion (IsRecordOf block.fields) records

-- as many values as entries, each of its entry's form
abbrev pub HaveForms : List Entry → List EntryValue → Type 0
HaveForms [] [] = Unit {0}
HaveForms [] (v ∷ values) = ⊥
HaveForms (e ∷ entries) [] = ⊥
HaveForms (e ∷ entries) (v ∷ values) = HasForm e v × HaveForms entries values

abbrev pub names : List Field → List (List ℕ)
names fields = map (λ f. f.name) fields

-- the names of the fields of a block differ
abbrev pub HasNames : Entry → Type 0
HasNames (entry.Plain field) = Unit {0}
HasNames (entry.Each block) = IsDistinct bytes_eq (names block.fields)

-- ---- a record

-- the names of the fields in UTF-8, each with its value
abbrev pub named_values : List Field → List FieldValue → List (List ℕ × FieldValue)
named_values fields values = zip (map (λ f. encode_utf8_all f.name) fields) values

-- the members of a record: the same in the order of the names' bytes
abbrev pub members : List Field → List FieldValue → List (List ℕ × FieldValue)
members fields values = entries (from_entries {R = slice_cmp nat_cmp} (named_values fields values))

-- a string, null, an array of strings, or an object with the reason
abbrev pub member_data : FieldValue → Data
member_data (value.All texts) = texts_data texts
member_data (value.One None) = null
member_data (value.One (Some t)) = string (encode_utf8_all t)
member_data (value.Refused why) = object (member (codes "refused") (string (field_reason why)) no_members)

abbrev pub members_data : List (List ℕ × FieldValue) → Members
members_data [] = no_members
members_data (m ∷ ms) = member m.0 (member_data m.1) (members_data ms)

abbrev pub record_data : List Field → List FieldValue → Data
record_data fields values = object (members_data (members fields values))

abbrev pub records_data : List Field → List (List FieldValue) → Data
records_data fields records = array (items_of (map (record_data fields) records))

-- ---- a line

-- the object of a block with its records
abbrev pub block_data : Block → List (List FieldValue) → Data
block_data block records =
    object (member (codes "name") (string (encode_utf8_all block.name)) (member (codes "value") (records_data block.fields records) no_members))

-- the object of an entry; a value that has not its form has none
abbrev pub entry_data : Entry → EntryValue → Data
entry_data (entry.Plain field) (entry_value.Plain v) = field_data (encode_utf8_all field.name) v
entry_data (entry.Plain field) (entry_value.Refused why) = field_data (encode_utf8_all field.name) (value.Refused why)
entry_data (entry.Plain field) (entry_value.Each records) = null
entry_data (entry.Each block) (entry_value.Each records) = block_data block records
entry_data (entry.Each block) (entry_value.Refused why) = field_data (encode_utf8_all block.name) (value.Refused why)
entry_data (entry.Each block) (entry_value.Plain v) = null

abbrev pub entries_data : List Entry → List EntryValue → Data
entries_data es values = array (items_of (map (λ (p : Entry × EntryValue). entry_data p.0 p.1) (zip es values)))

-- the line of a page: the objects of its entries in order, and the page's name
abbrev pub line_data : List ℕ → List Entry → List EntryValue → Data
line_data name es values = object (member (codes "fields") (entries_data es values) (member (codes "page") (string name) no_members))

-- The same as bytes.

abbrev pub member_value : FieldValue → List ℕ
member_value (value.All texts) = codes "[" ++ (join_with_byte 44 (map string_text texts) ++ codes "]")
member_value (value.One None) = codes "null"
member_value (value.One (Some t)) = string_text t
member_value (value.Refused why) = codes "{\"refused\":" ++ (quoted (field_reason why) ++ codes "}")

abbrev pub member_text : List ℕ × FieldValue → List ℕ
member_text m = quoted m.0 ++ (codes ":" ++ member_value m.1)

abbrev pub record_text : List Field → List FieldValue → List ℕ
record_text fields values = codes "{" ++ (join_with_byte 44 (map member_text (members fields values)) ++ codes "}")

-- an object with a name and what stands after the name
abbrev pub named_text : List ℕ → List ℕ → List ℕ
named_text name rest = codes "{\"name\":" ++ (string_text name ++ (rest ++ codes "}"))

-- what stands after the name of a block
abbrev pub records_text : List Field → List (List FieldValue) → List ℕ
records_text fields records = codes ",\"value\":[" ++ (join_with_byte 44 (map (record_text fields) records) ++ codes "]")

abbrev pub entry_text : Entry → EntryValue → List ℕ
entry_text (entry.Plain field) (entry_value.Plain v) = named_text field.name (value_text v)
entry_text (entry.Plain field) (entry_value.Refused why) = named_text field.name (value_text (value.Refused why))
entry_text (entry.Plain field) (entry_value.Each records) = codes "null"
entry_text (entry.Each block) (entry_value.Each records) = named_text block.name (records_text block.fields records)
entry_text (entry.Each block) (entry_value.Refused why) = named_text block.name (value_text (value.Refused why))
entry_text (entry.Each block) (entry_value.Plain v) = codes "null"

abbrev pub line_text : List ℕ → List Entry → List EntryValue → List ℕ
line_text name es values =
    codes "{\"fields\":[" ++ (join_with_byte 44 (map (λ (p : Entry × EntryValue). entry_text p.0 p.1) (zip es values)) ++ (codes "],\"page\":" ++ (quoted name ++ codes "}")))

-- ---- whether a line holds a refusal

abbrev pub is_refused : FieldValue → Bool
is_refused (value.All texts) = false
is_refused (value.One text) = false
is_refused (value.Refused why) = true

-- the value is a refusal, or some member of a record is one
abbrev pub holds_refusal : EntryValue → Bool
holds_refusal (entry_value.Plain v) = is_refused v
holds_refusal (entry_value.Each records) = list_any (list_any is_refused) records
holds_refusal (entry_value.Refused why) = true
