-- The text of a line by entries is the text of its value.
use Rattle.std.proofs.Common.{◌≡◌, refl, ℕ, true, false, List, [], ◌∷◌, ◌++◌, ap, sym, ◌∙◌, map, zip, ◌||◌, append_assoc, codes, Some, None}
use Rattle.std.specs.List.{join_with_byte}
use Rattle.std.specs.Prelude.{encode_utf8_all}
use Rattle.json.specs.Print.{quoted, escape_byte}
use Rattle.serde_json.specs.Data.{Data, string}
use Rattle.serde_json.specs.Written.{has_float, members_have_float, members_text, compact_text}
use Rattle.query_script.specs.declared.script.Field.{Field}
use Rattle.query_script.specs.declared.script.FieldValue.{FieldValue}
use Rattle.query_script.specs.declared.script.FieldValue.TheVariants as value
use Rattle.json_lines.specs.Pages.{string_text}
use Rattle.json_lines.proofs.LineLemmas.{or_false, items_no_float, items_compact}
use Rattle.json_lines.proofs.PageLines.{field_no_float, value_compact}
use Rattle.page_records.specs.declared.script.Block.{Block}
use Rattle.page_records.specs.declared.script.Entry.{Entry}
use Rattle.page_records.specs.declared.script.Entry.TheVariants as entry
use Rattle.page_records.specs.declared.script.EntryValue.{EntryValue}
use Rattle.page_records.specs.declared.script.EntryValue.TheVariants as entry_value
use Rattle.page_records.specs.Lines.{members, member_data, members_data, record_data, block_data, entry_data, line_data, member_value, member_text, record_text, named_text, records_text, entry_text, line_text}

-- ---- no number in a line is a float

member_no_float : (v : FieldValue) → has_float (member_data v) ≡ false
member_no_float (value.All texts) = items_no_float (λ t. string (encode_utf8_all t)) (λ t. refl) texts
member_no_float (value.One None) = refl
member_no_float (value.One (Some t)) = refl
member_no_float (value.Refused why) = refl

members_no_float : (ms : List (List ℕ × FieldValue)) → members_have_float (members_data ms) ≡ false
members_no_float [] = refl
members_no_float (m ∷ ms) = or_false (has_float (member_data m.1)) (members_have_float (members_data ms)) (member_no_float m.1) (members_no_float ms)

block_no_float : (block : Block) (records : List (List FieldValue)) → has_float (block_data block records) ≡ false
block_no_float block records =
    ap (λ b. b || false) (items_no_float (record_data block.fields) (λ values. members_no_float (members block.fields values)) records)

entry_no_float : (e : Entry) (v : EntryValue) → has_float (entry_data e v) ≡ false
entry_no_float (entry.Plain field) (entry_value.Plain v) = field_no_float (encode_utf8_all field.name) v
entry_no_float (entry.Plain field) (entry_value.Refused why) = refl
entry_no_float (entry.Plain field) (entry_value.Each records) = refl
entry_no_float (entry.Each block) (entry_value.Each records) = block_no_float block records
entry_no_float (entry.Each block) (entry_value.Refused why) = refl
entry_no_float (entry.Each block) (entry_value.Plain v) = refl

line_no_float : (name : List ℕ) (es : List Entry) (values : List EntryValue) → has_float (line_data name es values) ≡ false
line_no_float name es values =
    ap (λ b. b || false) (items_no_float (λ (p : Entry × EntryValue). entry_data p.0 p.1) (λ p. entry_no_float p.0 p.1) (zip es values))

-- ---- the text of each part

member_compact : (v : FieldValue) → compact_text (member_data v) ≡ member_value v
unfolding escape_byte
member_compact (value.All texts) = ap (λ t. 91 ∷ t) (items_compact (λ t. string (encode_utf8_all t)) string_text (λ t. refl) texts)
member_compact (value.One None) = refl
member_compact (value.One (Some t)) = refl
member_compact (value.Refused why) = refl

-- a member, and what stands after it
one_member : (m : List ℕ × FieldValue) (rest : List ℕ) → quoted m.0 ++ 58 ∷ (compact_text (member_data m.1) ++ rest) ≡ member_text m ++ rest
one_member m rest = ap (λ t. quoted m.0 ++ 58 ∷ (t ++ rest)) (member_compact m.1) ∙ sym (append_assoc (quoted m.0) (58 ∷ member_value m.1) rest)

-- the members after the first
later_members : (m : List ℕ × FieldValue) (ms : List (List ℕ × FieldValue))
    → members_text true (members_data (m ∷ ms)) ≡ 44 ∷ (join_with_byte 44 (map member_text (m ∷ ms)) ++ 125 ∷ [])
later_members m [] = ap (λ t. 44 ∷ t) (one_member m (125 ∷ []))
later_members m (next ∷ ms) =
    ap (λ t. 44 ∷ t) (one_member m (members_text true (members_data (next ∷ ms))))
    ∙ ap (λ t. 44 ∷ (member_text m ++ t)) (later_members next ms)
    ∙ ap (λ t. 44 ∷ t) (sym (append_assoc (member_text m) (44 ∷ join_with_byte 44 (map member_text (next ∷ ms))) (125 ∷ [])))

-- the members are their texts, with commas between
members_compact : (ms : List (List ℕ × FieldValue)) → members_text false (members_data ms) ≡ join_with_byte 44 (map member_text ms) ++ 125 ∷ []
members_compact [] = refl
members_compact (m ∷ []) = one_member m (125 ∷ [])
members_compact (m ∷ next ∷ ms) =
    one_member m (members_text true (members_data (next ∷ ms)))
    ∙ ap (λ t. member_text m ++ t) (later_members next ms)
    ∙ sym (append_assoc (member_text m) (44 ∷ join_with_byte 44 (map member_text (next ∷ ms))) (125 ∷ []))

record_compact : (fields : List Field) (values : List FieldValue) → compact_text (record_data fields values) ≡ record_text fields values
record_compact fields values = ap (λ t. 123 ∷ t) (members_compact (members fields values))

block_compact : (block : Block) (records : List (List FieldValue)) → compact_text (block_data block records) ≡ named_text block.name (records_text block.fields records)
unfolding escape_byte
block_compact block records =
    let front : List ℕ = codes ",\"value\":[" in
    ap (λ x. codes "{\"name\":" ++ (string_text block.name ++ (front ++ (x ++ codes "}")))) (items_compact (record_data block.fields) (record_text block.fields) (record_compact block.fields) records)

entry_compact : (e : Entry) (v : EntryValue) → compact_text (entry_data e v) ≡ entry_text e v
entry_compact (entry.Plain field) (entry_value.Plain v) = value_compact (encode_utf8_all field.name) v
entry_compact (entry.Plain field) (entry_value.Refused why) = value_compact (encode_utf8_all field.name) (value.Refused why)
entry_compact (entry.Plain field) (entry_value.Each records) = refl
entry_compact (entry.Each block) (entry_value.Each records) = block_compact block records
entry_compact (entry.Each block) (entry_value.Refused why) = value_compact (encode_utf8_all block.name) (value.Refused why)
entry_compact (entry.Each block) (entry_value.Plain v) = refl

line_compact : (name : List ℕ) (es : List Entry) (values : List EntryValue) → compact_text (line_data name es values) ≡ line_text name es values
unfolding escape_byte
line_compact name es values =
    let text : Entry × EntryValue → List ℕ = λ (p : Entry × EntryValue). entry_text p.0 p.1 in
    let after : List ℕ = codes ",\"page\":" ++ (quoted name ++ codes "}") in
    ap (λ x. codes "{\"fields\":[" ++ (x ++ after)) (items_compact (λ (p : Entry × EntryValue). entry_data p.0 p.1) text (λ p. entry_compact p.0 p.1) (zip es values))
    ∙ ap (λ x. codes "{\"fields\":[" ++ x) (append_assoc (join_with_byte 44 (map text (zip es values))) (93 ∷ []) after)

-- the text of a value that is the data of a line
pub record_value_text : (name : List ℕ) (es : List Entry) (values : List EntryValue) (d : Data) (bytes : List ℕ) → d ≡ line_data name es values
    → (has_float d ≡ false → bytes ≡ compact_text d) → bytes ≡ compact_text (line_data name es values)
record_value_text name es values d bytes same text = text (ap has_float same ∙ line_no_float name es values) ∙ ap compact_text same

pub record_line_text : (name : List ℕ) (es : List Entry) (values : List EntryValue) (d : Data) (bytes : List ℕ) → d ≡ line_data name es values
    → (has_float d ≡ false → bytes ≡ compact_text d) → bytes ≡ line_text name es values
record_line_text name es values d bytes same text = record_value_text name es values d bytes same text ∙ line_compact name es values
