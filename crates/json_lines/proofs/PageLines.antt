-- The texts of the lines of pages are the texts of their values.
use Rattle.std.proofs.Common.{◌≡◌, refl, ℕ, false, List, [], ◌∷◌, ◌++◌, ap, ◌∙◌, map, zip, ◌||◌, append_assoc, codes, Some, None}
use Rattle.std.specs.List.{join_with_byte}
use Rattle.std.specs.Prelude.{encode_utf8_all}
use Rattle.json.specs.Print.{quoted, escape_byte}
use Rattle.serde_json.specs.Data.{Data, string}
use Rattle.serde_json.specs.Written.{has_float, compact_text}
use Rattle.text_base.specs.declared.reasons.PageFault.{PageFault}
use Rattle.query_script.specs.declared.script.Field.{Field}
use Rattle.query_script.specs.declared.script.FieldValue.{FieldValue}
use Rattle.query_script.specs.declared.script.FieldValue.TheVariants.{All, One, Refused}
use Rattle.json_lines.specs.Pages.{string_text, value_text, field_text, page_text, refused_text, field_data, page_data, refused_data}
use Rattle.json_lines.proofs.LineLemmas.{items_no_float, items_compact}

pub field_no_float : (name : List ℕ) (v : FieldValue) → has_float (field_data name v) ≡ false
field_no_float name (All texts) = ap (λ b. b || false) (items_no_float (λ t. string (encode_utf8_all t)) (λ t. refl) texts)
field_no_float name (One None) = refl
field_no_float name (One (Some t)) = refl
field_no_float name (Refused why) = refl

page_no_float : (name : List ℕ) (fields : List Field) (values : List FieldValue) → has_float (page_data name fields values) ≡ false
page_no_float name fields values =
    ap (λ b. b || false) (items_no_float (λ (p : Field × FieldValue). field_data (encode_utf8_all p.0.name) p.1) (λ p. field_no_float (encode_utf8_all p.0.name) p.1) (zip fields values))

pub value_compact : (name : List ℕ) (v : FieldValue) → compact_text (field_data name v) ≡ codes "{\"name\":" ++ (quoted name ++ (value_text v ++ codes "}"))
unfolding escape_byte
value_compact name (All texts) =
    let front : List ℕ = codes ",\"value\":[" in
    ap (λ x. codes "{\"name\":" ++ (quoted name ++ (front ++ (x ++ codes "}")))) (items_compact (λ t. string (encode_utf8_all t)) string_text (λ t. refl) texts)
value_compact name (One None) = refl
value_compact name (One (Some t)) = refl
value_compact name (Refused why) = refl

field_compact : (p : Field × FieldValue) → compact_text (field_data (encode_utf8_all p.0.name) p.1) ≡ field_text p
field_compact p = value_compact (encode_utf8_all p.0.name) p.1

page_compact : (name : List ℕ) (fields : List Field) (values : List FieldValue) → compact_text (page_data name fields values) ≡ page_text name fields values
unfolding escape_byte
page_compact name fields values =
    let after : List ℕ = codes ",\"page\":" ++ (quoted name ++ codes "}") in
    ap (λ x. codes "{\"fields\":[" ++ (x ++ after)) (items_compact (λ (p : Field × FieldValue). field_data (encode_utf8_all p.0.name) p.1) field_text field_compact (zip fields values))
    ∙ ap (λ x. codes "{\"fields\":[" ++ x) (append_assoc (join_with_byte 44 (map field_text (zip fields values))) (93 ∷ []) after)

refused_compact : (name : List ℕ) (fault : PageFault) → compact_text (refused_data name fault) ≡ refused_text name fault
unfolding escape_byte
refused_compact name fault = refl

-- the text of a value that is the data of a line
pub page_value_text : (name : List ℕ) (fields : List Field) (values : List FieldValue) (d : Data) (bytes : List ℕ) → d ≡ page_data name fields values
    → (has_float d ≡ false → bytes ≡ compact_text d) → bytes ≡ compact_text (page_data name fields values)
page_value_text name fields values d bytes same text = text (ap has_float same ∙ page_no_float name fields values) ∙ ap compact_text same

pub page_line_text : (name : List ℕ) (fields : List Field) (values : List FieldValue) (d : Data) (bytes : List ℕ) → d ≡ page_data name fields values
    → (has_float d ≡ false → bytes ≡ compact_text d) → bytes ≡ page_text name fields values
page_line_text name fields values d bytes same text = page_value_text name fields values d bytes same text ∙ page_compact name fields values

pub refused_line_text : (name : List ℕ) (fault : PageFault) (d : Data) (bytes : List ℕ) → d ≡ refused_data name fault
    → (has_float d ≡ false → bytes ≡ compact_text d) → bytes ≡ refused_text name fault
refused_line_text name fault d bytes same text = text (ap has_float same) ∙ ap compact_text same ∙ refused_compact name fault
