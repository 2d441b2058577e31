-- The lines of pages, as JSON (RFC 8259) without white space, the members of an object in the order of their keys.
use Rattle.std.specs.Prelude.{ℕ, List, ◌++◌, map, zip, codes, decimal, Some, None, encode_utf8_all}
use Rattle.std.specs.List.{join_with_byte}
use Rattle.json.specs.Print.{quoted}
use Rattle.serde_json.specs.Data.{Data, array, object, string, null, number, unsigned, no_members, member}
use Rattle.serde_json.specs.View.{items_of}
use Rattle.text_base.specs.declared.reasons.PageFault.{PageFault}
use Rattle.query_script.specs.declared.script.Field.{Field}
use Rattle.query_script.specs.declared.script.FieldValue.{FieldValue}
use Rattle.query_script.specs.declared.script.FieldValue.TheVariants.{All, One, Refused}
use Rattle.json_lines.specs.Reasons.{page_reason, field_reason}

-- a text as a JSON string with the shortest escapes
abbrev pub string_text : List ℕ → List ℕ
string_text t = quoted (encode_utf8_all t)

-- what stands behind the name of a field: its value, or why it is refused
abbrev pub value_text : FieldValue → List ℕ
value_text (All texts) = codes ",\"value\":[" ++ (join_with_byte 44 (map string_text texts) ++ codes "]")
value_text (One None) = codes ",\"value\":null"
value_text (One (Some t)) = codes ",\"value\":" ++ string_text t
value_text (Refused why) = codes ",\"refused\":" ++ quoted (field_reason why)

-- a field and its value
abbrev pub field_text : Field × FieldValue → List ℕ
field_text p = codes "{\"name\":" ++ (string_text p.0.name ++ (value_text p.1 ++ codes "}"))

-- The line of a page: its fields in order, each with its value, and the page's name.
abbrev pub page_text : List ℕ → List Field → List FieldValue → List ℕ
page_text name fields values =
    codes "{\"fields\":[" ++ (join_with_byte 44 (map field_text (zip fields values)) ++ (codes "],\"page\":" ++ (quoted name ++ codes "}")))

-- The line of a refused page: the place in bytes, the page's name and the reason.
abbrev pub refused_text : List ℕ → PageFault → List ℕ
refused_text name fault =
    codes "{\"at\":" ++ (decimal fault.at ++ (codes ",\"page\":" ++ (quoted name ++ (codes ",\"refused\":" ++ (quoted (page_reason fault.reason) ++ codes "}")))))

-- The same lines as values of JSON.

abbrev pub texts_data : List (List ℕ) → Data
texts_data texts = array (items_of (map (λ t. string (encode_utf8_all t)) texts))

-- the object of a field, whose name is given by its bytes
abbrev pub field_data : List ℕ → FieldValue → Data
field_data name (All texts) = object (member (codes "name") (string name) (member (codes "value") (texts_data texts) no_members))
field_data name (One None) = object (member (codes "name") (string name) (member (codes "value") null no_members))
field_data name (One (Some t)) = object (member (codes "name") (string name) (member (codes "value") (string (encode_utf8_all t)) no_members))
field_data name (Refused why) = object (member (codes "name") (string name) (member (codes "refused") (string (field_reason why)) no_members))

abbrev pub fields_data : List Field → List FieldValue → Data
fields_data fields values = array (items_of (map (λ p. field_data (encode_utf8_all p.0.name) p.1) (zip fields values)))

abbrev pub page_data : List ℕ → List Field → List FieldValue → Data
page_data name fields values = object (member (codes "fields") (fields_data fields values) (member (codes "page") (string name) no_members))

abbrev pub refused_data : List ℕ → PageFault → Data
refused_data name fault = object (member (codes "at") (number (unsigned fault.at)) (member (codes "page") (string name) (member (codes "refused") (string (page_reason fault.reason)) no_members)))
