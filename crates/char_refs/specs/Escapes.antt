-- Characters that are written as references. The code 160 is that of the no-break space. A text is written as it is
-- shown, or, where `back` is true, so that HTML reads it back: then U+000D is a reference too.
use Rattle.std.specs.Prelude.{ℕ, Bool, ◌&&◌, List, [], ◌∷◌, ◌==◌, if◌then◌else◌, flat_map, codes}

-- how a character of a text is written
abbrev pub text_escape : Bool → ℕ → List ℕ
text_escape back c =
    if c == 38 then codes "&amp;" else if c == 60 then codes "&lt;" else if c == 62 then codes "&gt;" else if c == 160 then codes "&nbsp;"
    else if back && (c == 13) then codes "&#13;" else c ∷ []

-- how a character of a value is written
abbrev pub value_escape : Bool → ℕ → List ℕ
value_escape back c =
    if c == 38 then codes "&amp;" else if c == 34 then codes "&quot;" else if c == 160 then codes "&nbsp;" else if back && (c == 13) then codes "&#13;"
    else c ∷ []

abbrev pub escaped_text : Bool → List ℕ → List ℕ
escaped_text back text = flat_map (text_escape back) text

abbrev pub escaped_value : Bool → List ℕ → List ℕ
escaped_value back value = flat_map (value_escape back) value

-- either, a value where it stands in quotes
abbrev pub escape : Bool → Bool → ℕ → List ℕ
escape back quoted c = if quoted then value_escape back c else text_escape back c

abbrev pub escaped : Bool → Bool → List ℕ → List ℕ
escaped back quoted text = flat_map (escape back quoted) text
