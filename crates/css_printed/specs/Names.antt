-- How the names of elements and attributes are printed.
use Rattle.std.specs.Prelude.{ℕ, Bool, false, ◌&&◌, ◌||◌, ◌==◌, nat_le, if◌then◌else◌, List, [], ◌∷◌, ◌++◌, Option, Some, None, codes, encode_utf8_all}
use Rattle.std.specs.List.{list_all}
use Rattle.text_base.specs.Text.{is_letter}
use Rattle.css_selectors.specs.declared.selector.Dialect.{Dialect}
use Rattle.css_meaning.specs.Names.{folded}
use Rattle.css_printed.specs.Literals.{literal_text}

-- an ASCII letter or `_`
abbrev pub is_plain_start : ℕ → Bool
is_plain_start c = is_letter c || (c == 95)

-- these, digits, `-` and `.`
abbrev pub is_plain_char : ℕ → Bool
is_plain_char c = is_plain_start c || ((nat_le 48 c && nat_le c 57) || ((c == 45) || (c == 46)))

-- a name that XPath reads as a name without a prefix
abbrev pub is_plain : List ℕ → Bool
is_plain [] = false
is_plain (c ∷ cs) = is_plain_start c && list_all is_plain_char cs

-- a name's bytes, in ASCII lower case in the HTML dialect
abbrev pub name_bytes : Dialect → List ℕ → List ℕ
name_bytes dialect n = encode_utf8_all (folded dialect n)

-- the predicate on a name that is not plain
abbrev pub name_bracket : Dialect → List ℕ → List ℕ
name_bracket dialect n = codes "[name() = " ++ (literal_text (name_bytes dialect n) ++ codes "]")

-- a node test for elements, with a predicate where the name is not plain
abbrev pub element_text : Dialect → Option (List ℕ) → List ℕ
element_text dialect None = codes "*"
element_text dialect (Some n) = if is_plain (folded dialect n) then name_bytes dialect n else codes "*" ++ name_bracket dialect n

-- the attribute of a name
abbrev pub attribute_text : Dialect → List ℕ → List ℕ
attribute_text dialect n = if is_plain (folded dialect n) then codes "@" ++ name_bytes dialect n else codes "attribute::*" ++ name_bracket dialect n
