-- The name of a field: what stands before the first colon of its piece, without the blanks at its ends.
use Rattle.std.specs.Prelude.{ℕ, ◌==◌, ◌&&◌, ◌||◌, nat_le, Bool, false, List, [], ◌∷◌, if◌then◌else◌}
use Rattle.std.specs.List.{list_all, list_any, before_first, after_first}
use Rattle.std.specs.Str.{chars}
use Rattle.text_base.specs.Text.{is_letter}
use Rattle.query_script.specs.Cuts.{trimmed}

abbrev pub is_name_start : ℕ → Bool
is_name_start c = is_letter c || (c == 95)

abbrev pub is_name_byte : ℕ → Bool
is_name_byte c = is_name_start c || (nat_le 48 c && nat_le c 57)

-- an ASCII letter or `_`, then letters, digits and `_`
abbrev pub is_name : List ℕ → Bool
is_name [] = false
is_name (c ∷ rest) = is_name_start c && list_all is_name_byte rest

abbrev pub is_test_byte : ℕ → Bool
is_test_byte c = is_name_byte c || (c == 45)

-- the name of a test as a step writes it: an ASCII letter or `_`, then letters, digits, `_` and `-`
abbrev pub is_test_name : List ℕ → Bool
is_test_name [] = false
is_test_name (c ∷ rest) = is_name_start c && list_all is_test_byte rest

abbrev pub is_colon : ℕ → Bool
is_colon c = c == 58

-- what stands before the first colon, without blanks at its ends
abbrev pub label : List ℕ → List ℕ
label piece = trimmed (before_first is_colon piece)

-- what stands after the first colon
abbrev pub after_colon : List ℕ → List ℕ
after_colon piece = after_first is_colon piece

-- there is a colon, and a name before it
abbrev pub is_named : List ℕ → Bool
is_named piece = list_any is_colon piece && is_name (label piece)

-- the name as characters, and the empty text where there is none
abbrev pub name_of : List ℕ → List ℕ
name_of piece = if is_named piece then chars (label piece) else []
