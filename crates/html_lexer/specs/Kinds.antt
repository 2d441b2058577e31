-- The kinds of bytes that tags are made of.
use Rattle.std.specs.Prelude.{ℕ, ◌==◌, ◌&&◌, ◌||◌, not, nat_le, Bool, ◌⊎◌}
use Rattle.std.proofs.Common.{arith, inl, inr}
use Rattle.std.proofs.lemmas.Bool.Decides.{nat_tests}
use Rattle.text_base.specs.Text.{is_letter, is_space5, IsWide, IsNarrow}

-- a byte of a tag's name: a letter, a digit, `-`, `_`, `:`, `.` or a byte of a character past ASCII
abbrev pub is_name_byte : ℕ → Bool
is_name_byte c = is_letter c || (nat_le 48 c && nat_le c 57) || (c == 45) || (c == 95) || (c == 58) || (c == 46) || nat_le 128 c

-- what is skipped between attributes: white space and slashes
abbrev pub is_gap : ℕ → Bool
is_gap c = is_space5 c || (c == 47)

-- a byte of an attribute's name: any but white space, `/`, `>`, `=`, `"`, `'` and `<`
abbrev pub is_attr_byte : ℕ → Bool
is_attr_byte c = not (is_space5 c || (c == 47) || (c == 62) || (c == 61) || (c == 34) || (c == 39) || (c == 60))

-- a byte of a value without quotes: any but white space and `>`
abbrev pub is_bare_byte : ℕ → Bool
is_bare_byte c = not (is_space5 c || (c == 62))

pub name_wide : IsWide is_name_byte ⊎ IsNarrow is_name_byte
name_wide = inl (λ b past. grind (arith, nat_tests))

pub gap_narrow : IsWide is_gap ⊎ IsNarrow is_gap
gap_narrow = inr (λ b past. grind (arith, nat_tests))

pub attr_wide : IsWide is_attr_byte ⊎ IsNarrow is_attr_byte
attr_wide = inl (λ b past. grind (arith, nat_tests))

pub bare_wide : IsWide is_bare_byte ⊎ IsNarrow is_bare_byte
bare_wide = inl (λ b past. grind (arith, nat_tests))
