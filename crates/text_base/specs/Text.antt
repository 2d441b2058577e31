-- Words on the bytes of a text.
use Rattle.std.specs.Str.{bytes_eq}
use Rattle.std.specs.Prelude.{◌≡◌, true, false, take, cond, ℕ, ◌+◌, ◌-◌, ◌*◌, ◌<◌, ◌≤◌, Bool, not, List, [], ◌∷◌, length, drop, slice_index, ◌==◌, ◌||◌, ◌&&◌, nat_le}
use Rattle.std.specs.Char.{is_ascii_digit}
use Rattle.std.specs.List.{prefix_len, fold}

-- a space, a tab, a line feed, a carriage return or a form feed
abbrev pub is_space5 : ℕ → Bool
is_space5 c = (c == 32) || (c == 9) || (c == 10) || (c == 13) || (c == 12)

-- a space, a tab, a carriage return or a line feed
abbrev pub is_space4 : ℕ → Bool
is_space4 c = (c == 32) || (c == 9) || (c == 10) || (c == 13)

abbrev pub is_letter : ℕ → Bool
is_letter c = (nat_le 65 c && nat_le c 90) || (nat_le 97 c && nat_le c 122)

-- `0` to `9`
abbrev pub is_digit : ℕ → Bool
is_digit c = is_ascii_digit c

-- the number that ASCII digits write in base 10
abbrev pub digits_value : List ℕ → ℕ
digits_value ds = fold (λ n d. n * 10 + (d - 48)) 0 ds

-- all but Space4
abbrev pub not_space4 : ℕ → Bool
not_space4 c = not (is_space4 c)

-- all bytes past ASCII pass, or none does
abbrev pub IsWide : (ℕ → Bool) → Type 0
IsWide p = (b : ℕ) → 128 ≤ b → p b ≡ true

abbrev pub IsNarrow : (ℕ → Bool) → Type 0
IsNarrow p = (b : ℕ) → 128 ≤ b → p b ≡ false

-- the test that a byte is not a
abbrev pub is_not_byte : ℕ → ℕ → Bool
is_not_byte a x = not (x == a)

-- where the run of bytes that pass the test ends, which begins at i
abbrev pub run_end : (ℕ → Bool) → List ℕ → ℕ → ℕ
run_end p text i = i + prefix_len p (drop i text)

-- how many places stand before the first rest of the list that passes the test
abbrev pub first_place : (List ℕ → Bool) → List ℕ → ℕ
first_place p [] = 0
first_place p (b ∷ bs) = cond (p (b ∷ bs)) 0 (1 + first_place p bs)

-- the first place from i on at which the rest of the text passes the test, or the text's length
abbrev pub find_where : (List ℕ → Bool) → List ℕ → ℕ → ℕ
find_where p text i = i + first_place p (drop i text)

-- the test that a list begins with these bytes
abbrev pub begins_with : List ℕ → List ℕ → Bool
begins_with needle s = bytes_eq (take (length needle) s) needle

-- A character begins at i, or the text ends there, so that the text may be cut at i. It is a record, so that no
-- tactic opens it.
pub record IsPlace (text : List ℕ) (i : ℕ) : Type 0 where
  pub within : i ≤ length text
  pub starts : i < length text → 128 ≤ slice_index text i → 192 ≤ slice_index text i
