-- Escapes, after Selectors Level 3, section 10 (`escape` and `unicode`).
use Rattle.std.specs.Prelude.{ℕ, ◌+◌, ◌-◌, ◌*◌, ◌==◌, ◌&&◌, ◌||◌, not, min, Bool, List, [], ◌∷◌, length, fold, slice_index, slice_range, nat_le, nat_lt, if◌then◌else◌, encode_utf8}
use Rattle.std.specs.Char.{digit_value}
use Rattle.text_base.specs.Text.{run_end, is_space5}

abbrev pub is_hex : ℕ → Bool
is_hex c = (nat_le 48 c && nat_le c 57) || (nat_le 65 c && nat_le c 70) || (nat_le 97 c && nat_le c 102)

-- a line feed, a carriage return or a form feed
abbrev pub is_break : ℕ → Bool
is_break c = (c == 10) || (c == 13) || (c == 12)

-- how many hexadecimal digits the escape at i has: as many as there are, and six at most
abbrev pub hex_len : List ℕ → ℕ → ℕ
hex_len text i = min 6 (run_end is_hex text (i + 1) - (i + 1))

-- one white space, where CR LF counts as one
abbrev pub blank_len : List ℕ → ℕ → ℕ
blank_len text i = if (slice_index text i == 13) && (slice_index text (i + 1) == 10) then 2 else (if is_space5 (slice_index text i) then 1 else 0)

-- the number that the digits from i up to j spell
abbrev pub hex_value : List ℕ → ℕ → ℕ → ℕ
hex_value text i j = fold (λ n d. 16 * n + digit_value d) 0 (slice_range text i j)

-- the character of an escape's number: the replacement character for 0, for a surrogate and past the last character
abbrev pub char_of : ℕ → ℕ
char_of n = if (n == 0) || (nat_le 0xd800 n && nat_le n 0xdfff) || nat_lt 0x10ffff n then 0xfffd else n

-- a byte stands at i, and it may be escaped as itself
abbrev pub is_escapable : List ℕ → ℕ → Bool
is_escapable text i = nat_lt i (length text) && not (is_break (slice_index text i))

-- How many bytes the escape takes whose backslash stands at i, or 0 where it is none. Of an escaped character past ASCII
-- it is the backslash alone: the bytes after it stand for themselves there, as they do without it.
abbrev pub escape_len : List ℕ → ℕ → ℕ
escape_len text i =
    let b = slice_index text (i + 1) in
    if is_hex b then 1 + hex_len text i + blank_len text (i + 1 + hex_len text i)
    else (if nat_le 128 b then 1
    else (if is_escapable text (i + 1) then 2 else 0))

-- the bytes that these bytes of it stand for
abbrev pub escape_value : List ℕ → ℕ → List ℕ
escape_value text i =
    let b = slice_index text (i + 1) in
    if is_hex b then encode_utf8 (char_of (hex_value text (i + 1) (i + 1 + hex_len text i)))
    else (if nat_le 128 b then []
    else (if is_escapable text (i + 1) then b ∷ [] else []))
