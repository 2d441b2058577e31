-- The argument of the pseudo-classes of position, after Selectors Level 3, section 6.6.5.1.
use Rattle.std.specs.Prelude.{ℕ, ◌+◌, ◌==◌, ◌&&◌, ◌||◌, min, nat_lt, Bool, false, if◌then◌else◌, List, length, slice_index, slice_range, Option, Some, None}
use Rattle.text_base.specs.Text.{digits_value, is_digit, run_end}
use Rattle.css_selectors.specs.WellMade.{most_number}
use Rattle.css_parser.specs.declared.nth.Number.{Number}
use Rattle.css_parser.specs.declared.nth.Line.{Line}

abbrev pub is_blank : ℕ → Bool
is_blank b = b == 32

-- the first place from i on at which no space stands
unfoldable pub past_blanks : List ℕ → ℕ → ℕ
past_blanks s i = run_end is_blank s i

-- the first place from i on at which no digit stands
unfoldable pub past_digits : List ℕ → ℕ → ℕ
past_digits s i = run_end is_digit s i

-- from i on stand spaces alone
abbrev pub ends : List ℕ → ℕ → Bool
ends s i = past_blanks s i == length s

-- the number that the digits from i up to j spell, all beyond 1,000,000 taken as 1,000,001
unfoldable pub size : List ℕ → ℕ → ℕ → ℕ
size s i j = min (1 + most_number) (digits_value (slice_range s i j))

abbrev pub number : Bool → ℕ → Number
number minus n = record { minus = minus; size = n }

abbrev pub line : Number → Number → Line
line a b = record { a = a; b = b }

abbrev pub is_sign : ℕ → Bool
is_sign c = (c == 43) || (c == 45)

-- the letter at i, in lower case, is the lower-case letter c
abbrev pub is_letter_at : List ℕ → ℕ → ℕ → Bool
is_letter_at s i c = (slice_index s i == c) || (slice_index s i + 32 == c)

-- `odd` is 2n+1
abbrev pub is_odd : List ℕ → ℕ → Bool
is_odd s i = is_letter_at s i 111 && is_letter_at s (i + 1) 100 && is_letter_at s (i + 2) 100 && ends s (i + 3)

-- `even` is 2n
abbrev pub is_even : List ℕ → ℕ → Bool
is_even s i = is_letter_at s i 101 && is_letter_at s (i + 1) 118 && is_letter_at s (i + 2) 101 && is_letter_at s (i + 3) 110 && ends s (i + 4)

-- a number that ends the text, from its first digit at i on
abbrev pub last_number : Bool → List ℕ → ℕ → Option Number
last_number minus s i =
    let j = past_digits s i in
    if nat_lt i j && ends s j then Some (number minus (size s i j)) else None

-- what stands behind the `n`: nothing, or optional spaces, a sign, optional spaces and digits
abbrev pub behind_n : List ℕ → ℕ → Option Number
behind_n s i =
    let k = past_blanks s i in
    if k == length s then Some (number false 0)
    else (if is_sign (slice_index s k) then last_number (slice_index s k == 45) s (past_blanks s (k + 1)) else None)

abbrev pub with_b : Number → Option Number → Option Line
with_b a None = None
with_b a (Some b) = Some (line a b)

-- the number before the `n`, which is 1 where no digits stand there
abbrev pub factor : Bool → List ℕ → ℕ → ℕ → Number
factor minus s i j = if i == j then number minus 1 else number minus (size s i j)

-- an optional sign stood before i: digits alone, or optional digits, an `n` and what stands behind it
abbrev pub behind_sign : Bool → List ℕ → ℕ → Option Line
behind_sign minus s i =
    let j = past_digits s i in
    if is_letter_at s j 110 then with_b (factor minus s i j) (behind_n s (j + 1))
    else with_b (number false 0) (last_number minus s i)

abbrev pub linear : List ℕ → ℕ → Option Line
linear s i = if is_sign (slice_index s i) then behind_sign (slice_index s i == 45) s (i + 1) else behind_sign false s i

-- The a and b of `an+b`, in any ASCII letter case and with spaces before and behind: `odd`, `even`, or an optional sign with
-- what belongs to it. Before the first digits no space stands behind the sign. A number alone is b, and a is 0.
abbrev pub nth : List ℕ → Option Line
nth s =
    let i = past_blanks s 0 in
    if is_odd s i then Some (line (number false 2) (number false 1))
    else (if is_even s i then Some (line (number false 2) (number false 0))
    else linear s i)
