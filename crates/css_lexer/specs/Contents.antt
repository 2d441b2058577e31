-- What stands in names and in strings, after Selectors Level 3, section 10 (`nmchar`, `string1` and `string2`).
use Rattle.std.specs.Prelude.{◌≡◌, ℕ, ◌+◌, ◌-◌, ◌==◌, ◌&&◌, ◌||◌, not, Bool, List, [], flat_map, slice_index, slice_range, nat_le, nat_lt, if◌then◌else◌}
use Rattle.text_base.specs.Text.{run_end, is_digit, is_letter}
use Rattle.css_lexer.specs.declared.contents.Content.{Content}
use Rattle.css_lexer.specs.declared.contents.Content.TheVariants.{Name, Double, Single}
use Rattle.css_lexer.specs.Escapes.{is_break, escape_len, escape_value}
use Rattle.css_lexer.specs.Steps.{Steps}

-- a byte that stands for itself: in a name a letter, a digit, `-`, `_` or a byte past ASCII, in a string all but its
-- quote, a newline and a backslash
abbrev pub is_plain : Content → ℕ → Bool
is_plain Name b = is_letter b || is_digit b || (b == 45) || (b == 95) || nat_le 128 b
is_plain Double b = not ((b == 34) || is_break b || (b == 92))
is_plain Single b = not ((b == 39) || is_break b || (b == 92))

-- how long the newline at i is, where CR LF is one
abbrev pub newline_len : List ℕ → ℕ → ℕ
newline_len text i = if (slice_index text i == 13) && (slice_index text (i + 1) == 10) then 2 else (if is_break (slice_index text i) then 1 else 0)

-- how long the newline at i is that a backslash before it takes away, which is so in strings
abbrev pub lost_len : Content → List ℕ → ℕ → ℕ
lost_len Name text i = 0
lost_len Double text i = newline_len text i
lost_len Single text i = newline_len text i

-- how many bytes a backslash at i takes with it, and what they stand for
abbrev pub slashed_len : Content → List ℕ → ℕ → ℕ
slashed_len content text i = if nat_lt 0 (lost_len content text (i + 1)) then 1 + lost_len content text (i + 1) else escape_len text i

abbrev pub slashed_value : Content → List ℕ → ℕ → List ℕ
slashed_value content text i = if nat_lt 0 (lost_len content text (i + 1)) then [] else escape_value text i

-- the run of bytes that stand for themselves, or the backslash and what it takes with it
abbrev pub unit_len : Content → List ℕ → ℕ → ℕ
unit_len content text i = if slice_index text i == 92 then slashed_len content text i else run_end (is_plain content) text i - i

abbrev pub unit_value : Content → List ℕ → ℕ → List ℕ
unit_value content text i = if slice_index text i == 92 then slashed_value content text i else slice_range text i (run_end (is_plain content) text i)

-- from i on the content goes as far as j, and its bytes with the escapes read are the value
pub record Reads (content : Content) (text : List ℕ) (i j : ℕ) (value : List ℕ) : Type 0 where
  pub places : List ℕ
  pub steps : Steps (unit_len content text) i places j
  pub spelled : flat_map (unit_value content text) places ≡ value
