-- How many bytes the token at the front of a text has, and of which kind it is. This is the order of the code's work, and serves
-- its contracts: that it is the token of Tokens is proved.
use Rattle.std.specs.Prelude.{ℕ, ◌+◌, Bool, ◌&&◌, ◌||◌, ◌==◌, nat_lt, if◌then◌else◌, drop, length, slice_index, Option, Some, None}
use Rattle.text_base.specs.Names.{is_name_start, is_name_byte}
use Rattle.text_base.specs.Text.{run_end, is_digit, is_not_byte, is_space4}
use Rattle.xpath_lexer.specs.declared.token.XKind.{XKind}
use Rattle.xpath_lexer.specs.declared.token.XKind.TheVariants as k
use Rattle.xpath_lexer.specs.declared.sizes.Run.{Run}
use Rattle.xpath_lexer.specs.declared.sizes.Run.TheVariants as run
use Rattle.xpath_lexer.specs.Tokens.{Text}

abbrev pub has : Run → ℕ → Bool
has run.Name b = is_name_byte b
has run.Digits b = is_digit b
has run.Space b = is_space4 b
has (run.Until q) b = is_not_byte q b

-- a kind, and a number of bytes
abbrev pub Size : Type 0
Size = XKind × ℕ

abbrev pub after : ℕ → Size → Size
after n s = (s.0, n + s.1)

-- what goes on after a name: `:` and a name, or nothing
abbrev pub prefix_size : XKind → XKind → Text → Size
prefix_size kind joined t = if (slice_index t 0 == 58) && is_name_start (slice_index t 1) then (joined, run_end is_name_byte t 1) else (kind, 0)

abbrev pub star_size : Text → Size
star_size t = if (slice_index t 0 == 58) && (slice_index t 1 == 42) then (k.Prefixed, 2) else prefix_size k.Name k.Prefixed t

abbrev pub name_size : Text → Size
name_size t = let n = run_end is_name_byte t 1 in after n (star_size (drop n t))

abbrev pub fraction_size : Text → ℕ
fraction_size t = if slice_index t 0 == 46 then run_end is_digit t 1 else 0

abbrev pub number_size : Text → Size
number_size t = let n = run_end is_digit t 1 in (k.Number, n + fraction_size (drop n t))

abbrev pub literal_size : ℕ → Text → Option Size
literal_size q t = let n = run_end (is_not_byte q) t 1 in if nat_lt n (length t) then Some (k.Literal, n + 1) else None

abbrev pub variable_size : Text → Option Size
variable_size t =
    if is_name_start (slice_index t 1) then (let n = run_end is_name_byte t 2 in Some (after n (prefix_size k.Variable k.Variable (drop n t)))) else None

abbrev pub pair_size : XKind → XKind → ℕ → Text → Size
pair_size one both c t = if slice_index t 1 == c then (both, 2) else (one, 1)

abbrev pub only_pair_size : XKind → ℕ → Text → Option Size
only_pair_size both c t = if slice_index t 1 == c then Some (both, 2) else None

abbrev pub point_size : Text → Size
point_size t =
    if slice_index t 1 == 46 then (k.DotDot, 2) else
    if is_digit (slice_index t 1) then (k.Number, run_end is_digit t 1) else (k.Dot, 1)

-- a token of one byte or two, by its first byte
abbrev pub mark_size : ℕ → Text → Option Size
mark_size b t =
    if b == 40 then Some (k.OpenRound, 1) else
    if b == 41 then Some (k.CloseRound, 1) else
    if b == 91 then Some (k.OpenSquare, 1) else
    if b == 93 then Some (k.CloseSquare, 1) else
    if b == 46 then Some (point_size t) else
    if b == 64 then Some (k.At, 1) else
    if b == 44 then Some (k.Comma, 1) else
    if b == 58 then only_pair_size k.DoubleColon 58 t else
    if b == 36 then variable_size t else
    if b == 47 then Some (pair_size k.Slash k.DoubleSlash 47 t) else
    if b == 124 then Some (k.Bar, 1) else
    if b == 43 then Some (k.Plus, 1) else
    if b == 45 then Some (k.Minus, 1) else
    if b == 61 then Some (k.Equal, 1) else
    if b == 33 then only_pair_size k.Unequal 61 t else
    if b == 60 then Some (pair_size k.Less k.LessEqual 61 t) else
    if b == 62 then Some (pair_size k.Greater k.GreaterEqual 61 t) else
    if b == 42 then Some (k.Star, 1) else None

abbrev pub size_by : ℕ → Text → Option Size
size_by b t =
    if is_name_start b then Some (name_size t) else
    if is_digit b then Some (number_size t) else
    if (b == 34) || (b == 39) then literal_size b t else mark_size b t

unfoldable pub token_size : Text → Option Size
token_size t = size_by (slice_index t 0) t
