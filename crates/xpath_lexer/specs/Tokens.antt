-- The tokens of XPath 1.0, section 3.7, on the bytes of a text.
use Rattle.std.specs.Prelude.{◌≡◌, ℕ, Bool, true, ◌&&◌, ◌||◌, ◌==◌, if◌then◌else◌, List, [], ◌∷◌, ◌++◌, Option, Some, None}
use Rattle.text_base.specs.Names.{is_name_start, is_name_byte}
use Rattle.text_base.specs.Text.{is_digit, is_space4}
use Rattle.xpath_lexer.specs.declared.token.XKind.{XKind}
use Rattle.xpath_lexer.specs.declared.token.XKind.TheVariants as k

abbrev pub Text : Type 0
Text = List ℕ

-- A token without its place: what it is, and its bytes. Those of a literal stand without its quotes.
pub record Lexeme : Type 0 where
  pub kind : XKind
  pub text : Text

abbrev pub lexeme : XKind → Text → Lexeme
lexeme kind text = record { kind = kind; text = text }

-- the longest front whose bytes all pass, and what is left
abbrev pub span : (ℕ → Bool) → Text → Text × Text
span p [] = ([], [])
span p (b ∷ bs) = if p b then (let s = span p bs in (b ∷ s.0, s.1)) else ([], b ∷ bs)

-- what begins a token, and what is left of the text after it
abbrev pub Begun : Type 0
Begun = Option (Lexeme × Text)

abbrev pub ends_with : XKind → Text → Text → Begun
ends_with kind text left = Some (lexeme kind text, left)

-- `:` and a name after a name of that kind, or the name alone: `::` is a token of its own
abbrev pub with_prefix : XKind → XKind → Text → Text → Begun
with_prefix kind joined n [] = ends_with kind n []
with_prefix kind joined n (b ∷ []) = ends_with kind n (b ∷ [])
with_prefix kind joined n (b ∷ c ∷ bs) =
    if (b == 58) && is_name_start c then (let s = span is_name_byte (c ∷ bs) in ends_with joined (n ++ (b ∷ s.0)) s.1)
    else ends_with kind n (b ∷ c ∷ bs)

-- `:*` after a name
abbrev pub with_star : Text → Text → Begun
with_star n (b ∷ c ∷ bs) = if (b == 58) && (c == 42) then ends_with k.Prefixed (n ++ (b ∷ c ∷ [])) bs else with_prefix k.Name k.Prefixed n (b ∷ c ∷ bs)
with_star n bs = with_prefix k.Name k.Prefixed n bs

-- the name that begins with b
abbrev pub named : ℕ → Text → Begun
named b bs = let s = span is_name_byte bs in with_star (b ∷ s.0) s.1

-- the variable after its `$`
abbrev pub variable : Text → Begun
variable [] = None
variable (b ∷ bs) =
    if is_name_start b then (let s = span is_name_byte bs in with_prefix k.Variable k.Variable (36 ∷ b ∷ s.0) s.1) else None

-- the digits of a number go on with a point and further digits, or not
abbrev pub with_fraction : Text → Text → Begun
with_fraction n [] = ends_with k.Number n []
with_fraction n (b ∷ bs) =
    if b == 46 then (let s = span is_digit bs in ends_with k.Number (n ++ (46 ∷ s.0)) s.1) else ends_with k.Number n (b ∷ bs)

abbrev pub number : ℕ → Text → Begun
number b bs = let s = span is_digit bs in with_fraction (b ∷ s.0) s.1

-- the bytes up to the quote, and what is left after it
abbrev pub before_quote : ℕ → Text → Option (Text × Text)
before_quote q [] = None
before_quote q (b ∷ bs) = if b == q then Some ([], bs) else one_more b (before_quote q bs)
  where
    one_more : ℕ → Option (Text × Text) → Option (Text × Text)
    one_more b None = None
    one_more b (Some p) = Some (b ∷ p.0, p.1)

abbrev pub literal : Option (Text × Text) → Begun
literal None = None
literal (Some p) = ends_with k.Literal p.0 p.1

-- the token of both bytes where the second follows, or the one of the first alone
abbrev pub pair : XKind → ℕ → XKind → ℕ → Text → Begun
pair one b both c [] = ends_with one (b ∷ []) []
pair one b both c (d ∷ ds) = if d == c then ends_with both (b ∷ c ∷ []) ds else ends_with one (b ∷ []) (d ∷ ds)

-- the token of both bytes, which the second must follow
abbrev pub only_pair : ℕ → XKind → ℕ → Text → Begun
only_pair b both c [] = None
only_pair b both c (d ∷ ds) = if d == c then ends_with both (b ∷ c ∷ []) ds else None

-- `.`, `..`, or a number that begins with its point
abbrev pub point : Text → Begun
point [] = ends_with k.Dot (46 ∷ []) []
point (b ∷ bs) =
    if b == 46 then ends_with k.DotDot (46 ∷ 46 ∷ []) bs else
    if is_digit b then (let s = span is_digit (b ∷ bs) in ends_with k.Number (46 ∷ s.0) s.1) else ends_with k.Dot (46 ∷ []) (b ∷ bs)

-- The longest token at the front of a text, by its first byte. White space, and every byte that is not named here, begins none.
abbrev pub token : Text → Begun
token [] = None
token (b ∷ bs) =
    if is_name_start b then named b bs else
    if is_digit b then number b bs else
    if (b == 34) || (b == 39) then literal (before_quote b bs) else
    if b == 40 then ends_with k.OpenRound (b ∷ []) bs else
    if b == 41 then ends_with k.CloseRound (b ∷ []) bs else
    if b == 91 then ends_with k.OpenSquare (b ∷ []) bs else
    if b == 93 then ends_with k.CloseSquare (b ∷ []) bs else
    if b == 46 then point bs else
    if b == 64 then ends_with k.At (b ∷ []) bs else
    if b == 44 then ends_with k.Comma (b ∷ []) bs else
    if b == 58 then only_pair 58 k.DoubleColon 58 bs else
    if b == 36 then variable bs else
    if b == 47 then pair k.Slash 47 k.DoubleSlash 47 bs else
    if b == 124 then ends_with k.Bar (b ∷ []) bs else
    if b == 43 then ends_with k.Plus (b ∷ []) bs else
    if b == 45 then ends_with k.Minus (b ∷ []) bs else
    if b == 61 then ends_with k.Equal (b ∷ []) bs else
    if b == 33 then only_pair 33 k.Unequal 61 bs else
    if b == 60 then pair k.Less 60 k.LessEqual 61 bs else
    if b == 62 then pair k.Greater 62 k.GreaterEqual 61 bs else
    if b == 42 then ends_with k.Star (b ∷ []) bs else None

-- The tokens spell the text: white space, then the longest token, and so on to the end.
pub data Spells : Text → List Lexeme → Type 0 where
  ends : Spells [] []
  space : {b : ℕ} {bs : Text} {ws : List Lexeme} → is_space4 b ≡ true → Spells bs ws → Spells (b ∷ bs) ws
  next : {bs left : Text} {w : Lexeme} {ws : List Lexeme} → token bs ≡ Some (w, left) → Spells left ws → Spells bs (w ∷ ws)
