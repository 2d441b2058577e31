-- A plain way to write tokens, of which each text that it gives is read as these tokens: each character of a name or of a string
-- stands as an escape, and an empty comment after each token.
use Rattle.std.specs.Prelude.{◌≡◌, ◌≢◌, ℕ, ◌+◌, ◌/◌, ◌%◌, ◌==◌, ◌≤◌, true, if◌then◌else◌, List, [], ◌∷◌, ◌++◌, All, flat_map, length}
use Rattle.std.specs.Char.{digit_char}
use Rattle.std.specs.List.{list_all}
use lib.Utf8.{scalars}
use Rattle.text_base.specs.Text.{is_digit}
use Rattle.css_lexer.specs.declared.tokens.CssKind.{CssKind}
use Rattle.css_lexer.specs.declared.tokens.CssKind.TheVariants as kind
use Rattle.css_lexer.specs.declared.tokens.CssToken.{CssToken}
use Rattle.css_lexer.specs.Tokens.{token, Lexes, most_selector}

-- A token that is to be written: an Ident, a Function, a Hash or a Quoted of these characters, Digits that are these bytes, the
-- Ident `n` as it stands, one white space, or a token of one or two characters.
pub data Sign : Type 0 where
  Name : List ℕ → Sign
  Call : List ℕ → Sign
  Hash : List ℕ → Sign
  Quoted : List ℕ → Sign
  Number : List ℕ → Sign
  LetterN : Sign
  Blank : Sign
  Mark : CssKind → Sign

-- six hexadecimal digits
abbrev pub six_digits : ℕ → List ℕ
six_digits c =
    digit_char (c / 1048576 % 16) ∷ digit_char (c / 65536 % 16) ∷ digit_char (c / 4096 % 16)
    ∷ digit_char (c / 256 % 16) ∷ digit_char (c / 16 % 16) ∷ digit_char (c % 16) ∷ []

-- A character as an escape: its number and a space, or itself where it is 0, which no number gives.
abbrev pub escaped : ℕ → List ℕ
escaped c = if c == 0 then 92 ∷ 0 ∷ [] else 92 ∷ (six_digits c ++ 32 ∷ [])

abbrev pub escapes : List ℕ → List ℕ
escapes x = flat_map escaped x

-- the characters of a token of one or two, and nothing for any other
abbrev pub mark : CssKind → List ℕ
mark kind.WordMatch = 126 ∷ 61 ∷ []
mark kind.DashMatch = 124 ∷ 61 ∷ []
mark kind.PrefixMatch = 94 ∷ 61 ∷ []
mark kind.SuffixMatch = 36 ∷ 61 ∷ []
mark kind.PartMatch = 42 ∷ 61 ∷ []
mark kind.DoubleColon = 58 ∷ 58 ∷ []
mark kind.Star = 42 ∷ []
mark kind.Dot = 46 ∷ []
mark kind.Colon = 58 ∷ []
mark kind.OpenSquare = 91 ∷ []
mark kind.CloseSquare = 93 ∷ []
mark kind.CloseRound = 41 ∷ []
mark kind.Comma = 44 ∷ []
mark kind.Plus = 43 ∷ []
mark kind.Greater = 62 ∷ []
mark kind.Tilde = 126 ∷ []
mark kind.Bar = 124 ∷ []
mark kind.Equal = 61 ∷ []
mark kind.Minus = 45 ∷ []
mark _ = []

abbrev pub bytes_of : Sign → List ℕ
bytes_of (Name x) = escapes x
bytes_of (Call x) = escapes x ++ 40 ∷ []
bytes_of (Hash x) = 35 ∷ escapes x
bytes_of (Quoted x) = 34 ∷ (escapes x ++ 34 ∷ [])
bytes_of (Number x) = x
bytes_of LetterN = 110 ∷ []
bytes_of Blank = 32 ∷ []
bytes_of (Mark k) = mark k

abbrev pub kind_of : Sign → CssKind
kind_of (Name x) = kind.Ident
kind_of (Call x) = kind.Function
kind_of (Hash x) = kind.Hash
kind_of (Quoted x) = kind.Quoted
kind_of (Number x) = kind.Digits
kind_of LetterN = kind.Ident
kind_of Blank = kind.Space
kind_of (Mark k) = k

abbrev pub value_of : Sign → List ℕ
value_of (Name x) = x
value_of (Call x) = x
value_of (Hash x) = x
value_of (Quoted x) = x
value_of (Number x) = []
value_of LetterN = 110 ∷ []
value_of Blank = []
value_of (Mark k) = []

-- A name is not empty, and neither are digits.
abbrev pub IsSign : Sign → Type 0
IsSign (Name x) = (x ≢ []) × (scalars x ≡ true)
IsSign (Call x) = (x ≢ []) × (scalars x ≡ true)
IsSign (Hash x) = (x ≢ []) × (scalars x ≡ true)
IsSign (Quoted x) = scalars x ≡ true
IsSign (Number x) = (x ≢ []) × (list_all is_digit x ≡ true)
IsSign LetterN = Unit {0}
IsSign Blank = Unit {0}
IsSign (Mark k) = mark k ≢ []

-- `/**/`
abbrev pub empty_comment : List ℕ
empty_comment = 47 ∷ 42 ∷ 42 ∷ 47 ∷ []

abbrev pub spelled : List Sign → List ℕ
spelled [] = []
spelled (s ∷ ss) = bytes_of s ++ (empty_comment ++ spelled ss)

-- the tokens that stand there, the first at i
abbrev pub placed : ℕ → List Sign → List CssToken
placed i [] = []
placed i (s ∷ ss) = token (kind_of s) i (i + length (bytes_of s)) (value_of s) ∷ placed (i + length (bytes_of s) + 4) ss

-- what is written so is read so
abbrev pub IsReadBack : Type 0
IsReadBack = (ss : List Sign) → All IsSign ss → length (spelled ss) ≤ most_selector → Lexes (spelled ss) (placed 0 ss)
