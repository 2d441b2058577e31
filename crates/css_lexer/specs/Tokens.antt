-- The tokens of a selector, after Selectors Level 3, section 10.
use Rattle.std.specs.Prelude.{◌≡◌, ℕ, ◌+◌, ◌<◌, ◌≤◌, ◌==◌, ◌&&◌, ◌||◌, Bool, List, [], ◌∷◌, length, slice_index, nat_le, nat_lt, if◌then◌else◌, Option, Some, None, Result, Ok, Err}
use Rattle.std.specs.Str.{chars}
use Rattle.text_base.specs.Text.{run_end, is_digit, is_letter, is_space5, IsPlace}
use Rattle.text_base.specs.declared.reasons.SelectorFault.{SelectorFault}
use Rattle.text_base.specs.declared.reasons.SelectorFault.TheVariants as fault
use Rattle.css_lexer.specs.declared.tokens.CssKind.{CssKind}
use Rattle.css_lexer.specs.declared.tokens.CssKind.TheVariants as kind
use Rattle.css_lexer.specs.declared.tokens.CssToken.{CssToken}
use Rattle.css_lexer.specs.declared.rules.Rule.{Rule}
use Rattle.css_lexer.specs.declared.rules.Rule.TheVariants as rule
use Rattle.css_lexer.specs.declared.contents.Content.{Content}
use Rattle.css_lexer.specs.declared.contents.Content.TheVariants as content
use Rattle.css_lexer.specs.Escapes.{escape_len}
use Rattle.css_lexer.specs.Contents.{Reads}
use Rattle.css_lexer.specs.Comments.{Comments}

abbrev pub token : CssKind → ℕ → ℕ → List ℕ → CssToken
token kind from to value = record { kind = kind; from = from; to = to; value = value }

-- a name start stands at i: a letter, `_`, a character past ASCII or an escape
abbrev pub starts_name : List ℕ → ℕ → Bool
starts_name text i =
    let b = slice_index text i in
    if b == 92 then nat_lt 0 (escape_len text i) else is_letter b || (b == 95) || nat_le 128 b

-- an ident stands at i: `-` or nothing, and then a name start
abbrev pub starts_ident : List ℕ → ℕ → Bool
starts_ident text i = if slice_index text i == 45 then starts_name text (i + 1) else starts_name text i

-- the first rule that may fit at i
abbrev pub rule_at : List ℕ → ℕ → Rule
rule_at text i =
    let b = slice_index text i in
    if is_space5 b then rule.Space
    else (if starts_ident text i then rule.Name
    else (if b == 35 then rule.Hash
    else (if b == 34 then rule.Double
    else (if b == 39 then rule.Single
    else (if is_digit b then rule.Digits
    else rule.Symbol)))))

-- the kind of a token of these two characters
abbrev pub kind_of_two : ℕ → ℕ → Option CssKind
kind_of_two b c =
    if (b == 126) && (c == 61) then Some kind.WordMatch
    else (if (b == 124) && (c == 61) then Some kind.DashMatch
    else (if (b == 94) && (c == 61) then Some kind.PrefixMatch
    else (if (b == 36) && (c == 61) then Some kind.SuffixMatch
    else (if (b == 42) && (c == 61) then Some kind.PartMatch
    else (if (b == 58) && (c == 58) then Some kind.DoubleColon
    else None)))))

-- the kind of a token of this one character
abbrev pub kind_of_one : ℕ → Option CssKind
kind_of_one b =
    if b == 42 then Some kind.Star
    else (if b == 46 then Some kind.Dot
    else (if b == 58 then Some kind.Colon
    else (if b == 91 then Some kind.OpenSquare
    else (if b == 93 then Some kind.CloseSquare
    else (if b == 41 then Some kind.CloseRound
    else (if b == 44 then Some kind.Comma
    else (if b == 43 then Some kind.Plus
    else (if b == 62 then Some kind.Greater
    else (if b == 126 then Some kind.Tilde
    else (if b == 124 then Some kind.Bar
    else (if b == 61 then Some kind.Equal
    else (if b == 45 then Some kind.Minus
    else None))))))))))))

abbrev pub short_token : ℕ → Option CssKind → Option CssKind → Option CssToken
short_token i (Some two) one = Some (token two i (i + 2) [])
short_token i None (Some one) = Some (token one i (i + 1) [])
short_token i None None = None

-- the token of one or two characters at i, two before one
abbrev pub symbol_at : List ℕ → ℕ → Option CssToken
symbol_at text i = short_token i (kind_of_two (slice_index text i) (slice_index text (i + 1))) (kind_of_one (slice_index text i))

-- a Function, where `(` stands after the name, or an Ident
abbrev pub name_token : List ℕ → ℕ → ℕ → List ℕ → CssToken
name_token text i j value = if slice_index text j == 40 then token kind.Function i (j + 1) (chars value) else token kind.Ident i j (chars value)

-- a string whose quote stands after its content, or none
abbrev pub quoted_token : List ℕ → ℕ → ℕ → ℕ → List ℕ → Option CssToken
quoted_token text quote i j value = if slice_index text j == quote then Some (token kind.Quoted i (j + 1) (chars value)) else None

-- `#` and a name that is not empty, or none
abbrev pub hash_token : ℕ → ℕ → List ℕ → Option CssToken
hash_token i j value = if j == i + 1 then None else Some (token kind.Hash i j (chars value))

abbrev pub NameAt : List ℕ → ℕ → CssToken → Type 0
NameAt text i read = (j : ℕ) × (value : List ℕ) × Reads content.Name text i j value × (read ≡ name_token text i j value)

abbrev pub HashAt : List ℕ → ℕ → Option CssToken → Type 0
HashAt text i read = (j : ℕ) × (value : List ℕ) × Reads content.Name text (i + 1) j value × (read ≡ hash_token i j value)

abbrev pub QuotedAt : Content → ℕ → List ℕ → ℕ → Option CssToken → Type 0
QuotedAt content quote text i read = (j : ℕ) × (value : List ℕ) × Reads content text (i + 1) j value × (read ≡ quoted_token text quote i j value)

-- what the rule reads at i: a token, as long as the rule allows, or none
abbrev pub ReadsBy : Rule → List ℕ → ℕ → Option CssToken → Type 0
ReadsBy rule.Space text i read = read ≡ Some (token kind.Space i (run_end is_space5 text i) [])
ReadsBy rule.Name text i read = (t : CssToken) × NameAt text i t × (read ≡ Some t)
ReadsBy rule.Hash text i read = HashAt text i read
ReadsBy rule.Double text i read = QuotedAt content.Double 34 text i read
ReadsBy rule.Single text i read = QuotedAt content.Single 39 text i read
ReadsBy rule.Digits text i read = read ≡ Some (token kind.Digits i (run_end is_digit text i) [])
ReadsBy rule.Symbol text i read = read ≡ symbol_at text i

-- the token that begins at i, or none
abbrev pub TokenAt : List ℕ → ℕ → Option CssToken → Type 0
TokenAt text i read = ReadsBy (rule_at text i) text i read

-- from i up to j stand these tokens, with comments before, between and after them
abbrev pub Spell : List ℕ → ℕ → List CssToken → ℕ → Type 0
Spell text i [] j = Comments text i j
Spell text i (t ∷ tokens) j = Comments text i t.from × TokenAt text t.from (Some t) × Spell text t.to tokens j

-- The token has bytes, and the text may be cut where it begins and where it ends.
pub record SitsIn (text : List ℕ) (t : CssToken) : Type 0 where
  pub order : t.from < t.to
  pub starts : IsPlace text t.from
  pub ends : IsPlace text t.to

-- the most bytes that a selector may have
abbrev pub most_selector : ℕ
most_selector = 16384

-- the tokens spell the text
pub record Lexes (text : List ℕ) (tokens : List CssToken) : Type 0 where
  pub fits : length text ≤ most_selector
  pub spelled : Spell text 0 tokens (length text)

-- after some tokens no token begins
pub record Stops (text : List ℕ) : Type 0 where
  pub fits : length text ≤ most_selector
  pub before : List CssToken
  pub place : ℕ
  pub spelled : Spell text 0 before place
  pub inside : place < length text
  pub none : TokenAt text place None

-- the tokens of the text, or why it has none
abbrev pub IsLexed : List ℕ → Result (List CssToken) SelectorFault → Type 0
IsLexed text (Ok tokens) = Lexes text tokens
IsLexed text (Err fault.Long) = most_selector < length text
IsLexed text (Err fault.Text) = Stops text
IsLexed text (Err fault.Memory) = length text ≤ most_selector
IsLexed text (Err _) = ⊥
