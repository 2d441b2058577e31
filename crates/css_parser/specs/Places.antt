-- What stands at a place of a list of tokens.
use Rattle.std.specs.Prelude.{ℕ, ◌+◌, ◌==◌, ◌||◌, Bool, List, [], drop, slice_get, Option, Some, None, encode_utf8_all}
use Rattle.std.specs.List.{prefix_len}
use Rattle.std.specs.Str.{str_eq_ignore_ascii_case}
use Rattle.css_lexer.specs.declared.tokens.CssKind.{CssKind}
use Rattle.css_lexer.specs.declared.tokens.CssKind.TheVariants as kind
use Rattle.css_lexer.specs.declared.tokens.CssToken.{CssToken}

-- a number for each kind, so that kinds are compared as numbers
abbrev pub code : CssKind → ℕ
code kind.Space = 1
code kind.Function = 2
code kind.Ident = 3
code kind.Hash = 4
code kind.Quoted = 5
code kind.Digits = 6
code kind.WordMatch = 7
code kind.DashMatch = 8
code kind.PrefixMatch = 9
code kind.SuffixMatch = 10
code kind.PartMatch = 11
code kind.DoubleColon = 12
code kind.Star = 13
code kind.Dot = 14
code kind.Colon = 15
code kind.OpenSquare = 16
code kind.CloseSquare = 17
code kind.CloseRound = 18
code kind.Comma = 19
code kind.Plus = 20
code kind.Greater = 21
code kind.Tilde = 22
code kind.Bar = 23
code kind.Equal = 24
code kind.Minus = 25

abbrev pub code_in : Option CssToken → ℕ
code_in None = 0
code_in (Some t) = code t.kind

-- the number of the kind of the token at i, or 0 behind the last token
unfoldable pub code_at : List CssToken → ℕ → ℕ
code_at ts i = code_in (slice_get ts i)

-- a token of the kind stands at i
abbrev pub stands : CssKind → List CssToken → ℕ → Bool
stands k ts i = code_at ts i == code k

abbrev pub value_in : Option CssToken → List ℕ
value_in None = []
value_in (Some t) = t.value

unfoldable pub value_at : List CssToken → ℕ → List ℕ
value_at ts i = value_in (slice_get ts i)

abbrev pub is_space : CssToken → Bool
is_space t = code t.kind == 1

-- S: the first place from i on at which no Space stands. No part of the grammar begins with a Space but the combinator of
-- white space, so an S takes all that stand there.
unfoldable pub skip : List CssToken → ℕ → ℕ
skip ts i = i + prefix_len is_space (drop i ts)

-- an Ident or `*` stands at i
abbrev pub is_name : List CssToken → ℕ → Bool
is_name ts i = stands kind.Ident ts i || stands kind.Star ts i

-- an Ident or a String stands at i
abbrev pub is_word : List CssToken → ℕ → Bool
is_word ts i = stands kind.Ident ts i || stands kind.Quoted ts i

-- the bytes of the value of the token at i
unfoldable pub text_at : List CssToken → ℕ → List ℕ
text_at ts i = encode_utf8_all (value_in (slice_get ts i))

-- the name is the word, in any ASCII letter case
abbrev pub is_called : List ℕ → List ℕ → Bool
is_called name word = str_eq_ignore_ascii_case name word
