-- The tokens of a text at their places.
use Rattle.std.specs.Prelude.{◌≡◌, ℕ, ◌+◌, ◌-◌, ◌<◌, ◌≤◌, true, List, [], ◌∷◌, length, drop, slice_index, slice_range, encode_utf8_all, Some}
use Rattle.std.specs.Str.{chars}
use Rattle.text_base.specs.Text.{is_space4}
use Rattle.text_base.specs.declared.reasons.XPathFault.{XPathFault}
use Rattle.text_base.specs.declared.reasons.XPathFault.TheVariants as fault
use Rattle.xpath_lexer.specs.declared.token.XKind.{XKind}
use Rattle.xpath_lexer.specs.declared.token.XKind.TheVariants as k
use Rattle.xpath_lexer.specs.declared.token.XTok.{XTok}
use Rattle.xpath_lexer.specs.Tokens.{Text, Lexeme, lexeme, token, Spells}

-- the most bytes of an XPath text
abbrev pub most_xpath : ℕ
most_xpath = 1048576

-- a token without its place
abbrev pub lexeme_of : XTok → Lexeme
lexeme_of w = lexeme w.kind (encode_utf8_all w.value)

-- the bytes of its value: what is written, for a literal without the quotes
abbrev pub value_bytes : XKind → Text → ℕ → ℕ → Text
value_bytes k.Literal text from to = slice_range text (from + 1) (to - 1)
value_bytes _ text from to = slice_range text from to

-- The token is the longest at its place in the text, and from `at` up to it stands only white space.
pub record IsToken (text : Text) (at : ℕ) (w : XTok) : Type 0 where
  pub order : at ≤ w.from
  pub gap : (i : ℕ) → at ≤ i → i < w.from → is_space4 (slice_index text i) ≡ true
  pub longest : token (drop w.from text) ≡ Some (lexeme_of w, drop w.to text)
  pub some : w.from < w.to
  pub within : w.to ≤ length text
  pub value : w.value ≡ chars (value_bytes w.kind text w.from w.to)

-- The tokens stand one after another in the text from `at` on, and between them and after them stands only white space.
abbrev pub Stand : Text → ℕ → List XTok → Type 0
Stand text at [] = (i : ℕ) → at ≤ i → i < length text → is_space4 (slice_index text i) ≡ true
Stand text at (w ∷ ws) = IsToken text at w × Stand text w.to ws

-- Why a text has no tokens: it is too long, or else no list of tokens spells it.
abbrev pub IsFault : Text → XPathFault → Type 0
IsFault text fault.Long = most_xpath < length text
IsFault text fault.Text = (length text ≤ most_xpath) × ((ws : List Lexeme) → Spells text ws → ⊥)
IsFault text _ = ⊥
