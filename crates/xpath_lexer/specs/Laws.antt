-- What holds of the tokens of every text.
use Rattle.std.specs.Prelude.{◌≡◌, List}
use Rattle.xpath_lexer.specs.Tokens.{Text, Lexeme, Spells}

abbrev pub OneSpelling : Type 0
OneSpelling = (text : Text) (a b : List Lexeme) → Spells text a → Spells text b → a ≡ b
