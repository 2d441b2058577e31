-- Texts that are borrowed or made, and numbers of things.
use Rattle.std.specs.Prelude.{ℕ, List, string_bytes}
use Rattle.std.specs.Str.{chars}
use Rattle.xpath_functions.specs.declared.texts.Text.{Text}
use Rattle.xpath_functions.specs.declared.texts.Text.TheVariants as text

-- the characters of the text
abbrev pub chars_of : Text → List ℕ
chars_of (text.Lent s) = chars s.now
chars_of (text.Made s) = chars (string_bytes s)
