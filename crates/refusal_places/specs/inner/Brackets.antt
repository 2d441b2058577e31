-- Brackets as the bytes that close them.
use Rattle.std.specs.Prelude.{ℕ}
use Rattle.refusal_places.specs.declared.brackets.Bracket.{Bracket}
use Rattle.refusal_places.specs.declared.brackets.Bracket.TheVariants as bracket

abbrev pub byte_of : Bracket → ℕ
byte_of bracket.Round = 41
byte_of bracket.Square = 93
