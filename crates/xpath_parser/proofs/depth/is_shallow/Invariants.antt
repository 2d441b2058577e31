use Rattle.std.specs.Prelude.{◌≤◌, ◌+◌, ◌↔◌, drop, map}
use Rattle.xpath_lexer.specs.Places.{lexeme_of}
use Rattle.xpath_parser.specs.Terms.{most_open, IsShallow}
use Rattle.xpath_parser.specs.inner.Depth.{ShallowFrom}
use Rattle.xpath_parser.proofs.depth.is_shallow.Given as goal

abbrev pub invariant-loop-token : goal.invariant-loop-token
invariant-loop-token l =
    (l.open ≤ l.token-index) × (l.close ≤ l.token-index) × (l.open ≤ l.close + most_open)
    × (ShallowFrom l.open l.close (map lexeme_of (drop l.token-index l.tokens)) ↔ IsShallow (map lexeme_of l.tokens))
