use Rattle.std.proofs.Common.{◌≡◌, ◌-◌, length}
use Rattle.xpath_parser.specs.Reader.{expr, args}
use Rattle.xpath_parser.specs.inner.Parsing.{with_front}
use Rattle.xpath_parser.proofs.grammar.Grammar.arguments.Given as goal

abbrev pub invariant-loop-turn : goal.invariant-loop-turn
invariant-loop-turn g l = with_front l.found (args (expr l.self.depth) (l._turn-end - l._turn) l.terms) ≡ args (expr l.self.depth) (length l.fn.terms) l.fn.terms
