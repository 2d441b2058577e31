use Rattle.std.proofs.Common.{◌≡◌, ◌-◌, length}
use Rattle.xpath_parser.specs.Reader.{expr, steps}
use Rattle.xpath_parser.specs.inner.Parsing.{with_front}
use Rattle.xpath_parser.proofs.grammar.Grammar.steps.Given as goal

abbrev pub invariant-loop-turn : goal.invariant-loop-turn
invariant-loop-turn g l = with_front l.found (steps (expr l.self.depth) (l._turn-end - l._turn) l.terms) ≡ with_front l.fn.found (steps (expr l.self.depth) (length l.fn.terms) l.fn.terms)
