use Rattle.std.proofs.Common.{◌≡◌, ◌-◌, length}
use Rattle.xpath_parser.specs.Reader.{expr, preds}
use Rattle.xpath_parser.specs.inner.Parsing.{with_front}
use Rattle.xpath_parser.proofs.grammar.Grammar.predicates.Given as goal

abbrev pub invariant-loop-turn : goal.invariant-loop-turn
invariant-loop-turn g l = with_front l.found (preds (expr l.self.depth) (l._turn-end - l._turn) l.terms) ≡ preds (expr l.self.depth) (length l.fn.terms) l.fn.terms
