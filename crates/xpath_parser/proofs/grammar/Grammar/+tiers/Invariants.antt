use Rattle.std.proofs.Common.{◌≡◌, ◌-◌, ◌+◌, ◌*◌, length}
use Rattle.xpath_parser.specs.Grammar.{operand}
use Rattle.xpath_parser.specs.Reader.{expr, operators, tier, signed}
use Rattle.xpath_parser.specs.inner.Parsing.{with_front, mapped}
use Rattle.xpath_parser.proofs.Front.{with_count}
use Rattle.xpath_parser.proofs.grammar.Grammar.+tiers.Given as goal

abbrev pub decreases-tier : goal.decreases-tier
decreases-tier g l = 4 * l.tier

abbrev pub decreases-operands : goal.decreases-operands
decreases-operands g l = 4 * l.tier + 1

abbrev pub decreases-values : goal.decreases-values
decreases-values g l = 4 * l.tier + 1

abbrev pub decreases-joined : goal.decreases-joined
decreases-joined g l = 4 * l.tier + 2

abbrev pub decreases-listed : goal.decreases-listed
decreases-listed g l = 4 * l.tier + 2

abbrev pub decreases-signs : goal.decreases-signs
decreases-signs g l = 5

abbrev pub invariant-operands-loop-turn : goal.invariant-operands-loop-turn
invariant-operands-loop-turn g l =
    with_front l.found (mapped operand (operators l.tier (tier (expr l.self.depth) l.tier) (l._turn-end - l._turn) l.terms))
    ≡ mapped operand (operators l.tier (tier (expr l.self.depth) l.tier) (length l.fn.terms) l.fn.terms)

abbrev pub invariant-values-loop-turn : goal.invariant-values-loop-turn
invariant-values-loop-turn g l =
    with_front l.found (mapped (λ p. p.1) (operators l.tier (tier (expr l.self.depth) l.tier) (l._turn-end - l._turn) l.terms))
    ≡ with_front l.fn.found (mapped (λ p. p.1) (operators l.tier (tier (expr l.self.depth) l.tier) (length l.fn.terms) l.fn.terms))

abbrev pub invariant-signs-loop-turn : goal.invariant-signs-loop-turn
invariant-signs-loop-turn g l = (l.count ≡ l._turn) × (with_count l.count (signed (tier (expr l.self.depth) 1) (l._turn-end - l._turn) l.terms) ≡ signed (tier (expr l.self.depth) 1) (length l.fn.terms) l.fn.terms)
