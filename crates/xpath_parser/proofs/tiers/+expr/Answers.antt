use Rattle.std.proofs.Common.{arith, ◌≡◌, ap, sym, subst}
use Rattle.xpath_parser.specs.Reader.{expr}
use Rattle.xpath_parser.specs.inner.Parsing.{Gives}
use Rattle.xpath_parser.proofs.Front.{expr_at}
use Rattle.xpath_parser.proofs.tiers.+expr.Goals as goal

pub returns-then-depth-eq0 : goal.returns-then-depth-eq0
unfolding expr
returns-then-depth-eq0 t c _ = let none : c.args.depth ≡ 0 = omega arith in ap (λ n. expr n c.args.terms.now) none

pub returns : goal.returns
returns t c = subst (λ o. Gives o c.tier.result c.tier.new.terms) (sym (expr_at c.args.depth c.args.terms.now (omega arith))) c.tier.ensures
