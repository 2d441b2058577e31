use Rattle.std.proofs.Common.{sym}
use Rattle.css_parser.proofs.ArgumentLemmas.{balanced_end}
use Rattle.css_parser.proofs.arguments.balanced_close.Goals as goal

pub returns-clause-end : goal.returns-clause-end
returns-clause-end c = sym (balanced_end _ _ _ _ c.loop-at.invariant.order c.loop-at-test.false c.loop-at.invariant.within c.loop-at.invariant.inside)
