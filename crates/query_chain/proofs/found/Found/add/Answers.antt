use Rattle.std.proofs.Common.{◌<◌, ◌≤◌, ◌-◌, length, refl, arith}
use Rattle.query_chain.proofs.Adding.{one_over, one_kept}
use Rattle.query_chain.proofs.found.Found.add.Goals as goal

pub returns-then-text-saturating_sub-clause-ok : goal.returns-then-text-saturating_sub-clause-ok
returns-then-text-saturating_sub-clause-ok c =
    let more : c.args.limits.bytes - c.args.self.now.bytes < length c.args.text.now = omega (arith, c.saturating_sub.ensures, c.if-text-saturating_sub.true) in
    one_over c.args.limits c.args.self.now _ c.args.text.now c.utf8.text c.if-self-limits.false refl refl refl more

pub returns-clause-ok : goal.returns-clause-ok
returns-clause-ok c =
    let fits : length c.args.text.now ≤ c.args.limits.bytes - c.args.self.now.bytes = omega (arith, c.saturating_sub.ensures, c.if-text-saturating_sub.false) in
    one_kept c.args.limits c.args.self.now _ c.args.text.now c.utf8.text c.if-self-limits.false refl c.if-self.false c.if-self.false
    (rw c.in_ok-of.ensures at c.in_ok-push.ensures.items) refl fits
