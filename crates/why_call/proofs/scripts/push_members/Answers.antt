use Rattle.std.proofs.Common.{string_bytes}
use Rattle.why_call.proofs.Said.{members_step}
use Rattle.why_call.proofs.scripts.push_members.Goals as goal

pub loop-at-preserved : goal.loop-at-preserved
loop-at-preserved c =
    members_step c.args.n (string_bytes c.args.out.now) (string_bytes c.loop-at.out) _ c.args.fields.now c.loop-at.at c.index-fields-at.result _ c.loop-at-test.true c.index-fields-at.is c.loop-at.invariant c.in_ok-push_member.ensures
