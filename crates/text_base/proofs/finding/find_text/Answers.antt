use Rattle.std.proofs.Common.{sym, subst}
use Rattle.std.specs.Prelude.{Some, None}
use Rattle.memchr.specs.Find.{FindsNeedle}
use Rattle.text_base.proofs.Places.{needle_at, needle_none, past_needle}
use Rattle.text_base.proofs.finding.find_text.Goals as goal

pub returns-in-Some-clause-end : goal.returns-in-Some-clause-end
returns-in-Some-clause-end c =
    sym (needle_at _ _ _ c.requires.within c.requires.some _
    (subst (λ h. FindsNeedle h c.args.needle.now 0 (Some c.in-Some.k)) c.bytes_from.ensures c.in-Some.ensures))

pub returns-in-None-clause-end : goal.returns-in-None-clause-end
returns-in-None-clause-end c =
    sym (needle_none _ _ _ c.requires.within c.requires.some
    (subst (λ h. FindsNeedle h c.args.needle.now 0 None) c.bytes_from.ensures c.in-None.ensures))

pub returns-in-Some-clause-past : goal.returns-in-Some-clause-past
returns-in-Some-clause-past c = λ ascii. past_needle _ _ c.utf8.text ascii c.requires.some c.args.from _ c.requires.within
    (sym (needle_at _ _ _ c.requires.within c.requires.some _
    (subst (λ h. FindsNeedle h c.args.needle.now 0 (Some c.in-Some.k)) c.bytes_from.ensures c.in-Some.ensures)))
