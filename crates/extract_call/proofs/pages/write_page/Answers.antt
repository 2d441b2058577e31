use Rattle.std.proofs.Common.{inr}
use Rattle.extract_call.proofs.Complete.{counted_then}
use Rattle.test_registry.specs.View.{known}
use Rattle.extract_call.proofs.PageAnswers.{line_part, line_taken}
use Rattle.extract_call.proofs.pages.write_page.Goals as goal

pub returns-in-Ok-write_line-clause-ok : goal.returns-in-Ok-write_line-clause-ok
returns-in-Ok-write_line-clause-ok g c = λ line makes.
    line_taken c.laws_below.ensures (known c.args.tests.now) c.args.asked line makes (g.P.Pages.told c.args.pages.now) c.args.name.now (g.W.Sink.taken c.args.sink.now) _ _ _ c.in-Ok.ensures.ok c.in-Ok-write_line.ensures.ok.0 c.in-Ok-write_line.ensures.ok.1

pub returns-in-Err-write_line-clause-err : goal.returns-in-Err-write_line-clause-err
returns-in-Err-write_line-clause-err g c = λ line makes.
    inr (line_part c.laws_below.ensures (known c.args.tests.now) c.args.asked line makes (g.P.Pages.told c.args.pages.now) c.args.name.now (g.W.Sink.taken c.args.sink.now) _ _ c.in-Ok.ensures.ok c.in-Err-write_line.ensures.err)

pub returns-in-Ok-write_line-clause-counts : goal.returns-in-Ok-write_line-clause-counts
returns-in-Ok-write_line-clause-counts g c =
    counted_then _ _ _ _ _ (c.in-Ok.ensures.counts _) c.in-Ok-write_line.ensures.never_falls (λ z. c.in-Ok-write_line.ensures.uncounted (λ e. cc)) (λ z. absurd (cc))

pub returns-in-Err-write_line-clause-counts : goal.returns-in-Err-write_line-clause-counts
returns-in-Err-write_line-clause-counts g c =
    counted_then _ _ _ _ _ (c.in-Ok.ensures.counts _) c.in-Err-write_line.ensures.never_falls (λ z. c.in-Err-write_line.ensures.uncounted (λ e. z (cc))) (λ z. c.in-Err-write_line.ensures.write_fault (cc))

pub returns-in-Err-clause-counts : goal.returns-in-Err-clause-counts
returns-in-Err-clause-counts g c = c.in-Err.ensures.counts _
