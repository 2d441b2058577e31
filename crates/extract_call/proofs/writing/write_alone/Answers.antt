use Rattle.std.proofs.Common.{◌≡◌, ◌∙◌, arith, refl}
use Rattle.extract_call.specs.Answers.{answer_of}
use Rattle.extract_call.specs.Plans.{alone}
use Rattle.extract_call.proofs.Complete.{nothing_run, part_run, whole_run}
use Rattle.extract_call.proofs.PageAnswers.{ok_at}
use Rattle.extract_call.proofs.writing.write_alone.Goals as goal

pub returns-in_default-clause-run : goal.returns-in_default-clause-run
returns-in_default-clause-run g c = λ a e none. nothing_run c.laws_below.ensures.takings (alone a) none _

pub returns-then-refused-clause-run : goal.returns-then-refused-clause-run
returns-then-refused-clause-run g c = λ a e none.
    let same = ok_at c.args.made c.in-Ok.line (λ line. answer_of line ≡ a) c.in-Ok.is e in
    whole_run c.laws_below.ensures.takings (answer_of c.in-Ok.line) a none _ _ _ same c.in-Ok-write_line.ensures.ok.1 (c.in-Ok-write_line.ensures.uncounted (λ e. cc))
    (λ z. absurd (cc)) (λ z. c.in-Ok-write_line.ensures.ok.0 ∙ c.if-refused.true) (λ z. cc) (λ z. cc) (λ z. cc)

pub returns-else-refused-clause-run : goal.returns-else-refused-clause-run
returns-else-refused-clause-run g c = λ a e none.
    let same = ok_at c.args.made c.in-Ok.line (λ line. answer_of line ≡ a) c.in-Ok.is e in
    whole_run c.laws_below.ensures.takings (answer_of c.in-Ok.line) a none _ _ _ same c.in-Ok-write_line.ensures.ok.1 (c.in-Ok-write_line.ensures.uncounted (λ e. cc))
    (λ z. c.in-Ok-write_line.ensures.ok.0 ∙ c.if-refused.false) (λ z. absurd (cc)) (λ z. cc) (λ z. cc) (λ z. cc)

pub returns-in-Err-clause-run : goal.returns-in-Err-clause-run
returns-in-Err-clause-run g c = λ a e none.
    let same = ok_at c.args.made c.in-Ok.line (λ line. answer_of line ≡ a) c.in-Ok.is e in
    part_run c.laws_below.ensures.takings (answer_of c.in-Ok.line) a none _ _ c.in-Err.status same c.in-Err.ensures.err
    (record {
      told = refl;
      write_fault = λ z. c.in-Err.ensures.write_fault (cc);
      page_faults = omega arith;
      sink_faults = c.in-Err.ensures.never_falls;
      pages_uncounted = λ z. refl;
      sink_uncounted = λ z. c.in-Err.ensures.uncounted (λ e. z (cc));
    })
    (λ z. c.in-Err.ensures.other.0 (cc)) (λ z. c.in-Err.ensures.other.1 (cc)) (λ z. c.in-Err.ensures.other.2 (cc)) (λ z. c.in-Err.ensures.other.3 (cc))
