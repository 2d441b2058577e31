use Rattle.std.proofs.Common.{◌∙◌, sym}
use Rattle.extract_call.specs.Answers.{answer_of}
use Rattle.test_registry.specs.View.{known}
use Rattle.extract_call.proofs.PageAnswers.{line_of_whole, line_of_long, ok_at}
use Rattle.extract_call.proofs.pages.read_line.Goals as goal
use Rattle.extract_call.proofs.pages.read_line.Goals.{in-Ok, in-Err-TooLong}

pub returns-in-Ok-made-clause-ok : goal.returns-in-Ok-made-clause-ok
returns-in-Ok-made-clause-ok g c = elim c.match-read_page.branch [
  | in-Ok w ↦ line_of_whole (known c.args.tests.now) c.args.asked c.args.name.now _ (g.P.Pages.told c.args.pages.now) (answer_of c.in-Ok-made.line)
      (rw (← w.as_slice.ensures.value) at w.in-Ok.ensures.bytes) (ok_at w.page_answer-made.result c.in-Ok-made.line _ (sym w.made-is ∙ c.in-Ok-made.is) w.page_answer-made.ensures)
  | in-Err-TooLong w ↦ line_of_long (known c.args.tests.now) c.args.asked c.args.name.now (g.P.Pages.told c.args.pages.now) (answer_of c.in-Ok-made.line)
      (w.in-Err-TooLong.ensures.too_long (cc)) (ok_at w.long_answer-made.result c.in-Ok-made.line _ (sym w.made-is ∙ c.in-Ok-made.is) w.long_answer-made.ensures)
]
