use Rattle.std.proofs.Common.{◌∙◌, sym}
use Rattle.extract_call.specs.Answers.{answer_of}
use Rattle.extract_call.proofs.PageAnswers.{ok_at}
use Rattle.why_call.proofs.OnePage.{of_whole, of_long}
use Rattle.why_call.proofs.writing.read_answer.Goals as goal
use Rattle.why_call.proofs.writing.read_answer.Goals.{in-Ok, in-Err-TooLong}

pub returns-in-Ok-made-clause-ok : goal.returns-in-Ok-made-clause-ok
returns-in-Ok-made-clause-ok g c = elim c.match-read_page.branch [
  | in-Ok w ↦ of_whole c.args.name.now _ (g.P.Pages.told c.args.pages.now) (answer_of c.in-Ok-made.line)
      (rw (← w.as_slice.ensures.value) at w.in-Ok.ensures.bytes) (ok_at w.page_answer-made.result c.in-Ok-made.line _ (sym w.made-is ∙ c.in-Ok-made.is) w.page_answer-made.ensures)
  | in-Err-TooLong w ↦ of_long c.args.name.now (g.P.Pages.told c.args.pages.now) (answer_of c.in-Ok-made.line)
      (w.in-Err-TooLong.ensures.too_long (cc)) (ok_at w.long_answer-made.result c.in-Ok-made.line _ (sym w.made-is ∙ c.in-Ok-made.is) w.long_answer-made.ensures)
]
