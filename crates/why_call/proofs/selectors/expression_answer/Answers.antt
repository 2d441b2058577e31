use Rattle.test_registry.specs.View.{known}
use Rattle.why_call.proofs.OneAnswer.{kept_expression}
use Rattle.why_call.proofs.selectors.expression_answer.Goals as goal
use Rattle.why_call.proofs.selectors.expression_answer.Goals.{in-Ok, in-Err-Memory, in-Err}

pub returns : goal.returns
returns g c = elim c.match-parse_xpath_with.branch [
  | in-Ok w ↦ rw w.result-is (kept_expression (known c.args.tests.now) c.args.text.now _ w.nothing.result w.in-Ok.ensures.ok w.nothing.ensures)
  | in-Err-Memory w ↦ rw w.result-is tt
  | in-Err w ↦ rw w.result-is w.expression_refused.ensures
]
