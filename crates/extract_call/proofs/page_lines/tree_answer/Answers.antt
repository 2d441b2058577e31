use Rattle.std.proofs.Common.{subst}
use Rattle.std.specs.Prelude.{IfOk}
use Rattle.doc_model.specs.Document.{Document}
use Rattle.test_registry.specs.View.{known}
use Rattle.extract_call.specs.Answers.{answer_of}
use Rattle.extract_call.specs.PageLines.{IsValuesLine}
use Rattle.extract_call.proofs.page_lines.tree_answer.Goals as goal

pub values_answer-requires-clause-tasks : goal.values_answer-requires-clause-tasks
values_answer-requires-clause-tasks g c = (rw c.in-Values.is at c.requires).0

pub values_answer-requires-clause-asks : goal.values_answer-requires-clause-asks
values_answer-requires-clause-asks g c = (rw c.in-Values.is at c.requires).1.0

pub values_answer-requires-clause-names : goal.values_answer-requires-clause-names
values_answer-requires-clause-names g c = (rw c.in-Values.is at c.requires).1.1

pub returns-in_ok-source-in-Values : goal.returns-in_ok-source-in-Values
returns-in_ok-source-in-Values g c = rw c.in-Values.is
    (subst (λ (x : Document). IfOk c.values_answer.result (λ line. IsValuesLine (known c.args.tests.now) c.in-Values.entries.now c.args.name.now x (answer_of line))) c.in_ok-source-in-Values.ensures c.values_answer.ensures)
