use Rattle.test_registry.specs.View.{known}
use Rattle.extract_call.specs.inner.Asked.{shown_by}
use Rattle.extract_call.proofs.PageReadings.{built_line}
use Rattle.extract_call.proofs.page_lines.text_answer.Goals as goal

pub returns-in-Ok : goal.returns-in-Ok
returns-in-Ok g c = built_line (shown_by (known c.args.tests.now) c.args.asked) c.args.name.now c.args.text.now c.tree_answer.result _ c.in-Ok.ensures.ok c.tree_answer.ensures
