use Rattle.text_base.proofs.Boundaries.{at_start}
use Rattle.css_translate.proofs.literals.push_runs.Goals as goal

pub push_run-requires-clause-place : goal.push_run-requires-clause-place
push_run-requires-clause-place c = at_start c.args.text.now c.utf8.text
