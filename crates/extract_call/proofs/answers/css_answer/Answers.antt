use Rattle.extract_call.proofs.Readings.{all_small}
use Rattle.extract_call.proofs.answers.css_answer.Goals as goal

pub translate-requires : goal.translate-requires
translate-requires c = c.in-Ok.ensures.well_made

pub css_line-requires : goal.css_line-requires
css_line-requires c = all_small c.in-Ok.list c.in-Ok.ensures.well_made
