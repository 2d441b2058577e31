use Rattle.extract_call.proofs.Plans.{of_css}
use Rattle.extract_call.proofs.top.write_css.Goals as goal

pub returns-clause-run : goal.returns-clause-run
returns-clause-run g c = λ tests. of_css c.laws_below.ensures tests c.args.dialect c.args.selector.now c.css_answer.result _ c.css_answer.ensures c.write_alone.ensures.run
