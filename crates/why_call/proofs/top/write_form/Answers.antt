use Rattle.std.proofs.Common.{ap}
use Rattle.test_registry.specs.View.{known}
use Rattle.extract_call.proofs.Complete.{run_at}
use Rattle.why_call.proofs.Plans.{of_page}
use Rattle.why_call.proofs.top.write_form.Goals as goal

pub returns-in-Css-clause-run : goal.returns-in-Css-clause-run
returns-in-Css-clause-run g c = rw c.in-Css.is (λ plan is. run_at plan _ _ _ _ (c.write_selector.ensures.run plan is))

pub returns-in-XPath-clause-run : goal.returns-in-XPath-clause-run
returns-in-XPath-clause-run g c = rw c.in-XPath.is (λ plan is. run_at plan _ _ _ _ (c.write_expression.ensures.run plan is))

pub returns-in-Script-clause-run : goal.returns-in-Script-clause-run
returns-in-Script-clause-run g c = rw c.in-Script.is (λ plan is. run_at plan _ _ _ _ (c.write_script.ensures.run plan is))

pub returns-in-Page-clause-run : goal.returns-in-Page-clause-run
returns-in-Page-clause-run g c = rw c.in-Page.is (of_page (known c.args.tests.now) _ _ (rw c.as_str.ensures.value at c.write_page.ensures.run))
