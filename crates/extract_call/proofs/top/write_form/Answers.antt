use Rattle.std.proofs.Common.{ap}
use Rattle.test_registry.specs.View.{known}
use Rattle.extract_call.proofs.Complete.{run_at}
use Rattle.extract_call.specs.Words.{command_of}
use Rattle.extract_call.proofs.top.write_form.Goals as goal

pub write_bulk-requires-clause-some : goal.write_bulk-requires-clause-some
write_bulk-requires-clause-some g c = (c.requires c.in-Bulk.n (ap command_of c.in-Bulk.is)).0

pub write_bulk-requires-clause-most : goal.write_bulk-requires-clause-most
write_bulk-requires-clause-most g c = (c.requires c.in-Bulk.n (ap command_of c.in-Bulk.is)).1

pub returns-in-Css-clause-run : goal.returns-in-Css-clause-run
returns-in-Css-clause-run g c = rw c.in-Css.is (λ plan is. run_at plan _ _ _ _ (c.write_css.ensures.run (known c.args.tests.now) plan is))

pub returns-in-Run-clause-run : goal.returns-in-Run-clause-run
returns-in-Run-clause-run g c = rw c.in-Run.is c.write_run.ensures.run

pub returns-in-Bulk-clause-run : goal.returns-in-Bulk-clause-run
returns-in-Bulk-clause-run g c = rw c.in-Bulk.is (λ plan is. run_at plan _ _ _ _ (c.write_bulk.ensures.run plan is))

pub returns-in-Clean-clause-run : goal.returns-in-Clean-clause-run
returns-in-Clean-clause-run g c = rw c.in-Clean.is c.write_clean.ensures.run
