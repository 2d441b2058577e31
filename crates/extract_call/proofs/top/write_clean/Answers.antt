use Rattle.std.proofs.Common.{string_bytes}
use Rattle.test_registry.specs.View.{known}
use Rattle.extract_call.proofs.Plans.{of_clean}
use Rattle.extract_call.proofs.top.write_clean.Goals as goal

pub returns-clause-run : goal.returns-clause-run
returns-clause-run g c = of_clean (known c.args.tests.now) (string_bytes c.args.page.now) _ (rw c.from_ref.ensures.value at c.write_each.ensures.run)
