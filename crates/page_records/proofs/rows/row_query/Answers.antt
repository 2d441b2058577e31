use Rattle.test_registry.specs.View.{known}
use Rattle.page_records.proofs.RowLemmas.{strings_out}
use Rattle.page_records.proofs.rows.row_query.Goals as goal

pub returns-in-Kept-default-false : goal.returns-in-Kept-default-false
returns-in-Kept-default-false g c =
    strings_out (known c.args.tests.now) c.args.dialect c.args.raw.now c.in-Kept-default-false.field-0 c.requires (rw (c.in-Kept-default-false.is, c.in-Kept-default-false.field-1-test) at c.in_ok-step.ensures.is)
