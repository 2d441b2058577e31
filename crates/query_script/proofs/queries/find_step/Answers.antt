use Rattle.std.proofs.Common.{sym, subst}
use Rattle.std.specs.Prelude.{IfOk}
use Rattle.test_registry.specs.View.{known}
use Rattle.query_script.specs.declared.steps.RawStep.{RawStep}
use Rattle.query_script.specs.declared.steps.RawStep.TheVariants.{Keep}
use Rattle.query_script.specs.Queries.{IsFound}
use Rattle.query_script.proofs.QueryLemmas.{in_dialect}
use Rattle.query_script.proofs.queries.find_step.Goals as goal

pub returns-in-Keep-clause-is : goal.returns-in-Keep-clause-is
returns-in-Keep-clause-is g c =
    let tests = known c.args.tests.now in
    let P : RawStep → Type 0 = λ r. IfOk c.keep_step.result (IsFound tests c.args.dialect c.args.nodes r) in
    subst P (sym c.in-Keep.is) (in_dialect (λ d. IsFound tests d c.args.nodes (Keep c.in-Keep.name c.in-Keep.text)) c.args.dialect c.keep_step.result c.keep_step.ensures.is)
