use Rattle.std.proofs.lemmas.Result.{IfOk-weaker}
use Rattle.test_registry.specs.View.{known}
use Rattle.refusal_places.proofs.Faults.{no_expression}
use Rattle.refusal_places.proofs.xpaths.is_read.Goals as goal

pub returns-in-Err : goal.returns-in-Err
returns-in-Err g c =
    IfOk-weaker c.refused.result _ _ (λ found said. no_expression c.never_both.ensures (known c.args.tests.now) c.args.text.now c.in-Err.fault found said c.in-Err.ensures.fault) c.refused.ensures
