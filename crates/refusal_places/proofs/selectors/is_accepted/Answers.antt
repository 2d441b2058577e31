use Rattle.std.proofs.lemmas.Result.{IfOk-weaker}
use Rattle.refusal_places.proofs.Faults.{no_list}
use Rattle.refusal_places.proofs.selectors.is_accepted.Goals as goal

pub returns-in-Err : goal.returns-in-Err
returns-in-Err c =
    IfOk-weaker c.refused.result _ _ (λ found said. no_list c.one_list_or_fault.ensures.not_both c.args.text.now c.in-Err.fault found said c.in-Err.ensures.fault) c.refused.ensures
