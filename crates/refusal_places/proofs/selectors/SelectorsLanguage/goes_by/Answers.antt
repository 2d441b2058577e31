use Rattle.std.proofs.Common.{rules, ◌≡◌, ◌++◌, arith}
use Rattle.std.proofs.lemmas.Grind.{common_steps}
use Rattle.std.proofs.lemmas.Result.{IfOk-weaker}
use Rattle.refusal_places.proofs.Faults.{no_beginning}
use Rattle.refusal_places.proofs.selectors.SelectorsLanguage.goes_by.Goals as goal

pub returns-in-Err : goal.returns-in-Err
returns-in-Err c =
    let same : c.as_str.result.now ≡ c.args.beginning.now ++ c.args.ending.now = first_of (search rules, grind (arith, common_steps)) in
    IfOk-weaker c.refused.result _ _
    (λ found said. no_beginning c.one_list_or_fault.ensures.not_both c.args.beginning.now c.args.ending.now c.as_str.result.now c.in-Err.fault found said same c.in-Err.ensures.lexed) c.refused.ensures
