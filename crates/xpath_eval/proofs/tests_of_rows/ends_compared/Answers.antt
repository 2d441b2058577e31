use Rattle.std.proofs.Common.{sym, ◌∙◌, ◌+◌, ◌-◌, length, take, arith}
use Rattle.std.proofs.lemmas.List.{take_all}
use Rattle.xpath_eval.proofs.Lists.{take_at}
use Rattle.xpath_eval.proofs.tests_of_rows.ends_compared.Goals as goal

pub returns : goal.returns
returns c = λ told.
    let os = c.args.operands.now in
    let i = length os - 1 in
    let some = c.if-operands-eq0.false in
    record {
      before = take i os;
      last = c.index-operands-operands.result;
      all = sym (take_all (i + 1) os (omega (arith, some))) ∙ take_at os i c.index-operands-operands.result c.index-operands-operands.is (omega (arith, some));
      compared = sym c.is_compared.ensures ∙ told;
    }
