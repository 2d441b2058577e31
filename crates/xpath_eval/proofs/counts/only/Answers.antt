use Rattle.std.proofs.Common.{sym, ◌∙◌, ap, ◌<◌, length, take, set, arith}
use Rattle.std.proofs.lemmas.List.{get_or_default}
use Rattle.xpath_eval.proofs.Counting.{only_none, only_one}
use Rattle.xpath_eval.proofs.counts.only.Goals as goal

pub returns-in-None : goal.returns-in-None
returns-in-None c =
    let xs = c.args.rows.now.items in
    c.clear.ensures.items ∙ sym (only_none c.args.n.now (length xs) xs (λ j low high. c.in-None.ensures.none j low (omega (arith, high, c.len.ensures))))

pub returns-in-Some : goal.returns-in-Some
returns-in-Some c =
    let xs = c.args.rows.now.items in
    let i = c.in-Some.i in
    let within : i < length xs = omega (arith, c.in-Some.ensures.some, c.len.ensures) in
    c.truncate.ensures.items ∙ ap (take 1) (c.put_if.ensures.rows ∙ ap (set xs 0) (c.index-row.ensures ∙ get_or_default xs i c.index-row.result.now 0 within))
    ∙ only_one c.args.n.now (length xs) i xs within c.requires c.in-Some.ensures.position
