use Rattle.std.proofs.Common.{◌≢◌, arith, rules, sym, ap, subst, ◌∙◌}
use Rattle.text_base.specs.Text.{run_end, is_space4}
use Rattle.text_base.specs.declared.reasons.XPathFault.TheVariants as fault
use Rattle.xpath_lexer.specs.Places.{IsFault}
use Rattle.xpath_lexer.proofs.Fronts as fronts
use Rattle.xpath_lexer.proofs.Fronts.{Front}
use Rattle.xpath_lexer.proofs.tokens.xpath_tokens.Goals as goal

pub loop-at-init : goal.loop-at-init
loop-at-init c =
    subst (Front c.args.text.now c.end_of-at.result) (sym c.new-found.ensures)
    (fronts.start c.args.text.now c.utf8.text c.end_of-at.result (c.end_of-at.ensures.end ∙ ap (λ text. run_end is_space4 text 0) c.as_bytes.ensures.value))

pub returns-in_err-next-clause-fault : goal.returns-in_err-next-clause-fault
returns-in_err-next-clause-fault c =
    let fact : c.in_err-next.field-0.0 ≢ fault.Memory → IsFault c.args.text.now c.in_err-next.field-0.0 =
    fronts.fault_at c.args.text.now c.utf8.text c.loop-at.at c.loop-at.found c.loop-at.invariant (omega arith) (omega arith) c.in_err-next.field-0.0 c.in_err-next.ensures.none in
    search rules

pub loop-at-preserved : goal.loop-at-preserved
loop-at-preserved c =
    subst (Front c.args.text.now c.end_of-at-in-loop-at.result) (sym c.in-Ok.ensures.ok)
    (fronts.one_more c.args.text.now c.utf8.text c.loop-at.at c.end_of-at-in-loop-at.result c.loop-at.found c.in_ok-next.next c.loop-at.invariant c.in_ok-next.ensures.found
    (c.end_of-at-in-loop-at.ensures.end ∙ ap (λ text. run_end is_space4 text c.in_ok-next.next.to) c.as_bytes-in-loop-at.ensures.value))

pub returns-clause-spelled : goal.returns-clause-spelled
returns-clause-spelled c = fronts.finish_spelled c.args.text.now c.utf8.text c.loop-at.at c.loop-at.found c.loop-at.invariant (omega arith)

pub returns-clause-places : goal.returns-clause-places
returns-clause-places c = fronts.finish_stands c.args.text.now c.utf8.text c.loop-at.at c.loop-at.found c.loop-at.invariant (omega arith)
