use Rattle.std.proofs.Common.{◌≡◌, rules, arith, ap, sym, ◌∙◌, length}
use Rattle.std.proofs.lemmas.List.{length-map}
use Rattle.std.proofs.lemmas.Result.{IfOk-weaker}
use Rattle.test_registry.specs.View.{known}
use Rattle.query_script.specs.Cuts.{fields_of}
use Rattle.page_records.proofs.ContentLemmas.{no_block, no_steps, refused_step, whole_content}
use Rattle.page_records.proofs.blocks.named.Goals as goal

pub returns-in_default-clause-is : goal.returns-in_default-clause-is
returns-in_default-clause-is g c =
    IfOk-weaker c.refused.result _ _ (no_block (known c.args.tests.now) c.args.dialect c.args.text.now (λ written body w. c.in_default.ensures w.front body w.parts)) c.refused.ensures.is

pub returns-in_default-2-clause-is : goal.returns-in_default-2-clause-is
returns-in_default-2-clause-is g c =
    IfOk-weaker c.refused-in_default-2.result _ _ (no_block (known c.args.tests.now) c.args.dialect c.args.text.now
    (no_steps c.args.text.now c.in-Some.front.now c.in-Some.body.now c.in-Some.ensures (rw c.in_default-2.is at c.in_ok-written.ensures))) c.refused-in_default-2.ensures.is

pub returns-in-Refused-clause-is : goal.returns-in-Refused-clause-is
returns-in-Refused-clause-is g c =
    let count : length (fields_of c.in-Some.body.now) ≡ length c.in_ok-pieces.pieces.items = ap length (sym c.in_ok-pieces.ensures) ∙ length-map c.in_ok-pieces.pieces.items (λ p. p.now) in
    IfOk-weaker c.refused-in-Refused.result _ _ (refused_step (known c.args.tests.now) c.args.dialect c.args.text.now c.in-Some.front.now c.in-Some.body.now c.in-Some.ensures
    c.in-Some-2.written (rw c.in-Some-2.is at c.in_ok-written.ensures) (search (rules, count, c.is_empty.ensures, c.if-is_empty.false)) (omega (arith, count, c.len.ensures, c.if-len-gt-MOST_BODY.false))
    c.in-Refused.why (rw (c.in-Refused.is, c.as_slice.ensures) at c.in_ok-why.ensures)) c.refused-in-Refused.ensures.is

pub returns-clause-is : goal.returns-clause-is
returns-clause-is g c =
    let count : length (fields_of c.in-Some.body.now) ≡ length c.in_ok-pieces.pieces.items = ap length (sym c.in_ok-pieces.ensures) ∙ length-map c.in_ok-pieces.pieces.items (λ p. p.now) in
    IfOk-weaker c.whole.result _ _ (λ b h. whole_content (known c.args.tests.now) c.args.dialect c.args.text.now c.in-Some.front.now c.in-Some.body.now c.in-Some.ensures
    c.in-Some-2.written (rw c.in-Some-2.is at c.in_ok-written.ensures) (search (rules, count, c.is_empty.ensures, c.if-is_empty.false)) (omega (arith, count, c.len.ensures, c.if-len-gt-MOST_BODY.false))
    c.in-Kept.steps.items (rw (c.in-Kept.is, c.as_slice.ensures) at c.in_ok-why.ensures).0 b b.refused h) (rw (c.as_slice-in-Kept.ensures.value, c.in_ok-pieces.ensures) at c.whole.ensures.is)
