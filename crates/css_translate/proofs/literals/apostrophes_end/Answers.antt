use Rattle.std.proofs.Common.{◌≡◌, ◌<◌, ℕ, List, length, slice_index, arith, refl, ap, ◌∙◌, subst, sym}
use Rattle.css_translate.proofs.WrittenRuns.{one_apostrophe}
use Rattle.css_translate.proofs.literals.apostrophes_end.Goals as goal

pub loop-at-init : goal.loop-at-init
loop-at-init c = (one_apostrophe c.args.text.now c.args.from c.args.from c.utf8.text c.requires.within c.requires.first refl (omega arith), c.as_bytes-bytes.ensures.value)

pub loop-at-preserved : goal.loop-at-preserved
loop-at-preserved c =
    let same : c.as_bytes-bytes.result.now ≡ c.args.text.now = c.as_bytes-bytes.ensures.value in
    let lt : c.loop-at.at < length c.args.text.now = subst (λ (bs : List ℕ). c.loop-at.at < length bs) same c.loop-at-test.true in
    let is : slice_index c.args.text.now c.loop-at.at ≡ 39 = ap (λ (bs : List ℕ). slice_index bs c.loop-at.at) (sym same) ∙ c.if-bytes-at-eq39.true in
    (one_apostrophe c.args.text.now c.args.from c.loop-at.at c.utf8.text lt is c.loop-at.invariant.0.same_end (let moves : c.args.from < c.loop-at.at = c.loop-at.invariant.0.moves in omega arith), same)
