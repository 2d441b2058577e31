use Rattle.std.proofs.Common.{rules, arith, ◌≡◌, refl, sym, ◌∙◌, ap, ◌+◌, drop, map, sum_by, subst}
use Rattle.std.proofs.lemmas.Grind.{common_steps}
use Rattle.std.proofs.lemmas.List.Sums.{sum_by-cons}
use Rattle.css_selectors.specs.declared.selector.Triple.{Triple}
use Rattle.css_selectors.specs.declared.selector.Compound as compound
use Rattle.css_selectors.specs.declared.selector.Part as part
use Rattle.css_selectors.specs.declared.selector.Relative as relative
use Rattle.css_selectors.specs.declared.selector.Simple as simple
use Rattle.css_selectors.specs.declared.selector.Simple.{out-Simple}
use Rattle.css_selectors.specs.declared.selector.Test as test
use Rattle.css_selectors.specs.Sizes.{test_size, compound_size, part_size, relative_size, simple_size}
use Rattle.css_selectors.specs.Specificity.{simple_triple, sum_from, plus}
use Rattle.css_selectors.proofs.Bounds as b
use Rattle.css_selectors.proofs.Equations as e
use Rattle.css_selectors.proofs.counts.+counts.Goals as goal

pub compound_counts-simples_counts-requires : goal.compound_counts-simples_counts-requires
compound_counts-simples_counts-requires t c =
    let size : compound_size c.args.compound.now ≡ sum_by simple_size c.as_slice.result.now = e.size_of_compound c.args.compound.now ∙ ap (sum_by simple_size) (sym c.as_slice.ensures) in
    (search (rules, compound.the_lemmas), (omega (arith, size, c.requires), c.named.ensures.bound))

pub part_counts-simples_counts-requires : goal.part_counts-simples_counts-requires
part_counts-simples_counts-requires t c =
    let size : part_size c.args.part.now ≡ 1 + sum_by simple_size c.as_slice.result.now = e.size_of_part c.args.part.now ∙ ap (λ xs. 1 + sum_by simple_size xs) (sym c.as_slice.ensures) in
    (search (rules, part.the_lemmas), (omega (arith, size, c.requires), c.named.ensures.bound))

pub relative_counts-parts_counts-requires : goal.relative_counts-parts_counts-requires
relative_counts-parts_counts-requires t c =
    let size : relative_size c.args.relative.now ≡ sum_by part_size c.as_slice.result.now = e.size_of_relative c.args.relative.now ∙ ap (sum_by part_size) (sym c.as_slice.ensures) in
    (search (rules, relative.the_lemmas), (omega (arith, size, c.requires), first_of (search rules, grind (arith, common_steps))))

pub simples_counts-test_counts-requires : goal.simples_counts-test_counts-requires
simples_counts-test_counts-requires t c =
    let x = c.simple-item.result in
    let i = c.loop-simple.simple-index in
    let xs = c.args.simples.now in
    let sum : sum_by simple_size (drop i xs) ≡ simple_size x + sum_by simple_size (drop (i + 1) xs) =
    ap (sum_by simple_size) (b.here xs xs i x refl c.loop-simple-test.true c.simple-item.is) ∙ sum_by-cons simple_size x (drop (i + 1) xs) in
    (search (rules, simple.the_lemmas), omega (arith, sum, e.size_of_simple x, c.loop-simple.invariant.1.a, c.requires.size))

pub simples_counts-plus-sum-requires-clause-a : goal.simples_counts-plus-sum-requires-clause-a
simples_counts-plus-sum-requires-clause-a t c =
    let x = c.simple-item.result in
    let i = c.loop-simple.simple-index in
    let xs = c.args.simples.now in
    let turn : b.Leaves (sum_by simple_size (drop (i + 1) xs)) (sum_by simple_size xs + 1) (plus c.loop-simple.sum c.test_counts.result) =
    b.more simple_size xs (drop (i + 1) xs) i x (test_size (out-Simple x).test + 1) _ c.loop-simple.sum c.test_counts.result (b.here xs xs i x refl c.loop-simple-test.true c.simple-item.is)
    c.loop-simple.invariant.1 c.test_counts.ensures.bound (omega (arith, e.size_of_simple x)) in
    omega (arith, turn.a, c.requires.size)

pub simples_counts-plus-sum-requires-clause-b : goal.simples_counts-plus-sum-requires-clause-b
simples_counts-plus-sum-requires-clause-b t c =
    let x = c.simple-item.result in
    let i = c.loop-simple.simple-index in
    let xs = c.args.simples.now in
    let turn : b.Leaves (sum_by simple_size (drop (i + 1) xs)) (sum_by simple_size xs + 1) (plus c.loop-simple.sum c.test_counts.result) =
    b.more simple_size xs (drop (i + 1) xs) i x (test_size (out-Simple x).test + 1) _ c.loop-simple.sum c.test_counts.result (b.here xs xs i x refl c.loop-simple-test.true c.simple-item.is)
    c.loop-simple.invariant.1 c.test_counts.ensures.bound (omega (arith, e.size_of_simple x)) in
    omega (arith, turn.b, c.requires.size)

pub simples_counts-plus-sum-requires-clause-c : goal.simples_counts-plus-sum-requires-clause-c
simples_counts-plus-sum-requires-clause-c t c =
    let x = c.simple-item.result in
    let i = c.loop-simple.simple-index in
    let xs = c.args.simples.now in
    let turn : b.Leaves (sum_by simple_size (drop (i + 1) xs)) (sum_by simple_size xs + 1) (plus c.loop-simple.sum c.test_counts.result) =
    b.more simple_size xs (drop (i + 1) xs) i x (test_size (out-Simple x).test + 1) _ c.loop-simple.sum c.test_counts.result (b.here xs xs i x refl c.loop-simple-test.true c.simple-item.is)
    c.loop-simple.invariant.1 c.test_counts.ensures.bound (omega (arith, e.size_of_simple x)) in
    omega (arith, turn.c, c.requires.size)

pub simples_counts-loop-simple-preserved : goal.simples_counts-loop-simple-preserved
simples_counts-loop-simple-preserved t c =
    let x = c.simple-item.result in
    let i = c.loop-simple.simple-index in
    let xs = c.args.simples.now in
    let turn : b.Leaves (sum_by simple_size (drop (i + 1) xs)) (sum_by simple_size xs + 1) (plus c.loop-simple.sum c.test_counts.result) =
    b.more simple_size xs (drop (i + 1) xs) i x (test_size (out-Simple x).test + 1) _ c.loop-simple.sum c.test_counts.result (b.here xs xs i x refl c.loop-simple-test.true c.simple-item.is)
    c.loop-simple.invariant.1 c.test_counts.ensures.bound (omega (arith, e.size_of_simple x)) in
    let P : Triple → Type 0 = λ s. (sum_from s (map simple_triple (drop (i + 1) xs)) ≡ sum_from c.args.first (map simple_triple xs)) × b.Leaves (sum_by simple_size (drop (i + 1) xs)) (sum_by simple_size xs + 1) s in
    let counted : c.test_counts.result ≡ simple_triple x = c.test_counts.ensures.value ∙ sym (e.at_simple x) in
    subst P (sym c.plus-sum.ensures) (
      ap (λ y. sum_from (plus c.loop-simple.sum y) (map simple_triple (drop (i + 1) xs))) counted
          ∙ ap (λ ys. sum_from c.loop-simple.sum (map simple_triple ys)) (sym (b.here xs xs i x refl c.loop-simple-test.true c.simple-item.is)) ∙ c.loop-simple.invariant.0,
      turn,
    )

pub test_counts-weighed-requires : goal.test_counts-weighed-requires
test_counts-weighed-requires t c =
    let size : test_size c.args.test.now ≡ sum_by compound_size c.as_slice.result.now = ap test_size c.in-Any.is ∙ e.size_of_any c.in-Any.weight c.in-Any.list ∙ ap (sum_by compound_size) (sym c.as_slice.ensures) in
    (search (rules, test.the_lemmas), omega (arith, size, c.requires))

pub test_counts-greatest_relative-requires : goal.test_counts-greatest_relative-requires
test_counts-greatest_relative-requires t c =
    let size : test_size c.args.test.now ≡ sum_by relative_size c.as_slice-in-Has.result.now = ap test_size c.in-Has.is ∙ e.size_of_has c.in-Has.list ∙ ap (sum_by relative_size) (sym c.as_slice-in-Has.ensures) in
    (search (rules, test.the_lemmas), omega (arith, size, c.requires))
