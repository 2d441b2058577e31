use Rattle.std.proofs.Common.{◌≡◌, ℕ, ◌+◌, ◌-◌, ◌<◌, arith, sym, ◌∙◌, List, drop, take, length, length-drop}
use Rattle.std.proofs.lemmas.List.{drop_all, take_all}
use Rattle.query_script.specs.declared.script.Field.{Field}
use Rattle.page_records.proofs.BodyLemmas.{none_differ, first_differs, first_same}
use Rattle.page_records.proofs.bodies.differ.Goals as goal

pub loop-at-init : goal.loop-at-init
loop-at-init c = record {
  differ = rw (drop_all (length c.args.fields.now) c.args.fields.now (omega arith)) none_differ;
  order = omega arith;
}

-- what is looked at are the fields after this one
after_is : (fs : List Field) (i : ℕ) → take (length fs - i) (drop i fs) ≡ drop i fs
after_is fs i = take_all (length fs - i) (drop i fs) (omega (arith, length-drop i fs))

pub returns-then-has_name-clause-no : goal.returns-then-has_name-clause-no
returns-then-has_name-clause-no c =
    let within : c.loop-at.at - 1 < length c.args.fields.now = omega (arith, c.loop-at.invariant.order, c.loop-at-test.true) in
    λ _. first_same c.args.fields.now (c.loop-at.at - 1) c.index-fields-at.result within (rw (after_is c.args.fields.now (c.loop-at.at - 1 + 1)) at (sym c.has_name.ensures ∙ c.if-has_name.true))

pub loop-at-preserved : goal.loop-at-preserved
loop-at-preserved c =
    let within : c.loop-at.at - 1 < length c.args.fields.now = omega (arith, c.loop-at.invariant.order, c.loop-at-test.true) in
    let at : c.loop-at.at - 1 + 1 ≡ c.loop-at.at = omega (arith, c.loop-at-test.true) in
    record {
      differ = first_differs c.args.fields.now (c.loop-at.at - 1) c.index-fields-at.result within (rw at c.loop-at.invariant.differ)
          (rw (after_is c.args.fields.now (c.loop-at.at - 1 + 1)) at (sym c.has_name.ensures ∙ c.if-has_name.false));
      order = omega (arith, within);
    }
