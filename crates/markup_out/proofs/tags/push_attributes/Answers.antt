use Rattle.std.proofs.Common.{◌≡◌, ◌+◌, ◌<◌, length, true, refl, sym, arith, ◌∙◌}
use Rattle.doc_model.specs.Document.{is_attribute}
use Rattle.markup_out.proofs.AddingLemmas.{none, both, same}
use Rattle.markup_out.proofs.AttributeRows.{attributes_start, attributes_passed, attributes_more, attributes_end, attributes_all}
use Rattle.markup_out.proofs.tags.push_attributes.Goals as goal

pub loop-r-init : goal.loop-r-init
loop-r-init g c =
    let doc = g.T.Tree.document c.args.tree.now in
    record {
      behind = omega arith;
      within = omega (arith, c.len-len.ensures);
      passed = λ z h k. absurd (omega (arith, h, k));
      adds = same _ _ _ _ (sym (attributes_start c.args.back doc c.args.x (c.args.x + 1) (g.met.T.Tree.is_document c.args.tree.now) refl)) (none c.args.out.now);
    }

pub loop-r-preserved : goal.loop-r-preserved
loop-r-preserved g c =
    let doc = g.T.Tree.document c.args.tree.now in
    let d = g.met.T.Tree.is_document c.args.tree.now in
    let i = c.loop-r.invariant in
    let is : is_attribute doc c.loop-r.r ≡ true = sym c.is_attribute.ensures ∙ c.if-is_attribute.true in
    let inside : c.loop-r.r < length doc = omega (arith, c.loop-r-test.true, c.len-len.ensures) in
    record {
      behind = omega (arith, i.behind);
      within = omega (arith, c.loop-r-test.true);
      passed = attributes_passed doc c.args.x c.loop-r.r d c.requires.element i.behind inside i.passed is;
      adds = same _ _ _ _ (sym (attributes_more c.args.back doc c.args.x c.loop-r.r d c.requires.element i.behind inside i.passed is)) (both _ _ _ _ _ i.adds c.in_ok-push_attribute.ensures);
    }

pub returns-else-is_attribute-clause-adds : goal.returns-else-is_attribute-clause-adds
returns-else-is_attribute-clause-adds g c =
    let doc = g.T.Tree.document c.args.tree.now in
    let d = g.met.T.Tree.is_document c.args.tree.now in
    let i = c.loop-r.invariant in
    let inside : c.loop-r.r < length doc = omega (arith, c.loop-r-test.true, c.len-len.ensures) in
    same _ _ _ _ (attributes_all c.args.back doc c.args.x c.loop-r.r d (attributes_end doc c.args.x c.loop-r.r i.behind (omega arith) i.passed (λ l. sym c.is_attribute.ensures ∙ c.if-is_attribute.false))) i.adds
