use Rattle.std.proofs.Common.{◌≡◌, codes, sym, ◌∙◌, ap, refl, arith, length, reverse, Some, ◌<◌, ◌+◌}
use Rattle.std.specs.Str.{chars}
use Rattle.css_selectors.specs.declared.selector.Op.TheVariants as op
use Rattle.css_meaning.specs.Attributes.{attribute_holds}
use Rattle.css_meaning.specs.Holding.{test_holds}
use Rattle.css_meaning.specs.inner.Searching.{leads_back}
use Rattle.css_meaning.proofs.Finding.{finds}
use Rattle.css_meaning.proofs.HoldsAt.{at_id, at_class, at_simples}
use Rattle.css_meaning.proofs.Relatives.{nothing_asked, on_by_rows}
use Rattle.css_meaning.proofs.SiblingWalks.{none_more, none_any}
use Rattle.css_meaning.proofs.SearchSteps as steps
use Rattle.css_meaning.proofs.matching.+matching.Goals as goal

pub test_holds-returns-in-Id : goal.test_holds-returns-in-Id
unfolding chars
test_holds-returns-in-Id g t c =
    let doc = g.T.Tree.document c.args.tree.now in
    let held : c.attribute_holds.result ≡ attribute_holds doc c.args.dialect (codes "id") op.Equals (chars c.as_str.result.now) c.args.e = c.attribute_holds.ensures in
    held
    ∙ (ap (λ v. attribute_holds doc c.args.dialect (codes "id") op.Equals v c.args.e) c.as_str.ensures.chars
    ∙ (sym (at_id doc c.args.dialect _ c.args.e)
    ∙ ap (λ u. test_holds doc c.args.dialect u c.args.e) (sym c.in-Id.is)))

pub test_holds-returns-in-Class : goal.test_holds-returns-in-Class
unfolding chars
test_holds-returns-in-Class g t c =
    let doc = g.T.Tree.document c.args.tree.now in
    let held : c.attribute_holds-in-Class.result ≡ attribute_holds doc c.args.dialect (codes "class") op.Word (chars c.as_str-in-Class.result.now) c.args.e = c.attribute_holds-in-Class.ensures in
    held
    ∙ (ap (λ v. attribute_holds doc c.args.dialect (codes "class") op.Word v c.args.e) c.as_str-in-Class.ensures.chars
    ∙ (sym (at_class doc c.args.dialect _ c.args.e)
    ∙ ap (λ u. test_holds doc c.args.dialect u c.args.e) (sym c.in-Class.is)))

pub leads_back-returns-then-is_empty : goal.leads_back-returns-then-is_empty
leads_back-returns-then-is_empty g t c =
    sym (steps.no_part (g.T.Tree.document c.args.tree.now) c.args.dialect c.args.from c.args.parts.now c.args.e (sym c.is_empty.ensures ∙ c.if-is_empty.true))

pub leads_back-tries-init : goal.leads_back-tries-init
leads_back-tries-init g t c =
    let r = c.start-search.ensures in
    let both = steps.begins_at (g.T.Tree.document c.args.tree.now) c.args.dialect c.args.from c.args.parts.now (g.met.T.Tree.is_document c.args.tree.now) c.start-search.result c.args.e
    r.at r.sibling r.ancestor (steps.some_part _ (sym c.is_empty.ensures ∙ c.if-is_empty.false)) c.requires.row in
    record { search = both.0; same = both.1 }

pub leads_back-returns-in-Found : goal.leads_back-returns-in-Found
leads_back-returns-in-Found g t c =
    let doc = g.T.Tree.document c.args.tree.now in
    let i = c.tries.invariant in
    sym (c.in-Found.ensures c.args.dialect c.args.parts.now c.index-parts-search.result i.search (sym c.index-parts-search.is) refl
    (c.element_holds-held.ensures ∙ at_simples doc c.args.dialect c.index-parts-search.result c.as_slice-simples.result.now c.tries.search.at.row c.as_slice-simples.ensures)) ∙ i.same

pub leads_back-returns-in-Failed : goal.leads_back-returns-in-Failed
leads_back-returns-in-Failed g t c =
    let doc = g.T.Tree.document c.args.tree.now in
    let i = c.tries.invariant in
    sym (c.in-Failed.ensures c.args.dialect c.args.parts.now c.index-parts-search.result i.search (sym c.index-parts-search.is) refl
    (c.element_holds-held.ensures ∙ at_simples doc c.args.dialect c.index-parts-search.result c.as_slice-simples.result.now c.tries.search.at.row c.as_slice-simples.ensures)) ∙ i.same

pub leads_back-tries-smaller : goal.leads_back-tries-smaller
leads_back-tries-smaller g t c =
    let doc = g.T.Tree.document c.args.tree.now in
    let i = c.tries.invariant in
    (c.in-Onward.ensures c.args.dialect c.args.parts.now c.index-parts-search.result i.search (sym c.index-parts-search.is) refl
    (c.element_holds-held.ensures ∙ at_simples doc c.args.dialect c.index-parts-search.result c.as_slice-simples.result.now c.tries.search.at.row c.as_slice-simples.ensures)).less

pub leads_back-tries-preserved : goal.leads_back-tries-preserved
leads_back-tries-preserved g t c =
    let doc = g.T.Tree.document c.args.tree.now in
    let i = c.tries.invariant in
    let o = c.in-Onward.ensures c.args.dialect c.args.parts.now c.index-parts-search.result i.search (sym c.index-parts-search.is) refl
    (c.element_holds-held.ensures ∙ at_simples doc c.args.dialect c.index-parts-search.result c.as_slice-simples.result.now c.tries.search.at.row c.as_slice-simples.ensures) in
    record { search = o.search; same = o.same ∙ i.same }

pub leads_on-returns-then-is_empty : goal.leads_on-returns-then-is_empty
leads_on-returns-then-is_empty g t c =
    sym (nothing_asked (g.T.Tree.document c.args.tree.now) c.args.dialect c.args.relative.now c.as_slice-parts.result.now c.args.e c.as_slice-parts.ensures (sym c.is_empty.ensures ∙ c.if-is_empty.true))

pub leads_on-returns-then-leads_back : goal.leads_on-returns-then-leads_back
leads_on-returns-then-leads_back g t c =
    let doc = g.T.Tree.document c.args.tree.now in
    let ps = c.as_slice-parts.result.now in
    let y = c.loop-y.y in
    let within : y < length doc = omega (arith, c.loop-y-test.true, c.len-y-end.ensures) in
    sym (on_by_rows doc c.args.dialect c.args.relative.now ps c.args.e c.as_slice-parts.ensures (sym c.is_empty.ensures ∙ c.if-is_empty.false) c.requires
    ∙ finds (leads_back doc c.args.dialect (Some c.args.e) (reverse ps)) 0 (length doc) y (omega arith) (omega arith) (sym c.leads_back.ensures ∙ c.if-leads_back.true))

pub leads_on-loop-y-preserved : goal.leads_on-loop-y-preserved
leads_on-loop-y-preserved g t c =
    let doc = g.T.Tree.document c.args.tree.now in
    none_more (leads_back doc c.args.dialect (Some c.args.e) (reverse c.as_slice-parts.result.now)) c.loop-y.y (c.loop-y.y + 1) c.loop-y.invariant (sym c.leads_back.ensures ∙ c.if-leads_back.false)
    (λ z l m. absurd (omega (arith, l, m)))

pub leads_on-returns : goal.leads_on-returns
leads_on-returns g t c =
    let doc = g.T.Tree.document c.args.tree.now in
    let ps = c.as_slice-parts.result.now in
    sym (on_by_rows doc c.args.dialect c.args.relative.now ps c.args.e c.as_slice-parts.ensures (sym c.is_empty.ensures ∙ c.if-is_empty.false) c.requires
    ∙ none_any (leads_back doc c.args.dialect (Some c.args.e) (reverse ps)) (length doc) (λ z l. c.loop-y.invariant z (omega (arith, l, c.loop-y-test.false, c.len-y-end.ensures))))
