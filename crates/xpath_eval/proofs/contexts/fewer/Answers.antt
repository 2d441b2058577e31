use Rattle.std.proofs.Common.{◌≡◌, sym, subst, false, [], ◌<◌, ◌+◌, length, take, get_or}
use Rattle.std.specs.Prelude.{not}
use Rattle.std.proofs.lemmas.List.{take_more}
use Rattle.std.proofs.lemmas.List.Elements.{All-nil}
use Rattle.xpath_eval.specs.inner.Contexts.{Covers, IsCovered}
use Rattle.doc_model.specs.RowLists.{AllBelow}
use Rattle.xpath_eval.proofs.Covering as covering
use Rattle.xpath_eval.proofs.contexts.fewer.Goals as goal

pub loop-x-init : goal.loop-x-init
loop-x-init g c =
    let doc = g.T.Tree.document c.args.tree.now in
    let none : [] ≡ c.new-few.result.items = sym c.new-few.ensures.items in
    record { covers = subst (λ v. Covers doc c.args.axis [] v) none (covering.covers_none doc c.args.axis); below = subst (AllBelow (length doc)) none (All-nil (λ y. y < length doc)) }

pub loop-x-preserved : goal.loop-x-preserved
loop-x-preserved g c =
    let doc = g.T.Tree.document c.args.tree.now in
    let xs = c.args.rows.now in
    let i = c.loop-x.x-index in
    let x = get_or xs i 0 in
    let covered : not c.is_covered-wanted.result ≡ false → IsCovered doc c.args.axis c.loop-x.few.items x =
    λ told. subst (λ v. IsCovered doc c.args.axis v x) c.as_slice.ensures.value (c.is_covered-wanted.ensures (covering.not_false_true _ told)) in
    let more = subst (λ v. Covers doc c.args.axis v c.push_if.new.rows.items) (sym (take_more xs i 0 c.loop-x-test.true))
    (covering.covers_more doc c.args.axis (take i xs) c.loop-x.few.items c.push_if.new.rows.items x (not c.is_covered-wanted.result) c.loop-x.invariant.covers covered c.in_ok-push_if.ensures) in
    record { covers = more; below = covering.covers_below doc c.args.axis (length doc) (take (i + 1) xs) c.push_if.new.rows.items more (covering.all_take (i + 1) (length doc) xs c.requires) }
