use Rattle.std.proofs.Common.{ap, sym, ◌∙◌, subst, ℕ, ◌||◌, List, [], length, take, get_or}
use Rattle.std.proofs.lemmas.List.{take_more}
use Rattle.doc_model.specs.Axes.{axis_list}
use Rattle.doc_model.specs.RowLists.{has}
use Rattle.xpath_eval.proofs.Gathers as gathers
use Rattle.xpath_eval.proofs.Kept as kept
use Rattle.xpath_eval.proofs.axis_steps.from_rows.Goals as goal

pub loop-x-init : goal.loop-x-init
loop-x-init g c =
    let doc = g.S.Tree.document c.args.source.now in
    let w : ℕ → List ℕ = λ v. axis_list doc v c.args.axis c.args.test.now in
    subst (λ v. gathers.Gathered (length doc) [] w v) (sym c.new-found.ensures.items) (gathers.gathered_none (length doc) w)

pub loop-x-preserved : goal.loop-x-preserved
loop-x-preserved g c =
    let doc = g.S.Tree.document c.args.source.now in
    let w : ℕ → List ℕ = λ v. axis_list doc v c.args.axis c.args.test.now in
    let xs = c.args.rows.now in
    let i = c.loop-x.x-index in
    let x = get_or xs i 0 in
    subst (λ v. gathers.Gathered (length doc) v w c.in_ok-found.found.items) (sym (take_more xs i 0 c.loop-x-test.true))
    (gathers.gathered_more (length doc) (take i xs) x w c.loop-x.found.items c.in_ok-found.found.items c.loop-x.invariant (kept.axis_below doc x c.args.axis c.args.test.now)
    (λ y. c.in_ok-found.ensures y ∙ ap (λ v. has y c.loop-x.found.items || has y v) (c.as_slice.ensures.value ∙ c.in_ok-axis_into.ensures.ok)))

pub returns : goal.returns
returns g c =
    let doc = g.S.Tree.document c.args.source.now in
    let w : ℕ → List ℕ = λ v. axis_list doc v c.args.axis c.args.test.now in
    gathers.gathered_whole doc c.args.rows.now c.loop-x.x-index w c.loop-x.found.items c.ordered.result.items
    c.loop-x.invariant c.loop-x-test.false c.ordered.ensures.same c.ordered.ensures.order
