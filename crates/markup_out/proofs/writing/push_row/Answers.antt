use Rattle.std.proofs.Common.{◌<◌, sym, ◌∙◌, arith, subst}
use Rattle.doc_model.specs.Document.{row}
use Rattle.doc_model.specs.Ends.{IsEnd}
use Rattle.markup_out.proofs.OpenRows.{Going, starts, next_child, opens, at_end, closes, closes_all, closed_parent, goes_on_over}
use Rattle.markup_out.proofs.writing.push_row.Goals as goal

pub rows-init : goal.rows-init
rows-init g c =
    let doc = g.T.Tree.document c.args.tree.now in
    record { inside = c.requires; ends = c.end-end.ensures; going = starts c.args.back doc c.args.i c.in_ok-y.y c.args.out.now c.push_before.new.out c.in_ok-y.ensures.adds c.in_ok-y.ensures.begins }

pub returns-then-is_over : goal.returns-then-is_over
returns-then-is_over g c =
    let doc = g.T.Tree.document c.args.tree.now in
    goes_on_over c.args.back doc c.args.i c.rows.owner c.rows.y c.args.out.now c.rows.out (sym c.is_over.ensures ∙ c.if-is_over.true) c.rows.invariant.going

pub rows-preserved-then-y-end : goal.rows-preserved-then-y-end
rows-preserved-then-y-end g c =
    let doc = g.T.Tree.document c.args.tree.now in
    let child = next_child doc c.rows.owner c.rows.y c.rows.end c.rows.invariant.ends c.if-y-end.true c.rows.invariant.going.next in
    record {
      inside = child.1;
      ends = c.end-end-then-y-end.ensures;
      going =
          opens c.args.back doc c.args.i c.rows.owner c.rows.y c.in_ok-y-2.y c.args.out.now c.rows.out c.push_before-then-y-end.new.out (g.met.T.Tree.is_document c.args.tree.now) child.0 child.1 c.rows.invariant.going
          c.in_ok-y-2.ensures.adds c.in_ok-y-2.ensures.begins;
    }

pub returns-then-owner-i : goal.returns-then-owner-i
returns-then-owner-i g c =
    let doc = g.T.Tree.document c.args.tree.now in
    let d = g.met.T.Tree.is_document c.args.tree.now in
    let end = at_end doc c.rows.owner c.rows.y c.rows.end d c.rows.invariant.ends c.if-y-end.false c.rows.invariant.going.next in
    closes_all c.args.back doc c.args.i c.rows.owner c.rows.y c.args.out.now c.rows.out c.push_after.new.out d c.if-owner-i.true end c.rows.invariant.going c.in_ok-push_after.ensures

pub end-end-requires-else-y-end : goal.end-end-requires-else-y-end
end-end-requires-else-y-end g c =
    let doc = g.T.Tree.document c.args.tree.now in
    let up : (row doc c.rows.owner).parent < c.rows.owner = closed_parent c.args.back doc c.args.i c.rows.owner c.rows.y c.args.out.now c.rows.out (g.met.T.Tree.is_document c.args.tree.now) c.if-owner-i.false c.rows.invariant.going in
    omega (arith, c.parent-owner.ensures, c.rows.invariant.inside)

pub rows-smaller : goal.rows-smaller
rows-smaller g c =
    let doc = g.T.Tree.document c.args.tree.now in
    let up : (row doc c.rows.owner).parent < c.rows.owner = closed_parent c.args.back doc c.args.i c.rows.owner c.rows.y c.args.out.now c.rows.out (g.met.T.Tree.is_document c.args.tree.now) c.if-owner-i.false c.rows.invariant.going in
    omega (arith, c.parent-owner.ensures)

pub rows-preserved : goal.rows-preserved
rows-preserved g c =
    let doc = g.T.Tree.document c.args.tree.now in
    let d = g.met.T.Tree.is_document c.args.tree.now in
    let end = at_end doc c.rows.owner c.rows.y c.rows.end d c.rows.invariant.ends c.if-y-end.false c.rows.invariant.going.next in
    let up : (row doc c.rows.owner).parent < c.rows.owner = closed_parent c.args.back doc c.args.i c.rows.owner c.rows.y c.args.out.now c.rows.out d c.if-owner-i.false c.rows.invariant.going in
    let parent = c.parent-owner.ensures in
    record {
      inside = omega (arith, parent, c.rows.invariant.inside);
      ends = c.end-end-else-y-end.ensures;
      going =
          subst (λ v. Going c.args.back doc c.args.i v c.rows.y c.args.out.now c.push_after.new.out) (sym parent)
          (closes c.args.back doc c.args.i c.rows.owner c.rows.y c.end-end-else-y-end.result c.args.out.now c.rows.out c.push_after.new.out d c.if-owner-i.false end
          (subst (λ v. IsEnd doc v c.end-end-else-y-end.result) parent c.end-end-else-y-end.ensures) c.rows.invariant.going c.in_ok-push_after.ensures);
    }
