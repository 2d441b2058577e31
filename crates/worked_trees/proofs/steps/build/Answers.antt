use Rattle.std.proofs.Common.{◌+◌, length, sym, ap, ◌∙◌, arith}
use Rattle.doc_model.specs.Growing.{Growing}
use Rattle.doc_model.specs.KeptRows.{growing_of}
use Rattle.doc_model.specs.declared.vec_grow.VecGrow.{VecGrow}
use Rattle.worked_trees.proofs.Rows.{commented, closed}
use Rattle.worked_trees.proofs.steps.build.Goals as goal
use Rattle.worked_trees.proofs.steps.build.Goals.{in-Start+in_ok-start-in-Start, in-Comment+in_ok-comment-in-Comment, in-End+else-depth-eq0}

of : VecGrow → Growing
of v = growing_of v.kept.rows.items v.kept.unclosed.items

pub loop-step-preserved : goal.loop-step-preserved
unfolding of
loop-step-preserved c =
    let i = c.loop-step.invariant in
    elim c.match-step.branch [
      | in-Start+in_ok-start-in-Start w ↦ record {
        rows = let e = ap (λ v. length (of v).rows) w.grow-is in omega (arith, e, w.in_ok-start-in-Start.ensures.rows, i.rows);
        depth = ap (λ v. length (of v).open_rows) w.grow-is ∙ w.in_ok-start-in-Start.ensures.open_rows ∙ ap (λ n. n + 1) i.depth ∙ sym w.depth-is;
        few = omega (arith, w.depth-is, i.few);
      }
      | in-Comment+in_ok-comment-in-Comment w ↦ record {
        rows = let e = ap (λ v. length (of v).rows) w.grow-is in omega (arith, e, commented (of w.comment.new.self) (of c.loop-step.grow) _ w.in_ok-comment-in-Comment.ensures.ok, i.rows);
        depth = ap (λ v. length (of v).open_rows) w.grow-is ∙ ap (λ (s : Growing). length s.open_rows) w.in_ok-comment-in-Comment.ensures.ok ∙ i.depth ∙ sym w.depth-is;
        few = omega (arith, w.depth-is, i.few);
      }
      | in-End+else-depth-eq0 w ↦ record {
        rows = let e = ap (λ v. length (of v).rows) w.grow-is in let f = ap (λ (s : Growing). length s.rows) w.close.ensures in omega (arith, e, f, i.rows);
        depth = ap (λ v. length (of v).open_rows) w.grow-is ∙ ap (λ (s : Growing). length s.open_rows) w.close.ensures ∙ closed _ _ i.depth w.if-depth-eq0.false ∙ sym w.depth-is;
        few = omega (arith, w.depth-is, i.few);
      }
    ]
