use Rattle.std.proofs.Common.{◌++◌, sym, ◌∙◌, ap, cond, ◌∷◌, []}
use Rattle.std.specs.Str.{chars}
use Rattle.step_index.specs.Named.{is_named}
use Rattle.step_index.proofs.Filled as filled
use Rattle.step_index.proofs.names.Names.of.Goals as goal

pub loop-y-preserved : goal.loop-y-preserved
loop-y-preserved g c =
    let doc = g.T.Tree.document c.args.tree.now in
    record {
      rows = λ q u.
          c.in_ok-push_row.ensures.rows q u ∙ ap (λ v. v ++ cond (is_named doc (chars q) c.loop-y.y) (c.loop-y.y ∷ []) []) (c.loop-y.invariant.rows q u) ∙ sym (filled.named_more doc (chars q) c.loop-y.y);
      texts = filled.texts_more doc c.loop-y.y c.loop-y.invariant.texts c.in_ok-push_row.ensures.text;
    }
