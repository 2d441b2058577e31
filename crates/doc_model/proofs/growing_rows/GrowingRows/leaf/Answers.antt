use Rattle.std.proofs.Common.{ap, ◌+◌}
use Rattle.doc_model.specs.KeptRows.{growing_of}
use Rattle.doc_model.proofs.Pushed.{leaf_growing, leaf_keeps, same_leaf}
use Rattle.doc_model.proofs.growing_rows.GrowingRows.leaf.Goals as goal

pub invariant_of-self-clause-grown : goal.invariant_of-self-clause-grown
invariant_of-self-clause-grown g c =
    leaf_growing c.args.self.now.rows.items _ _ _ c.args.self.now.unclosed.items c.push.ensures.items c.args.self.now.grown (same_leaf (growing_of c.args.self.now.rows.items c.args.self.now.unclosed.items) c.args.kind (g.X.RowText.characters c.args.name) (g.X.RowText.characters c.args.text) _ _ c.innermost.ensures c.requires.keeps)

pub invariant_of-self-clause-ends : goal.invariant_of-self-clause-ends
invariant_of-self-clause-ends g c =
    leaf_keeps c.args.self.now.rows.items _ _ _ c.args.self.now.unclosed.items c.push.ensures.items c.args.self.now.grown (same_leaf (growing_of c.args.self.now.rows.items c.args.self.now.unclosed.items) c.args.kind (g.X.RowText.characters c.args.name) (g.X.RowText.characters c.args.text) _ _ c.innermost.ensures c.requires.keeps)
    c.innermost.ensures (ap (λ n. n + 1) c.next.ensures) c.args.self.now.ends
