use Rattle.doc_model.specs.KeptRows.{growing_of}
use Rattle.doc_model.proofs.Pushed.{comment_kept}
use Rattle.doc_model.proofs.growing_rows.GrowingRows.comment.Goals as goal

pub leaf-requires-clause-keeps : goal.leaf-requires-clause-keeps
leaf-requires-clause-keeps g c = comment_kept (growing_of c.args.self.now.rows.items c.args.self.now.unclosed.items) _ _ c.requires.nothing c.args.self.now.grown
