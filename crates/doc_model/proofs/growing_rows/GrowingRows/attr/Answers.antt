use Rattle.doc_model.specs.KeptRows.{growing_of}
use Rattle.doc_model.proofs.Grown.{grown_attr}
use Rattle.doc_model.proofs.growing_rows.GrowingRows.attr.Goals as goal

pub leaf-requires-clause-keeps : goal.leaf-requires-clause-keeps
leaf-requires-clause-keeps g c = grown_attr (growing_of c.args.self.now.rows.items c.args.self.now.unclosed.items) _ _ c.args.self.now.grown c.requires.name c.requires.awaits
