use Rattle.std.proofs.Common.{[], subst, sym}
use Rattle.doc_model.specs.Document.{IsDocument}
use Rattle.doc_model.specs.KeptRows.{rows_of, ends_of, AreEnds}
use Rattle.arena_tree.proofs.grow.ArenaGrowGrow.finish.Goals as goal

pub invariant_of-result-clause-document : goal.invariant_of-result-clause-document
invariant_of-result-clause-document c = subst (λ rows. IsDocument (rows_of rows)) (sym c.into_bump_slice.ensures) c.into_rows.ensures.document

pub invariant_of-result-clause-ends : goal.invariant_of-result-clause-ends
invariant_of-result-clause-ends c = subst (λ rows. AreEnds (rows_of rows) [] (ends_of rows)) (sym c.into_bump_slice.ensures) c.into_rows.ensures.ends
