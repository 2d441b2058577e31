use Rattle.std.proofs.Common.{subst, sym}
use Rattle.doc_model.specs.Ends.{IsEnd}
use Rattle.doc_model.specs.KeptRows.{rows_of}
use Rattle.doc_model.proofs.Ending.{root_end}
use Rattle.doc_model.proofs.kept_rows.end_at.Goals as goal

pub returns-then-i-eq0 : goal.returns-then-i-eq0
returns-then-i-eq0 g c =
    let doc = rows_of c.args.rows.now in
    subst (λ i. IsEnd doc i c.count.result) (sym c.if-i-eq0.true) (subst (λ e. IsEnd doc 0 e) (sym c.count.ensures) (root_end doc c.requires.document))
