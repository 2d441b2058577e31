use Rattle.std.proofs.Common.{◌≡◌, [], subst, sym, ap, ◌∙◌, arith}
use Rattle.std.specs.Prelude.{encode_utf8_all}
use Rattle.std.specs.Str.{chars}
use Rattle.std.proofs.lemmas.List.{length-map}
use Rattle.std.proofs.lemmas.Str.{chars-nil}
use Rattle.doc_model.specs.Document.{Row, row}
use Rattle.doc_model.specs.KeptRows.{Kept, rows_of}
use Rattle.doc_model.proofs.KeptReads.{kept_at}
use Rattle.doc_model.proofs.kept_rows.text_at.Goals as goal

pub returns-then-i-eq0-clause-chars : goal.returns-then-i-eq0-clause-chars
returns-then-i-eq0-clause-chars g c = subst (λ i. chars [] ≡ (row (rows_of c.args.rows.now) i).text) (sym c.if-i-eq0.true) chars-nil

pub returns-clause-chars : goal.returns-clause-chars
returns-clause-chars g c =
    let same = kept_at c.args.rows.now c.args.i c.index-rows-i.result c.index-rows-i.is c.if-i-eq0.false (omega (arith, c.requires, length-map c.args.rows.now (λ (r : Kept). r.row))) in
    c.as_str.ensures.chars ∙ ap (λ (r : Kept). r.row.text) c.row.view_is ∙ ap (λ (r : Row). r.text) (sym same)

pub returns-clause-bytes : goal.returns-clause-bytes
returns-clause-bytes g c =
    let same = kept_at c.args.rows.now c.args.i c.index-rows-i.result c.index-rows-i.is c.if-i-eq0.false (omega (arith, c.requires, length-map c.args.rows.now (λ (r : Kept). r.row))) in
    c.as_str.ensures.bytes ∙ ap (λ (r : Kept). encode_utf8_all r.row.text) c.row.view_is ∙ ap (λ (r : Row). encode_utf8_all r.text) (sym same)
