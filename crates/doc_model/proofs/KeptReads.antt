-- Rows that are read from those that are kept.
use Rattle.std.proofs.Common.{◌≡◌, ℕ, zero, suc, ◌+◌, ◌-◌, ◌<◌, List, [], ◌∷◌, map, length, get_or, sym, ap, arith}
use Rattle.doc_model.specs.Document.{no_row, row}
use Rattle.doc_model.specs.KeptRows.{Kept, rows_of}

at_item : (rows : List Kept) (k : ℕ) (r : Kept) → r ≡ get_or rows k r → k < length rows → get_or (map (λ (r : Kept). r.row) rows) k no_row ≡ r.row
at_item [] k r e h = absurd (omega arith)
at_item (q ∷ rs) zero r e h = ap (λ (r : Kept). r.row) (sym e)
at_item (q ∷ rs) (suc k) r e h = at_item rs k r e (omega arith)

-- the row of a number, as it is kept
pub kept_at : (rows : List Kept) (i : ℕ) (r : Kept) → r ≡ get_or rows (i - 1) r → (i ≡ 0 → ⊥) → i < length rows + 1 → row (rows_of rows) i ≡ r.row
kept_at rows zero r e some l = absurd (omega arith)
kept_at rows (suc i) r e some l = let k : suc i - 1 ≡ i = omega arith in at_item rows i r (rw k at e) (omega arith)
