-- Rows that add no row to those on the axis of another one.
use Rattle.std.specs.Prelude.{◌≡◌, ℕ, ◌<◌, true, List, length}
use Rattle.doc_model.specs.declared.Axis.{Axis}
use Rattle.doc_model.specs.Axes.{on_axis}
use Rattle.doc_model.specs.Document.{Document}
use Rattle.doc_model.specs.RowLists.{has}

-- each row on the axis of x is on that of z
abbrev pub AddsNothing : Document → Axis → ℕ → ℕ → Type 0
AddsNothing doc a z x = (y : ℕ) → y < length doc → on_axis doc a x y ≡ true → on_axis doc a z y ≡ true

abbrev pub IsCovered : Document → Axis → List ℕ → ℕ → Type 0
IsCovered doc a few x = (z : ℕ) × (has z few ≡ true) × AddsNothing doc a z x

-- the few are some of the rows, and each of the rows is covered
pub record Covers (doc : Document) (a : Axis) (rows few : List ℕ) : Type 0 where
  pub some : (x : ℕ) → has x few ≡ true → has x rows ≡ true
  pub all : (x : ℕ) → has x rows ≡ true → IsCovered doc a few x
