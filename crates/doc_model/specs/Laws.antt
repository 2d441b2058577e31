-- What holds of all documents.
use Rattle.std.specs.Prelude.{◌≡◌, ℕ, false, List, [], ◌∷◌, count_by}
use Rattle.doc_model.specs.declared.Axis.{Axis}
use Rattle.doc_model.specs.declared.Axis.TheVariants as axis
use Rattle.doc_model.specs.Axes.{on_axis}
use Rattle.doc_model.specs.Document.{Document, is_attribute, IsDocument}
use Rattle.doc_model.specs.Ends.{IsEnd}

-- a row has one end
abbrev pub OneEnd : Type 0
OneEnd = (doc : Document) (i e f : ℕ) → IsEnd doc i e → IsEnd doc i f → e ≡ f

-- the axes that part a document, attributes left aside
abbrev pub parting : List Axis
parting = axis.Ancestor ∷ axis.Descendant ∷ axis.Following ∷ axis.Preceding ∷ axis.OwnSelf ∷ []

-- each row that is no attribute is on exactly one of these axes of x
abbrev pub AxesPart : Type 0
AxesPart = (doc : Document) (x y : ℕ) → IsDocument doc → is_attribute doc y ≡ false → count_by (λ a. on_axis doc a x y) parting ≡ 1
