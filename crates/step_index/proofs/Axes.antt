-- The axes that go down, by a name.
use Rattle.std.proofs.Common.{◌≡◌, ℕ, ◌<◌, length, cond, List, [], ◌∷◌, ◌++◌, sym, ◌∙◌, ap, append_assoc}
use Rattle.doc_model.specs.declared.Axis.{Axis}
use Rattle.doc_model.specs.declared.Axis.TheVariants as axis
use Rattle.doc_model.specs.declared.NodeTest.{NodeTest}
use Rattle.doc_model.specs.declared.NodeTest.TheVariants as test
use Rattle.doc_model.specs.Document.{Document, IsDocument}
use Rattle.doc_model.specs.Axes.{axis_list}
use Rattle.doc_model.specs.RowLists.{IsFront}
use Rattle.step_index.specs.Named.{is_named, named_below, GrowsByFront}
use Rattle.step_index.proofs.Places.{descendants, with_self}

-- as the code says it
pub down : (doc : Document) (x : ℕ) (a : Axis) (t : NodeTest) (n : List ℕ) → a ≡ axis.Descendant → t ≡ test.Name n → axis_list doc x a t ≡ named_below doc x n
down doc x a t n e f = ap (λ b. axis_list doc x b t) e ∙ ap (axis_list doc x axis.Descendant) f ∙ descendants doc x n

pub down_self : (doc : Document) (x : ℕ) (a : Axis) (t : NodeTest) (n : List ℕ) → IsDocument doc → x < length doc → a ≡ axis.DescendantOrSelf → t ≡ test.Name n
    → axis_list doc x a t ≡ cond (is_named doc n x) (x ∷ []) [] ++ named_below doc x n
down_self doc x a t n d l e f = ap (λ b. axis_list doc x b t) e ∙ ap (axis_list doc x axis.DescendantOrSelf) f ∙ with_self doc x n d l

pub front_behind : (old first out new answers all : List ℕ) → old ≡ [] → out ≡ old ++ first → all ≡ first ++ answers → GrowsByFront out new answers → IsFront new all
front_behind old first out new answers all e o f h =
    (h.2.0, f ∙ ap (λ v. first ++ v) h.2.1 ∙ sym (append_assoc first h.0 h.2.0) ∙ ap (λ v. v ++ h.2.0) (sym (h.1 ∙ ap (λ v. v ++ h.0) (o ∙ ap (λ v. v ++ first) e))))

pub all_behind : (old first out new answers all : List ℕ) → old ≡ [] → out ≡ old ++ first → all ≡ first ++ answers → new ≡ out ++ answers → new ≡ all
all_behind old first out new answers all e o f h = h ∙ ap (λ v. v ++ answers) (o ∙ ap (λ v. v ++ first) e) ∙ sym f
