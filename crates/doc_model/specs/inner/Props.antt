-- That a list of rows is a document can be known in one way only, so that a struct may hold it.
use Rattle.std.proofs.Common.{◌≡◌, ℕ, List, [], ◌∷◌, ap, inl, inr, ◌⊎◌}
use denote.Struct.Props.{props}
use Rattle.doc_model.specs.declared.Kind.{Kind}
use Rattle.doc_model.specs.declared.Kind.TheVariants.{Root, Element}
use Rattle.doc_model.specs.Document.{Document, IsDocument}
use Rattle.doc_model.specs.Growing.{Growing, IsChain, IsGrowing}

either_prop : {A B : Type 0} → IsProp A → IsProp B → (A → B → ⊥) → IsProp (A ⊎ B)
either_prop a b apart (inl x) (inl y) = ap inl (a x y)
either_prop a b apart (inl x) (inr y) = absurd (apart x y)
either_prop a b apart (inr x) (inl y) = absurd (apart y x)
either_prop a b apart (inr x) (inr y) = ap inr (b x y)

owner_prop : (k : Kind) → IsProp ((k ≡ Root) ⊎ (k ≡ Element))
owner_prop k = either_prop (hlevel props) (hlevel props) (λ h e. cc)

pub is_document_prop : (doc : Document) → IsProp (IsDocument doc)
is_document_prop doc = hlevel (props, owner_prop)

chain_prop : (doc : Document) (ns : List ℕ) → IsProp (IsChain doc ns)
chain_prop doc [] = hlevel props
chain_prop doc (n ∷ ns) = hlevel (props, chain_prop doc ns)

pub is_growing_prop : (g : Growing) → IsProp (IsGrowing g)
is_growing_prop g = hlevel (props, owner_prop, chain_prop)
