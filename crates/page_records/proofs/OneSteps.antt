-- The steps of a block are kept in one way at most, or refused for one reason, and not both.
use Rattle.std.proofs.Common.{◌≡◌, ◌⊎◌, Bool, true, false, List, [], ◌∷◌, refl, sym, ◌∙◌, subst, inl, inr}
use Rattle.test_registry.specs.Names.{Known}
use Rattle.css_selectors.specs.declared.selector.Dialect.{Dialect}
use Rattle.xpath_parser.specs.Laws.{NeverBoth}
use Rattle.query_script.specs.declared.script.ChainStep.{ChainStep}
use Rattle.query_script.specs.declared.script.Reason.{Reason}
use Rattle.query_script.specs.declared.steps.RawStep.{RawStep}
use Rattle.query_script.specs.declared.steps.RawStep.TheVariants as raw
use Rattle.query_script.proofs.OneStep.{one_kept, one_refused, kept_or_refused}
use Rattle.page_records.specs.Blocks.{IsQueryKept, AreRowSteps, IsStepRefused, IsFirstRefused}

module _ (tests : Known) (d : Dialect) where
  -- a step is refused here or later
  abbrev Place : Bool → RawStep → List RawStep → Reason → Type 0
  Place nodes r steps why =
      IsStepRefused tests d nodes r why ⊎ ((t : ChainStep) × ((after : Bool) × (IsQueryKept tests d nodes r t after × IsFirstRefused tests d after steps why)))

  one_row : (nodes : Bool) (r : RawStep) (s t : ChainStep) (n m : Bool) → IsQueryKept tests d nodes r s n → IsQueryKept tests d nodes r t m → (s ≡ t) × (n ≡ m)
  one_row nodes r s t n m h g = one_kept tests d nodes r s t n m h.1 g.1

  one_reason : (nodes : Bool) (r : RawStep) (why other : Reason) → IsStepRefused tests d nodes r why → IsStepRefused tests d nodes r other → why ≡ other
  one_reason nodes (raw.Css text) why other h g = one_refused tests d nodes (raw.Css text) why other h g
  one_reason nodes (raw.XPath text) why other h g = one_refused tests d nodes (raw.XPath text) why other h g
  one_reason nodes (raw.Re text) why other h g = h ∙ sym g
  one_reason nodes (raw.Keep name text) why other h g = h ∙ sym g

  pub one_rows : (nodes : Bool) (steps : List RawStep) (kept other : List ChainStep) → AreRowSteps tests d nodes steps kept → AreRowSteps tests d nodes steps other → kept ≡ other
  one_rows nodes [] [] [] h g = refl
  one_rows nodes [] [] (t ∷ other) h g = absurd g
  one_rows nodes [] (s ∷ kept) other h g = absurd h
  one_rows nodes (r ∷ steps) [] other h g = absurd h
  one_rows nodes (r ∷ steps) (s ∷ kept) [] h g = absurd g
  one_rows nodes (r ∷ steps) (s ∷ kept) (t ∷ other) h g =
      let first = one_row nodes r s t h.0 g.0 h.1.0 g.1.0 in
      let P : Bool → Type 0 = λ b. AreRowSteps tests d b steps other in
      let rest : kept ≡ other = one_rows h.0 steps kept other h.1.1 (subst P (sym first.1) g.1.1) in
      cc

  module _ (never_both : NeverBoth) where
    row_or_refused : (nodes : Bool) (r : RawStep) (s : ChainStep) (n : Bool) (why : Reason) → IsQueryKept tests d nodes r s n → IsStepRefused tests d nodes r why → ⊥
    row_or_refused nodes (raw.Css text) s n why h g = kept_or_refused tests d never_both nodes (raw.Css text) s n why h.1 g
    row_or_refused nodes (raw.XPath text) s n why h g = kept_or_refused tests d never_both nodes (raw.XPath text) s n why h.1 g
    row_or_refused nodes (raw.Re text) s n why h g = let clash : false ≡ true = h.0 in cc
    row_or_refused nodes (raw.Keep name text) s n why h g = let clash : false ≡ true = h.0 in cc

    pub rows_or_refused : (nodes : Bool) (steps : List RawStep) (kept : List ChainStep) (why : Reason) → AreRowSteps tests d nodes steps kept → IsFirstRefused tests d nodes steps why → ⊥
    rows_or_refused nodes [] [] why h g = let clash : true ≡ false = sym h ∙ g.0 in cc
    rows_or_refused nodes [] (s ∷ kept) why h g = h
    rows_or_refused nodes (r ∷ steps) [] why h g = h
    rows_or_refused nodes (r ∷ steps) (s ∷ kept) why h g = by_place (λ q. rows_or_refused h.0 steps kept why h.1.1 q) g
      where
        by_place : (IsFirstRefused tests d h.0 steps why → ⊥) → Place nodes r steps why → ⊥
        by_place go (inl here) = row_or_refused nodes r s h.0 why h.1.0 here
        by_place go (inr later) =
            let same = one_row nodes r s later.0 h.0 later.1.0 h.1.0 later.1.1.0 in
            let P : Bool → Type 0 = λ b. IsFirstRefused tests d b steps why in
            go (subst P (sym same.1) later.1.1.1)

    pub one_first : (nodes : Bool) (steps : List RawStep) (why other : Reason) → IsFirstRefused tests d nodes steps why → IsFirstRefused tests d nodes steps other → why ≡ other
    one_first nodes [] why other h g = h.1 ∙ sym g.1
    one_first nodes (r ∷ steps) why other h g = by_both (λ b p q. one_first b steps why other p q) h g
      where
        by_both : ((b : Bool) → IsFirstRefused tests d b steps why → IsFirstRefused tests d b steps other → why ≡ other) → Place nodes r steps why → Place nodes r steps other → why ≡ other
        by_both go (inl here) (inl there) = one_reason nodes r why other here there
        by_both go (inl here) (inr later) = absurd (row_or_refused nodes r later.0 later.1.0 why later.1.1.0 here)
        by_both go (inr later) (inl here) = absurd (row_or_refused nodes r later.0 later.1.0 other later.1.1.0 here)
        by_both go (inr a) (inr b) =
            let same = one_row nodes r a.0 b.0 a.1.0 b.1.0 a.1.1.0 b.1.1.0 in
            let P : Bool → Type 0 = λ x. IsFirstRefused tests d x steps other in
            go a.1.0 a.1.1.1 (subst P (sym same.1) b.1.1.1)
