-- Which of the endings makes a beginning go on.
use Rattle.std.proofs.Common.{◌≡◌, ℕ, ◌+◌, ◌<◌, ◌≤◌, Bool, List, [], length, get_or, Any, Bor, sym, ◌∙◌, ap, subst, arith, inl, inr}
use Rattle.std.proofs.lemmas.Bool.{cases_lt}
use Rattle.std.proofs.lemmas.List.{get_or-map, get_or_default, length-map}
use Rattle.text_base.specs.Names.{texts}
use Rattle.text_base.specs.Text.{run_end}
use Rattle.refusal_places.specs.Beginnings.{IsLongest, IsPlaceOf}

-- the text of a name in the table
pub named : (names : List (Bor (List ℕ))) (i : ℕ) (d : Bor (List ℕ)) → i < length names → get_or (texts names) i [] ≡ (get_or names i d).now
named names i d l = get_or-map (λ (n : Bor (List ℕ)). n.now) names i d [] l

module _ (P : List ℕ → Type 0) (names : List (Bor (List ℕ))) (i : ℕ) (none : (k : ℕ) → k < i → P (get_or (texts names) k []) → ⊥) where
  -- none so far, and not this one
  pub none_more : (d : Bor (List ℕ)) → i < length names → (P (get_or names i d).now → ⊥) → (k : ℕ) → k < i + 1 → P (get_or (texts names) k []) → ⊥
  none_more d l fails k below p =
      elim (cases_lt k i) [
        | inl before ↦ none k before p
        | inr past ↦ fails (subst P (ap (λ j. get_or (texts names) j []) (let e : k ≡ i = omega arith in e) ∙ named names i d l) p)
      ]

  -- none at all
  pub none_of : length names ≤ i → Any P (texts names) → ⊥
  none_of end any =
      let l : any.0 < length names = omega (arith, any.2, length-map names (λ (n : Bor (List ℕ)). n.now)) in
      none any.0 (omega arith) (subst P (sym any.3 ∙ get_or_default (texts names) any.0 any.1 [] any.2) any.4)

-- the place after the longest beginning, where the table has the endings
pub placed : (Goes : List ℕ → List ℕ → Type 0) (is_white : ℕ → Bool) (text : List ℕ) (names endings : List (List ℕ)) (size place : ℕ)
    → names ≡ endings → IsLongest (λ beginning. Any (Goes beginning) names) text size → place ≡ run_end is_white text size → IsPlaceOf (λ beginning. Any (Goes beginning) endings) is_white text place
placed Goes is_white text names endings size place e longest after = record {
  size = size;
  longest = subst (λ es. IsLongest (λ beginning. Any (Goes beginning) es) text size) e longest;
  after = after;
}
