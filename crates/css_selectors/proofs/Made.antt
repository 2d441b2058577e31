-- How a simple is shown to be well made, by the layer of its test, and a part by its fields.
use Rattle.std.proofs.Common.{◌≡◌, refl, sym, ap, subst, ℕ, zero, suc, Bool, true, false, List, [], ◌∷◌, Option, Some, None, true≢false, arith, codes}
use Rattle.std.specs.Prelude.{All}
use Rattle.std.proofs.lemmas.List.Elements.{All-cons, All-nil, recursion_from_All}
use Rattle.css_selectors.specs.declared.selector.Compound.{Compound, out-Compound}
use Rattle.css_selectors.specs.declared.selector.Link.{Link}
use Rattle.css_selectors.specs.declared.selector.Part.{Part, out-Part}
use Rattle.css_selectors.specs.declared.selector.Relative.{Relative}
use Rattle.css_selectors.specs.declared.selector.Simple.{Simple}
use Rattle.css_selectors.specs.declared.selector.Test.{Test, out-Test, roll-Test}
use Rattle.css_selectors.specs.declared.selector.Test.TheOpen as open_
use Rattle.css_selectors.specs.declared.selector.Test.TheVariants as v
use Rattle.css_selectors.specs.declared.selector.Test.TheViews as views
use Rattle.css_selectors.specs.declared.selector.Weight.TheVariants as weight
use Rattle.css_selectors.specs.Examples.{part, compound, nested}
use Rattle.css_selectors.specs.WellMade.{FitsTest, FitsSimple, Nowhere, IsPart, innermost}

abbrev Layer : Type 0
Layer = open_.Test-F Test Compound Part Relative Simple

abbrev simple : Bool → Test → Simple
simple b t = record { negated = b; test = t }

opened : (t : Test) (l : Layer) → roll-Test l ≡ t → out-Test t ≡ l
opened t l is = subst (λ u. out-Test u ≡ l) is (views.out-roll-Test l)

pub fits : (n : ℕ) (inside : Bool) (around : Option (List ℕ)) (b : Bool) (t : Test) (l : Layer) → roll-Test l ≡ t → FitsTest (FitsSimple n) true inside around b l → FitsSimple (suc n) inside around (simple b t)
unfolding FitsSimple
fits n inside around b t l is h = subst (FitsTest (FitsSimple n) true inside around b) (sym (opened t l is)) h

pub fitted : (n : ℕ) (inside : Bool) (around : Option (List ℕ)) (b : Bool) (t : Test) (l : Layer) → roll-Test l ≡ t → FitsSimple (suc n) inside around (simple b t) → FitsTest (FitsSimple n) true inside around b l
unfolding FitsSimple
fitted n inside around b t l is h = subst (FitsTest (FitsSimple n) true inside around b) (opened t l is) h

pub none_fits : (inside : Bool) (around : Option (List ℕ)) (b : Bool) (t : Test) (l : Layer) → roll-Test l ≡ t → FitsSimple zero inside around (simple b t) → FitsTest Nowhere false inside around b l
unfolding FitsSimple
none_fits inside around b t l is h = subst (FitsTest Nowhere false inside around b) (opened t l is) h

pub part_fits : (l : Link) (name : Option (List ℕ)) (xs : List Simple) → All (FitsSimple 8 false name) xs → IsPart (part l name xs)
part_fits l name xs h = subst (λ r. All (FitsSimple 8 false r.element) r.simples) (sym (views.out-roll-Part (record { link = l; element = name; simples = xs }))) h

pub part_fitted : (l : Link) (name : Option (List ℕ)) (xs : List Simple) → IsPart (part l name xs) → All (FitsSimple 8 false name) xs
part_fitted l name xs h = subst (λ r. All (FitsSimple 8 false r.element) r.simples) (views.out-roll-Part (record { link = l; element = name; simples = xs })) h

pub link_is : (l : Link) (name : Option (List ℕ)) (xs : List Simple) → (out-Part (part l name xs)).link ≡ l
link_is l name xs = ap (λ r. r.link) (views.out-roll-Part (record { link = l; element = name; simples = xs }))

abbrev pub Holds : ℕ → Bool → Option (List ℕ) → Compound → Type 0
Holds n inside around c = All (FitsSimple n inside (innermost around (out-Compound c).element)) (out-Compound c).simples

pub compound_fits : (n : ℕ) (inside : Bool) (around name : Option (List ℕ)) (xs : List Simple) → All (FitsSimple n inside (innermost around name)) xs → Holds n inside around (compound name xs)
compound_fits n inside around name xs h =
    subst (λ r. All (FitsSimple n inside (innermost around r.element)) r.simples) (sym (views.out-roll-Compound (record { element = name; simples = xs }))) h

pub compound_fitted : (n : ℕ) (inside : Bool) (around name : Option (List ℕ)) (xs : List Simple) → Holds n inside around (compound name xs) → All (FitsSimple n inside (innermost around name)) xs
compound_fitted n inside around name xs h =
    subst (λ r. All (FitsSimple n inside (innermost around r.element)) r.simples) (views.out-roll-Compound (record { element = name; simples = xs })) h

pub one : {X : Type 0} (P : X → Type 0) (x : X) → P x → All P (x ∷ [])
one P x h = All-cons P x [] h (All-nil P)

pub only : {X : Type 0} (P : X → Type 0) (x : X) → All P (x ∷ []) → P x
only P x h = (recursion_from_All P (x ∷ []) h).0

-- so many choices around one fit where there is room for one more
pub nested_fits : (n : ℕ) (inside : Bool) (around : Option (List ℕ)) → FitsSimple (suc n) inside around (nested n)
nested_fits zero inside around =
    let list = compound (Some (codes "a")) [] ∷ [] in
    fits 0 inside around false (v.Any weight.Most list) (open_.Any weight.Most list) (v.rolls-Any weight.Most list)
    (refl, omega arith, one (Holds 0 inside around) _ (compound_fits 0 inside around (Some (codes "a")) [] (All-nil _)))
nested_fits (suc n) inside around =
    let list = compound None (nested n ∷ []) ∷ [] in
    fits (suc n) inside around false (v.Any weight.Most list) (open_.Any weight.Most list) (v.rolls-Any weight.Most list)
    (refl, omega arith, one (Holds (suc n) inside around) _ (compound_fits (suc n) inside around None (nested n ∷ []) (one (FitsSimple (suc n) inside around) (nested n) (nested_fits n inside around))))

-- and not where there is none
pub nested_unfit : (n : ℕ) (inside : Bool) (around : Option (List ℕ)) → FitsSimple n inside around (nested n) → ⊥
nested_unfit zero inside around h =
    let list = compound (Some (codes "a")) [] ∷ [] in
    true≢false (sym (none_fits inside around false (v.Any weight.Most list) (open_.Any weight.Most list) (v.rolls-Any weight.Most list) h).0)
nested_unfit (suc n) inside around h =
    let list = compound None (nested n ∷ []) ∷ [] in
    let k = fitted n inside around false (v.Any weight.Most list) (open_.Any weight.Most list) (v.rolls-Any weight.Most list) h in
    nested_unfit n inside around (only (FitsSimple n inside around) (nested n) (compound_fitted n inside around None (nested n ∷ []) (only (Holds n inside around) _ k.2)))
