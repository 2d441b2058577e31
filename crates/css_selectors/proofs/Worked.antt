-- The worked selectors: what they count, and which are well made.
use Rattle.std.proofs.Common.{refl, ℕ, false, List, [], ◌∷◌, Option, None}
use Rattle.std.specs.Prelude.{pos}
use Rattle.css_selectors.specs.declared.selector.Link.TheVariants as link
use Rattle.css_selectors.specs.declared.selector.Nth.TheVariants as nth
use Rattle.css_selectors.specs.declared.selector.Simple.{Simple}
use Rattle.css_selectors.specs.declared.selector.Test.TheOpen as open_
use Rattle.css_selectors.specs.declared.selector.Test.TheVariants as v
use Rattle.css_selectors.specs.declared.selector.Test.TheViews as views
use Rattle.css_selectors.specs.declared.selector.Weight.TheVariants as weight
use Rattle.css_selectors.specs.Examples.{WorkedSelectors, is, compound, single, alone, nested, first_of_any_type, first_of_any}
use Rattle.css_selectors.specs.WellMade.{FitsSimple, IsPart, IsSelector, WellMade}
use Rattle.css_selectors.proofs.Equations as e
use Rattle.css_selectors.proofs.Made.{fitted, part_fitted, compound_fitted, Holds, only, nested_fits, nested_unfit}

-- what the simple of a well made selector of one part has
fits_single : (name : Option (List ℕ)) (x : Simple) → WellMade (alone (single name (x ∷ []))) → FitsSimple 8 false name x
fits_single name x h =
    let s : IsSelector (single name (x ∷ [])) = only IsSelector (single name (x ∷ [])) h.each in
    only (FitsSimple 8 false name) x (part_fitted link.First name (x ∷ []) (only IsPart _ s.parts))

no_type : WellMade (alone first_of_any_type) → ⊥
no_type h =
    let k = fitted 7 false None false (v.Nth nth.OfType (pos 0) (pos 1)) (open_.Nth nth.OfType (pos 0) (pos 1)) (v.rolls-Nth nth.OfType (pos 0) (pos 1)) (fits_single None (is (v.Nth nth.OfType (pos 0) (pos 1))) h) in
    let some = k.2 in
    cc

no_type_around : WellMade (alone first_of_any) → ⊥
no_type_around h =
    let x = is (v.Nth nth.OfType (pos 0) (pos 1)) in
    let list = compound None (x ∷ []) ∷ [] in
    let k = fitted 7 false None false (v.Any weight.Most list) (open_.Any weight.Most list) (v.rolls-Any weight.Most list) (fits_single None (is (v.Any weight.Most list)) h) in
    let inner = only (FitsSimple 7 false None) x (compound_fitted 7 false None None (x ∷ []) (only (Holds 7 false None) _ k.2)) in
    let j = fitted 6 false None false (v.Nth nth.OfType (pos 0) (pos 1)) (open_.Nth nth.OfType (pos 0) (pos 1)) (v.rolls-Nth nth.OfType (pos 0) (pos 1)) inner in
    let some = j.2 in
    cc

pub worked : WorkedSelectors
worked = record {
  odd_counts = simp (e.at_part, e.at_simple, e.at_class, e.at_nth, views.out-roll-Part) refl;
  middle_counts = simp (e.at_part, e.at_simple, e.at_nth, views.out-roll-Part) refl;
  english_counts = simp (e.at_part, e.at_simple, e.at_id, e.at_lang, views.out-roll-Part) refl;
  greatest_counts = simp (e.at_part, e.at_simple, e.at_any, e.at_compound, e.at_class, e.at_id, views.out-roll-Part, views.out-roll-Compound) refl;
  where_counts_nothing = simp (e.at_part, e.at_simple, e.at_any, e.at_compound, e.at_class, views.out-roll-Part, views.out-roll-Compound) refl;
  first_counts = simp (e.at_part, e.at_simple, e.at_any, e.at_compound, e.at_nth, views.out-roll-Part, views.out-roll-Compound) refl;
  deepest = nested_fits 7;
  needs_a_type = no_type;
  needs_a_type_around = no_type_around;
  too_deep = λ h. nested_unfit 8 false None (fits_single None (nested 8) h);
}
