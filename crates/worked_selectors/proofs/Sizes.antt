-- The sizes of the selectors that the tests make.
use Rattle.std.proofs.Common.{◌≡◌, ap, ℕ, ◌+◌, List, [], ◌∷◌, sum_by, Option, arith, ◌∙◌}
use Rattle.std.proofs.lemmas.List.Sums.{sum_by-cons}
use Rattle.css_selectors.specs.declared.selector.Compound.{Compound, roll-Compound}
use Rattle.css_selectors.specs.declared.selector.Link.{Link}
use Rattle.css_selectors.specs.declared.selector.Part.{Part, roll-Part}
use Rattle.css_selectors.specs.declared.selector.Simple.{Simple}
use Rattle.css_selectors.specs.declared.selector.Test.TheVariants as v
use Rattle.css_selectors.specs.declared.selector.Test.TheViews as views
use Rattle.css_selectors.specs.declared.selector.Weight.{Weight}
use Rattle.css_selectors.specs.Sizes.{test_size, compound_size, part_size, simple_size}
use Rattle.css_selectors.proofs.Equations as e

one_simple : (x : Simple) (xs : List Simple) → xs ≡ x ∷ [] → sum_by simple_size xs ≡ 1 + test_size x.test
one_simple x xs is =
    let a : sum_by simple_size xs ≡ sum_by simple_size (x ∷ []) = ap (sum_by simple_size) is in
    omega (arith, a, sum_by-cons simple_size x [], e.size_of_simple x)

pub compound_of_one : (n : Option (List ℕ)) (x : Simple) (xs : List Simple) → xs ≡ x ∷ [] → compound_size (roll-Compound (record { element = n; simples = xs })) ≡ 1 + test_size x.test
compound_of_one n x xs is =
    e.size_of_compound (roll-Compound (record { element = n; simples = xs }))
    ∙ ap (λ r. sum_by simple_size r.simples) (views.out-roll-Compound (record { element = n; simples = xs })) ∙ one_simple x xs is

pub part_of_one : (l : Link) (n : Option (List ℕ)) (x : Simple) (xs : List Simple) (ps : List Part) → xs ≡ x ∷ [] → ps ≡ roll-Part (record { link = l; element = n; simples = xs }) ∷ []
    → sum_by part_size ps ≡ 2 + test_size x.test
part_of_one l n x xs ps is are =
    let p = roll-Part (record { link = l; element = n; simples = xs }) in
    let a : sum_by part_size ps ≡ sum_by part_size (p ∷ []) = ap (sum_by part_size) are in
    let b : part_size p ≡ 1 + sum_by simple_size xs = e.size_of_part p ∙ ap (λ r. 1 + sum_by simple_size r.simples) (views.out-roll-Part (record { link = l; element = n; simples = xs })) in
    omega (arith, a, sum_by-cons part_size p [], b, one_simple x xs is)

pub pair : (w : Weight) (y x : Compound) (list : List Compound) → list ≡ y ∷ x ∷ [] → compound_size y ≡ 1 → compound_size x ≡ 1 → test_size (v.Any w list) ≡ 2
pair w y x list is h k =
    let a : sum_by compound_size list ≡ sum_by compound_size (y ∷ x ∷ []) = ap (sum_by compound_size) is in
    omega (arith, e.size_of_any w list, a, sum_by-cons compound_size y (x ∷ []), sum_by-cons compound_size x [], h, k)
