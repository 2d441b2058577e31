-- The folds, one level at a time.
use Rattle.std.proofs.Common.{◌≡◌, refl, sym, ◌∙◌, ap, ℕ, ◌+◌, List, [], ◌∷◌, map, sum_by, ℤ, Option}
use Rattle.std.proofs.lemmas.List.Sums.{sum_by-cons}
use Rattle.css_selectors.specs.declared.selector.Nth.{Nth}
use Rattle.css_selectors.specs.declared.selector.Op.{Op}
use Rattle.css_selectors.specs.declared.selector.Pseudo.{Pseudo}
use Rattle.css_selectors.specs.declared.selector.Triple.{Triple}
use Rattle.css_selectors.specs.Specificity.{name_count}
use Rattle.css_selectors.specs.declared.selector.Compound.{Compound, out-Compound}
use Rattle.css_selectors.specs.declared.selector.Part.{Part, out-Part}
use Rattle.css_selectors.specs.declared.selector.Relative.{Relative, out-Relative}
use Rattle.css_selectors.specs.declared.selector.Simple.{Simple, out-Simple}
use Rattle.css_selectors.specs.declared.selector.Test.{Test, roll-Test}
use Rattle.css_selectors.specs.declared.selector.Test.TheVariants as v
use Rattle.css_selectors.specs.declared.selector.Test.TheOpen as open_
use Rattle.css_selectors.specs.declared.selector.Test.TheFolds.{map-Test, fold-roll-Test, fold_out-Compound, fold_out-Part, fold_out-Relative, fold_out-Simple}
use Rattle.css_selectors.specs.declared.selector.Weight.{Weight}
use Rattle.css_selectors.specs.Sizes as z
use Rattle.css_selectors.specs.Sizes.{test_size, compound_size, part_size, relative_size, simple_size, total}
use Rattle.css_selectors.specs.Specificity as s
use Rattle.css_selectors.specs.Specificity.{triple, none, test_triple, compound_triple, part_triple, relative_triple, simple_triple, sum_from, greatest}

total_map : {A : Type 0} (f : A → ℕ) (xs : List A) → total (map f xs) ≡ sum_by f xs
total_map f [] = refl
total_map f (x ∷ xs) = sum_by-cons (λ n. n) (f x) (map f xs) ∙ ap (λ n. f x + n) (total_map f xs) ∙ sym (sum_by-cons f x xs)

-- ---- sizes

pub size_of_any : (w : Weight) (list : List Compound) → test_size (v.Any w list) ≡ sum_by compound_size list
unfolding test_size compound_size
size_of_any w list = ap test_size (sym (v.rolls-Any w list)) ∙ fold-roll-Test ℕ ℕ ℕ ℕ ℕ z.test_size_step z.compound_size_step z.part_size_step z.relative_size_step z.simple_size_step (open_.Any w list) ∙ total_map compound_size list

pub size_of_has : (list : List Relative) → test_size (v.Has list) ≡ sum_by relative_size list
unfolding test_size relative_size
size_of_has list = ap test_size (sym (v.rolls-Has list)) ∙ fold-roll-Test ℕ ℕ ℕ ℕ ℕ z.test_size_step z.compound_size_step z.part_size_step z.relative_size_step z.simple_size_step (open_.Has list) ∙ total_map relative_size list

pub size_of_compound : (c : Compound) → compound_size c ≡ sum_by simple_size (out-Compound c).simples
unfolding compound_size simple_size
size_of_compound c = fold_out-Compound ℕ ℕ ℕ ℕ ℕ z.test_size_step z.compound_size_step z.part_size_step z.relative_size_step z.simple_size_step c ∙ total_map simple_size (out-Compound c).simples

pub size_of_part : (p : Part) → part_size p ≡ 1 + sum_by simple_size (out-Part p).simples
unfolding part_size simple_size
size_of_part p = fold_out-Part ℕ ℕ ℕ ℕ ℕ z.test_size_step z.compound_size_step z.part_size_step z.relative_size_step z.simple_size_step p ∙ ap (λ n. 1 + n) (total_map simple_size (out-Part p).simples)

pub size_of_relative : (r : Relative) → relative_size r ≡ sum_by part_size (out-Relative r).parts
unfolding relative_size part_size
size_of_relative r = fold_out-Relative ℕ ℕ ℕ ℕ ℕ z.test_size_step z.compound_size_step z.part_size_step z.relative_size_step z.simple_size_step r ∙ total_map part_size (out-Relative r).parts

pub size_of_simple : (x : Simple) → simple_size x ≡ 1 + test_size (out-Simple x).test
unfolding simple_size test_size
size_of_simple x = fold_out-Simple ℕ ℕ ℕ ℕ ℕ z.test_size_step z.compound_size_step z.part_size_step z.relative_size_step z.simple_size_step x

-- a test that holds no selectors
size_of_layer : (l : open_.Test-F Test Compound Part Relative Simple) → test_size (roll-Test l)
    ≡ z.test_size_step (map-Test Test Compound Part Relative Simple ℕ ℕ ℕ ℕ ℕ test_size compound_size part_size relative_size simple_size l)
unfolding test_size compound_size part_size relative_size simple_size
size_of_layer l = fold-roll-Test ℕ ℕ ℕ ℕ ℕ z.test_size_step z.compound_size_step z.part_size_step z.relative_size_step z.simple_size_step l

pub size_of_element : (n : Option (List ℕ)) → test_size (v.Element n) ≡ 0
size_of_element n = ap test_size (sym (v.rolls-Element n)) ∙ size_of_layer (open_.Element n)

pub size_of_id : (x : List ℕ) → test_size (v.Id x) ≡ 0
size_of_id x = ap test_size (sym (v.rolls-Id x)) ∙ size_of_layer (open_.Id x)

pub size_of_class : (x : List ℕ) → test_size (v.Class x) ≡ 0
size_of_class x = ap test_size (sym (v.rolls-Class x)) ∙ size_of_layer (open_.Class x)

pub size_of_attr : (n : List ℕ) (o : Op) (x : List ℕ) → test_size (v.Attr n o x) ≡ 0
size_of_attr n o x = ap test_size (sym (v.rolls-Attr n o x)) ∙ size_of_layer (open_.Attr n o x)

pub size_of_nth : (k : Nth) (a b : ℤ) → test_size (v.Nth k a b) ≡ 0
size_of_nth k a b = ap test_size (sym (v.rolls-Nth k a b)) ∙ size_of_layer (open_.Nth k a b)

pub size_of_pseudo : (p : Pseudo) → test_size (v.Pseudo p) ≡ 0
size_of_pseudo p = ap test_size (sym (v.rolls-Pseudo p)) ∙ size_of_layer (open_.Pseudo p)

pub size_of_contains : (x : List ℕ) → test_size (v.Contains x) ≡ 0
size_of_contains x = ap test_size (sym (v.rolls-Contains x)) ∙ size_of_layer (open_.Contains x)

pub size_of_lang : (x : List ℕ) → test_size (v.Lang x) ≡ 0
size_of_lang x = ap test_size (sym (v.rolls-Lang x)) ∙ size_of_layer (open_.Lang x)

-- ---- specificity

pub at_element : (n : Option (List ℕ)) → test_triple (v.Element n) ≡ triple 0 0 (name_count n)
unfolding test_triple
at_element n = ap test_triple (sym (v.rolls-Element n)) ∙ fold-roll-Test Triple Triple Triple Triple Triple s.test_triple_step s.compound_triple_step s.part_triple_step s.relative_triple_step s.simple_triple_step (open_.Element n)

pub at_id : (x : List ℕ) → test_triple (v.Id x) ≡ triple 1 0 0
unfolding test_triple
at_id x = ap test_triple (sym (v.rolls-Id x)) ∙ fold-roll-Test Triple Triple Triple Triple Triple s.test_triple_step s.compound_triple_step s.part_triple_step s.relative_triple_step s.simple_triple_step (open_.Id x)

pub at_class : (x : List ℕ) → test_triple (v.Class x) ≡ triple 0 1 0
unfolding test_triple
at_class x = ap test_triple (sym (v.rolls-Class x)) ∙ fold-roll-Test Triple Triple Triple Triple Triple s.test_triple_step s.compound_triple_step s.part_triple_step s.relative_triple_step s.simple_triple_step (open_.Class x)

pub at_attr : (n : List ℕ) (o : Op) (x : List ℕ) → test_triple (v.Attr n o x) ≡ triple 0 1 0
unfolding test_triple
at_attr n o x = ap test_triple (sym (v.rolls-Attr n o x)) ∙ fold-roll-Test Triple Triple Triple Triple Triple s.test_triple_step s.compound_triple_step s.part_triple_step s.relative_triple_step s.simple_triple_step (open_.Attr n o x)

pub at_nth : (k : Nth) (a b : ℤ) → test_triple (v.Nth k a b) ≡ triple 0 1 0
unfolding test_triple
at_nth k a b = ap test_triple (sym (v.rolls-Nth k a b)) ∙ fold-roll-Test Triple Triple Triple Triple Triple s.test_triple_step s.compound_triple_step s.part_triple_step s.relative_triple_step s.simple_triple_step (open_.Nth k a b)

pub at_pseudo : (p : Pseudo) → test_triple (v.Pseudo p) ≡ triple 0 1 0
unfolding test_triple
at_pseudo p = ap test_triple (sym (v.rolls-Pseudo p)) ∙ fold-roll-Test Triple Triple Triple Triple Triple s.test_triple_step s.compound_triple_step s.part_triple_step s.relative_triple_step s.simple_triple_step (open_.Pseudo p)

pub at_contains : (x : List ℕ) → test_triple (v.Contains x) ≡ triple 0 1 0
unfolding test_triple
at_contains x = ap test_triple (sym (v.rolls-Contains x)) ∙ fold-roll-Test Triple Triple Triple Triple Triple s.test_triple_step s.compound_triple_step s.part_triple_step s.relative_triple_step s.simple_triple_step (open_.Contains x)

pub at_lang : (x : List ℕ) → test_triple (v.Lang x) ≡ triple 0 1 0
unfolding test_triple
at_lang x = ap test_triple (sym (v.rolls-Lang x)) ∙ fold-roll-Test Triple Triple Triple Triple Triple s.test_triple_step s.compound_triple_step s.part_triple_step s.relative_triple_step s.simple_triple_step (open_.Lang x)

pub at_any : (w : Weight) (list : List Compound) → test_triple (v.Any w list) ≡ s.weighed w (map compound_triple list)
unfolding test_triple compound_triple
at_any w list = ap test_triple (sym (v.rolls-Any w list)) ∙ fold-roll-Test Triple Triple Triple Triple Triple s.test_triple_step s.compound_triple_step s.part_triple_step s.relative_triple_step s.simple_triple_step (open_.Any w list)

pub at_has : (list : List Relative) → test_triple (v.Has list) ≡ greatest (map relative_triple list)
unfolding test_triple relative_triple
at_has list = ap test_triple (sym (v.rolls-Has list)) ∙ fold-roll-Test Triple Triple Triple Triple Triple s.test_triple_step s.compound_triple_step s.part_triple_step s.relative_triple_step s.simple_triple_step (open_.Has list)

pub at_compound : (c : Compound) → compound_triple c ≡ sum_from (triple 0 0 (name_count (out-Compound c).element)) (map simple_triple (out-Compound c).simples)
unfolding compound_triple simple_triple
at_compound c = fold_out-Compound Triple Triple Triple Triple Triple s.test_triple_step s.compound_triple_step s.part_triple_step s.relative_triple_step s.simple_triple_step c

pub at_part : (p : Part) → part_triple p ≡ sum_from (triple 0 0 (name_count (out-Part p).element)) (map simple_triple (out-Part p).simples)
unfolding part_triple simple_triple
at_part p = fold_out-Part Triple Triple Triple Triple Triple s.test_triple_step s.compound_triple_step s.part_triple_step s.relative_triple_step s.simple_triple_step p

pub at_relative : (r : Relative) → relative_triple r ≡ sum_from none (map part_triple (out-Relative r).parts)
unfolding relative_triple part_triple
at_relative r = fold_out-Relative Triple Triple Triple Triple Triple s.test_triple_step s.compound_triple_step s.part_triple_step s.relative_triple_step s.simple_triple_step r

pub at_simple : (x : Simple) → simple_triple x ≡ test_triple (out-Simple x).test
unfolding simple_triple test_triple
at_simple x = fold_out-Simple Triple Triple Triple Triple Triple s.test_triple_step s.compound_triple_step s.part_triple_step s.relative_triple_step s.simple_triple_step x
