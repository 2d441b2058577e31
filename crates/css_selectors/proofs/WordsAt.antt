-- Which forms of selector ask for words, one level at a time.
use Rattle.std.proofs.Common.{◌≡◌, sym, ◌∙◌, ap, ℕ, ℤ, Bool, true, false, List, Option}
use Rattle.std.specs.List.{list_any}
use Rattle.css_selectors.specs.declared.selector.Compound.{Compound, out-Compound}
use Rattle.css_selectors.specs.declared.selector.Nth.{Nth}
use Rattle.css_selectors.specs.declared.selector.Op.{Op}
use Rattle.css_selectors.specs.declared.selector.Part.{Part, out-Part}
use Rattle.css_selectors.specs.declared.selector.Pseudo.{Pseudo}
use Rattle.css_selectors.specs.declared.selector.Relative.{Relative, out-Relative}
use Rattle.css_selectors.specs.declared.selector.Simple.{Simple}
use Rattle.css_selectors.specs.declared.selector.Test.{Test, roll-Test}
use Rattle.css_selectors.specs.declared.selector.Test.TheFolds.{map-Test, fold-roll-Test, fold_out-Compound, fold_out-Part, fold_out-Relative, fold_out-Simple}
use Rattle.css_selectors.specs.declared.selector.Test.TheOpen as open_
use Rattle.css_selectors.specs.declared.selector.Test.TheVariants as v
use Rattle.css_selectors.specs.declared.selector.Weight.{Weight}
use Rattle.css_selectors.specs.Words as s
use Rattle.css_selectors.specs.Words.{is_word_op, test_asks, compound_asks, part_asks, relative_asks, simple_asks}
use Rattle.css_selectors.proofs.Mapped.{any_map}

pub at_layer : (l : open_.Test-F Test Compound Part Relative Simple)
    → test_asks (roll-Test l) ≡ s.test_asks_step (map-Test Test Compound Part Relative Simple Bool Bool Bool Bool Bool test_asks compound_asks part_asks relative_asks simple_asks l)
unfolding test_asks compound_asks part_asks relative_asks simple_asks
at_layer l = fold-roll-Test Bool Bool Bool Bool Bool s.test_asks_step s.compound_asks_step s.part_asks_step s.relative_asks_step s.simple_asks_step l

pub at_element : (n : Option (List ℕ)) → test_asks (v.Element n) ≡ false
at_element n = ap test_asks (sym (v.rolls-Element n)) ∙ at_layer (open_.Element n)

pub at_id : (x : List ℕ) → test_asks (v.Id x) ≡ false
at_id x = ap test_asks (sym (v.rolls-Id x)) ∙ at_layer (open_.Id x)

pub at_class : (x : List ℕ) → test_asks (v.Class x) ≡ true
at_class x = ap test_asks (sym (v.rolls-Class x)) ∙ at_layer (open_.Class x)

pub at_attr : (n : List ℕ) (o : Op) (x : List ℕ) → test_asks (v.Attr n o x) ≡ is_word_op o
at_attr n o x = ap test_asks (sym (v.rolls-Attr n o x)) ∙ at_layer (open_.Attr n o x)

pub at_nth : (k : Nth) (a b : ℤ) → test_asks (v.Nth k a b) ≡ false
at_nth k a b = ap test_asks (sym (v.rolls-Nth k a b)) ∙ at_layer (open_.Nth k a b)

pub at_pseudo : (p : Pseudo) → test_asks (v.Pseudo p) ≡ false
at_pseudo p = ap test_asks (sym (v.rolls-Pseudo p)) ∙ at_layer (open_.Pseudo p)

pub at_contains : (x : List ℕ) → test_asks (v.Contains x) ≡ false
at_contains x = ap test_asks (sym (v.rolls-Contains x)) ∙ at_layer (open_.Contains x)

pub at_lang : (x : List ℕ) → test_asks (v.Lang x) ≡ false
at_lang x = ap test_asks (sym (v.rolls-Lang x)) ∙ at_layer (open_.Lang x)

pub at_any : (w : Weight) (list : List Compound) → test_asks (v.Any w list) ≡ list_any compound_asks list
at_any w list = ap test_asks (sym (v.rolls-Any w list)) ∙ at_layer (open_.Any w list) ∙ any_map (λ b. b) compound_asks list

pub at_has : (list : List Relative) → test_asks (v.Has list) ≡ list_any relative_asks list
at_has list = ap test_asks (sym (v.rolls-Has list)) ∙ at_layer (open_.Has list) ∙ any_map (λ b. b) relative_asks list

pub at_compound : (c : Compound) → compound_asks c ≡ list_any simple_asks (out-Compound c).simples
unfolding test_asks compound_asks part_asks relative_asks simple_asks
at_compound c = fold_out-Compound Bool Bool Bool Bool Bool s.test_asks_step s.compound_asks_step s.part_asks_step s.relative_asks_step s.simple_asks_step c ∙ any_map (λ b. b) simple_asks (out-Compound c).simples

pub at_part : (p : Part) → part_asks p ≡ list_any simple_asks (out-Part p).simples
unfolding test_asks compound_asks part_asks relative_asks simple_asks
at_part p = fold_out-Part Bool Bool Bool Bool Bool s.test_asks_step s.compound_asks_step s.part_asks_step s.relative_asks_step s.simple_asks_step p ∙ any_map (λ b. b) simple_asks (out-Part p).simples

pub at_relative : (r : Relative) → relative_asks r ≡ list_any part_asks (out-Relative r).parts
unfolding test_asks compound_asks part_asks relative_asks simple_asks
at_relative r = fold_out-Relative Bool Bool Bool Bool Bool s.test_asks_step s.compound_asks_step s.part_asks_step s.relative_asks_step s.simple_asks_step r ∙ any_map (λ b. b) part_asks (out-Relative r).parts

pub at_simple : (x : Simple) → simple_asks x ≡ test_asks x.test
unfolding test_asks compound_asks part_asks relative_asks simple_asks
at_simple x = fold_out-Simple Bool Bool Bool Bool Bool s.test_asks_step s.compound_asks_step s.part_asks_step s.relative_asks_step s.simple_asks_step x
