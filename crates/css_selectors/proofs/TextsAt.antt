-- What the names and values of each form of selector are, one level at a time.
use Rattle.std.proofs.Common.{◌≡◌, sym, ◌∙◌, ap, ℕ, ℤ, Bool, true, ◌&&◌, List, Option}
use Rattle.std.specs.List.{list_all}
use lib.Utf8.{scalars}
use Rattle.css_selectors.specs.declared.selector.Compound.{Compound, out-Compound}
use Rattle.css_selectors.specs.declared.selector.Nth.{Nth}
use Rattle.css_selectors.specs.declared.selector.Op.{Op}
use Rattle.css_selectors.specs.declared.selector.Part.{Part, out-Part}
use Rattle.css_selectors.specs.declared.selector.Pseudo.{Pseudo}
use Rattle.css_selectors.specs.declared.selector.Relative.{Relative, out-Relative}
use Rattle.css_selectors.specs.declared.selector.Simple.{Simple}
use Rattle.css_selectors.specs.declared.selector.Test.{Test, roll-Test}
use Rattle.css_selectors.specs.declared.selector.Test.TheFolds.{map-Test, fold-roll-Test, fold_out-Compound, fold_out-Part, fold_out-Relative, fold_out-Simple}
use Rattle.css_selectors.specs.declared.selector.Test.TheOpen as open_
use Rattle.css_selectors.specs.declared.selector.Test.TheVariants as v
use Rattle.css_selectors.specs.declared.selector.Weight.{Weight}
use Rattle.css_selectors.specs.Texts as s
use Rattle.css_selectors.specs.Texts.{element_text, test_texts, compound_texts, part_texts, relative_texts, simple_texts}
use Rattle.std.proofs.lemmas.List.Folds.{list_all-map}

pub at_layer : (l : open_.Test-F Test Compound Part Relative Simple)
    → test_texts (roll-Test l) ≡ s.test_texts_step (map-Test Test Compound Part Relative Simple Bool Bool Bool Bool Bool test_texts compound_texts part_texts relative_texts simple_texts l)
unfolding test_texts compound_texts part_texts relative_texts simple_texts
at_layer l = fold-roll-Test Bool Bool Bool Bool Bool s.test_texts_step s.compound_texts_step s.part_texts_step s.relative_texts_step s.simple_texts_step l

pub at_element : (n : Option (List ℕ)) → test_texts (v.Element n) ≡ element_text n
at_element n = ap test_texts (sym (v.rolls-Element n)) ∙ at_layer (open_.Element n)

pub at_id : (x : List ℕ) → test_texts (v.Id x) ≡ scalars x
at_id x = ap test_texts (sym (v.rolls-Id x)) ∙ at_layer (open_.Id x)

pub at_class : (x : List ℕ) → test_texts (v.Class x) ≡ scalars x
at_class x = ap test_texts (sym (v.rolls-Class x)) ∙ at_layer (open_.Class x)

pub at_attr : (n : List ℕ) (o : Op) (x : List ℕ) → test_texts (v.Attr n o x) ≡ (scalars n && scalars x)
at_attr n o x = ap test_texts (sym (v.rolls-Attr n o x)) ∙ at_layer (open_.Attr n o x)

pub at_nth : (k : Nth) (a b : ℤ) → test_texts (v.Nth k a b) ≡ true
at_nth k a b = ap test_texts (sym (v.rolls-Nth k a b)) ∙ at_layer (open_.Nth k a b)

pub at_pseudo : (p : Pseudo) → test_texts (v.Pseudo p) ≡ true
at_pseudo p = ap test_texts (sym (v.rolls-Pseudo p)) ∙ at_layer (open_.Pseudo p)

pub at_contains : (x : List ℕ) → test_texts (v.Contains x) ≡ scalars x
at_contains x = ap test_texts (sym (v.rolls-Contains x)) ∙ at_layer (open_.Contains x)

pub at_lang : (x : List ℕ) → test_texts (v.Lang x) ≡ scalars x
at_lang x = ap test_texts (sym (v.rolls-Lang x)) ∙ at_layer (open_.Lang x)

pub at_any : (w : Weight) (list : List Compound) → test_texts (v.Any w list) ≡ list_all compound_texts list
at_any w list = ap test_texts (sym (v.rolls-Any w list)) ∙ at_layer (open_.Any w list) ∙ list_all-map (λ b. b) compound_texts list

pub at_has : (list : List Relative) → test_texts (v.Has list) ≡ list_all relative_texts list
at_has list = ap test_texts (sym (v.rolls-Has list)) ∙ at_layer (open_.Has list) ∙ list_all-map (λ b. b) relative_texts list

pub at_compound : (c : Compound) → compound_texts c ≡ (element_text (out-Compound c).element && list_all simple_texts (out-Compound c).simples)
unfolding test_texts compound_texts part_texts relative_texts simple_texts
at_compound c = fold_out-Compound Bool Bool Bool Bool Bool s.test_texts_step s.compound_texts_step s.part_texts_step s.relative_texts_step s.simple_texts_step c ∙ ap (λ b. element_text (out-Compound c).element && b) (list_all-map (λ b. b) simple_texts (out-Compound c).simples)

pub at_part : (p : Part) → part_texts p ≡ (element_text (out-Part p).element && list_all simple_texts (out-Part p).simples)
unfolding test_texts compound_texts part_texts relative_texts simple_texts
at_part p = fold_out-Part Bool Bool Bool Bool Bool s.test_texts_step s.compound_texts_step s.part_texts_step s.relative_texts_step s.simple_texts_step p ∙ ap (λ b. element_text (out-Part p).element && b) (list_all-map (λ b. b) simple_texts (out-Part p).simples)

pub at_relative : (r : Relative) → relative_texts r ≡ list_all part_texts (out-Relative r).parts
unfolding test_texts compound_texts part_texts relative_texts simple_texts
at_relative r = fold_out-Relative Bool Bool Bool Bool Bool s.test_texts_step s.compound_texts_step s.part_texts_step s.relative_texts_step s.simple_texts_step r ∙ list_all-map (λ b. b) part_texts (out-Relative r).parts

pub at_simple : (x : Simple) → simple_texts x ≡ test_texts x.test
unfolding test_texts compound_texts part_texts relative_texts simple_texts
at_simple x = fold_out-Simple Bool Bool Bool Bool Bool s.test_texts_step s.compound_texts_step s.part_texts_step s.relative_texts_step s.simple_texts_step x
