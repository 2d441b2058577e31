-- What each form of selector asks of an element, one level at a time.
use Rattle.std.proofs.Common.{◌≡◌, sym, ◌∙◌, ap, ℕ, ℤ, true, ◌&&◌, not, cond, List, map, Option, codes}
use Rattle.std.specs.List.{list_any, list_all}
use Rattle.std.proofs.lemmas.Bool.{and_parts}
use Rattle.std.proofs.lemmas.List.Folds.{list_all-map}
use Rattle.text_base.specs.Strings.{contains}
use Rattle.doc_model.specs.Document.{Document, is_element}
use Rattle.doc_model.specs.StringValue.{string_value}
use Rattle.css_selectors.specs.declared.selector.Compound.{Compound, out-Compound}
use Rattle.css_selectors.specs.declared.selector.Dialect.{Dialect}
use Rattle.css_selectors.specs.declared.selector.Nth.{Nth}
use Rattle.css_selectors.specs.declared.selector.Op.{Op}
use Rattle.css_selectors.specs.declared.selector.Op.TheVariants as op
use Rattle.css_selectors.specs.declared.selector.Part.{Part, out-Part}
use Rattle.css_selectors.specs.declared.selector.Pseudo.{Pseudo}
use Rattle.css_selectors.specs.declared.selector.Relative.{Relative, out-Relative}
use Rattle.css_selectors.specs.declared.selector.Simple.{Simple}
use Rattle.css_selectors.specs.declared.selector.Test.{Test, roll-Test}
use Rattle.css_selectors.specs.declared.selector.Test.TheFolds.{map-Test, fold-roll-Test, fold_out-Compound, fold_out-Part, fold_out-Relative, fold_out-Simple}
use Rattle.css_selectors.specs.declared.selector.Test.TheOpen as open_
use Rattle.css_selectors.specs.declared.selector.Test.TheVariants as v
use Rattle.css_selectors.specs.declared.selector.Weight.{Weight}
use Rattle.css_selectors.proofs.Mapped.{any_map}
use Rattle.css_meaning.specs.Attributes.{attribute_holds}
use Rattle.css_meaning.specs.Holding as s
use Rattle.css_meaning.specs.Holding.{Where, Tied, goes_on, test_holds, compound_holds, tied, relative_holds, simple_holds, holds}
use Rattle.css_meaning.specs.Language.{lang_holds}
use Rattle.css_meaning.specs.Names.{has_name}
use Rattle.css_meaning.specs.Nth.{is_nth}
use Rattle.css_meaning.specs.Siblings.{position}
use Rattle.css_meaning.specs.Simples.{pseudo_holds}

module _ (doc : Document) (d : Dialect) where
  pub at_layer : (l : open_.Test-F Test Compound Part Relative Simple)
      → test_holds doc d (roll-Test l) ≡ s.test_step doc d (map-Test Test Compound Part Relative Simple Where Where Tied Where Where (test_holds doc d) (compound_holds doc d) (tied doc d) (relative_holds doc d) (simple_holds doc d) l)
  unfolding test_holds compound_holds tied relative_holds simple_holds
  at_layer l = fold-roll-Test Where Where Tied Where Where (s.test_step doc d) (s.compound_step doc d) (s.part_step doc d) (s.relative_step doc d) (s.simple_step doc d) l

  -- a variant, as its layer
  of_layer : (t : Test) (l : open_.Test-F Test Compound Part Relative Simple) → roll-Test l ≡ t → (e : ℕ)
      → test_holds doc d t e ≡ s.test_step doc d (map-Test Test Compound Part Relative Simple Where Where Tied Where Where (test_holds doc d) (compound_holds doc d) (tied doc d) (relative_holds doc d) (simple_holds doc d) l) e
  of_layer t l is e = ap (λ u. test_holds doc d u e) (sym is) ∙ ap (λ f. f e) (at_layer l)

  pub at_element : (n : Option (List ℕ)) (e : ℕ) → test_holds doc d (v.Element n) e ≡ has_name doc d n e
  at_element n e = of_layer (v.Element n) (open_.Element n) (v.rolls-Element n) e

  pub at_id : (x : List ℕ) (e : ℕ) → test_holds doc d (v.Id x) e ≡ attribute_holds doc d (codes "id") op.Equals x e
  at_id x e = of_layer (v.Id x) (open_.Id x) (v.rolls-Id x) e

  pub at_class : (x : List ℕ) (e : ℕ) → test_holds doc d (v.Class x) e ≡ attribute_holds doc d (codes "class") op.Word x e
  at_class x e = of_layer (v.Class x) (open_.Class x) (v.rolls-Class x) e

  pub at_attr : (n : List ℕ) (o : Op) (x : List ℕ) (e : ℕ) → test_holds doc d (v.Attr n o x) e ≡ attribute_holds doc d n o x e
  at_attr n o x e = of_layer (v.Attr n o x) (open_.Attr n o x) (v.rolls-Attr n o x) e

  pub at_nth : (k : Nth) (a b : ℤ) (e : ℕ) → test_holds doc d (v.Nth k a b) e ≡ is_nth a b (position doc k e)
  at_nth k a b e = of_layer (v.Nth k a b) (open_.Nth k a b) (v.rolls-Nth k a b) e

  pub at_pseudo : (p : Pseudo) (e : ℕ) → test_holds doc d (v.Pseudo p) e ≡ pseudo_holds doc d p e
  at_pseudo p e = of_layer (v.Pseudo p) (open_.Pseudo p) (v.rolls-Pseudo p) e

  pub at_contains : (x : List ℕ) (e : ℕ) → test_holds doc d (v.Contains x) e ≡ contains (string_value doc e) x
  at_contains x e = of_layer (v.Contains x) (open_.Contains x) (v.rolls-Contains x) e

  pub at_lang : (x : List ℕ) (e : ℕ) → test_holds doc d (v.Lang x) e ≡ lang_holds doc d x e
  at_lang x e = of_layer (v.Lang x) (open_.Lang x) (v.rolls-Lang x) e

  pub at_any : (w : Weight) (list : List Compound) (e : ℕ) → test_holds doc d (v.Any w list) e ≡ list_any (λ c. compound_holds doc d c e) list
  at_any w list e = of_layer (v.Any w list) (open_.Any w list) (v.rolls-Any w list) e ∙ any_map (λ (f : Where). f e) (compound_holds doc d) list

  pub at_has : (list : List Relative) (e : ℕ) → test_holds doc d (v.Has list) e ≡ list_any (λ r. relative_holds doc d r e) list
  at_has list e = of_layer (v.Has list) (open_.Has list) (v.rolls-Has list) e ∙ any_map (λ (f : Where). f e) (relative_holds doc d) list

  pub at_simple : (x : Simple) (e : ℕ) → simple_holds doc d x e ≡ cond x.negated (not (test_holds doc d x.test e)) (test_holds doc d x.test e)
  unfolding test_holds compound_holds tied relative_holds simple_holds
  at_simple x e = ap (λ f. f e) (fold_out-Simple Where Where Tied Where Where (s.test_step doc d) (s.compound_step doc d) (s.part_step doc d) (s.relative_step doc d) (s.simple_step doc d) x)

  pub at_compound : (c : Compound) (e : ℕ)
      → compound_holds doc d c e ≡ (is_element doc e && (has_name doc d (out-Compound c).element e && list_all (λ x. simple_holds doc d x e) (out-Compound c).simples))
  unfolding test_holds compound_holds tied relative_holds simple_holds
  at_compound c e =
      ap (λ f. f e) (fold_out-Compound Where Where Tied Where Where (s.test_step doc d) (s.compound_step doc d) (s.part_step doc d) (s.relative_step doc d) (s.simple_step doc d) c)
      ∙ ap (λ b. is_element doc e && (has_name doc d (out-Compound c).element e && b)) (list_all-map (λ (f : Where). f e) (simple_holds doc d) (out-Compound c).simples)

  pub link_of : (p : Part) → (tied doc d p).0 ≡ (out-Part p).link
  unfolding test_holds compound_holds tied relative_holds simple_holds
  link_of p = ap (λ t. t.0) (fold_out-Part Where Where Tied Where Where (s.test_step doc d) (s.compound_step doc d) (s.part_step doc d) (s.relative_step doc d) (s.simple_step doc d) p)

  pub at_part : (p : Part) (e : ℕ)
      → holds doc d p e ≡ (is_element doc e && (has_name doc d (out-Part p).element e && list_all (λ x. simple_holds doc d x e) (out-Part p).simples))
  unfolding test_holds compound_holds tied relative_holds simple_holds
  at_part p e =
      ap (λ t. t.1 e) (fold_out-Part Where Where Tied Where Where (s.test_step doc d) (s.compound_step doc d) (s.part_step doc d) (s.relative_step doc d) (s.simple_step doc d) p)
      ∙ ap (λ b. is_element doc e && (has_name doc d (out-Part p).element e && b)) (list_all-map (λ (f : Where). f e) (simple_holds doc d) (out-Part p).simples)

  pub at_relative : (r : Relative) (e : ℕ) → relative_holds doc d r e ≡ goes_on doc d (map (tied doc d) (out-Relative r).parts) e
  unfolding test_holds compound_holds tied relative_holds simple_holds
  at_relative r e = ap (λ f. f e) (fold_out-Relative Where Where Tied Where Where (s.test_step doc d) (s.compound_step doc d) (s.part_step doc d) (s.relative_step doc d) (s.simple_step doc d) r)

  -- the same of its simples as a call gave them
  pub at_simples : (p : Part) (xs : List Simple) (e : ℕ) → xs ≡ (out-Part p).simples
      → (is_element doc e && (has_name doc d (out-Part p).element e && list_all (λ x. simple_holds doc d x e) xs)) ≡ holds doc d p e
  at_simples p xs e is =
      ap (λ (ys : List Simple). is_element doc e && (has_name doc d (out-Part p).element e && list_all (λ x. simple_holds doc d x e) ys)) is ∙ sym (at_part p e)

  -- a part holds at elements alone
  pub held_element : (p : Part) (e : ℕ) → holds doc d p e ≡ true → is_element doc e ≡ true
  held_element p e h = (and_parts _ _ (sym (at_part p e) ∙ h)).0
