-- Answers of selectors whose parts are written as functions, on which they compute.
use Rattle.std.proofs.Common.{◌≡◌, refl, sym, ◌∙◌, ap, ℕ, Bool, false, ◌&&◌, ◌||◌, not, eqb, List, [], ◌∷◌, map, filter, Option, ℤ}
use Rattle.std.specs.List.{list_any}
use Rattle.doc_model.specs.Document.{Document, rows, below}
use Rattle.css_selectors.specs.declared.selector.Compound.{Compound}
use Rattle.css_selectors.specs.declared.selector.Dialect.{Dialect}
use Rattle.css_selectors.specs.declared.selector.Link.{Link}
use Rattle.css_selectors.specs.declared.selector.Nth.{Nth}
use Rattle.css_selectors.specs.declared.selector.Op.{Op}
use Rattle.css_selectors.specs.declared.selector.Part.{Part}
use Rattle.css_selectors.specs.declared.selector.Pseudo.{Pseudo}
use Rattle.css_selectors.specs.declared.selector.Relative.{Relative, roll-Relative}
use Rattle.css_selectors.specs.declared.selector.Selector.{Selector}
use Rattle.css_selectors.specs.declared.selector.SelectorList.{SelectorList}
use Rattle.css_selectors.specs.declared.selector.Simple.{Simple}
use Rattle.css_selectors.specs.declared.selector.Tail.{Tail}
use Rattle.css_selectors.specs.declared.selector.Test.{Test, roll-Test}
use Rattle.css_selectors.specs.declared.selector.Test.TheFolds.{map-Test, fold_out-Compound, fold_out-Part, fold_out-Relative, fold_out-Simple}
use Rattle.css_selectors.specs.declared.selector.Test.TheOpen as open_
use Rattle.css_selectors.specs.declared.selector.Test.TheVariants as v
use Rattle.css_selectors.specs.declared.selector.Test.TheViews as views
use Rattle.css_selectors.specs.declared.selector.Weight.{Weight}
use Rattle.css_selectors.specs.Examples.{is, is_not, part, compound}
use Rattle.css_selectors.proofs.Mapped.{any_map}
use Rattle.css_meaning.specs.Holding as s
use Rattle.css_meaning.specs.Holding.{Where, Tied, element_holds, goes_on, holds, test_holds, compound_holds, tied, relative_holds, simple_holds}
use Rattle.css_meaning.specs.Links.{linked}
use Rattle.css_meaning.specs.Matching.{leads, reaches_by, gives, answers}
use Rattle.css_meaning.proofs.HoldsAt.{at_layer, link_of}
use Rattle.css_meaning.proofs.ListTests.{any_same, filter_same}

-- where something does not hold
unfoldable pub opposite : Where → Where
opposite f e = not (f e)

-- a selector's parts and its tail
abbrev pub Plain : Type 0
Plain = List Tied × Tail

module _ (doc : Document) (d : Dialect) where
  abbrev pub plain_leads : List Tied → ℕ → ℕ → Bool
  plain_leads [] x e = eqb x e
  plain_leads (p ∷ ps) x e = list_any (λ y. linked doc p.0 x y && (p.1 y && plain_leads ps y e)) (rows doc)

  abbrev pub plain_reaches : List Tied → ℕ → ℕ → Bool
  plain_reaches [] c e = false
  plain_reaches (p ∷ ps) c e = list_any (λ y. (eqb y c || below doc c y) && (p.1 y && plain_leads ps y e)) (rows doc)

  abbrev pub plain_answers : List Plain → ℕ → List ℕ
  plain_answers list c = filter (λ r. list_any (λ s. list_any (λ e. plain_reaches s.0 c e && gives doc d s.1 e r) (rows doc)) list) (rows doc)

  abbrev pub plain : Selector → Plain
  plain x = (map (tied doc d) x.parts, x.tail)

  leads_plain : (ps : List Part) (x e : ℕ) → leads doc d ps x e ≡ plain_leads (map (tied doc d) ps) x e
  unfolding leads
  leads_plain [] x e = refl
  leads_plain (p ∷ ps) x e =
      any_same _ _ (λ y. ap (λ k. linked doc k x y && (holds doc d p y && leads doc d ps y e)) (sym (link_of doc d p))
      ∙ ap (λ b. linked doc (tied doc d p).0 x y && (holds doc d p y && b)) (leads_plain ps y e)) (rows doc)

  reaches_plain : (ps : List Part) (c e : ℕ) → reaches_by doc d ps c e ≡ plain_reaches (map (tied doc d) ps) c e
  unfolding reaches_by
  reaches_plain [] c e = refl
  reaches_plain (p ∷ ps) c e = any_same _ _ (λ y. ap (λ b. (eqb y c || below doc c y) && (holds doc d p y && b)) (leads_plain ps y e)) (rows doc)

  pub answers_plain : (list : SelectorList) (xs : List Plain) (c : ℕ) → map plain list.items ≡ xs → answers doc d list c ≡ plain_answers xs c
  answers_plain list xs c is =
      filter_same _ _ (λ r.
      any_same _ _ (λ x. any_same _ _ (λ e. ap (λ b. b && gives doc d x.tail e r) (reaches_plain x.parts c e)) (rows doc)) list.items
      ∙ sym (any_map (λ (s : Plain). list_any (λ e. plain_reaches s.0 c e && gives doc d s.1 e r) (rows doc)) plain list.items)) (rows doc)
      ∙ ap (λ ys. plain_answers ys c) is

  -- ---- the forms as functions

  pub part_is : (l : Link) (name : Option (List ℕ)) (xs : List Simple) → tied doc d (part l name xs) ≡ (l, element_holds doc d name (map (simple_holds doc d) xs))
  unfolding test_holds compound_holds tied relative_holds simple_holds
  part_is l name xs =
      fold_out-Part Where Where Tied Where Where (s.test_step doc d) (s.compound_step doc d) (s.part_step doc d) (s.relative_step doc d) (s.simple_step doc d) (part l name xs)
      ∙ ap (λ r. (r.link, element_holds doc d r.element (map (simple_holds doc d) r.simples))) (views.out-roll-Part (record { link = l; element = name; simples = xs }))

  pub compound_is : (name : Option (List ℕ)) (xs : List Simple) → compound_holds doc d (compound name xs) ≡ element_holds doc d name (map (simple_holds doc d) xs)
  unfolding test_holds compound_holds tied relative_holds simple_holds
  compound_is name xs =
      fold_out-Compound Where Where Tied Where Where (s.test_step doc d) (s.compound_step doc d) (s.part_step doc d) (s.relative_step doc d) (s.simple_step doc d) (compound name xs)
      ∙ ap (λ r. element_holds doc d r.element (map (simple_holds doc d) r.simples)) (views.out-roll-Compound (record { element = name; simples = xs }))

  pub relative_is : (ps : List Part) → relative_holds doc d (roll-Relative (record { parts = ps })) ≡ goes_on doc d (map (tied doc d) ps)
  unfolding test_holds compound_holds tied relative_holds simple_holds
  relative_is ps =
      fold_out-Relative Where Where Tied Where Where (s.test_step doc d) (s.compound_step doc d) (s.part_step doc d) (s.relative_step doc d) (s.simple_step doc d) (roll-Relative (record { parts = ps }))
      ∙ ap (λ r. goes_on doc d (map (tied doc d) r.parts)) (views.out-roll-Relative (record { parts = ps }))

  pub is_is : (t : Test) → simple_holds doc d (is t) ≡ test_holds doc d t
  unfolding test_holds compound_holds tied relative_holds simple_holds
  is_is t = fold_out-Simple Where Where Tied Where Where (s.test_step doc d) (s.compound_step doc d) (s.part_step doc d) (s.relative_step doc d) (s.simple_step doc d) (is t)

  pub not_is : (t : Test) → simple_holds doc d (is_not t) ≡ opposite (test_holds doc d t)
  unfolding opposite test_holds compound_holds tied relative_holds simple_holds
  not_is t = fold_out-Simple Where Where Tied Where Where (s.test_step doc d) (s.compound_step doc d) (s.part_step doc d) (s.relative_step doc d) (s.simple_step doc d) (is_not t)

  -- a test, by its layer
  pub test_is : (l : open_.Test-F Test Compound Part Relative Simple) (t : Test) → roll-Test l ≡ t
      → test_holds doc d t ≡ s.test_step doc d (map-Test Test Compound Part Relative Simple Where Where Tied Where Where (test_holds doc d) (compound_holds doc d) (tied doc d) (relative_holds doc d) (simple_holds doc d) l)
  test_is l t h = ap (test_holds doc d) (sym h) ∙ at_layer doc d l

  pub class_is : (x : List ℕ) → test_holds doc d (v.Class x) ≡ s.test_step doc d (open_.Class x)
  class_is x = test_is (open_.Class x) (v.Class x) (v.rolls-Class x)

  pub id_is : (x : List ℕ) → test_holds doc d (v.Id x) ≡ s.test_step doc d (open_.Id x)
  id_is x = test_is (open_.Id x) (v.Id x) (v.rolls-Id x)

  pub attr_is : (n : List ℕ) (o : Op) (x : List ℕ) → test_holds doc d (v.Attr n o x) ≡ s.test_step doc d (open_.Attr n o x)
  attr_is n o x = test_is (open_.Attr n o x) (v.Attr n o x) (v.rolls-Attr n o x)

  pub nth_is : (k : Nth) (a b : ℤ) → test_holds doc d (v.Nth k a b) ≡ s.test_step doc d (open_.Nth k a b)
  nth_is k a b = test_is (open_.Nth k a b) (v.Nth k a b) (v.rolls-Nth k a b)

  pub pseudo_is : (p : Pseudo) → test_holds doc d (v.Pseudo p) ≡ s.test_step doc d (open_.Pseudo p)
  pseudo_is p = test_is (open_.Pseudo p) (v.Pseudo p) (v.rolls-Pseudo p)

  pub lang_is : (x : List ℕ) → test_holds doc d (v.Lang x) ≡ s.test_step doc d (open_.Lang x)
  lang_is x = test_is (open_.Lang x) (v.Lang x) (v.rolls-Lang x)

  pub any_is : (w : Weight) (list : List Compound) → test_holds doc d (v.Any w list) ≡ s.test_step doc d (open_.Any w (map (compound_holds doc d) list))
  any_is w list = test_is (open_.Any w list) (v.Any w list) (v.rolls-Any w list)

  pub has_is : (list : List Relative) → test_holds doc d (v.Has list) ≡ s.test_step doc d (open_.Has (map (relative_holds doc d) list))
  has_is list = test_is (open_.Has list) (v.Has list) (v.rolls-Has list)
