-- The parts of a relative lead on from a row where some row leads back to it.
use Rattle.std.proofs.Common.{◌≡◌, refl, ℕ, ◌<◌, true, false, ◌&&◌, Bool, suc, eqb, List, [], ◌∷◌, ap, sym, ◌∙◌, length, arith, map}
use Rattle.std.specs.Prelude.{Some, reverse}
use Rattle.std.specs.Cmp.{both_ways as same_tests}
use Rattle.std.specs.List.{list_any}
use Rattle.std.proofs.lemmas.Bool.{eqb-true, eq-eqb, eqb-false}
use Rattle.doc_model.specs.Document.{Document, rows}
use Rattle.css_selectors.specs.declared.selector.Dialect.{Dialect}
use Rattle.css_selectors.specs.declared.selector.Part.{Part, out-Part}
use Rattle.css_selectors.specs.declared.selector.Relative.{Relative, out-Relative}
use Rattle.css_meaning.specs.Holding.{holds, tied, goes_on, relative_holds}
use Rattle.css_meaning.specs.Links.{linked}
use Rattle.css_meaning.specs.Matching.{leads}
use Rattle.css_meaning.specs.inner.Searching.{leads_back}
use Rattle.css_meaning.proofs.Backwards.{back}
use Rattle.css_meaning.proofs.HoldsAt.{link_of, at_relative}
use Rattle.css_meaning.proofs.ListTests as Tests
use Rattle.css_meaning.proofs.ListTests.{is_in}
use Rattle.css_meaning.proofs.Finding.{in_rows}

module _ (doc : Document) (d : Dialect) where
  -- the parts go on from x where they lead from it to some row
  on_by_leads : (ps : List Part) (x : ℕ) → is_in (rows doc) x ≡ true → goes_on doc d (map (tied doc d) ps) x ≡ list_any (λ e. leads doc d ps x e) (rows doc)
  unfolding leads
  on_by_leads [] x h = sym (here ∙ h)
    where
      here : list_any (λ e. eqb x e) (rows doc) ≡ is_in (rows doc) x
      here = Tests.any_same _ _ (λ e. same_tests (eqb x e) (eqb e x) (λ k. eq-eqb e x (sym (eqb-true x e k))) (λ k. eq-eqb x e (sym (eqb-true e x k)))) (rows doc)
  on_by_leads (p ∷ ps) x h =
      Tests.any_among _ _ (rows doc) (λ y k. at y (on_by_leads ps y k))
      ∙ Tests.any_swap (λ y e. linked doc (out-Part p).link x y && (holds doc d p y && leads doc d ps y e)) (rows doc) (rows doc)
    where
      at : (y : ℕ) → goes_on doc d (map (tied doc d) ps) y ≡ list_any (λ e. leads doc d ps y e) (rows doc) → (linked doc (tied doc d p).0 x y && (holds doc d p y && goes_on doc d (map (tied doc d) ps) y))
          ≡ list_any (λ e. linked doc (out-Part p).link x y && (holds doc d p y && leads doc d ps y e)) (rows doc)
      at y more =
          ap (λ l. linked doc l x y && (holds doc d p y && goes_on doc d (map (tied doc d) ps) y)) (link_of doc d p)
          ∙ ap (λ b. linked doc (out-Part p).link x y && (holds doc d p y && b)) more
          ∙ ap (λ b. linked doc (out-Part p).link x y && b) (Tests.and_any (holds doc d p y) (λ e. leads doc d ps y e) (rows doc))
          ∙ Tests.and_any (linked doc (out-Part p).link x y) (λ e. holds doc d p y && leads doc d ps y e) (rows doc)

  turned : (l h m : Bool) → (l && (h && m)) ≡ ((h && l) && m)
  turned true true m = refl
  turned true false m = refl
  turned false true m = refl
  turned false false m = refl

  -- and they lead to e where e leads back
  leads_by_back : (p : Part) (ps : List Part) (x e : ℕ) → is_in (rows doc) e ≡ true → leads doc d (p ∷ ps) x e ≡ leads_back doc d (Some x) (reverse (p ∷ ps)) e
  unfolding leads leads_back
  leads_by_back p ps x e h =
      Tests.any_same _ _ (λ y. turned (linked doc (out-Part p).link x y) (holds doc d p y) (leads doc d ps y e)) (rows doc)
      ∙ sym (back doc d (Some x) ps p [] e h)

  on_by_back : (p : Part) (ps : List Part) (x : ℕ) → x < length doc
      → goes_on doc d (map (tied doc d) (p ∷ ps)) x ≡ list_any (λ e. leads_back doc d (Some x) (reverse (p ∷ ps)) e) (rows doc)
  on_by_back p ps x h = on_by_leads (p ∷ ps) x (in_rows doc x h) ∙ Tests.any_among _ _ (rows doc) (λ e k. leads_by_back p ps x e k)

  -- a relative without parts leads on from everywhere
  pub nothing_asked : (r : Relative) (ps : List Part) (x : ℕ) → ps ≡ (out-Relative r).parts → eqb (length ps) 0 ≡ true → relative_holds doc d r x ≡ true
  nothing_asked r ps x is h = at_relative doc d r x ∙ ap (λ qs. goes_on doc d (map (tied doc d) qs) x) (sym is) ∙ on ps h
    where
      on : (qs : List Part) → eqb (length qs) 0 ≡ true → goes_on doc d (map (tied doc d) qs) x ≡ true
      on [] k = refl
      on (q ∷ qs) k = absurd (let none : suc (length qs) ≡ 0 = eqb-true _ _ k in omega arith)

  -- and one with parts where some row leads back
  pub on_by_rows : (r : Relative) (ps : List Part) (x : ℕ) → ps ≡ (out-Relative r).parts → eqb (length ps) 0 ≡ false → x < length doc
      → relative_holds doc d r x ≡ list_any (λ e. leads_back doc d (Some x) (reverse ps) e) (rows doc)
  on_by_rows r ps x is h lt = at_relative doc d r x ∙ ap (λ qs. goes_on doc d (map (tied doc d) qs) x) (sym is) ∙ on ps h
    where
      on : (qs : List Part) → eqb (length qs) 0 ≡ false → goes_on doc d (map (tied doc d) qs) x ≡ list_any (λ e. leads_back doc d (Some x) (reverse qs) e) (rows doc)
      on [] k = absurd (eqb-false 0 0 k refl)
      on (q ∷ qs) k = on_by_back q qs x lt
