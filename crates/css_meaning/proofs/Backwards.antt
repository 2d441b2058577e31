-- Reading from the right and from the left come to the same.
use Rattle.std.proofs.Common.{◌≡◌, refl, ℕ, true, ◌&&◌, ◌||◌, eqb, List, [], ◌∷◌, ap, sym, ◌∙◌, ◌<◌, length, zero, suc, arith}
use Rattle.std.specs.Prelude.{Option, None}
use mathlib.Core.List.{reverse_aux}
use Rattle.std.specs.List.{list_any}
use Rattle.doc_model.specs.Document.{Document, rows, below, IsDocument}
use Rattle.doc_model.proofs.Below.{small, root_above}
use Rattle.css_selectors.specs.declared.selector.Dialect.{Dialect}
use Rattle.css_selectors.specs.declared.selector.Part.{Part, out-Part}
use Rattle.css_meaning.specs.Holding.{holds}
use Rattle.css_meaning.specs.Links.{linked}
use Rattle.css_meaning.specs.Matching.{leads, reaches_by, matches_back, matches_by}
use Rattle.css_meaning.specs.inner.Searching.{leads_back}
use Rattle.css_meaning.proofs.ListTests as Tests
use Rattle.css_meaning.proofs.ListTests.{is_in}
use Rattle.css_meaning.proofs.Finding.{in_rows}
use Rattle.css_meaning.specs.Reaching.{MatchesLaw}

module _ (doc : Document) (d : Dialect) where
  -- a search that ends anywhere is the match
  pub ends_anywhere : (ps : List Part) (e : ℕ) → leads_back doc d None ps e ≡ matches_back doc d ps e
  unfolding leads_back matches_back
  ends_anywhere [] e = refl
  ends_anywhere (p ∷ []) e = Tests.and_true (holds doc d p e)
  ends_anywhere (p ∷ q ∷ ps) e =
      ap (λ b. holds doc d p e && b) (Tests.any_same _ _ (λ x. ap (λ b. linked doc (out-Part p).link x e && b) (ends_anywhere (q ∷ ps) x)) (rows doc))

  -- parts read from the right, those on the left of them read already
  pub back : (from : Option ℕ) (ps : List Part) (q : Part) (qs : List Part) (e : ℕ) → is_in (rows doc) e ≡ true
      → leads_back doc d from (reverse_aux ps (q ∷ qs)) e ≡ list_any (λ x. leads_back doc d from (q ∷ qs) x && leads doc d ps x e) (rows doc)
  unfolding leads_back leads
  back from [] q qs e in_rows =
      sym (Tests.and_true _) ∙ ap (λ b. leads_back doc d from (q ∷ qs) e && b) (sym in_rows)
      ∙ sym (Tests.any_one (λ x. leads_back doc d from (q ∷ qs) x) (rows doc) e)
  back from (p ∷ ps) q qs e in_rows =
      back from ps p (q ∷ qs) e in_rows
      ∙ Tests.any_same _ _ (λ y. split y) (rows doc)
      ∙ Tests.any_swap (λ y x. leads_back doc d from (q ∷ qs) x && (linked doc (out-Part p).link x y && (holds doc d p y && leads doc d ps y e))) (rows doc) (rows doc)
      ∙ Tests.any_same _ _ (λ x. sym (Tests.and_any (leads_back doc d from (q ∷ qs) x) (λ y. linked doc (out-Part p).link x y && (holds doc d p y && leads doc d ps y e)) (rows doc))) (rows doc)
    where
      split : (y : ℕ) → ((holds doc d p y && list_any (λ x. linked doc (out-Part p).link x y && leads_back doc d from (q ∷ qs) x) (rows doc)) && leads doc d ps y e)
          ≡ list_any (λ x. leads_back doc d from (q ∷ qs) x && (linked doc (out-Part p).link x y && (holds doc d p y && leads doc d ps y e))) (rows doc)
      split y =
          ap (λ b. b && leads doc d ps y e) (Tests.and_any (holds doc d p y) (λ x. linked doc (out-Part p).link x y && leads_back doc d from (q ∷ qs) x) (rows doc))
          ∙ Tests.any_and _ (leads doc d ps y e) (rows doc)
          ∙ Tests.any_same _ _ (λ x. Tests.turned (holds doc d p y) (linked doc (out-Part p).link x y) (leads_back doc d from (q ∷ qs) x) (leads doc d ps y e)) (rows doc)

  root_or_below : IsDocument doc → (y : ℕ) → (eqb y 0 || below doc 0 y) ≡ true
  root_or_below h zero = refl
  root_or_below h (suc m) = ap (λ b. eqb (suc m) 0 || b) (root_above doc (suc m) (small doc h) (omega arith)) ∙ Tests.or_true (eqb (suc m) 0)

  from_first : IsDocument doc → (p : Part) (ps : List Part) (e : ℕ) → is_in (rows doc) e ≡ true
      → reaches_by doc d (p ∷ ps) 0 e ≡ matches_by doc d (p ∷ ps) e
  unfolding reaches_by leads_back
  from_first h p ps e in_rows = Tests.any_same _ _ at (rows doc) ∙ Tests.any_same _ _ first (rows doc) ∙ sym (back None ps p [] e in_rows) ∙ ends_anywhere (reverse_aux ps (p ∷ [])) e
    where
      at : (y : ℕ) → ((eqb y 0 || below doc 0 y) && (holds doc d p y && leads doc d ps y e)) ≡ (holds doc d p y && leads doc d ps y e)
      at y = ap (λ b. b && (holds doc d p y && leads doc d ps y e)) (root_or_below h y)

      first : (y : ℕ) → (holds doc d p y && leads doc d ps y e) ≡ (leads_back doc d None (p ∷ []) y && leads doc d ps y e)
      first y = ap (λ b. b && leads doc d ps y e) (sym (Tests.and_true (holds doc d p y)))

  by_parts : IsDocument doc → (parts : List Part) (e : ℕ) → e < length doc → reaches_by doc d parts 0 e ≡ matches_by doc d parts e
  unfolding reaches_by matches_back
  by_parts h [] e lt = refl
  by_parts h (p ∷ ps) e lt = from_first h p ps e (in_rows doc e lt)

pub matches_law : MatchesLaw
matches_law doc h d s e lt = by_parts doc d h s.parts e lt
