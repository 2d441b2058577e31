-- The steps of a search as the code says them.
use Rattle.std.proofs.Common.{◌≡◌, ℕ, zero, suc, ◌-◌, ◌<◌, ◌≤◌, true, false, ◌&&◌, eqb, List, [], ◌∷◌, length, get_or, refl, sym, ◌∙◌, ap, subst, arith, inl, inr}
use Rattle.std.specs.Prelude.{reverse, Option}
use Rattle.std.proofs.lemmas.Bool.{and_from, cases_lt, eqb-true, eqb-false}
use Rattle.doc_model.specs.Document.{Document, IsDocument}
use Rattle.css_selectors.specs.declared.selector.Dialect.{Dialect}
use Rattle.css_selectors.specs.declared.selector.Part.{Part, out-Part}
use Rattle.css_meaning.specs.declared.searching.Mark.{Mark}
use Rattle.css_meaning.specs.declared.searching.Search.{Search}
use Rattle.css_meaning.proofs.Leftward.{IsStep, first, unheld}
use Rattle.css_meaning.specs.Holding.{holds}
use Rattle.css_meaning.specs.inner.Searching.{is_matched, is_promising, is_end, leads_back, IsSearch, IsOnward}
use Rattle.css_meaning.proofs.Onward.{mark, search_of, promise_at, begins, promises_all}

module _ (doc : Document) (d : Dialect) (from : Option ℕ) (parts : List Part) where
  pub step_of : (s : Search) (p : Part) → IsSearch doc d from parts s → 1 < s.at.left → get_or parts (s.at.left - 1) p ≡ p → IsStep parts (s.at.left - 1) s.at.left p
  step_of s p w more e = record { some = omega arith; counts = omega arith; within = (let h = w.at.within in omega arith); is = e }

  pub made : (s t : Search) (a b c : Mark) → t.at ≡ a → t.sibling ≡ b → t.ancestor ≡ c → IsOnward doc d from parts s (search_of a b c) → IsOnward doc d from parts s t
  made s t a b c e f g w =
      subst (IsOnward doc d from parts s) (ap (λ v. search_of v b c) (sym e) ∙ (ap (λ v. search_of t.at v c) (sym f) ∙ ap (λ v. search_of t.at t.sibling v) (sym g))) w

  -- the first part alone is tried
  at_first : (s : Search) (p : Part) → IsSearch doc d from parts s → s.at.left ≡ 1 → get_or parts (s.at.left - 1) p ≡ p
      → is_matched doc d from parts s.at.left s.at.row ≡ (holds doc d p s.at.row && is_end doc from (out-Part p).link s.at.row)
  at_first s p w one e =
      let zeroth : s.at.left - 1 ≡ 0 = omega arith in
      ap (λ n. is_matched doc d from parts n s.at.row) one
      ∙ first doc d from parts p (let k = w.at.within in omega arith) (subst (λ n. get_or parts n p ≡ p) zeroth e) s.at.row

  one_left : (s : Search) → IsSearch doc d from parts s → s.at.left ≤ 1 → s.at.left ≡ 1
  one_left s w few = omega (arith, w.at.some, few)

  -- the part that is tried does not hold
  pub fails : (s : Search) (p : Part) → IsSearch doc d from parts s → get_or parts (s.at.left - 1) p ≡ p → holds doc d p s.at.row ≡ false → is_matched doc d from parts s.at.left s.at.row ≡ false
  fails s p w e h =
      elim (cases_lt 1 s.at.left) [
        | inl more ↦ unheld doc d from parts (s.at.left - 1) s.at.left p (step_of s p w more e) s.at.row h
        | inr few ↦ at_first s p w (omega (arith, w.at.some, few)) e ∙ ap (λ b. b && is_end doc from (out-Part p).link s.at.row) h
      ]

  -- it holds, it is the first, and the search does not end there
  pub stops : (s : Search) (p : Part) → IsSearch doc d from parts s → s.at.left ≤ 1 → get_or parts (s.at.left - 1) p ≡ p
      → holds doc d p s.at.row ≡ true → is_end doc from (out-Part p).link s.at.row ≡ false → is_matched doc d from parts s.at.left s.at.row ≡ false
  stops s p w few e h k = at_first s p w (one_left s w few) e ∙ ap (λ b. b && is_end doc from (out-Part p).link s.at.row) h ∙ k

  -- it holds, and the search ends there
  pub reached : (s : Search) (p : Part) → IsSearch doc d from parts s → s.at.left ≤ 1 → get_or parts (s.at.left - 1) p ≡ p
      → holds doc d p s.at.row ≡ true → is_end doc from (out-Part p).link s.at.row ≡ true → is_promising doc d from parts s ≡ true
  reached s p w few e h k = promise_at doc d from parts s (at_first s p w (one_left s w few) e ∙ and_from _ _ h k)

  pub begins_at : IsDocument doc → (t : Search) (e : ℕ) → t.at ≡ mark (length parts) e → t.sibling ≡ mark (length parts) 0 → t.ancestor ≡ mark (length parts) 0 → 0 < length parts → e < length doc
      → IsSearch doc d from parts t × (is_promising doc d from parts t ≡ leads_back doc d from (reverse parts) e)
  begins_at dd t e f g h some_part within =
      subst (λ u. IsSearch doc d from parts u × (is_promising doc d from parts u ≡ leads_back doc d from (reverse parts) e))
      (ap (λ v. search_of v (mark (length parts) 0) (mark (length parts) 0)) (sym f) ∙ (ap (λ v. search_of t.at v (mark (length parts) 0)) (sym g) ∙ ap (λ v. search_of t.at t.sibling v) (sym h)))
      (begins doc d from parts e some_part within, promises_all doc d from parts dd e (omega arith))

pub positive : (x : ℕ) → (x ≡ 0 → ⊥) → 0 < x
positive zero h = absurd (h refl)
positive (suc x) h = omega arith

pub some_part : (parts : List Part) → eqb (length parts) 0 ≡ false → 0 < length parts
some_part parts h = positive (length parts) (eqb-false _ _ h)

-- without a part the search fails
pub no_part : (doc : Document) (d : Dialect) (from : Option ℕ) (parts : List Part) (e : ℕ) → eqb (length parts) 0 ≡ true → leads_back doc d from (reverse parts) e ≡ false
unfolding leads_back
no_part doc d from [] e h = refl
no_part doc d from (p ∷ ps) e h = absurd (let none : suc (length ps) ≡ 0 = eqb-true _ _ h in omega arith)
