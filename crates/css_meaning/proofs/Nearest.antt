-- The nearest attribute that names a language.
use Rattle.std.proofs.Common.{◌≡◌, ◌≢◌, sym, ◌∙◌, ap, subst, ℕ, ◌<◌, ◌≤◌, Bool, true, false, ◌&&◌, ◌||◌, not, List, [], ◌∷◌, length, eqb, ltb, arith, ◌⊎◌, inl, inr, Option, Some, None, lt-ltb}
use Rattle.std.specs.Option.{option_to_list}
use Rattle.std.specs.List.{list_any, range_with_len}
use Rattle.std.specs.Cmp.{both_ways}
use Rattle.std.proofs.lemmas.Bool.{and_left, and_right, and_from, or_left, or_right, or_from, eq-eqb, ne_eqb, cases_lt, and_parts, false_from_ne_true, ltb-true}
use Rattle.doc_model.specs.Document.{Document, row, below, IsDocument}
use Rattle.doc_model.proofs.Below.{small, not_up}
use Rattle.doc_model.proofs.WalkSteps.{IsOver, none_above, over_within}
use Rattle.css_selectors.specs.declared.selector.Dialect.{Dialect}
use Rattle.css_meaning.specs.Attributes.{has_value, lang_test}
use Rattle.css_meaning.specs.Language.{lang_name, gives_language, is_nearest_language, lang_holds}
use Rattle.css_meaning.specs.inner.Nearest.{says}
use Rattle.css_meaning.proofs.Finding.{found, finds}
use Rattle.css_meaning.proofs.FoundValues.{named, value_found}
use Rattle.css_meaning.proofs.ListTests.{or_false}

over : (doc : Document) (y e : ℕ) → IsOver doc y e → ((eqb y e) || below doc y e) ≡ true
over doc y e (inl i) = or_left _ _ (eq-eqb y e i)
over doc y e (inr b) = or_right _ _ b

-- one number passes alone, or none
only_one : (q : ℕ → Bool) (n y : ℕ) → y < n → ((k : ℕ) → k < n → k ≢ y → q k ≡ false) → list_any q (range_with_len 0 n) ≡ q y
only_one q n y l others = both_ways _ _
    (λ h.
    let w = found q 0 n h in
    elim (eq_or_not w.0 y) [ inl e ↦ ap q (sym e) ∙ w.3 | inr ne ↦ absurd (clash (q w.0) w.3 (others w.0 (omega arith) ne)) ])
    (λ h. finds q 0 n y (omega arith) (omega arith) h)
  where
    clash : (b : Bool) → b ≡ true → b ≡ false → ⊥
    clash b h k = cc

    eq_or_not : (a b : ℕ) → (a ≡ b) ⊎ (a ≢ b)
    eq_or_not a b = elim (cases_lt a b) [ inl lt ↦ inr (λ e. omega arith) | inr ge ↦ elim (cases_lt b a) [ inl gt ↦ inr (λ e. omega arith) | inr le ↦ inl (omega arith) ] ]

no_one : (q : ℕ → Bool) (n : ℕ) → ((k : ℕ) → k < n → q k ≡ false) → list_any q (range_with_len 0 n) ≡ false
no_one q n none = false_from_ne_true _ (λ h. let w = found q 0 n h in let no : q w.0 ≡ false = none w.0 (omega arith) in let yes : q w.0 ≡ true = w.3 in cc)

module _ (doc : Document) (dialect : Dialect) (e : ℕ) (d : IsDocument doc) where
  abbrev pub here : ℕ → Bool
  here k = gives_language doc dialect e k

  -- no row after the first one is it or above it
  pub none_after : (k : ℕ) → e < k → here k ≡ false
  none_after k l = and_left _ _ (or_from _ _ (ne_eqb k e (λ i. omega (arith, i))) (not_up doc k e (small doc d) (omega arith)))

  pub none_here : (y : ℕ) → named doc (lang_name dialect) y ≡ [] → here y ≡ false
  none_here y i = and_right _ _ (value_found doc (lang_name dialect) y (λ value. true) ∙ ap (list_any (λ (r : ℕ). true)) i)

  -- no row between a row over the first one and its parent is over it
  pub further : (y q : ℕ) → IsOver doc y e → q ≡ (row doc y).parent → here y ≡ false
      → ((k : ℕ) → y < k → k < length doc → here k ≡ false) → (k : ℕ) → q < k → k < length doc → here k ≡ false
  further y q o i h after k l m = elim (cases_lt y k) [ inl j ↦ after k j m | inr j ↦ upto (cases_lt k y) j ]
    where
      upto : (k < y) ⊎ (y ≤ k) → k ≤ y → here k ≡ false
      upto (inl j) f =
          let under : y ≤ e = over_within doc y e (small doc d) o in
          and_left _ _ (or_from _ _ (ne_eqb k e (λ s. omega (arith, s))) (none_above doc e y k (small doc d) o (omega (arith, i)) j))
      upto (inr j) f = let s : y ≡ k = omega arith in subst (λ v. here v ≡ false) s h

  abbrev later : ℕ → ℕ → Bool
  later z w = here w && ltb z w

  -- the row that decides
  nearest_here : (y z : ℕ) → IsOver doc y e → named doc (lang_name dialect) y ≡ z ∷ []
      → ((k : ℕ) → y < k → k < length doc → here k ≡ false) → is_nearest_language doc dialect e y ≡ true
  nearest_here y z o i after =
      and_from _ _ (this_here) (ap not (no_one (later y) (length doc) (λ w l. elim (cases_lt y w) [ inl j ↦ and_left _ _ (after w j l) | inr j ↦ and_right _ _ (false_from_ne_true _ (λ t. let u = ltb-true y w t in omega arith)) ])))
    where
      this_here : here y ≡ true
      this_here = and_from _ _ (over doc y e o) (value_found doc (lang_name dialect) y (λ value. true) ∙ ap (list_any (λ (r : ℕ). true)) i)

  not_nearest : (y z k : ℕ) → y < length doc → IsOver doc y e → named doc (lang_name dialect) y ≡ z ∷ []
      → ((k : ℕ) → y < k → k < length doc → here k ≡ false) → k < length doc → k ≢ y → is_nearest_language doc dialect e k ≡ false
  not_nearest y z k l o i after m ne = elim (cases_lt y k) [
    | inl j ↦ and_left _ _ (after k j m)
    | inr j ↦
        let less : k < y = omega (arith, ne) in
        let decides : here y ≡ true = (and_parts (here y) _ (nearest_here y z o i after)).0 in
        and_right _ _ (ap not (finds (later k) 0 (length doc) y (omega arith) (omega arith) (and_from _ _ decides (lt-ltb k y less))))
  ]

  pub nearest : (x : List ℕ) (y z : ℕ) → y < length doc → IsOver doc y e → named doc (lang_name dialect) y ≡ z ∷ []
      → ((k : ℕ) → y < k → k < length doc → here k ≡ false) → lang_holds doc dialect x e ≡ says doc (Some z) x
  nearest x y z l o i after =
      only_one _ (length doc) y l (λ k m ne. and_left _ _ (not_nearest y z k l o i after m ne))
      ∙ ap (λ b. b && has_value doc y (lang_name dialect) (λ value. lang_test value x)) (nearest_here y z o i after)
      ∙ value_found doc (lang_name dialect) y (λ value. lang_test value x)
      ∙ ap (list_any (λ r. lang_test (row doc r).text x)) i
      ∙ or_false (lang_test (row doc z).text x)

  nowhere : (x : List ℕ) → ((k : ℕ) → k < length doc → here k ≡ false) → lang_holds doc dialect x e ≡ false
  nowhere x none = no_one _ (length doc) (λ k l. and_left _ _ (and_left _ _ (none k l)))

  -- at the root node
  pub topmost : (x : List ℕ) (y : ℕ) (o : Option ℕ) → y ≡ 0 → y < length doc → IsOver doc y e → named doc (lang_name dialect) y ≡ option_to_list o
      → ((k : ℕ) → y < k → k < length doc → here k ≡ false) → lang_holds doc dialect x e ≡ says doc o x
  topmost x y (Some z) s l o i after = nearest x y z l o i after
  topmost x y None s l o i after = nowhere x (λ k m. elim (cases_lt y k) [ inl j ↦ after k j m | inr j ↦ let t : y ≡ k = omega arith in subst (λ v. here v ≡ false) t (none_here y i) ])
