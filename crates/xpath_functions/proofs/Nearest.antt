-- The nearest attribute `xml:lang`.
use Rattle.std.proofs.Common.{◌≡◌, sym, ◌∙◌, ap, subst, ℕ, ◌+◌, ◌<◌, ◌≤◌, Bool, true, false, ◌&&◌, ◌||◌, cond, List, [], ◌∷◌, ◌++◌, length, reverse, eqb, codes, arith, ◌⊎◌, inl, inr, Option, Some, None, option_to_list}
use Rattle.std.specs.Prelude.{filter}
use Rattle.std.specs.List.{range_with_len}
use Rattle.std.proofs.lemmas.Bool.{and_left, and_right, or_left, or_right, or_from, eq-eqb, ne_eqb, cases_lt}
use Rattle.std.proofs.lemmas.List.{reverse-append}
use Rattle.doc_model.specs.Document.{Document, row, rows, below, IsDocument}
use Rattle.doc_model.proofs.Below.{small, not_up}
use Rattle.doc_model.proofs.Filters.{upto_more, upto_none, upto_all}
use Rattle.doc_model.proofs.WalkSteps.{IsOver, none_above, over_within}
use Rattle.xpath_parser.specs.Conversions.{is_any}
use Rattle.xpath_parser.specs.Functions.{attributes_named, language_at, language_of, lang}
use Rattle.xpath_functions.specs.inner.Languages.{says}

abbrev pub here : Document → ℕ → ℕ → Bool
here doc c k = ((eqb k c) || below doc k c) && is_any (attributes_named doc (codes "xml:lang") k)

over : (doc : Document) (y c : ℕ) → IsOver doc y c → ((eqb y c) || below doc y c) ≡ true
over doc y c (inl e) = or_left _ _ (eq-eqb y c e)
over doc y c (inr b) = or_right _ _ b

both : (a b : Bool) → a ≡ true → b ≡ true → (a && b) ≡ true
both a b h k = ap (λ v. v && b) h ∙ k

-- no row after the context row is it or above it
pub none_after : (doc : Document) (c k : ℕ) → IsDocument doc → c < k → here doc c k ≡ false
none_after doc c k d l = and_left _ _ (or_from _ _ (ne_eqb k c (λ e. omega (arith, e))) (not_up doc k c (small doc d) (omega arith)))

pub none_here : (doc : Document) (c y : ℕ) → attributes_named doc (codes "xml:lang") y ≡ [] → here doc c y ≡ false
none_here doc c y e = and_right _ _ (ap is_any e)

-- no row between a row over the context row and its parent is over it
pub further : (doc : Document) (c y q : ℕ) → IsDocument doc → IsOver doc y c → q ≡ (row doc y).parent → here doc c y ≡ false
    → ((k : ℕ) → y < k → k < length doc → here doc c k ≡ false) → (k : ℕ) → q < k → k < length doc → here doc c k ≡ false
further doc c y q d o e h after k l m = elim (cases_lt y k) [ inl i ↦ after k i m | inr i ↦ upto (cases_lt k y) i ]
  where
    upto : (k < y) ⊎ (y ≤ k) → k ≤ y → here doc c k ≡ false
    upto (inl j) i =
        let under : y ≤ c = over_within doc y c (small doc d) o in
        and_left _ _ (or_from _ _ (ne_eqb k c (λ s. omega (arith, s))) (none_above doc c y k (small doc d) o (omega (arith, e)) j))
    upto (inr j) i = let s : y ≡ k = omega arith in subst (λ v. here doc c v ≡ false) s h

pub nearest : (doc : Document) (x : List ℕ) (c y z : ℕ) → y < length doc → IsOver doc y c → attributes_named doc (codes "xml:lang") y ≡ z ∷ []
    → ((k : ℕ) → y < k → k < length doc → here doc c k ≡ false) → lang doc x c ≡ says doc (Some z) x
nearest doc x c y z l o e after =
    let this : here doc c y ≡ true = both _ _ (over doc y c o) (ap is_any e) in
    let list : filter (here doc c) (rows doc) ≡ filter (here doc c) (range_with_len 0 y) ++ y ∷ [] =
    sym (upto_all (here doc c) (y + 1) (length doc) (omega arith) (λ k i j. after k (omega (arith, i)) j))
    ∙ upto_more (here doc c) y (y + 1) (omega arith) (λ k i j. absurd (omega (arith, i, j)))
    ∙ ap (λ b. filter (here doc c) (range_with_len 0 y) ++ cond b (y ∷ []) []) this in
    ap (λ v. language_at doc x (reverse v)) list
    ∙ ap (language_at doc x) (reverse-append (filter (here doc c) (range_with_len 0 y)) (y ∷ []))
    ∙ ap (language_of doc x) e

nowhere : (doc : Document) (x : List ℕ) (c : ℕ) → ((k : ℕ) → k < length doc → here doc c k ≡ false) → lang doc x c ≡ false
nowhere doc x c none = ap (λ v. language_at doc x (reverse v)) (upto_none (here doc c) (length doc) none)

-- at the root node
pub topmost : (doc : Document) (x : List ℕ) (c y : ℕ) (o : Option ℕ) → y ≡ 0 → y < length doc → IsOver doc y c → attributes_named doc (codes "xml:lang") y ≡ option_to_list o
    → ((k : ℕ) → y < k → k < length doc → here doc c k ≡ false) → lang doc x c ≡ says doc o x
topmost doc x c y (Some z) s l o e after = nearest doc x c y z l o e after
topmost doc x c y None s l o e after = nowhere doc x c (λ k m. elim (cases_lt y k) [ inl i ↦ after k i m | inr i ↦ let j : y ≡ k = omega arith in subst (λ v. here doc c v ≡ false) j (none_here doc c y e) ])
