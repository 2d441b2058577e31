-- Where the rows below each row end, while a document grows.
use Rattle.std.proofs.Common.{◌≡◌, ℕ, zero, suc, ◌+◌, ◌-◌, ◌<◌, ◌≤◌, List, [], ◌∷◌, ◌++◌, length, true, false, get_or, set, sym, ◌∙◌, ap, subst, arith, inl, inr, ◌⊎◌}
use Rattle.std.proofs.lemmas.Bool.{or_cases, or_left, or_right, cases_lt, cases_eq, eqb-true, eq-eqb, ne_eqb, both_ways, false_from_ne_true, or_parts, or_from, eqb-false}
use Rattle.std.proofs.lemmas.List.{length_push, get_or_append_left, get_or_push, get_or-set_same, get_or-set_other}
use Rattle.doc_model.specs.Document.{Row, Document, row, below, IsDocument}
use Rattle.doc_model.specs.Ends.{IsEnd}
use Rattle.doc_model.specs.Growing.{growing, innermost, IsChain, IsGrowing}
use Rattle.doc_model.specs.KeptRows.{is_open, AreEnds}
use Rattle.doc_model.proofs.Below.{Small, small, below_same, below_cases, below_trans, below_root, root_above}
use Rattle.doc_model.proofs.Grown.{pushed_same, pushed_row, element_within, element_some, innermost_owner}

-- all rows are below the root node
pub root_end : (doc : Document) → IsDocument doc → IsEnd doc 0 (length doc)
root_end doc d = record {
  after = d.some;
  within = omega arith;
  inside = λ y p l. root_above doc y (small doc d) p;
  outside = λ l. absurd (omega arith);
}

-- a row that is the innermost open element or above it is open
above_open : (doc : Document) (i : ℕ) (ns : List ℕ) → Small doc → IsChain doc ns → 0 < i → (innermost ns ≡ i) ⊎ (below doc i (innermost ns) ≡ true) → is_open i ns ≡ true
above_open doc i [] m chain some (inl e) = absurd (omega arith)
above_open doc i [] m chain some (inr b) = absurd (both_ways _ (below_root doc i) b)
above_open doc i (n ∷ ns) m chain some (inl e) = or_left _ _ (eq-eqb _ _ e)
above_open doc i (n ∷ ns) m chain some (inr b) = or_right _ _ (above_open doc i ns m chain.2 some (next (below_cases doc i n m b)))
  where
    next : ((row doc n).parent ≡ i) ⊎ (below doc i (row doc n).parent ≡ true) → (innermost ns ≡ i) ⊎ (below doc i (innermost ns) ≡ true)
    next (inl e) = inl (sym chain.1 ∙ e)
    next (inr c) = inr (subst (λ v. below doc i v ≡ true) chain.1 c)

-- the end of a row that is not open stays where one row more comes
end_kept : (doc : Document) (r : Row) (ns : List ℕ) (i e : ℕ) → IsDocument doc → IsDocument (doc ++ r ∷ []) → IsChain doc ns → r.parent ≡ innermost ns → 0 < i → is_open i ns ≡ false → IsEnd doc i e → IsEnd (doc ++ r ∷ []) i e
end_kept doc r ns i e d new chain parent some shut end =
    let m = small doc d in
    let other = doc ++ r ∷ [] in
    let same = pushed_same doc r in
    let long : length other ≡ length doc + 1 = length_push doc r in
    record {
      after = end.after;
      within = omega (arith, end.within);
      inside = λ y p l. below_same (length doc) doc other i y m same (omega (arith, l, end.within)) ∙ end.inside y p l;
      outside = λ l. elim (cases_lt e (length doc)) [
        | inl h ↦ below_same (length doc) doc other i e m same h ∙ end.outside h
        | inr h ↦ (let here : length doc ≡ e = omega (arith, end.within) in subst (λ k. below other i k ≡ false) here (false_from_ne_true _ (λ b. both_ways _ shut (above_open doc i ns m chain some (up (below_cases other i (length doc) (small other new) b))))))
      ];
    }
  where
    up : ((row (doc ++ r ∷ []) (length doc)).parent ≡ i) ⊎ (below (doc ++ r ∷ []) i (row (doc ++ r ∷ []) (length doc)).parent ≡ true) → (innermost ns ≡ i) ⊎ (below doc i (innermost ns) ≡ true)
    up (inl s) = inl (sym (ap (λ (t : Row). t.parent) (pushed_row doc r) ∙ parent) ∙ s)
    up (inr b) =
        let m = small doc d in
        let within : innermost ns < length doc = (innermost_owner doc ns d chain).0 in
        let here : (row (doc ++ r ∷ []) (length doc)).parent ≡ innermost ns = ap (λ (t : Row). t.parent) (pushed_row doc r) ∙ parent in
        inr (sym (below_same (length doc) doc (doc ++ r ∷ []) i (innermost ns) m (pushed_same doc r) within) ∙ subst (λ v. below (doc ++ r ∷ []) i v ≡ true) here b)

-- ends at some of the rows, by their numbers
at_left : (ends : List ℕ) (e i n : ℕ) → 0 < i → i < n → n ≡ length ends + 1 → get_or (ends ++ e ∷ []) (i - 1) 0 ≡ get_or ends (i - 1) 0
at_left ends e i n some h long = get_or_append_left ends (e ∷ []) 0 (i - 1) (omega arith)

at_last : (ends : List ℕ) (e n : ℕ) → n ≡ length ends + 1 → get_or (ends ++ e ∷ []) (n - 1) 0 ≡ e
at_last ends e n long = let k : length ends ≡ n - 1 = omega arith in get_or_push ends e 0 (n - 1) k

-- one row more that is no element
pub leaf_ends : (doc : Document) (r : Row) (ns ends : List ℕ) (e : ℕ) → IsDocument doc → IsDocument (doc ++ r ∷ []) → IsChain doc ns → r.parent ≡ innermost ns → length doc ≡ length ends + 1 → e ≡ length doc + 1
    → AreEnds doc ns ends → AreEnds (doc ++ r ∷ []) ns (ends ++ e ∷ [])
leaf_ends doc r ns ends e d new chain parent long after are i some l shut = elim (cases_lt i (length doc)) [
  | inl h ↦ subst (IsEnd (doc ++ r ∷ []) i) (sym (at_left ends e i (length doc) some h long)) (end_kept doc r ns i (get_or ends (i - 1) 0) d new chain parent some shut (are i some h shut))
  | inr h ↦ (
      let long_other : length (doc ++ r ∷ []) ≡ length doc + 1 = length_push doc r in
      let here : length doc ≡ i = omega (arith, l) in
      let own : IsEnd (doc ++ r ∷ []) (length doc) e = record { after = omega arith; within = omega arith; inside = λ y p k. absurd (omega arith); outside = λ k. absurd (omega arith) } in
      subst (λ k. IsEnd (doc ++ r ∷ []) k (get_or (ends ++ e ∷ []) (k - 1) 0)) here (subst (IsEnd (doc ++ r ∷ []) (length doc)) (sym (at_last ends e (length doc) long)) own)
      )
]

-- an element more, which is open
pub element_ends : (doc : Document) (r : Row) (ns ends : List ℕ) (e : ℕ) → IsDocument doc → IsDocument (doc ++ r ∷ []) → IsChain doc ns → r.parent ≡ innermost ns → length doc ≡ length ends + 1
    → AreEnds doc ns ends → AreEnds (doc ++ r ∷ []) (length doc ∷ ns) (ends ++ e ∷ [])
element_ends doc r ns ends e d new chain parent long are i some l shut =
    let parts = or_parts _ _ shut in
    let differs : length doc ≡ i → ⊥ = eqb-false _ _ parts.0 in
    let h : i < length doc = (elim (cases_lt i (length doc)) [ inl h ↦ h | inr h ↦ absurd (differs (omega (arith, l, length_push doc r))) ]) in
    subst (IsEnd (doc ++ r ∷ []) i) (sym (at_left ends e i (length doc) some h long)) (end_kept doc r ns i (get_or ends (i - 1) 0) d new chain parent some parts.1 (are i some h parts.1))

-- all rows from a row on to one below it are below it
between_within : (k : ℕ) (doc : Document) (n y : ℕ) → IsDocument doc → n < y → y + k < length doc → below doc n (y + k) ≡ true → below doc n y ≡ true
between_within zero doc n y d h l b = let z : y + 0 ≡ y = omega arith in subst (λ v. below doc n v ≡ true) z b
between_within (suc k) doc n y d h l b =
    let m = small doc d in
    let z : ℕ = y + suc k in
    let before : z - 1 ≡ y + k = omega arith in
    let nested : ((row doc z).parent ≡ z - 1) ⊎ (below doc (row doc z).parent (z - 1) ≡ true) = elim (or_cases _ _ (d.rest z (omega arith) l).nested) [ inl s ↦ inl (eqb-true _ _ s) | inr b ↦ inr b ] in
    between_within k doc n y d h (omega arith) (subst (λ v. below doc n v ≡ true) before (back m (omega arith) (below_cases doc n z m b) nested))
  where
    back : Small doc → n < y + suc k - 1 → ((row doc (y + suc k)).parent ≡ n) ⊎ (below doc n (row doc (y + suc k)).parent ≡ true)
        → ((row doc (y + suc k)).parent ≡ y + suc k - 1) ⊎ (below doc (row doc (y + suc k)).parent (y + suc k - 1) ≡ true) → below doc n (y + suc k - 1) ≡ true
    back m less (inl s) (inl t) = absurd (omega arith)
    back m less (inl s) (inr c) = subst (λ v. below doc v (y + suc k - 1) ≡ true) s c
    back m less (inr b) (inl t) = subst (λ v. below doc n v ≡ true) t b
    back m less (inr b) (inr c) = below_trans doc n (row doc (y + suc k)).parent (y + suc k - 1) m b c

pub between : (doc : Document) (n y z : ℕ) → IsDocument doc → n < y → y ≤ z → z < length doc → below doc n z ≡ true → below doc n y ≡ true
between doc n y z d h le l b = let e : z ≡ y + (z - y) = omega arith in between_within (z - y) doc n y d h (omega arith) (subst (λ v. below doc n v ≡ true) e b)

-- the rows below the innermost open element are all that follow
innermost_end : (doc : Document) (n : ℕ) (ns : List ℕ) → IsGrowing (growing doc (n ∷ ns)) → IsEnd doc n (length doc)
innermost_end doc n ns w =
    let within : n < length doc = element_within doc n w.chain.0 in
    record {
      after = within;
      within = omega arith;
      inside = λ y p l. elim (or_cases _ _ w.last) [
        | inl s ↦ absurd (let e : n ≡ length doc - 1 = eqb-true _ _ s in omega arith)
        | inr b ↦ between doc n y (length doc - 1) w.document p (omega arith) (omega arith) b
      ];
      outside = λ l. absurd (omega arith);
    }

pub close_ends : (doc : Document) (n : ℕ) (ns ends : List ℕ) → IsGrowing (growing doc (n ∷ ns)) → length doc ≡ length ends + 1 → AreEnds doc (n ∷ ns) ends → AreEnds doc ns (set ends (n - 1) (length doc))
close_ends doc n ns ends w long are i some l shut =
    let above : 0 < n = element_some doc n w.document w.chain.0 in
    let within : n < length doc = element_within doc n w.chain.0 in
    elim (cases_eq n i) [
      | inl e ↦ subst (λ k. IsEnd doc k (get_or (set ends (n - 1) (length doc)) (k - 1) 0)) e (subst (IsEnd doc n) (sym (get_or-set_same ends (n - 1) (length doc) 0 (omega arith))) (innermost_end doc n ns w))
      | inr e ↦ subst (IsEnd doc i) (sym (get_or-set_other ends (n - 1) (i - 1) (length doc) 0 (λ k. e (omega arith)))) (are i some l (or_from _ _ (ne_eqb _ _ e) shut))
    ]
