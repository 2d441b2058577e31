-- How far the elements of a name go.
use Rattle.std.proofs.Common.{◌≡◌, ℕ, zero, suc, ◌+◌, ◌-◌, ◌*◌, ◌^◌, ◌<◌, ◌≤◌, length, take, drop, Bool, true, false, ◌&&◌, ◌||◌, cond, eqb, List, [], ◌∷◌, ◌++◌, refl, sym, ◌∙◌, ap, arith, inl, inr, Some, None, append_assoc, mul-add, add-mul}
use Rattle.std.specs.Prelude.{filter, slice_get, not}
use Rattle.std.specs.List.{range_with_len}
use Rattle.std.proofs.lemmas.Bool.{and_left, and_right, or_from, or_left, cases_lt, eq-eqb, ne_eqb, cond_both}
use Rattle.std.proofs.lemmas.List.{length-append, append-nil, take_all, take-append-drop}
use Rattle.std.proofs.lemmas.Nat.{mul-le, pow_below, pow-add}
use Rattle.doc_model.specs.declared.Kind.{Kind}
use Rattle.doc_model.specs.declared.Kind.TheVariants.{Root, Element, Attribute, Text, Comment}
use Rattle.doc_model.specs.declared.Axis.TheVariants as axis
use Rattle.doc_model.specs.declared.NodeTest.TheVariants as test
use Rattle.doc_model.specs.Document.{Document, row, is_element_kind, is_attribute, is_attribute_kind, below, IsDocument}
use Rattle.doc_model.specs.Axes.{axis_list}
use Rattle.doc_model.specs.Ends.{IsEnd}
use Rattle.doc_model.specs.inner.Walks.{chosen}
use Rattle.doc_model.proofs.Below.{small, not_up, past_end}
use Rattle.doc_model.proofs.Runs.{same_filter, same_filter_below}
use Rattle.doc_model.proofs.Filters.{none_in, from_to, upto, upto_none, single}
use Rattle.step_index.specs.Named.{is_named, named_before, named_below, GrowsByFront}

-- ---- lists by place

pub within_some : (xs : List ℕ) (k y : ℕ) → slice_get xs k ≡ Some y → k < length xs
within_some [] k y e = cc
within_some (x ∷ xs) zero y e = omega arith
within_some (x ∷ xs) (suc k) y e = let l : k < length xs = within_some xs k y e in omega arith

pub past_none : (xs : List ℕ) (k : ℕ) → slice_get xs k ≡ None → length xs ≤ k
past_none [] k e = omega arith
past_none (x ∷ xs) zero e = cc
past_none (x ∷ xs) (suc k) e = let l : length xs ≤ k = past_none xs k e in omega arith

pub none_past : (xs : List ℕ) (k : ℕ) → length xs ≤ k → slice_get xs k ≡ None
none_past [] k l = refl
none_past (x ∷ xs) zero l = absurd (omega arith)
none_past (x ∷ xs) (suc k) l = none_past xs k (omega arith)

pub in_front : (xs ys : List ℕ) (k : ℕ) → k < length xs → slice_get (xs ++ ys) k ≡ slice_get xs k
in_front [] ys k l = absurd (omega arith)
in_front (x ∷ xs) ys zero l = refl
in_front (x ∷ xs) ys (suc k) l = in_front xs ys k (omega arith)

pub behind : (xs ys : List ℕ) (k : ℕ) → length xs ≤ k → slice_get (xs ++ ys) k ≡ slice_get ys (k - length xs)
behind [] ys k l = let e : k ≡ k - 0 = omega arith in ap (slice_get ys) e
behind (x ∷ xs) ys zero l = absurd (omega arith)
behind (x ∷ xs) ys (suc k) l = let e : k - length xs ≡ suc k - suc (length xs) = omega arith in behind xs ys k (omega arith) ∙ ap (slice_get ys) e

pub one_taken : (xs : List ℕ) (k y : ℕ) → slice_get xs k ≡ Some y → take (suc k) xs ≡ take k xs ++ y ∷ []
one_taken [] k y e = cc
one_taken (x ∷ xs) zero y e = let s : x ≡ y = cc in ap (λ v. v ∷ []) s
one_taken (x ∷ xs) (suc k) y e = ap (λ v. x ∷ v) (one_taken xs k y e)

-- ---- the rows of a filter

member_at : (low n : ℕ) (b : Bool) (r : List ℕ) (k y : ℕ) → ((j : ℕ) → slice_get r j ≡ Some y → (low + 1 ≤ y) × (y < low + 1 + n)) → slice_get (cond b (low ∷ r) r) k ≡ Some y → (low ≤ y) × (y < low + suc n)
member_at low n true r zero y next e = let s : low ≡ y = cc in (omega arith, omega arith)
member_at low n true r (suc k) y next e = let m = next k e in (omega (arith, m.0), omega (arith, m.1))
member_at low n false r k y next e = let m = next k e in (omega (arith, m.0), omega (arith, m.1))

-- what stands in it is one of the range
pub member : (p : ℕ → Bool) (n low k y : ℕ) → slice_get (filter p (range_with_len low n)) k ≡ Some y → (low ≤ y) × (y < low + n)
member p zero low k y e = cc
member p (suc n) low k y e = member_at low n (p low) (filter p (range_with_len (low + 1) n)) k y (λ j h. member p n (low + 1) j y h) e

pub filter_le : (p : ℕ → Bool) (n low : ℕ) → length (filter p (range_with_len low n)) ≤ n
filter_le p zero low = omega arith
filter_le p (suc n) low =
    let r : length (filter p (range_with_len (low + 1) n)) ≤ n = filter_le p n (low + 1) in
    cond_both (p low) (low ∷ filter p (range_with_len (low + 1) n)) (filter p (range_with_len (low + 1) n)) (λ v. length v ≤ suc n) (λ e. omega arith) (λ e. omega arith)

-- the k-th row that passes, before b: it is looked for in all rows
pub before_none : (p : ℕ → Bool) (b n k : ℕ) → b ≤ n → slice_get (filter p (range_with_len 0 n)) k ≡ None → slice_get (filter p (range_with_len 0 b)) k ≡ None
before_none p b n k h e =
    none_past _ k (omega (arith, past_none _ k e, ap (λ (v : List ℕ). length v) (upto p b n h), length-append (filter p (range_with_len 0 b)) (filter p (range_with_len b (n - b)))))

pub before_some : (p : ℕ → Bool) (b n k y : ℕ) → b ≤ n → slice_get (filter p (range_with_len 0 n)) k ≡ Some y → y < b → slice_get (filter p (range_with_len 0 b)) k ≡ Some y
before_some p b n k y h e l =
    elim (cases_lt k (length (filter p (range_with_len 0 b)))) [
      | inl s ↦ sym (in_front _ (filter p (range_with_len b (n - b))) k s) ∙ sym (ap (λ v. slice_get v k) (upto p b n h)) ∙ e
      | inr s ↦ absurd (omega (arith, l, (member p (n - b) b _ y (sym (behind (filter p (range_with_len 0 b)) _ k s) ∙ sym (ap (λ v. slice_get v k) (upto p b n h)) ∙ e)).0))
    ]

pub before_past : (p : ℕ → Bool) (b n k y : ℕ) → b ≤ n → slice_get (filter p (range_with_len 0 n)) k ≡ Some y → b ≤ y → slice_get (filter p (range_with_len 0 b)) k ≡ None
before_past p b n k y h e l =
    elim (cases_lt k (length (filter p (range_with_len 0 b)))) [
      | inl s ↦ absurd (omega (arith, l, (member p b 0 k y (sym (in_front _ (filter p (range_with_len b (n - b))) k s) ∙ sym (ap (λ v. slice_get v k) (upto p b n h)) ∙ e)).1))
      | inr s ↦ none_past _ k s
    ]

-- ---- below a row

and_true : (a b : Bool) → b ≡ true → a ≡ (a && b)
and_true true b h = sym h
and_true false b h = refl

-- the elements below x stand between it and its end
pub below_by_end : (doc : Document) (x e : ℕ) (name : List ℕ) → IsDocument doc → IsEnd doc x e → named_below doc x name ≡ filter (is_named doc name) (range_with_len (x + 1) (e - (x + 1)))
below_by_end doc x e name d end =
    let q : ℕ → Bool = λ y. is_named doc name y && below doc x y in
    let n = length doc in
    upto q (x + 1) n (omega (arith, end.after, end.within))
    ∙ ap (λ v. v ++ filter q (range_with_len (x + 1) (n - (x + 1)))) (upto_none q (x + 1) (λ z l. and_right _ _ (not_up doc x z (small doc d) (omega (arith, l)))))
    ∙ from_to q (x + 1) e n (omega (arith, end.after)) end.within
    ∙ ap (λ v. filter q (range_with_len (x + 1) (e - (x + 1))) ++ v) (none_in q (n - e) e (λ z l k. and_right _ _ (past_end doc x e z d end l (omega (arith, k, end.within)))))
    ∙ append-nil _
    ∙ sym (same_filter_below (is_named doc name) q (e - (x + 1)) (x + 1) (λ y l k. and_true _ _ (end.inside y (omega (arith, l)) (omega (arith, k, end.after)))))

pub before_end : (doc : Document) (x e : ℕ) (name : List ℕ) → IsDocument doc → IsEnd doc x e → named_before doc name e ≡ named_before doc name (x + 1) ++ named_below doc x name
before_end doc x e name d end = upto (is_named doc name) (x + 1) e (omega (arith, end.after)) ∙ ap (λ v. named_before doc name (x + 1) ++ v) (sym (below_by_end doc x e name d end))

-- ---- steps

pub half_step : (p w v n : ℕ) → p * w ≤ n → v + v ≤ w → (p + p) * v ≤ n
half_step p w v n h le = omega (arith, mul-le p (v + v) p w (omega arith) le, mul-add p v v, add-mul p p v)

pub cost_step : (p w n : ℕ) → p * w ≤ n → 0 < w → p + p ≤ 2 * n + 1
cost_step p w n h le = omega (arith, mul-le p 1 p w (omega arith) le)

pub next_power : (t s : ℕ) → s ≡ t + 1 → 2 ^ s ≡ 2 ^ t + 2 ^ t
next_power t s e = rw e (omega (arith, pow-add 2 t 1))

-- a search takes no more steps than a number below this power has digits
pub few_steps : (s d n : ℕ) → 2 ^ s ≤ 2 * n + 1 → n < 2 ^ d → s ≤ d
few_steps s d n h l =
    elim (cases_lt d s) [
      | inl k ↦ elim (cases_lt (d + 1) s) [
        | inl m ↦ absurd (omega (arith, h, l, pow_below (d + 1) s m, next_power d (d + 1) refl))
        | inr m ↦ absurd (omega (arith, h, l, next_power d s (omega (arith, k, m))))
      ]
      | inr k ↦ k
    ]

pub start_halved : (s e n : ℕ) → e ≤ n → 2 ^ (s - s) * (e - 0) ≤ n
start_halved s e n h = let z : s - s ≡ 0 = omega arith in rw z (omega arith)

pub start_cost : (s n : ℕ) → 2 ^ (s - s) ≤ 2 * n + 1
start_cost s n = let z : s - s ≡ 0 = omega arith in rw z (omega arith)

pub more_cost : (s t o k a n : ℕ) → t ≡ s + 1 → a ≤ k → o + (k - a) ≤ s → 2 ^ (s - o - (k - a)) ≤ 2 * n + 1 → 2 ^ (t - o - (k + 1 - a)) ≤ 2 * n + 1
more_cost s t o k a n e l r h = let z : t - o - (k + 1 - a) ≡ s - o - (k - a) = omega arith in rw z h

pub all_cost : (o s t b j n : ℕ) → t ≡ s + 1 → o + j ≤ s → j ≤ b → 2 ^ (s - o - j) ≤ 2 * n + 1 → (d : ℕ) → n < 2 ^ d → t ≤ o + (2 * (b + d) + 4)
all_cost o s t b j n e r l h d m = omega (arith, few_steps (s - o - j) d n h m)

-- ---- what was appended so far

pub none_found : (old answers : List ℕ) (k a : ℕ) → k ≡ a → old ≡ old ++ take (k - a) answers
none_found old answers k a e = let z : k - a ≡ 0 = omega arith in rw z (sym (append-nil old))

pub more_found : (old out new answers : List ℕ) (k a y : ℕ) → a ≤ k → slice_get answers (k - a) ≡ Some y → out ≡ old ++ take (k - a) answers → new ≡ out ++ y ∷ [] → new ≡ old ++ take (k + 1 - a) answers
more_found old out new answers k a y l h e n =
    let z : k + 1 - a ≡ suc (k - a) = omega arith in
    n ∙ ap (λ v. v ++ y ∷ []) e ∙ append_assoc old (take (k - a) answers) (y ∷ []) ∙ ap (λ v. old ++ v) (sym (one_taken answers (k - a) y h) ∙ sym (ap (λ m. take m answers) z))

pub all_found : (old out answers : List ℕ) (j : ℕ) → length answers ≤ j → out ≡ old ++ take j answers → out ≡ old ++ answers
all_found old out answers j l e = e ∙ ap (λ v. old ++ v) (take_all j answers l)

pub front_found : (old out new answers : List ℕ) (j : ℕ) → out ≡ old ++ take j answers → new ≡ out → GrowsByFront old new answers
front_found old out new answers j e n = (take j answers, n ∙ e, (drop j answers, sym (take-append-drop j answers)))

-- the next row to be appended, of all before the end
pub next_answer : (doc : Document) (x e k y : ℕ) (name : List ℕ) → IsDocument doc → IsEnd doc x e → length (named_before doc name (x + 1)) ≤ k → Some y ≡ slice_get (named_before doc name e) k
    → slice_get (named_below doc x name) (k - length (named_before doc name (x + 1))) ≡ Some y
next_answer doc x e k y name d end l h = sym (behind (named_before doc name (x + 1)) (named_below doc x name) k l) ∙ ap (λ v. slice_get v k) (sym (before_end doc x e name d end)) ∙ sym h

pub no_answer : (doc : Document) (x e k : ℕ) (name : List ℕ) → IsDocument doc → IsEnd doc x e → None ≡ slice_get (named_before doc name e) k
    → length (named_below doc x name) ≤ k - length (named_before doc name (x + 1))
no_answer doc x e k name d end h =
    omega (arith, past_none _ k (sym h), ap (λ (v : List ℕ). length v) (before_end doc x e name d end), length-append (named_before doc name (x + 1)) (named_below doc x name))

-- ---- the axes

kinds : (k : Kind) (b c : Bool) → ((not (is_attribute_kind k) && b) && (is_element_kind k && c)) ≡ ((is_element_kind k && c) && b)
kinds Element true true = refl
kinds Element true false = refl
kinds Element false true = refl
kinds Element false false = refl
kinds Root b c = and_right _ _ refl
kinds Attribute b c = refl
kinds Text b c = and_right _ _ refl
kinds Comment b c = and_right _ _ refl

pub descendants : (doc : Document) (x : ℕ) (name : List ℕ) → axis_list doc x axis.Descendant (test.Name name) ≡ named_below doc x name
descendants doc x name = same_filter (chosen doc axis.Descendant x (test.Name name)) (λ y. is_named doc name y && below doc x y) (length doc) 0 (λ y l. kinds (row doc y).kind (below doc x y) _)

pub with_self : (doc : Document) (x : ℕ) (name : List ℕ) → IsDocument doc → x < length doc
    → axis_list doc x axis.DescendantOrSelf (test.Name name) ≡ cond (is_named doc name x) (x ∷ []) [] ++ named_below doc x name
with_self doc x name d l =
    let c = chosen doc axis.DescendantOrSelf x (test.Name name) in
    let q : ℕ → Bool = λ y. is_named doc name y && below doc x y in
    let n = length doc in
    upto c x n (omega arith)
    ∙ ap (λ v. v ++ filter c (range_with_len x (n - x))) (upto_none c x (λ z k. and_left _ _ (or_from _ _ (ne_eqb z x (λ s. omega (arith, k, s))) (and_right _ _ (not_up doc x z (small doc d) (omega (arith, k)))))))
    ∙ from_to c x (x + 1) n (omega arith) (omega arith)
    ∙ ap (λ v. v ++ filter c (range_with_len (x + 1) (n - (x + 1)))) (single c x (x + 1) (omega arith) (λ z a b. absurd (omega (arith, a, b)))
    ∙ ap (λ b. cond (b && is_named doc name x) (x ∷ []) []) (or_left (eqb x x) (not (is_attribute doc x) && below doc x x) (eq-eqb x x refl)))
    ∙ ap (λ v. cond (is_named doc name x) (x ∷ []) [] ++ v)
    (same_filter_below c q (n - (x + 1)) (x + 1) (λ y a b. ap (λ v. (v || (not (is_attribute doc y) && below doc x y)) && is_named doc name y) (ne_eqb y x (λ s. omega (arith, a, s))) ∙ kinds (row doc y).kind (below doc x y) _)
    ∙ sym (upto q (x + 1) n (omega arith) ∙ ap (λ v. v ++ filter q (range_with_len (x + 1) (n - (x + 1)))) (upto_none q (x + 1) (λ z k. and_right _ _ (not_up doc x z (small doc d) (omega (arith, k)))))))
