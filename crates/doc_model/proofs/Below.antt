-- Rows below rows: an order that the parents make.
use Rattle.std.proofs.Common.{◌≡◌, ℕ, zero, suc, ◌+◌, ◌-◌, ◌<◌, ◌≤◌, length, true, false, ◌&&◌, ◌||◌, eqb, ltb, refl, sym, ◌∙◌, ap, subst, arith, inl, inr, ◌⊎◌, lt-ltb}
use Rattle.std.proofs.lemmas.Bool.{or_cases, or_left, or_right, cases_lt, le-ltb, eqb-true, eq-eqb, false_from_ne_true, both_ways}
use Rattle.std.proofs.lemmas.List.{get_or_past}
use Rattle.doc_model.specs.Document.{Row, Document, no_row, row, below_within, below, IsDocument}
use Rattle.doc_model.specs.Ends.{IsEnd}

-- parents are smaller
abbrev pub Small : Document → Type 0
Small doc = (i : ℕ) → 0 < i → (row doc i).parent < i

-- the same rows stand below n
abbrev pub SameBelow : ℕ → Document → Document → Type 0
SameBelow n doc other = (k : ℕ) → k < n → row other k ≡ row doc k

pub past_parent : (doc : Document) (i : ℕ) → length doc ≤ i → (row doc i).parent ≡ 0
past_parent doc i h = ap (λ (r : Row). r.parent) (get_or_past doc i no_row h)

pub small : (doc : Document) → IsDocument doc → Small doc
small doc d i p = small_at (cases_lt i (length doc))
  where
    small_at : (i < length doc) ⊎ (length doc ≤ i) → (row doc i).parent < i
    small_at (inl h) = (d.rest i p h).parent
    small_at (inr h) = omega (arith, past_parent doc i h)

-- how many steps are allowed makes no difference
steps_at : (s t : ℕ) (doc : Document) (x y : ℕ) → Small doc → y ≤ s → y ≤ t → below_within s doc x y ≡ below_within t doc x y
unfolding below_within
steps_at zero zero doc x y m h k = refl
steps_at zero (suc t) doc x zero m h k = refl
steps_at zero (suc t) doc x (suc y) m h k = absurd (omega arith)
steps_at (suc s) zero doc x zero m h k = refl
steps_at (suc s) zero doc x (suc y) m h k = absurd (omega arith)
steps_at (suc s) (suc t) doc x zero m h k = refl
steps_at (suc s) (suc t) doc x (suc y) m h k =
    let less : (row doc (suc y)).parent < suc y = m (suc y) (omega arith) in
    ap (λ b. ltb 0 (suc y) && (((eqb (row doc (suc y)).parent x) || b))) (steps_at s t doc x (row doc (suc y)).parent m (omega arith) (omega arith))

step : (doc : Document) (x y : ℕ) → Small doc → 0 < y → below doc x y ≡ ((eqb (row doc y).parent x) || below doc x (row doc y).parent)
unfolding below_within
step doc x zero m h = absurd (omega arith)
step doc x (suc y) m h =
    let less : (row doc (suc y)).parent < suc y = m (suc y) (omega arith) in
    ap (λ b. b && (eqb (row doc (suc y)).parent x || below_within y doc x (row doc (suc y)).parent)) (lt-ltb 0 (suc y) (omega arith))
    ∙ ap (λ b. eqb (row doc (suc y)).parent x || b) (steps_at y (row doc (suc y)).parent doc x (row doc (suc y)).parent m (omega arith) (omega arith))

pub below_root : (doc : Document) (x : ℕ) → below doc x 0 ≡ false
unfolding below_within
below_root doc x = refl

pub below_some : (doc : Document) (x y : ℕ) → below doc x y ≡ true → 0 < y
below_some doc x zero h = absurd (both_ways _ (below_root doc x) h)
below_some doc x (suc y) h = omega arith

-- a row below x has x as its parent, or its parent is below x
pub below_cases : (doc : Document) (x y : ℕ) → Small doc → below doc x y ≡ true → ((row doc y).parent ≡ x) ⊎ (below doc x (row doc y).parent ≡ true)
below_cases doc x y m h = split (or_cases _ _ (sym (step doc x y m (below_some doc x y h)) ∙ h))
  where
    split : (eqb (row doc y).parent x ≡ true) ⊎ (below doc x (row doc y).parent ≡ true) → ((row doc y).parent ≡ x) ⊎ (below doc x (row doc y).parent ≡ true)
    split (inl e) = inl (eqb-true _ _ e)
    split (inr b) = inr b

pub below_parent : (doc : Document) (x y : ℕ) → Small doc → 0 < y → (row doc y).parent ≡ x → below doc x y ≡ true
below_parent doc x y m h e = step doc x y m h ∙ or_left _ _ (eq-eqb _ _ e)

pub below_up : (doc : Document) (x y : ℕ) → Small doc → 0 < y → below doc x (row doc y).parent ≡ true → below doc x y ≡ true
below_up doc x y m h b = step doc x y m h ∙ or_right _ _ b

less_within : (n : ℕ) (doc : Document) (x y : ℕ) → Small doc → y ≤ n → below doc x y ≡ true → x < y
less_within zero doc x y m l h = absurd (omega (arith, below_some doc x y h))
less_within (suc n) doc x y m l h =
    let some : 0 < y = below_some doc x y h in
    let less : (row doc y).parent < y = m y some in
    elim (below_cases doc x y m h) [ inl e ↦ omega arith | inr b ↦ (let deep : x < (row doc y).parent = less_within n doc x (row doc y).parent m (omega arith) b in omega arith) ]

-- rows stand after the row that they are below
pub below_less : (doc : Document) (x y : ℕ) → Small doc → below doc x y ≡ true → x < y
below_less doc x y m h = less_within y doc x y m (omega arith) h

trans_within : (n : ℕ) (doc : Document) (x y z : ℕ) → Small doc → z ≤ n → below doc x y ≡ true → below doc y z ≡ true → below doc x z ≡ true
trans_within zero doc x y z m l h k = absurd (omega (arith, below_some doc y z k))
trans_within (suc n) doc x y z m l h k =
    let some : 0 < z = below_some doc y z k in
    let less : (row doc z).parent < z = m z some in
    elim (below_cases doc y z m k) [
      | inl e ↦ below_up doc x z m some (subst (λ v. below doc x v ≡ true) (sym e) h)
      | inr b ↦ below_up doc x z m some (trans_within n doc x y (row doc z).parent m (omega arith) h b)
    ]

pub below_trans : (doc : Document) (x y z : ℕ) → Small doc → below doc x y ≡ true → below doc y z ≡ true → below doc x z ≡ true
below_trans doc x y z m h k = trans_within z doc x y z m (omega arith) h k

line_at : (doc : Document) (x y p : ℕ) → Small doc → x < y → (below doc x p ≡ true → below doc y p ≡ true → below doc x y ≡ true)
    → (p ≡ x) ⊎ (below doc x p ≡ true) → (p ≡ y) ⊎ (below doc y p ≡ true) → below doc x y ≡ true
line_at doc x y p m less next (inl e) (inl f) = absurd (omega arith)
line_at doc x y p m less next (inl e) (inr c) = absurd (omega (arith, below_less doc y p m c))
line_at doc x y p m less next (inr b) (inl f) = subst (λ v. below doc x v ≡ true) f b
line_at doc x y p m less next (inr b) (inr c) = next b c

line_within : (n : ℕ) (doc : Document) (x y z : ℕ) → Small doc → z ≤ n → x < y → below doc x z ≡ true → below doc y z ≡ true → below doc x y ≡ true
line_within zero doc x y z m l less h k = absurd (omega (arith, below_some doc y z k))
line_within (suc n) doc x y z m l less h k =
    let up : (row doc z).parent < z = m z (below_some doc y z k) in
    line_at doc x y (row doc z).parent m less (line_within n doc x y (row doc z).parent m (omega arith) less) (below_cases doc x z m h) (below_cases doc y z m k)

-- of two rows that a row is below, the smaller is above the other
pub below_line : (doc : Document) (x y z : ℕ) → Small doc → x < y → below doc x z ≡ true → below doc y z ≡ true → below doc x y ≡ true
below_line doc x y z m less h k = line_within z doc x y z m (omega arith) less h k

-- all rows but the first are below the first
root_within : (n : ℕ) (doc : Document) (y : ℕ) → Small doc → y ≤ n → 0 < y → below doc 0 y ≡ true
root_within zero doc y m l h = absurd (omega arith)
root_within (suc n) doc y m l h =
    let up : (row doc y).parent < y = m y h in
    elim (cases_lt 0 (row doc y).parent) [ inl some ↦ below_up doc 0 y m h (root_within n doc (row doc y).parent m (omega arith) some) | inr none ↦ below_parent doc 0 y m h (omega arith) ]

pub root_above : (doc : Document) (y : ℕ) → Small doc → 0 < y → below doc 0 y ≡ true
root_above doc y m h = root_within y doc y m (omega arith) h

same_within : (s n : ℕ) (doc other : Document) (x y : ℕ) → Small doc → SameBelow n doc other → y < n → below_within s other x y ≡ below_within s doc x y
unfolding below_within
same_within zero n doc other x y m same l = refl
same_within (suc s) n doc other x zero m same l = refl
same_within (suc s) n doc other x (suc y) m same l =
    let up : (row doc (suc y)).parent < suc y = m (suc y) (omega arith) in
    ap (λ (r : Row). ltb 0 (suc y) && (eqb r.parent x || below_within s other x r.parent)) (same (suc y) l)
    ∙ ap (λ b. ltb 0 (suc y) && (eqb (row doc (suc y)).parent x || b)) (same_within s n doc other x (row doc (suc y)).parent m same (omega arith))

-- what is below what depends on the rows before alone
pub below_same : (n : ℕ) (doc other : Document) (x y : ℕ) → Small doc → SameBelow n doc other → y < n → below other x y ≡ below doc x y
below_same n doc other x y m same l = same_within y n doc other x y m same l

-- ---- where the rows below a row end

-- no row from the end on is below the row
past_within : (k : ℕ) (doc : Document) (i e : ℕ) → IsDocument doc → IsEnd doc i e → e + k < length doc → below doc i (e + k) ≡ false
past_within zero doc i e d end l = let z : e + 0 ≡ e = omega arith in subst (λ v. below doc i v ≡ false) (sym z) (end.outside (omega arith))
past_within (suc k) doc i e d end l =
    let m = small doc d in
    let y : ℕ = e + suc k in
    let before : y - 1 ≡ e + k = omega arith in
    let not_before : below doc i (y - 1) ≡ false = subst (λ v. below doc i v ≡ false) (sym before) (past_within k doc i e d end (omega arith)) in
    let behind : i < e = end.after in
    let nested : ((row doc y).parent ≡ y - 1) ⊎ (below doc (row doc y).parent (y - 1) ≡ true) = elim (or_cases _ _ (d.rest y (omega arith) l).nested) [ inl s ↦ inl (eqb-true _ _ s) | inr b ↦ inr b ] in
    false_from_ne_true _ (λ h. against m not_before (omega arith) (below_cases doc i y m h) nested)
  where
    against : Small doc → below doc i (e + suc k - 1) ≡ false → i < e + suc k - 1 → ((row doc (e + suc k)).parent ≡ i) ⊎ (below doc i (row doc (e + suc k)).parent ≡ true)
        → ((row doc (e + suc k)).parent ≡ e + suc k - 1) ⊎ (below doc (row doc (e + suc k)).parent (e + suc k - 1) ≡ true) → ⊥
    against m none l (inl s) (inl t) = omega arith
    against m none l (inl s) (inr c) = both_ways _ none (subst (λ v. below doc v (e + suc k - 1) ≡ true) s c)
    against m none l (inr b) (inl t) = both_ways _ none (subst (λ v. below doc i v ≡ true) t b)
    against m none l (inr b) (inr c) = both_ways _ none (below_trans doc i (row doc (e + suc k)).parent (e + suc k - 1) m b c)

pub past_end : (doc : Document) (i e y : ℕ) → IsDocument doc → IsEnd doc i e → e ≤ y → y < length doc → below doc i y ≡ false
past_end doc i e y d end h l = let s : e + (y - e) ≡ y = omega arith in subst (λ v. below doc i v ≡ false) s (past_within (y - e) doc i e d end (omega arith))

pub before_end : (doc : Document) (i e y : ℕ) → IsDocument doc → IsEnd doc i e → y < length doc → below doc i y ≡ true → y < e
before_end doc i e y d end l h = elim (cases_lt y e) [ inl k ↦ k | inr k ↦ absurd (both_ways _ (past_end doc i e y d end k l) h) ]

-- the end of a row tells what is below it
pub below_by_end : (doc : Document) (i e y : ℕ) → IsDocument doc → IsEnd doc i e → i < y → y < length doc → ltb y e ≡ below doc i y
below_by_end doc i e y d end h l = elim (cases_lt y e) [ inl k ↦ lt-ltb y e k ∙ sym (end.inside y h k) | inr k ↦ le-ltb y e k ∙ sym (past_end doc i e y d end k l) ]

pub not_up : (doc : Document) (x y : ℕ) → Small doc → y ≤ x → below doc x y ≡ false
not_up doc x y m l = false_from_ne_true _ (λ h. let k : x < y = below_less doc x y m h in omega arith)
