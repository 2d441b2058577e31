-- What holds of all documents.
use Rattle.std.proofs.Common.{◌≡◌, ℕ, ◌<◌, [], ◌∷◌, Bool, true, false, ◌&&◌, eqb, ltb, sym, arith, inl, inr, lt-ltb}
use Rattle.std.specs.Prelude.{count_by, not}
use Rattle.std.proofs.lemmas.Bool.{cases_order, cases_Bool, and_left, and_right, and_from, both_ways, eq-eqb, ne_eqb, le-ltb, not_from_true, not_from_false}
use Rattle.doc_model.specs.Document.{Document, is_attribute, below, IsDocument}
use Rattle.doc_model.specs.Laws.{OneEnd, AxesPart, parting}
use Rattle.doc_model.specs.Axes.{on_axis}
use Rattle.doc_model.proofs.Below.{small, not_up}

pub one_end : OneEnd
one_end doc i e f a b = elim (cases_order e f) [
  | inl s ↦ s
  | inr (inl l) ↦ absurd (both_ways _ (a.outside (omega (arith, b.within))) (b.inside e a.after l))
  | inr (inr l) ↦ absurd (both_ways _ (b.outside (omega (arith, a.within))) (a.inside f b.after l))
]

counted : (a b c d e p q r s t : Bool) → a ≡ p → b ≡ q → c ≡ r → d ≡ s → e ≡ t
    → count_by (λ v. v) (a ∷ b ∷ c ∷ d ∷ e ∷ []) ≡ count_by (λ v. v) (p ∷ q ∷ r ∷ s ∷ t ∷ [])
counted a b c d e p q r s t k l m n o = λ i. count_by (λ v. v) (k i ∷ l i ∷ m i ∷ n i ∷ o i ∷ [])

-- whether each of the five axes has the row
five : Document → ℕ → ℕ → Bool → Bool → Bool → Bool → Bool → Type 0
five doc x y p q r s t =
    (below doc y x ≡ p) × ((not (is_attribute doc y) && below doc x y) ≡ q) × ((ltb x y && (not (below doc x y) && not (is_attribute doc y))) ≡ r)
    × ((ltb y x && (not (below doc y x) && not (is_attribute doc y))) ≡ s) × (eqb y x ≡ t)

at_row : (doc : Document) (x y : ℕ) → IsDocument doc → x ≡ y → five doc x y false false false false true
unfolding five
at_row doc x y d e =
    let m = small doc d in
    (not_up doc y x m (omega arith), and_right _ _ (not_up doc x y m (omega arith)), and_left _ _ (le-ltb x y (omega arith)), and_left _ _ (le-ltb y x (omega arith)), eq-eqb y x (sym e))

below_row : (doc : Document) (x y : ℕ) → IsDocument doc → is_attribute doc y ≡ false → x < y → below doc x y ≡ true → five doc x y false true false false false
unfolding five
below_row doc x y d a l b =
    (not_up doc y x (small doc d) (omega arith), and_from _ _ (not_from_false _ a) b, and_right _ _ (and_left _ _ (not_from_true _ b)), and_left _ _ (le-ltb y x (omega arith)), ne_eqb y x (λ e. omega arith))

after_row : (doc : Document) (x y : ℕ) → IsDocument doc → is_attribute doc y ≡ false → x < y → below doc x y ≡ false → five doc x y false false true false false
unfolding five
after_row doc x y d a l b =
    (not_up doc y x (small doc d) (omega arith), and_right _ _ b, and_from _ _ (lt-ltb x y l) (and_from _ _ (not_from_false _ b) (not_from_false _ a)), and_left _ _ (le-ltb y x (omega arith)), ne_eqb y x (λ e. omega arith))

above_row : (doc : Document) (x y : ℕ) → IsDocument doc → y < x → below doc y x ≡ true → five doc x y true false false false false
unfolding five
above_row doc x y d l b =
    (b, and_right _ _ (not_up doc x y (small doc d) (omega arith)), and_left _ _ (le-ltb x y (omega arith)), and_right _ _ (and_left _ _ (not_from_true _ b)), ne_eqb y x (λ e. omega arith))

before_row : (doc : Document) (x y : ℕ) → IsDocument doc → is_attribute doc y ≡ false → y < x → below doc y x ≡ false → five doc x y false false false true false
unfolding five
before_row doc x y d a l b =
    (b, and_right _ _ (not_up doc x y (small doc d) (omega arith)), and_left _ _ (le-ltb x y (omega arith)), and_from _ _ (lt-ltb y x l) (and_from _ _ (not_from_false _ b) (not_from_false _ a)), ne_eqb y x (λ e. omega arith))

total : (doc : Document) (x y : ℕ) (p q r s t : Bool) → five doc x y p q r s t → count_by (λ a. on_axis doc a x y) parting ≡ count_by (λ v. v) (p ∷ q ∷ r ∷ s ∷ t ∷ [])
unfolding five
total doc x y p q r s t f = counted _ _ _ _ _ p q r s t f.0 f.1 f.2 f.3 f.4

pub axes_part : AxesPart
axes_part doc x y d a = elim (cases_order x y) [
  | inl e ↦ total doc x y false false false false true (at_row doc x y d e)
  | inr (inl l) ↦ elim (cases_Bool (below doc x y)) [
    | inl b ↦ total doc x y false true false false false (below_row doc x y d a l b)
    | inr b ↦ total doc x y false false true false false (after_row doc x y d a l b)
  ]
  | inr (inr l) ↦ elim (cases_Bool (below doc y x)) [
    | inl b ↦ total doc x y true false false false false (above_row doc x y d l b)
    | inr b ↦ total doc x y false false false true false (before_row doc x y d a l b)
  ]
]
