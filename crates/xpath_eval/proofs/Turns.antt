-- One turn of the loop over the rows that a predicate is asked about.
use Rattle.std.proofs.Common.{◌≡◌, refl, sym, ◌∙◌, ap, subst, ℕ, suc, ◌+◌, ◌<◌, ◌≤◌, Bool, true, false, cond, List, [], ◌∷◌, ◌++◌, length, take, drop, set, get_or, append_assoc, arith}
use Rattle.std.proofs.Math.Seq.{drop-cons}
use Rattle.std.proofs.Math.ListN.{drop_of_length-le}
use Rattle.std.proofs.lemmas.List.{take_more_set, drop-set-lt, length-set, append-nil}
use Rattle.std.proofs.lemmas.List.Elements.{All-set, All-get_or}
use Rattle.xpath_parser.specs.Denote.{Meaning, kept_from, keeps}
use Rattle.doc_model.specs.RowLists.{AllBelow}

-- the first `end` places have what is kept of the rows before i, and the rows from i on still stand where they stood
pub record Keeping (n : ℕ) (p : Meaning) (size : ℕ) (start now : List ℕ) (i end : ℕ) : Type 0 where
  pub ends : end ≤ i
  pub within : i ≤ size
  pub long : length now ≡ size
  pub below : AllBelow n now
  pub all : take end now ++ kept_from p size (i + 1) (drop i now) ≡ kept_from p size 1 start

pub keeping_none : (n : ℕ) (p : Meaning) (size : ℕ) (start : List ℕ) → length start ≡ size → AllBelow n start → Keeping n p size start start 0 0
keeping_none n p size start long below = record { ends = omega arith; within = omega arith; long = long; below = below; all = refl }

-- what the row's turn leaves of the rows from it on
rest_at : (p : Meaning) (size i x : ℕ) (xs front : List ℕ) (b : Bool) → keeps (i + 1) (p (record { row = x; position = i + 1; size = size })) ≡ b
    → front ++ kept_from p size (i + 1) (x ∷ xs) ≡ (front ++ cond b (x ∷ []) []) ++ kept_from p size (i + 1 + 1) xs
rest_at p size i x xs front true e =
    let after : suc (i + 1) ≡ i + 1 + 1 = omega arith in
    ap (λ b. front ++ cond b (x ∷ kept_from p size (suc (i + 1)) xs) (kept_from p size (suc (i + 1)) xs)) e
    ∙ ap (λ k. front ++ x ∷ kept_from p size k xs) after ∙ sym (append_assoc front (x ∷ []) (kept_from p size (i + 1 + 1) xs))
rest_at p size i x xs front false e =
    let after : suc (i + 1) ≡ i + 1 + 1 = omega arith in
    ap (λ b. front ++ cond b (x ∷ kept_from p size (suc (i + 1)) xs) (kept_from p size (suc (i + 1)) xs)) e
    ∙ ap (λ k. front ++ kept_from p size k xs) after ∙ sym (ap (λ v. v ++ kept_from p size (i + 1 + 1) xs) (append-nil front))

turn_by : (n : ℕ) (p : Meaning) (size : ℕ) (start now : List ℕ) (i end : ℕ) (b : Bool) → Keeping n p size start now i end → i < size
    → keeps (i + 1) (p (record { row = get_or now i 0; position = i + 1; size = size })) ≡ b
    → Keeping n p size start (cond b (set now end (get_or now i 0)) now) (i + 1) (cond b (end + 1) end)
turn_by n p size start now i end true k less e =
    let x = get_or now i 0 in
    let ends : end ≤ i = k.ends in
    let long : length now ≡ size = k.long in
    let next : suc i ≡ i + 1 = omega arith in
    let here : drop i now ≡ x ∷ drop (i + 1) now = drop-cons now i 0 (omega (arith, less, long)) ∙ ap (λ m. x ∷ drop m now) next in
    record {
      ends = omega (arith, ends);
      within = omega (arith, less);
      long = length-set now end x ∙ long;
      below = All-set (λ y. y < n) now end x (All-get_or (λ y. y < n) now i 0 (omega (arith, less, long)) k.below) k.below;
      all = ap (λ v. v ++ kept_from p size (i + 1 + 1) (drop (i + 1) (set now end x))) (take_more_set now end x (omega (arith, ends, less, long)))
          ∙ ap (λ v. (take end now ++ x ∷ []) ++ kept_from p size (i + 1 + 1) v) (drop-set-lt (i + 1) now end x (omega (arith, ends)))
          ∙ sym (rest_at p size i x (drop (i + 1) now) (take end now) true e)
          ∙ sym (ap (λ v. take end now ++ kept_from p size (i + 1) v) here) ∙ k.all;
    }
turn_by n p size start now i end false k less e =
    let x = get_or now i 0 in
    let ends : end ≤ i = k.ends in
    let long : length now ≡ size = k.long in
    let next : suc i ≡ i + 1 = omega arith in
    let here : drop i now ≡ x ∷ drop (i + 1) now = drop-cons now i 0 (omega (arith, less, long)) ∙ ap (λ m. x ∷ drop m now) next in
    record {
      ends = omega (arith, ends);
      within = omega (arith, less);
      long = long;
      below = k.below;
      all = ap (λ v. v ++ kept_from p size (i + 1 + 1) (drop (i + 1) now)) (sym (append-nil (take end now)))
          ∙ sym (rest_at p size i x (drop (i + 1) now) (take end now) false e)
          ∙ sym (ap (λ v. take end now ++ kept_from p size (i + 1) v) here) ∙ k.all;
    }

-- one row more
pub turned : (n : ℕ) (p : Meaning) (size : ℕ) (start now next : List ℕ) (i end after : ℕ) (b : Bool) → Keeping n p size start now i end → i < size
    → b ≡ keeps (i + 1) (p (record { row = get_or now i 0; position = i + 1; size = size }))
    → next ≡ cond b (set now end (get_or now i 0)) now → after ≡ cond b (end + 1) end → Keeping n p size start next (i + 1) after
turned n p size start now next i end after b k less e rows ends =
    subst (λ v. Keeping n p size start next (i + 1) v) (sym ends)
    (subst (λ v. Keeping n p size start v (i + 1) (cond b (end + 1) end)) (sym rows) (turn_by n p size start now i end b k less (sym e)))

-- all rows
pub kept_whole : (n : ℕ) (p : Meaning) (size : ℕ) (start now : List ℕ) (i end : ℕ) → Keeping n p size start now i end → size ≤ i → take end now ≡ kept_from p size 1 start
kept_whole n p size start now i end k over =
    sym (append-nil (take end now))
    ∙ ap (λ v. take end now ++ kept_from p size (i + 1) v) (sym (drop_of_length-le now (let long : length now ≡ size = k.long in omega (arith, long, over)))) ∙ k.all
