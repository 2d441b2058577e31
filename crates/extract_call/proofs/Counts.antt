-- Numbers in words: what `count_of` gives, case by case.
use Rattle.std.proofs.Common.{◌≡◌, ℕ, zero, suc, ◌<◌, ◌≤◌, List, [], ◌∷◌, length, take, get_or, refl, arith, Some, None, ap}
use Rattle.std.specs.Prelude.{true, false, nat_le}
use Rattle.std.specs.List.{list_all}
use Rattle.std.proofs.lemmas.List.Folds.{list_all_at}
use Rattle.text_base.specs.Text.{is_digit, digits_value}
use Rattle.extract_call.specs.Words.{count_of}

le_true : (a b : ℕ) → a ≤ b → nat_le a b ≡ true
le_true a b h = grind arith

le_false : (a b : ℕ) → b < a → nat_le a b ≡ false
le_false a b h = grind arith

pub count_empty : (word : List ℕ) → length word ≡ 0 → None ≡ count_of word
unfolding count_of
count_empty word e = rw (le_false 1 (length word) (omega arith)) refl

pub count_long : (word : List ℕ) → 5 < length word → None ≡ count_of word
unfolding count_of
count_long word h = rw (le_true 1 (length word) (omega arith), le_false (length word) 5 h) refl

pub count_other : (word : List ℕ) (i : ℕ) → 1 ≤ length word → length word ≤ 5 → i < length word → is_digit (get_or word i 0) ≡ false → None ≡ count_of word
unfolding count_of
count_other word i a b w e = rw (le_true 1 (length word) a, le_true (length word) 5 b, list_all_at is_digit word i 0 w e) refl

pub count_low : (word : List ℕ) → 1 ≤ length word → length word ≤ 5 → list_all is_digit word ≡ true → digits_value word < 1 → None ≡ count_of word
unfolding count_of
count_low word a b d v = rw (le_true 1 (length word) a, le_true (length word) 5 b, d, le_false 1 (digits_value word) v) refl

pub count_high : (word : List ℕ) → 1 ≤ length word → length word ≤ 5 → list_all is_digit word ≡ true → 20000 < digits_value word → None ≡ count_of word
unfolding count_of
count_high word a b d v = rw (le_true 1 (length word) a, le_true (length word) 5 b, d, le_true 1 (digits_value word) (omega arith), le_false (digits_value word) 20000 v) refl

pub count_read : (word : List ℕ) → 1 ≤ length word → length word ≤ 5 → list_all is_digit word ≡ true → 1 ≤ digits_value word → digits_value word ≤ 20000 → Some (digits_value word) ≡ count_of word
unfolding count_of
count_read word a b d v w = rw (le_true 1 (length word) a, le_true (length word) 5 b, d, le_true 1 (digits_value word) v, le_true (digits_value word) 20000 w) refl

pub take_end : (xs : List ℕ) (i : ℕ) → length xs ≤ i → take i xs ≡ xs
take_end [] zero h = refl
take_end [] (suc i) h = refl
take_end (x ∷ xs) zero h = absurd (omega arith)
take_end (x ∷ xs) (suc i) h = ap (λ y. x ∷ y) (take_end xs i (omega arith))
