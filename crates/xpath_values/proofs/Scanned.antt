-- Reading from left to right gives the number that the string stands for.
use Rattle.std.proofs.Common.{◌≡◌, eqb, refl, sym, ◌∙◌, ap, ℕ, zero, suc, ◌+◌, ◌-◌, ◌*◌, ◌<◌, ◌≤◌, Bool, true, false, ◌&&◌, cond, List, [], ◌∷◌, ◌++◌, length, drop, reverse, arith, neg_ℤ, inl, inr, length-append}
use Rattle.std.specs.List.{list_all, fold, prefix_len}
use Rattle.std.proofs.lemmas.Bool.Decides.{nat_tests}
use Rattle.std.proofs.lemmas.Bool.{cases_lt}
use Rattle.std.proofs.Math.Seq.{drop-append-add}
use Rattle.std.specs.Prelude.{nat_lt, nat_le}
use Rattle.std.proofs.lemmas.List.{reverse-append, drop-append-le, drop_all}
use Rattle.std.proofs.lemmas.List.Folds.{prefix_len-append}
use Rattle.std.proofs.lemmas.List.Sums.{prefix_len-le-length}
use Rattle.xpath_values.specs.declared.value.XNum.{XNum}
use Rattle.xpath_values.specs.declared.value.XNum.TheVariants.{NaN}
use Rattle.xpath_values.specs.declared.reading.Reading.TheVariants as r
use Rattle.text_base.specs.Text.{is_digit, is_space4}
use Rattle.xpath_values.specs.Numbers.{largest_whole, trimmed, unsigned_number, signed_number, to_number}
use Rattle.xpath_values.specs.inner.Reading as s

-- without white space at its end
abbrev trimmed_end : List ℕ → List ℕ
trimmed_end cs = reverse (drop (prefix_len is_space4 (reverse cs)) (reverse cs))

reverse_one : (c : ℕ) (cs : List ℕ) → reverse (c ∷ cs) ≡ reverse cs ++ c ∷ []
reverse_one c cs = reverse-append (c ∷ []) cs

blank_length : (cs : List ℕ) → list_all is_space4 cs ≡ true → prefix_len is_space4 cs ≡ length cs
blank_length [] h = refl
blank_length (c ∷ cs) h = by_test (is_space4 c) refl (blank_length cs)
  where
    by_test : (v : Bool) → is_space4 c ≡ v → (list_all is_space4 cs ≡ true → prefix_len is_space4 cs ≡ length cs) → prefix_len is_space4 (c ∷ cs) ≡ suc (length cs)
    by_test true e ih = rw e (let j : list_all is_space4 cs ≡ true = rw e at h in omega (arith, ih j))
    by_test false e ih = let no : false ≡ true = rw e at h in cc

-- the last character is not white space, and no more is trimmed
unblank : (cs : List ℕ) → list_all is_space4 cs ≡ false → eqb (prefix_len is_space4 cs) (length cs) ≡ false
unblank [] h = cc
unblank (c ∷ cs) h = by_test (is_space4 c) refl (unblank cs)
  where
    by_test : (v : Bool) → is_space4 c ≡ v → (list_all is_space4 cs ≡ false → eqb (prefix_len is_space4 cs) (length cs) ≡ false) → eqb (prefix_len is_space4 (c ∷ cs)) (length (c ∷ cs)) ≡ false
    by_test true e ih = rw e (let j : list_all is_space4 cs ≡ false = rw e at h in let k = ih j in grind (arith, nat_tests))
    by_test false e ih = rw e (grind (arith, nat_tests))

all_append : (xs ys : List ℕ) → list_all is_space4 (xs ++ ys) ≡ (list_all is_space4 xs && list_all is_space4 ys)
all_append [] ys = refl
all_append (x ∷ xs) ys = by_test (is_space4 x) refl (all_append xs ys)
  where
    by_test : (v : Bool) → is_space4 x ≡ v → list_all is_space4 (xs ++ ys) ≡ (list_all is_space4 xs && list_all is_space4 ys)
        → list_all is_space4 (x ∷ (xs ++ ys)) ≡ (list_all is_space4 (x ∷ xs) && list_all is_space4 ys)
    by_test true e ih = rw e ih
    by_test false e ih = rw e refl

and_swap : (a b : Bool) → (a && (b && true)) ≡ (b && a)
and_swap true true = refl
and_swap true false = refl
and_swap false true = refl
and_swap false false = refl

all_reverse : (xs : List ℕ) → list_all is_space4 (reverse xs) ≡ list_all is_space4 xs
all_reverse [] = refl
all_reverse (x ∷ xs) =
    ap (list_all is_space4) (reverse_one x xs) ∙ all_append (reverse xs) (x ∷ [])
    ∙ and_swap (list_all is_space4 (reverse xs)) (is_space4 x) ∙ ap (λ v. is_space4 x && v) (all_reverse xs)

and_false : (a : Bool) → (a && false) ≡ false
and_false true = refl
and_false false = refl

cut_at : ℕ → ℕ → List ℕ → List ℕ
cut_at n c xs = reverse (drop n (xs ++ c ∷ []))

-- how trimming goes on by one character in front
trimmed_more : (c : ℕ) (cs : List ℕ) → trimmed_end (c ∷ cs) ≡ cond (is_space4 c && list_all is_space4 cs) [] (c ∷ trimmed_end cs)
unfolding cut_at
trimmed_more c cs = ap (λ xs. reverse (drop (prefix_len is_space4 xs) xs)) (reverse_one c cs) ∙ ap (λ n. cut_at n c (reverse cs)) (prefix_len-append is_space4 (reverse cs) (c ∷ []))
    ∙ by_blank (list_all is_space4 cs) refl
  where
    by_first : (v : Bool) → is_space4 c ≡ v → list_all is_space4 (reverse cs) ≡ true
        → cut_at (length (reverse cs) + prefix_len is_space4 (c ∷ [])) c (reverse cs) ≡ cond (v && true) [] (c ∷ trimmed_end cs)
    by_first true e h = rw e (ap reverse (drop_all (length (reverse cs) + (1 + 0)) (reverse cs ++ c ∷ []) (omega (arith, length-append (reverse cs) (c ∷ [])))))
    by_first false e h =
        let none : trimmed_end cs ≡ [] = ap reverse (drop_all (prefix_len is_space4 (reverse cs)) (reverse cs) (omega (arith, blank_length (reverse cs) h))) in
        rw (e, none) (ap reverse (drop-append-add (reverse cs) (c ∷ []) 0))

    by_blank : (v : Bool) → list_all is_space4 cs ≡ v
        → cut_at (cond (eqb (prefix_len is_space4 (reverse cs)) (length (reverse cs))) (length (reverse cs) + prefix_len is_space4 (c ∷ [])) (prefix_len is_space4 (reverse cs))) c (reverse cs)
        ≡ cond (is_space4 c && v) [] (c ∷ trimmed_end cs)
    by_blank true e =
        let h : list_all is_space4 (reverse cs) ≡ true = all_reverse cs ∙ e in
        let k : eqb (prefix_len is_space4 (reverse cs)) (length (reverse cs)) ≡ true = (let l = blank_length (reverse cs) h in grind (arith, nat_tests)) in
        rw k (by_first (is_space4 c) refl h)
    by_blank false e =
        let k : eqb (prefix_len is_space4 (reverse cs)) (length (reverse cs)) ≡ false = unblank (reverse cs) (all_reverse cs ∙ e) in
        let no : (is_space4 c && false) ≡ false = and_false (is_space4 c) in
        rw (k, no) (ap reverse (drop-append-le (prefix_len is_space4 (reverse cs)) (reverse cs) (c ∷ []) (prefix_len-le-length is_space4 (reverse cs)))
        ∙ reverse-append (drop (prefix_len is_space4 (reverse cs)) (reverse cs)) (c ∷ []))

-- ---- the value of the digits so far

record Agrees (value n : ℕ) : Type 0 where
  within : n ≤ largest_whole → value ≡ n
  beyond : largest_whole < n → largest_whole < value

agrees_more : (value n c : ℕ) → Agrees value n → Agrees (s.more value c) (n * 10 + (c - 48))
agrees_more value n c a = by_test (nat_lt largest_whole value) refl
  where
    by_test : (v : Bool) → nat_lt largest_whole value ≡ v → Agrees (s.more value c) (n * 10 + (c - 48))
    by_test true e =
        let big : largest_whole < value = grind (arith, nat_tests) in
        rw e (record { within = λ h. absurd (let w = a.within (omega arith) in omega arith); beyond = λ h. big })
    by_test false e =
        let small : value ≤ largest_whole = grind (arith, nat_tests) in
        let fits : n ≤ largest_whole = elim (cases_lt largest_whole n) [ inl h ↦ absurd (let b = a.beyond h in omega arith) | inr h ↦ h ] in
        let same : value ≡ n = a.within fits in
        rw (e, same) (record { within = λ h. refl; beyond = λ h. h })

out_of_range : (minus : Bool) (n : ℕ) → largest_whole < n → s.signed minus n ≡ NaN
out_of_range false n h = let no : nat_le n largest_whole ≡ false = grind (arith, nat_tests) in rw no refl
out_of_range true zero h = absurd (omega arith)
out_of_range true (suc n) h = let no : nat_le (suc n) largest_whole ≡ false = grind (arith, nat_tests) in rw no refl

agrees_signed : (minus : Bool) (value n : ℕ) → Agrees value n → s.signed minus value ≡ s.signed minus n
agrees_signed minus value n a = elim (cases_lt largest_whole n) [
  | inl h ↦ out_of_range minus value (a.beyond h) ∙ sym (out_of_range minus n h)
  | inr h ↦ ap (s.signed minus) (a.within h)
]

-- ---- what is read from each state

unfit : (cs : List ℕ) → s.number (s.after r.Unfit cs) ≡ NaN
unfit [] = refl
unfit (c ∷ cs) = unfit cs

after_digits : (minus : Bool) (value : ℕ) (cs : List ℕ) → s.number (s.after (r.After minus value) cs) ≡ cond (list_all is_space4 cs) (s.signed minus value) NaN
after_digits minus value [] = refl
after_digits minus value (c ∷ cs) = by_test (is_space4 c) refl (after_digits minus value cs)
  where
    by_test : (v : Bool) → is_space4 c ≡ v → s.number (s.after (r.After minus value) cs) ≡ cond (list_all is_space4 cs) (s.signed minus value) NaN
        → s.number (s.after (r.After minus value) (c ∷ cs)) ≡ cond (list_all is_space4 (c ∷ cs)) (s.signed minus value) NaN
    by_test true e ih = rw e ih
    by_test false e ih = rw e (unfit cs)

no_space : (c : ℕ) → is_digit c ≡ true → is_space4 c ≡ false
no_space c h = grind (arith, nat_tests)

-- the number of digits after others
abbrev rest_number : Bool → ℕ → List ℕ → XNum
rest_number minus n xs = cond (list_all is_digit xs) (s.signed minus (fold (λ n c. n * 10 + (c - 48)) n xs)) NaN

digits : (minus : Bool) (value n : ℕ) (cs : List ℕ) → Agrees value n → s.number (s.after (r.Digits minus value) cs) ≡ rest_number minus n (trimmed_end cs)
digits minus value n [] a = agrees_signed minus value n a
digits minus value n (c ∷ cs) a = by_digit (is_digit c) refl (digits minus (s.more value c) (n * 10 + (c - 48)) cs (agrees_more value n c a))
  where
    by_blank : (v : Bool) → list_all is_space4 cs ≡ v → is_digit c ≡ false → cond v (s.signed minus value) NaN ≡ rest_number minus n (cond v [] (c ∷ trimmed_end cs))
    by_blank true e other = agrees_signed minus value n a
    by_blank false e other = rw other refl

    by_space : (v : Bool) → is_space4 c ≡ v → is_digit c ≡ false
        → s.number (s.after (cond v (r.After minus value) r.Unfit) cs) ≡ rest_number minus n (cond (v && list_all is_space4 cs) [] (c ∷ trimmed_end cs))
    by_space true e other = after_digits minus value cs ∙ by_blank (list_all is_space4 cs) refl other
    by_space false e other = rw other (unfit cs)

    by_digit : (v : Bool) → is_digit c ≡ v → s.number (s.after (r.Digits minus (s.more value c)) cs) ≡ rest_number minus (n * 10 + (c - 48)) (trimmed_end cs)
        → s.number (s.after (r.Digits minus value) (c ∷ cs)) ≡ rest_number minus n (trimmed_end (c ∷ cs))
    by_digit true e ih = rw (trimmed_more c cs, no_space c e, e) ih
    by_digit false e ih = rw (trimmed_more c cs, e) (by_space (is_space4 c) refl e)

from_zero : (c : ℕ) → Agrees (s.more 0 c) (0 * 10 + (c - 48))
from_zero c = agrees_more 0 0 c (record { within = λ h. refl; beyond = λ h. absurd (omega arith) })

-- the digits after a sign, or without one
first_digit : (minus : Bool) (c : ℕ) (cs : List ℕ) → is_digit c ≡ true → s.number (s.after (r.Digits minus (s.more 0 c)) cs) ≡ unsigned_number (s.sign minus) (c ∷ trimmed_end cs)
first_digit minus c cs e = rw e (digits minus (s.more 0 c) (0 * 10 + (c - 48)) cs (from_zero c))

after_sign : (cs : List ℕ) → s.number (s.after r.Sign cs) ≡ unsigned_number (s.sign true) (trimmed_end cs)
after_sign [] = refl
after_sign (c ∷ cs) = by_digit (is_digit c) refl
  where
    by_blank : (v : Bool) → is_digit c ≡ false → NaN ≡ unsigned_number (s.sign true) (cond v [] (c ∷ trimmed_end cs))
    by_blank true other = refl
    by_blank false other = rw other refl

    by_digit : (v : Bool) → is_digit c ≡ v → s.number (s.after r.Sign (c ∷ cs)) ≡ unsigned_number (s.sign true) (trimmed_end (c ∷ cs))
    by_digit true e = ap (λ v. s.number (s.after v cs)) (ap (λ v. cond v (r.Digits true (s.more 0 c)) r.Unfit) e) ∙ first_digit true c cs e
        ∙ ap (unsigned_number (s.sign true)) (sym (trimmed_more c cs ∙ ap (λ v. cond (v && list_all is_space4 cs) [] (c ∷ trimmed_end cs)) (no_space c e)))
    by_digit false e = ap (λ v. s.number (s.after (cond v (r.Digits true (s.more 0 c)) r.Unfit) cs)) e ∙ unfit cs
        ∙ by_blank (is_space4 c && list_all is_space4 cs) e ∙ ap (unsigned_number (s.sign true)) (sym (trimmed_more c cs))

trimmed_front : (c : ℕ) (cs : List ℕ) → is_space4 c ≡ true → trimmed (c ∷ cs) ≡ trimmed cs
trimmed_front c cs e =
    let front : drop (prefix_len is_space4 (c ∷ cs)) (c ∷ cs) ≡ drop (prefix_len is_space4 cs) cs =
    ap (λ (v : Bool). drop (cond v (1 + prefix_len is_space4 cs) 0) (c ∷ cs)) e ∙ ap (λ (n : ℕ). drop n (c ∷ cs)) (let one : 1 + prefix_len is_space4 cs ≡ suc (prefix_len is_space4 cs) = omega arith in one) in
    ap (λ xs. trimmed_end xs) front

trimmed_here : (c : ℕ) (cs : List ℕ) → is_space4 c ≡ false → trimmed (c ∷ cs) ≡ c ∷ trimmed_end cs
trimmed_here c cs e =
    ap (λ xs. trimmed_end xs) (ap (λ (v : Bool). drop (cond v (1 + prefix_len is_space4 cs) 0) (c ∷ cs)) e)
    ∙ trimmed_more c cs ∙ ap (λ v. cond (v && list_all is_space4 cs) [] (c ∷ trimmed_end cs)) e

pub scanned : (cs : List ℕ) → s.number (s.after r.Front cs) ≡ to_number cs
scanned [] = refl
scanned (c ∷ cs) = by_space (is_space4 c) refl (scanned cs)
  where
    by_digit : (v : Bool) → is_digit c ≡ v
        → s.number (s.after (cond v (r.Digits false (s.more 0 c)) r.Unfit) cs) ≡ unsigned_number (λ z. z) (c ∷ trimmed_end cs)
    by_digit true e = first_digit false c cs e
    by_digit false e = rw e (unfit cs)

    by_sign : (v : Bool) → eqb c 45 ≡ v
        → s.number (s.after (cond v r.Sign (cond (is_digit c) (r.Digits false (s.more 0 c)) r.Unfit)) cs) ≡ cond v (unsigned_number neg_ℤ (trimmed_end cs)) (unsigned_number (λ z. z) (c ∷ trimmed_end cs))
    by_sign true e = after_sign cs
    by_sign false e = by_digit (is_digit c) refl

    by_space : (v : Bool) → is_space4 c ≡ v → s.number (s.after r.Front cs) ≡ to_number cs → s.number (s.after r.Front (c ∷ cs)) ≡ to_number (c ∷ cs)
    by_space true e ih = ap (λ v. s.number (s.after (cond v r.Front (cond (eqb c 45) r.Sign (cond (is_digit c) (r.Digits false (s.more 0 c)) r.Unfit))) cs)) e ∙ ih
        ∙ ap signed_number (sym (trimmed_front c cs e))
    by_space false e ih = ap (λ v. s.number (s.after (cond v r.Front (cond (eqb c 45) r.Sign (cond (is_digit c) (r.Digits false (s.more 0 c)) r.Unfit))) cs)) e
        ∙ by_sign (eqb c 45) refl ∙ ap signed_number (sym (trimmed_here c cs e))
