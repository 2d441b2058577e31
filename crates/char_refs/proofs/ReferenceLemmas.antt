-- Where a reference ends, and what a text without one has.
use Rattle.std.proofs.Common.{◌≡◌, ℕ, ◌+◌, ◌-◌, ◌<◌, ◌≤◌, Bool, true, false, cond, ◌&&◌, ◌||◌, List, [], ◌∷◌, length, get_or, take, drop, sym, refl, ◌∙◌, ap, subst, arith, inl, inr, length-drop, length-take, get_or-drop, get_or-take, drop-drop, ltb}
use Rattle.std.specs.Prelude.{◌==◌, Some, None, Option, slice_range}
use Rattle.std.specs.List.{list_all}
use Rattle.std.proofs.lemmas.Bool.{cases_lt, both_ways, and_parts, false_from_ne_true}
use Rattle.std.proofs.lemmas.Bool.Decides.{nat_tests}
use Rattle.std.proofs.lemmas.List.Folds.{list_all_at}
use Rattle.std.proofs.lemmas.Slice.Eq.{bytes_eq-Decides}
use Rattle.text_base.specs.Text.{run_end, is_not_byte}
use Rattle.text_base.specs.Words.{is_some}
use Rattle.text_base.proofs.Runs.{run_end_is, run_end_passes, run_end_from, run_end_le, run_end_stops}
use Rattle.char_refs.specs.Kinds.{is_body_byte}
use Rattle.char_refs.specs.Tables.{names, char_in, char_named}
use Rattle.char_refs.specs.References.{is_digit_in, digits_char, body_char, with_length, reference_of}

none_if : {A : Type 0} (b : Bool) (x : Option A) → b ≡ false → cond b x None ≡ None
none_if true x h = cc
none_if false x h = refl

and_false : (a b : Bool) → b ≡ false → (a && b) ≡ false
and_false true b h = h
and_false false b h = refl

module _ (body : List ℕ) (k : ℕ) (l : k < length body) (strange : is_body_byte (get_or body k 0) ≡ false) where
  digit_of_body : (base b : ℕ) → base ≤ 16 → is_digit_in base b ≡ true → is_body_byte b ≡ true
  digit_of_body base b small h = grind (arith, nat_tests)

  no_digits : (base n : ℕ) → base ≤ 16 → n ≤ k → digits_char base (drop n body) ≡ None
  no_digits base n small low =
      let e : get_or (drop n body) (k - n) 0 ≡ get_or body k 0 = get_or-drop n body (k - n) 0 ∙ ap (λ i. get_or body i 0) (omega arith) in
      none_if _ _ (and_false (is_some (drop n body)) _
      (list_all_at (is_digit_in base) (drop n body) (k - n) 0 (omega (arith, length-drop n body))
      (false_from_ne_true _ (λ yes. both_ways (is_body_byte (get_or body k 0)) strange (ap is_body_byte (sym e) ∙ digit_of_body base (get_or (drop n body) (k - n) 0) small yes)))))

  no_name : (entries : List (List ℕ × ℕ)) → list_all (λ e. list_all is_body_byte e.0) entries ≡ true → char_in entries body ≡ None
  no_name [] h = refl
  no_name (e ∷ entries) h =
      let parts = and_parts (list_all is_body_byte e.0) (list_all (λ e. list_all is_body_byte e.0) entries) h in
      ap (λ b. cond b (Some e.1) (char_in entries body)) (false_from_ne_true _ (λ yes.
      let same : e.0 ≡ body = (bytes_eq-Decides _ _).0 yes in
      both_ways (list_all is_body_byte body) (list_all_at is_body_byte body k 0 l strange) (subst (λ n. list_all is_body_byte n ≡ true) same parts.0)))
      ∙ no_name entries parts.1

  no_listed : char_named body ≡ None
  unfolding names
  no_listed = no_name names refl

  is_body : (b : ℕ) → ((b == 35) || (b == 120) || (b == 88)) ≡ true → is_body_byte b ≡ true
  is_body b h = grind (arith, nat_tests)

  other_place : (i : ℕ) → is_body_byte (get_or body i 0) ≡ true → k ≡ i → ⊥
  other_place i h e = both_ways (is_body_byte (get_or body k 0)) strange (ap (λ j. is_body_byte (get_or body j 0)) e ∙ h)

  cases_body : (a b : Bool) → (get_or body 0 0 == 35) ≡ a → ((get_or body 1 0 == 120) || (get_or body 1 0 == 88)) ≡ b → cond a (cond b (digits_char 16 (drop 2 body)) (digits_char 10 (drop 1 body))) (char_named body) ≡ None
  cases_body false b sign x = no_listed
  cases_body true true sign x =
      let zeroth = other_place 0 (grind (arith, nat_tests)) in
      let first = other_place 1 (grind (arith, nat_tests)) in
      no_digits 16 2 (omega arith) (elim (cases_lt k 2) [ inl small ↦ absurd (elim (cases_lt k 1) [ inl z ↦ zeroth (omega arith) | inr o ↦ first (omega arith) ]) | inr large ↦ large ])
  cases_body true false sign x =
      let zeroth = other_place 0 (grind (arith, nat_tests)) in
      no_digits 10 1 (omega arith) (elim (cases_lt k 1) [ inl z ↦ absurd (zeroth (omega arith)) | inr large ↦ large ])

  -- a byte of no reference
  pub no_body : body_char body ≡ None
  no_body = cases_body (get_or body 0 0 == 35) ((get_or body 1 0 == 120) || (get_or body 1 0 == 88)) refl refl

module _ (text : List ℕ) (i : ℕ) where
  byte_from : (k : ℕ) → get_or (drop i text) k 0 ≡ get_or text (i + k) 0
  byte_from k = get_or-drop i text k 0

  first_byte : get_or (drop i text) 0 0 ≡ get_or text i 0
  first_byte = byte_from 0 ∙ ap (λ n. get_or text n 0) (omega arith)

  pub no_sign : (get_or text i 0 ≡ 38 → ⊥) → None ≡ reference_of (drop i text)
  no_sign other = sym (none_if _ _ (and_front _ _ (ap (λ b. b == 38) first_byte ∙ false_from_ne_true (get_or text i 0 == 38) (λ yes. other (grind (arith, nat_tests))))))
    where
      and_front : (a b : Bool) → a ≡ false → (a && b) ≡ false
      and_front true b h = cc
      and_front false b h = refl

-- the run of bytes after the sign, in the rest of the text that the sign begins
module _ (s : List ℕ) (e : ℕ) (low : 1 ≤ e) (within : e ≤ length s) (passes : (k : ℕ) → 1 ≤ k → k < e → is_body_byte (get_or s k 0) ≡ true) where
  not_end : (b : ℕ) → is_body_byte b ≡ true → is_not_byte 59 b ≡ true
  not_end b h = grind (arith, nat_tests)

  ends_here : e < length s → get_or s e 0 ≡ 59 → reference_of s ≡ cond (get_or s 0 0 == 38) (with_length (body_char (slice_range s 1 e)) (e + 1)) None
  ends_here l here =
      let f : run_end (is_not_byte 59) s 1 ≡ e =
      run_end_is (is_not_byte 59) s 1 e low within (λ k a b. not_end _ (passes k a b)) (λ _. let t : is_not_byte 59 (get_or s e 0) ≡ false = (let q = here in grind (arith, nat_tests)) in t) in
      ap (λ n. cond ((get_or s 0 0 == 38) && ltb n (length s)) (with_length (body_char (slice_range s 1 n)) (n + 1)) None) f
      ∙ ap (λ b. cond b (with_length (body_char (slice_range s 1 e)) (e + 1)) None) (and_true (get_or s 0 0 == 38) (ltb e (length s)) (grind arith))
    where
      and_true : (a b : Bool) → b ≡ true → (a && b) ≡ a
      and_true true b h = h
      and_true false b h = refl

  body_none : (n : ℕ) → e < n → n < length s → is_body_byte (get_or s e 0) ≡ false → body_char (slice_range s 1 n) ≡ None
  body_none n more l strange =
      let long : length (slice_range s 1 n) ≡ n - 1 = omega (arith, length-take (n - 1) (drop 1 s), length-drop 1 s) in
      let at : get_or (slice_range s 1 n) (e - 1) 0 ≡ get_or s e 0 = get_or-take (n - 1) (drop 1 s) (e - 1) 0 (omega arith) ∙ get_or-drop 1 s (e - 1) 0 ∙ ap (λ k. get_or s k 0) (omega arith) in
      no_body (slice_range s 1 n) (e - 1) (omega arith) (ap is_body_byte at ∙ strange)

  none_of : (o : Option ℕ) (b : Bool) (n : ℕ) → (b ≡ true → o ≡ None) → cond b (with_length o n) None ≡ None
  none_of o true n h = ap (λ p. with_length p n) (h refl)
  none_of o false n h = refl

  ends_elsewhere : (e < length s → is_body_byte (get_or s e 0) ≡ false) → (get_or s e 0 ≡ 59 → ⊥) → reference_of s ≡ None
  ends_elsewhere stops other =
      let n = run_end (is_not_byte 59) s 1 in
      none_of (body_char (slice_range s 1 n)) ((get_or s 0 0 == 38) && ltb n (length s)) (n + 1) (λ yes.
      let inside : n < length s = (let t : ltb n (length s) ≡ true = (and_parts (get_or s 0 0 == 38) (ltb n (length s)) yes).1 in grind arith) in
      body_none n (elim (cases_lt e n) [ inl l ↦ l | inr back ↦ absurd (back_none inside back) ]) inside (stops (far inside)))
    where
      is_end : run_end (is_not_byte 59) s 1 < length s → get_or s (run_end (is_not_byte 59) s 1) 0 ≡ 59
      is_end inside = let t = run_end_stops (is_not_byte 59) s 1 inside in grind (arith, nat_tests)

      back_none : run_end (is_not_byte 59) s 1 < length s → run_end (is_not_byte 59) s 1 ≤ e → ⊥
      back_none inside back =
          elim (cases_lt (run_end (is_not_byte 59) s 1) e) [
            | inl before ↦ (let t = passes (run_end (is_not_byte 59) s 1) (run_end_from (is_not_byte 59) s 1) before in let u = is_end inside in grind (arith, nat_tests))
            | inr same ↦ other (ap (λ k. get_or s k 0) (let f : e ≡ run_end (is_not_byte 59) s 1 = omega arith in f) ∙ is_end inside)
          ]

      far : run_end (is_not_byte 59) s 1 < length s → e < length s
      far inside = elim (cases_lt e (length s)) [ inl l ↦ l | inr past ↦ absurd (back_none inside (omega arith)) ]

-- the same by places of the whole text
module _ (text : List ℕ) (i end : ℕ) (within : i < length text) (run : end ≡ run_end is_body_byte text (i + 1)) where
  low : i + 1 ≤ end
  low = omega (arith, run_end_from is_body_byte text (i + 1))

  high : end ≤ length text
  high = omega (arith, run_end_le is_body_byte text (i + 1))

  passes : (k : ℕ) → 1 ≤ k → k < end - i → is_body_byte (get_or (drop i text) k 0) ≡ true
  passes k a b = ap is_body_byte (byte_from text i k) ∙ run_end_passes is_body_byte text (i + 1) (i + k) (omega arith) (omega arith)

  last_byte : get_or (drop i text) (end - i) 0 ≡ get_or text end 0
  last_byte = byte_from text i (end - i) ∙ ap (λ n. get_or text n 0) (let l = low in omega arith)

  rest_length : length (drop i text) ≡ length text - i
  rest_length = length-drop i text

  pub no_end : (get_or text end 0 ≡ 59 → ⊥) → None ≡ reference_of (drop i text)
  no_end other =
      let a = low in
      let b = high in
      let c = rest_length in
      sym (ends_elsewhere (drop i text) (end - i) (omega arith) (omega arith) passes
      (λ l. ap is_body_byte last_byte ∙ ap (λ n. is_body_byte (get_or text n 0)) run ∙ run_end_stops is_body_byte text (i + 1) (omega arith))
      (λ e. other (sym last_byte ∙ e)))

  whole : get_or text i 0 ≡ 38 → get_or text end 0 ≡ 59 → end < length text → reference_of (drop i text) ≡ with_length (body_char (slice_range text (i + 1) end)) (end + 1 - i)
  whole sign close l =
      let a = low in
      let c = rest_length in
      let same : slice_range (drop i text) 1 (end - i) ≡ slice_range text (i + 1) end =
      ap (take (end - i - 1)) (drop-drop 1 i text ∙ ap (λ n. drop n text) (let e : _ ≡ i + 1 = omega arith in e)) ∙ ap (λ n. take n (drop (i + 1) text)) (let e : end - i - 1 ≡ end - (i + 1) = omega arith in e) in
      ends_here (drop i text) (end - i) (omega arith) (omega arith) passes (omega arith) (last_byte ∙ close)
      ∙ ap (λ b. cond b (with_length (body_char (slice_range (drop i text) 1 (end - i))) (end - i + 1)) None) (let t = first_byte text i ∙ sign in let u : (get_or (drop i text) 0 0 == 38) ≡ true = grind (arith, nat_tests) in u)
      ∙ ap (λ b. with_length (body_char b) (end - i + 1)) same
      ∙ ap (with_length (body_char (slice_range text (i + 1) end))) (let e : end - i + 1 ≡ end + 1 - i = omega arith in e)

  pub whole_some : (c : ℕ) (body : List ℕ) → get_or text i 0 ≡ 38 → get_or text end 0 ≡ 59 → end < length text → body ≡ slice_range text (i + 1) end → Some c ≡ body_char body → Some (c, end + 1 - i) ≡ reference_of (drop i text)
  whole_some c body sign close l is e = ap (λ o. with_length o (end + 1 - i)) (e ∙ ap body_char is) ∙ sym (whole sign close l)

  pub whole_none : (body : List ℕ) → get_or text i 0 ≡ 38 → get_or text end 0 ≡ 59 → end < length text → body ≡ slice_range text (i + 1) end → None ≡ body_char body → None ≡ reference_of (drop i text)
  whole_none body sign close l is e = ap (λ o. with_length o (end + 1 - i)) (e ∙ ap body_char is) ∙ sym (whole sign close l)
