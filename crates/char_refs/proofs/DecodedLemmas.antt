-- A text with its references decoded is UTF-8.
use Rattle.std.proofs.Common.{◌≡◌, ℕ, zero, suc, ◌+◌, ◌-◌, ◌<◌, ◌≤◌, ◌⊎◌, Bool, true, false, cond, encode_utf8_all, length-append, length-drop, append-nil, ◌&&◌, ◌||◌, List, [], ◌∷◌, ◌++◌, length, get_or, drop, sym, refl, ◌∙◌, ap, subst, arith, ltb, IsUtf8, encode_utf8, inl, inr, eqb-true}
use Rattle.std.specs.Prelude.{◌==◌, Option, Some, None, slice_range}
use Rattle.std.specs.List.{list_all}
use Rattle.std.specs.Char.{IsScalar, len_utf8}
use lib.Utf8.{scalar}
use Rattle.std.specs.Str.{all_scalars}
use Rattle.std.proofs.lemmas.Bool.Decides.{nat_tests}
use Rattle.std.proofs.lemmas.Str.{IsUtf8-nil, IsUtf8-append, IsUtf8-encode, IsUtf8-drop, IsCharBoundary-after_ascii, inside_one, length-encode, encode_ascii}
use Rattle.std.proofs.lemmas.Bool.{and_parts}
use Rattle.text_base.specs.Text.{run_end, is_not_byte}
use Rattle.text_base.specs.Words.{is_some}
use Rattle.text_base.proofs.Runs.{run_end_stops}
use Rattle.char_refs.specs.Tables.{names, char_in, char_named, replaced, given_in, given_for}
use Rattle.char_refs.specs.References.{is_digit_in, number, own_char, or_own, char_of, digits_char, body_char, with_length, reference_of, first_piece, more_bytes, decoded_past, decoded}
use Rattle.char_refs.proofs.DecodingLemmas.{skip}
use Rattle.char_refs.proofs.EscapedLemmas.{kept}

-- each character that a reference may stand for is one
own_scalar : (n : ℕ) → scalar (own_char n) ≡ true
own_scalar n = by_test ((n == 0) || (ltb 0xd7ff n && ltb n 0xe000) || ltb 0x10ffff n) refl
  where
    by_test : (b : Bool) → ((n == 0) || (ltb 0xd7ff n && ltb n 0xe000) || ltb 0x10ffff n) ≡ b → scalar (own_char n) ≡ true
    by_test b h = grind (arith, nat_tests)

module _ (n : ℕ) where
  given_scalar : (entries : List (ℕ × ℕ)) → list_all (λ e. scalar e.1) entries ≡ true → (c : ℕ) → given_in entries n ≡ Some c → scalar c ≡ true
  given_scalar [] all c h = cc
  given_scalar (e ∷ entries) all c h =
      let parts = and_parts (scalar e.1) (list_all (λ e. scalar e.1) entries) all in
      by_first (e.0 == n) parts.0 h (given_scalar entries parts.1 c)
    where
      by_first : (b : Bool) → scalar e.1 ≡ true → cond b (Some e.1) (given_in entries n) ≡ Some c → (given_in entries n ≡ Some c → scalar c ≡ true) → scalar c ≡ true
      by_first true ok k later = let f : e.1 ≡ c = cc in subst (λ x. scalar x ≡ true) f ok
      by_first false ok k later = later k

  given_table : (c : ℕ) → given_for n ≡ Some c → scalar c ≡ true
  unfolding replaced
  given_table c h = given_scalar replaced refl c h

  or_scalar : (o : Option ℕ) → ((c : ℕ) → o ≡ Some c → scalar c ≡ true) → scalar (or_own o n) ≡ true
  or_scalar None h = own_scalar n
  or_scalar (Some c) h = h c refl

  char_scalar : scalar (char_of n) ≡ true
  char_scalar = or_scalar (given_for n) given_table

named_scalar : (name : List ℕ) (entries : List (List ℕ × ℕ)) → list_all (λ e. scalar e.1) entries ≡ true → (c : ℕ) → char_in entries name ≡ Some c → scalar c ≡ true
named_scalar name [] all c h = cc
named_scalar name (e ∷ entries) all c h =
    let parts = and_parts (scalar e.1) (list_all (λ e. scalar e.1) entries) all in
    by_first _ parts.0 h (named_scalar name entries parts.1 c)
  where
    by_first : (b : Bool) → scalar e.1 ≡ true → cond b (Some e.1) (char_in entries name) ≡ Some c → (char_in entries name ≡ Some c → scalar c ≡ true) → scalar c ≡ true
    by_first true ok k later = let f : e.1 ≡ c = cc in subst (λ x. scalar x ≡ true) f ok
    by_first false ok k later = later k

named_table : (name : List ℕ) (c : ℕ) → char_named name ≡ Some c → scalar c ≡ true
unfolding names
named_table name c h = named_scalar name names refl c h

digits_scalar : (base : ℕ) (digits : List ℕ) (c : ℕ) → digits_char base digits ≡ Some c → scalar c ≡ true
digits_scalar base digits c h = by_test (is_some digits && list_all (is_digit_in base) digits) h
  where
    by_test : (b : Bool) → cond b (Some (char_of (number base digits))) None ≡ Some c → scalar c ≡ true
    by_test true k = let f : char_of (number base digits) ≡ c = cc in subst (λ x. scalar x ≡ true) f (char_scalar (number base digits))
    by_test false k = cc

body_scalar : (body : List ℕ) (c : ℕ) → body_char body ≡ Some c → scalar c ≡ true
body_scalar body c h = by_test (get_or body 0 0 == 35) ((get_or body 1 0 == 120) || (get_or body 1 0 == 88)) h
  where
    by_test : (a b : Bool) → cond a (cond b (digits_char 16 (drop 2 body)) (digits_char 10 (drop 1 body))) (char_named body) ≡ Some c → scalar c ≡ true
    by_test true true k = digits_scalar 16 (drop 2 body) c k
    by_test true false k = digits_scalar 10 (drop 1 body) c k
    by_test false b k = named_table body c k

-- a reference has a character, and a `;` ends it
abbrev IsReference : List ℕ → ℕ × ℕ → Type 0
IsReference s r = IsScalar r.0 × (run_end (is_not_byte 59) s 1 < length s) × (r.1 ≡ run_end (is_not_byte 59) s 1 + 1)

reference_parts : (s : List ℕ) (r : ℕ × ℕ) → reference_of s ≡ Some r → IsReference s r
reference_parts s r h =
    let e = run_end (is_not_byte 59) s 1 in
    by_test ((get_or s 0 0 == 38) && ltb e (length s)) refl (body_char (slice_range s 1 e)) refl h
  where
    by_test : (b : Bool) → ((get_or s 0 0 == 38) && ltb (run_end (is_not_byte 59) s 1) (length s)) ≡ b → (o : Option ℕ) → body_char (slice_range s 1 (run_end (is_not_byte 59) s 1)) ≡ o → cond b (with_length o (run_end (is_not_byte 59) s 1 + 1)) None ≡ Some r → IsReference s r
    by_test true is None body k = cc
    by_test true is (Some c) body k =
        let e = run_end (is_not_byte 59) s 1 in
        let same : (let x : ℕ × ℕ = (c, e + 1) in x) ≡ r = cc in
        subst (IsReference s) same (body_scalar (slice_range s 1 e) c body, below e (length s) (and_parts (get_or s 0 0 == 38) (ltb e (length s)) is).1, refl)
      where
        below : (a b : ℕ) → ltb a b ≡ true → a < b
        below a b h = grind (arith, nat_tests)
    by_test false is o body k = cc

past_reference : (s : List ℕ) → IsUtf8 s → run_end (is_not_byte 59) s 1 < length s → IsUtf8 (drop (run_end (is_not_byte 59) s 1 + 1) s)
past_reference s utf8 l =
    let e = run_end (is_not_byte 59) s 1 in
    let stop = run_end_stops (is_not_byte 59) s 1 l in
    IsUtf8-drop s (e + 1) utf8 (IsCharBoundary-after_ascii s e utf8 l (is_small (get_or s e 0) stop))
  where
    is_small : (b : ℕ) → is_not_byte 59 b ≡ false → b < 128
    is_small b h = grind (arith, nat_tests)

no_sign : (c : ℕ) → (c ≡ 38 → ⊥) → (k : ℕ) → k < length (encode_utf8 c) → get_or (encode_utf8 c) k 0 ≡ 38 → ⊥
no_sign c h k l e = h (inside_one c [] (encode_utf8 c) k (sym (append-nil (encode_utf8 c))) l (omega (arith, e)) ∙ e)

some_bytes : (c : ℕ) → 0 < length (encode_utf8 c)
some_bytes c = let e = length-encode c in omega (arith, some_len c)
  where
    some_len : (c : ℕ) → 0 < len_utf8 c
    some_len c = grind (arith, nat_tests)

decoded_by : (n : ℕ) (cs s : List ℕ) → length s ≤ n → all_scalars cs ≡ true → encode_utf8_all cs ≡ s → IsUtf8 (decoded s)
decoded_by n [] s l ok e = subst (λ x. IsUtf8 (decoded x)) e IsUtf8-nil
decoded_by zero (c ∷ cs) s l ok e = absurd (let some = some_bytes c in omega (arith, ap length e, length-append (encode_utf8 c) (encode_utf8_all cs)))
decoded_by (suc n) (c ∷ cs) s l ok e =
    let parts = and_parts (scalar c) (all_scalars cs) ok in
    let t = encode_utf8_all cs in
    let short : length t ≤ n = (let some = some_bytes c in omega (arith, ap length e, length-append (encode_utf8 c) t)) in
    let rest = decoded_by n cs t short parts.1 refl in
    subst (λ x. IsUtf8 (decoded x)) e
    (elim (eq_or c 38) [
      | inl is ↦
          let sign : encode_utf8 c ++ t ≡ 38 ∷ t = ap (λ x. x ++ t) (ap encode_utf8 is ∙ encode_ascii 38 (omega arith)) in
          let whole : IsUtf8 (38 ∷ t) = (c ∷ cs, (ok, sign)) in
          subst (λ x. IsUtf8 (decoded x)) (sym sign) (by_reference t whole rest (λ x few u. decoded_by n u.0 x few u.1.0 u.1.1) short (reference_of (38 ∷ t)) refl)
      | inr other ↦ subst IsUtf8 (sym (kept (encode_utf8 c) t (no_sign c other))) (IsUtf8-append (encode_utf8 c) (decoded t) (IsUtf8-encode c parts.0) rest)
    ])
  where
    eq_or : (a b : ℕ) → (a ≡ b) ⊎ (a ≡ b → ⊥)
    eq_or a b = by_test (a == b) refl
      where
        by_test : (t : Bool) → (a == b) ≡ t → (a ≡ b) ⊎ (a ≡ b → ⊥)
        by_test true h = inl (eqb-true a b h)
        by_test false h = inr (λ e. let f : (a == b) ≡ true = grind (arith, nat_tests) in cc)

    by_reference : (t : List ℕ) → IsUtf8 (38 ∷ t) → IsUtf8 (decoded t) → ((x : List ℕ) → length x ≤ n → IsUtf8 x → IsUtf8 (decoded x)) → length t ≤ n → (o : Option (ℕ × ℕ)) → reference_of (38 ∷ t) ≡ o → IsUtf8 (first_piece (reference_of (38 ∷ t)) 38 ++ decoded_past t (more_bytes (reference_of (38 ∷ t))))
    by_reference t whole rest again short None is = subst (λ o. IsUtf8 (first_piece o 38 ++ decoded_past t (more_bytes o))) (sym is) (IsUtf8-append (38 ∷ []) (decoded t) (subst IsUtf8 (encode_ascii 38 (omega arith)) (IsUtf8-encode 38 refl)) rest)
    by_reference t whole rest again short (Some r) is =
        let f = reference_parts (38 ∷ t) r is in
        let m = run_end (is_not_byte 59) (38 ∷ t) 1 in
        let tail : IsUtf8 (drop m t) = subst IsUtf8 (ap (λ k. drop k (38 ∷ t)) (let q : m + 1 ≡ suc m = omega arith in q)) (past_reference (38 ∷ t) whole f.1) in
        let later : IsUtf8 (decoded (drop m t)) = again (drop m t) (omega (arith, length-drop m t)) tail in
        let same : decoded_past t (r.1 - 1) ≡ decoded (drop m t) = skip t (r.1 - 1) ∙ ap (λ k. decoded (drop k t)) (let q : r.1 - 1 ≡ m = omega (arith, f.2) in q) in
        subst (λ o. IsUtf8 (first_piece o 38 ++ decoded_past t (more_bytes o))) (sym is)
        (IsUtf8-append (encode_utf8 r.0) (decoded_past t (r.1 - 1)) (IsUtf8-encode r.0 f.0) (subst IsUtf8 (sym same) later))

pub decoded_utf8 : (s : List ℕ) → IsUtf8 s → IsUtf8 (decoded s)
decoded_utf8 s u = decoded_by (length s) u.0 s (omega arith) u.1.0 u.1.1
