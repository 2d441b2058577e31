-- What bytes decode to is UTF-8, and has no more bytes than they are.
use Rattle.std.proofs.Common.{◌≡◌, ℕ, zero, suc, ◌<◌, ◌≤◌, Bool, true, false, ◌&&◌, ltb, cond, List, [], ◌∷◌, ◌++◌, length, get_or, take, drop, IsUtf8, encode_utf8, encode_utf8_all, sym, refl, ◌∙◌, ap, subst, arith, append-nil, take_all, length-drop, inl, inr, Ok, Err}
use Rattle.std.specs.Prelude.{◌==◌}
use Rattle.std.specs.Str.{is_utf8, all_scalars}
use Rattle.std.specs.Str.Lossy.{valid_len_up_to, utf8_valid_len}
use lib.Utf8.{scalar}
use Rattle.std.proofs.lemmas.Bool.{and_parts, and_right, cases_lt, eqb-true, ltb-false, ne_eqb}
use Rattle.std.proofs.lemmas.Str.{IsUtf8-nil, IsUtf8-append, IsUtf8-encode, IsUtf8-drop, IsUtf8-from_is_utf8, encode_ascii, inside_one, length-encode, len_utf8_bounds}
use Rattle.text_base.specs.Text.{run_end, is_not_byte}
use Rattle.text_base.specs.declared.reasons.PageReason.TheVariants.{NotUtf8, Nul}
use Rattle.text_base.specs.inner.Newlines.{newlines_after}
use Rattle.text_base.specs.Decoding.{newlines, without_mark, fault}
use Rattle.text_base.specs.DecodingLaws.{DecodedTexts}
use Rattle.text_base.proofs.Boundaries.{boundary}
use Rattle.text_base.proofs.NewlineLemmas.{past_mark}
use Rattle.text_base.proofs.NewlinePlaces.{newlines_read}
use Rattle.text_base.proofs.PlainLemmas.{no_longer}

-- ---- the front that is UTF-8

valid_front : (bs : List ℕ) (m : ℕ) → IsUtf8 (take (valid_len_up_to bs m) bs)
valid_front bs zero = IsUtf8-nil
valid_front bs (suc m) = by_test (is_utf8 (take (suc m) bs)) refl (valid_front bs m)
  where
    by_test : (b : Bool) → is_utf8 (take (suc m) bs) ≡ b → IsUtf8 (take (valid_len_up_to bs m) bs) → IsUtf8 (take (cond b (suc m) (valid_len_up_to bs m)) bs)
    by_test true is h = IsUtf8-from_is_utf8 (take (suc m) bs) is
    by_test false is h = h

all_valid : (bs : List ℕ) → length bs ≤ utf8_valid_len bs → IsUtf8 bs
unfolding utf8_valid_len
all_valid bs l = subst IsUtf8 (take_all (valid_len_up_to bs (length bs)) bs l) (valid_front bs (length bs))

-- ---- newlines

-- bytes past ASCII stay
one_stays : (a : Bool) (x : ℕ) (bs : List ℕ) → 128 ≤ x → newlines_after a (x ∷ bs) ≡ x ∷ newlines_after false bs
one_stays a x bs wide =
    ap (λ b. cond b (10 ∷ newlines_after true bs) (cond (a && (x == 10)) (newlines_after false bs) (x ∷ newlines_after false bs))) (ne_eqb x 13 (λ e. omega (arith, wide, e)))
    ∙ ap (λ b. cond (a && b) (newlines_after false bs) (x ∷ newlines_after false bs)) (ne_eqb x 10 (λ e. omega (arith, wide, e)))
    ∙ ap (λ b. cond b (newlines_after false bs) (x ∷ newlines_after false bs)) (and_right a false refl)

all_stay : (xs rest : List ℕ) → ((k : ℕ) → k < length xs → 128 ≤ get_or xs k 0) → newlines_after false (xs ++ rest) ≡ xs ++ newlines_after false rest
all_stay [] rest h = refl
all_stay (x ∷ xs) rest h = one_stays false x (xs ++ rest) (h 0 (omega arith)) ∙ ap (λ r. x ∷ r) (all_stay xs rest (λ k l. h (suc k) (omega arith)))

wide_stay : (a : Bool) (xs rest : List ℕ) → 0 < length xs → ((k : ℕ) → k < length xs → 128 ≤ get_or xs k 0) → newlines_after a (xs ++ rest) ≡ xs ++ newlines_after false rest
wide_stay a [] rest some h = absurd (omega arith)
wide_stay a (x ∷ xs) rest some h = one_stays a x (xs ++ rest) (h 0 (omega arith)) ∙ ap (λ r. x ∷ r) (all_stay xs rest (λ k l. h (suc k) (omega arith)))

one_byte : (c : ℕ) → c < 128 → IsUtf8 (c ∷ [])
one_byte c l = (c ∷ [], (let s : (scalar c && true) ≡ true = small c l in s, append-nil (encode_utf8 c) ∙ encode_ascii c l))
  where
    small : (c : ℕ) → c < 128 → (scalar c && true) ≡ true
    small c l = grind arith

newlines_utf8 : (a : Bool) (cs : List ℕ) → all_scalars cs ≡ true → IsUtf8 (newlines_after a (encode_utf8_all cs))
newlines_utf8 a [] ok = IsUtf8-nil
newlines_utf8 a (c ∷ cs) ok =
    let parts = and_parts (scalar c) (all_scalars cs) ok in
    let rest = encode_utf8_all cs in
    elim (cases_lt c 128) [
      | inl small ↦ subst (λ x. IsUtf8 (newlines_after a (x ++ rest))) (sym (encode_ascii c small)) (by_byte (c == 13) (a && (c == 10)) (newlines_utf8 true cs parts.1) (newlines_utf8 false cs parts.1) small)
      | inr wide ↦ subst IsUtf8 (sym (wide_stay a (encode_utf8 c) rest (some c) (λ k l. high c k wide l))) (IsUtf8-append (encode_utf8 c) (newlines_after false rest) (IsUtf8-encode c parts.0) (newlines_utf8 false cs parts.1))
    ]
  where
    by_byte : (t u : Bool) → IsUtf8 (newlines_after true (encode_utf8_all cs)) → IsUtf8 (newlines_after false (encode_utf8_all cs)) → c < 128
        → IsUtf8 (cond t (10 ∷ newlines_after true (encode_utf8_all cs)) (cond u (newlines_after false (encode_utf8_all cs)) (c ∷ newlines_after false (encode_utf8_all cs))))
    by_byte true u h k small = IsUtf8-append (10 ∷ []) (newlines_after true (encode_utf8_all cs)) (one_byte 10 (omega arith)) h
    by_byte false true h k small = k
    by_byte false false h k small = IsUtf8-append (c ∷ []) (newlines_after false (encode_utf8_all cs)) (one_byte c small) k

    some : (c : ℕ) → 0 < length (encode_utf8 c)
    some c = omega (arith, length-encode c, len_utf8_bounds c)

    high : (c k : ℕ) → 128 ≤ c → k < length (encode_utf8 c) → 128 ≤ get_or (encode_utf8 c) k 0
    high c k wide l = elim (cases_lt (get_or (encode_utf8 c) k 0) 128) [
      | inl low ↦ absurd (let e = inside_one c [] (encode_utf8 c) k (sym (append-nil (encode_utf8 c))) l low in omega (arith, e, wide, low))
      | inr up ↦ up
    ]

mark_utf8 : (text : List ℕ) → IsUtf8 text → IsUtf8 (without_mark text)
mark_utf8 text u = by_test (get_or text 0 0 == 0xef) refl (get_or text 1 0 == 0xbb) refl (get_or text 2 0 == 0xbf) refl
  where
    by_test : (a : Bool) → (get_or text 0 0 == 0xef) ≡ a → (b : Bool) → (get_or text 1 0 == 0xbb) ≡ b → (c : Bool) → (get_or text 2 0 == 0xbf) ≡ c → IsUtf8 (cond ((a && b) && c) (drop 3 text) text)
    by_test true x true y true z = IsUtf8-drop text 3 u (boundary text 3 (past_mark text u (eqb-true _ _ x) (eqb-true _ _ y) (eqb-true _ _ z)))
    by_test true x true y false z = u
    by_test true x false y c z = u
    by_test false x b y c z = u

mark_short : (text : List ℕ) → length (without_mark text) ≤ length text
mark_short text = by_test ((get_or text 0 0 == 0xef) && (get_or text 1 0 == 0xbb) && (get_or text 2 0 == 0xbf))
  where
    by_test : (b : Bool) → length (cond b (drop 3 text) text) ≤ length text
    by_test true = omega (arith, length-drop 3 text)
    by_test false = omega arith

pub decoded_texts : DecodedTexts
decoded_texts bytes text h = by_tests (ltb (run_end (is_not_byte 0) bytes 0) (utf8_valid_len bytes)) (ltb (utf8_valid_len bytes) (length bytes)) refl h
  where
    by_tests : (a b : Bool) → ltb (utf8_valid_len bytes) (length bytes) ≡ b → cond a (Err (fault Nul (run_end (is_not_byte 0) bytes 0))) (cond b (Err (fault NotUtf8 (utf8_valid_len bytes))) (Ok (newlines (without_mark bytes)))) ≡ Ok text → IsUtf8 text × (length text ≤ length bytes)
    by_tests true b is e = cc
    by_tests false true is e = cc
    by_tests false false is e =
        let same : newlines (without_mark bytes) ≡ text = (let x = e in cc) in
        let page = without_mark bytes in
        let u : IsUtf8 page = mark_utf8 bytes (all_valid bytes (ltb-false (utf8_valid_len bytes) (length bytes) is)) in
        let read : newlines_after false page ≡ text = sym (newlines_read page) ∙ same in (
          subst IsUtf8 read (subst (λ x. IsUtf8 (newlines_after false x)) u.1.1 (newlines_utf8 false u.0 u.1.0)),
          omega (arith, ap length read, no_longer false page, mark_short bytes),
        )
