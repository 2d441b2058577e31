-- The places of one text in another, by bytes and by characters.
use Rattle.std.proofs.Common.{◌≡◌, ◌≢◌, refl, sym, ◌∙◌, ap, subst, ℕ, suc, ◌+◌, ◌<◌, ◌≤◌, Bool, true, false, cond, List, [], ◌∷◌, ◌++◌, length, take, drop, Some, None, encode_utf8, encode_utf8_all, arith, append_assoc}
use Rattle.std.specs.Str.{chars, IsUtf8, IsCharBoundary}
use Rattle.std.specs.Str.Pattern.{FindsText, LacksTextAt}
use Rattle.std.proofs.Math.Seq.{drop-append_seam, drop-append-add, take-length}
use Rattle.std.proofs.lemmas.Bool.{eqb-true, eq-eqb}
use Rattle.std.proofs.lemmas.List.{length-append, length-drop, take-append-drop, take-append-le}
use Rattle.std.proofs.lemmas.Slice.Eq.{starts_is}
use Rattle.std.proofs.lemmas.Str.{chars-append, encodes-append, encodes-chars, cons_from_encodes, length-le-encodes, IsUtf8-append, IsUtf8-drop, IsUtf8-take, IsCharBoundary-at_seam}
use Rattle.text_base.specs.Strings.{starts_with}
use Rattle.text_base.proofs.TextTests.{std_starts}
use Rattle.xpath_values.specs.Strings.{one_more, place_of, before_place, after_place, str_before, str_after}

-- ---- beginning with a text

begins_parts : (s t : List ℕ) → (starts_with s t ≡ true → s ≡ t ++ drop (length t) s) × ((rest : List ℕ) → s ≡ t ++ rest → starts_with s t ≡ true)
begins_parts s t = starts_is (λ a b. (eqb-true a b, eq-eqb a b)) s t (starts_with s t) (sym (std_starts s t))

-- the characters split where the bytes do
pub split_chars : (v x rest : List ℕ) → encode_utf8_all x ≡ encode_utf8_all v ++ rest → (r : List ℕ) × ((x ≡ v ++ r) × (encode_utf8_all r ≡ rest))
split_chars [] x rest e = (x, (refl, e))
split_chars (c ∷ v) x rest e =
    let first = cons_from_encodes x (encode_utf8_all v ++ rest) c (e ∙ append_assoc (encode_utf8 c) (encode_utf8_all v) rest) in
    let more = split_chars v first.0 rest first.2 in
    (more.0, (first.1 ∙ ap (λ r. c ∷ r) more.1.0, more.1.1))

-- ---- the first place

lacks_begins : (s t : List ℕ) → ((rest : List ℕ) → s ≢ t ++ rest) → starts_with s t ≡ false
lacks_begins s t h = at (starts_with s t) refl
  where
    at : (b : Bool) → starts_with s t ≡ b → b ≡ false
    at true e = absurd (h (drop (length t) s) ((begins_parts s t).0 e))
    at false e = refl

place_first : (front t back s : List ℕ) → s ≡ front ++ (t ++ back) → ((k : ℕ) → k < length front → LacksTextAt t s k) → place_of t s ≡ Some (length front)
place_first [] t back [] e h = at t back e
  where
    at : (t back : List ℕ) → [] ≡ t ++ back → place_of t [] ≡ Some 0
    at [] back e = refl
    at (c ∷ t) back e = cc
place_first [] t back (c ∷ s) e h = ap (λ b. cond b (Some 0) (one_more (place_of t s))) ((begins_parts (c ∷ s) t).1 back e)
place_first (a ∷ front) t back [] e h = cc
place_first (a ∷ front) t back (c ∷ s) e h =
    let not_here : starts_with (c ∷ s) t ≡ false = lacks_begins (c ∷ s) t (h 0 (omega arith)) in
    let rest : s ≡ front ++ (t ++ back) = cc in
    ap (λ b. cond b (Some 0) (one_more (place_of t s))) not_here ∙ ap one_more (place_first front t back s rest (λ k l. h (suc k) (omega arith)))

place_none : (t s : List ℕ) → ((k : ℕ) → k ≤ length s → LacksTextAt t s k) → place_of t s ≡ None
place_none t [] h = at t (h 0 (omega arith))
  where
    at : (t : List ℕ) → ((rest : List ℕ) → [] ≢ t ++ rest) → place_of t [] ≡ None
    at [] h = absurd (h [] refl)
    at (c ∷ t) h = refl
place_none t (c ∷ s) h =
    ap (λ b. cond b (Some 0) (one_more (place_of t s))) (lacks_begins (c ∷ s) t (h 0 (omega arith)))
    ∙ ap one_more (place_none t s (λ k l. h (suc k) (omega arith)))

-- where characters stand, so do their bytes
bytes_at : (x v rest : List ℕ) (k : ℕ) → drop k x ≡ v ++ rest → drop (length (encode_utf8_all (take k x))) (encode_utf8_all x) ≡ encode_utf8_all v ++ encode_utf8_all rest
bytes_at x v rest k e =
    ap (drop (length (encode_utf8_all (take k x)))) (ap encode_utf8_all (sym (take-append-drop k x)) ∙ encodes-append (take k x) (drop k x))
    ∙ drop-append_seam (encode_utf8_all (take k x)) (encode_utf8_all (drop k x))
    ∙ ap encode_utf8_all e ∙ encodes-append v rest

shorter : (x y : List ℕ) → length (encode_utf8_all x) ≤ length (encode_utf8_all (x ++ y))
shorter x y = omega (arith, ap (λ (v : List ℕ). length v) (encodes-append x y), length-append (encode_utf8_all x) (encode_utf8_all y))

shorter_front : (x : List ℕ) (k : ℕ) → k < length x → length (encode_utf8_all (take k x)) < length (encode_utf8_all x)
shorter_front x k l =
    let whole : length (encode_utf8_all (take k x ++ drop k x)) ≡ length (encode_utf8_all (take k x)) + length (encode_utf8_all (drop k x)) =
    ap (λ (v : List ℕ). length v) (encodes-append (take k x) (drop k x)) ∙ length-append (encode_utf8_all (take k x)) (encode_utf8_all (drop k x)) in
    let same : length (encode_utf8_all (take k x ++ drop k x)) ≡ length (encode_utf8_all x) = ap (λ (v : List ℕ). length (encode_utf8_all v)) (take-append-drop k x) in
    omega (arith, length-le-encodes (drop k x), length-drop k x)

-- no text stands where its bytes do not
lacks_at : (x v : List ℕ) (k : ℕ) → LacksTextAt (encode_utf8_all v) (encode_utf8_all x) (length (encode_utf8_all (take k x))) → LacksTextAt v x k
lacks_at x v k h rest e = h (encode_utf8_all rest) (bytes_at x v rest k e)

lacks_chars : (n s : List ℕ) (k : ℕ) → IsUtf8 n → IsUtf8 s → LacksTextAt n s (length (encode_utf8_all (take k (chars s)))) → LacksTextAt (chars n) (chars s) k
lacks_chars n s k u w h =
    let m : ℕ = length (encode_utf8_all (take k (chars s))) in
    lacks_at (chars s) (chars n) k
    (subst (λ a. LacksTextAt a (encode_utf8_all (chars s)) m) (sym (encodes-chars n u)) (subst (λ b. LacksTextAt n b m) (sym (encodes-chars s w)) h))

-- the first place by bytes is the first place by characters
pub found_chars : (n s front back : List ℕ) → IsUtf8 n → IsUtf8 s → IsUtf8 front → s ≡ front ++ (n ++ back) → ((k : ℕ) → k < length front → LacksTextAt n s k)
    → (place_of (chars n) (chars s) ≡ Some (length (chars front))) × (chars s ≡ chars front ++ (chars n ++ chars back))
found_chars n s front back u us w e h = (place_first (chars front) (chars n) (chars back) (chars s) parts lacks, parts)
  where
    parts : chars s ≡ chars front ++ (chars n ++ chars back)
    parts = ap chars e ∙ chars-append front (n ++ back) w ∙ ap (λ v. chars front ++ v) (chars-append n back u)

    lacks : (k : ℕ) → k < length (chars front) → LacksTextAt (chars n) (chars s) k
    lacks k l =
        let taken : take k (chars s) ≡ take k (chars front) = ap (take k) parts ∙ take-append-le k (chars front) (chars n ++ chars back) (omega arith) in
        let same : length (encode_utf8_all (take k (chars s))) ≡ length (encode_utf8_all (take k (chars front))) = ap (λ (v : List ℕ). length (encode_utf8_all v)) taken in
        let all : length (encode_utf8_all (chars front)) ≡ length front = ap (λ (v : List ℕ). length v) (encodes-chars front w) in
        let less : length (encode_utf8_all (take k (chars s))) < length front = omega (arith, shorter_front (chars front) k l) in
        lacks_chars n s k u us (h (length (encode_utf8_all (take k (chars s)))) less)

pub not_found_chars : (n s : List ℕ) → IsUtf8 n → IsUtf8 s → ((k : ℕ) → k ≤ length s → LacksTextAt n s k) → place_of (chars n) (chars s) ≡ None
not_found_chars n s u w h = place_none (chars n) (chars s) (λ k l. lacks_chars n s k u w (h (length (encode_utf8_all (take k (chars s)))) (within k)))
  where
    within : (k : ℕ) → length (encode_utf8_all (take k (chars s))) ≤ length s
    within k =
        let all : length (encode_utf8_all (take k (chars s) ++ drop k (chars s))) ≡ length s =
        ap (λ (v : List ℕ). length (encode_utf8_all v)) (take-append-drop k (chars s)) ∙ ap (λ (v : List ℕ). length v) (encodes-chars s w) in
        omega (arith, shorter (take k (chars s)) (drop k (chars s)))

-- ---- what the functions give there

-- what `split_once` gives at a text
abbrev pub Splits : List ℕ → List ℕ → List ℕ → List ℕ → Type 0
Splits n s front back = (i : ℕ) × (j : ℕ) × FindsText n s (Some (i, j)) × (front ≡ take i s) × (back ≡ drop j s) × (i ≤ j) × (length front ≡ i) × (length back + j ≡ length s)

split_parts : (n s front back : List ℕ) → Splits n s front back → (s ≡ front ++ (n ++ back)) × ((k : ℕ) → k < length front → LacksTextAt n s k)
split_parts n s front back h = (
  sym (take-append-drop h.0 s) ∙ ap (λ v. take h.0 s ++ v) h.2.1.split ∙ ap (λ v. v ++ (n ++ drop h.1 s)) (sym h.3) ∙ ap (λ v. front ++ (n ++ v)) (sym h.4),
  λ k l. h.2.0 k (omega (arith, h.6)),
)

-- what stands before the other text is text
split_utf8 : (n s front back : List ℕ) → IsUtf8 n → IsUtf8 s → Splits n s front back → IsUtf8 front
split_utf8 n s front back u us h =
    let i : ℕ = h.0 in
    let j : ℕ = h.1 in
    let behind : IsUtf8 (drop j s) = IsUtf8-drop s j us (subst (IsCharBoundary s) (sym h.2.1.ends) h.2.1.after) in
    let parts : s ≡ take i s ++ (n ++ drop j s) = sym (take-append-drop i s) ∙ ap (λ v. take i s ++ v) h.2.1.split in
    let seam : IsCharBoundary s (length (take i s)) = IsCharBoundary-at_seam s (take i s) (n ++ drop j s) parts (IsUtf8-append n (drop j s) u behind) in
    let long : length (take i s) ≡ i = ap (λ (v : List ℕ). length v) (sym h.3) ∙ h.6 in
    subst IsUtf8 (sym h.3) (IsUtf8-take s i us (subst (IsCharBoundary s) long seam))

pub split_is : (n s front back : List ℕ) → IsUtf8 n → IsUtf8 s → Splits n s front back
    → (place_of (chars n) (chars s) ≡ Some (length (chars front))) × (chars s ≡ chars front ++ (chars n ++ chars back))
split_is n s front back u us h = let p = split_parts n s front back h in found_chars n s front back u us (split_utf8 n s front back u us h) p.0 p.1

take_front : (xs ys : List ℕ) → take (length xs) (xs ++ ys) ≡ xs
take_front xs ys = take-append-le (length xs) xs ys (omega arith) ∙ take-length xs

pub before_found : (s t front back : List ℕ) → place_of t s ≡ Some (length front) → s ≡ front ++ (t ++ back) → str_before s t ≡ front
before_found s t front back e parts = ap (λ p. before_place p s) e ∙ ap (take (length front)) parts ∙ take_front front (t ++ back)

pub after_found : (s t front back : List ℕ) → place_of t s ≡ Some (length front) → s ≡ front ++ (t ++ back) → str_after s t ≡ back
after_found s t front back e parts =
    ap (λ p. after_place p (length t) s) e ∙ ap (drop (length front + length t)) parts ∙ drop-append-add front (t ++ back) (length t) ∙ drop-append_seam t back
