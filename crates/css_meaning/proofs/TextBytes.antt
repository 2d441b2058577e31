-- A text contains another where the bytes of the one contain those of the other: no byte inside a character begins one.
use Rattle.std.proofs.Common.{◌≡◌, refl, ℕ, ◌+◌, ◌<◌, ◌/◌, ◌%◌, ◌≤◌, Bool, true, false, ◌&&◌, ◌||◌, leb, ltb, List, [], ◌∷◌, ◌++◌, sym, ◌∙◌, ap, arith, inl, inr, encode_utf8_all}
use Rattle.std.specs.Prelude.{encode_utf8}
use Rattle.std.proofs.lemmas.Bool.{and_left, and_right, and_from, cond-true, cond-false, and_parts, or_from, cases_lt, le-leb, lt-ltb, lt-leb, le-ltb, ne_eqb, both_ways}
use Rattle.text_base.specs.Strings.{starts_with, contains}
use Rattle.css_meaning.specs.inner.TextPlaces.{begins_in}
use Rattle.css_meaning.proofs.ListTests.{or_false}
use Rattle.text_base.proofs.ByteParts.{starts_bytes}
use Rattle.text_base.proofs.TextTests.{no_part}
use lib.Utf8.{encode}

-- ---- the bytes of one character

-- a byte that goes on with a character
abbrev is_inner : ℕ → Bool
is_inner b = leb 128 b && ltb b 192

abbrev all_inner : List ℕ → Bool
all_inner [] = true
all_inner (b ∷ bs) = is_inner b && all_inner bs

record Spelling (c : ℕ) : Type 0 where
  first : ℕ
  inner : List ℕ
  is : encode_utf8 c ≡ first ∷ inner
  starts : is_inner first ≡ false
  follows : all_inner inner ≡ true

below_inner : (b : ℕ) → b < 128 → is_inner b ≡ false
below_inner b h = and_left _ _ (lt-leb 128 b h)

above_inner : (a b : ℕ) → 192 ≤ a → is_inner (a + b) ≡ false
above_inner a b h = and_right _ _ (le-ltb (a + b) 192 (omega arith))

inner_next : (b : ℕ) → is_inner (128 + b % 64) ≡ true
inner_next b = and_from _ _ (le-leb 128 (128 + b % 64) (omega arith)) (lt-ltb (128 + b % 64) 192 (omega arith))

inner_more : (b : ℕ) (bs : List ℕ) → all_inner bs ≡ true → all_inner ((128 + b % 64) ∷ bs) ≡ true
inner_more b bs h = and_from _ _ (inner_next b) h

spelling : (c : ℕ) → Spelling c
unfolding encode
spelling c = elim (cases_lt c 128) [
  | inl one ↦ record { first = c; inner = []; is = cond-true (ltb c 128) _ _ (lt-ltb c 128 one); starts = below_inner c one; follows = refl }
  | inr more ↦ elim (cases_lt c 2048) [
    | inl two ↦ record {
      first = 192 + c / 64;
      inner = (128 + c % 64) ∷ [];
      is = cond-false (ltb c 128) _ _ (le-ltb c 128 more) ∙ cond-true (ltb c 2048) _ _ (lt-ltb c 2048 two);
      starts = above_inner 192 (c / 64) (omega arith);
      follows = inner_more c [] refl;
    }
    | inr most ↦ elim (cases_lt c 65536) [
      | inl three ↦ record {
        first = 224 + c / 4096;
        inner = (128 + (c / 64) % 64) ∷ (128 + c % 64) ∷ [];
        is = cond-false (ltb c 128) _ _ (le-ltb c 128 more) ∙ cond-false (ltb c 2048) _ _ (le-ltb c 2048 most) ∙ cond-true (ltb c 65536) _ _ (lt-ltb c 65536 three);
        starts = above_inner 224 (c / 4096) (omega arith);
        follows = inner_more (c / 64) ((128 + c % 64) ∷ []) (inner_more c [] refl);
      }
      | inr four ↦ record {
        first = 240 + c / 262144;
        inner = (128 + (c / 4096) % 64) ∷ (128 + (c / 64) % 64) ∷ (128 + c % 64) ∷ [];
        is = cond-false (ltb c 128) _ _ (le-ltb c 128 more) ∙ cond-false (ltb c 2048) _ _ (le-ltb c 2048 most) ∙ cond-false (ltb c 65536) _ _ (le-ltb c 65536 four);
        starts = above_inner 240 (c / 262144) (omega arith);
        follows = inner_more (c / 4096) ((128 + (c / 64) % 64) ∷ (128 + c % 64) ∷ []) (inner_more (c / 64) ((128 + c % 64) ∷ []) (inner_more c [] refl));
      }
    ]
  ]
]

-- ---- what a text contains

-- what begins in the first part, or stands in the second
pub contains_parts : (a r v : List ℕ) → contains (a ++ r) v ≡ (begins_in a r v || contains r v)
contains_parts [] r v = refl
contains_parts (b ∷ a) r v = ap (λ t. starts_with ((b ∷ a) ++ r) v || t) (contains_parts a r v) ∙ or_assoc (starts_with ((b ∷ a) ++ r) v) (begins_in a r v) (contains r v)
  where
    or_assoc : (x y z : Bool) → (x || (y || z)) ≡ ((x || y) || z)
    or_assoc true y z = refl
    or_assoc false y z = refl

-- no text begins inside a character
inner_apart : (bs rest : List ℕ) (first : ℕ) (v : List ℕ) → all_inner bs ≡ true → is_inner first ≡ false → begins_in bs rest (first ∷ v) ≡ false
inner_apart [] rest first v h k = refl
inner_apart (b ∷ bs) rest first v h k =
    let two = and_parts _ _ h in
    or_from _ _ (and_left _ _ (ne_eqb b first (λ same. both_ways _ k (sym (ap is_inner same) ∙ two.0)))) (inner_apart bs rest first v two.1 k)

begins_first : (bytes rest w : List ℕ) (first : ℕ) (inner : List ℕ) (start : ℕ) (tail : List ℕ) → bytes ≡ first ∷ inner → w ≡ start ∷ tail → all_inner inner ≡ true → is_inner start ≡ false
    → begins_in bytes rest w ≡ starts_with (bytes ++ rest) w
begins_first bytes rest w first inner start tail e f h k =
    ap (λ t. begins_in t rest w) e ∙ ap (λ t. begins_in (first ∷ inner) rest t) f
    ∙ ap (λ t. starts_with ((first ∷ inner) ++ rest) (start ∷ tail) || t) (inner_apart inner rest start tail h k) ∙ or_false _
    ∙ ap (λ t. starts_with (t ++ rest) (start ∷ tail)) (sym e) ∙ ap (starts_with (bytes ++ rest)) (sym f)

pub contains_bytes : (x v : List ℕ) → contains (encode_utf8_all x) (encode_utf8_all v) ≡ contains x v
contains_bytes x [] = no_part (encode_utf8_all x) ∙ sym (no_part x)
contains_bytes [] (d ∷ v) = starts_bytes [] (d ∷ v)
contains_bytes (c ∷ x) (d ∷ v) =
    let w : List ℕ = encode_utf8_all (d ∷ v) in
    let s = spelling c in
    let t = spelling d in
    contains_parts (encode_utf8 c) (encode_utf8_all x) w
    ∙ ap (λ b. b || contains (encode_utf8_all x) w)
    (begins_first (encode_utf8 c) (encode_utf8_all x) w s.first s.inner t.first (t.inner ++ encode_utf8_all v) s.is (ap (λ y. y ++ encode_utf8_all v) t.is) s.follows t.starts
    ∙ starts_bytes (c ∷ x) (d ∷ v))
    ∙ ap (λ b. starts_with (c ∷ x) (d ∷ v) || b) (contains_bytes x (d ∷ v))
