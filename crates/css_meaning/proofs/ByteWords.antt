-- Words and lower case on the bytes of texts.
use Rattle.std.proofs.Common.{◌≡◌, ℕ, suc, ◌<◌, ◌≤◌, Bool, List, [], ◌∷◌, ◌++◌, length, map, get_or, refl, sym, ◌∙◌, ap, arith, encode_utf8_all, inl, inr}
use Rattle.std.specs.Cmp.{both_ways}
use Rattle.std.specs.Char.{to_ascii_lowercase}
use Rattle.std.specs.Prelude.{encode_utf8, ◌||◌, codes}
use Rattle.std.specs.Str.{chars, IsUtf8, bytes_eq}
use Rattle.std.proofs.lemmas.List.{append-nil}
use Rattle.std.proofs.lemmas.Bool.{cases_lt}
use Rattle.std.proofs.lemmas.Bool.Decides.{nat_tests}
use Rattle.std.proofs.lemmas.Str.{encode_ascii, encodes-chars, inside_one, encodes-append}
use Rattle.std.proofs.lemmas.Str.Ascii.{lowercase_ascii}
use Rattle.text_base.specs.Strings.{starts_with, is_among, runs}
use Rattle.text_base.specs.Text.{is_space5}
use Rattle.text_base.specs.Words.{words_by}
use Rattle.text_base.proofs.ByteParts.{same_bytes, starts_bytes}
use Rattle.text_base.proofs.WordLemmas.{words_runs, space5_ascii}
use Rattle.text_base.proofs.WordWalks.{among_chars}
use Rattle.css_meaning.specs.Attributes.{word_test, dash_test, lang_test}
use Rattle.css_meaning.proofs.Values.{word_is_run, run_means}

-- ---- words

-- the words have characters, and no white space
word_among : (x v : List ℕ) → word_test x v ≡ is_among v (runs is_space5 x)
word_among x v = both_ways _ _ (λ h. (run_means is_space5 x v).1 ((word_is_run x v).0 h)) (λ h. (word_is_run x v).1 ((run_means is_space5 x v).0 h))

pub word_chars : (x v : List ℕ) → IsUtf8 x → IsUtf8 v → is_among v (words_by is_space5 x) ≡ word_test (chars x) (chars v)
word_chars x v utf8 other =
    among_chars is_space5 space5_ascii x v utf8 other ∙ ap (is_among (chars v)) (words_runs is_space5 (chars x)) ∙ sym (word_among (chars x) (chars v))

-- ---- dashes

either : (a b c d : Bool) → a ≡ b → c ≡ d → (a || c) ≡ (b || d)
either a b c d h k = cc

encode_dash : encode_utf8_all (codes "-") ≡ codes "-"
encode_dash = ap (λ t. t ++ []) (encode_ascii 45 (omega arith))

dash_bytes : (x v : List ℕ) → dash_test (encode_utf8_all x) (encode_utf8_all v) ≡ dash_test x v
dash_bytes x v =
    either _ _ _ _ (same_bytes x v)
    (ap (starts_with (encode_utf8_all x)) (ap (λ t. encode_utf8_all v ++ t) (sym encode_dash) ∙ sym (encodes-append v (codes "-"))) ∙ starts_bytes x (v ++ codes "-"))

pub dash_chars : (x v : List ℕ) → IsUtf8 x → IsUtf8 v → dash_test x v ≡ dash_test (chars x) (chars v)
dash_chars x v utf8 other =
    ap (λ t. dash_test t v) (sym (encodes-chars x utf8)) ∙ ap (dash_test (encode_utf8_all (chars x))) (sym (encodes-chars v other)) ∙ dash_bytes (chars x) (chars v)

-- ---- lower case

abbrev pub lower : List ℕ → List ℕ
lower x = map to_ascii_lowercase x

lower_past : (c : ℕ) → 128 ≤ c → to_ascii_lowercase c ≡ c
lower_past c h = grind (arith, nat_tests)

lower_append : (x y : List ℕ) → lower (x ++ y) ≡ lower x ++ lower y
lower_append [] y = refl
lower_append (c ∷ x) y = ap (λ t. to_ascii_lowercase c ∷ t) (lower_append x y)

high_same : (s : List ℕ) → ((k : ℕ) → k < length s → 128 ≤ get_or s k 0) → lower s ≡ s
high_same [] f = refl
high_same (c ∷ s) f = ap (λ d. d ∷ lower s) (lower_past c (f 0 (omega arith))) ∙ ap (λ t. c ∷ t) (high_same s (λ k l. f (suc k) (omega arith)))

-- each byte of a character is the character or past ASCII
byte_of : (c k : ℕ) → k < length (encode_utf8 c) → get_or (encode_utf8 c) k 0 < 128 → c ≡ get_or (encode_utf8 c) k 0
byte_of c k l h = inside_one c [] (encode_utf8 c) k (sym (append-nil (encode_utf8 c))) l h

high_byte : (c k : ℕ) → 128 ≤ c → k < length (encode_utf8 c) → 128 ≤ get_or (encode_utf8 c) k 0
high_byte c k high l = elim (cases_lt (get_or (encode_utf8 c) k 0) 128) [
  | inl lt ↦ let e : c ≡ get_or (encode_utf8 c) k 0 = byte_of c k l lt in absurd (omega arith)
  | inr ge ↦ ge
]

lower_one : (c : ℕ) → lower (encode_utf8 c) ≡ encode_utf8 (to_ascii_lowercase c)
lower_one c = elim (cases_lt c 128) [
  | inl lt ↦ ap lower (encode_ascii c lt) ∙ sym (encode_ascii (to_ascii_lowercase c) (lowercase_ascii c lt))
  | inr ge ↦ high_same (encode_utf8 c) (λ k l. high_byte c k ge l) ∙ ap encode_utf8 (sym (lower_past c ge))
]

lower_bytes : (x : List ℕ) → lower (encode_utf8_all x) ≡ encode_utf8_all (lower x)
lower_bytes [] = refl
lower_bytes (c ∷ x) = lower_append (encode_utf8 c) (encode_utf8_all x) ∙ ap (λ t. t ++ lower (encode_utf8_all x)) (lower_one c) ∙ ap (λ t. encode_utf8 (to_ascii_lowercase c) ++ t) (lower_bytes x)

lower_chars : (x : List ℕ) → IsUtf8 x → lower x ≡ encode_utf8_all (lower (chars x))
lower_chars x utf8 = ap lower (sym (encodes-chars x utf8)) ∙ lower_bytes (chars x)

pub lang_chars : (x v : List ℕ) → IsUtf8 x → IsUtf8 v → lang_test x v ≡ lang_test (chars x) (chars v)
lang_chars x v utf8 other =
    ap (λ t. dash_test t (lower v)) (lower_chars x utf8) ∙ ap (dash_test (encode_utf8_all (lower (chars x)))) (lower_chars v other)
    ∙ dash_bytes (lower (chars x)) (lower (chars v))

pub lowered_chars : (x v : List ℕ) → IsUtf8 x → IsUtf8 v → bytes_eq x (lower v) ≡ bytes_eq (chars x) (lower (chars v))
lowered_chars x v utf8 other =
    ap (λ t. bytes_eq t (lower v)) (sym (encodes-chars x utf8)) ∙ ap (bytes_eq (encode_utf8_all (chars x))) (lower_chars v other)
    ∙ same_bytes (chars x) (lower (chars v))
