-- Words, one after the other, and the words of the bytes of a text.
use Rattle.std.proofs.Common.{◌≡◌, ℕ, zero, suc, ◌+◌, ◌-◌, ◌<◌, ◌≤◌, Bool, true, false, cond, List, [], ◌∷◌, ◌++◌, length, get_or, take, drop, map, encode_utf8, encode_utf8_all, refl, sym, ◌∙◌, ap, arith, inl, inr}
use Rattle.std.specs.List.{slice_split, onto_first, filter, All}
use Rattle.std.proofs.lemmas.Bool.{cases_lt, cases_Bool, both_ways}
use Rattle.std.proofs.lemmas.List.{append-nil, take-append-drop, take_all, drop_all, drop_more, drop-drop, get_or-drop, get_or-take, get_or_default, length-take, length-drop}
use Rattle.std.proofs.lemmas.List.Splits.{slice_split-cons_yes, slice_split-cons_no, slice_split_none, slice_split_at}
use Rattle.std.proofs.lemmas.Str.{encode_ascii, inside_one, length-encode, len_utf8_bounds, encodes_same}
use Rattle.text_base.specs.Text.{run_end, IsNarrow, is_space4, is_space5, not_space4}
use Rattle.text_base.specs.Strings.{pieces, not_empty, runs}
use Rattle.text_base.specs.Words.{is_some, words_by}
use Rattle.std.proofs.lemmas.Bool.Decides.{nat_tests}
use Rattle.text_base.proofs.Runs.{run_end_from, run_end_le, run_end_passes, run_end_stops}

some_long : (w : List ℕ) → 0 < length w → is_some w ≡ true
some_long [] h = absurd (omega arith)
some_long (c ∷ w) h = refl

kept : (w : List ℕ) (ws : List (List ℕ)) → is_some w ≡ true → filter is_some (w ∷ ws) ≡ w ∷ filter is_some ws
kept w ws e = ap (λ b. cond b (w ∷ filter is_some ws) (filter is_some ws)) e

module _ (p : ℕ → Bool) where
  skip_one : (c : ℕ) (cs : List ℕ) → p c ≡ true → words_by p (c ∷ cs) ≡ words_by p cs
  skip_one c cs e = ap (filter is_some) (slice_split-cons_yes p c cs e)

  skip : (n : ℕ) (xs : List ℕ) → ((k : ℕ) → k < n → k < length xs → p (get_or xs k 0) ≡ true) → words_by p xs ≡ words_by p (drop n xs)
  skip zero xs h = refl
  skip (suc n) [] h = refl
  skip (suc n) (x ∷ xs) h = skip_one x xs (h 0 (omega arith) (omega arith)) ∙ skip n xs (λ k i l. h (suc k) (omega arith) (omega arith))

  -- the first n characters are a word where none of them passes and the next one, if there is one, does
  front : (n : ℕ) (xs : List ℕ) → 0 < n → n ≤ length xs → ((k : ℕ) → k < n → p (get_or xs k 0) ≡ false) → (n < length xs → p (get_or xs n 0) ≡ true) → words_by p xs ≡ take n xs ∷ words_by p (drop n xs)
  front n xs some fits fails ends =
      let none : All (λ x. p x ≡ false) (take n xs) = λ k d l.
      let low : k < n = omega (arith, length-take n xs) in
      ap p (get_or-take n xs k d low ∙ get_or_default xs k d 0 (omega arith)) ∙ fails k low in
      let long : is_some (take n xs) ≡ true = some_long (take n xs) (omega (arith, length-take n xs)) in
      elim (cases_lt n (length xs)) [
        | inl more ↦
            ap (words_by p) (sym (take-append-drop n xs) ∙ ap (λ t. take n xs ++ t) (drop_more xs n 0 more))
            ∙ ap (filter is_some) (slice_split_at p (take n xs) (get_or xs n 0) (drop (n + 1) xs) none (ends more))
            ∙ kept (take n xs) (slice_split p (drop (n + 1) xs)) long
            ∙ ap (λ ws. take n xs ∷ ws) (sym (skip_one (get_or xs n 0) (drop (n + 1) xs) (ends more)) ∙ ap (words_by p) (sym (drop_more xs n 0 more)))
        | inr all ↦
            ap (words_by p) (sym (take_all n xs all))
            ∙ ap (filter is_some) (slice_split_none p (take n xs) none)
            ∙ kept (take n xs) [] long
            ∙ ap (λ t. take n xs ∷ words_by p t) (sym (drop_all n xs all))
      ]

-- a run of characters that pass is passed over
pub words_on : (p : ℕ → Bool) (text : List ℕ) (i j : ℕ) → j ≡ run_end p text i → words_by p (drop i text) ≡ words_by p (drop j text)
words_on p text i j e =
    skip p (j - i) (drop i text) (λ k low l. ap p (get_or-drop i text k 0) ∙ run_end_passes p text i (i + k) (omega arith) (omega (arith, run_end_from p text i)))
    ∙ ap (words_by p) (drop-drop (j - i) i text ∙ ap (λ n. drop n text) (omega (arith, run_end_from p text i)))

-- and a run of others is a word
pub word_at : (p q : ℕ → Bool) (text : List ℕ) (i j : ℕ) → ((b : ℕ) → q b ≡ true → p b ≡ false) → ((b : ℕ) → q b ≡ false → p b ≡ true)
    → i < j → i ≤ length text → j ≡ run_end q text i → words_by p (drop i text) ≡ take (j - i) (drop i text) ∷ words_by p (drop j text)
word_at p q text i j fails passes some low e =
    let fits : j ≤ length text = omega (arith, run_end_le q text i low) in
    front p (j - i) (drop i text) (omega arith) (omega (arith, length-drop i text))
    (λ k l. ap p (get_or-drop i text k 0) ∙ fails _ (run_end_passes q text i (i + k) (omega arith) (omega arith)))
    (λ l. ap p (get_or-drop i text (j - i) 0 ∙ ap (λ n. get_or text n 0) (let f : i + (j - i) ≡ run_end q text i = omega arith in f)) ∙ passes _ (run_end_stops q text i (omega (arith, length-drop i text))))
    ∙ ap (λ t. take (j - i) (drop i text) ∷ words_by p t) (drop-drop (j - i) i text ∙ ap (λ n. drop n text) (omega arith))

-- a text in front of the first part
abbrev onto : List ℕ → List (List ℕ) → List (List ℕ)
onto [] parts = parts
onto (c ∷ s) parts = onto_first c (onto s parts)

onto_part : (s w : List ℕ) (ws : List (List ℕ)) → onto s (w ∷ ws) ≡ (s ++ w) ∷ ws
onto_part [] w ws = refl
onto_part (c ∷ s) w ws = ap (onto_first c) (onto_part s w ws)

split_onto : (p : ℕ → Bool) (s ys : List ℕ) → ((k : ℕ) → k < length s → p (get_or s k 0) ≡ false) → slice_split p (s ++ ys) ≡ onto s (slice_split p ys)
split_onto p [] ys h = refl
split_onto p (c ∷ s) ys h = slice_split-cons_no p c (s ++ ys) (h 0 (omega arith)) ∙ ap (onto_first c) (split_onto p s ys (λ k l. h (suc k) (omega arith)))

-- there is always a part
abbrev HasSome : List (List ℕ) → Type 0
HasSome [] = ⊥
HasSome (w ∷ ws) = Unit {0}

onto_some : (c : ℕ) (ws : List (List ℕ)) → HasSome (onto_first c ws)
onto_some c [] = tt
onto_some c (w ∷ ws) = tt

cond_some : (b : Bool) (c : ℕ) (ws : List (List ℕ)) → HasSome (cond b ([] ∷ ws) (onto_first c ws))
cond_some true c ws = tt
cond_some false c ws = onto_some c ws

split_some : (p : ℕ → Bool) (x : List ℕ) → HasSome (slice_split p x)
split_some p [] = tt
split_some p (c ∷ x) = cond_some (p c) c (slice_split p x)

onto_bytes : (c : ℕ) (ws : List (List ℕ)) → HasSome ws → onto (encode_utf8 c) (map encode_utf8_all ws) ≡ map encode_utf8_all (onto_first c ws)
onto_bytes c [] h = absurd h
onto_bytes c (w ∷ ws) h = onto_part (encode_utf8 c) (encode_utf8_all w) (map encode_utf8_all ws)

-- a character that passes is one byte, and the bytes of another fail
pub passing_byte : (p : ℕ → Bool) → IsNarrow p → (c : ℕ) → p c ≡ true → encode_utf8 c ≡ c ∷ []
passing_byte p narrow c h = elim (cases_lt c 128) [ inl lt ↦ encode_ascii c lt | inr ge ↦ absurd (both_ways (p c) (narrow c ge) h) ]

pub failing_bytes : (p : ℕ → Bool) → IsNarrow p → (c : ℕ) → p c ≡ false → (k : ℕ) → k < length (encode_utf8 c) → p (get_or (encode_utf8 c) k 0) ≡ false
failing_bytes p narrow c h k l = elim (cases_lt (get_or (encode_utf8 c) k 0) 128) [
  | inl lt ↦ ap p (sym (inside_one c [] (encode_utf8 c) k (sym (append-nil (encode_utf8 c))) l lt)) ∙ h
  | inr ge ↦ narrow (get_or (encode_utf8 c) k 0) ge
]

split_bytes : (p : ℕ → Bool) → IsNarrow p → (x : List ℕ) → slice_split p (encode_utf8_all x) ≡ map encode_utf8_all (slice_split p x)
split_bytes p narrow [] = refl
split_bytes p narrow (c ∷ x) = elim (cases_Bool (p c)) [
  | inl h ↦ ap (λ t. slice_split p (t ++ encode_utf8_all x)) (passing_byte p narrow c h)
      ∙ slice_split-cons_yes p c (encode_utf8_all x) h
      ∙ ap (λ ws. [] ∷ ws) (split_bytes p narrow x)
      ∙ ap (map encode_utf8_all) (sym (slice_split-cons_yes p c x h))
  | inr h ↦ split_onto p (encode_utf8 c) (encode_utf8_all x) (failing_bytes p narrow c h)
      ∙ ap (onto (encode_utf8 c)) (split_bytes p narrow x)
      ∙ onto_bytes c (slice_split p x) (split_some p x)
      ∙ ap (map encode_utf8_all) (sym (slice_split-cons_no p c x h))
]

some_append : (s y : List ℕ) → 0 < length s → is_some (s ++ y) ≡ true
some_append [] y h = absurd (omega arith)
some_append (c ∷ s) y h = refl

some_bytes : (w : List ℕ) → is_some (encode_utf8_all w) ≡ is_some w
some_bytes [] = refl
some_bytes (c ∷ w) = some_append (encode_utf8 c) (encode_utf8_all w) (omega (arith, length-encode c, (len_utf8_bounds c).0))

kept_bytes : (b : Bool) (w : List ℕ) (ws us : List (List ℕ)) → us ≡ map encode_utf8_all ws → cond b (encode_utf8_all w ∷ us) us ≡ map encode_utf8_all (cond b (w ∷ ws) ws)
kept_bytes true w ws us h = ap (λ vs. encode_utf8_all w ∷ vs) h
kept_bytes false w ws us h = h

filter_bytes : (ws : List (List ℕ)) → filter is_some (map encode_utf8_all ws) ≡ map encode_utf8_all (filter is_some ws)
filter_bytes [] = refl
filter_bytes (w ∷ ws) =
    ap (λ b. cond b (encode_utf8_all w ∷ filter is_some (map encode_utf8_all ws)) (filter is_some (map encode_utf8_all ws))) (some_bytes w)
    ∙ kept_bytes (is_some w) w (filter is_some ws) (filter is_some (map encode_utf8_all ws)) (filter_bytes ws)

-- the words of the bytes are the bytes of the words
pub words_bytes : (p : ℕ → Bool) → IsNarrow p → (x : List ℕ) → words_by p (encode_utf8_all x) ≡ map encode_utf8_all (words_by p x)
words_bytes p narrow x = ap (filter is_some) (split_bytes p narrow x) ∙ filter_bytes (slice_split p x)

head_same : (v w : List ℕ) (vs ws : List (List ℕ)) → v ∷ vs ≡ w ∷ ws → v ≡ w
head_same v w vs ws e = cc

tail_same : (v w : List ℕ) (vs ws : List (List ℕ)) → v ∷ vs ≡ w ∷ ws → vs ≡ ws
tail_same v w vs ws e = cc

two_same : (v w : List ℕ) (vs ws : List (List ℕ)) → v ≡ w → vs ≡ ws → v ∷ vs ≡ w ∷ ws
two_same v w vs ws e f = cc

-- lists of texts with the same bytes are the same
pub texts_same : (vs ws : List (List ℕ)) → map encode_utf8_all vs ≡ map encode_utf8_all ws → vs ≡ ws
texts_same [] [] e = refl
texts_same [] (w ∷ ws) e = cc
texts_same (v ∷ vs) [] e = cc
texts_same (v ∷ vs) (w ∷ ws) e =
    two_same v w vs ws (encodes_same v w (head_same _ _ _ _ e)) (texts_same vs ws (tail_same _ _ _ _ e))

pub space4_ascii : IsNarrow is_space4
space4_ascii b past = grind (arith, nat_tests)

pub space5_ascii : IsNarrow is_space5
space5_ascii b past = grind (arith, nat_tests)

pub space4_other : (b : ℕ) → not_space4 b ≡ true → is_space4 b ≡ false
space4_other b h = grind arith

pub space4_one : (b : ℕ) → not_space4 b ≡ false → is_space4 b ≡ true
space4_one b h = grind arith

some_kept : (ws : List (List ℕ)) → filter is_some ws ≡ not_empty ws
some_kept [] = refl
some_kept ([] ∷ ws) = some_kept ws
some_kept ((c ∷ w) ∷ ws) = ap (λ vs. (c ∷ w) ∷ vs) (some_kept ws)

-- the words are the maximal runs
pub words_runs : (p : ℕ → Bool) (x : List ℕ) → words_by p x ≡ runs p x
words_runs p x = some_kept (pieces p x)
