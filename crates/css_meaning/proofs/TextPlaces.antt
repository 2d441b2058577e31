-- The texts below a row, read piece by piece.
use Rattle.std.proofs.Common.{◌≡◌, refl, ℕ, zero, suc, ◌+◌, ◌-◌, ◌<◌, ◌≤◌, Bool, true, false, ◌&&◌, ◌||◌, cond, eqb, List, [], ◌∷◌, ◌++◌, length, take, drop, sym, ◌∙◌, ap, arith, inl, inr, ◌⊎◌, encode_utf8_all, get_or}
use Prim.Native.Nat.{min}
use Rattle.std.specs.Prelude.{filter, flat_map}
use Rattle.std.specs.List.{range_with_len}
use Rattle.std.specs.Str.{chars, IsUtf8}
use Rattle.std.specs.Cmp.Lexicographic.{pointwise}
use Rattle.std.proofs.lemmas.Bool.{or_left, or_right, or_parts, or_cases, and_right, and_from, and_parts, both_ways, ne_eqb}
use Rattle.std.proofs.lemmas.List.{drop_more}
use Rattle.std.proofs.lemmas.Str.{encodes-append, encodes-chars, chars-nil}
use Rattle.text_base.specs.Strings.{starts_with, contains}
use Rattle.doc_model.specs.declared.Kind.{Kind}
use Rattle.doc_model.specs.declared.Kind.TheVariants.{Attribute, Text, Comment}
use Rattle.doc_model.specs.Document.{Document, row, is_text, below, IsDocument}
use Rattle.doc_model.specs.Ends.{IsEnd}
use Rattle.doc_model.specs.StringValue.{texts_below, string_value_of}
use Rattle.doc_model.proofs.Below.{small, not_up}
use Rattle.doc_model.proofs.Filters.{upto, upto_none}
use Rattle.doc_model.proofs.Texts.{is_below, texts_all}
use Rattle.css_meaning.specs.inner.TextPlaces.{text_at, texts_from, bytes_from, begins_in}
use Rattle.css_meaning.proofs.ListTests.{and_assoc}
use Rattle.text_base.proofs.TextTests.{no_part}
use Rattle.css_meaning.proofs.TextBytes.{contains_parts, contains_bytes}

-- ---- a piece and what is wanted

pub left_of : (n : ℕ) (piece wanted rest : List ℕ) → n ≡ min (length piece) (length wanted)
    → starts_with (piece ++ rest) wanted ≡ (pointwise eqb (take n piece) (take n wanted) && starts_with rest (drop n wanted))
left_of zero [] wanted rest h = refl
left_of zero (a ∷ piece) [] rest h = refl
left_of zero (a ∷ piece) (b ∷ wanted) rest h = absurd (omega arith)
left_of (suc n) [] wanted rest h = absurd (omega arith)
left_of (suc n) (a ∷ piece) [] rest h = absurd (omega arith)
left_of (suc n) (a ∷ piece) (b ∷ wanted) rest h =
    ap (λ t. eqb a b && t) (left_of n piece wanted rest (omega arith)) ∙ sym (and_assoc (eqb a b) (pointwise eqb (take n piece) (take n wanted)) (starts_with rest (drop n wanted)))

pub starts_ends : (x left : List ℕ) → (x ≡ []) ⊎ (length left ≡ 0) → eqb (length left) 0 ≡ starts_with x left
starts_ends [] [] h = refl
starts_ends (a ∷ x) [] h = refl
starts_ends [] (b ∷ left) h = ne_eqb _ _ (λ e. omega arith)
starts_ends (a ∷ x) (b ∷ left) (inl h) = cc
starts_ends (a ∷ x) (b ∷ left) (inr h) = absurd (omega arith)

-- ---- what begins in a piece

no_start : (v : List ℕ) → 0 < length v → false ≡ starts_with [] v
no_start [] h = absurd (omega arith)
no_start (b ∷ v) h = refl

starts_more : (a rest v : List ℕ) → starts_with a v ≡ true → starts_with (a ++ rest) v ≡ true
starts_more a rest [] h = refl
starts_more [] rest (b ∷ v) h = cc
starts_more (c ∷ a) rest (b ∷ v) h = let two = and_parts _ _ h in and_from _ _ two.0 (starts_more a rest v two.1)

pub begins_found : (a rest v : List ℕ) → 0 < length v → contains a v ≡ true → begins_in a rest v ≡ true
begins_found [] rest v some h = absurd (both_ways _ (sym (no_start v some)) h)
begins_found (c ∷ a) rest v some h = elim (or_cases _ _ h) [
  | inl e ↦ or_left _ _ (starts_more (c ∷ a) rest v e)
  | inr e ↦ or_right _ _ (begins_found a rest v some e)
]

starts_long : (a rest v : List ℕ) → length v ≤ length a → starts_with (a ++ rest) v ≡ starts_with a v
starts_long a rest [] h = refl
starts_long [] rest (b ∷ v) h = absurd (omega arith)
starts_long (c ∷ a) rest (b ∷ v) h = ap (λ t. eqb c b && t) (starts_long a rest v (omega arith))

-- where it is not found, it can begin in the last places alone
pub begins_late : (n : ℕ) (a rest v : List ℕ) → n ≡ length a - (length v - 1) → 0 < length v → contains a v ≡ false → begins_in a rest v ≡ begins_in (drop n a) rest v
begins_late zero a rest v e some h = refl
begins_late (suc n) [] rest v e some h = absurd (omega arith)
begins_late (suc n) (c ∷ a) rest v e some h =
    let two = or_parts _ _ h in
    ap (λ t. t || begins_in a rest v) (starts_long (c ∷ a) rest v (omega arith) ∙ two.0) ∙ begins_late n a rest v (omega arith) some two.1

pub begins_step : (a rest v : List ℕ) (i : ℕ) → i < length a → starts_with (drop i a ++ rest) v ≡ false → begins_in (drop i a) rest v ≡ begins_in (drop (i + 1) a) rest v
begins_step a rest v i l h =
    let e : drop i a ≡ get_or a i 0 ∷ drop (i + 1) a = drop_more a i 0 l in
    ap (λ t. begins_in t rest v) e ∙ ap (λ t. t || begins_in (drop (i + 1) a) rest v) (ap (λ t. starts_with (t ++ rest) v) (sym e) ∙ h)

pub begins_here : (a rest v : List ℕ) (i : ℕ) → i < length a → starts_with (drop i a ++ rest) v ≡ true → begins_in (drop i a) rest v ≡ true
begins_here a rest v i l h =
    let e : drop i a ≡ get_or a i 0 ∷ drop (i + 1) a = drop_more a i 0 l in
    ap (λ t. begins_in t rest v) e ∙ or_left _ _ (ap (λ t. starts_with (t ++ rest) v) (sym e) ∙ h)

-- ---- the texts from row to row

text_one : (f : ℕ → List ℕ) (b : Bool) (y : ℕ) (ys : List ℕ) → flat_map f (cond b (y ∷ ys) ys) ≡ cond b (f y) [] ++ flat_map f ys
text_one f true y ys = refl
text_one f false y ys = refl

texts_step : (doc : Document) (y to : ℕ) → y < to → texts_from doc y to ≡ text_at doc y ++ texts_from doc (y + 1) to
texts_step doc y to l =
    let long : to - y ≡ suc (to - (y + 1)) = omega arith in
    ap (λ n. flat_map (λ z. (row doc z).text) (filter (is_text doc) (range_with_len y n))) long
    ∙ text_one (λ z. (row doc z).text) (is_text doc y) y (filter (is_text doc) (range_with_len (y + 1) (to - (y + 1))))

pub bytes_step : (doc : Document) (y to : ℕ) → y < to → bytes_from doc y to ≡ encode_utf8_all (text_at doc y) ++ bytes_from doc (y + 1) to
bytes_step doc y to l = ap encode_utf8_all (texts_step doc y to l) ∙ encodes-append (text_at doc y) (texts_from doc (y + 1) to)

pub bytes_none : (doc : Document) (y to : ℕ) → to ≤ y → bytes_from doc y to ≡ []
bytes_none doc y to l =
    let none : to - y ≡ 0 = omega arith in
    ap (λ n. encode_utf8_all (flat_map (λ z. (row doc z).text) (filter (is_text doc) (range_with_len y n)))) none

filter_within : (p q : ℕ → Bool) (n low : ℕ) → ((z : ℕ) → low ≤ z → z < low + n → p z ≡ q z) → filter p (range_with_len low n) ≡ filter q (range_with_len low n)
filter_within p q zero low h = refl
filter_within p q (suc n) low h =
    ap (λ b. cond b (low ∷ filter p (range_with_len (low + 1) n)) (filter p (range_with_len (low + 1) n))) (h low (omega arith) (omega arith))
    ∙ ap (λ ys. cond (q low) (low ∷ ys) ys) (filter_within p q n (low + 1) (λ z l k. h z (omega arith) (omega arith)))

below_true : (a b : Bool) → b ≡ true → (a && b) ≡ a
below_true true b h = h
below_true false b h = refl

pub texts_are : (doc : Document) (e to : ℕ) → IsDocument doc → IsEnd doc e to → texts_from doc (e + 1) to ≡ texts_below doc e
texts_are doc e to d end =
    let after : e < to = end.after in
    ap (flat_map (λ z. (row doc z).text))
    (sym (filter_within (is_below doc e) (is_text doc) (to - (e + 1)) (e + 1) (λ z l k. below_true (is_text doc z) (below doc e z) (end.inside z (omega arith) (omega arith))))
    ∙ ap (λ ys. ys ++ filter (is_below doc e) (range_with_len (e + 1) (to - (e + 1)))) (sym (upto_none (is_below doc e) (e + 1) (λ z l. and_right _ _ (not_up doc e z (small doc d) (omega arith)))))
    ∙ sym (upto (is_below doc e) (e + 1) to (omega arith)))
    ∙ texts_all doc e to d end

-- ---- what a row adds

row_parts : (doc : Document) (y to : ℕ) (w : List ℕ) → y < to
    → contains (bytes_from doc y to) w ≡ (begins_in (encode_utf8_all (text_at doc y)) (bytes_from doc (y + 1) to) w || contains (bytes_from doc (y + 1) to) w)
row_parts doc y to w l = ap (λ t. contains t w) (bytes_step doc y to l) ∙ contains_parts (encode_utf8_all (text_at doc y)) (bytes_from doc (y + 1) to) w

pub row_passed : (doc : Document) (y to : ℕ) (w : List ℕ) → y < to → begins_in (encode_utf8_all (text_at doc y)) (bytes_from doc (y + 1) to) w ≡ false
    → contains (bytes_from doc y to) w ≡ contains (bytes_from doc (y + 1) to) w
row_passed doc y to w l h = row_parts doc y to w l ∙ ap (λ b. b || contains (bytes_from doc (y + 1) to) w) h

pub row_found : (doc : Document) (y to : ℕ) (w : List ℕ) → y < to → begins_in (encode_utf8_all (text_at doc y)) (bytes_from doc (y + 1) to) w ≡ true → contains (bytes_from doc y to) w ≡ true
row_found doc y to w l h = row_parts doc y to w l ∙ or_left _ _ h

pub at_text : (doc : Document) (y : ℕ) (bytes : List ℕ) → is_text doc y ≡ true → bytes ≡ encode_utf8_all (row doc y).text → bytes ≡ encode_utf8_all (text_at doc y)
at_text doc y bytes h e = e ∙ ap (λ b. encode_utf8_all (cond b (row doc y).text [])) (sym h)

pub at_other : (doc : Document) (y : ℕ) (rest w : List ℕ) → is_text doc y ≡ false → begins_in (encode_utf8_all (text_at doc y)) rest w ≡ false
at_other doc y rest w h = ap (λ b. begins_in (encode_utf8_all (cond b (row doc y).text [])) rest w) h

-- ---- the same of characters

pub by_chars : (bytes text w : List ℕ) → IsUtf8 w → bytes ≡ encode_utf8_all text → contains bytes w ≡ contains text (chars w)
by_chars bytes text w utf8 e =
    ap (λ t. contains t w) e ∙ ap (contains (encode_utf8_all text)) (sym (encodes-chars w utf8)) ∙ contains_bytes text (chars w)

pub below_by_chars : (doc : Document) (e to : ℕ) (w : List ℕ) → IsDocument doc → IsEnd doc e to → IsUtf8 w → contains (bytes_from doc (e + 1) to) w ≡ contains (texts_below doc e) (chars w)
below_by_chars doc e to w d end utf8 = by_chars (bytes_from doc (e + 1) to) (texts_below doc e) w utf8 (ap encode_utf8_all (texts_are doc e to d end))

pub own_text : (doc : Document) (e : ℕ) (k : Kind) → (k ≡ Attribute) ⊎ ((k ≡ Text) ⊎ (k ≡ Comment)) → string_value_of k doc e ≡ (row doc e).text
own_text doc e k (inl h) = ap (λ v. string_value_of v doc e) h
own_text doc e k (inr (inl h)) = ap (λ v. string_value_of v doc e) h
own_text doc e k (inr (inr h)) = ap (λ v. string_value_of v doc e) h

pub nothing_wanted : (x w : List ℕ) → length w ≡ 0 → contains x (chars w) ≡ true
nothing_wanted x [] h = ap (contains x) chars-nil ∙ no_part x
nothing_wanted x (b ∷ w) h = absurd (omega arith)

pub nothing_left : (doc : Document) (y to : ℕ) (w : List ℕ) → to ≤ y → 0 < length w → contains (bytes_from doc y to) w ≡ false
nothing_left doc y to w l some = ap (λ t. contains t w) (bytes_none doc y to l) ∙ sym (no_start w some)
