-- Sets of texts, by bytes and by characters.
use Rattle.std.proofs.Common.{◌≡◌, refl, sym, ◌∙◌, ap, ℕ, Bool, true, false, ◌||◌, ◌&&◌, not, cond, List, encode_utf8_all}
use Rattle.std.specs.Ordering.{is_eq, nat_cmp}
use Rattle.std.specs.declared.cmp.Ordering.{Ordering}
use Rattle.std.specs.Cmp.Lexicographic.{slice_cmp}
use Rattle.std.specs.BTreeSet.{BTreeSet, contains_by, UpdatesBy}
use Rattle.std.specs.Str.{chars, bytes_eq, IsUtf8}
use Rattle.std.proofs.lemmas.Map.Text.{is_eq-slice_cmp}
use Rattle.std.proofs.lemmas.Slice.Eq.{bytes_eq-Decides}
use Rattle.std.proofs.lemmas.Str.{encodes-chars, encodes_same}
use Rattle.std.specs.Cmp.{both_ways}
use Rattle.xpath_functions.specs.inner.Sets.{has_text}
use denote.Ref.{Bor}

-- a text's bytes and the bytes of characters
pub bytes_chars : (t q : List ℕ) → IsUtf8 t → bytes_eq t (encode_utf8_all q) ≡ bytes_eq (chars t) q
bytes_chars t q u = both_ways _ _
    (λ h. (bytes_eq-Decides (chars t) q).1 (encodes_same (chars t) q (encodes-chars t u ∙ (bytes_eq-Decides t (encode_utf8_all q)).0 h)))
    (λ h. (bytes_eq-Decides t (encode_utf8_all q)).1 (sym (encodes-chars t u) ∙ ap encode_utf8_all ((bytes_eq-Decides (chars t) q).0 h)))

-- the text itself
pub has_bytes : (s : BTreeSet (Bor (List ℕ))) (t : List ℕ) → IsUtf8 t → contains_by (λ k. slice_cmp nat_cmp t k.now) s ≡ has_text s (chars t)
has_bytes s t u = ap (λ b. contains_by (λ k. slice_cmp nat_cmp b k.now) s) (sym (encodes-chars t u))

or_by : (a b : Bool) → cond a true b ≡ (a || b)
or_by true b = refl
or_by false b = refl

and_by : (a b : Bool) → cond a false b ≡ (not a && b)
and_by true b = refl
and_by false b = refl

abbrev pub compare_keys : Bor (List ℕ) → Bor (List ℕ) → Ordering
compare_keys x y = slice_cmp nat_cmp x.now y.now

at_text : (t q : List ℕ) → IsUtf8 t → is_eq (slice_cmp nat_cmp t (encode_utf8_all q)) ≡ bytes_eq (chars t) q
at_text t q u = is_eq-slice_cmp t (encode_utf8_all q) ∙ bytes_chars t q u

pub added : (t : List ℕ) (s n : BTreeSet (Bor (List ℕ))) → IsUtf8 t → UpdatesBy compare_keys (λ k. slice_cmp nat_cmp t k.now) s n true
    → (q : List ℕ) → has_text n q ≡ (bytes_eq (chars t) q || has_text s q)
added t s n u h q =
    let k : Bor (List ℕ) = record { ref_ptr = (0, 0); now = encode_utf8_all q } in
    h.0 k ∙ ap (λ b. cond b true (has_text s q)) (at_text t q u) ∙ or_by (bytes_eq (chars t) q) (has_text s q)

pub taken_out : (t : List ℕ) (s n : BTreeSet (Bor (List ℕ))) → IsUtf8 t → UpdatesBy compare_keys (λ k. slice_cmp nat_cmp t k.now) s n false
    → (q : List ℕ) → has_text n q ≡ (not (bytes_eq (chars t) q) && has_text s q)
taken_out t s n u h q =
    let k : Bor (List ℕ) = record { ref_ptr = (0, 0); now = encode_utf8_all q } in
    h.0 k ∙ ap (λ b. cond b false (has_text s q)) (at_text t q u) ∙ and_by (bytes_eq (chars t) q) (has_text s q)
