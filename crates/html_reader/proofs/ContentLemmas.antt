-- Names and texts that are taken as they are written.
use Rattle.std.proofs.Common.{◌≡◌, ◌≤◌, arith, inl, inr, ℕ, List, [], ◌∷◌, ◌++◌, true, false, refl, ◌∙◌, ap, map, eqb, None}
use Rattle.std.specs.Prelude.{not}
use Rattle.std.specs.List.{list_all, list_any}
use Rattle.std.specs.Char.{is_ascii_uppercase, to_ascii_lowercase}
use Rattle.std.proofs.lemmas.Bool.{cases_lt, both_ways, or_parts, and_parts, not-true}
use Rattle.std.proofs.lemmas.Bool.Decides.{nat_tests}
use Rattle.std.proofs.lemmas.Str.Ascii.{lowercase_is}
use Rattle.char_refs.specs.References.{decoded, reference_of, first_piece, more_bytes, decoded_past}
use Rattle.html_reader.specs.Contents.{meant}

lower_one : (c : ℕ) → is_ascii_uppercase c ≡ false → to_ascii_lowercase c ≡ c
lower_one c h =
    elim (cases_lt c 65) [
      | inl low ↦ (lowercase_is c).1 low
      | inr past ↦ elim (cases_lt 90 c) [ inl high ↦ (lowercase_is c).2 high | inr within ↦ absurd (both_ways _ h (upper c past within)) ]
    ]
  where
    upper : (c : ℕ) → 65 ≤ c → c ≤ 90 → is_ascii_uppercase c ≡ true
    upper c low high = grind (arith, nat_tests)

pub lower_same : (name : List ℕ) → list_any is_ascii_uppercase name ≡ false → map to_ascii_lowercase name ≡ name
lower_same [] h = refl
lower_same (c ∷ cs) h =
    let parts = or_parts (is_ascii_uppercase c) (list_any is_ascii_uppercase cs) h in
    λ i. lower_one c parts.0 i ∷ lower_same cs parts.1 i

no_reference : (b : ℕ) (bs : List ℕ) → eqb b 38 ≡ false → reference_of (b ∷ bs) ≡ None
no_reference b bs h = rw h refl

plain_decoded : (raw : List ℕ) → list_all (λ c. not (eqb c 38)) raw ≡ true → decoded raw ≡ raw
plain_decoded [] h = refl
plain_decoded (b ∷ bs) h =
    let parts = and_parts (not (eqb b 38)) (list_all (λ c. not (eqb c 38)) bs) h in
    ap (λ r. first_piece r b ++ decoded_past bs (more_bytes r)) (no_reference b bs (not-true _ parts.0))
    ∙ ap (λ cs. b ∷ cs) (plain_decoded bs parts.1)

pub plain_meant : (raw : List ℕ) → list_all (λ c. not (eqb c 38)) raw ≡ true → meant raw true ≡ raw
plain_meant raw h = plain_decoded raw h
