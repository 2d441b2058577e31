-- Escaped texts, character by character.
use Rattle.std.proofs.Common.{◌≡◌, ℕ, Bool, true, false, ◌&&◌, ◌||◌, cond, eqb, ne_eqb, List, [], ◌∷◌, ◌++◌, encode_utf8_all, true≢false, refl, sym, ◌∙◌, ap}
use lib.Utf8.{encode}
use Rattle.std.specs.Prelude.{codes}
use Rattle.std.specs.List.{list_any}
use Rattle.std.proofs.lemmas.List.{append-nil}
use Rattle.std.proofs.lemmas.List.Concat.{flat_map-append}
use Rattle.std.proofs.lemmas.List.Folds.{list_any-append}
use Rattle.std.proofs.lemmas.Bool.{or_parts}
use Rattle.markup_out.specs.Escapes.{text_escape, value_escape, escape, escaped, is_special, is_mark}

pub escaped_push : (back quoted : Bool) (text : List ℕ) (c : ℕ) → escaped back quoted (text ++ c ∷ []) ≡ escaped back quoted text ++ escape back quoted c
escaped_push back quoted text c = flat_map-append (escape back quoted) text (c ∷ []) ∙ ap (λ t. escaped back quoted text ++ t) (append-nil (escape back quoted c))

-- the parts of a disjunction that is false
-- an escape that none of the tests asks for
chosen : (c : ℕ) (t : Bool) (reference rest : List ℕ) → t ≡ false → rest ≡ c ∷ [] → cond t reference rest ≡ c ∷ []
chosen c t reference rest h e = ap (λ v. cond v reference rest) h ∙ e

and_none : (a b : Bool) → b ≡ false → (a && b) ≡ false
and_none true b h = h
and_none false b h = refl

either : (back quoted : Bool) (c : ℕ) → text_escape back c ≡ c ∷ [] → value_escape back c ≡ c ∷ [] → escape back quoted c ≡ c ∷ []
either back true c t v = v
either back false c t v = t

plain_escape : (back quoted : Bool) (c : ℕ) → is_special c ≡ false → escape back quoted c ≡ c ∷ []
plain_escape back quoted c h =
    let amp = or_parts (eqb c 38) _ h in
    let lt = or_parts (eqb c 60) _ amp.1 in
    let gt = or_parts (eqb c 62) _ lt.1 in
    let quote = or_parts (eqb c 34) _ gt.1 in
    let nbsp = or_parts (eqb c 160) (eqb c 13) quote.1 in
    let last = chosen c (back && eqb c 13) (codes "&#13;") (c ∷ []) (and_none back (eqb c 13) nbsp.1) refl in
    let space = chosen c (eqb c 160) (codes "&nbsp;") _ nbsp.0 last in
    either back quoted c
    (chosen c (eqb c 38) (codes "&amp;") _ amp.0 (chosen c (eqb c 60) (codes "&lt;") _ lt.0 (chosen c (eqb c 62) (codes "&gt;") _ gt.0 space)))
    (chosen c (eqb c 38) (codes "&amp;") _ amp.0 (chosen c (eqb c 34) (codes "&quot;") _ quote.0 space))

-- a text without special characters stays as it is
pub plain_escaped : (back quoted : Bool) (text : List ℕ) → list_any is_special text ≡ false → escaped back quoted text ≡ text
plain_escaped back quoted [] h = refl
plain_escaped back quoted (c ∷ text) h =
    let two = or_parts (is_special c) _ h in
    ap (λ t. t ++ escaped back quoted text) (plain_escape back quoted c two.0) ∙ ap (λ t. c ∷ t) (plain_escaped back quoted text two.1)

-- ---- special characters, by their bytes

other_than : (c k : ℕ) → list_any is_mark (encode k) ≡ true → list_any is_mark (encode c) ≡ false → eqb c k ≡ false
other_than c k with_mark without = ne_eqb c k (λ e. true≢false (sym with_mark ∙ ap (λ n. list_any is_mark (encode n)) (sym e) ∙ without))

not_special : (c : ℕ) → list_any is_mark (encode c) ≡ false → is_special c ≡ false
unfolding encode
not_special c h =
    ap (λ v. v || (eqb c 60 || (eqb c 62 || (eqb c 34 || (eqb c 160 || eqb c 13))))) (other_than c 38 refl h)
    ∙ ap (λ v. v || (eqb c 62 || (eqb c 34 || (eqb c 160 || eqb c 13)))) (other_than c 60 refl h)
    ∙ ap (λ v. v || (eqb c 34 || (eqb c 160 || eqb c 13))) (other_than c 62 refl h)
    ∙ ap (λ v. v || (eqb c 160 || eqb c 13)) (other_than c 34 refl h)
    ∙ ap (λ v. v || eqb c 13) (other_than c 160 refl h)
    ∙ other_than c 13 refl h

-- where no byte begins one, no character is one
pub none_special : (text : List ℕ) → list_any is_mark (encode_utf8_all text) ≡ false → list_any is_special text ≡ false
none_special [] h = refl
none_special (c ∷ text) h =
    let two = or_parts (list_any is_mark (encode c)) (list_any is_mark (encode_utf8_all text)) (sym (list_any-append is_mark (encode c) (encode_utf8_all text)) ∙ h) in
    ap (λ b. b || list_any is_special text) (not_special c two.0) ∙ none_special text two.1
