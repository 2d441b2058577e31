-- Texts as their characters, after pushing.
use Rattle.std.proofs.Common.{◌≡◌, sym, ◌∙◌, ap, ℕ, List, [], ◌∷◌, ◌++◌, length, encode_utf8, encode_utf8_all, arith}
use Rattle.std.specs.Str.{chars, IsUtf8}
use Rattle.std.proofs.lemmas.List.{append-nil}
use Rattle.std.proofs.lemmas.Str.{chars-append, encodes-chars, encodes_same, cons_from_encodes, length-le-encodes}
use Rattle.xpath_functions.proofs.Lists.{no_items}
use Rattle.xpath_functions.proofs.Places.{split_chars}

-- bytes behind others
pub pushed : (old new more : List ℕ) → IsUtf8 old → new ≡ old ++ more → chars new ≡ chars old ++ chars more
pushed old new more u e = ap chars e ∙ chars-append old more u

one_char : (x : List ℕ) (c : ℕ) → encode_utf8_all x ≡ encode_utf8 c → x ≡ c ∷ []
one_char x c e =
    let first = cons_from_encodes x [] c (e ∙ sym (append-nil (encode_utf8 c))) in
    let none : length (encode_utf8_all first.0) ≡ 0 = ap (λ (v : List ℕ). length v) first.2 in
    first.1 ∙ ap (λ r. c ∷ r) (no_items first.0 (omega (arith, length-le-encodes first.0)))

-- a character behind others
pub pushed_char : (old new : List ℕ) (c : ℕ) → IsUtf8 old → IsUtf8 new → new ≡ old ++ encode_utf8 c → chars new ≡ chars old ++ c ∷ []
pushed_char old new c u w e =
    let found = split_chars (chars old) (chars new) (encode_utf8 c) (encodes-chars new w ∙ e ∙ ap (λ v. v ++ encode_utf8 c) (sym (encodes-chars old u))) in
    found.1.0 ∙ ap (λ r. chars old ++ r) (one_char found.0 c found.1.1)

-- a text whose bytes are those of characters
pub encoded : (bs cs : List ℕ) → IsUtf8 bs → bs ≡ encode_utf8_all cs → chars bs ≡ cs
encoded bs cs u e = encodes_same (chars bs) cs (encodes-chars bs u ∙ e)
