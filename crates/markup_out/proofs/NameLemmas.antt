-- ASCII texts and names are the same as bytes and as characters.
use Rattle.std.proofs.Common.{◌≡◌, ℕ, ◌<◌, arith, get_or, Bool, true, ◌||◌, ltb, List, [], ◌∷◌, ◌++◌, refl, sym, ◌∙◌, ap, encode_utf8_all}
use Rattle.std.specs.Prelude.{All}
use Rattle.std.specs.List.{list_all}
use Rattle.std.specs.Str.{chars, bytes_eq, IsAscii, IsUtf8}
use Rattle.std.proofs.lemmas.Bool.{and_parts}
use Rattle.std.proofs.lemmas.Bool.Decides.{same_from_decides, Decides-like, Decides-ltb, Decides-eqb, Decides-by_and}
use Rattle.std.proofs.lemmas.Slice.Eq.{bytes_eq-Decides}
use Rattle.std.proofs.lemmas.Str.{chars-IsAscii, encodes-IsAscii, encodes-chars, inside_one, encode_ascii, length-encode, len_utf8_bounds}
use Rattle.std.proofs.lemmas.Str.Ascii.{IsAscii-from_all}
use Rattle.text_base.specs.Strings.{is_among}
use Rattle.markup_out.specs.Markup.{begins_newline}
use Rattle.markup_out.specs.Names.{void_names, literal_names, newline_names, is_void, is_raw, takes_newline}

abbrev pub is_ascii : List ℕ → Bool
is_ascii name = list_all (λ c. ltb c 128) name

all_small : (name : List ℕ) → is_ascii name ≡ true → All (λ c. c < 128) name
all_small name h = (Decides-by_and (λ c. ltb c 128) (λ c. c < 128) is_ascii (λ c. Decides-ltb c 128) refl (λ _ _. refl) name).0 h

pub ascii_bytes : (text : List ℕ) → is_ascii text ≡ true → encode_utf8_all text ≡ text
ascii_bytes text h = encodes-IsAscii text (IsAscii-from_all text (all_small text h))

name_same : (name bytes : List ℕ) → IsAscii name → IsUtf8 bytes → bytes_eq name bytes ≡ bytes_eq name (chars bytes)
name_same name bytes a u =
    same_from_decides _ _ (bytes_eq-Decides name bytes)
    (Decides-like (bytes_eq name (chars bytes))
    (λ e. sym (encodes-IsAscii name a) ∙ ap encode_utf8_all e ∙ encodes-chars bytes u)
    (λ e. sym (chars-IsAscii name a) ∙ ap chars e)
    (bytes_eq-Decides name (chars bytes)))

one_of_same : (names : List (List ℕ)) (bytes : List ℕ) → list_all is_ascii names ≡ true → IsUtf8 bytes → is_among bytes names ≡ is_among (chars bytes) names
one_of_same [] bytes h u = refl
one_of_same (name ∷ names) bytes h u =
    let two = and_parts _ _ h in
    ap (λ b. b || is_among bytes names) (name_same name bytes (IsAscii-from_all name (all_small name two.0)) u)
    ∙ ap (λ b. bytes_eq name (chars bytes) || b) (one_of_same names bytes two.1 u)

pub void_same : (bytes : List ℕ) → IsUtf8 bytes → is_void bytes ≡ is_void (chars bytes)
unfolding void_names
void_same bytes u = one_of_same void_names bytes refl u

pub raw_same : (bytes : List ℕ) → IsUtf8 bytes → is_raw bytes ≡ is_raw (chars bytes)
unfolding literal_names
raw_same bytes u = one_of_same literal_names bytes refl u

pub newline_same : (bytes : List ℕ) → IsUtf8 bytes → takes_newline bytes ≡ takes_newline (chars bytes)
unfolding newline_names
newline_same bytes u = one_of_same newline_names bytes refl u

pub begins_encoded : (cs : List ℕ) → begins_newline (encode_utf8_all cs) ≡ begins_newline cs
begins_encoded [] = refl
begins_encoded (c ∷ cs) = same_from_decides _ _ (Decides-like (begins_newline (encode_utf8_all (c ∷ cs))) first last (Decides-eqb (get_or (encode_utf8_all (c ∷ cs)) 0 0) 10)) (Decides-eqb c 10)
  where
    bytes : List ℕ
    bytes = encode_utf8_all (c ∷ cs)

    first : get_or bytes 0 0 ≡ 10 → c ≡ 10
    first e = inside_one c (encode_utf8_all cs) bytes 0 refl (omega (arith, length-encode c, len_utf8_bounds c)) (omega (arith, e)) ∙ e

    last : c ≡ 10 → get_or bytes 0 0 ≡ 10
    last e = ap (λ bs. get_or (bs ++ encode_utf8_all cs) 0 0) (encode_ascii c (omega (arith, e))) ∙ e

-- a text begins with LF as bytes where it does as characters
pub begins_same : (bytes : List ℕ) → IsUtf8 bytes → begins_newline bytes ≡ begins_newline (chars bytes)
begins_same bytes u = ap begins_newline (sym (encodes-chars bytes u)) ∙ begins_encoded (chars bytes)
