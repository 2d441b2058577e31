-- Attributes that a page keeps are kept again as they are written.
use Rattle.std.proofs.Common.{◌≡◌, ℕ, zero, suc, ◌<◌, Bool, true, false, cond, List, [], ◌∷◌, ◌++◌, map, length, get_or, sym, refl, ◌∙◌, ap, subst, arith, IsUtf8, encode_utf8_all, append-nil, eqb, eq-eqb}
use Rattle.std.specs.Prelude.{encode_utf8, codes, All, flat_map, ◌==◌, not}
use Rattle.std.specs.List.{AllPass}
use Rattle.std.specs.Str.{bytes_eq, chars, str_to_ascii_lowercase}
use Rattle.std.proofs.lemmas.Str.{inside_one}
use Rattle.std.proofs.lemmas.Bool.Decides.{nat_tests}
use Rattle.std.proofs.lemmas.Bool.{both_ways}
use Rattle.text_base.specs.Text.{is_not_byte}
use Rattle.text_base.proofs.Text.{encode-chars}
use Rattle.char_refs.specs.References.{decoded}
use Rattle.char_refs.specs.Escapes.{escape}
use Rattle.char_refs.proofs.EscapedLemmas.{escaped_back}
use Rattle.char_refs.proofs.DecodedLemmas.{decoded_utf8}
use Rattle.html_lexer.specs.Kinds.{is_attr_byte}
use Rattle.html_lexer.specs.TokenLaws.{IsQuotable}
use Rattle.html_lexer.proofs.AttrCutLemmas.{ArePairs}
use Rattle.html_reader.specs.Tokens.{Attr}
use Rattle.html_reader.specs.Contents.{kept, without}
use Rattle.html_reader.proofs.InkParts.{ink_text, ink_pair}
use Rattle.html_reader.proofs.LowerLemmas.{lower_twice, lower_length, attr_lower, lower_utf8}

-- an attribute that can be written, and different ones
abbrev pub IsInkAttr : Attr → Type 0
IsInkAttr a = (0 < length a.name) × AllPass is_attr_byte a.name × (str_to_ascii_lowercase a.name ≡ a.name) × IsUtf8 a.value × IsUtf8 a.name

abbrev pub AreInk : List Attr → Type 0
AreInk [] = Unit {0}
AreInk (a ∷ attrs) = IsInkAttr a × (without a.name attrs ≡ attrs) × AreInk attrs

module _ (name : List ℕ) where
  -- one attribute more
  without_yes : (a : Attr) (attrs : List Attr) → bytes_eq a.name name ≡ true → without name (a ∷ attrs) ≡ without name attrs
  without_yes a attrs h = ap (λ b. cond b (without name attrs) (a ∷ without name attrs)) h

  without_no : (a : Attr) (attrs : List Attr) → bytes_eq a.name name ≡ false → without name (a ∷ attrs) ≡ a ∷ without name attrs
  without_no a attrs h = ap (λ b. cond b (without name attrs) (a ∷ without name attrs)) h

  without_twice : (attrs : List Attr) → without name (without name attrs) ≡ without name attrs
  without_twice [] = refl
  without_twice (a ∷ attrs) = by_first (bytes_eq a.name name) refl (without_twice attrs)
    where
      by_first : (b : Bool) → bytes_eq a.name name ≡ b → without name (without name attrs) ≡ without name attrs → without name (without name (a ∷ attrs)) ≡ without name (a ∷ attrs)
      by_first true is later = ap (without name) (without_yes a attrs is) ∙ later ∙ sym (without_yes a attrs is)
      by_first false is later = ap (without name) (without_no a attrs is) ∙ without_no a (without name attrs) is ∙ ap (λ x. a ∷ x) later ∙ sym (without_no a attrs is)

without_swap : (m n : List ℕ) (attrs : List Attr) → without m (without n attrs) ≡ without n (without m attrs)
without_swap m n [] = refl
without_swap m n (a ∷ attrs) = by_both (bytes_eq a.name m) refl (bytes_eq a.name n) refl (without_swap m n attrs)
  where
    by_both : (b : Bool) → bytes_eq a.name m ≡ b → (c : Bool) → bytes_eq a.name n ≡ c → without m (without n attrs) ≡ without n (without m attrs) → without m (without n (a ∷ attrs)) ≡ without n (without m (a ∷ attrs))
    by_both true x true y later = ap (without m) (without_yes n a attrs y) ∙ later ∙ sym (ap (without n) (without_yes m a attrs x))
    by_both true x false y later = ap (without m) (without_no n a attrs y) ∙ without_yes m a (without n attrs) x ∙ later ∙ sym (ap (without n) (without_yes m a attrs x))
    by_both false x true y later = ap (without m) (without_yes n a attrs y) ∙ later ∙ sym (ap (without n) (without_no m a attrs x) ∙ without_yes n a (without m attrs) y)
    by_both false x false y later = ap (without m) (without_no n a attrs y) ∙ without_no m a (without n attrs) x ∙ ap (λ z. a ∷ z) later ∙ sym (ap (without n) (without_no m a attrs x) ∙ without_no n a (without m attrs) y)

without_ink : (name : List ℕ) (attrs : List Attr) → AreInk attrs → AreInk (without name attrs)
without_ink name [] h = tt
without_ink name (a ∷ attrs) h = by_first (bytes_eq a.name name) refl (without_ink name attrs h.2)
  where
    by_first : (b : Bool) → bytes_eq a.name name ≡ b → AreInk (without name attrs) → AreInk (without name (a ∷ attrs))
    by_first true is later = subst AreInk (sym (without_yes name a attrs is)) later
    by_first false is later = subst AreInk (sym (without_no name a attrs is)) (h.0, without_swap a.name name attrs ∙ ap (without name) h.1, later)

-- the attributes that are kept of those of a page
pub kept_ink : (ps : List (List ℕ × List ℕ)) → ArePairs ps → AreInk (kept ps)
kept_ink [] h = tt
kept_ink (p ∷ ps) h =
    let name = str_to_ascii_lowercase p.0 in
    ((omega (arith, h.0.0, lower_length p.0), attr_lower p.0 h.0.1, lower_twice p.0, decoded_utf8 p.1 h.0.3, lower_utf8 p.0 h.0.2), without_twice name (kept ps), without_ink name (kept ps) (kept_ink ps h.1))

-- and again
value_back : (s : List ℕ) → IsUtf8 s → decoded (ink_text true s) ≡ s
value_back s u = escaped_back true (chars s) ∙ encode-chars s u

pub kept_again : (attrs : List Attr) → AreInk attrs → kept (map ink_pair attrs) ≡ attrs
kept_again [] h = refl
kept_again (a ∷ attrs) h =
    let first : (let x : Attr = record { name = str_to_ascii_lowercase a.name; value = decoded (ink_text true a.value) } in x) ≡ a = λ j. record { name = h.0.2 j; value = value_back a.value h.0.3 j } in
    let rest : without (str_to_ascii_lowercase a.name) (kept (map ink_pair attrs)) ≡ attrs = (λ j. without (h.0.2 j) (kept_again attrs h.2 j)) ∙ h.1 in
    λ j. first j ∷ rest j

-- no quote stands in a value that is written
abbrev NoQuote : List ℕ → Type 0
NoQuote s = (k : ℕ) → k < length s → get_or s k 0 ≡ 34 → ⊥

quote_append : (a b : List ℕ) → NoQuote a → NoQuote b → NoQuote (a ++ b)
quote_append [] b h k n l e = k n l e
quote_append (c ∷ a) b h k zero l e = h 0 (omega arith) e
quote_append (c ∷ a) b h k (suc n) l e = quote_append a b (λ m x. h (suc m) (omega arith)) k n (omega arith) e

quote_one : (c : ℕ) → (c ≡ 34 → ⊥) → NoQuote (encode_utf8 c)
quote_one c h k l e = h (inside_one c [] (encode_utf8 c) k (sym (append-nil (encode_utf8 c))) l (omega (arith, e)) ∙ e)

abbrev AllChars : List ℕ → Type 0
AllChars [] = Unit {0}
AllChars (c ∷ cs) = (c ≡ 34 → ⊥) × AllChars cs

chars_quote : (cs : List ℕ) → AllChars cs → NoQuote (encode_utf8_all cs)
chars_quote [] h = λ k l e. omega arith
chars_quote (c ∷ cs) h = quote_append (encode_utf8 c) (encode_utf8_all cs) (quote_one c h.0) (chars_quote cs h.1)

all_chars_append : (a b : List ℕ) → AllChars a → AllChars b → AllChars (a ++ b)
all_chars_append [] b h k = k
all_chars_append (c ∷ a) b h k = (h.0, all_chars_append a b h.1 k)

choose : {A : Type 0} (P : A → Type 0) (b : Bool) (x y : A) → (b ≡ true → P x) → (b ≡ false → P y) → P (cond b x y)
choose P true x y h k = h refl
choose P false x y h k = k refl

escape_quote : (c : ℕ) → AllChars (escape true true c)
escape_quote c =
    choose AllChars (eqb c 38) (codes "&amp;") _ (λ e. (n 38 refl, (n 97 refl, (n 109 refl, (n 112 refl, (n 59 refl, tt))))))
    (λ amp. choose AllChars (eqb c 34) (codes "&quot;") _ (λ e. (n 38 refl, (n 113 refl, (n 117 refl, (n 111 refl, (n 116 refl, (n 59 refl, tt)))))))
    (λ quot. choose AllChars (eqb c 160) (codes "&nbsp;") _ (λ e. (n 38 refl, (n 110 refl, (n 98 refl, (n 115 refl, (n 112 refl, (n 59 refl, tt)))))))
    (λ nbsp. choose AllChars (eqb c 13) (codes "&#13;") _ (λ e. (n 38 refl, (n 35 refl, (n 49 refl, (n 51 refl, (n 59 refl, tt)))))) (λ cr. ((λ e. both_ways _ quot (eq-eqb c 34 e)), tt)))))
  where
    n : (k : ℕ) → eqb k 34 ≡ false → k ≡ 34 → ⊥
    n k h e = both_ways _ h (eq-eqb k 34 e)

escaped_quote : (cs : List ℕ) → AllChars (flat_map (escape true true) cs)
escaped_quote [] = tt
escaped_quote (c ∷ cs) = all_chars_append (escape true true c) (flat_map (escape true true) cs) (escape_quote c) (escaped_quote cs)

no_quote : (s : List ℕ) → NoQuote s → AllPass (is_not_byte 34) s
no_quote [] h k d l = absurd (omega arith)
no_quote (c ∷ s) h zero d l = other c (h 0 (omega arith))
  where
    other : (c : ℕ) → (c ≡ 34 → ⊥) → is_not_byte 34 c ≡ true
    other c h = by_test (c == 34) refl
      where
        by_test : (b : Bool) → (c == 34) ≡ b → not b ≡ true
        by_test true is = absurd (h (let e : c ≡ 34 = grind (arith, nat_tests) in e))
        by_test false is = refl
no_quote (c ∷ s) h (suc k) d l = no_quote s (λ m q. h (suc m) (omega arith)) k d (omega arith)

quotable : (a : Attr) → IsInkAttr a → IsQuotable (ink_pair a)
quotable a h = record { some = h.0; name = h.1; value = no_quote (ink_text true a.value) (chars_quote (flat_map (escape true true) (chars a.value)) (escaped_quote (chars a.value))) }

pub all_quotable : (attrs : List Attr) → AreInk attrs → All IsQuotable (map ink_pair attrs)
all_quotable [] h k d l = absurd (omega arith)
all_quotable (a ∷ attrs) h zero d l = quotable a h.0
all_quotable (a ∷ attrs) h (suc k) d l = all_quotable attrs h.2 k d (omega arith)
