-- The parts of a tree as they are written out, and that each of them reads as the token it is.
use Rattle.std.proofs.Common.{◌≡◌, ℕ, zero, suc, ◌+◌, ◌<◌, List, [], ◌∷◌, ◌++◌, map, length, drop, get_or, Bool, true, false, ◌&&◌, cond, sym, refl, ◌∙◌, ap, subst, arith, append_assoc, append-nil, length-append, inl, inr, ◌⊎◌, encode_utf8_all, eqb, eq-eqb}
use Rattle.std.proofs.lemmas.Str.{inside_one}
use Rattle.std.specs.Prelude.{encode_utf8, not, codes, All, flat_map, ◌==◌}
use Rattle.std.specs.Str.{chars, IsUtf8, str_to_ascii_lowercase}
use Rattle.std.specs.List.{AllPass}
use Rattle.std.proofs.lemmas.Bool.Decides.{nat_tests}
use Rattle.std.proofs.lemmas.Bool.{both_ways}
use Rattle.text_base.specs.Text.{is_letter}
use Rattle.text_base.proofs.Text.{encode-chars}
use Rattle.char_refs.specs.References.{decoded}
use Rattle.char_refs.specs.Escapes.{escape}
use Rattle.char_refs.proofs.EscapedLemmas.{escaped_back, kept as kept_bytes}
use Rattle.html_lexer.specs.Names.{is_raw, is_escapable, closes}
use Rattle.html_lexer.specs.Steps.{raw_end}
use Rattle.html_lexer.specs.Tokens.{Tok as Lexed, start_tok, end_tok, text_tok, comment_tok, end_of, name_after}
use Rattle.html_lexer.specs.TokenLaws.{IsTagName, IsQuotable, written, written_tag, Holds, BeginsWith}
use Rattle.html_lexer.specs.Lexing.{Begins, Spell}
use Rattle.html_lexer.proofs.WrittenLemmas.{tag_begins, written_attributes}
use Rattle.html_lexer.proofs.BackLemmas.{plain_end, end_back, comment_back, IsNext, text_back, raw_back, NoEnd, raw_first, closes_itself}
use Rattle.html_reader.specs.Tokens.{Attr, Tag, text, comment, Tok, starts, ends, holds}
use Rattle.html_reader.specs.Contents.{kept, takes_newline, without_newline, meant, content}
use Rattle.html_reader.specs.Pages.{Means, AllMean}

-- a text, or a value in quotes, as it is written
abbrev pub ink_text : Bool → List ℕ → List ℕ
ink_text quoted s = encode_utf8_all (flat_map (escape true quoted) (chars s))

abbrev pub ink_pair : Attr → List ℕ × List ℕ
ink_pair a = (a.name, ink_text true a.value)

abbrev pub ink_tag : Tag → List ℕ
ink_tag tag = written_tag tag.name (map ink_pair tag.attrs)

abbrev pub end_ink : List ℕ → List ℕ
end_ink name = codes "</" ++ (name ++ codes ">")

-- one more LF before a text that begins with one, where a first LF is taken
abbrev pub newline : Bool → List ℕ → List ℕ
newline takes [] = []
newline takes (c ∷ cs) = cond (takes && (c == 10)) (10 ∷ []) []

-- elements whose text is written as it is
abbrev pub is_literal : List ℕ → Bool
is_literal name = is_raw name && not (is_escapable name)

-- the text of a tree, directly after a start tag of this name or, where the name is [], after another token
abbrev pub ink_content : List ℕ → List ℕ → List ℕ
ink_content before s = cond (is_literal before) s (newline (takes_newline before) s ++ ink_text false s)

text_decodes : (quoted : Bool) (s : List ℕ) → IsUtf8 s → decoded (ink_text quoted s) ≡ s
text_decodes quoted s u = escaped_back quoted (chars s) ∙ encode-chars s u

-- the lexer's tokens of what is written, and that the tree takes them as the marks
pub record Spelled (page : List ℕ) (before : List ℕ) (i j : ℕ) (ts : List Tok) : Type 0 where
  pub read : List Lexed
  pub spelled : Spell page before i read j
  pub meant : AllMean before read ts

pub spelled_none : (page before : List ℕ) (i j : ℕ) → i ≡ j → Spelled page before i j []
spelled_none page before i j e = record { read = []; spelled = e; meant = tt }

pub spelled_more : (page before : List ℕ) (i j : ℕ) (x : Lexed) (t : Tok) (ts : List Tok) → Begins page before i x → Means before x t → Spelled page (name_after x) (end_of x) j ts → Spelled page before i j (t ∷ ts)
spelled_more page before i j x t ts b m h = record { read = x ∷ h.read; spelled = (b, h.spelled); meant = (m, h.meant) }

-- a start tag
abbrev pub IsInkTag : Tag → Type 0
IsInkTag tag = IsTagName tag.name × (str_to_ascii_lowercase tag.name ≡ tag.name) × All IsQuotable (map ink_pair tag.attrs) × (kept (map ink_pair tag.attrs) ≡ tag.attrs) × (tag.slash ≡ false)

pub tag_spelled : (page before : List ℕ) (tag : Tag) (i j : ℕ) (y : List ℕ) (ts : List Tok) → is_raw before ≡ false → IsInkTag tag → drop i page ≡ ink_tag tag ++ y → Spelled page tag.name (i + length (ink_tag tag)) j ts → Spelled page before i j (starts tag ∷ ts)
tag_spelled page before tag i j y ts not_raw ok front rest =
    let ps = map ink_pair tag.attrs in
    let n = i + 1 + length tag.name in
    let m = n + length (written ps) in
    let front' : drop i page ≡ codes "<" ++ (tag.name ++ (written ps ++ 62 ∷ y)) = front ∙ ap (λ q. 60 ∷ q) (append_assoc tag.name (written ps ++ codes ">") y ∙ ap (λ q. tag.name ++ q) (append_assoc (written ps) (codes ">") y)) in
    let b : Begins page before i (start_tok i (m + 1) tag.name (written ps) false) = tag_begins page tag.name ps i n m y ok.0 ok.2 front' refl refl before not_raw in
    let same : m + 1 ≡ i + length (ink_tag tag) = omega (arith, length-append (codes "<") (tag.name ++ (written ps ++ codes ">")), length-append tag.name (written ps ++ codes ">"), length-append (written ps) (codes ">")) in
    spelled_more page before i j (start_tok i (m + 1) tag.name (written ps) false) (starts tag) ts b
    (ps, written_attributes ps ok.2, λ k. starts (record { name = sym ok.1 k; attrs = sym ok.3 k; slash = ok.4 k }))
    (subst (λ z. Spelled page tag.name z j ts) (sym same) rest)

-- an end tag
pub end_spelled : (page before name : List ℕ) (i j : ℕ) (y : List ℕ) (ts : List Tok) → raw_end page before i ≡ i → IsTagName name → str_to_ascii_lowercase name ≡ name → drop i page ≡ end_ink name ++ y → Spelled page [] (i + length (end_ink name)) j ts → Spelled page before i j (ends name ∷ ts)
end_spelled page before name i j y ts over ok low front rest =
    let front' : drop i page ≡ codes "</" ++ (name ++ 62 ∷ y) = front ∙ ap (λ q. 60 ∷ (47 ∷ q)) (append_assoc name (codes ">") y) in
    let b : Begins page before i (end_tok i (i + 2 + length name + 1) name) = end_back page name y i front' ok.first ok.bytes before over in
    let same : i + 2 + length name + 1 ≡ i + length (end_ink name) = omega (arith, length-append (codes "</") (name ++ codes ">"), length-append name (codes ">")) in
    spelled_more page before i j (end_tok i (i + 2 + length name + 1) name) (ends name) ts b (ap ends (sym low)) (subst (λ z. Spelled page [] z j ts) (sym same) rest)

-- a comment
abbrev pub IsInkComment : List ℕ → Type 0
IsInkComment s = (Holds s (codes "-->") → ⊥) × (Holds s (codes "--!>") → ⊥) × (BeginsWith s (codes ">") → ⊥) × (BeginsWith s (codes "->") → ⊥)

pub comment_spelled : (page before s : List ℕ) (i j : ℕ) (y : List ℕ) (ts : List Tok) → is_raw before ≡ false → IsInkComment s → drop i page ≡ codes "<!--" ++ (s ++ (codes "-->" ++ y)) → Spelled page [] (i + 4 + length s + 3) j ts → Spelled page before i j (holds (comment s) ∷ ts)
comment_spelled page before s i j y ts not_raw ok front rest =
    spelled_more page before i j (comment_tok i (i + 4 + length s + 3) s) (holds (comment s)) ts (comment_back page s y i front ok.0 ok.1 ok.2 ok.3 before (plain_end page before i not_raw)) refl rest

-- no `<` stands in a text that is written
abbrev pub NoLess : List ℕ → Type 0
NoLess s = (k : ℕ) → k < length s → get_or s k 0 ≡ 60 → ⊥

less_append : (a b : List ℕ) → NoLess a → NoLess b → NoLess (a ++ b)
less_append [] b h k n l e = k n l e
less_append (c ∷ a) b h k zero l e = h 0 (omega arith) e
less_append (c ∷ a) b h k (suc n) l e = less_append a b (λ m x. h (suc m) (omega arith)) k n (omega arith) e

less_one : (c : ℕ) → (c ≡ 60 → ⊥) → NoLess (encode_utf8 c)
less_one c h k l e = h (inside_one c [] (encode_utf8 c) k (sym (append-nil (encode_utf8 c))) l (omega (arith, e)) ∙ e)

-- each character of an escape
abbrev AllChars : List ℕ → Type 0
AllChars [] = Unit {0}
AllChars (c ∷ cs) = (c ≡ 60 → ⊥) × AllChars cs

chars_less : (cs : List ℕ) → AllChars cs → NoLess (encode_utf8_all cs)
chars_less [] h = λ k l e. omega arith
chars_less (c ∷ cs) h = less_append (encode_utf8 c) (encode_utf8_all cs) (less_one c h.0) (chars_less cs h.1)

all_chars_append : (a b : List ℕ) → AllChars a → AllChars b → AllChars (a ++ b)
all_chars_append [] b h k = k
all_chars_append (c ∷ a) b h k = (h.0, all_chars_append a b h.1 k)

choose : {A : Type 0} (P : A → Type 0) (b : Bool) (x y : A) → (b ≡ true → P x) → (b ≡ false → P y) → P (cond b x y)
choose P true x y h k = h refl
choose P false x y h k = k refl

escape_less : (c : ℕ) → AllChars (escape true false c)
escape_less c =
    choose AllChars (eqb c 38) (codes "&amp;") _ (λ e. (n 38 refl, (n 97 refl, (n 109 refl, (n 112 refl, (n 59 refl, tt))))))
    (λ amp. choose AllChars (eqb c 60) (codes "&lt;") _ (λ e. (n 38 refl, (n 108 refl, (n 116 refl, (n 59 refl, tt)))))
    (λ lt. choose AllChars (eqb c 62) (codes "&gt;") _ (λ e. (n 38 refl, (n 103 refl, (n 116 refl, (n 59 refl, tt)))))
    (λ gt. choose AllChars (eqb c 160) (codes "&nbsp;") _ (λ e. (n 38 refl, (n 110 refl, (n 98 refl, (n 115 refl, (n 112 refl, (n 59 refl, tt)))))))
    (λ nbsp. choose AllChars (eqb c 13) (codes "&#13;") _ (λ e. (n 38 refl, (n 35 refl, (n 49 refl, (n 51 refl, (n 59 refl, tt)))))) (λ cr. ((λ e. both_ways _ lt (eq-eqb c 60 e)), tt))))))
  where
    n : (k : ℕ) → eqb k 60 ≡ false → k ≡ 60 → ⊥
    n k h e = both_ways _ h (eq-eqb k 60 e)

escaped_less : (cs : List ℕ) → AllChars (flat_map (escape true false) cs)
escaped_less [] = tt
escaped_less (c ∷ cs) = all_chars_append (escape true false c) (flat_map (escape true false) cs) (escape_less c) (escaped_less cs)

ink_less : (s : List ℕ) → NoLess (ink_text false s)
ink_less s = chars_less (flat_map (escape true false) (chars s)) (escaped_less (chars s))

-- the content of a text that is written
abbrev lf : List ℕ
lf = 10 ∷ []

ten : (k : ℕ) → k < length lf → get_or lf k 0 ≡ 38 → ⊥
ten zero l e = omega (arith, e)
ten (suc k) l e = omega (arith, l)

the_same : (b : Bool) → b ≡ b
the_same b = refl

newline_ok : (takes : Bool) (c : ℕ) (cs : List ℕ) → IsUtf8 (c ∷ cs) → cond takes (without_newline (decoded (newline takes (c ∷ cs) ++ ink_text false (c ∷ cs)))) (decoded (newline takes (c ∷ cs) ++ ink_text false (c ∷ cs))) ≡ c ∷ cs
newline_ok false c cs u = text_decodes false (c ∷ cs) u
newline_ok true c cs u = by_lf (c == 10) (the_same (c == 10))
  where
    by_lf : (b : Bool) → (c == 10) ≡ b → without_newline (decoded (cond b (10 ∷ []) [] ++ ink_text false (c ∷ cs))) ≡ c ∷ cs
    by_lf true is = ap without_newline (kept_bytes (10 ∷ []) (ink_text false (c ∷ cs)) ten) ∙ text_decodes false (c ∷ cs) u
    by_lf false is = ap without_newline (text_decodes false (c ∷ cs) u) ∙ ap (λ b. cond b cs (c ∷ cs)) is

some_ink : (c : ℕ) (cs : List ℕ) → IsUtf8 (c ∷ cs) → (d : ℕ) (r : List ℕ) → ((d : ℕ) × (r : List ℕ) × (ink_text false (c ∷ cs) ≡ d ∷ r))
some_ink c cs u d r = by_list (ink_text false (c ∷ cs)) refl
  where
    by_list : (x : List ℕ) → ink_text false (c ∷ cs) ≡ x → (d : ℕ) × (r : List ℕ) × (ink_text false (c ∷ cs) ≡ d ∷ r)
    by_list [] e = absurd (let none : [] ≡ c ∷ cs = ap decoded (sym e) ∙ text_decodes false (c ∷ cs) u in cc)
    by_list (d ∷ r) e = (d, r, e)

newline_less : (takes : Bool) (s : List ℕ) → NoLess (newline takes s)
newline_less takes [] = λ k l e. omega (arith, l)
newline_less takes (c ∷ cs) = choose NoLess (takes && (c == 10)) lf [] (λ e. ten_less) (λ e k l f. omega (arith, l))
  where
    ten_less : NoLess lf
    ten_less zero l e = omega (arith, e)
    ten_less (suc k) l e = omega (arith, l)

-- a text outside raw text
pub text_spelled : (page before : List ℕ) (c : ℕ) (cs : List ℕ) (i j : ℕ) (y : List ℕ) (ts : List Tok) → is_raw before ≡ false → IsUtf8 (c ∷ cs) → drop i page ≡ (newline (takes_newline before) (c ∷ cs) ++ ink_text false (c ∷ cs)) ++ y → IsNext y
    → Spelled page [] (i + length (newline (takes_newline before) (c ∷ cs) ++ ink_text false (c ∷ cs))) j ts → Spelled page before i j (holds (text (c ∷ cs)) ∷ ts)
text_spelled page before c cs i j y ts not_raw u front next rest = by_list whole refl
  where
    whole : List ℕ
    whole = newline (takes_newline before) (c ∷ cs) ++ ink_text false (c ∷ cs)

    no_less : NoLess whole
    no_less = less_append (newline (takes_newline before) (c ∷ cs)) (ink_text false (c ∷ cs)) (newline_less (takes_newline before) (c ∷ cs)) (ink_less (c ∷ cs))

    none : whole ≡ [] → ⊥
    none e = let nothing : 0 ≡ length (ink_text false (c ∷ cs)) + length (newline (takes_newline before) (c ∷ cs)) = omega (arith, ap length e, length-append (newline (takes_newline before) (c ∷ cs)) (ink_text false (c ∷ cs))) in
        let some = some_ink c cs u 0 [] in omega (arith, nothing, ap length some.2)

    by_list : (w : List ℕ) → whole ≡ w → Spelled page before i j (holds (text (c ∷ cs)) ∷ ts)
    by_list [] e = absurd (none e)
    by_list (d ∷ r) e =
        let b = text_back page d r y i (front ∙ ap (λ z. z ++ y) e) (subst NoLess e no_less) next before (plain_end page before i not_raw) in
        spelled_more page before i j (text_tok i (i + length (d ∷ r)) (d ∷ r) true) (holds (text (c ∷ cs))) ts b
        (ap (λ z. holds (text z)) (sym (ap (λ z. content before z true) (sym e) ∙ newline_ok (takes_newline before) c cs u)))
        (subst (λ z. Spelled page [] (i + length z) j ts) e rest)

-- raw text, before the end tag of its element
no_less_end : (name s : List ℕ) → NoLess s → NoEnd name s
no_less_end name [] h = tt
no_less_end name (c ∷ s) h = (by_first (c == 60) (the_same (c == 60)), no_less_end name s (λ k l e. h (suc k) (omega arith) e))
  where
    by_first : (b : Bool) → (c == 60) ≡ b → closes name (c ∷ s) ≡ false
    by_first true is = absurd (h 0 (omega arith) (eqb_true c 60 is))
      where
        eqb_true : (a b : ℕ) → (a == b) ≡ true → a ≡ b
        eqb_true a b h = grind (arith, nat_tests)
    by_first false is = four (c == 60) _ _ _ is
      where
        four : (a b d e : Bool) → a ≡ false → (a && b && d && e) ≡ false
        four true b d e h = cc
        four false b d e h = refl

abbrev pub IsRawText : List ℕ → List ℕ → Type 0
IsRawText name s = (is_escapable name ≡ true) ⊎ ((is_escapable name ≡ false) × NoEnd name s × (takes_newline name ≡ false))

-- the bytes of a raw text, that none of them begins its end tag, and what they mean
raw_bytes : (name : List ℕ) (c : ℕ) (cs : List ℕ) → is_raw name ≡ true → IsUtf8 (c ∷ cs) → IsRawText name (c ∷ cs) → NoEnd name (ink_content name (c ∷ cs)) × (content name (ink_content name (c ∷ cs)) (is_escapable name) ≡ c ∷ cs)
raw_bytes name c cs raw u (inl esc) =
    let lit : is_literal name ≡ false = (λ k. raw k && not (esc k)) in
    let same : ink_content name (c ∷ cs) ≡ newline (takes_newline name) (c ∷ cs) ++ ink_text false (c ∷ cs) = ap (λ b. cond b (c ∷ cs) (newline (takes_newline name) (c ∷ cs) ++ ink_text false (c ∷ cs))) lit in (
      subst (NoEnd name) (sym same) (no_less_end name (newline (takes_newline name) (c ∷ cs) ++ ink_text false (c ∷ cs)) (less_append (newline (takes_newline name) (c ∷ cs)) (ink_text false (c ∷ cs)) (newline_less (takes_newline name) (c ∷ cs)) (ink_less (c ∷ cs)))),
      (λ k. content name (same k) (esc k)) ∙ newline_ok (takes_newline name) c cs u,
    )
raw_bytes name c cs raw u (inr lit) =
    let same : ink_content name (c ∷ cs) ≡ c ∷ cs = ap (λ b. cond b (c ∷ cs) (newline (takes_newline name) (c ∷ cs) ++ ink_text false (c ∷ cs))) (λ k. raw k && not (lit.0 k)) in
    (subst (NoEnd name) (sym same) lit.1, (λ k. cond (lit.2 k) (without_newline (meant (same k) (lit.0 k))) (meant (same k) (lit.0 k))))

pub raw_spelled : (page name : List ℕ) (c : ℕ) (cs : List ℕ) (i j : ℕ) (y : List ℕ) (ts : List Tok) → is_raw name ≡ true → AllPass is_letter name → IsUtf8 (c ∷ cs) → IsRawText name (c ∷ cs) → drop i page ≡ ink_content name (c ∷ cs) ++ (end_ink name ++ y)
    → Spelled page [] (i + length (ink_content name (c ∷ cs))) j ts → Spelled page name i j (holds (text (c ∷ cs)) ∷ ts)
raw_spelled page name c cs i j y ts raw letters u ok front rest = by_list (ink_content name (c ∷ cs)) refl
  where
    by_list : (w : List ℕ) → ink_content name (c ∷ cs) ≡ w → Spelled page name i j (holds (text (c ∷ cs)) ∷ ts)
    by_list [] e = absurd (nothing_there (is_escapable name) (is_literal name) e)
      where
        nothing_there : (a b : Bool) → ink_content name (c ∷ cs) ≡ [] → ⊥
        nothing_there a b e = let no : [] ≡ c ∷ cs = empty_content (takes_newline name) (is_escapable name) ∙ ap (λ z. content name z (is_escapable name)) (sym e) ∙ (raw_bytes name c cs raw u ok).1 in cc
          where
            empty_content : (t r : Bool) → [] ≡ cond t (without_newline (meant [] r)) (meant [] r)
            empty_content true true = refl
            empty_content true false = refl
            empty_content false true = refl
            empty_content false false = refl
    by_list (d ∷ r) e =
        let facts = raw_bytes name c cs raw u ok in
        let y' = end_ink name ++ y in
        let at : y' ≡ codes "</" ++ (name ++ 62 ∷ y) = ap (λ q. 60 ∷ (47 ∷ q)) (append_assoc name (codes ">") y) in
        let b = raw_back page d r (codes "</" ++ (name ++ 62 ∷ y)) i name (front ∙ (λ k. e k ++ at k)) raw (raw_first name (d ∷ r) y letters (subst (NoEnd name) e facts.0) (closes_itself name y)) in
        spelled_more page name i j (text_tok i (i + length (d ∷ r)) (d ∷ r) (is_escapable name)) (holds (text (c ∷ cs))) ts b
        (ap (λ z. holds (text z)) (sym (ap (λ z. content name z (is_escapable name)) (sym e) ∙ facts.1)))
        (subst (λ z. Spelled page [] (i + length z) j ts) e rest)
