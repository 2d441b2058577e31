-- String values, as far as a walk has come.
use Rattle.std.proofs.Common.{◌≡◌, ℕ, ◌+◌, ◌<◌, List, [], ◌∷◌, ◌++◌, length, Bool, true, false, ◌&&◌, cond, refl, sym, ◌∙◌, ap, subst, arith, encode_utf8_all}
use Rattle.std.specs.Prelude.{filter, flat_map}
use Rattle.std.specs.List.{range_with_len}
use Rattle.std.specs.Str.{bytes_eq, chars, IsUtf8}
use Rattle.std.proofs.lemmas.Bool.{and_right}
use Rattle.std.proofs.lemmas.List.{append-nil}
use Rattle.std.proofs.lemmas.List.Concat.{flat_map-append}
use Rattle.std.proofs.lemmas.Slice.Eq.{bytes_eq-Decides}
use Rattle.std.proofs.lemmas.Str.{chars-append, IsUtf8-append}
use Rattle.text_base.proofs.Text.{encode-chars}
use Rattle.doc_model.specs.Document.{Document, row, is_text, below, IsDocument}
use Rattle.doc_model.specs.Ends.{IsEnd}
use Rattle.doc_model.specs.StringValue.{texts_below}
use Rattle.doc_model.proofs.Below.{small, not_up, past_end}
use Rattle.doc_model.proofs.Filters.{upto_more, upto_none, upto_all}

by_both : (p q : Bool) → (p ≡ true → q ≡ true) → (q ≡ true → p ≡ true) → p ≡ q
by_both true q f g = sym (f refl)
by_both false true f g = g refl
by_both false false f g = refl

-- two texts are the same bytes where they are the same characters
pub same_chars : (a b : List ℕ) → IsUtf8 a → IsUtf8 b → bytes_eq a b ≡ bytes_eq (chars a) (chars b)
same_chars a b u v = by_both (bytes_eq a b) (bytes_eq (chars a) (chars b))
    (λ h. (bytes_eq-Decides (chars a) (chars b)).1 (ap chars ((bytes_eq-Decides a b).0 h)))
    (λ h. (bytes_eq-Decides a b).1 (sym (encode-chars a u) ∙ ap encode_utf8_all ((bytes_eq-Decides (chars a) (chars b)).0 h) ∙ encode-chars b v))

-- whether the text of the row belongs to it
abbrev pub is_below : Document → ℕ → ℕ → Bool
is_below doc i y = is_text doc y && below doc i y

-- the texts of the rows below i that stand before y, joined
abbrev pub texts_before : Document → ℕ → ℕ → List ℕ
texts_before doc i y = flat_map (λ z. (row doc z).text) (filter (is_below doc i) (range_with_len 0 y))

pub texts_start : (doc : Document) (i : ℕ) → IsDocument doc → texts_before doc i (i + 1) ≡ []
texts_start doc i d = ap (flat_map (λ z. (row doc z).text)) (upto_none (is_below doc i) (i + 1) (λ z l. and_right _ _ (not_up doc i z (small doc d) (omega (arith, l)))))

one : (doc : Document) (y : ℕ) (b : Bool) → flat_map (λ z. (row doc z).text) (cond b (y ∷ []) []) ≡ cond b (row doc y).text []
one doc y true = append-nil _
one doc y false = refl

and_true : (a b : Bool) → b ≡ true → (a && b) ≡ a
and_true true b h = h
and_true false b h = refl

pub texts_more : (doc : Document) (i e y : ℕ) → IsEnd doc i e → i < y → y < e → texts_before doc i (y + 1) ≡ texts_before doc i y ++ cond (is_text doc y) (row doc y).text []
texts_more doc i e y end h l =
    ap (flat_map (λ z. (row doc z).text)) (upto_more (is_below doc i) y (y + 1) (omega arith) (λ z k m. absurd (omega (arith, k, m))))
    ∙ flat_map-append (λ z. (row doc z).text) (filter (is_below doc i) (range_with_len 0 y)) (cond (is_below doc i y) (y ∷ []) [])
    ∙ ap (λ v. texts_before doc i y ++ v) (one doc y (is_below doc i y) ∙ ap (λ b. cond b (row doc y).text []) (and_true (is_text doc y) (below doc i y) (end.inside y h l)))

pub texts_all : (doc : Document) (i e : ℕ) → IsDocument doc → IsEnd doc i e → texts_before doc i e ≡ texts_below doc i
texts_all doc i e d end = ap (flat_map (λ z. (row doc z).text)) (upto_all (is_below doc i) e (length doc) end.within (λ z l k. and_right _ _ (past_end doc i e z d end l k)))

pub utf8_bytes : (bs cs : List ℕ) → IsUtf8 bs → chars bs ≡ cs → bs ≡ encode_utf8_all cs
utf8_bytes bs cs u e = sym (encode-chars bs u) ∙ ap encode_utf8_all e

pub utf8_none : (bs : List ℕ) → bs ≡ [] → IsUtf8 bs
utf8_none bs e = subst IsUtf8 (sym e) ([], (refl, refl))

pub pushed_chars : (old new text content : List ℕ) → IsUtf8 old → new ≡ old ++ text → chars text ≡ content → chars new ≡ chars old ++ content
pushed_chars old new text content u e t = ap chars e ∙ chars-append old text u ∙ ap (λ v. chars old ++ v) t

pub pushed_utf8 : (old new text : List ℕ) → IsUtf8 old → IsUtf8 text → new ≡ old ++ text → IsUtf8 new
pushed_utf8 old new text u v e = subst IsUtf8 (sym e) (IsUtf8-append old text u v)
