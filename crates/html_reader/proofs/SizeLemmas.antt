-- How many rows the tokens of a page make, and how many characters the values of its attributes have.
use Rattle.std.proofs.Common.{◌≡◌, ℕ, zero, suc, ◌+◌, ◌*◌, ◌-◌, ◌≤◌, Bool, true, false, cond, List, [], ◌∷◌, ◌++◌, map, length, drop, ap, arith, length-append, length-take, length-drop, Option, Some, None, IsUtf8}
use Rattle.std.specs.Str.{bytes_eq, chars, str_to_ascii_lowercase}
use Rattle.std.specs.Prelude.{IsTrue}
use Rattle.std.proofs.lemmas.List.{length-map}
use Rattle.std.proofs.lemmas.Str.{length-encode, len_utf8_bounds, length-le-encodes}
use Rattle.text_base.proofs.Text.{encode-chars}
use Rattle.char_refs.specs.References.{reference_of, first_piece, more_bytes, decoded_past}
use Rattle.doc_model.specs.Document.{Row, is_attribute, is_attribute_kind, row}
use Rattle.html_lexer.specs.Attributes.{Writes}
use Rattle.html_lexer.specs.Tokens.{Tok as Lexed, end_of, name_after}
use Rattle.html_lexer.specs.Lexing.{Spell}
use Rattle.html_reader.specs.Tokens.{Attr, Tag, text, comment, doctype, Tok, Mark}
use Rattle.html_reader.specs.Contents.{kept, without}
use Rattle.html_reader.specs.Forest.{Forest, nothing, then_leaf, then_element, marks, close_of}
use Rattle.html_reader.specs.Rows.{Sofar, sofar, flushed, entered, with_leaf, grown, text_rows, tag_rows, row_of_attribute, row_of_comment}
use Rattle.html_reader.specs.Words.{tokens_of}
use Rattle.html_reader.specs.Pages.{AllMean}
use Rattle.html_reader.specs.inner.States.{most_rows}
use Rattle.html_reader.proofs.CalmLemmas.{text_few}
use Rattle.html_reader.proofs.KeptInkLemmas.{AreInk}
use Rattle.html_reader.proofs.LoopLemmas.{few_rows}
use Rattle.html_reader.proofs.PageLemmas.{tokens_of-append}
use Rattle.html_reader.proofs.SpellLemmas.{lies}

-- a text with its references decoded has four bytes at most for each of its own
piece_few : (o : Option (ℕ × ℕ)) (b : ℕ) → length (first_piece o b) ≤ 4
piece_few None b = omega arith
piece_few (Some r) b = omega (arith, length-encode r.0, len_utf8_bounds r.0)

past_few : (s : List ℕ) (n : ℕ) → length (decoded_past s n) ≤ 4 * length s
past_few [] n = omega arith
past_few (b ∷ bs) (suc n) = omega (arith, past_few bs n)
past_few (b ∷ bs) zero =
    let o = reference_of (b ∷ bs) in
    omega (arith, piece_few o b, past_few bs (more_bytes o), length-append (first_piece o b) (decoded_past bs (more_bytes o)))

-- values of so many bytes at most, as they are written and as they are kept
abbrev FewWritten : ℕ → List (List ℕ × List ℕ) → Type 0
FewWritten n [] = Unit {0}
FewWritten n (p ∷ ps) = (length p.1 ≤ n) × FewWritten n ps

abbrev FewKept : ℕ → List Attr → Type 0
FewKept n [] = Unit {0}
FewKept n (a ∷ attrs) = (length a.value ≤ n) × FewKept n attrs

written_values : (raw : List ℕ) (at n : ℕ) (ps : List (List ℕ × List ℕ)) → length raw ≤ n → Writes raw at ps → FewWritten n ps
written_values raw at n [] l h = tt
written_values raw at n (p ∷ ps) l h =
    let a = h.0 in (
      omega (arith, l, ap (λ (q : List ℕ × List ℕ). length q.1) h.2, length-take (a.value_to - a.value) (drop a.value raw), length-drop a.value raw),
      written_values raw a.to n ps l h.3,
    )

few_without : (n : ℕ) (name : List ℕ) (attrs : List Attr) → FewKept n attrs → FewKept n (without name attrs)
few_without n name [] h = tt
few_without n name (a ∷ attrs) h = by_test (bytes_eq a.name name) (few_without n name attrs h.1)
  where
    by_test : (b : Bool) → FewKept n (without name attrs) → FewKept n (cond b (without name attrs) (a ∷ without name attrs))
    by_test true k = k
    by_test false k = (h.0, k)

kept_values : (n : ℕ) (ps : List (List ℕ × List ℕ)) → FewWritten n ps → FewKept (4 * n) (kept ps)
kept_values n [] h = tt
kept_values n (p ∷ ps) h = (omega (arith, past_few p.1 0, h.0), few_without (4 * n) (str_to_ascii_lowercase p.0) (kept ps) (kept_values n ps h.1))

-- values of n characters at most
abbrev pub AreShort : ℕ → List Attr → Type 0
AreShort n [] = Unit {0}
AreShort n (a ∷ attrs) = (length (chars a.value) ≤ n) × AreShort n attrs

few_chars : (s : List ℕ) → IsUtf8 s → length (chars s) ≤ length s
few_chars s u = omega (arith, length-le-encodes (chars s), ap length (encode-chars s u))

short_values : (n : ℕ) (attrs : List Attr) → FewKept n attrs → AreInk attrs → AreShort n attrs
short_values n [] h k = tt
short_values n (a ∷ attrs) h k = (omega (arith, h.0, few_chars a.value k.0.3), short_values n attrs h.1 k.2)

pub kept_short : (raw : List ℕ) (n : ℕ) (ps : List (List ℕ × List ℕ)) → length raw ≤ n → Writes raw 0 ps → AreInk (kept ps) → AreShort (4 * n) (kept ps)
kept_short raw n ps l w ink = short_values (4 * n) (kept ps) (kept_values n ps (written_values raw 0 n ps l w)) ink

-- rows whose values have n characters at most
abbrev pub ShortRows : ℕ → List Row → Type 0
ShortRows n [] = Unit {0}
ShortRows n (r ∷ rows) = (IsTrue (is_attribute_kind r.kind) → length r.text ≤ n) × ShortRows n rows

pub short_at : (n : ℕ) (rows : List Row) (k : ℕ) → ShortRows n rows → IsTrue (is_attribute rows k) → length (row rows k).text ≤ n
short_at n [] k h a = cc
short_at n (r ∷ rows) zero h a = h.0 a
short_at n (r ∷ rows) (suc k) h a = short_at n rows k h.1 a

pub short-append : (n : ℕ) (xs ys : List Row) → ShortRows n xs → ShortRows n ys → ShortRows n (xs ++ ys)
short-append n [] ys h k = k
short-append n (x ∷ xs) ys h k = (h.0, short-append n xs ys h.1 k)

pub short_flushed : (n p : ℕ) (s : Sofar) → ShortRows n s.rows → ShortRows n (flushed p s)
short_flushed n p s h = short-append n s.rows (text_rows p s.waits) h (short_text p s.waits)
  where
    short_text : (p : ℕ) (waits : List ℕ) → ShortRows n (text_rows p waits)
    short_text zero waits = tt
    short_text (suc p) [] = tt
    short_text (suc p) (c ∷ cs) = ((λ h. cc), tt)

pub short_attrs : (n p : ℕ) (attrs : List Attr) → AreShort n attrs → ShortRows n (map (row_of_attribute p) attrs)
short_attrs n p [] h = tt
short_attrs n p (a ∷ attrs) h = ((λ k. h.0), short_attrs n p attrs h.1)

-- the rows that tokens may make, with the text that waits
abbrev pub costs : List Tok → ℕ
costs [] = 0
costs (t ∷ ts) = most_rows t + 1 + costs ts

costs-append : (ts us : List Tok) → costs (ts ++ us) ≡ costs ts + costs us
costs-append [] us = omega arith
costs-append (t ∷ ts) us = omega (arith, costs-append ts us)

pub costs_few : (page before : List ℕ) (i j : ℕ) (xs : List Lexed) (ts : List Tok) → Spell page before i xs j → AllMean before xs ts → costs ts + 4 * i ≤ 4 * j
costs_few page before i j [] [] h m = omega (arith, h)
costs_few page before i j [] (t ∷ ts) h m = absurd m
costs_few page before i j (x ∷ xs) [] h m = absurd m
costs_few page before i j (x ∷ xs) (t ∷ ts) h m =
    omega (arith, few_rows page before i x t (lies page before i x h.0) m.0, costs_few page (name_after x) (end_of x) j xs ts h.1 m.1)

costs_close : (tag : Tag) (inserted : Bool) (w : List Mark) → costs (tokens_of w) ≤ costs (tokens_of (close_of tag inserted ∷ w))
costs_close tag true w = omega arith
costs_close tag false w = omega arith

costs_inside : (tag : Tag) (inside : Forest) (inserted : Bool) (rest : Forest) → costs (tokens_of (marks inside)) + costs (tokens_of (marks rest)) ≤ costs (tokens_of (marks inside ++ (close_of tag inserted ∷ marks rest)))
costs_inside tag inside inserted rest =
    let ts = tokens_of (close_of tag inserted ∷ marks rest) in
    omega (arith, ap costs (tokens_of-append (marks inside) (close_of tag inserted ∷ marks rest)), costs-append (tokens_of (marks inside)) ts, costs_close tag inserted (marks rest))

pub flushed_few : (p : ℕ) (s : Sofar) → length (flushed p s) ≤ length s.rows + 1
flushed_few p s = omega (arith, length-append s.rows (text_rows p s.waits), text_few p s.waits)

pub rows_few : (p : ℕ) (s : Sofar) (f : Forest) → length (grown p s f).rows ≤ length s.rows + costs (tokens_of (marks f))
rows_few p s nothing = omega arith
rows_few p s (then_leaf (text content) rest) = omega (arith, rows_few p (with_leaf p s (text content)) rest)
rows_few p s (then_leaf (comment content) rest) =
    omega (arith, rows_few p (with_leaf p s (comment content)) rest, flushed_few p s, length-append (flushed p s) (row_of_comment p content ∷ []))
rows_few p s (then_leaf doctype rest) = omega (arith, rows_few p s rest)
rows_few p s (then_element tag inside inserted rest) =
    let n = length (flushed p s) in
    let t = grown n (entered p s tag) inside in
    omega (arith, flushed_few p s, length-append (flushed p s) (tag_rows p n tag), length-map tag.attrs (row_of_attribute n), rows_few n (entered p s tag) inside, flushed_few n t, rows_few p (sofar (flushed n t) []) rest, costs_inside tag inside inserted rest)
