-- What a page within the limit builds is a document whose rows and characters are few.
use Rattle.std.proofs.Common.{◌≡◌, ℕ, ◌+◌, ◌*◌, ◌≤◌, List, [], ◌∷◌, ◌++◌, length, Bool, true, false, sym, ◌∙◌, ap, subst, arith, append-nil, IsUtf8}
use Rattle.std.specs.Prelude.{◌≢◌, codes}
use Rattle.std.specs.Str.{chars}
use Rattle.doc_model.specs.Document.{IsDocument}
use Rattle.doc_model.specs.Growing.{growing, fresh, innermost, IsGrowing}
use Rattle.doc_model.proofs.Grown.{grown_fresh, grown_element}
use Rattle.std.proofs.lemmas.Str.{IsUtf8-nil}
use Rattle.html_lexer.specs.TokenLaws.{IsTagName}
use Rattle.html_lexer.specs.Tokens.{Tok as Lexed, start_tok, end_tok, text_tok, comment_tok, doctype_tok, end_of, name_after}
use Rattle.html_lexer.specs.Lexing.{Spell}
use Rattle.html_reader.specs.Tokens.{Attr, Tag, text, comment, doctype, Tok, starts, ends, holds, Mark}
use Rattle.html_reader.specs.Contents.{kept}
use Rattle.html_reader.specs.Forest.{Forest, nothing, then_leaf, then_element, marks, close_of}
use Rattle.html_reader.specs.Rows.{grown}
use Rattle.html_reader.specs.Places.{Place, base, outside, place_marks, place_grown, all_rows}
use Rattle.html_reader.specs.Words.{tokens_of}
use Rattle.html_reader.specs.Reading.{is_fragment}
use Rattle.html_reader.specs.Pages.{Means, AllMean}
use Rattle.html_reader.specs.PageLaws.{PageDocuments}
use Rattle.html_reader.specs.inner.Kept.{AreKept}
use Rattle.html_reader.specs.inner.Keeping.{HaveTexts}
use Rattle.html_reader.proofs.CalmLemmas.{base_calm}
use Rattle.html_reader.proofs.CleanLemmas.{outside_of}
use Rattle.html_reader.proofs.DocumentLemmas.{MakesRows, IsGrown, piece_growing, flush_growing, piece_short}
use Rattle.html_reader.proofs.InkLawLemmas.{html_utf8}
use Rattle.html_reader.proofs.KeepLemmas.{written_named}
use Rattle.html_reader.proofs.KeptInkLemmas.{AreInk}
use Rattle.html_reader.proofs.KeptLemmas.{kept_are}
use Rattle.html_reader.proofs.PageInkLemmas.{IsSaneTag, Sane, sane_page, shape, later}
use Rattle.html_reader.proofs.PieceLemmas.{some_chars}
use Rattle.html_reader.proofs.SizeLemmas.{AreShort, kept_short, ShortRows, short_at, short_flushed, costs, costs_few, flushed_few, rows_few}
use Rattle.html_reader.proofs.SpellLemmas.{lies, Lies}

-- what the rows of a token need of it
abbrev TokMakes : ℕ → Tok → Type 0
TokMakes n (starts tag) = (chars tag.name ≢ []) × AreKept tag.attrs × AreShort n tag.attrs
TokMakes n (ends name) = Unit {0}
TokMakes n (holds (text s)) = IsUtf8 s
TokMakes n (holds (comment s)) = Unit {0}
TokMakes n (holds doctype) = Unit {0}

abbrev AllMake : ℕ → List Tok → Type 0
AllMake n [] = Unit {0}
AllMake n (t ∷ ts) = TokMakes n t × AllMake n ts

some_name : (name : List ℕ) → IsTagName name → name ≢ []
some_name [] h none = let no = h.first in cc
some_name (c ∷ cs) h none = cc

names_texts : (attrs : List Attr) → AreInk attrs → HaveTexts attrs
names_texts [] h = tt
names_texts (a ∷ attrs) h = (h.0.4, names_texts attrs h.2)

tag_makes : (page before name attrs : List ℕ) (i from to : ℕ) (slash : Bool) (tag : Tag) → IsSaneTag tag → Lies page i (start_tok from to name attrs slash) → Means before (start_tok from to name attrs slash) (starts tag) → TokMakes (4 * length page) (starts tag)
tag_makes page before name attrs i from to slash tag sane l m =
    let is : tag.attrs ≡ kept m.0 = ap attrs_of m.2 in
    let ink : AreInk (kept m.0) = subst AreInk is sane.2 in (
      some_chars tag.name sane.4 (some_name tag.name sane.0),
      subst AreKept (sym is) (kept_are m.0 (written_named attrs 0 m.0 m.1) (names_texts (kept m.0) ink)),
      subst (AreShort (4 * length page)) (sym is) (kept_short attrs (length page) m.0 (omega (arith, l)) m.1 ink),
    )
  where
    attrs_of : Tok → List Attr
    attrs_of (starts t) = t.attrs
    attrs_of (ends n) = []
    attrs_of (holds leaf) = []

tokens_make : (page before : List ℕ) (i : ℕ) (xs : List Lexed) (ts : List Tok) → Spell page before i xs (length page) → AllMean before xs ts → Sane ts → AllMake (4 * length page) ts
tokens_make page before i [] [] h m s = tt
tokens_make page before i [] (t ∷ ts) h m s = absurd m
tokens_make page before i (x ∷ xs) [] h m s = absurd m
tokens_make page before i (x ∷ xs) (starts tag ∷ ts) h m s =
    (by_token x (lies page before i x h.0) m.0, tokens_make page (name_after x) (end_of x) xs ts h.1 m.1 s.2)
  where
    by_token : (y : Lexed) → Lies page i y → Means before y (starts tag) → TokMakes (4 * length page) (starts tag)
    by_token (start_tok from to name attrs slash) l k = tag_makes page before name attrs i from to slash tag s.0 l k
    by_token (end_tok from to name) l k = cc
    by_token (text_tok from to raw refs) l k = cc
    by_token (comment_tok from to body) l k = cc
    by_token (doctype_tok from to) l k = cc
tokens_make page before i (x ∷ xs) (ends name ∷ ts) h m s = (tt, tokens_make page (name_after x) (end_of x) xs ts h.1 m.1 s)
tokens_make page before i (x ∷ xs) (holds (text content) ∷ ts) h m s = (s.0, tokens_make page (name_after x) (end_of x) xs ts h.1 m.1 s.1)
tokens_make page before i (x ∷ xs) (holds (comment content) ∷ ts) h m s = (tt, tokens_make page (name_after x) (end_of x) xs ts h.1 m.1 s.2)
tokens_make page before i (x ∷ xs) (holds doctype ∷ ts) h m s = (tt, tokens_make page (name_after x) (end_of x) xs ts h.1 m.1 s)

-- the tokens of a piece
make_past : (n : ℕ) (ts us : List Tok) → AllMake n (ts ++ us) → AllMake n us
make_past n [] us h = h
make_past n (t ∷ ts) us h = make_past n ts us h.1

make_close : (n : ℕ) (tag : Tag) (inserted : Bool) (w : List Mark) (ts : List Tok) → AllMake n (tokens_of (close_of tag inserted ∷ w) ++ ts) → AllMake n (tokens_of w ++ ts)
make_close n tag true w ts h = h
make_close n tag false w ts h = h.1

piece_makes : (n : ℕ) (f : Forest) (ts : List Tok) → AllMake n (tokens_of (marks f) ++ ts) → MakesRows n f
piece_makes n nothing ts h = tt
piece_makes n (then_leaf (text content) rest) ts h = (h.0, piece_makes n rest ts h.1)
piece_makes n (then_leaf (comment content) rest) ts h = piece_makes n rest ts h.1
piece_makes n (then_leaf doctype rest) ts h = piece_makes n rest ts h.1
piece_makes n (then_element tag inside inserted rest) ts h =
    let us = later [] tag inside inserted rest ts in
    let within : AllMake n (tokens_of (marks inside) ++ us) = subst (AllMake n) (shape [] tag inside inserted rest ts) h.1 in
    (h.0.0, h.0.1, h.0.2, piece_makes n inside us within, piece_makes n rest ts (make_close n tag inserted (marks rest) ts (make_past n (tokens_of (marks inside)) us within)))

-- before the first token
base_grown : (made : Bool) → IsGrown (base made).open_rows (base made).sofar
base_grown false = record { document = grown_fresh; calm = base_calm false; utf8 = IsUtf8-nil }
base_grown true = record { document = grown_element fresh (chars (codes "html")) grown_fresh (some_chars (codes "html") html_utf8 (λ none. cc)); calm = base_calm true; utf8 = IsUtf8-nil }

base_short : (n : ℕ) (made : Bool) → ShortRows n (base made).sofar.rows
base_short n false = ((λ no. cc), tt)
base_short n true = ((λ no. cc), ((λ no. cc), tt))

base_few : (made : Bool) → length (base made).sofar.rows ≤ 2
base_few false = omega arith
base_few true = omega arith

-- the law
pub page_documents : PageDocuments
page_documents page doc utf8 short b =
    let made = is_fragment b.tokens in
    let n = 4 * length page in
    let out = outside_of b.builds.place b.builds.closed in
    let f = out.0 in
    let spelled : tokens_of (marks f) ≡ b.tokens = ap (λ (p : Place). tokens_of (place_marks p)) (sym out.1) ∙ b.builds.leads.spelled in
    let rows : all_rows (place_grown made (outside f)) ≡ doc = ap (λ p. all_rows (place_grown made p)) (sym out.1) ∙ b.builds.rows_are in
    let opens = (base made).open_rows in
    let first = (base made).sofar in
    let last = grown (innermost opens) first f in
    let all : AllMake n b.tokens = tokens_make page [] 0 b.spelled.read b.tokens b.spelled.lexed b.spelled.meant (sane_page page utf8 b.tokens b.spelled) in
    let makes : MakesRows n f = piece_makes n f [] (subst (AllMake n) (sym (append-nil (tokens_of (marks f)) ∙ spelled)) all) in
    let grown_up = piece_growing n opens first f makes (base_grown made) in
    let whole : IsGrowing (growing (all_rows (place_grown made (outside f))) opens) = flush_growing opens last grown_up.document grown_up.calm grown_up.utf8 in
    let values : ShortRows n doc = subst (ShortRows n) rows (short_flushed n (innermost opens) last (piece_short n (innermost opens) first f makes (base_short n made))) in
    let few : length doc ≤ 3 + 4 * length page =
    omega (arith, ap length rows, flushed_few (innermost opens) last, rows_few (innermost opens) first f, base_few made, ap costs spelled, costs_few page [] 0 (length page) b.spelled.read b.tokens b.spelled.lexed b.spelled.meant) in (
      subst IsDocument rows whole.document,
      record {
        all_rows = omega (arith, few, short);
        values = λ r is. omega (arith, short_at n doc r values is, short);
      },
    )
