-- What is known of the tree of a page as it is written out: its texts are UTF-8, it is no fragment, and what is written spells its
-- tokens.
use Rattle.std.proofs.Common.{◌≡◌, ℕ, ◌+◌, inl, Bool, true, false, List, [], ◌∷◌, ◌++◌, length, sym, refl, ◌∙◌, subst, arith, append-nil, IsUtf8}
use Rattle.std.specs.Prelude.{codes}
use Rattle.std.proofs.lemmas.Str.{IsUtf8-nil, IsUtf8-append}
use Rattle.html_reader.specs.Tokens.{Attr, text, comment, doctype, Tok}
use Rattle.html_reader.specs.Forest.{Forest, nothing, then_leaf, then_element, marks}
use Rattle.html_reader.specs.Tables.{is_void}
use Rattle.html_reader.specs.Words.{tokens_of}
use Rattle.html_reader.specs.Reading.{is_fragment}
use Rattle.html_reader.specs.Pages.{Spells}
use Rattle.html_reader.proofs.KeptInkLemmas.{AreInk}
use Rattle.html_reader.proofs.InkLemmas.{IsInk, ink, ink_spelled, literal_none, raw_none}
use Rattle.html_reader.proofs.InkParts.{Spelled, spelled_none}
use Rattle.html_reader.proofs.CleanLemmas.{plain_tag, text_leaf, clean, outer, whole_tree}
use Rattle.html_reader.proofs.PageInkLemmas.{Sane, sane_past, sane_close, sane_page, shape, later}

-- all names, values, texts and comments are UTF-8
abbrev pub AttrsUtf8 : List Attr → Type 0
AttrsUtf8 [] = Unit {0}
AttrsUtf8 (a ∷ attrs) = IsUtf8 a.name × IsUtf8 a.value × AttrsUtf8 attrs

abbrev pub IsTextual : Forest → Type 0
IsTextual nothing = Unit {0}
IsTextual (then_leaf (text s) rest) = IsUtf8 s × IsTextual rest
IsTextual (then_leaf (comment s) rest) = IsUtf8 s × IsTextual rest
IsTextual (then_leaf doctype rest) = IsTextual rest
IsTextual (then_element tag inside inserted rest) = IsUtf8 tag.name × AttrsUtf8 tag.attrs × IsTextual inside × IsTextual rest

attrs_utf8 : (attrs : List Attr) → AreInk attrs → AttrsUtf8 attrs
attrs_utf8 [] h = tt
attrs_utf8 (a ∷ attrs) h = (h.0.4, h.0.3, attrs_utf8 attrs h.2)

text_textual : (waits : List ℕ) (g : Forest) → IsUtf8 waits → IsTextual g → IsTextual (text_leaf waits g)
text_textual [] g u h = h
text_textual (c ∷ cs) g u h = (u, h)

pub clean_textual : (waits : List ℕ) (f : Forest) (ts : List Tok) → IsUtf8 waits → Sane (tokens_of (marks f) ++ ts) → IsTextual (clean waits f)
clean_textual waits nothing ts u h = text_textual waits nothing u tt
clean_textual waits (then_leaf (text content) rest) ts u h = clean_textual (waits ++ content) rest ts (IsUtf8-append waits content u h.0) h.1
clean_textual waits (then_leaf (comment content) rest) ts u h = text_textual waits (then_leaf (comment content) (clean [] rest)) u (h.1, clean_textual [] rest ts IsUtf8-nil h.2)
clean_textual waits (then_leaf doctype rest) ts u h = clean_textual waits rest ts u h
clean_textual waits (then_element tag inside inserted rest) ts u h =
    let us = later [] tag inside inserted rest ts in
    let sane_in : Sane (tokens_of (marks inside) ++ us) = subst Sane (shape [] tag inside inserted rest ts) h.2 in
    text_textual waits (then_element (plain_tag tag) (clean [] inside) (is_void tag.name) (clean [] rest)) u
    (h.0.4, attrs_utf8 tag.attrs h.0.2, clean_textual [] inside us IsUtf8-nil sane_in, clean_textual [] rest ts IsUtf8-nil (sane_close tag inserted (marks rest) ts (sane_past (tokens_of (marks inside)) us sane_in)))

pub outer_textual : (f : Forest) (ts : List Tok) → Sane (tokens_of (marks f) ++ ts) → IsTextual (outer f)
outer_textual nothing ts h = tt
outer_textual (then_leaf (text content) rest) ts h = outer_textual rest ts h.1
outer_textual (then_leaf (comment content) rest) ts h = (h.1, outer_textual rest ts h.2)
outer_textual (then_leaf doctype rest) ts h = outer_textual rest ts h
outer_textual (then_element tag inside inserted rest) ts h =
    let us = later [] tag inside inserted rest ts in
    let sane_in : Sane (tokens_of (marks inside) ++ us) = subst Sane (shape [] tag inside inserted rest ts) h.2 in
    (h.0.4, attrs_utf8 tag.attrs h.0.2, clean_textual [] inside us IsUtf8-nil sane_in, outer_textual rest ts (sane_close tag inserted (marks rest) ts (sane_past (tokens_of (marks inside)) us sane_in)))

pub html_utf8 : IsUtf8 (codes "html")
unfolding lib.Utf8.encode
html_utf8 = (codes "html", (refl, refl))

pub page_textual : (page : List ℕ) (tokens : List Tok) (made : Bool) (f : Forest) → IsUtf8 page → Spells page (length page) tokens → tokens_of (marks f) ≡ tokens → IsTextual (whole_tree made f)
page_textual page tokens made f utf8 spelled is =
    let good : Sane (tokens_of (marks f) ++ []) = subst Sane (sym (append-nil (tokens_of (marks f)) ∙ is)) (sane_page page utf8 tokens spelled) in
    by_made made (outer_textual f [] good) (clean_textual [] f [] IsUtf8-nil good)
  where
    by_made : (b : Bool) → IsTextual (outer f) → IsTextual (clean [] f) → IsTextual (whole_tree b f)
    by_made true x y = (html_utf8, tt, y, tt)
    by_made false x y = x

-- what is written is no fragment
outer_fragment : (f : Forest) → is_fragment (tokens_of (marks (outer f))) ≡ is_fragment (tokens_of (marks f))
outer_fragment nothing = refl
outer_fragment (then_leaf (text content) rest) = outer_fragment rest
outer_fragment (then_leaf (comment content) rest) = outer_fragment rest
outer_fragment (then_leaf doctype rest) = outer_fragment rest
outer_fragment (then_element tag inside inserted rest) = refl

pub whole_fragment : (made : Bool) (f : Forest) → is_fragment (tokens_of (marks f)) ≡ made → is_fragment (tokens_of (marks (whole_tree made f))) ≡ false
whole_fragment true f h = refl
whole_fragment false f h = outer_fragment f ∙ h

-- what is written spells the tokens of its tree
pub ink_spells : (g : Forest) → IsInk g → Spells (ink [] g) (length (ink [] g)) (tokens_of (marks g))
ink_spells g h =
    let page = ink [] g in
    let all : Spelled page [] 0 (length page) (tokens_of (marks g) ++ []) =
    ink_spelled g [] [] page 0 (length page) [] [] literal_none raw_none refl h (inl refl) (sym (append-nil page)) (λ q raw. spelled_none page q (0 + length page) (length page) (omega arith)) in
    let same = subst (λ ts. Spelled page [] 0 (length page) ts) (append-nil (tokens_of (marks g))) all in
    record { read = same.read; lexed = same.spelled; meant = same.meant }
