-- The tree of a page, as it is written out, can be written: part of the law that a page's document can be written back.
use Rattle.std.proofs.Common.{◌≡◌, ℕ, ◌+◌, ◌-◌, ◌<◌, ◌⊎◌, inl, inr, Bool, true, false, cond, ◌&&◌, ◌||◌, List, [], ◌∷◌, ◌++◌, length, drop, sym, refl, ◌∙◌, ap, subst, arith, append_assoc, append-nil, Option, Some, None, IsUtf8, length-drop, drop-drop, eqb-true}
use Rattle.std.specs.Prelude.{◌==◌, slice_range, codes, not}
use Rattle.std.specs.List.{AllPass, list_any}
use Rattle.std.specs.Str.{bytes_eq, str_to_ascii_lowercase}
use Rattle.std.proofs.lemmas.Str.{IsUtf8-nil, IsUtf8-append, IsUtf8-drop, IsCharBoundary-after_ascii}
use Rattle.std.proofs.lemmas.Bool.{false_from_ne_true}
use Rattle.text_base.specs.Text.{is_letter, IsPlace}
use Rattle.text_base.proofs.Boundaries.{at_start}
use Rattle.char_refs.proofs.DecodedLemmas.{decoded_utf8}
use Rattle.html_lexer.specs.Kinds.{is_name_byte}
use Rattle.html_lexer.specs.Names.{is_raw, is_escapable, closes, literal_names, escapable_names}
use Rattle.html_lexer.specs.Tokens.{Tok as Lexed, start_tok, end_tok, text_tok, comment_tok, doctype_tok, end_of, name_after}
use Rattle.html_lexer.specs.TokenLaws.{IsTagName, IsMarked, IsQuery, EndTagBegins, GoesUpTo}
use Rattle.html_lexer.specs.Attributes.{Writes}
use Rattle.html_lexer.specs.Lexing.{Begins, Spell}
use Rattle.html_lexer.proofs.BackLemmas.{NoEnd, no_end}
use Rattle.html_lexer.proofs.CommentLemmas.{comment_text}
use Rattle.html_lexer.proofs.CutLemmas.{TagFacts, IsCutTok, IsEndTok, RawFirst, raw_first, after_raw}
use Rattle.html_lexer.proofs.CutPlaces.{cut_tok, cut_end}
use Rattle.html_lexer.proofs.AttrCutLemmas.{pairs_cut}
use Rattle.html_lexer.proofs.TextLemmas.{closes_end}
use Rattle.html_reader.specs.Tokens.{Tag, text, comment, doctype, Tok, starts, ends, holds, Mark, token, shut}
use Rattle.html_reader.specs.Forest.{Forest, nothing, then_leaf, then_element, marks, close_of}
use Rattle.html_reader.specs.Tables.{is_void, is_foreign, may_omit_end, start_ends, void_names}
use Rattle.html_reader.specs.Contents.{kept, takes_newline, without_newline, meant, content}
use Rattle.html_reader.specs.Places.{Place, outside, within, place_marks, open_tags}
use Rattle.html_reader.specs.Words.{is_shut, ends_at, tokens_of, next_token, IsFull}
use Rattle.html_reader.specs.Pages.{Means, AllMean, Spells}
use Rattle.html_reader.proofs.PageLemmas.{tokens_of-append}
use Rattle.html_reader.proofs.PlaceLemmas.{add, lone, add-marks}
use Rattle.html_reader.proofs.NameFacts.{void_plain}
use Rattle.html_reader.proofs.LowerLemmas.{all_pass, lower_utf8, lower_twice, raw_lower, escapable_lower, end_lower, tag_lower, RawName, raw_name, literal_newline, takes_lower}
use Rattle.html_reader.proofs.KeptInkLemmas.{AreInk, kept_ink, kept_again, all_quotable}
use Rattle.html_reader.proofs.InkLemmas.{IsRawInside, Inside, NotText, IsInk}
use Rattle.html_reader.proofs.InkParts.{IsInkTag, IsInkComment, IsRawText}
use Rattle.html_reader.proofs.CleanLemmas.{plain_tag, text_leaf, clean, outer, html_tag, whole_tree, Calm, calm_of}

-- what the tokens of a page are
abbrev pub IsSaneTag : Tag → Type 0
IsSaneTag tag = IsTagName tag.name × (str_to_ascii_lowercase tag.name ≡ tag.name) × AreInk tag.attrs × ((tag.slash && is_raw tag.name) ≡ false) × IsUtf8 tag.name

-- the next token is an end tag, or there is none
abbrev pub EndsNext : List Tok → Type 0
EndsNext [] = Unit {0}
EndsNext (starts tag ∷ ts) = ⊥
EndsNext (ends name ∷ ts) = Unit {0}
EndsNext (holds leaf ∷ ts) = ⊥

-- after the start tag of an element with raw text one text may come, and then an end tag
abbrev pub RawNext : List ℕ → List Tok → Type 0
RawNext name [] = Unit {0}
RawNext name (starts tag ∷ ts) = ⊥
RawNext name (ends other ∷ ts) = Unit {0}
RawNext name (holds (text s) ∷ ts) = IsRawText name s × EndsNext ts
RawNext name (holds (comment s) ∷ ts) = ⊥
RawNext name (holds doctype ∷ ts) = ⊥

abbrev pub Sane : List Tok → Type 0
Sane [] = Unit {0}
Sane (starts tag ∷ ts) = IsSaneTag tag × (is_raw tag.name ≡ true → RawNext tag.name ts) × Sane ts
Sane (ends name ∷ ts) = Sane ts
Sane (holds (text s) ∷ ts) = IsUtf8 s × Sane ts
Sane (holds (comment s) ∷ ts) = IsInkComment s × IsUtf8 s × Sane ts
Sane (holds doctype ∷ ts) = Sane ts

-- comments
marked_comment : (raw s : List ℕ) → IsMarked raw s ⊎ IsQuery raw s → IsInkComment s
marked_comment raw s (inl m) = (m.no_end, m.no_bang, m.no_bracket, m.no_arrow)
marked_comment raw s (inr q) = (
  (λ h. q.no_bracket (h.0 ++ codes "--", h.1, h.2 ∙ sym (append_assoc h.0 (codes "--") (codes ">" ++ h.1)))),
  (λ h. q.no_bracket (h.0 ++ codes "--!", h.1, h.2 ∙ sym (append_assoc h.0 (codes "--!") (codes ">" ++ h.1)))),
  (λ h. q.no_bracket ([], h.0, h.1)),
  (λ h. q.no_bracket (codes "-", h.0, h.1)),
)

-- contents
tail_utf8 : (c : ℕ) (cs : List ℕ) → c < 128 → IsUtf8 (c ∷ cs) → IsUtf8 cs
tail_utf8 c cs ascii u = IsUtf8-drop (c ∷ cs) 1 u (IsCharBoundary-after_ascii (c ∷ cs) 0 u (omega arith) ascii)

newline_utf8 : (s : List ℕ) → IsUtf8 s → IsUtf8 (without_newline s)
newline_utf8 [] u = u
newline_utf8 (c ∷ cs) u = by_first (c == 10) refl
  where
    by_first : (b : Bool) → (c == 10) ≡ b → IsUtf8 (cond b cs (c ∷ cs))
    by_first true is = tail_utf8 c cs (let e = eqb-true c 10 is in omega arith) u
    by_first false is = u

meant_utf8 : (raw : List ℕ) (refs : Bool) → IsUtf8 raw → IsUtf8 (meant raw refs)
meant_utf8 raw true u = decoded_utf8 raw u
meant_utf8 raw false u = u

content_utf8 : (name raw : List ℕ) (refs : Bool) → IsUtf8 raw → IsUtf8 (content name raw refs)
content_utf8 name raw refs u = by_takes (takes_newline name)
  where
    by_takes : (b : Bool) → IsUtf8 (cond b (without_newline (meant raw refs)) (meant raw refs))
    by_takes true = newline_utf8 (meant raw refs) (meant_utf8 raw refs u)
    by_takes false = meant_utf8 raw refs u

-- raw text holds no end tag of its element
raw_slice : (page name : List ℕ) (i to : ℕ) → GoesUpTo (EndTagBegins name page) page i to → NoEnd name (slice_range page i to)
raw_slice page name i to g =
    let low = g.some in
    let high = g.within in
    no_end name (drop i page) (to - i) (omega (arith, length-drop i page))
    (λ k l. false_from_ne_true (closes name (drop k (drop i page))) (λ e. g.before (i + k) (omega arith) (omega arith) (closes_end page name (i + k) (omega arith) (ap (closes name) (sym (drop-drop k i page)) ∙ e))))

raw_content : (page name : List ℕ) (i to : ℕ) (raw : List ℕ) (refs : Bool) → is_raw name ≡ true → raw ≡ slice_range page i to → refs ≡ is_escapable name → GoesUpTo (EndTagBegins name page) page i to → IsRawText (str_to_ascii_lowercase name) (content name raw refs)
raw_content page name i to raw refs is at r g = by_kind (is_escapable name) refl
  where
    by_kind : (b : Bool) → is_escapable name ≡ b → IsRawText (str_to_ascii_lowercase name) (content name raw refs)
    by_kind true e = inl (escapable_lower name ∙ e)
    by_kind false e =
        let takes : takes_newline (str_to_ascii_lowercase name) ≡ false = literal_newline name is e in
        let same : content name raw refs ≡ slice_range page i to = (λ j. cond ((sym (takes_lower name) ∙ takes) j) (without_newline (meant raw refs)) (meant raw ((r ∙ e) j))) ∙ at in
        inr (escapable_lower name ∙ e, subst (NoEnd (str_to_ascii_lowercase name)) (sym same) (end_lower name (slice_range page i to) (raw_slice page name i to g)), takes)

-- what a token of the lexer gives
ends_mean : (page name : List ℕ) (x : Lexed) (xs : List Lexed) (ts : List Tok) → IsEndTok x → AllMean name (x ∷ xs) ts → EndsNext ts
ends_mean page name x xs [] e m = tt
ends_mean page name (start_tok from to tag attrs slash) xs (t ∷ ts) e m = absurd e
ends_mean page name (end_tok from to tag) xs (t ∷ ts) e m = subst (λ u. EndsNext (u ∷ ts)) (sym m.0) tt
ends_mean page name (text_tok from to raw refs) xs (t ∷ ts) e m = absurd e
ends_mean page name (comment_tok from to body) xs (t ∷ ts) e m = absurd e
ends_mean page name (doctype_tok from to) xs (t ∷ ts) e m = absurd e

module _ (page : List ℕ) (utf8 : IsUtf8 page) where
  raw_next : (name : List ℕ) (i : ℕ) (xs : List Lexed) (ts : List Tok) → is_raw name ≡ true → Spell page name i xs (length page) → AllMean name xs ts → RawNext (str_to_ascii_lowercase name) ts
  raw_next name i [] [] is h m = tt
  raw_next name i [] (t ∷ ts) is h m = absurd m
  raw_next name i (x ∷ xs) [] is h m = absurd m
  raw_next name i (x ∷ xs) (t ∷ ts) is h m = by_token x (raw_first page utf8 name i x is h.0) m.0 h.1 m.1
    where
      behind : (to : ℕ) (ys : List Lexed) (us : List Tok) → GoesUpTo (EndTagBegins name page) page i to → Spell page [] to ys (length page) → AllMean [] ys us → EndsNext us
      behind to [] [] g s a = tt
      behind to [] (u ∷ us) g s a = absurd a
      behind to (y ∷ ys) us g s a = elim g.end [
        | inl e ↦ absurd (omega (arith, s.0.1.0, e))
        | inr e ↦ ends_mean page [] y ys us (after_raw page utf8 name to y e s.0) a
      ]

      by_token : (y : Lexed) → RawFirst page name i y → Means name y t → Spell page (name_after y) (end_of y) xs (length page) → AllMean (name_after y) xs ts → RawNext (str_to_ascii_lowercase name) (t ∷ ts)
      by_token (start_tok from to tag attrs slash) f k s a = absurd f
      by_token (end_tok from to tag) f k s a = subst (λ u. RawNext (str_to_ascii_lowercase name) (u ∷ ts)) (sym k) tt
      by_token (text_tok from to raw refs) f k s a = subst (λ u. RawNext (str_to_ascii_lowercase name) (u ∷ ts)) (sym k) (raw_content page name i to raw refs is f.0 f.1 f.2, behind to xs ts f.2 s a)
      by_token (comment_tok from to body) f k s a = absurd f
      by_token (doctype_tok from to) f k s a = absurd f

  sane_tag : (name attrs : List ℕ) (slash : Bool) (to : ℕ) (ps : List (List ℕ × List ℕ)) → TagFacts page name attrs slash to → Writes attrs 0 ps → IsSaneTag (record { name = str_to_ascii_lowercase name; attrs = kept ps; slash = slash })
  sane_tag name attrs slash to ps f w =
      (tag_lower name f.tag, lower_twice name, kept_ink ps (pairs_cut attrs f.attrs_utf8 ps 0 (at_start attrs f.attrs_utf8) w), ap (λ b. slash && b) (raw_lower name) ∙ f.no_slash, lower_utf8 name f.name_utf8)

  sane : (name : List ℕ) (i : ℕ) (xs : List Lexed) (ts : List Tok) → IsPlace page i → Spell page name i xs (length page) → AllMean name xs ts → Sane ts
  sane name i [] [] at h m = tt
  sane name i [] (t ∷ ts) at h m = absurd m
  sane name i (x ∷ xs) [] at h m = absurd m
  sane name i (x ∷ xs) (t ∷ ts) at h m =
      let c = cut_tok page utf8 name i x at h.0 in
      by_token x c h.0 m.0 h.1 m.1 (sane (name_after x) (end_of x) xs ts (cut_end page utf8 x c) h.1 m.1)
    where
      by_token : (y : Lexed) → IsCutTok page y → Begins page name i y → Means name y t → Spell page (name_after y) (end_of y) xs (length page) → AllMean (name_after y) xs ts → Sane ts → Sane (t ∷ ts)
      by_token (start_tok from to tag attrs slash) c b k s a later =
          subst (λ u. Sane (u ∷ ts)) (sym k.2) (sane_tag tag attrs slash to k.0 c k.1, (λ is. raw_next tag to xs ts (sym (raw_lower tag) ∙ is) s a), later)
      by_token (end_tok from to tag) c b k s a later = subst (λ u. Sane (u ∷ ts)) (sym k) later
      by_token (text_tok from to raw refs) c b k s a later = subst (λ u. Sane (u ∷ ts)) (sym k) (content_utf8 name raw refs c.0, later)
      by_token (comment_tok from to body) c b k s a later = subst (λ u. Sane (u ∷ ts)) (sym k) (marked_comment (slice_range page i to) body (comment_text page name body i from to b).1, c.0, later)
      by_token (doctype_tok from to) c b k s a later = subst (λ u. Sane (u ∷ ts)) (sym k) later

  pub sane_page : (tokens : List Tok) → Spells page (length page) tokens → Sane tokens
  sane_page tokens s = sane [] 0 s.read tokens (at_start page utf8) s.lexed s.meant

-- where a word is full, each end that is inserted must be
abbrev pub Firm : List Tag → Forest → Type 0
Firm tags nothing = Unit {0}
Firm tags (then_leaf leaf rest) = Firm tags rest
Firm tags (then_element tag inside inserted rest) = (inserted ≡ true → (next : Option Tok) × (is_shut (tag ∷ tags) next ≡ true)) × Firm (tag ∷ tags) inside × Firm tags rest

pub firm_of : (p : Place) (f : Forest) (v w : List Mark) (after : Option Tok) → IsFull w after → place_marks p ++ (marks f ++ v) ≡ w → Firm (open_tags p) f
firm_of p nothing v w after full e = tt
firm_of p (then_leaf leaf rest) v w after full e =
    subst (λ ts. Firm ts rest) (same p)
    (firm_of (add p (then_leaf leaf nothing)) rest v w after full (ap (λ x. x ++ (marks rest ++ v)) (add-marks p (then_leaf leaf nothing)) ∙ append_assoc (place_marks p) (token (holds leaf) ∷ []) (marks rest ++ v) ∙ e))
  where
    same : (p : Place) → open_tags (add p (then_leaf leaf nothing)) ≡ open_tags p
    same (outside piece) = refl
    same (within before tag piece) = refl
firm_of p (then_element tag inside inserted rest) v w after full e =
    let close = close_of tag inserted ∷ (marks rest ++ v) in
    let e1 : place_marks (within p tag nothing) ++ (marks inside ++ close) ≡ w = append_assoc (place_marks p) (token (starts tag) ∷ []) (marks inside ++ close) ∙ ap (λ x. place_marks p ++ (token (starts tag) ∷ x)) (sym (append_assoc (marks inside) (close_of tag inserted ∷ marks rest) v)) ∙ e in
    let e2 : place_marks (add p (lone tag inside inserted)) ++ (marks rest ++ v) ≡ w =
    ap (λ x. x ++ (marks rest ++ v)) (add-marks p (lone tag inside inserted)) ∙ append_assoc (place_marks p) (token (starts tag) ∷ (marks inside ++ (close_of tag inserted ∷ []))) (marks rest ++ v)
    ∙ ap (λ x. place_marks p ++ (token (starts tag) ∷ x)) (append_assoc (marks inside) (close_of tag inserted ∷ []) (marks rest ++ v))
    ∙ ap (λ x. place_marks p ++ (token (starts tag) ∷ x)) (sym (append_assoc (marks inside) (close_of tag inserted ∷ marks rest) v)) ∙ e in
    let e3 : place_marks (within p tag inside) ++ close ≡ w = append_assoc (place_marks p) (token (starts tag) ∷ marks inside) close ∙ ap (λ x. place_marks p ++ (token (starts tag) ∷ x)) (sym (append_assoc (marks inside) (close_of tag inserted ∷ marks rest) v)) ∙ e in (
      at_shut inserted e3,
      firm_of (within p tag nothing) inside close w after full e1,
      subst (λ ts. Firm ts rest) (same p) (firm_of (add p (lone tag inside inserted)) rest v w after full e2),
    )
  where
    same : (p : Place) → open_tags (add p (lone tag inside inserted)) ≡ open_tags p
    same (outside piece) = refl
    same (within before t piece) = refl

    at_shut : (b : Bool) → place_marks (within p tag inside) ++ (close_of tag b ∷ (marks rest ++ v)) ≡ w → b ≡ true → (next : Option Tok) × (is_shut (tag ∷ open_tags p) next ≡ true)
    at_shut true q is = (next_token (shut ∷ (marks rest ++ v)) after, full (within p tag inside) (shut ∷ (marks rest ++ v)) q)
    at_shut false q is = cc

-- an end is inserted for no element with raw text
no_raw_shut : (tag : Tag) (tags : List Tag) (next : Option Tok) → is_void tag.name ≡ false → may_omit_end tag.name ≡ false → tag.slash ≡ false → is_shut (tag ∷ tags) next ≡ true → ⊥
no_raw_shut tag tags next void omit slash h =
    none (is_void tag.name) tag.slash (is_foreign tag.name || list_any (λ (t : Tag). is_foreign t.name) tags) (ends_at tag.name next) void slash (no_end_at tag.name next omit) h
  where
    no_end_at : (name : List ℕ) (next : Option Tok) → may_omit_end name ≡ false → ends_at name next ≡ false
    no_end_at name None o = o
    no_end_at name (Some (starts t)) o = ap (λ b. b && start_ends name t.name) o
    no_end_at name (Some (ends other)) o = ap (λ b. b && not (bytes_eq name other)) o
    no_end_at name (Some (holds leaf)) o = refl

    none : (v s z e : Bool) → v ≡ false → s ≡ false → e ≡ false → ((v || (s && z)) || e) ≡ true → ⊥
    none false false z false a b c k = cc
    none false false z true a b c k = cc
    none false true z e a b c k = cc
    none true s z e a b c k = cc

and_left : (a b : Bool) → (a && b) ≡ false → b ≡ true → a ≡ false
and_left true b h k = cc
and_left false b h k = refl

-- after tokens
pub sane_past : (ts us : List Tok) → Sane (ts ++ us) → Sane us
sane_past [] us h = h
sane_past (starts tag ∷ ts) us h = sane_past ts us h.2
sane_past (ends name ∷ ts) us h = sane_past ts us h
sane_past (holds (text s) ∷ ts) us h = sane_past ts us h.1
sane_past (holds (comment s) ∷ ts) us h = sane_past ts us h.2
sane_past (holds doctype ∷ ts) us h = sane_past ts us h

pub sane_close : (tag : Tag) (inserted : Bool) (w : List Mark) (ts : List Tok) → Sane (tokens_of (close_of tag inserted ∷ w) ++ ts) → Sane (tokens_of w ++ ts)
sane_close tag true w ts h = h
sane_close tag false w ts h = h

-- a text that waits
text_ink : (waits : List ℕ) (g : Forest) → IsUtf8 waits → NotText g → IsInk g → IsInk (text_leaf waits g)
text_ink [] g u n h = h
text_ink (c ∷ cs) g u n h = (u, n, h)

-- what stands in an element with raw text
raw_inside : (name : List ℕ) (inside : Forest) (t : Tok) (ts : List Tok) → RawNext name (tokens_of (marks inside) ++ (t ∷ ts)) → Sane (tokens_of (marks inside) ++ (t ∷ ts)) → IsRawInside name (clean [] inside)
raw_inside name nothing t ts r h = tt
raw_inside name (then_leaf (text []) nothing) t ts r h = tt
raw_inside name (then_leaf (text (c ∷ cs)) nothing) t ts r h = (h.0, r.0, refl)
raw_inside name (then_leaf (text s) (then_leaf leaf rest)) t ts r h = absurd r.1
raw_inside name (then_leaf (text s) (then_element tag inside inserted rest)) t ts r h = absurd r.1
raw_inside name (then_leaf (comment s) rest) t ts r h = absurd r
raw_inside name (then_leaf doctype rest) t ts r h = absurd r
raw_inside name (then_element tag inside inserted rest) t ts r h = absurd r

ink_tag : (tag : Tag) → IsSaneTag tag → IsInkTag (plain_tag tag)
ink_tag tag h = (h.0, h.1, all_quotable tag.attrs h.2, kept_again tag.attrs h.2, refl)

-- what stands in an element
module _ (tags : List Tag) (tag : Tag) (inside : Forest) (inserted : Bool) (rest : Forest) (ts : List Tok) where
  abbrev pub later : List Tok
  later = tokens_of (close_of tag inserted ∷ marks rest) ++ ts

  pub shape : tokens_of (marks inside ++ (close_of tag inserted ∷ marks rest)) ++ ts ≡ tokens_of (marks inside) ++ later
  shape = ap (λ x. x ++ ts) (tokens_of-append (marks inside) (close_of tag inserted ∷ marks rest)) ∙ append_assoc (tokens_of (marks inside)) (tokens_of (close_of tag inserted ∷ marks rest)) ts

  raw_case : is_raw tag.name ≡ true → IsSaneTag tag → (is_raw tag.name ≡ true → RawNext tag.name (tokens_of (marks inside) ++ later)) → Sane (tokens_of (marks inside) ++ later) → (inserted ≡ true → (next : Option Tok) × (is_shut (tag ∷ tags) next ≡ true)) → AllPass is_letter tag.name × IsRawInside tag.name (clean [] inside)
  raw_case is sane_tag next sane_in firm =
      let facts : RawName tag.name = subst RawName sane_tag.1 (raw_name tag.name is) in
      (facts.0, by_close inserted refl facts)
    where
      by_close : (b : Bool) → inserted ≡ b → RawName tag.name → IsRawInside tag.name (clean [] inside)
      by_close true e facts =
          let s = firm e in
          absurd (no_raw_shut tag tags s.0 facts.1 facts.2 (and_left tag.slash (is_raw tag.name) sane_tag.3 is) s.1)
      by_close false e facts =
          raw_inside tag.name inside (ends tag.name) (tokens_of (marks rest) ++ ts)
          (subst (λ b. RawNext tag.name (tokens_of (marks inside) ++ (tokens_of (close_of tag b ∷ marks rest) ++ ts))) e (next is))
          (subst (λ b. Sane (tokens_of (marks inside) ++ (tokens_of (close_of tag b ∷ marks rest) ++ ts))) e sane_in)

  inside_ink : IsSaneTag tag → (is_raw tag.name ≡ true → RawNext tag.name (tokens_of (marks inside) ++ later)) → Sane (tokens_of (marks inside) ++ later) → (is_void tag.name ≡ true → inside ≡ nothing) → (inserted ≡ true → (next : Option Tok) × (is_shut (tag ∷ tags) next ≡ true)) → IsInk (clean [] inside)
      → Inside (is_void tag.name) (is_raw tag.name) tag.name (clean [] inside) (IsInk (clean [] inside))
  inside_ink sane_tag next sane_in void firm ink_in = by_kind (is_void tag.name) refl (is_raw tag.name) refl
    where
      by_kind : (v : Bool) → is_void tag.name ≡ v → (r : Bool) → is_raw tag.name ≡ r → Inside v r tag.name (clean [] inside) (IsInk (clean [] inside))
      by_kind true is r same = (ap (clean []) (void is), sym same ∙ (void_plain tag.name is).0, (void_plain tag.name is).1)
      by_kind false is true same = raw_case same sane_tag next sane_in firm
      by_kind false is false same = ink_in

pub clean_ink : (tags : List Tag) (waits : List ℕ) (f : Forest) (ts : List Tok) → IsUtf8 waits → Calm tags f → Firm tags f → Sane (tokens_of (marks f) ++ ts) → IsInk (clean waits f)
clean_ink tags waits nothing ts u calm firm h = text_ink waits nothing u tt tt
clean_ink tags waits (then_leaf (text content) rest) ts u calm firm h = clean_ink tags (waits ++ content) rest ts (IsUtf8-append waits content u h.0) calm firm h.1
clean_ink tags waits (then_leaf (comment content) rest) ts u calm firm h = text_ink waits (then_leaf (comment content) (clean [] rest)) u tt (h.0, clean_ink tags [] rest ts IsUtf8-nil calm firm h.2)
clean_ink tags waits (then_leaf doctype rest) ts u calm firm h = clean_ink tags waits rest ts u calm firm h
clean_ink tags waits (then_element tag inside inserted rest) ts u calm firm h =
    let e = shape tags tag inside inserted rest ts in
    let us = later tags tag inside inserted rest ts in
    let sane_in : Sane (tokens_of (marks inside) ++ us) = subst Sane e h.2 in
    let ink_in = clean_ink (tag ∷ tags) [] inside us IsUtf8-nil calm.2 firm.1 sane_in in
    let sane_rest : Sane (tokens_of (marks rest) ++ ts) = sane_close tag inserted (marks rest) ts (sane_past (tokens_of (marks inside)) us sane_in) in
    text_ink waits (then_element (plain_tag tag) (clean [] inside) (is_void tag.name) (clean [] rest)) u tt
    (ink_tag tag h.0, refl, inside_ink tags tag inside inserted rest ts h.0 (λ is. subst (RawNext tag.name) e (h.1 is)) sane_in calm.1 firm.0 ink_in, clean_ink tags [] rest ts IsUtf8-nil calm.3 firm.2 sane_rest)

pub outer_ink : (f : Forest) (ts : List Tok) → Calm [] f → Firm [] f → Sane (tokens_of (marks f) ++ ts) → IsInk (outer f)
outer_ink nothing ts calm firm h = tt
outer_ink (then_leaf (text content) rest) ts calm firm h = outer_ink rest ts calm firm h.1
outer_ink (then_leaf (comment content) rest) ts calm firm h = (h.0, outer_ink rest ts calm firm h.2)
outer_ink (then_leaf doctype rest) ts calm firm h = outer_ink rest ts calm firm h
outer_ink (then_element tag inside inserted rest) ts calm firm h =
    let e = shape [] tag inside inserted rest ts in
    let us = later [] tag inside inserted rest ts in
    let sane_in : Sane (tokens_of (marks inside) ++ us) = subst Sane e h.2 in
    let ink_in = clean_ink (tag ∷ []) [] inside us IsUtf8-nil calm.2 firm.1 sane_in in
    let sane_rest : Sane (tokens_of (marks rest) ++ ts) = sane_close tag inserted (marks rest) ts (sane_past (tokens_of (marks inside)) us sane_in) in
    (ink_tag tag h.0, refl, inside_ink [] tag inside inserted rest ts h.0 (λ is. subst (RawNext tag.name) e (h.1 is)) sane_in calm.1 firm.0 ink_in, outer_ink rest ts calm.3 firm.2 sane_rest)

-- the made root
pub html_plain : (is_raw (codes "html") ≡ false) × (is_void (codes "html") ≡ false) × IsTagName (codes "html")
unfolding literal_names escapable_names void_names
html_plain = (refl, refl, record { first = refl; bytes = all_pass is_name_byte (codes "html") refl; no_plaintext = refl })

made_ink : (g : Forest) → IsInk g → IsInk (then_element html_tag g false nothing)
made_ink g h = (
  (html_plain.2, refl, all_quotable [] tt, refl, refl),
  sym html_plain.1,
  (λ (P : Bool → Bool → Type 0) (a b : Bool) (e : a ≡ false) (f : b ≡ false) (x : P false false). subst (λ v. P v b) (sym e) (subst (λ r. P false r) (sym f) x)) (λ v r. Inside v r (codes "html") g (IsInk g)) (is_void (codes "html")) (is_raw (codes "html")) html_plain.1 html_plain.0 h,
  tt,
)

-- The tree of a page that is UTF-8, as it is written out, can be written.
pub page_ink : (page : List ℕ) (tokens : List Tok) (made : Bool) (f : Forest) → IsUtf8 page → Spells page (length page) tokens → tokens_of (marks f) ≡ tokens → IsFull (marks f) None → IsInk (whole_tree made f)
page_ink page tokens made f utf8 spelled is full =
    let good : Sane (tokens_of (marks f) ++ []) = subst Sane (sym (append-nil (tokens_of (marks f)) ∙ is)) (sane_page page utf8 tokens spelled) in
    let calm : Calm [] f = calm_of (outside nothing) f [] (marks f) None full (append-nil (marks f)) in
    let firm : Firm [] f = firm_of (outside nothing) f [] (marks f) None full (append-nil (marks f)) in
    by_made made (outer_ink f [] calm firm good) (clean_ink [] [] f [] IsUtf8-nil calm firm good)
  where
    by_made : (b : Bool) → IsInk (outer f) → IsInk (clean [] f) → IsInk (whole_tree b f)
    by_made true x y = made_ink (clean [] f) y
    by_made false x y = x
