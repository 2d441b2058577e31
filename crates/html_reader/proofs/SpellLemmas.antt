-- The tokens of a page, as the tree takes them.
use Rattle.std.proofs.Common.{◌≡◌, ℕ, ◌+◌, ◌-◌, ◌<◌, ◌≤◌, Bool, List, [], ◌∷◌, ◌++◌, length, map, drop, sym, refl, ◌∙◌, ap, subst, arith, length-take, length-drop}
use Rattle.std.specs.Prelude.{slice_range}
use Rattle.std.specs.Str.{str_to_ascii_lowercase}
use Rattle.text_base.specs.declared.reasons.PageReason.{PageReason}
use Rattle.html_lexer.specs.declared.steps.TokenAt.{TokenAt}
use Rattle.html_lexer.specs.declared.steps.TokenAt.TheVariants.{Start, End, Text, Comment, Doctype}
use Rattle.html_lexer.specs.declared.steps.Step.TheVariants.{Gives, Fails}
use Rattle.html_lexer.specs.Steps.{StepAt}
use Rattle.html_lexer.specs.Attributes.{pair_at}
use Rattle.html_lexer.specs.Tokens.{Tok as Lexed, start_tok, end_tok, text_tok, comment_tok, doctype_tok, tok_at, end_of, name_after, last_name}
use Rattle.html_lexer.specs.Lexing.{Begins, Spell}
use Rattle.html_lexer.proofs.LexLemmas.{same_step, same_token, spell_push}
use Rattle.html_lexer.proofs.TagLemmas.{same_attributes}
use Rattle.html_lexer.proofs.SliceLemmas.{page_attributes}
use Rattle.html_reader.specs.Tokens.{Tok, starts, ends, holds, text, comment, doctype}
use Rattle.html_reader.specs.Contents.{kept, content}
use Rattle.html_reader.specs.Pages.{Means, AllMean, Spells}
use Rattle.html_reader.proofs.MoveLemmas.{PartsMove, step_moves}

abbrev tag_of : List ℕ → Bool → List (List ℕ × List ℕ) → Tok
tag_of name slash written = starts (record { name = str_to_ascii_lowercase name; attrs = kept written; slash = slash })

-- a token is taken in one way
pub one_meaning : (before : List ℕ) (x : Lexed) (t u : Tok) → Means before x t → Means before x u → t ≡ u
one_meaning before (start_tok from to name attrs slash) t u h k = h.2 ∙ ap (tag_of name slash) (same_attributes attrs 0 h.0 k.0 h.1 k.1) ∙ sym k.2
one_meaning before (end_tok from to name) t u h k = h ∙ sym k
one_meaning before (text_tok from to raw refs) t u h k = h ∙ sym k
one_meaning before (comment_tok from to body) t u h k = h ∙ sym k
one_meaning before (doctype_tok from to) t u h k = h ∙ sym k

-- A token lies after the place where it begins, in the page. The name of a start tag is not empty, and what stands
-- after it is shorter than the token.
abbrev pub Lies : List ℕ → ℕ → Lexed → Type 0
Lies page i (start_tok from to name attrs slash) = (from ≡ i) × (i < to) × (to ≤ length page) × (0 < length name) × (i + length attrs < to)
Lies page i (end_tok from to name) = (from ≡ i) × (i < to) × (to ≤ length page)
Lies page i (text_tok from to raw refs) = (from ≡ i) × (i < to) × (to ≤ length page)
Lies page i (comment_tok from to body) = (from ≡ i) × (i < to) × (to ≤ length page)
Lies page i (doctype_tok from to) = (from ≡ i) × (i < to) × (to ≤ length page)

parts_lie : (page : List ℕ) (i : ℕ) (parts : TokenAt) → PartsMove page i parts → Lies page i (tok_at page i parts)
parts_lie page i (Start name_to attrs_to to slash) h = (
  refl,
  omega (arith, h.0, h.1, h.2),
  h.3,
  omega (arith, h.0, h.1, h.2, h.3, length-take (name_to - (i + 1)) (drop (i + 1) page), length-drop (i + 1) page),
  omega (arith, h.0, h.1, h.2, h.3, length-take (attrs_to - name_to) (drop name_to page), length-drop name_to page),
)
parts_lie page i (End name_to to) h = (refl, h.0, h.1)
parts_lie page i (Text to refs) h = (refl, h.0, h.1)
parts_lie page i (Comment text_from text_to to) h = (refl, h.0, h.1)
parts_lie page i (Doctype to) h = (refl, h.0, h.1)

pub lies : (page before : List ℕ) (i : ℕ) (x : Lexed) → Begins page before i x → Lies page i x
lies page before i x h = subst (Lies page i) (sym h.2) (parts_lie page i h.0 (step_moves page before i (Gives h.0) h.1))

pub ends_behind : (page : List ℕ) (i : ℕ) (x : Lexed) → Lies page i x → (i < end_of x) × (end_of x ≤ length page)
ends_behind page i (start_tok from to name attrs slash) h = (h.1, h.2)
ends_behind page i (end_tok from to name) h = (h.1, h.2)
ends_behind page i (text_tok from to raw refs) h = (h.1, h.2)
ends_behind page i (comment_tok from to body) h = (h.1, h.2)
ends_behind page i (doctype_tok from to) h = (h.1, h.2)

pub moves : (page before : List ℕ) (i : ℕ) (x : Lexed) → Begins page before i x → (i < end_of x) × (end_of x ≤ length page)
moves page before i x h = ends_behind page i x (lies page before i x h)

-- each token is taken in some way
parts_mean : (page before : List ℕ) (i : ℕ) (parts : TokenAt) → PartsMove page i parts → (t : Tok) × Means before (tok_at page i parts) t
parts_mean page before i (Start name_to attrs_to to slash) h =
    let attributes = h.4.0 in
    let written = map (pair_at page) attributes in
    (tag_of (slice_range page (i + 1) name_to) slash written, (written, page_attributes page name_to attrs_to to slash attributes h.4.1, refl))
parts_mean page before i (End name_to to) h = (ends (str_to_ascii_lowercase (slice_range page (i + 2) name_to)), refl)
parts_mean page before i (Text to refs) h = (holds (text (content before (slice_range page i to) refs)), refl)
parts_mean page before i (Comment text_from text_to to) h = (holds (comment (slice_range page text_from text_to)), refl)
parts_mean page before i (Doctype to) h = (holds doctype, refl)

pub some_meaning : (page before : List ℕ) (i : ℕ) (x : Lexed) → Begins page before i x → (t : Tok) × Means before x t
some_meaning page before i x h =
    subst (λ y. (t : Tok) × Means before y t) (sym h.2) (parts_mean page before i h.0 (step_moves page before i (Gives h.0) h.1))

pub all_mean : (page before : List ℕ) (i j : ℕ) (xs : List Lexed) → Spell page before i xs j → (ts : List Tok) × AllMean before xs ts
all_mean page before i j [] h = ([], tt)
all_mean page before i j (x ∷ xs) h =
    let t = some_meaning page before i x h.0 in
    let rest = all_mean page (name_after x) (end_of x) j xs h.1 in
    (t.0 ∷ rest.0, (t.1, rest.1))

-- one token more
pub mean_push : (before : List ℕ) (xs : List Lexed) (x : Lexed) (ts : List Tok) (t : Tok) → AllMean before xs ts → Means (last_name before xs) x t → AllMean before (xs ++ x ∷ []) (ts ++ t ∷ [])
mean_push before [] x [] t h k = (k, tt)
mean_push before [] x (u ∷ ts) t h k = absurd h
mean_push before (y ∷ xs) x [] t h k = absurd h
mean_push before (y ∷ xs) x (u ∷ ts) t h k = (h.0, mean_push (name_after y) xs x ts t h.1 k)

abbrev pub spells_none : (page : List ℕ) → Spells page 0 []
spells_none page = record { read = []; lexed = refl; meant = tt }

abbrev pub spells_push : (page : List ℕ) (at : ℕ) (ts : List Tok) (s : Spells page at ts) (x : Lexed) (t : Tok) → Begins page (last_name [] s.read) at x → Means (last_name [] s.read) x t → Spells page (end_of x) (ts ++ t ∷ [])
spells_push page at ts s x t h k = record {
  read = s.read ++ x ∷ [];
  lexed = spell_push page [] 0 at s.read x s.lexed h;
  meant = mean_push [] s.read x ts t s.meant k;
}

-- tokens end in the page, and not before they begin
pub spell_from : (page before : List ℕ) (i j : ℕ) (xs : List Lexed) → Spell page before i xs j → i ≤ j
spell_from page before i j [] h = omega (arith, h)
spell_from page before i j (x ∷ xs) h = omega (arith, (moves page before i x h.0).0, spell_from page (name_after x) (end_of x) j xs h.1)

-- what one list of tokens of a page has more than another
pub data Meets (page before : List ℕ) (xs ys : List Lexed) (ts us : List Tok) (j k : ℕ) : Type 0 where
  even : (same_read : xs ≡ ys) (same : ts ≡ us) (at : j ≡ k) → Meets page before xs ys ts us j k
  less : (z : Lexed) (t : Tok) (vs : List Tok) (next : Begins page (last_name before xs) j z) (means : Means (last_name before xs) z t) (is : us ≡ ts ++ t ∷ vs) (below : j < k) → Meets page before xs ys ts us j k
  more : (z : Lexed) (t : Tok) (vs : List Tok) (next : Begins page (last_name before ys) k z) (means : Means (last_name before ys) z t) (is : ts ≡ us ++ t ∷ vs) (below : k < j) → Meets page before xs ys ts us j k

behind : (page before : List ℕ) (x : Lexed) (xs ys : List Lexed) (t : Tok) (ts us : List Tok) (j k : ℕ) → Meets page (name_after x) xs ys ts us j k → Meets page before (x ∷ xs) (x ∷ ys) (t ∷ ts) (t ∷ us) j k
behind page before x xs ys t ts us j k (even e f at) = even (ap (λ zs. x ∷ zs) e) (ap (λ vs. t ∷ vs) f) at
behind page before x xs ys t ts us j k (less z u vs next means is below) = less z u vs next means (ap (λ ws. t ∷ ws) is) below
behind page before x xs ys t ts us j k (more z u vs next means is below) = more z u vs next means (ap (λ ws. t ∷ ws) is) below

pub meets : (page before : List ℕ) (i j k : ℕ) (xs ys : List Lexed) (ts us : List Tok) → Spell page before i xs j → Spell page before i ys k → AllMean before xs ts → AllMean before ys us → Meets page before xs ys ts us j k
meets page before i j k [] [] [] [] h l a b = even refl refl (sym h ∙ l)
meets page before i j k [] (y ∷ ys) [] (u ∷ us) h l a b =
    less y u us (subst (λ n. Begins page before n y) h l.0) b.0 refl (omega (arith, h, (moves page before i y l.0).0, spell_from page (name_after y) (end_of y) k ys l.1))
meets page before i j k (x ∷ xs) [] (t ∷ ts) [] h l a b =
    more x t ts (subst (λ n. Begins page before n x) l h.0) a.0 refl (omega (arith, l, (moves page before i x h.0).0, spell_from page (name_after x) (end_of x) j xs h.1))
meets page before i j k (x ∷ xs) (y ∷ ys) (t ∷ ts) (u ∷ us) h l a b =
    let e : x ≡ y = same_token page before i x y h.0 l.0 in
    let f : t ≡ u = one_meaning before x t u a.0 (subst (λ z. Means before z u) (sym e) b.0) in
    let rest = meets page (name_after x) (end_of x) j k xs ys ts us h.1 (subst (λ z. Spell page (name_after z) (end_of z) ys k) (sym e) l.1) a.1 (subst (λ z. AllMean (name_after z) ys us) (sym e) b.1) in
    subst (λ z. Meets page before (x ∷ xs) (z ∷ ys) (t ∷ ts) (u ∷ us) j k) e
    (subst (λ v. Meets page before (x ∷ xs) (x ∷ ys) (t ∷ ts) (v ∷ us) j k) f (behind page before x xs ys t ts us j k rest))
meets page before i j k [] ys (t ∷ ts) us h l a b = absurd a
meets page before i j k (x ∷ xs) ys [] us h l a b = absurd a
meets page before i j k xs [] ts (u ∷ us) h l a b = absurd b
meets page before i j k xs (y ∷ ys) ts [] h l a b = absurd b

-- two spellings of one page
pub spellings : (page : List ℕ) (j k : ℕ) (ts us : List Tok) (s : Spells page j ts) (r : Spells page k us) → Meets page [] s.read r.read ts us j k
spellings page j k ts us s r = meets page [] 0 j k s.read r.read ts us s.lexed r.lexed s.meant r.meant

-- where a token begins, none is refused, and the page does not end
pub no_end : (page before : List ℕ) (i : ℕ) (x : Lexed) → Begins page before i x → i ≡ length page → ⊥
no_end page before i x h e = omega (arith, h.1.0, e)

pub no_fail : (page before : List ℕ) (i : ℕ) (x : Lexed) (reason : PageReason) → Begins page before i x → StepAt page before i (Fails reason) → ⊥
no_fail page before i x reason h k = let e : Gives h.0 ≡ Fails reason = same_step page before i (Gives h.0) (Fails reason) h.1 k in cc
