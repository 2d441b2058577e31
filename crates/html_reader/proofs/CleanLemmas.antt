-- The tree of a page as it is written out: texts joined, no doctypes, no slashes, a root where it is made. Its tokens build
-- the document that the page builds.
use Rattle.std.proofs.Common.{◌≡◌, ℕ, ◌+◌, ◌≤◌, ◌<◌, List, [], ◌∷◌, ◌++◌, length, Bool, true, false, ◌&&◌, ◌||◌, sym, refl, ◌∙◌, ap, subst, arith, Option, Some, None, append_assoc, append-nil, ltb}
use Rattle.std.specs.Prelude.{not, codes}
use Rattle.std.proofs.lemmas.Bool.Decides.{nat_tests}
use Rattle.std.proofs.lemmas.Bool.{both_ways}
use Rattle.doc_model.specs.Document.{Row, no_row}
use Rattle.html_reader.specs.Tokens.{Tag, Leaf, text, comment, doctype, Tok, starts, holds, Mark, token}
use Rattle.html_reader.specs.Forest.{Forest, nothing, then_leaf, then_element, marks, close_of, depth, width, is_white, is_white_leaf}
use Rattle.html_reader.specs.Rows.{sofar, flushed, entered, with_leaf, grown}
use Rattle.html_reader.specs.Tables.{is_void, may_omit_end, start_ends, endings, void_names}
use Rattle.html_reader.specs.Places.{Place, outside, within, place_marks, open_tags, most_open, with_piece, Grown, base, place_grown, all_rows, Fits, is_some}
use Rattle.html_reader.specs.Words.{is_shut, ends_at, tokens_of, begins_shut, IsFull}
use Rattle.html_reader.specs.inner.Machine.{State, held, opened, closed, closing, shuts, is_empty}
use Rattle.html_reader.specs.inner.Reached.{state_at}
use Rattle.html_reader.specs.Reading.{Builds}
use Rattle.html_reader.proofs.PlaceLemmas.{add, lone, add-marks}
use Rattle.html_reader.proofs.ReadLemmas.{starts_led, builds}
use Rattle.html_reader.proofs.BackLemmas.{behind, Written, Rooted, Comes, still, behind_tags, behind_made, behind_some, goes_written}
use Rattle.html_reader.proofs.StepLemmas.{shuts_made}

abbrev pub plain_tag : Tag → Tag
plain_tag tag = record { name = tag.name; attrs = tag.attrs; slash = false }

abbrev pub text_leaf : List ℕ → Forest → Forest
text_leaf [] rest = rest
text_leaf (c ∷ cs) rest = then_leaf (text (c ∷ cs)) rest

-- the content of an element, after a text that waits
abbrev pub clean : List ℕ → Forest → Forest
clean waits nothing = text_leaf waits nothing
clean waits (then_leaf (text content) rest) = clean (waits ++ content) rest
clean waits (then_leaf (comment content) rest) = text_leaf waits (then_leaf (comment content) (clean [] rest))
clean waits (then_leaf doctype rest) = clean waits rest
clean waits (then_element tag inside inserted rest) = text_leaf waits (then_element (plain_tag tag) (clean [] inside) (is_void tag.name) (clean [] rest))

-- what stands outside all elements
abbrev pub outer : Forest → Forest
outer nothing = nothing
outer (then_leaf (text content) rest) = outer rest
outer (then_leaf (comment content) rest) = then_leaf (comment content) (outer rest)
outer (then_leaf doctype rest) = outer rest
outer (then_element tag inside inserted rest) = then_element (plain_tag tag) (clean [] inside) (is_void tag.name) (outer rest)

abbrev pub html_tag : Tag
html_tag = record { name = codes "html"; attrs = []; slash = false }

abbrev pub whole_tree : Bool → Forest → Forest
whole_tree true f = then_element html_tag (clean [] f) false nothing
whole_tree false f = outer f

-- the rows are the same
leaf_rows : (p : ℕ) (rows : List Row) (waits : List ℕ) (g : Forest) → grown p (sofar rows []) (text_leaf waits g) ≡ grown p (sofar rows waits) g
leaf_rows p rows [] g = refl
leaf_rows p rows (c ∷ cs) g = refl

pub clean_rows : (p : ℕ) (rows : List Row) (waits : List ℕ) (f : Forest) → flushed p (grown p (sofar rows []) (clean waits f)) ≡ flushed p (grown p (sofar rows waits) f)
clean_rows p rows waits nothing = ap (flushed p) (leaf_rows p rows waits nothing)
clean_rows p rows waits (then_leaf (text content) rest) = clean_rows p rows (waits ++ content) rest
clean_rows p rows waits (then_leaf (comment content) rest) =
    ap (flushed p) (leaf_rows p rows waits (then_leaf (comment content) (clean [] rest))) ∙ clean_rows p (with_leaf p (sofar rows waits) (comment content)).rows [] rest
clean_rows p rows waits (then_leaf doctype rest) = clean_rows p rows waits rest
clean_rows p rows waits (then_element tag inside inserted rest) =
    let s = sofar rows waits in
    let n = length (flushed p s) in
    ap (flushed p) (leaf_rows p rows waits (then_element (plain_tag tag) (clean [] inside) (is_void tag.name) (clean [] rest)))
    ∙ ap (λ r. flushed p (grown p (sofar r []) (clean [] rest))) (clean_rows n (entered p s tag).rows [] inside)
    ∙ clean_rows p (flushed n (grown n (entered p s tag) inside)) [] rest

pub outer_rows : (rows : List Row) (v w : List ℕ) (f : Forest) → flushed 0 (grown 0 (sofar rows v) (outer f)) ≡ flushed 0 (grown 0 (sofar rows w) f)
outer_rows rows v w nothing = refl
outer_rows rows v w (then_leaf (text content) rest) = outer_rows rows v (w ++ content) rest
outer_rows rows v w (then_leaf (comment content) rest) = outer_rows (with_leaf 0 (sofar rows w) (comment content)).rows [] [] rest
outer_rows rows v w (then_leaf doctype rest) = outer_rows rows v w rest
outer_rows rows v w (then_element tag inside inserted rest) =
    let s = sofar rows w in
    let n = length (flushed 0 s) in
    ap (λ r. flushed 0 (grown 0 (sofar r []) (outer rest))) (clean_rows n (entered 0 s tag).rows [] inside)
    ∙ outer_rows (flushed n (grown n (entered 0 s tag) inside)) [] [] rest

pub whole_rows : (made : Bool) (f : Forest) → all_rows (place_grown false (outside (whole_tree made f))) ≡ all_rows (place_grown made (outside f))
whole_rows false f = outer_rows (no_row ∷ []) [] [] f
whole_rows true f = append-nil (flushed 1 (grown 1 (base true).sofar (clean [] f))) ∙ clean_rows 1 (base true).sofar.rows [] f

-- where a word is full, no start tag in it ends the element around it, and a void element is empty
abbrev pub Calm : List Tag → Forest → Type 0
Calm tags nothing = Unit {0}
Calm tags (then_leaf leaf rest) = Calm tags rest
Calm tags (then_element tag inside inserted rest) = (is_shut tags (Some (starts tag)) ≡ false) × (is_void tag.name ≡ true → inside ≡ nothing) × Calm (tag ∷ tags) inside × Calm tags rest

no_shut : (f : Forest) (w : List Mark) → begins_shut (marks f ++ w) ≡ true → f ≡ nothing
no_shut nothing w h = refl
no_shut (then_leaf leaf rest) w h = cc
no_shut (then_element tag inside inserted rest) w h = cc

or_first : (a x y : Bool) → a ≡ true → ((a || x) || y) ≡ true
or_first true x y h = refl
or_first false x y h = cc

pub calm_of : (p : Place) (f : Forest) (v w : List Mark) (after : Option Tok) → IsFull w after → place_marks p ++ (marks f ++ v) ≡ w → Calm (open_tags p) f
calm_of p nothing v w after full e = tt
calm_of p (then_leaf leaf rest) v w after full e =
    subst (λ ts. Calm ts rest) (same p)
    (calm_of (add p (then_leaf leaf nothing)) rest v w after full (ap (λ x. x ++ (marks rest ++ v)) (add-marks p (then_leaf leaf nothing)) ∙ append_assoc (place_marks p) (token (holds leaf) ∷ []) (marks rest ++ v) ∙ e))
  where
    same : (p : Place) → open_tags (add p (then_leaf leaf nothing)) ≡ open_tags p
    same (outside piece) = refl
    same (within before tag piece) = refl
calm_of p (then_element tag inside inserted rest) v w after full e =
    let close = close_of tag inserted ∷ (marks rest ++ v) in
    let e1 : place_marks (within p tag nothing) ++ (marks inside ++ close) ≡ w = append_assoc (place_marks p) (token (starts tag) ∷ []) (marks inside ++ close) ∙ ap (λ x. place_marks p ++ (token (starts tag) ∷ x)) (sym (append_assoc (marks inside) (close_of tag inserted ∷ marks rest) v)) ∙ e in
    let e2 : place_marks (add p (lone tag inside inserted)) ++ (marks rest ++ v) ≡ w =
    ap (λ x. x ++ (marks rest ++ v)) (add-marks p (lone tag inside inserted)) ∙ append_assoc (place_marks p) (token (starts tag) ∷ (marks inside ++ (close_of tag inserted ∷ []))) (marks rest ++ v)
    ∙ ap (λ x. place_marks p ++ (token (starts tag) ∷ x)) (append_assoc (marks inside) (close_of tag inserted ∷ []) (marks rest ++ v))
    ∙ ap (λ x. place_marks p ++ (token (starts tag) ∷ x)) (sym (append_assoc (marks inside) (close_of tag inserted ∷ marks rest) v)) ∙ e in (
      full p (marks (then_element tag inside inserted rest) ++ v) e,
      (λ void. no_shut inside close (sym (full (within p tag nothing) (marks inside ++ close) e1) ∙ or_first (is_void tag.name) _ _ void)),
      calm_of (within p tag nothing) inside close w after full e1,
      subst (λ ts. Calm ts rest) (same p) (calm_of (add p (lone tag inside inserted)) rest v w after full e2),
    )
  where
    same : (p : Place) → open_tags (add p (lone tag inside inserted)) ≡ open_tags p
    same (outside piece) = refl
    same (within before t piece) = refl

-- the open tags as they are written, a made root below them
abbrev pub root_tags : Bool → List Tag
root_tags true = html_tag ∷ []
root_tags false = []

abbrev pub plain_onto : List Tag → List Tag → List Tag
plain_onto root [] = root
plain_onto root (t ∷ ts) = plain_tag t ∷ plain_onto root ts

html_ends_none : (name : List ℕ) → start_ends (codes "html") name ≡ false
unfolding endings
html_ends_none name = refl

html_not_void : is_void (codes "html") ≡ false
unfolding void_names
html_not_void = refl

parts : (v x o : Bool) → ((v || x) || o) ≡ false → ((v || false) || o) ≡ false
parts true x o h = cc
parts false true o h = cc
parts false false o h = h

and_false : (a b : Bool) → b ≡ false → (a && b) ≡ false
and_false true b h = h
and_false false b h = refl

still_start : (made : Bool) (tags : List Tag) (tag : Tag) → is_shut tags (Some (starts tag)) ≡ false → is_shut (plain_onto (root_tags made) tags) (Some (starts (plain_tag tag))) ≡ false
still_start true [] tag h = ap (λ b. (b || false) || (may_omit_end (codes "html") && start_ends (codes "html") tag.name)) html_not_void ∙ and_false (may_omit_end (codes "html")) (start_ends (codes "html") tag.name) (html_ends_none tag.name)
still_start false [] tag h = refl
still_start made (t ∷ tags) tag h = parts (is_void t.name) _ (ends_at t.name (Some (starts tag))) h

-- the innermost open element is not void
abbrev pub NotVoid : List Tag → Type 0
NotVoid [] = Unit {0}
NotVoid (t ∷ tags) = is_void t.name ≡ false

still_leaf : (tags : List Tag) (leaf : Leaf) → (made : Bool) → NotVoid tags → is_shut (plain_onto (root_tags made) tags) (Some (holds leaf)) ≡ false
still_leaf [] leaf true h = ap (λ b. (b || false) || false) html_not_void
still_leaf [] leaf false h = refl
still_leaf (t ∷ tags) leaf made h = ap (λ b. (b || false) || false) h

-- something is open
abbrev pub IsOpen : List Tag → Type 0
IsOpen [] = ⊥
IsOpen (t ∷ tags) = Unit {0}

some_open : (tags : List Tag) (leaf : Leaf) → IsOpen tags → (is_empty tags && not (is_white_leaf leaf)) ≡ false
some_open [] leaf h = absurd h
some_open (t ∷ tags) leaf h = refl

module _ (made : Bool) where
  abbrev ptags : List Tag → List Tag
  ptags tags = plain_onto (root_tags made) tags

  text_written : (tags : List Tag) (waits : List ℕ) (g : Forest) → NotVoid tags → IsOpen (ptags tags) → Written (ptags tags) g → Written (ptags tags) (text_leaf waits g)
  text_written tags [] g v o h = h
  text_written tags (c ∷ cs) g v o h = (still_leaf tags (text (c ∷ cs)) made v, some_open (ptags tags) (text (c ∷ cs)) o, h)

  pub inside_by : (tags : List Tag) (tag : Tag) (inside : Forest) → (void : Bool) → is_void tag.name ≡ void → (is_void tag.name ≡ true → inside ≡ nothing) → (is_void tag.name ≡ false → Written (ptags (tag ∷ tags)) (clean [] inside)) → Written (ptags (tag ∷ tags)) (clean [] inside)
  inside_by tags tag inside true is empty later = subst (λ f. Written (ptags (tag ∷ tags)) (clean [] f)) (sym (empty is)) tt
  inside_by tags tag inside false is empty later = later is

  pub clean_written : (tags : List Tag) (waits : List ℕ) (f : Forest) → NotVoid tags → IsOpen (ptags tags) → Calm tags f → length (ptags tags) + depth f ≤ most_open false → Written (ptags tags) (clean waits f)
  clean_written tags waits nothing v o calm deep = text_written tags waits nothing v o tt
  clean_written tags waits (then_leaf (text content) rest) v o calm deep = clean_written tags (waits ++ content) rest v o calm deep
  clean_written tags waits (then_leaf (comment content) rest) v o calm deep =
      text_written tags waits (then_leaf (comment content) (clean [] rest)) v o (still_leaf tags (comment content) made v, some_open (ptags tags) (comment content) o, clean_written tags [] rest v o calm deep)
  clean_written tags waits (then_leaf doctype rest) v o calm deep = clean_written tags waits rest v o calm deep
  clean_written tags waits (then_element tag inside inserted rest) v o calm deep =
      text_written tags waits (then_element (plain_tag tag) (clean [] inside) (is_void tag.name) (clean [] rest)) v o
      (still_start made tags tag calm.0, refl, refl, (λ void. ap (clean []) (calm.1 void)), omega (arith, deep), inside_by tags tag inside (is_void tag.name) refl calm.1 (λ w. clean_written (tag ∷ tags) [] inside w tt calm.2 (omega (arith, deep))), clean_written tags [] rest v o calm.3 (omega (arith, deep)))

pub outer_written : (f : Forest) → Calm [] f → depth f ≤ most_open false → Written [] (outer f)
outer_written nothing calm deep = tt
outer_written (then_leaf (text content) rest) calm deep = outer_written rest calm deep
outer_written (then_leaf (comment content) rest) calm deep = (refl, refl, outer_written rest calm deep)
outer_written (then_leaf doctype rest) calm deep = outer_written rest calm deep
outer_written (then_element tag inside inserted rest) calm deep =
    (refl, refl, refl, (λ void. ap (clean []) (calm.1 void)), omega arith, inside_by false [] tag inside (is_void tag.name) refl calm.1 (λ w. clean_written false (tag ∷ []) [] inside w tt calm.2 (omega (arith, deep))), outer_written rest calm.3 (omega (arith, deep)))

-- one root
outer_width : (f : Forest) → width (outer f) ≡ width f
outer_width nothing = refl
outer_width (then_leaf (text content) rest) = outer_width rest
outer_width (then_leaf (comment content) rest) = outer_width rest
outer_width (then_leaf doctype rest) = outer_width rest
outer_width (then_element tag inside inserted rest) = ap (λ n. 1 + n) (outer_width rest)

no_width : (g : Forest) → width g ≡ 0 → Rooted [] true g
no_width nothing h = tt
no_width (then_leaf leaf rest) h = no_width rest h
no_width (then_element tag inside inserted rest) h = absurd (omega (arith, h))

one_width : (g : Forest) → width g ≤ 1 → Rooted [] false g
one_width nothing h = tt
one_width (then_leaf leaf rest) h = one_width rest h
one_width (then_element tag inside inserted rest) h = (refl, no_width rest (omega (arith, h)))

pub behind_rooted : (s : State) (g : Forest) → 0 < width g → (behind s g).rooted.some ≡ true
behind_rooted s nothing h = absurd (omega (arith, h))
behind_rooted s (then_leaf leaf rest) h = behind_rooted (held s leaf) rest h
behind_rooted s (then_element tag inside inserted rest) h = behind_some (closed (behind (opened s tag) inside)) rest (behind_some (opened s tag) inside refl)

-- the rows after a tree
pub behind_grown : (s : State) (g : Forest) → (behind s g).grown ≡ with_piece s.grown g
behind_grown s nothing = refl
behind_grown s (then_leaf leaf rest) = behind_grown (held s leaf) rest
behind_grown s (then_element tag inside inserted rest) = behind_grown (closed (behind (opened s tag) inside)) rest ∙ ap (λ (x : Grown). with_piece (closing x) rest) (behind_grown (opened s tag) inside)

pub root_written : (made : Bool) (f : Forest) → Calm [] f → depth f ≤ most_open made → Written [] (whole_tree made f)
root_written false f calm deep = outer_written f calm deep
root_written true f calm deep = (refl, refl, sym html_not_void, (λ void. absurd (both_ways _ html_not_void void)), omega arith, clean_written true [] [] f tt tt calm (omega (arith, deep)), tt)

root_deep : (made : Bool) (f : Forest) → Fits made (outside f) → depth f ≤ most_open made
root_deep made f h = h.1

pub root_one : (made : Bool) (f : Forest) → Fits made (outside f) → Rooted [] false (whole_tree made f)
root_one true f h = (refl, tt)
root_one false f h = one_width (outer f) (omega (arith, h.0, outer_width f))

pub root_some : (made : Bool) (f : Forest) → is_some made (outside f) ≡ true → 0 < width (whole_tree made f)
root_some true f h = omega arith
root_some false f h = omega (arith, outer_width f, ltb_is 0 (width f) (or_none (not (is_white f)) (ltb 0 (width f)) h))
  where
    or_none : (a b : Bool) → ((a && false) || b) ≡ true → b ≡ true
    or_none true b h = h
    or_none false b h = h

    ltb_is : (a b : ℕ) → ltb a b ≡ true → a < b
    ltb_is a b h = grind (arith, nat_tests)

-- the place is outside all elements
pub outside_of : (p : Place) → open_tags p ≡ [] → (f : Forest) × (p ≡ outside f)
outside_of (outside piece) e = (piece, refl)
outside_of (within before tag piece) e = cc

pub tokens_back : (made : Bool) (tokens : List Tok) (doc : List Row) (h : Builds made tokens doc) → (f : Forest) × Builds false (tokens_of (marks (whole_tree made f))) doc × (h.place ≡ outside f)
tokens_back made tokens doc h =
    let out = outside_of h.place h.closed in
    let f = out.0 in
    let g = whole_tree made f in
    let fits : Fits made (outside f) = subst (Fits made) out.1 h.leads.fits in
    let calm : Calm [] f = calm_of (outside nothing) f [] (marks f) None (subst (λ p. IsFull (place_marks p) None) out.1 h.leads.full) (append-nil (marks f)) in
    let first = state_at false (outside nothing) in
    let last = behind first g in
    let c : Comes [] first = record { at = first; led = starts_led false first refl; alike = λ next. refl } in
    let comes = goes_written g [] first [] refl refl (root_written made f calm (root_deep made f fits)) (root_one made f fits) c in
    let none : last.tags ≡ [] = behind_tags first g in
    let ended : last ≡ shuts None comes.at = sym (comes.alike None ∙ still None last (ap (λ ts. is_shut ts None) none)) in
    let unmade : comes.at.rooted.made ≡ false = sym (shuts_made None comes.at.tags comes.at.rooted comes.at.grown) ∙ ap (λ (s : State). s.rooted.made) (sym ended) ∙ behind_made first g in
    let rows : doc ≡ all_rows last.grown = sym h.rows_are ∙ ap (λ p. all_rows (place_grown made p)) out.1 ∙ sym (whole_rows made f) ∙ ap all_rows (sym (behind_grown first g)) in
    (f, subst (λ m. Builds m (tokens_of (marks g)) doc) unmade (builds comes.at last doc ended (ap is_empty none) (behind_rooted first g (root_some made f (subst (λ p. is_some made p ≡ true) out.1 h.rooted))) rows (tokens_of (marks g)) comes.led), out.1)
