-- Tokens of a tree that is written out lead to the tree: an end is inserted after the start tags of void elements and nowhere else.
use Rattle.std.proofs.Common.{◌≡◌, ℕ, ◌<◌, List, [], ◌∷◌, ◌++◌, length, Bool, true, false, ◌&&◌, ◌||◌, cond, sym, refl, ◌∙◌, ap, subst, arith, Option, Some, Ok, append_assoc, append-nil, eqb}
use Rattle.std.specs.Prelude.{not}
use Rattle.std.specs.Str.{bytes_eq}
use Rattle.std.proofs.lemmas.Slice.Eq.{bytes_eq-Decides}
use Rattle.std.proofs.lemmas.Bool.Decides.{nat_tests}
use Rattle.html_reader.specs.Tokens.{Tag, Leaf, Tok, starts, ends, holds, token}
use Rattle.html_reader.specs.Forest.{Forest, nothing, then_leaf, then_element, marks, close_of, is_white_leaf}
use Rattle.html_reader.specs.Tables.{is_void, may_omit_end}
use Rattle.html_reader.specs.Places.{most_open}
use Rattle.html_reader.specs.Words.{is_shut, ends_at, tokens_of}
use Rattle.html_reader.specs.inner.Machine.{State, with_some, opened, held, closed, step, shuts, is_innermost, is_empty, without_first}
use Rattle.html_reader.specs.inner.Taking.{LeadsTo}
use Rattle.html_reader.proofs.PageLemmas.{tokens_of-append}
use Rattle.html_reader.proofs.ReadLemmas.{takes_token}
use Rattle.html_reader.proofs.SoundLemmas.{shuts_tags, none_tags}

-- states that no next token, and no end, tells apart
abbrev pub Alike : State → State → Type 0
Alike s t = (next : Option Tok) → shuts next s ≡ shuts next t

-- the state after a tree, below the innermost open element
abbrev pub behind : State → Forest → State
behind s nothing = s
behind s (then_leaf leaf rest) = behind (held s leaf) rest
behind s (then_element tag inside inserted rest) = behind (closed (behind (opened s tag) inside)) rest

-- A tree as it is written: its ends are inserted for void elements alone, which are empty; no tag has a slash; with these
-- tags open no start tag in it ends an element, nor is refused, and no text is.
abbrev pub Written : List Tag → Forest → Type 0
Written tags nothing = Unit {0}
Written tags (then_leaf leaf rest) = (is_shut tags (Some (holds leaf)) ≡ false) × ((is_empty tags && not (is_white_leaf leaf)) ≡ false) × Written tags rest
Written tags (then_element tag inside inserted rest) =
    (is_shut tags (Some (starts tag)) ≡ false) × (tag.slash ≡ false) × (inserted ≡ is_void tag.name) × (is_void tag.name ≡ true → inside ≡ nothing)
    × (length tags < most_open false) × Written (tag ∷ tags) inside × Written tags rest

-- with no tag open one element may come at most
abbrev pub Rooted : List Tag → Bool → Forest → Type 0
Rooted (t ∷ tags) some f = Unit {0}
Rooted [] some nothing = Unit {0}
Rooted [] some (then_leaf leaf rest) = Rooted [] some rest
Rooted [] some (then_element tag inside inserted rest) = (some ≡ false) × Rooted [] true rest

pub still : (next : Option Tok) (s : State) → is_shut s.tags next ≡ false → shuts next s ≡ s
still next s h = none_tags next s.tags s.rooted s.grown h

alike_refl : (s : State) → Alike s s
alike_refl s next = refl

-- what holds after some tokens
pub record Comes (tokens : List Tok) (s : State) : Type 0 where
  pub at : State
  pub led : LeadsTo tokens at
  pub alike : Alike at s

one : (tokens : List Tok) (s new : State) (t : Tok) → Comes tokens s → is_shut s.tags (Some t) ≡ false → step s t ≡ Ok new → Comes (tokens ++ t ∷ []) new
one tokens s new t h free taken =
    record {
      at = new;
      led = takes_token h.at s new t (sym (h.alike (Some t) ∙ still (Some t) s free)) taken tokens h.led;
      alike = alike_refl new;
    }

and_false : (b c : Bool) → c ≡ false → (b && c) ≡ false
and_false true c h = h
and_false false c h = refl

pick_no : {A : Type 0} (b : Bool) (x y : A) → b ≡ false → cond b x y ≡ y
pick_no true x y h = cc
pick_no false x y h = refl

pick_yes : {A : Type 0} (b : Bool) (x y : A) → b ≡ true → cond b x y ≡ x
pick_yes true x y h = refl
pick_yes false x y h = cc

free_leaf : (s : State) (leaf : Leaf) → (is_empty s.tags && not (is_white_leaf leaf)) ≡ false → step s (holds leaf) ≡ Ok (held s leaf)
free_leaf s leaf h = pick_no (not s.rooted.made && (is_empty s.tags && not (is_white_leaf leaf))) _ _ (and_false (not s.rooted.made) _ h)

free_start : (s : State) (tag : Tag) → s.rooted.made ≡ false → (is_empty s.tags && s.rooted.some) ≡ false → length s.tags < most_open false → step s (starts tag) ≡ Ok (opened s tag)
free_start s tag unmade h few =
    pick_no (not s.rooted.made && (is_empty s.tags && s.rooted.some)) _ _ (and_false (not s.rooted.made) _ h)
    ∙ pick_no (eqb (length s.tags) (most_open s.rooted.made)) _ _ (ap (λ m. eqb (length s.tags) (most_open m)) unmade ∙ other (length s.tags) few)
  where
    other : (n : ℕ) → n < most_open false → eqb n (most_open false) ≡ false
    other n l = grind (arith, nat_tests)

free_end : (s : State) (tag : Tag) (tags : List Tag) → s.tags ≡ tag ∷ tags → step s (ends tag.name) ≡ Ok (closed s)
free_end s tag tags e = pick_yes (is_innermost s.tags tag.name) _ _ (ap (λ ts. is_innermost ts tag.name) e ∙ (bytes_eq-Decides tag.name tag.name).1 refl)

-- what stays
pub behind_tags : (s : State) (f : Forest) → (behind s f).tags ≡ s.tags
behind_tags s nothing = refl
behind_tags s (then_leaf leaf rest) = behind_tags (held s leaf) rest
behind_tags s (then_element tag inside inserted rest) = behind_tags (closed (behind (opened s tag) inside)) rest ∙ ap without_first (behind_tags (opened s tag) inside)

pub behind_made : (s : State) (f : Forest) → (behind s f).rooted.made ≡ s.rooted.made
behind_made s nothing = refl
behind_made s (then_leaf leaf rest) = behind_made (held s leaf) rest
behind_made s (then_element tag inside inserted rest) = behind_made (closed (behind (opened s tag) inside)) rest ∙ behind_made (opened s tag) inside

pub or_true : (b : Bool) → (b || true) ≡ true
or_true true = refl
or_true false = refl

pub behind_some : (s : State) (f : Forest) → s.rooted.some ≡ true → (behind s f).rooted.some ≡ true
behind_some s nothing h = h
behind_some s (then_leaf leaf rest) h = behind_some (held s leaf) rest (ap (λ b. (not (is_white_leaf leaf) && s.rooted.made) || b) h ∙ or_true (not (is_white_leaf leaf) && s.rooted.made))
behind_some s (then_element tag inside inserted rest) h = behind_some (closed (behind (opened s tag) inside)) rest (behind_some (opened s tag) inside refl)

leaf_some : (s : State) (leaf : Leaf) → s.rooted.made ≡ false → (held s leaf).rooted.some ≡ s.rooted.some
leaf_some s leaf unmade = ap (λ m. (not (is_white_leaf leaf) && m) || s.rooted.some) unmade ∙ none (not (is_white_leaf leaf)) s.rooted.some
  where
    none : (a b : Bool) → ((a && false) || b) ≡ b
    none true b = refl
    none false b = refl

can_open : (tags : List Tag) (some : Bool) (tag : Tag) (inside : Forest) (inserted : Bool) (rest : Forest) → Rooted tags some (then_element tag inside inserted rest) → (is_empty tags && some) ≡ false
can_open [] some tag inside inserted rest h = h.0
can_open (t ∷ tags) some tag inside inserted rest h = refl

rest_rooted : (tags : List Tag) (some : Bool) (tag : Tag) (inside : Forest) (inserted : Bool) (rest : Forest) → Rooted tags some (then_element tag inside inserted rest) → Rooted tags true rest
rest_rooted [] some tag inside inserted rest h = h.1
rest_rooted (t ∷ tags) some tag inside inserted rest h = tt

leaf_rooted : (tags : List Tag) (some : Bool) (leaf : Leaf) (rest : Forest) → Rooted tags some (then_leaf leaf rest) → Rooted tags some rest
leaf_rooted [] some leaf rest h = h
leaf_rooted (t ∷ tags) some leaf rest h = tt

-- a void element is closed by whatever comes
void_shut : (s : State) (tag : Tag) → is_void tag.name ≡ true → Alike (opened s tag) (closed (opened s tag))
void_shut s tag v next = shuts_tags next (tag ∷ s.tags) (with_some s.rooted) (opened s tag).grown (or_first (is_void tag.name) _ (ends_at tag.name next) v)
  where
    or_first : (a x y : Bool) → a ≡ true → ((a || x) || y) ≡ true
    or_first true x y h = refl
    or_first false x y h = cc

-- no end is inserted before the end tag of an element that is not void
not_shut : (tag : Tag) (tags : List Tag) → tag.slash ≡ false → is_void tag.name ≡ false → is_shut (tag ∷ tags) (Some (ends tag.name)) ≡ false
not_shut tag tags slash v = none (is_void tag.name) tag.slash _ (may_omit_end tag.name) (bytes_eq tag.name tag.name) v slash ((bytes_eq-Decides tag.name tag.name).1 refl)
  where
    none : (v s z o b : Bool) → v ≡ false → s ≡ false → b ≡ true → ((v || (s && z)) || (o && not b)) ≡ false
    none false false z true true a b c = refl
    none false false z false true a b c = refl
    none false false z o false a b c = cc
    none false true z o b a k c = cc
    none true s z o b a k c = cc

pub goes_written : (f : Forest) (tags : List Tag) (s : State) (tokens : List Tok) → s.tags ≡ tags → s.rooted.made ≡ false → Written tags f → Rooted tags s.rooted.some f → Comes tokens s → Comes (tokens ++ tokens_of (marks f)) (behind s f)
goes_written nothing tags s tokens e unmade h r c = subst (λ ts. Comes ts s) (sym (append-nil tokens)) c
goes_written (then_leaf leaf rest) tags s tokens e unmade h r c =
    let next = one tokens s (held s leaf) (holds leaf) c (ap (λ ts. is_shut ts (Some (holds leaf))) e ∙ h.0) (free_leaf s leaf (ap (λ ts. is_empty ts && not (is_white_leaf leaf)) e ∙ h.1)) in
    subst (λ ts. Comes ts (behind (held s leaf) rest)) (append_assoc tokens (holds leaf ∷ []) (tokens_of (marks rest)))
    (goes_written rest tags (held s leaf) (tokens ++ holds leaf ∷ []) e unmade h.2 (subst (λ b. Rooted tags b rest) (sym (leaf_some s leaf unmade)) (leaf_rooted tags s.rooted.some leaf rest r)) next)
goes_written (then_element tag inside inserted rest) tags s tokens e unmade h r c =
    let began = one tokens s (opened s tag) (starts tag) c (ap (λ ts. is_shut ts (Some (starts tag))) e ∙ h.0) (free_start s tag unmade (ap (λ ts. is_empty ts && s.rooted.some) e ∙ can_open tags s.rooted.some tag inside inserted rest r) (subst (λ ts. length ts < most_open false) (sym e) h.4)) in
    let s1 = behind (opened s tag) inside in
    let tags1 : s1.tags ≡ tag ∷ tags = behind_tags (opened s tag) inside ∙ ap (λ ts. tag ∷ ts) e in
    let made1 : s1.rooted.made ≡ false = behind_made (opened s tag) inside ∙ unmade in
    let some1 : s1.rooted.some ≡ true = behind_some (opened s tag) inside refl in
    let ended : Comes (tokens ++ tokens_of (token (starts tag) ∷ (marks inside ++ (close_of tag inserted ∷ [])))) (closed s1) =
    by_void (is_void tag.name) refl began (goes_written inside (tag ∷ tags) (opened s tag) (tokens ++ starts tag ∷ []) (ap (λ ts. tag ∷ ts) e) unmade h.5 tt began) tags1 in
    subst (λ ts. Comes ts (behind (closed s1) rest)) (whole tokens)
    (goes_written rest tags (closed s1) (tokens ++ tokens_of (token (starts tag) ∷ (marks inside ++ (close_of tag inserted ∷ [])))) (ap without_first tags1) made1 h.6 (subst (λ b. Rooted tags b rest) (sym some1) (rest_rooted tags s.rooted.some tag inside inserted rest r)) ended)
  where
    whole : (tokens : List Tok) → (tokens ++ tokens_of (token (starts tag) ∷ (marks inside ++ (close_of tag inserted ∷ [])))) ++ tokens_of (marks rest) ≡ tokens ++ tokens_of (token (starts tag) ∷ (marks inside ++ (close_of tag inserted ∷ marks rest)))
    whole tokens =
        append_assoc tokens (tokens_of (token (starts tag) ∷ (marks inside ++ (close_of tag inserted ∷ [])))) (tokens_of (marks rest))
        ∙ ap (λ ts. tokens ++ ts) (sym (tokens_of-append (token (starts tag) ∷ (marks inside ++ (close_of tag inserted ∷ []))) (marks rest)) ∙ ap (λ w. tokens_of (token (starts tag) ∷ w)) (append_assoc (marks inside) (close_of tag inserted ∷ []) (marks rest)))

    by_void : (v : Bool) → is_void tag.name ≡ v → Comes (tokens ++ starts tag ∷ []) (opened s tag) → Comes ((tokens ++ starts tag ∷ []) ++ tokens_of (marks inside)) (behind (opened s tag) inside) → (behind (opened s tag) inside).tags ≡ tag ∷ tags
        → Comes (tokens ++ tokens_of (token (starts tag) ∷ (marks inside ++ (close_of tag inserted ∷ [])))) (closed (behind (opened s tag) inside))
    by_void true is began inner tags1 =
        subst (λ f. Comes (tokens ++ tokens_of (token (starts tag) ∷ (marks f ++ (close_of tag inserted ∷ [])))) (closed (behind (opened s tag) f))) (sym (h.3 is))
        (subst (λ b. Comes (tokens ++ tokens_of (token (starts tag) ∷ (close_of tag b ∷ []))) (closed (opened s tag))) (sym (h.2 ∙ is))
        (record { at = began.at; led = began.led; alike = λ next. began.alike next ∙ void_shut s tag is next }))
    by_void false is began inner tags1 =
        let s1 = behind (opened s tag) inside in
        let done = one ((tokens ++ starts tag ∷ []) ++ tokens_of (marks inside)) s1 (closed s1) (ends tag.name) inner (ap (λ ts. is_shut ts (Some (ends tag.name))) tags1 ∙ not_shut tag tags h.1 is) (free_end s1 tag tags tags1) in
        subst (λ b. Comes (tokens ++ tokens_of (token (starts tag) ∷ (marks inside ++ (close_of tag b ∷ [])))) (closed s1)) (sym (h.2 ∙ is))
        (subst (λ ts. Comes ts (closed s1))
        (append_assoc (tokens ++ starts tag ∷ []) (tokens_of (marks inside)) (ends tag.name ∷ []) ∙ append_assoc tokens (starts tag ∷ []) (tokens_of (marks inside) ++ ends tag.name ∷ [])
        ∙ ap (λ ts. tokens ++ starts tag ∷ ts) (sym (tokens_of-append (marks inside) (token (ends tag.name) ∷ []))))
        done)
