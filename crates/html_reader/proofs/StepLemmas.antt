-- The machine goes from place to place.
use Rattle.std.proofs.Common.{◌≡◌, ℕ, ◌≤◌, ◌<◌, List, [], ◌∷◌, ◌++◌, length, Bool, true, false, ◌&&◌, cond, sym, refl, ◌∙◌, ap, subst, arith, Option, Some, None, Ok, Err, append-nil, eqb, eqb-true, inl, inr, ◌⊎◌, ltb, lt-ltb}
use Rattle.std.specs.Prelude.{Result, not, ◌||◌}
use Rattle.std.proofs.lemmas.Slice.Eq.{bytes_eq-Decides}
use Rattle.std.proofs.lemmas.Bool.{both_ways, eq-eqb, not-true, and_parts}
use Rattle.text_base.specs.declared.reasons.PageReason.{PageReason}
use Rattle.text_base.specs.declared.reasons.PageReason.TheVariants.{StrayEnd, TextOutside, SecondRoot, Deep}
use Rattle.html_reader.specs.Tokens.{Tag, Leaf, Tok, starts, ends, holds, Mark, token, shut}
use Rattle.html_reader.specs.Forest.{Forest, nothing, then_leaf, width, is_white, is_white_leaf}
use Rattle.html_reader.specs.Places.{Place, outside, within, place_marks, open_tags, is_some, root_at, most_open, IsRootPiece, CanStart, Fits, Grown}
use Rattle.html_reader.specs.declared.reader.Root.{Root}
use Rattle.html_reader.specs.Words.{tokens_of, next_token, begins_shut, is_shut, IsFull}
use Rattle.html_reader.specs.inner.Machine.{State, state, after_leaf, step, opened, held, closed, closing, is_innermost, is_empty, after_shuts}
use Rattle.html_reader.specs.Reading.{Leads, Refuses, RefusesNext, Strays}
use Rattle.html_reader.specs.inner.Reached.{state_at, IsSome, IsPart, Reached}
use Rattle.html_reader.proofs.PlaceLemmas.{append, add, lone, put, put_marks, one_place}
use Rattle.html_reader.proofs.RowLemmas.{leaf_grown, close_grown}
use Rattle.html_reader.proofs.FitLemmas.{depth-append, width-append, white-append}
use Rattle.html_reader.proofs.PageLemmas.{tokens_of-append}

pub add_open : (p : Place) (f : Forest) → open_tags (add p f) ≡ open_tags p
add_open (outside piece) f = refl
add_open (within before tag piece) f = refl

abbrev same_root : Bool → Bool → Root
same_root made some = record { made = made; some = some }

or_true : (b : Bool) → (b || true) ≡ true
or_true true = refl
or_true false = refl

more_text : (w m a b : Bool) → ((not (a && (b && true)) && m) || w) ≡ ((not b && m) || ((not a && m) || w))
more_text w m true true = refl
more_text w m true false = refl
more_text w true false b = sym (or_true (not b && true))
more_text w false false true = refl
more_text w false false false = refl

leaf_rooted : (made : Bool) (p : Place) (leaf : Leaf) → root_at made (add p (then_leaf leaf nothing)) ≡ after_leaf (root_at made p) leaf
leaf_rooted made (outside piece) leaf =
    ap (λ (b : Bool). same_root made b) (ap (λ n. (not (is_white (append piece (then_leaf leaf nothing))) && made) || ltb 0 n) (omega (arith, width-append piece (then_leaf leaf nothing)))
    ∙ ap (λ b. (not b && made) || ltb 0 (width piece)) (white-append piece (then_leaf leaf nothing))
    ∙ more_text (ltb 0 (width piece)) made (is_white piece) (is_white_leaf leaf))
leaf_rooted made (within before tag piece) leaf = ap (λ (b : Bool). same_root made b) (sym (or_true (not (is_white_leaf leaf) && made)))

close_rooted : (made : Bool) (p : Place) (tag : Tag) (piece : Forest) (inserted : Bool) → root_at made (add p (lone tag piece inserted)) ≡ root_at made (within p tag piece)
close_rooted made (outside q) tag piece inserted =
    ap (λ (b : Bool). same_root made b) (ap (λ b. (not (is_white (append q (lone tag piece inserted))) && made) || b) (lt-ltb 0 (width (append q (lone tag piece inserted))) (omega (arith, width-append q (lone tag piece inserted)))) ∙ or_true (not (is_white (append q (lone tag piece inserted))) && made))
close_rooted made (within before t q) tag piece inserted = refl

same_state : {a b : List Tag} {r s : Root} {g h : Grown} → a ≡ b → r ≡ s → g ≡ h → state a r g ≡ state b s h
same_state e f k = λ i. state (e i) (f i) (k i)

pub leaf_state : (made : Bool) (p : Place) (leaf : Leaf) → state_at made (add p (then_leaf leaf nothing)) ≡ held (state_at made p) leaf
leaf_state made p leaf = same_state (add_open p (then_leaf leaf nothing)) (leaf_rooted made p leaf) (leaf_grown made p leaf)

pub close_state : (made : Bool) (p : Place) (tag : Tag) (piece : Forest) (inserted : Bool) → state_at made (add p (lone tag piece inserted)) ≡ closed (state_at made (within p tag piece))
close_state made p tag piece inserted = same_state (add_open p (lone tag piece inserted)) (close_rooted made p tag piece inserted) (close_grown made p tag piece inserted)

-- what fits
root_leaf : (made : Bool) (piece : Forest) (leaf : Leaf) → IsRootPiece made piece → (not made && not (is_white_leaf leaf)) ≡ false → IsRootPiece made (append piece (then_leaf leaf nothing))
root_leaf true piece leaf h white = tt
root_leaf false piece leaf h white =
    (white-append piece (then_leaf leaf nothing) ∙ (λ i. h.0 i && (not_not (is_white_leaf leaf) white i && true)), omega (arith, h.1, width-append piece (then_leaf leaf nothing)))
  where
    not_not : (b : Bool) → not b ≡ false → b ≡ true
    not_not true e = refl
    not_not false e = cc

fits_leaf : (made : Bool) (p : Place) (leaf : Leaf) → Fits made p → (not made && (is_empty (open_tags p) && not (is_white_leaf leaf))) ≡ false → Fits made (add p (then_leaf leaf nothing))
fits_leaf made (outside piece) leaf h white = (root_leaf made piece leaf h.0 white, omega (arith, h.1, depth-append piece (then_leaf leaf nothing)))
fits_leaf made (within before tag piece) leaf h white = (h.0, h.1, omega (arith, h.2, depth-append piece (then_leaf leaf nothing)))

pub open_few : (made : Bool) (p : Place) → Fits made p → length (open_tags p) ≤ most_open made
open_few made (outside piece) h = omega arith
open_few made (within before tag piece) h = omega (arith, h.2)

can_start : (made : Bool) (p : Place) → (not made && (is_empty (open_tags p) && is_some made p)) ≡ false → CanStart made p
can_start true p h = tt
can_start false (outside piece) h = let none : (0 < width piece → ⊥) = (λ l. both_ways _ (or_false (not (is_white piece)) (ltb 0 (width piece)) h) (lt-ltb 0 (width piece) l)) in omega (arith, none)
  where
    or_false : (a b : Bool) → ((a && false) || b) ≡ false → b ≡ false
    or_false true b e = e
    or_false false b e = e
can_start false (within before tag piece) h = tt

root_close : (made : Bool) (q : Forest) (tag : Tag) (piece : Forest) (inserted : Bool) → IsRootPiece made q → CanStart made (outside q) → IsRootPiece made (append q (lone tag piece inserted))
root_close true q tag piece inserted h can = tt
root_close false q tag piece inserted h can = (white-append q (lone tag piece inserted) ∙ (λ i. h.0 i && true), omega (arith, can, width-append q (lone tag piece inserted)))

fits_close : (made : Bool) (p : Place) (tag : Tag) (piece : Forest) (inserted : Bool) → Fits made (within p tag piece) → Fits made (add p (lone tag piece inserted))
fits_close made (outside q) tag piece inserted h =
    let f = h.0 in (root_close made q tag piece inserted f.0 h.1, omega (arith, f.1, h.2, depth-append q (lone tag piece inserted)))
fits_close made (within before t q) tag piece inserted h = let f = h.0 in (f.0, f.1, omega (arith, f.2, h.2, depth-append q (lone tag piece inserted)))

-- a mark more
pub record Goes (made : Bool) (p : Place) (m : Mark) (s : State) : Type 0 where
  pub place : Place
  pub is : put p m ≡ Some place
  pub fits : Fits made place
  pub state : state_at made place ≡ s

pub guard_ok : {A : Type 0} (b : Bool) (e : PageReason) (x : Result A PageReason) (y : A) → cond b (Err e) x ≡ Ok y → (b ≡ false) × (x ≡ Ok y)
guard_ok true e x y h = cc
guard_ok false e x y h = (refl, h)

guard_err : {A : Type 0} (b : Bool) (e d : PageReason) (x : Result A PageReason) → cond b (Err e) x ≡ Err d → ((b ≡ true) × (e ≡ d)) ⊎ (x ≡ Err d)
guard_err true e d x h = inl (refl, same_err h)
  where
    same_err : {A : Type 0} → ◌≡◌ {A = Result A PageReason} (Err e) (Err d) → e ≡ d
    same_err h = cc
guard_err false e d x h = inr h

pub same_ok : {A : Type 0} (x y : A) → ◌≡◌ {A = Result A PageReason} (Ok x) (Ok y) → x ≡ y
same_ok x y e = cc

goes_end : (made : Bool) (p : Place) (name : List ℕ) (s : State) → Fits made p → (named : Bool) → is_innermost (open_tags p) name ≡ named → cond named (Ok (closed (state_at made p))) (Err StrayEnd) ≡ Ok s → Goes made p (token (ends name)) s
goes_end made (outside piece) name s fits true is h = cc
goes_end made (within before tag piece) name s fits true is h =
    record {
      place = add before (lone tag piece false);
      is = ap (λ b. cond b (Some (add before (lone tag piece false))) None) is;
      fits = fits_close made before tag piece false fits;
      state = close_state made before tag piece false ∙ same_ok _ _ h;
    }
goes_end made p name s fits false is h = cc

pub goes : (made : Bool) (p : Place) (t : Tok) (s : State) → Fits made p → step (state_at made p) t ≡ Ok s → Goes made p (token t) s
goes made p (starts tag) s fits h =
    let free = guard_ok _ _ _ _ h in
    let room = guard_ok _ _ _ _ free.1 in
    let few = open_few made p fits in
    let less : (length (open_tags p) ≡ most_open made → ⊥) = (λ e. both_ways _ room.0 (eq-eqb _ _ e)) in
    record {
      place = within p tag nothing;
      is = refl;
      fits = (fits, can_start made p free.0, omega (arith, few, less));
      state = same_ok _ _ room.1;
    }
goes made p (ends name) s fits h = goes_end made p name s fits _ refl h
goes made p (holds leaf) s fits h =
    let free = guard_ok _ _ _ _ h in
    record { place = add p (then_leaf leaf nothing); is = refl; fits = fits_leaf made p leaf fits free.0; state = leaf_state made p leaf ∙ same_ok _ _ free.1 }

goes_shut_at : (made : Bool) (p : Place) (next : Option Tok) → Fits made p → is_shut (open_tags p) next ≡ true → Goes made p shut (closed (state_at made p))
goes_shut_at made (outside piece) next fits h = cc
goes_shut_at made (within before tag piece) next fits h =
    record { place = add before (lone tag piece true); is = refl; fits = fits_close made before tag piece true fits; state = close_state made before tag piece true }

-- a token that is refused
no_tags : (tags : List Tag) → is_empty tags ≡ true → tags ≡ []
no_tags [] h = refl
no_tags (t ∷ ts) h = cc

reason_is : (tags : List Tag) (rooted : Root) (next : Option Tok) (e d : PageReason) → e ≡ d → RefusesNext tags rooted next e → RefusesNext tags rooted next d
reason_is tags rooted next e d is h = subst (RefusesNext tags rooted next) is h

strays : (tags : List Tag) (name : List ℕ) → is_innermost tags name ≡ false → Strays tags name
strays [] name h = tt
strays (tag ∷ before) name h = λ e. both_ways _ h ((bytes_eq-Decides tag.name name).1 e)

stray_err : (b : Bool) (s : State) (r : PageReason) → cond b (Ok s) (Err StrayEnd) ≡ Err r → (b ≡ false) × (StrayEnd ≡ r)
stray_err true s r h = cc
stray_err false s r h = (refl, cc)

pub refused : (s : State) (t : Tok) (r : PageReason) → step s t ≡ Err r → RefusesNext s.tags s.rooted (Some t) r
refused s (starts tag) r h =
    elim (guard_err (not s.rooted.made && (is_empty s.tags && s.rooted.some)) SecondRoot r (cond (eqb (length s.tags) (most_open s.rooted.made)) (Err Deep) (Ok (opened s tag))) h) [
      | inl second ↦ let parts = and_parts _ _ second.0 in let two = and_parts _ _ parts.1 in reason_is s.tags s.rooted (Some (starts tag)) SecondRoot r second.1 (not-true _ parts.0, no_tags _ two.0, two.1)
      | inr later ↦
          elim (guard_err (eqb (length s.tags) (most_open s.rooted.made)) Deep r (Ok (opened s tag)) later) [
            | inl deep ↦ reason_is s.tags s.rooted (Some (starts tag)) Deep r deep.1 (eqb-true _ _ deep.0)
            | inr taken ↦ cc
          ]
    ]
refused s (ends name) r h = let parts = stray_err _ _ _ h in reason_is s.tags s.rooted (Some (ends name)) StrayEnd r parts.1 (strays s.tags name parts.0)
refused s (holds leaf) r h =
    elim (guard_err (not s.rooted.made && (is_empty s.tags && not (is_white_leaf leaf))) TextOutside r (Ok (held s leaf)) h) [
      | inl out ↦ let parts = and_parts _ _ out.0 in let two = and_parts _ _ parts.1 in reason_is s.tags s.rooted (Some (holds leaf)) TextOutside r out.1 (not-true _ parts.0, no_tags _ two.0, not-true _ two.1)
      | inr taken ↦ cc
    ]

pub full_of : (p : Place) (after : Option Tok) → IsPart (place_marks p) after → is_shut (open_tags p) after ≡ false → IsFull (place_marks p) after
full_of p after part still u [] e = ap (λ q. is_shut (open_tags q) after) (one_place u p (sym (append-nil (place_marks u)) ∙ e)) ∙ still
full_of p after part still u (m ∷ v) e = part u (m ∷ v) e tt

-- a word cut before its last mark, or at its end
pub data Cut (u v w : List Mark) (m : Mark) : Type 0 where
  at_end : v ≡ [] → Cut u v w m
  earlier : (front : List Mark) → v ≡ front ++ m ∷ [] → u ++ front ≡ w → Cut u v w m

cut_more : (a : Mark) (u v w : List Mark) (m : Mark) → Cut u v w m → Cut (a ∷ u) v (a ∷ w) m
cut_more a u v w m (at_end e) = at_end e
cut_more a u v w m (earlier front e f) = earlier front e (ap (λ x. a ∷ x) f)

same_cons : {a b : Mark} {v w : List Mark} → a ∷ v ≡ b ∷ w → (a ≡ b) × (v ≡ w)
same_cons e = (cc, cc)

pub cut : (u v w : List Mark) (m : Mark) → u ++ v ≡ w ++ m ∷ [] → Cut u v w m
cut [] v w m e = earlier w e refl
cut (a ∷ u) v [] m e = at_end (nil_of u v (same_cons e).1)
  where
    nil_of : (u v : List Mark) → u ++ v ≡ [] → v ≡ []
    nil_of [] v e = e
    nil_of (b ∷ u) v e = cc
cut (a ∷ u) v (b ∷ w) m e = let parts = same_cons e in subst (λ x. Cut (a ∷ u) v (x ∷ w) m) parts.0 (cut_more a u v w m (cut u v w m parts.1))

next_before_token : (v : List Mark) (t : Tok) (after : Option Tok) → next_token (v ++ token t ∷ []) after ≡ next_token v (Some t)
next_before_token [] t after = refl
next_before_token (shut ∷ v) t after = next_before_token v t after
next_before_token (token u ∷ v) t after = refl

next_before_shut : (v : List Mark) (after : Option Tok) → next_token (v ++ shut ∷ []) after ≡ next_token v after
next_before_shut [] after = refl
next_before_shut (shut ∷ v) after = next_before_shut v after
next_before_shut (token u ∷ v) after = refl

begins_front : (a : Mark) (v : List Mark) (m : Mark) → begins_shut ((a ∷ v) ++ m ∷ []) ≡ begins_shut (a ∷ v)
begins_front shut v m = refl
begins_front (token t) v m = refl

-- a token, where no end must stand
pub part_token : (p : Place) (t : Tok) → IsPart (place_marks p) (Some t) → is_shut (open_tags p) (Some t) ≡ false → (after : Option Tok) → IsPart (place_marks p ++ token t ∷ []) after
part_token p t part still after u v e some = by_cut (cut (place_marks u) v (place_marks p) (token t) e)
  where
    by_front : (front : List Mark) → place_marks u ++ front ≡ place_marks p → is_shut (open_tags u) (next_token (front ++ token t ∷ []) after) ≡ begins_shut (front ++ token t ∷ [])
    by_front [] f = ap (λ q. is_shut (open_tags q) (Some t)) (one_place u p (sym (append-nil (place_marks u)) ∙ f)) ∙ still
    by_front (a ∷ front) f = ap (is_shut (open_tags u)) (next_before_token (a ∷ front) t after) ∙ part u (a ∷ front) f tt ∙ sym (begins_front a front (token t))

    by_cut : Cut (place_marks u) v (place_marks p) (token t) → is_shut (open_tags u) (next_token v after) ≡ begins_shut v
    by_cut (at_end e) = absurd (subst IsSome e some)
    by_cut (earlier front e f) = subst (λ x. is_shut (open_tags u) (next_token x after) ≡ begins_shut x) (sym e) (by_front front f)

-- an inserted end, where one must stand
pub part_shut : (p : Place) (after : Option Tok) → IsPart (place_marks p) after → is_shut (open_tags p) after ≡ true → IsPart (place_marks p ++ shut ∷ []) after
part_shut p after part must u v e some = by_cut (cut (place_marks u) v (place_marks p) shut e)
  where
    by_front : (front : List Mark) → place_marks u ++ front ≡ place_marks p → is_shut (open_tags u) (next_token (front ++ shut ∷ []) after) ≡ begins_shut (front ++ shut ∷ [])
    by_front [] f = ap (λ q. is_shut (open_tags q) after) (one_place u p (sym (append-nil (place_marks u)) ∙ f)) ∙ must
    by_front (a ∷ front) f = ap (is_shut (open_tags u)) (next_before_shut (a ∷ front) after) ∙ part u (a ∷ front) f tt ∙ sym (begins_front a front shut)

    by_cut : Cut (place_marks u) v (place_marks p) shut → is_shut (open_tags u) (next_token v after) ≡ begins_shut v
    by_cut (at_end e) = absurd (subst IsSome e some)
    by_cut (earlier front e f) = subst (λ x. is_shut (open_tags u) (next_token x after) ≡ begins_shut x) (sym e) (by_front front f)

pub reach_leads : (tokens : List Tok) (next : Option Tok) (s : State) (h : Reached tokens next s) → is_shut s.tags next ≡ false → Leads s.rooted.made tokens next h.place
reach_leads tokens next s h still =
    record { spelled = h.spelled; full = full_of h.place next h.part (ap (λ (x : State). is_shut x.tags next) h.state ∙ still); fits = h.fits }

pub reach_token : (tokens : List Tok) (t : Tok) (s new : State) → Reached tokens (Some t) s → is_shut s.tags (Some t) ≡ false → step s t ≡ Ok new → (after : Option Tok) → Reached (tokens ++ t ∷ []) after new
reach_token tokens t s new h still taken after =
    let p = h.place in
    let went = goes s.rooted.made p t new h.fits (ap (λ x. step x t) h.state ∙ taken) in
    let made : s.rooted.made ≡ new.rooted.made = ap (λ (x : State). x.rooted.made) went.state in
    let more = put_marks p went.place (token t) went.is in
    record {
      place = went.place;
      spelled = ap tokens_of more ∙ tokens_of-append (place_marks p) (token t ∷ []) ∙ ap (λ x. x ++ t ∷ []) h.spelled;
      part = subst (λ w. IsPart w after) (sym more) (part_token p t h.part (ap (λ (x : State). is_shut x.tags (Some t)) h.state ∙ still) after);
      fits = subst (λ m. Fits m went.place) made went.fits;
      state = ap (λ m. state_at m went.place) (sym made) ∙ went.state;
    }

pub reach_shut : (tokens : List Tok) (next : Option Tok) (s : State) → Reached tokens next s → is_shut s.tags next ≡ true → Reached tokens next (closed s)
reach_shut tokens next s h must =
    let p = h.place in
    let must' = ap (λ (x : State). is_shut x.tags next) h.state ∙ must in
    let went = goes_shut_at s.rooted.made p next h.fits must' in
    let more = put_marks p went.place shut went.is in
    record {
      place = went.place;
      spelled = ap tokens_of more ∙ tokens_of-append (place_marks p) (shut ∷ []) ∙ append-nil (tokens_of (place_marks p)) ∙ h.spelled;
      part = subst (λ w. IsPart w next) (sym more) (part_shut p next h.part must');
      fits = went.fits;
      state = went.state ∙ ap closed h.state;
    }

pub shuts_made : (next : Option Tok) (tags : List Tag) (rooted : Root) (g : Grown) → (after_shuts next tags rooted g).rooted.made ≡ rooted.made
shuts_made next [] rooted g = refl
shuts_made next (tag ∷ before) rooted g = by_test (is_shut (tag ∷ before) next) (shuts_made next before rooted (closing g))
  where
    by_test : (b : Bool) → (after_shuts next before rooted (closing g)).rooted.made ≡ rooted.made → (cond b (after_shuts next before rooted (closing g)) (state (tag ∷ before) rooted g)).rooted.made ≡ rooted.made
    by_test true h = h
    by_test false h = refl

pub reach_shuts : (tokens : List Tok) (next : Option Tok) (tags : List Tag) (rooted : Root) (g : Grown) → Reached tokens next (state tags rooted g)
    → Reached tokens next (after_shuts next tags rooted g) × (is_shut (after_shuts next tags rooted g).tags next ≡ false)
reach_shuts tokens next [] rooted g h = (h, refl)
reach_shuts tokens next (tag ∷ before) rooted g h =
    by_test (is_shut (tag ∷ before) next) refl (λ k. reach_shuts tokens next before rooted (closing g) k)
  where
    by_test : (b : Bool) → is_shut (tag ∷ before) next ≡ b
        → (Reached tokens next (state before rooted (closing g)) → Reached tokens next (after_shuts next before rooted (closing g)) × (is_shut (after_shuts next before rooted (closing g)).tags next ≡ false))
        → Reached tokens next (cond b (after_shuts next before rooted (closing g)) (state (tag ∷ before) rooted g)) × (is_shut (cond b (after_shuts next before rooted (closing g)) (state (tag ∷ before) rooted g)).tags next ≡ false)
    by_test true is later = later (reach_shut tokens next (state (tag ∷ before) rooted g) h is)
    by_test false is later = (h, is)

pub reach_refused : (tokens : List Tok) (t : Tok) (s : State) (r : PageReason) → Reached tokens (Some t) s → is_shut s.tags (Some t) ≡ false → step s t ≡ Err r → Refuses s.rooted.made tokens (Some t) r
reach_refused tokens t s r h still is =
    record { place = h.place; leads = reach_leads tokens (Some t) s h still; refused = refused (state_at s.rooted.made h.place) t r (ap (λ x. step x t) h.state ∙ is) }
