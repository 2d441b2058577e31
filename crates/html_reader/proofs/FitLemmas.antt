-- Places where no token is refused.
use Rattle.std.proofs.Common.{◌≡◌, ℕ, ◌+◌, ◌<◌, List, [], ◌∷◌, length, Bool, true, false, ◌&&◌, cond, sym, refl, ◌∙◌, ap, subst, arith, Some, None, ltb}
use Rattle.std.specs.Prelude.{max, not, ◌||◌}
use Rattle.std.proofs.lemmas.Bool.{both_ways, and_parts}
use Rattle.text_base.specs.declared.reasons.PageReason.{PageReason}
use Rattle.text_base.specs.declared.reasons.PageReason.TheVariants.{StrayEnd, TextOutside, SecondRoot, Deep}
use Rattle.std.specs.Str.{bytes_eq}
use Rattle.std.proofs.lemmas.Slice.Eq.{bytes_eq-Decides}
use Rattle.html_reader.specs.Tokens.{Tag, Leaf, Tok, starts, ends, holds, Mark, token, shut}
use Rattle.html_reader.specs.Forest.{Forest, nothing, then_leaf, then_element, depth, width, is_white, is_white_leaf}
use Rattle.html_reader.specs.Places.{Place, outside, within, open_tags, root_at, most_open, IsRootPiece, CanStart, Fits}
use Rattle.html_reader.specs.Reading.{RefusesNext}
use Rattle.html_reader.proofs.PlaceLemmas.{append, add, lone, put, puts}
use Rattle.html_reader.proofs.WordLemmas.{went}

pub depth-append : (f g : Forest) → depth (append f g) ≡ max (depth f) (depth g)
depth-append nothing g = omega arith
depth-append (then_leaf leaf rest) g = depth-append rest g
depth-append (then_element tag inside inserted rest) g = omega (arith, depth-append rest g)

pub width-append : (f g : Forest) → width (append f g) ≡ width f + width g
width-append nothing g = omega arith
width-append (then_leaf leaf rest) g = width-append rest g
width-append (then_element tag inside inserted rest) g = omega (arith, width-append rest g)

and_assoc : (a b c : Bool) → (a && (b && c)) ≡ ((a && b) && c)
and_assoc true b c = refl
and_assoc false b c = refl

pub white-append : (f g : Forest) → is_white (append f g) ≡ (is_white f && is_white g)
white-append nothing g = refl
white-append (then_leaf leaf rest) g = ap (λ b. is_white_leaf leaf && b) (white-append rest g) ∙ and_assoc (is_white_leaf leaf) (is_white rest) (is_white g)
white-append (then_element tag inside inserted rest) g = white-append rest g

-- a piece less
root_less : (made : Bool) (piece f : Forest) → IsRootPiece made (append piece f) → IsRootPiece made piece
root_less true piece f h = tt
root_less false piece f h = ((and_parts (is_white piece) (is_white f) (sym (white-append piece f) ∙ h.0)).0, omega (arith, h.1, width-append piece f))

pub fits_less : (made : Bool) (p : Place) (f : Forest) → Fits made (add p f) → Fits made p
fits_less made (outside piece) f h = (root_less made piece f h.0, omega (arith, h.1, depth-append piece f))
fits_less made (within before tag piece) f h = (h.0, h.1, omega (arith, h.2, depth-append piece f))

can_open : (made : Bool) (q : Forest) (tag : Tag) (piece : Forest) (inserted : Bool) → IsRootPiece made (append q (lone tag piece inserted)) → CanStart made (outside q)
can_open true q tag piece inserted h = tt
can_open false q tag piece inserted h = omega (arith, h.1, width-append q (lone tag piece inserted))

can_within : (made : Bool) (b : Place) (t : Tag) (q : Forest) → CanStart made (within b t q)
can_within true b t q = tt
can_within false b t q = tt

pub fits_open : (made : Bool) (p : Place) (tag : Tag) (piece : Forest) (inserted : Bool) → Fits made (add p (lone tag piece inserted)) → Fits made (within p tag piece)
fits_open made (outside q) tag piece inserted h =
    (fits_less made (outside q) (lone tag piece inserted) h, can_open made q tag piece inserted h.0, omega (arith, h.1, depth-append q (lone tag piece inserted)))
fits_open made (within b t q) tag piece inserted h =
    (fits_less made (within b t q) (lone tag piece inserted) h, can_within made b t q, omega (arith, h.2, depth-append q (lone tag piece inserted)))

some_same : {A : Type 0} (x y : A) → Some x ≡ Some y → x ≡ y
some_same x y e = cc

-- what has one mark more fits, so the front of it did
pub fits_before : (made : Bool) (p x : Place) (m : Mark) → put p m ≡ Some x → Fits made x → Fits made p
fits_before made p x (token (starts tag)) is h = (subst (Fits made) (sym (some_same (within p tag nothing) x is)) h).0
fits_before made p x (token (holds leaf)) is h = fits_less made p (then_leaf leaf nothing) (subst (Fits made) (sym (some_same (add p (then_leaf leaf nothing)) x is)) h)
fits_before made (outside piece) x (token (ends name)) is h = cc
fits_before made (within before tag piece) x (token (ends name)) is h = by_name (bytes_eq tag.name name) is
  where
    by_name : (same : Bool) → cond same (Some (add before (lone tag piece false))) None ≡ Some x → Fits made (within before tag piece)
    by_name true is = fits_open made before tag piece false (subst (Fits made) (sym (some_same (add before (lone tag piece false)) x is)) h)
    by_name false is = cc
fits_before made (outside piece) x shut is h = cc
fits_before made (within before tag piece) x shut is h = fits_open made before tag piece true (subst (Fits made) (sym (some_same (add before (lone tag piece true)) x is)) h)

pub fits_front : (made : Bool) (p : Place) (w : List Mark) (q : Place) → puts p w ≡ Some q → Fits made q → Fits made p
fits_front made p [] q is h = subst (Fits made) (sym (some_same p q is)) h
fits_front made p (m ∷ w) q is h =
    let x = went p m w q is in
    fits_before made p x.place m x.is (fits_front made x.place w q x.rest h)

-- what is refused can not stand where all fits
second_refused : (made : Bool) (p : Place) → made ≡ false → open_tags p ≡ [] → (root_at made p).some ≡ true → CanStart made p → ⊥
second_refused true p h e r can = cc
second_refused false (outside piece) h e r can = both_ways _ (ap (ltb 0) can) (or_false (not (is_white piece)) (ltb 0 (width piece)) r)
  where
    or_false : (a b : Bool) → ((a && false) || b) ≡ true → b ≡ true
    or_false true b e = e
    or_false false b e = e
second_refused false (within before t piece) h e r can = cc

start_refused : (made : Bool) (p : Place) (tag : Tag) (reason : PageReason) → RefusesNext (open_tags p) (root_at made p) (Some (starts tag)) reason → CanStart made p → length (open_tags p) < most_open made → ⊥
start_refused made p tag SecondRoot r can room = second_refused made p r.0 r.1 r.2 can
start_refused made p tag Deep r can room = omega (arith, r, room)
start_refused made p tag r h can room = absurd h

end_refused : (made : Bool) (p x : Place) (name : List ℕ) (reason : PageReason) → RefusesNext (open_tags p) (root_at made p) (Some (ends name)) reason → put p (token (ends name)) ≡ Some x → ⊥
end_refused made (outside piece) x name StrayEnd r is = cc
end_refused made (within before tag piece) x name StrayEnd r is = by_name (bytes_eq tag.name name) refl is
  where
    by_name : (same : Bool) → bytes_eq tag.name name ≡ same → cond same (Some (add before (lone tag piece false))) None ≡ Some x → ⊥
    by_name true e is = r ((bytes_eq-Decides tag.name name).0 e)
    by_name false e is = cc
end_refused made p x name r h is = absurd h

text_refused : (made : Bool) (p : Place) (leaf : Leaf) → made ≡ false → open_tags p ≡ [] → is_white_leaf leaf ≡ false → Fits made (add p (then_leaf leaf nothing)) → ⊥
text_refused true p leaf m e r h = cc
text_refused false (outside piece) leaf m e r h =
    let two = and_parts (is_white piece) (is_white_leaf leaf && true) (sym (white-append piece (then_leaf leaf nothing)) ∙ h.0.0) in
    let one = and_parts (is_white_leaf leaf) true two.1 in
    both_ways _ r one.0
text_refused false (within before tag piece) leaf m e r h = cc

leaf_refused : (made : Bool) (p : Place) (leaf : Leaf) (reason : PageReason) → RefusesNext (open_tags p) (root_at made p) (Some (holds leaf)) reason → Fits made (add p (then_leaf leaf nothing)) → ⊥
leaf_refused made p leaf TextOutside r h = text_refused made p leaf r.0 r.1 r.2 h
leaf_refused made p leaf r h k = absurd h

pub not_refused : (made : Bool) (p x : Place) (t : Tok) (reason : PageReason) → put p (token t) ≡ Some x → Fits made x → RefusesNext (open_tags p) (root_at made p) (Some t) reason → ⊥
not_refused made p x (starts tag) reason is h r =
    let fits = subst (Fits made) (sym (some_same (within p tag nothing) x is)) h in
    start_refused made p tag reason r fits.1 (omega (arith, fits.2))
not_refused made p x (ends name) reason is h r = end_refused made p x name reason r is
not_refused made p x (holds leaf) reason is h r = leaf_refused made p leaf reason r (subst (Fits made) (sym (some_same (add p (then_leaf leaf nothing)) x is)) h)
