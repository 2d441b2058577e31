-- Lists that are built by pushing.
use Rattle.std.proofs.Common.{◌≡◌, ℕ, ◌+◌, ◌<◌, ◌≤◌, List, [], ◌∷◌, ◌++◌, length, take, get_or, map, flat_map, sym, ◌∙◌, ap, append_assoc}
use Rattle.std.specs.List.{fold}
use Rattle.std.proofs.lemmas.List.{take_more, take_all, append-nil, map-append}
use Rattle.std.proofs.lemmas.List.Sums.{fold_more}
use Rattle.std.proofs.lemmas.Grind.{flat_map-append}
use Rattle.css_selectors.specs.declared.selector.Compound as choice
use Rattle.css_selectors.specs.declared.selector.Simple.{Simple}
use Rattle.css_selectors.specs.declared.selector.Tail.{Tail}
use Rattle.css_parser.specs.declared.pieces.Form.{Form}
use Rattle.css_parser.specs.declared.pieces.Form.TheOpen as open_
use Rattle.css_parser.specs.declared.pieces.Form.TheViews as views
use Rattle.css_parser.specs.declared.pieces.Form.TheVariants as form
use Rattle.css_parser.specs.declared.pieces.Piece.{Piece}
use Rattle.css_parser.specs.declared.pieces.Word.{Word}
use Rattle.css_parser.specs.declared.pieces.Inner.{Inner}
use Rattle.css_parser.specs.declared.pieces.Member.{Member, out-Member}
use Rattle.css_parser.specs.declared.pieces.Compound.{Compound}
use Rattle.css_parser.specs.Values.{form_simples, compound_of, compounds_in, relative_of}
use Rattle.css_parser.specs.Values.{part_of as inner_part}
use Rattle.css_parser.specs.Lists.{piece_tail, form_tail, part_of, tail_by, tail_after, tail_of, selector_of}
use Rattle.css_parser.proofs.ValueLemmas.{compounds_in_is}

pub nothing_more : (xs : List Simple) → xs ++ [] ≡ xs
nothing_more xs = append-nil xs

pub all_taken : {A : Type 0} (xs : List A) (i : ℕ) → length xs ≤ i → take i xs ≡ xs
all_taken xs i h = take_all i xs h

longer : {A : Type 0} (xs : List A) (i : ℕ) (x : A) → i < length xs → x ≡ get_or xs i x → take (i + 1) xs ≡ take i xs ++ x ∷ []
longer xs i x l e = take_more xs i x l ∙ ap (λ y. take i xs ++ y ∷ []) (sym e)

pub simples_more : (xs : List Form) (i : ℕ) (x : Form) → i < length xs → x ≡ get_or xs i x → flat_map form_simples (take (i + 1) xs) ≡ flat_map form_simples (take i xs) ++ form_simples x
simples_more xs i x l e =
    ap (flat_map form_simples) (longer xs i x l e) ∙ flat_map-append form_simples (take i xs) (x ∷ [])
    ∙ ap (λ ys. flat_map form_simples (take i xs) ++ ys) (append-nil (form_simples x))

-- what stands in a member, behind what was there
pub compounds_begun : (old : List choice.Compound) (xs : List Inner) → old ≡ old ++ map compound_of (take 0 xs)
compounds_begun old xs = sym (append-nil old)

pub compounds_more : (old : List choice.Compound) (xs : List Inner) (i : ℕ) (x : Inner) → i < length xs → x ≡ get_or xs i x
    → (old ++ map compound_of (take i xs)) ++ compound_of x ∷ [] ≡ old ++ map compound_of (take (i + 1) xs)
compounds_more old xs i x l e =
    append_assoc old (map compound_of (take i xs)) (compound_of x ∷ [])
    ∙ ap (λ ys. old ++ ys) (sym (ap (map compound_of) (longer xs i x l e) ∙ map-append compound_of (take i xs) (x ∷ [])))

pub compounds_done : (old : List choice.Compound) (m : Member) (i : ℕ) → length (out-Member m).parts ≤ i → old ++ map compound_of (take i (out-Member m).parts) ≡ old ++ compounds_in m
compounds_done old m i h = ap (λ xs. old ++ map compound_of xs) (all_taken (out-Member m).parts i h) ∙ ap (λ ys. old ++ ys) (sym (compounds_in_is m))

pub members_more : (xs : List Member) (i : ℕ) (x : Member) → i < length xs → x ≡ get_or xs i x → flat_map compounds_in (take (i + 1) xs) ≡ flat_map compounds_in (take i xs) ++ compounds_in x
members_more xs i x l e =
    ap (flat_map compounds_in) (longer xs i x l e) ∙ flat_map-append compounds_in (take i xs) (x ∷ [])
    ∙ ap (λ ys. flat_map compounds_in (take i xs) ++ ys) (append-nil (compounds_in x))

pub inner_parts_more : (xs : List Inner) (i : ℕ) (x : Inner) → i < length xs → x ≡ get_or xs i x → map inner_part (take (i + 1) xs) ≡ map inner_part (take i xs) ++ inner_part x ∷ []
inner_parts_more xs i x l e = ap (map inner_part) (longer xs i x l e) ∙ map-append inner_part (take i xs) (x ∷ [])

pub relatives_more : (xs : List Member) (i : ℕ) (x : Member) → i < length xs → x ≡ get_or xs i x → map relative_of (take (i + 1) xs) ≡ map relative_of (take i xs) ++ relative_of x ∷ []
relatives_more xs i x l e = ap (map relative_of) (longer xs i x l e) ∙ map-append relative_of (take i xs) (x ∷ [])

pub parts_more : (xs : List Compound) (i : ℕ) (x : Compound) → i < length xs → x ≡ get_or xs i x → map part_of (take (i + 1) xs) ≡ map part_of (take i xs) ++ part_of x ∷ []
parts_more xs i x l e = ap (map part_of) (longer xs i x l e) ∙ map-append part_of (take i xs) (x ∷ [])

pub selectors_more : (xs : List (List Compound)) (i : ℕ) (x : List Compound) → i < length xs → x ≡ get_or xs i x → map selector_of (take (i + 1) xs) ≡ map selector_of (take i xs) ++ selector_of x ∷ []
selectors_more xs i x l e = ap (map selector_of) (longer xs i x l e) ∙ map-append selector_of (take i xs) (x ∷ [])

pub tail_more : (old : Tail) (xs : List Form) (i : ℕ) (x : Form) → i < length xs → x ≡ get_or xs i x → fold tail_by old (take (i + 1) xs) ≡ tail_by (fold tail_by old (take i xs)) x
tail_more old xs i x l e = fold_more tail_by old xs i x l ∙ ap (tail_by (fold tail_by old (take i xs))) (sym e)

pub one_tail : (old : Tail) (p : Piece) → tail_by old (form.One p) ≡ piece_tail old p
one_tail old p = ap (tail_by old) (sym (form.rolls-One p)) ∙ ap (form_tail old) (views.out-roll-Form (open_.One p))

pub choice_tail : (old : Tail) (w : Word) (xs : List Member) → tail_by old (form.Choice w xs) ≡ old
choice_tail old w xs = ap (tail_by old) (sym (form.rolls-Choice w xs)) ∙ ap (form_tail old) (views.out-roll-Form (open_.Choice w xs))

pub deep_tail : (old : Tail) → tail_by old form.Deep ≡ old
deep_tail old = ap (tail_by old) (sym (form.rolls-Deep)) ∙ ap (form_tail old) (views.out-roll-Form open_.Deep)

pub tails_more : (xs : List Compound) (i : ℕ) (x : Compound) → i < length xs → x ≡ get_or xs i x → tail_of (take (i + 1) xs) ≡ tail_after (tail_of (take i xs)) x
tails_more xs i x l e = fold_more tail_after _ xs i x l ∙ ap (tail_after (tail_of (take i xs))) (sym e)
