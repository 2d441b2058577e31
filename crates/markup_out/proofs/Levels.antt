-- How many levels are looked at makes no difference where they are enough.
use Rattle.std.proofs.Common.{◌≡◌, ℕ, zero, suc, ◌-◌, ◌<◌, ◌≤◌, List, [], ◌∷◌, ◌++◌, length, Bool, true, false, cond, refl, sym, ◌∙◌, ap, arith}
use Rattle.std.specs.Prelude.{filter, flat_map}
use Rattle.std.proofs.lemmas.Bool.{and_parts, ltb-true, eqb-true}
use Rattle.std.proofs.lemmas.List.{get_or_past}
use Rattle.doc_model.specs.declared.Axis.TheVariants as axis
use Rattle.doc_model.specs.Axes.{on_axis}
use Rattle.doc_model.specs.Document.{Row, Document, no_row, row, rows}
use Rattle.doc_model.proofs.Below.{Small, small}
use Rattle.markup_out.specs.Laws.{MarkupOfChildren}
use Rattle.markup_out.specs.Markup.{children, markup_of, markup_within, styled}

-- a child stands after its parent
pub child_behind : (doc : Document) (x y : ℕ) → Small doc → on_axis doc axis.Child x y ≡ true → x < y
child_behind doc x y m h =
    let two = and_parts _ _ (and_parts _ _ h).1 in
    let up : (row doc y).parent < y = m y (ltb-true 0 y two.0) in
    let is : (row doc y).parent ≡ x = eqb-true _ _ two.1 in
    omega (arith, up, is)

kept_same : (f g : ℕ → List ℕ) (x : ℕ) (xs : List ℕ) (b : Bool) → (b ≡ true → f x ≡ g x) → flat_map f xs ≡ flat_map g xs → flat_map f (cond b (x ∷ xs) xs) ≡ flat_map g (cond b (x ∷ xs) xs)
kept_same f g x xs true h e = ap (λ t. t ++ flat_map f xs) (h refl) ∙ ap (λ t. g x ++ t) e
kept_same f g x xs false h e = e

-- two maps that agree on what passes a test
pub same_on : (p : ℕ → Bool) (f g : ℕ → List ℕ) (xs : List ℕ) → ((y : ℕ) → p y ≡ true → f y ≡ g y) → flat_map f (filter p xs) ≡ flat_map g (filter p xs)
same_on p f g [] h = refl
same_on p f g (x ∷ xs) h = kept_same f g x (filter p xs) (p x) (h x) (same_on p f g xs h)

no_levels : (back : Bool) (doc : Document) (xs : List ℕ) → flat_map (markup_within zero back doc) xs ≡ []
unfolding markup_within
no_levels back doc [] = refl
no_levels back doc (x ∷ xs) = no_levels back doc xs

no_row_markup : (back : Bool) (doc : Document) (x : ℕ) → markup_of back no_row.kind doc x (flat_map (markup_within zero back doc) (children doc x)) ≡ []
no_row_markup back doc x = no_levels back doc (children doc x)

-- one level more makes no difference
one_more : (n : ℕ) (back : Bool) (doc : Document) (x : ℕ) → Small doc → length doc - x ≤ n → markup_within (suc n) back doc x ≡ markup_within n back doc x
unfolding markup_within
one_more zero back doc x m h =
    let past : row doc x ≡ no_row = get_or_past doc x no_row (omega arith) in
    ap (λ (r : Row). markup_of back r.kind doc x (flat_map (markup_within zero back doc) (children doc x))) past ∙ no_row_markup back doc x
one_more (suc n) back doc x m h =
    ap (markup_of back (row doc x).kind doc x)
    (same_on (on_axis doc axis.Child x) (markup_within (suc n) back doc) (markup_within n back doc) (rows doc)
    (λ y k. let after : x < y = child_behind doc x y m k in one_more n back doc y m (omega arith)))

unrolled : (n : ℕ) (back : Bool) (doc : Document) (x : ℕ) → length doc ≡ suc n → styled back doc x ≡ markup_of back (row doc x).kind doc x (flat_map (markup_within n back doc) (children doc x))
unfolding styled markup_within
unrolled n back doc x e = ap (λ k. markup_within k back doc x) e

levels_are : (back : Bool) (doc : Document) (y : ℕ) → markup_within (length doc) back doc y ≡ styled back doc y
unfolding styled
levels_are back doc y = refl

levels_at : (n : ℕ) (back : Bool) (doc : Document) (y : ℕ) → Small doc → length doc ≡ suc n → 0 < y → markup_within n back doc y ≡ styled back doc y
levels_at n back doc y m e some = sym (one_more n back doc y m (omega arith)) ∙ ap (λ k. markup_within k back doc y) (sym e) ∙ levels_are back doc y

-- the markup of a row is made of the markup of its children, where rows stand after their parents
pub markup_of_rows : (back : Bool) (doc : Document) (x : ℕ) → Small doc → 0 < length doc → styled back doc x ≡ markup_of back (row doc x).kind doc x (flat_map (styled back doc) (children doc x))
markup_of_rows back doc x m some =
    let n : ℕ = length doc - 1 in
    let e : length doc ≡ suc n = omega (arith, some) in
    unrolled n back doc x e
    ∙ ap (markup_of back (row doc x).kind doc x)
    (same_on (on_axis doc axis.Child x) (markup_within n back doc) (styled back doc) (rows doc)
    (λ y k. let behind : x < y = child_behind doc x y m k in levels_at n back doc y m e (omega arith)))

pub markup_of_children : MarkupOfChildren
markup_of_children doc x d = markup_of_rows false doc x (small doc d) d.some
