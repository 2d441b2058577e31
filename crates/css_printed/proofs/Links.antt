-- What each link relates, and the axis of its step.
use Rattle.std.proofs.Common.{◌≡◌, refl, ℕ, Bool, true, false, ◌&&◌, ◌||◌, not, eqb, ltb, ap, sym, ◌∙◌, ◌<◌, arith, lt-ltb}
use Rattle.std.proofs.lemmas.Bool.{ltb-true}
use Rattle.doc_model.specs.declared.Kind.{Kind}
use Rattle.doc_model.specs.declared.Kind.TheVariants.{Root, Element, Attribute, Text, Comment}
use Rattle.doc_model.specs.declared.Axis.TheVariants as axis
use Rattle.doc_model.specs.Document.{Document, row, is_element, is_attribute, is_element_kind, is_attribute_kind, is_parent, below}
use Rattle.doc_model.specs.Axes.{on_axis, is_principal}
use Rattle.css_selectors.specs.declared.selector.Link.{Link}
use Rattle.css_selectors.specs.declared.selector.Link.TheVariants as link
use Rattle.css_meaning.specs.Matching.{linked}
use Rattle.css_meaning.proofs.ListTests as lists
use Rattle.css_printed.specs.inner.LinkPredicates.{axis_of}

-- how the row of a part stands to the one before it: the first part's is the context row or below it
abbrev pub near : Document → Link → ℕ → ℕ → Bool
near doc link.First x y = (eqb y x) || below doc x y
near doc link.Descendant x y = linked doc link.Descendant x y
near doc link.Child x y = linked doc link.Child x y
near doc link.Next x y = linked doc link.Next x y
near doc link.Later x y = linked doc link.Later x y

-- an element is no attribute
no_attribute : (k : Kind) → is_element_kind k ≡ true → not (is_attribute_kind k) ≡ true
no_attribute Root h = refl
no_attribute Element h = refl
no_attribute Attribute h = cc
no_attribute Text h = refl
no_attribute Comment h = refl

pub is_no_attribute : (doc : Document) (y : ℕ) → is_element doc y ≡ true → not (is_attribute doc y) ≡ true
is_no_attribute doc y h = no_attribute (row doc y).kind h

descends : (n b : Bool) → n ≡ true → (n && b) ≡ b
descends n b h = ap (λ t. t && b) h

-- the axis of the link holds what the link relates, among elements
pub axis_near : (doc : Document) (x y : ℕ) → is_element doc y ≡ true → on_axis doc axis.DescendantOrSelf x y ≡ near doc link.First x y
axis_near doc x y h = ap (λ t. eqb y x || t) (descends _ (below doc x y) (is_no_attribute doc y h))

pub axis_descendant : (doc : Document) (x y : ℕ) → is_element doc y ≡ true → on_axis doc axis.Descendant x y ≡ linked doc link.Descendant x y
axis_descendant doc x y h = descends _ (below doc x y) (is_no_attribute doc y h)

pub axis_child : (doc : Document) (x y : ℕ) → is_element doc y ≡ true → on_axis doc axis.Child x y ≡ linked doc link.Child x y
axis_child doc x y h = descends _ (is_parent doc x y) (is_no_attribute doc y h)

pub principal_by : (doc : Document) (l : Link) (y : ℕ) → is_principal (axis_of l) doc y ≡ is_element doc y
principal_by doc link.First y = refl
principal_by doc link.Descendant y = refl
principal_by doc link.Child y = refl
principal_by doc link.Next y = refl
principal_by doc link.Later y = refl

-- ---- element siblings

siblings : (x0 y0 xa ya same less : Bool) → xa ≡ true → ya ≡ true → (less ≡ true → y0 ≡ true)
    → ((x0 && (y0 && (xa && (ya && same)))) && less) ≡ ((true && (x0 && same)) && less)
siblings true true true true same less a b c = refl
siblings false y0 true true same less a b c = refl
siblings true false true true same false a b c = sym (lists.and_false same)
siblings true false true true same true a b c = let z = c refl in cc
siblings x0 y0 false ya same less a b c = cc
siblings x0 y0 true false same less a b c = cc

pub above_zero : (x y : ℕ) → ltb x y ≡ true → ltb 0 y ≡ true
above_zero x y h = let less : x < y = ltb-true x y h in lt-ltb 0 y (omega arith)

pub axis_later : (doc : Document) (x y : ℕ) → is_element doc x ≡ true → is_element doc y ≡ true → on_axis doc axis.FollowingSibling x y ≡ linked doc link.Later x y
axis_later doc x y h k =
    siblings (ltb 0 x) (ltb 0 y) _ _ (eqb (row doc x).parent (row doc y).parent) (ltb x y) (is_no_attribute doc x h) (is_no_attribute doc y k) (above_zero x y)
    ∙ ap (λ e. (e && (ltb 0 x && eqb (row doc x).parent (row doc y).parent)) && ltb x y) (sym h)
