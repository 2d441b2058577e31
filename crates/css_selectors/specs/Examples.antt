-- Some selectors, how specific they are, and whether they are well made.
use Rattle.std.specs.Prelude.{◌≡◌, ℕ, zero, suc, Bool, true, false, List, [], ◌∷◌, Option, Some, None, codes, pos, negsuc}
use Rattle.css_selectors.specs.declared.selector.Compound.{Compound, roll-Compound}
use Rattle.css_selectors.specs.declared.selector.Link.{Link}
use Rattle.css_selectors.specs.declared.selector.Link.TheVariants as link
use Rattle.css_selectors.specs.declared.selector.Nth.TheVariants as nth
use Rattle.css_selectors.specs.declared.selector.Op.TheVariants as op
use Rattle.css_selectors.specs.declared.selector.Part.{Part, roll-Part}
use Rattle.css_selectors.specs.declared.selector.Pseudo.TheVariants as pseudo
use Rattle.css_selectors.specs.declared.selector.Selector.{Selector}
use Rattle.css_selectors.specs.declared.selector.SelectorList.{SelectorList}
use Rattle.css_selectors.specs.declared.selector.Simple.{Simple}
use Rattle.css_selectors.specs.declared.selector.Tail.{Tail}
use Rattle.css_selectors.specs.declared.selector.Tail.TheVariants as tail
use Rattle.css_selectors.specs.declared.selector.Test.{Test}
use Rattle.css_selectors.specs.declared.selector.Test.TheVariants as test
use Rattle.css_selectors.specs.declared.selector.Weight.TheVariants as weight
use Rattle.css_selectors.specs.Specificity.{triple, triple_of}
use Rattle.css_selectors.specs.WellMade.{FitsSimple, WellMade}

abbrev pub part : Link → Option (List ℕ) → List Simple → Part
part l name simples = roll-Part (record { link = l; element = name; simples = simples })

abbrev pub compound : Option (List ℕ) → List Simple → Compound
compound name simples = roll-Compound (record { element = name; simples = simples })

abbrev pub is : Test → Simple
is t = record { negated = false; test = t }

abbrev pub is_not : Test → Simple
is_not t = record { negated = true; test = t }

abbrev pub selector : List Part → Tail → Selector
selector parts t = record { parts = parts; tail = t }

-- one part
abbrev pub single : Option (List ℕ) → List Simple → Selector
single name simples = selector (part link.First name simples ∷ []) tail.Element

abbrev pub alone : Selector → SelectorList
alone s = record { items = s ∷ [] }

-- ul.wide > LI:nth-child(2n+1)
abbrev pub odd_items : Selector
odd_items =
    selector
    (part link.First (Some (codes "ul")) (is (test.Class (codes "wide")) ∷ [])
    ∷ part link.Child (Some (codes "LI")) (is (test.Nth nth.Child (pos 2) (pos 1)) ∷ [])
    ∷ [])
    tail.Element

-- li + li:not(:nth-last-of-type(-n+1))::text
abbrev pub middle_text : Selector
middle_text =
    selector
    (part link.First (Some (codes "li")) []
    ∷ part link.Next (Some (codes "li")) (is_not (test.Nth nth.LastOfType (negsuc 0) (pos 1)) ∷ [])
    ∷ [])
    tail.Text

-- [class^=good] ~ p:empty
abbrev pub later_paragraph : Selector
later_paragraph =
    selector
    (part link.First None (is (test.Attr (codes "class") op.Prefix (codes "good")) ∷ [])
    ∷ part link.Later (Some (codes "p")) (is (test.Pseudo pseudo.Empty) ∷ [])
    ∷ [])
    tail.Element

-- ul:not(#a) :lang(EN)::attr(lang)
abbrev pub english : Selector
english =
    selector
    (part link.First (Some (codes "ul")) (is_not (test.Id (codes "a")) ∷ [])
    ∷ part link.Descendant None (is (test.Lang (codes "EN")) ∷ [])
    ∷ [])
    (tail.Attr (codes "lang"))

-- *:first-of-type
abbrev pub first_of_any_type : Selector
first_of_any_type = single None (is (test.Nth nth.OfType (pos 0) (pos 1)) ∷ [])

-- a:is(.x, #y)
abbrev pub one_of_two : Selector
one_of_two =
    single (Some (codes "a"))
    (is (test.Any weight.Most (compound None (is (test.Class (codes "x")) ∷ []) ∷ compound None (is (test.Id (codes "y")) ∷ []) ∷ [])) ∷ [])

-- :where(li, td):not(p.x, b)
abbrev pub neither : Selector
neither =
    single None
    (is (test.Any weight.Zero (compound (Some (codes "li")) [] ∷ compound (Some (codes "td")) [] ∷ []))
    ∷ is_not (test.Any weight.Most (compound (Some (codes "p")) (is (test.Class (codes "x")) ∷ []) ∷ compound (Some (codes "b")) [] ∷ []))
    ∷ [])

-- li:is(:first-of-type)
abbrev pub first_item : Selector
first_item = single (Some (codes "li")) (is (test.Any weight.Most (compound None (is (test.Nth nth.OfType (pos 0) (pos 1)) ∷ []) ∷ [])) ∷ [])

-- :is(:first-of-type)
abbrev pub first_of_any : Selector
first_of_any = single None (is (test.Any weight.Most (compound None (is (test.Nth nth.OfType (pos 0) (pos 1)) ∷ []) ∷ [])) ∷ [])

-- `:is(` so many times and once more, `a`, and `)` as often
abbrev pub nested : ℕ → Simple
nested zero = is (test.Any weight.Most (compound (Some (codes "a")) [] ∷ []))
nested (suc n) = is (test.Any weight.Most (compound None (nested n ∷ []) ∷ []))

-- how specific they are, and which are not well made: seven choices may stand around another, and eight may not
pub record WorkedSelectors : Type 0 where
  pub odd_counts : triple_of odd_items ≡ triple 0 2 2
  pub middle_counts : triple_of middle_text ≡ triple 0 1 3
  pub english_counts : triple_of english ≡ triple 1 1 2
  pub greatest_counts : triple_of one_of_two ≡ triple 1 0 1
  pub where_counts_nothing : triple_of neither ≡ triple 0 1 1
  pub first_counts : triple_of first_item ≡ triple 0 1 1
  pub deepest : (inside : Bool) (around : Option (List ℕ)) → FitsSimple 8 inside around (nested 7)
  pub needs_a_type : WellMade (alone first_of_any_type) → ⊥
  pub needs_a_type_around : WellMade (alone first_of_any) → ⊥
  pub too_deep : WellMade (alone (single None (nested 8 ∷ []))) → ⊥
