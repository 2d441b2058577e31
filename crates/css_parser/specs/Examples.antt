-- Some selectors as they are typed, and the lists that they are accepted as.
use Rattle.std.specs.Prelude.{ℕ, List, [], ◌∷◌, Some, None, codes, pos, negsuc}
use Rattle.css_selectors.specs.declared.selector.Link.TheVariants as link
use Rattle.css_selectors.specs.declared.selector.Nth.TheVariants as nth
use Rattle.css_selectors.specs.declared.selector.Op.TheVariants as op
use Rattle.css_selectors.specs.declared.selector.Pseudo.TheVariants as pseudo
use Rattle.css_selectors.specs.declared.selector.Relative.{roll-Relative}
use Rattle.css_selectors.specs.declared.selector.Selector.{Selector}
use Rattle.css_selectors.specs.declared.selector.Tail.TheVariants as tail
use Rattle.css_selectors.specs.declared.selector.Test.TheVariants as test
use Rattle.css_selectors.specs.declared.selector.Weight.TheVariants as weight
use Rattle.css_selectors.specs.Examples.{part, compound as choice, is, is_not, selector, single}
use Rattle.css_parser.specs.Selecting.{Accepts}

abbrev pub is_read : List ℕ → List Selector → Type 0
is_read text items = Accepts text (record { items = items })

pub record WorkedLists : Type 0 where
  pub next : is_read (codes "h1 + p") (selector (part link.First (Some (codes "h1")) [] ∷ part link.Next (Some (codes "p")) [] ∷ []) tail.Element ∷ [])
  pub nested : is_read (codes "UL > li a, b") (selector (part link.First (Some (codes "UL")) [] ∷ part link.Child (Some (codes "li")) [] ∷ part link.Descendant (Some (codes "a")) [] ∷ []) tail.Element ∷ single (Some (codes "b")) [] ∷ [])
  pub later : is_read (codes "h1 ~ p#x.y::text") (selector (part link.First (Some (codes "h1")) [] ∷ part link.Later (Some (codes "p")) (is (test.Id (codes "x")) ∷ is (test.Class (codes "y")) ∷ []) ∷ []) tail.Text ∷ [])
  pub begun : is_read (codes "a[href^='/p/']::attr(href)") (selector (part link.First (Some (codes "a")) (is (test.Attr (codes "href") op.Prefix (codes "/p/")) ∷ []) ∷ []) (tail.Attr (codes "href")) ∷ [])
  pub places : is_read (codes "li:nth-child(-n+3)") (single (Some (codes "li")) (is (test.Nth nth.Child (negsuc 0) (pos 3)) ∷ []) ∷ [])
  pub ticked : is_read (codes "input:checked") (single (Some (codes "input")) (is (test.Pseudo pseudo.Checked) ∷ []) ∷ [])
  pub denied : is_read (codes "p:not(.note)") (single (Some (codes "p")) (is_not (test.Class (codes "note")) ∷ []) ∷ [])
  pub either : is_read (codes ":is(h1, h2) > a") (selector (part link.First None (is (test.Any weight.Most (choice (Some (codes "h1")) [] ∷ choice (Some (codes "h2")) [] ∷ [])) ∷ []) ∷ part link.Child (Some (codes "a")) [] ∷ []) tail.Element ∷ [])
  pub ahead : is_read (codes "ul:has(> li.x + li)") (single (Some (codes "ul")) (is (test.Has (roll-Relative (record { parts = part link.Child (Some (codes "li")) (is (test.Class (codes "x")) ∷ []) ∷ part link.Next (Some (codes "li")) [] ∷ [] }) ∷ [])) ∷ []) ∷ [])
