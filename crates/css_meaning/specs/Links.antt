-- How two neighbours of a selector stand to each other, the left one at x and the right one at y. Selectors Level 3, section 8.
use Rattle.std.specs.Prelude.{ℕ, Bool, false}
use Rattle.doc_model.specs.Document.{Document, is_parent, below}
use Rattle.css_selectors.specs.declared.selector.Link.{Link}
use Rattle.css_selectors.specs.declared.selector.Link.TheVariants as link
use Rattle.css_meaning.specs.Siblings.{is_earlier, is_nearest_earlier}

-- x is an ancestor of y, its parent, the nearest element sibling before it, or some element sibling before it
abbrev pub linked : Document → Link → ℕ → ℕ → Bool
linked doc link.First x y = false
linked doc link.Descendant x y = below doc x y
linked doc link.Child x y = is_parent doc x y
linked doc link.Next x y = is_nearest_earlier doc x y
linked doc link.Later x y = is_earlier doc x y
