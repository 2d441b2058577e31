-- The siblings of an element, itself included, and its position among them. Selectors Level 3, sections 6.6.5 and 8.3.
use Rattle.std.specs.Prelude.{ℕ, suc, Bool, ◌&&◌, ◌==◌, nat_lt, not, filter, length}
use Rattle.std.specs.List.{list_any}
use Rattle.std.specs.Str.{bytes_eq}
use Rattle.doc_model.specs.Document.{Document, row, rows, is_element, is_parent}
use Rattle.css_selectors.specs.declared.selector.Nth.{Nth}
use Rattle.css_selectors.specs.declared.selector.Nth.TheVariants as nth

-- y is an element with the parent of e
abbrev pub is_sibling : Document → ℕ → ℕ → Bool
is_sibling doc e y = is_element doc y && is_parent doc (row doc e).parent y

-- and has the name of e
abbrev pub is_of_type : Document → ℕ → ℕ → Bool
is_of_type doc e y = is_sibling doc e y && bytes_eq (row doc y).name (row doc e).name

-- how many rows that pass the test stand before e
abbrev pub count_before : Document → (ℕ → Bool) → ℕ → ℕ
count_before doc test e = length (filter (λ y. test y && nat_lt y e) (rows doc))

-- and how many after e
abbrev pub count_after : Document → (ℕ → Bool) → ℕ → ℕ
count_after doc test e = length (filter (λ y. test y && nat_lt e y) (rows doc))

-- the position of e, from 1: from the first or from the last, among all siblings or those of its name
abbrev pub position : Document → Nth → ℕ → ℕ
position doc nth.Child e = suc (count_before doc (is_sibling doc e) e)
position doc nth.LastChild e = suc (count_after doc (is_sibling doc e) e)
position doc nth.OfType e = suc (count_before doc (is_of_type doc e) e)
position doc nth.LastOfType e = suc (count_after doc (is_of_type doc e) e)

-- no row but e passes the test
abbrev pub is_only : Document → (ℕ → Bool) → ℕ → Bool
is_only doc test e = not (list_any (λ y. test y && not (y == e)) (rows doc))

-- x is an element sibling of y and stands before it
abbrev pub is_earlier : Document → ℕ → ℕ → Bool
is_earlier doc x y = is_sibling doc y x && nat_lt x y

-- and no element sibling of y stands between
abbrev pub is_nearest_earlier : Document → ℕ → ℕ → Bool
is_nearest_earlier doc x y = is_earlier doc x y && not (list_any (λ z. is_earlier doc z y && nat_lt x z) (rows doc))
