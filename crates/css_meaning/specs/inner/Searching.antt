-- What is left of a search for the parts of a selector, from the last part to the first.
use Rattle.std.specs.Prelude.{◌≡◌, ℕ, suc, ◌+◌, ◌*◌, ◌<◌, ◌≤◌, max, Bool, true, false, ◌&&◌, ◌||◌, List, [], ◌∷◌, length, take, reverse, Option, Some, None}
use Rattle.std.specs.List.{list_any}
use Rattle.doc_model.specs.Document.{Document, row, rows, below}
use Rattle.css_selectors.specs.declared.selector.Dialect.{Dialect}
use Rattle.css_selectors.specs.declared.selector.Link.{Link}
use Rattle.css_selectors.specs.declared.selector.Part.{Part, out-Part}
use Rattle.css_meaning.specs.declared.searching.Mark.{Mark}
use Rattle.css_meaning.specs.declared.searching.Outcome.{Outcome}
use Rattle.css_meaning.specs.declared.searching.Outcome.TheVariants as outcome
use Rattle.css_meaning.specs.declared.searching.Search.{Search}
use Rattle.css_meaning.specs.Siblings.{is_earlier}
use Rattle.css_meaning.specs.Holding.{holds}
use Rattle.css_meaning.specs.Links.{linked}

-- where a search ends: anywhere, or where the first part stands to one row as its link says
abbrev pub is_end : Document → Option ℕ → Link → ℕ → Bool
is_end doc None k e = true
is_end doc (Some x) k e = linked doc k x e

-- Read from the right: the last part holds at e, and the parts before it lead to what stands to e as its link says, and
-- so on to the end.
unfoldable pub leads_back : Document → Dialect → Option ℕ → List Part → ℕ → Bool
leads_back doc dialect from [] e = false
leads_back doc dialect from (p ∷ []) e = holds doc dialect p e && is_end doc from (out-Part p).link e
leads_back doc dialect from (p ∷ q ∷ ps) e = holds doc dialect p e && list_any (λ x. linked doc (out-Part p).link x e && leads_back doc dialect from (q ∷ ps) x) (rows doc)

-- the first so many parts match at x
unfoldable pub is_matched : Document → Dialect → Option ℕ → List Part → ℕ → ℕ → Bool
is_matched doc dialect from parts left x = leads_back doc dialect from (reverse (take left parts)) x

-- the mark's parts match at an earlier sibling of its row
abbrev pub is_matched_before : Document → Dialect → Option ℕ → List Part → Mark → Bool
is_matched_before doc dialect from parts m = list_any (λ z. is_earlier doc z m.row && is_matched doc dialect from parts m.left z) (rows doc)

-- the mark's parts match at a row above its row
abbrev pub is_matched_above : Document → Dialect → Option ℕ → List Part → Mark → Bool
is_matched_above doc dialect from parts m = list_any (λ z. below doc z m.row && is_matched doc dialect from parts m.left z) (rows doc)

-- what the search tries now or may go on to is matched
unfoldable pub is_promising : Document → Dialect → Option ℕ → List Part → Search → Bool
is_promising doc dialect from parts s =
    is_matched doc dialect from parts s.at.left s.at.row
    || (is_matched_before doc dialect from parts s.sibling || is_matched_above doc dialect from parts s.ancestor)

-- z is farther out than x: its parent is above that of x
abbrev pub is_outer : Document → ℕ → ℕ → Bool
is_outer doc z x = below doc (row doc z).parent (row doc x).parent

pub record IsMark (doc : Document) (parts : List Part) (m : Mark) : Type 0 where
  pub some : 0 < m.left
  pub within : m.left ≤ length parts
  pub row : m.row < length doc

-- some number from which the relation leads to x, and where the first so many parts match
abbrev pub IsFound : Document → Dialect → Option ℕ → List Part → (ℕ → ℕ → Bool) → ℕ → ℕ → Type 0
IsFound doc dialect from parts related left x = (w : ℕ) × (related w x ≡ true) × (is_matched doc dialect from parts left w ≡ true)

-- where the parts of m match at an earlier sibling of its row, those of n do so at an earlier sibling of theirs
abbrev pub KeepsBefore : Document → Dialect → Option ℕ → List Part → Mark → Mark → Type 0
KeepsBefore doc dialect from parts m n =
    (z : ℕ) → is_earlier doc z m.row ≡ true → is_matched doc dialect from parts m.left z ≡ true → IsFound doc dialect from parts (is_earlier doc) n.left n.row

-- where the parts of m match above its row, those of n match farther out than theirs
abbrev pub KeepsAbove : Document → Dialect → Option ℕ → List Part → Mark → Mark → Type 0
KeepsAbove doc dialect from parts m n =
    (z : ℕ) → below doc z m.row ≡ true → is_matched doc dialect from parts m.left z ≡ true → IsFound doc dialect from parts (is_outer doc) n.left n.row

-- Whatever could be found from the places to go on to has its like from what is tried now, so that a later place to go
-- on to may stand for an earlier one. A mark of row 0 is no place to go on to.
pub record IsSearch (doc : Document) (dialect : Dialect) (from : Option ℕ) (parts : List Part) (s : Search) : Type 0 where
  pub at : IsMark doc parts s.at
  pub sibling : IsMark doc parts s.sibling
  pub ancestor : IsMark doc parts s.ancestor
  pub before : KeepsBefore doc dialect from parts s.sibling s.at
  pub above : KeepsAbove doc dialect from parts s.ancestor s.at
  pub above_sibling : 0 < s.sibling.row → KeepsAbove doc dialect from parts s.ancestor s.sibling

-- how much is left: first by the farthest row to go on from, then by that among its siblings, then by the parts
abbrev pub left_of : Document → List Part → Search → ℕ
left_of doc parts s =
    (max s.ancestor.row (max s.sibling.row s.at.row) * length doc + max s.sibling.row s.at.row) * suc (length parts) + s.at.left

-- the search t is as promising as s and closer to its end
pub record IsOnward (doc : Document) (dialect : Dialect) (from : Option ℕ) (parts : List Part) (s t : Search) : Type 0 where
  pub search : IsSearch doc dialect from parts t
  pub same : is_promising doc dialect from parts t ≡ is_promising doc dialect from parts s
  pub less : left_of doc parts t < left_of doc parts s

-- what an outcome of a try says: the search finds what it looks for, or does not, or goes on as promising
abbrev pub Follows : Document → Dialect → Option ℕ → List Part → Search → Outcome → Type 0
Follows doc dialect from parts s outcome.Found = is_promising doc dialect from parts s ≡ true
Follows doc dialect from parts s outcome.Failed = is_promising doc dialect from parts s ≡ false
Follows doc dialect from parts s (outcome.Onward t) = IsOnward doc dialect from parts s t
