-- Where the siblings of an element are looked for.
use Rattle.std.specs.Prelude.{◌≡◌, ℕ, ◌<◌, ◌≤◌, Bool, true, false, ◌&&◌, nat_lt, length}
use Rattle.doc_model.specs.Document.{Document, row}
use Rattle.css_selectors.specs.declared.selector.Nth.{Nth}
use Rattle.css_selectors.specs.declared.selector.Nth.TheVariants as nth
use Rattle.css_meaning.specs.Siblings.{is_sibling, is_of_type}

-- y is a sibling of e, and has the name of e where that is asked
abbrev pub is_like : Document → Bool → ℕ → ℕ → Bool
is_like doc false e y = is_sibling doc e y
is_like doc true e y = is_of_type doc e y

-- whether only the siblings of one name count
abbrev pub is_by_name : Nth → Bool
is_by_name nth.Child = false
is_by_name nth.LastChild = false
is_by_name nth.OfType = true
is_by_name nth.LastOfType = true

-- whether y stands on the side of e from which the position counts
abbrev pub is_on_side : Nth → ℕ → ℕ → Bool
is_on_side nth.Child e y = nat_lt y e
is_on_side nth.LastChild e y = nat_lt e y
is_on_side nth.OfType e y = nat_lt y e
is_on_side nth.LastOfType e y = nat_lt e y

-- y counts for the position of e
abbrev pub is_counted : Document → Nth → ℕ → ℕ → Bool
is_counted doc kind e y = is_like doc (is_by_name kind) e y && is_on_side kind e y

-- The siblings that count for the position of e are those from one row on and before another. The parent stands before
-- both, so that none of them is below one that stands between.
pub record IsSpan (doc : Document) (kind : Nth) (e from to : ℕ) : Type 0 where
  pub behind : (row doc e).parent < from
  pub starts : from ≤ length doc
  pub ends : to ≤ length doc
  pub before : (y : ℕ) → y < from → is_counted doc kind e y ≡ false
  pub after : (y : ℕ) → to ≤ y → y < length doc → is_counted doc kind e y ≡ false
  pub within : (y : ℕ) → from ≤ y → y < to → is_counted doc kind e y ≡ is_like doc (is_by_name kind) e y

-- No sibling of e stands between e and that row.
pub record IsBehind (doc : Document) (e from : ℕ) : Type 0 where
  pub behind : e < from
  pub within : from ≤ length doc
  pub between : (y : ℕ) → e < y → y < from → is_sibling doc e y ≡ false
