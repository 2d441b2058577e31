-- How the axes are walked.
use Rattle.std.specs.Prelude.{◌≡◌, ℕ, ◌<◌, ◌≤◌, Bool, true, false, ◌&&◌, ◌||◌, ◌==◌, not, length, IsTrue}
use Rattle.doc_model.specs.Document.{Document, row, is_attribute, below}
use Rattle.doc_model.specs.Axes.{on_axis, passes}
use Rattle.doc_model.specs.declared.Axis.{Axis}
use Rattle.doc_model.specs.declared.Axis.TheVariants as axis
use Rattle.doc_model.specs.declared.NodeTest.{NodeTest}

-- the axes that are walked from row to parent
abbrev pub is_upward : Axis → Bool
is_upward axis.Ancestor = true
is_upward axis.AncestorOrSelf = true
is_upward _ = false

-- which of the rows that a walk comes to are on the axis
abbrev pub is_kept : Document → Axis → ℕ → ℕ → Bool
is_kept doc axis.Child x y = not (is_attribute doc y) && ((row doc y).parent == x)
is_kept doc axis.Descendant x y = not (is_attribute doc y)
is_kept doc axis.Parent x y = true
is_kept doc axis.Ancestor x y = true
is_kept doc axis.FollowingSibling x y = not (is_attribute doc y) && ((row doc y).parent == (row doc x).parent)
is_kept doc axis.PrecedingSibling x y = not (is_attribute doc y) && ((row doc y).parent == (row doc x).parent)
is_kept doc axis.Following x y = not (is_attribute doc y)
is_kept doc axis.Preceding x y = not (is_attribute doc y) && not (below doc y x)
is_kept doc axis.Attribute x y = is_attribute doc y && ((row doc y).parent == x)
is_kept doc axis.Namespace x y = false
is_kept doc axis.OwnSelf x y = true
is_kept doc axis.DescendantOrSelf x y = (y == x) || not (is_attribute doc y)
is_kept doc axis.AncestorOrSelf x y = true

-- The rows on the axis are those that are kept of the rows from one row on and before another. Where the walk hops,
-- none that is below one of these is among them.
pub record IsWalk (doc : Document) (a : Axis) (x from to : ℕ) (hops : Bool) : Type 0 where
  pub starts : from ≤ length doc
  pub ends : to ≤ length doc
  pub before : (y : ℕ) → y < from → on_axis doc a x y ≡ false
  pub after : (y : ℕ) → to ≤ y → y < length doc → on_axis doc a x y ≡ false
  pub within : (y : ℕ) → from ≤ y → y < to → on_axis doc a x y ≡ is_kept doc a x y
  pub over : IsTrue hops → (y z : ℕ) → from ≤ y → y < to → IsTrue (below doc y z) → on_axis doc a x z ≡ false

-- the row that a walk comes to after y
pub record IsNext (doc : Document) (hops : Bool) (y next : ℕ) : Type 0 where
  pub after : y < next
  pub within : next ≤ length doc
  pub between : (z : ℕ) → y < z → z < next → IsTrue hops × IsTrue (below doc y z)

-- whether an axis that is walked from row to parent has the row itself
abbrev pub has_self : Axis → Bool
has_self axis.AncestorOrSelf = true
has_self _ = false

-- the rows on the axis that pass the test, in document order
abbrev pub chosen : Document → Axis → ℕ → NodeTest → ℕ → Bool
chosen doc a x t y = on_axis doc a x y && passes doc a t y

-- e is the first row after x that is no attribute, or the number of rows
pub record EndsAttributes (doc : Document) (x e : ℕ) : Type 0 where
  pub after : x < e
  pub within : e ≤ length doc
  pub inside : (y : ℕ) → x < y → y < e → IsTrue (is_attribute doc y)
  pub outside : e < length doc → is_attribute doc e ≡ false
