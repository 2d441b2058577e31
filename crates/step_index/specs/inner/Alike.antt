-- Elements among their siblings of the same name, as they are counted name by name.
use Rattle.std.specs.Prelude.{◌≡◌, ℕ, ◌-◌, ◌<◌, true, List, length, filter, slice_index, slice_get, Some}
use Rattle.doc_model.specs.Document.{Document, row, is_element, is_parent}
use Rattle.step_index.specs.Named.{is_named, named}
use Rattle.step_index.specs.Siblings.{children_before}
use Rattle.step_index.specs.declared.names.Names.{Names}
use Rattle.step_index.specs.inner.Tables.{lists_of}

-- how many elements of its name stand before an element among its siblings
abbrev pub rank : Document → ℕ → ℕ
rank doc y = children_before doc (is_named doc (row doc y).name) (row doc y).parent y

-- and how many after it
abbrev pub rest : Document → ℕ → ℕ
rest doc y = children_before doc (is_named doc (row doc y).name) (row doc y).parent (length doc) - rank doc y - 1

-- how many of these rows are children of p
abbrev pub among : Document → ℕ → List ℕ → ℕ
among doc p ys = length (filter (is_parent doc p) ys)

-- for each row how many of these are its children
pub record Counts (doc : Document) (ys counts : List ℕ) : Type 0 where
  pub long : length counts ≡ length doc
  pub each : (p : ℕ) → p < length doc → slice_index counts p ≡ among doc p ys

-- all elements of some name, in document order
abbrev pub IsNamedList : Document → List ℕ → Type 0
IsNamedList doc list = (name : List ℕ) × (list ≡ named doc name)

-- Each of these rows has its number in the new list, and so has each row that had it in the old.
pub record Gains (f : ℕ → ℕ) (ys old new : List ℕ) : Type 0 where
  pub long : length new ≡ length old
  pub kept : (y : ℕ) → slice_index old y ≡ f y → slice_index new y ≡ f y
  pub given : (k y : ℕ) → slice_get ys k ≡ Some y → slice_index new y ≡ f y

-- the rows of the first lists of a table have their numbers
pub record HasCounted (doc : Document) (t : Names) (before after : List ℕ) (i : ℕ) : Type 0 where
  pub long_before : length before ≡ length doc
  pub long_after : length after ≡ length doc
  pub ranks : (j k y : ℕ) (list : List ℕ) → j < i → slice_get (lists_of t) j ≡ Some list → slice_get list k ≡ Some y → slice_index before y ≡ rank doc y
  pub rests : (j k y : ℕ) (list : List ℕ) → j < i → slice_get (lists_of t) j ≡ Some list → slice_get list k ≡ Some y → slice_index after y ≡ rest doc y

-- for each element how many elements of its name stand before it and after it among its siblings
pub record HasAlike (doc : Document) (before after : List ℕ) : Type 0 where
  pub long_before : length before ≡ length doc
  pub long_after : length after ≡ length doc
  pub ranks : (y : ℕ) → y < length doc → is_element doc y ≡ true → slice_index before y ≡ rank doc y
  pub rests : (y : ℕ) → y < length doc → is_element doc y ≡ true → slice_index after y ≡ rest doc y
