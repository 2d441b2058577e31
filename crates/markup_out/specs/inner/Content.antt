-- What is written before and after the content of a row, and which of its children are still to be written.
use Rattle.std.specs.Prelude.{◌≡◌, ℕ, Bool, ◌-◌, ◌<◌, ◌≤◌, IsTrue, List, [], ◌++◌, ◌⊎◌, if◌then◌else◌, flat_map, filter, length}
use Rattle.std.specs.List.{range_with_len}
use Rattle.doc_model.specs.declared.Axis.TheVariants as axis
use Rattle.doc_model.specs.declared.Kind.{Kind}
use Rattle.doc_model.specs.declared.Kind.TheVariants.{Root, Element, Attribute, Text, Comment}
use Rattle.doc_model.specs.Axes.{on_axis}
use Rattle.doc_model.specs.Document.{Document, row}
use Rattle.doc_model.specs.Ends.{IsEnd}
use Rattle.doc_model.specs.inner.Walks.{EndsAttributes}
use Rattle.markup_out.specs.Escapes.{escaped_value}
use Rattle.markup_out.specs.Markup.{start_tag, newline, end_tag, text_markup, comment_markup, styled}
use Rattle.markup_out.specs.Names.{is_void}

abbrev pub before_of : Bool → Kind → Document → ℕ → List ℕ
before_of back Root doc x = []
before_of back Element doc x = start_tag back doc x ++ (if is_void (row doc x).name then [] else newline back doc x)
before_of back Attribute doc x = escaped_value back (row doc x).text
before_of back Text doc x = text_markup back doc x
before_of back Comment doc x = comment_markup doc x

abbrev pub after_of : Kind → Document → ℕ → List ℕ
after_of Root doc x = []
after_of Element doc x = if is_void (row doc x).name then [] else end_tag doc x
after_of Attribute doc x = []
after_of Text doc x = []
after_of Comment doc x = []

-- what is written before the content of x
abbrev pub before : Bool → Document → ℕ → List ℕ
before back doc x = before_of back (row doc x).kind doc x

-- what is written after it
abbrev pub after : Document → ℕ → List ℕ
after doc x = after_of (row doc x).kind doc x

-- the markup of the children of x from the row y on
abbrev pub content_from : Bool → Document → ℕ → ℕ → List ℕ
content_from back doc x y = flat_map (styled back doc) (filter (on_axis doc axis.Child x) (range_with_len y (length doc - y)))

-- y is a child of x, or the rows below x end there
abbrev pub IsNextChild : Document → ℕ → ℕ → Type 0
IsNextChild doc x y = (IsTrue (on_axis doc axis.Child x y) × (y < length doc)) ⊎ IsEnd doc x y

-- the attributes of x end before e
pub record EndsOwn (doc : Document) (x e : ℕ) : Type 0 where
  pub ends : EndsAttributes doc x e
  pub own : (z : ℕ) → x < z → z < e → (row doc z).parent ≡ x

-- the content of x begins at y
pub record Begins (back : Bool) (doc : Document) (x y : ℕ) : Type 0 where
  pub behind : x < y
  pub within : y ≤ length doc
  pub next : IsNextChild doc x y
  pub whole : styled back doc x ≡ before back doc x ++ (content_from back doc x y ++ after doc x)
