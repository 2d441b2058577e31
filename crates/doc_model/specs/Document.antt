-- Documents: lists of rows in document order, after XPath 1.0, section 5.
use Rattle.std.specs.Prelude.{◌≡◌, ◌≢◌, ℕ, zero, suc, ◌-◌, ◌<◌, ◌≤◌, Bool, true, false, ◌&&◌, ◌||◌, ◌==◌, nat_lt, List, [], length, slice_index_or, IsTrue, ◌⊎◌}
use Rattle.std.specs.List.{range_with_len}
use Rattle.doc_model.specs.declared.Kind.{Kind}
use Rattle.doc_model.specs.declared.Kind.TheVariants.{Root, Element, Attribute, Text, Comment}

-- A row: what it is, its name and its text as characters, and its parent's number.
pub record Row : Type 0 where
  pub kind : Kind
  pub name : List ℕ
  pub text : List ℕ
  pub parent : ℕ

abbrev pub Document : Type 0
Document = List Row

-- what stands at a number that is no row's: it is no element, attribute, text or comment
abbrev pub no_row : Row
no_row = record { kind = Root; name = []; text = []; parent = 0 }

abbrev pub row : Document → ℕ → Row
row doc i = slice_index_or doc i no_row

-- the numbers of all rows, in document order
abbrev pub rows : Document → List ℕ
rows doc = range_with_len 0 (length doc)

abbrev pub is_element_kind : Kind → Bool
is_element_kind Element = true
is_element_kind Root = false
is_element_kind Attribute = false
is_element_kind Text = false
is_element_kind Comment = false

abbrev pub is_attribute_kind : Kind → Bool
is_attribute_kind Attribute = true
is_attribute_kind Root = false
is_attribute_kind Element = false
is_attribute_kind Text = false
is_attribute_kind Comment = false

abbrev pub is_text_kind : Kind → Bool
is_text_kind Text = true
is_text_kind Root = false
is_text_kind Element = false
is_text_kind Attribute = false
is_text_kind Comment = false

abbrev pub is_element : Document → ℕ → Bool
is_element doc i = is_element_kind (row doc i).kind

abbrev pub is_attribute : Document → ℕ → Bool
is_attribute doc i = is_attribute_kind (row doc i).kind

abbrev pub is_text : Document → ℕ → Bool
is_text doc i = is_text_kind (row doc i).kind

-- x is y's parent; row 0 has none
abbrev pub is_parent : Document → ℕ → ℕ → Bool
is_parent doc x y = nat_lt 0 y && ((row doc y).parent == x)

-- y is below x by at most that many steps to a parent
unfoldable pub below_within : ℕ → Document → ℕ → ℕ → Bool
below_within zero doc x y = false
below_within (suc steps) doc x y = nat_lt 0 y && (((row doc y).parent == x) || below_within steps doc x (row doc y).parent)

-- y is below x: x is reached from y by taking the parent once or more. Parents are smaller, so y steps are enough.
-- It speaks of rows: a number past the last row's counts as below row 0.
abbrev pub below : Document → ℕ → ℕ → Bool
below doc x y = below_within y doc x y

-- the row before an attribute is its element or another attribute of it
abbrev pub follows_owner : Document → ℕ → Bool
follows_owner doc i = ((row doc i).parent == (i - 1)) || (is_attribute doc (i - 1) && ((row doc (i - 1)).parent == (row doc i).parent))

-- y is a child of x that is no attribute and stands before i, and the last such
abbrev pub IsLastChildBefore : Document → ℕ → ℕ → ℕ → Type 0
IsLastChildBefore doc x i y =
    IsTrue (is_parent doc x y) × (is_attribute doc y ≡ false) × (y < i)
    × ((z : ℕ) → IsTrue (is_parent doc x z) → is_attribute doc z ≡ false → z < i → z ≤ y)

-- what holds of the row i, which is not row 0
pub record IsRow (doc : Document) (i : ℕ) : Type 0 where
  pub kind : (row doc i).kind ≢ Root
  pub parent : (row doc i).parent < i
  pub owner : ((row doc (row doc i).parent).kind ≡ Root) ⊎ ((row doc (row doc i).parent).kind ≡ Element)
  pub nested : IsTrue (((row doc i).parent == (i - 1)) || below doc (row doc i).parent (i - 1))
  pub element : (row doc i).kind ≡ Element → ((row doc i).name ≢ []) × ((row doc i).text ≡ [])
  pub attribute : (row doc i).kind ≡ Attribute → ((row doc i).name ≢ []) × ((row doc (row doc i).parent).kind ≡ Element) × IsTrue (follows_owner doc i)
  pub distinct : (row doc i).kind ≡ Attribute → (k : ℕ) → k < i → (row doc k).kind ≡ Attribute → (row doc k).parent ≡ (row doc i).parent → (row doc k).name ≢ (row doc i).name
  pub words : (row doc i).kind ≡ Text → ((row doc i).name ≡ []) × ((row doc i).text ≢ []) × ((row doc (row doc i).parent).kind ≡ Element) × ((y : ℕ) → IsLastChildBefore doc (row doc i).parent i y → (row doc y).kind ≢ Text)
  pub comment : (row doc i).kind ≡ Comment → (row doc i).name ≡ []

pub record IsDocument (doc : Document) : Type 0 where
  pub some : 0 < length doc
  pub root : row doc 0 ≡ no_row
  pub rest : (i : ℕ) → 0 < i → i < length doc → IsRow doc i
