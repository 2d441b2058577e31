-- Documents that grow at their end.
use Rattle.std.specs.Prelude.{◌≡◌, ◌≢◌, ℕ, ◌-◌, ◌<◌, ◌==◌, ◌||◌, ◌&&◌, List, [], ◌∷◌, ◌++◌, length, IsTrue}
use Rattle.doc_model.specs.declared.Kind.TheVariants.{Element, Attribute, Text, Comment}
use Rattle.doc_model.specs.Document.{Row, Document, no_row, row, is_attribute, below, IsLastChildBefore, IsDocument}

-- the rows so far, and the rows of the elements that are not yet closed, the innermost first
pub record Growing : Type 0 where
  pub rows : Document
  pub open_rows : List ℕ

abbrev pub growing : Document → List ℕ → Growing
growing rows open_rows = record { rows = rows; open_rows = open_rows }

-- the root node alone
abbrev pub fresh : Growing
fresh = growing (no_row ∷ []) []

-- the innermost open element, or the root node
abbrev pub innermost : List ℕ → ℕ
innermost [] = 0
innermost (n ∷ ns) = n

abbrev pub element_row : ℕ → List ℕ → Row
element_row parent name = record { kind = Element; name = name; text = []; parent = parent }

abbrev pub attr_row : ℕ → List ℕ → List ℕ → Row
attr_row parent name value = record { kind = Attribute; name = name; text = value; parent = parent }

abbrev pub text_row : ℕ → List ℕ → Row
text_row parent text = record { kind = Text; name = []; text = text; parent = parent }

abbrev pub comment_row : ℕ → List ℕ → Row
comment_row parent text = record { kind = Comment; name = []; text = text; parent = parent }

-- one row more
abbrev pub with_row : Growing → Row → Growing
with_row g r = growing (g.rows ++ r ∷ []) g.open_rows

abbrev pub with_element : Growing → List ℕ → Growing
with_element g name = growing (g.rows ++ element_row (innermost g.open_rows) name ∷ []) (length g.rows ∷ g.open_rows)

abbrev pub with_attr : Growing → List ℕ → List ℕ → Growing
with_attr g name value = with_row g (attr_row (innermost g.open_rows) name value)

abbrev pub with_text : Growing → List ℕ → Growing
with_text g text = with_row g (text_row (innermost g.open_rows) text)

abbrev pub with_comment : Growing → List ℕ → Growing
with_comment g text = with_row g (comment_row (innermost g.open_rows) text)

abbrev pub rest_of : List ℕ → List ℕ
rest_of [] = []
rest_of (n ∷ ns) = ns

-- the innermost element is closed
abbrev pub with_close : Growing → Growing
with_close g = growing g.rows (rest_of g.open_rows)

-- The last row is the innermost open element or an attribute of it, and no attribute of it has the name.
pub record AwaitsAttr (g : Growing) (name : List ℕ) : Type 0 where
  pub opened : g.open_rows ≢ []
  pub follows : IsTrue ((innermost g.open_rows == (length g.rows - 1)) || (is_attribute g.rows (length g.rows - 1) && ((row g.rows (length g.rows - 1)).parent == innermost g.open_rows)))
  pub new : (k : ℕ) → k < length g.rows → (row g.rows k).kind ≡ Attribute → (row g.rows k).parent ≡ innermost g.open_rows → (row g.rows k).name ≢ name

-- An element is open, and its last child so far, attributes left aside, is no text.
pub record AwaitsText (g : Growing) : Type 0 where
  pub opened : g.open_rows ≢ []
  pub calm : (y : ℕ) → IsLastChildBefore g.rows (innermost g.open_rows) (length g.rows) y → (row g.rows y).kind ≢ Text

-- each is an element whose parent is the next, and the outermost's parent is the root node
abbrev pub IsChain : Document → List ℕ → Type 0
IsChain doc [] = Unit {0}
IsChain doc (n ∷ ns) = ((row doc n).kind ≡ Element) × ((row doc n).parent ≡ innermost ns) × IsChain doc ns

-- The rows so far are a document, the open elements are a chain of parents, and the last row is the innermost of
-- them or below it.
pub record IsGrowing (g : Growing) : Type 0 where
  pub document : IsDocument g.rows
  pub chain : IsChain g.rows g.open_rows
  pub last : IsTrue ((innermost g.open_rows == (length g.rows - 1)) || below g.rows (innermost g.open_rows) (length g.rows - 1))
