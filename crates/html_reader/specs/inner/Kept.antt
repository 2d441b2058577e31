-- The attributes that a start tag keeps, and the element that takes them.
use Rattle.std.specs.Prelude.{◌≡◌, ◌≢◌, ℕ, List, [], ◌∷◌, ◌++◌, length}
use Rattle.std.specs.Str.{chars}
use Rattle.doc_model.specs.Document.{Row}
use Rattle.doc_model.specs.Growing.{Growing, innermost}
use Rattle.html_reader.specs.inner.Parents.{Within}
use Rattle.html_reader.specs.Tokens.{Attr}
use Rattle.html_reader.specs.Rows.{row_of_element}

-- none of the attributes has the name
abbrev pub IsNew : List ℕ → List Attr → Type 0
IsNew name [] = Unit {0}
IsNew name (a ∷ attrs) = (chars a.name ≢ chars name) × IsNew name attrs

-- the attributes that a tag keeps have names, and different ones
abbrev pub AreKept : List Attr → Type 0
AreKept [] = Unit {0}
AreKept (a ∷ attrs) = (chars a.name ≢ []) × IsNew a.name attrs × AreKept attrs

-- the rows end in the innermost open element
pub record EndsInElement (g : Growing) : Type 0 where
  pub front : List Row
  pub parent : ℕ
  pub name : List ℕ
  pub ends : g.rows ≡ front ++ row_of_element parent name ∷ []
  pub opened : g.open_rows ≢ []
  pub small : Within front
  pub at : innermost g.open_rows ≡ length front
