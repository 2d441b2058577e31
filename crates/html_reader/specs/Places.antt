-- What stands before a place of a page, cut at the start tags that are open there.
use Rattle.std.specs.Prelude.{◌≡◌, ℕ, ◌+◌, ◌≤◌, List, [], ◌∷◌, ◌++◌, length, Bool, true, false, nat_lt, ◌&&◌, ◌||◌, not, codes}
use Rattle.doc_model.specs.Document.{Row, no_row}
use Rattle.html_reader.specs.declared.reader.Root.{Root}
use Rattle.html_reader.specs.Tokens.{Tag, Mark, token, starts}
use Rattle.html_reader.specs.Forest.{Forest, marks, depth, width, is_white}
use Rattle.doc_model.specs.Growing.{innermost}
use Rattle.html_reader.specs.Rows.{Sofar, sofar, fresh, grown, flushed, entered, row_of_element}

-- a balanced piece; or a place, a start tag that stays open, and a balanced piece
pub data Place : Type 0 where
  outside : (piece : Forest) → Place
  within : (before : Place) (tag : Tag) (piece : Forest) → Place

abbrev pub place_marks : Place → List Mark
place_marks (outside piece) = marks piece
place_marks (within before tag piece) = place_marks before ++ (token (starts tag) ∷ marks piece)

-- the open start tags, the innermost first
abbrev pub open_tags : Place → List Tag
open_tags (outside piece) = []
open_tags (within before tag piece) = tag ∷ open_tags before

-- What is known of the root of a page: whether it is made, and whether there is something for it: a start tag, or for a
-- made root a text that is not white.
abbrev pub is_some : Bool → Place → Bool
is_some made (outside piece) = (not (is_white piece) && made) || nat_lt 0 (width piece)
is_some made (within before tag piece) = true

abbrev pub root_at : Bool → Place → Root
root_at made p = record { made = made; some = is_some made p }

-- how many start tags may be open: 513 elements, a made root counted
abbrev pub most_open : Bool → ℕ
most_open true = 512
most_open false = 513

-- the rows of the open tags, the innermost first, and the rows so far
pub record Grown : Type 0 where
  pub open_rows : List ℕ
  pub sofar : Sofar

abbrev pub below : List ℕ → Sofar → Grown
below open_rows s = record { open_rows = open_rows; sofar = s }

abbrev pub inside_tag : Grown → Tag → Grown
inside_tag g tag =
    below (length (flushed (innermost g.open_rows) g.sofar) ∷ g.open_rows) (entered (innermost g.open_rows) g.sofar tag)

abbrev pub with_piece : Grown → Forest → Grown
with_piece g piece = below g.open_rows (grown (innermost g.open_rows) g.sofar piece)

-- before the first token: the root node, and the root element where it is made
abbrev pub base : Bool → Grown
base false = below [] fresh
base true = below (1 ∷ []) (sofar (no_row ∷ row_of_element 0 (codes "html") ∷ []) [])

abbrev pub place_grown : Bool → Place → Grown
place_grown made (outside piece) = with_piece (base made) piece
place_grown made (within before tag piece) = with_piece (inside_tag (place_grown made before) tag) piece

-- all rows, with the text that waits
abbrev pub all_rows : Grown → List Row
all_rows g = flushed (innermost g.open_rows) g.sofar

-- a start tag is no second root
abbrev pub CanStart : Bool → Place → Type 0
CanStart true p = Unit {0}
CanStart false (outside piece) = width piece ≡ 0
CanStart false (within before tag piece) = Unit {0}

-- where no root is made, the texts outside the root element are white space, and there is one root element at most
abbrev pub IsRootPiece : Bool → Forest → Type 0
IsRootPiece true piece = Unit {0}
IsRootPiece false piece = (is_white piece ≡ true) × (width piece ≤ 1)

-- No token is refused, and no more elements nest than may.
abbrev pub Fits : Bool → Place → Type 0
Fits made (outside piece) = IsRootPiece made piece × (depth piece ≤ most_open made)
Fits made (within before tag piece) = Fits made before × CanStart made before × (length (open_tags before) + 1 + depth piece ≤ most_open made)
