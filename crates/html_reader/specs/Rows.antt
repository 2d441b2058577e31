-- The rows that a balanced piece makes.
use Rattle.std.specs.Prelude.{ℕ, zero, suc, List, [], ◌∷◌, ◌++◌, map, length}
use Rattle.std.specs.Str.{chars}
use Rattle.doc_model.specs.Document.{Row, no_row}
use Rattle.doc_model.specs.Growing.{element_row, attr_row, text_row, comment_row}
use Rattle.html_reader.specs.Tokens.{Attr, Tag, Leaf, text, comment, doctype}
use Rattle.html_reader.specs.Forest.{Forest, nothing, then_leaf, then_element}

-- Rows hold characters, where tokens hold bytes.
abbrev pub row_of_element : ℕ → List ℕ → Row
row_of_element parent name = element_row parent (chars name)

abbrev pub row_of_attribute : ℕ → Attr → Row
row_of_attribute parent a = attr_row parent (chars a.name) (chars a.value)

abbrev pub row_of_text : ℕ → List ℕ → Row
row_of_text parent content = text_row parent (chars content)

abbrev pub row_of_comment : ℕ → List ℕ → Row
row_of_comment parent content = comment_row parent (chars content)

-- the rows so far, and the text that waits: the contents since the last row, which doctypes may part
pub record Sofar : Type 0 where
  pub rows : List Row
  pub waits : List ℕ

abbrev pub sofar : List Row → List ℕ → Sofar
sofar rows waits = record { rows = rows; waits = waits }

-- The row of the text that waits, if it is not empty and an element is open. Row 0 is the root node, so an element is
-- open where the parent is another row.
abbrev pub text_rows : ℕ → List ℕ → List Row
text_rows zero waits = []
text_rows (suc p) [] = []
text_rows (suc p) (c ∷ cs) = row_of_text (suc p) (c ∷ cs) ∷ []

-- the rows with the text that waits
abbrev pub flushed : ℕ → Sofar → List Row
flushed parent s = s.rows ++ text_rows parent s.waits

-- an element whose row has this number, and its attributes
abbrev pub tag_rows : ℕ → ℕ → Tag → List Row
tag_rows parent n tag = row_of_element parent tag.name ∷ map (row_of_attribute n) tag.attrs

-- the rows after a start tag
abbrev pub entered : ℕ → Sofar → Tag → Sofar
entered parent s tag = sofar (flushed parent s ++ tag_rows parent (length (flushed parent s)) tag) []

-- the rows after a token that is no tag
abbrev pub with_leaf : ℕ → Sofar → Leaf → Sofar
with_leaf parent s (text content) = sofar s.rows (s.waits ++ content)
with_leaf parent s (comment content) = sofar (flushed parent s ++ row_of_comment parent content ∷ []) []
with_leaf parent s doctype = s

-- The rows after a balanced piece below the row `parent`, where s came before it. The row of an element has the
-- number of the rows before it.
abbrev pub grown : ℕ → Sofar → Forest → Sofar
grown parent s nothing = s
grown parent s (then_leaf leaf rest) = grown parent (with_leaf parent s leaf) rest
grown parent s (then_element tag inside inserted rest) =
    let n = length (flushed parent s) in
    grown parent (sofar (flushed n (grown n (entered parent s tag) inside)) []) rest

-- row 0 alone
abbrev pub fresh : Sofar
fresh = sofar (no_row ∷ []) []
