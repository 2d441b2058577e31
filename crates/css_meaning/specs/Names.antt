-- The names of a selector, and those of a document. Selectors Level 3, section 6.1.
use Rattle.std.specs.Prelude.{ℕ, Bool, true, List, Option, Some, None, map}
use Rattle.std.specs.Char.{to_ascii_lowercase}
use Rattle.std.specs.Str.{bytes_eq}
use Rattle.doc_model.specs.Document.{Document, row}
use Rattle.css_selectors.specs.declared.selector.Dialect.{Dialect}
use Rattle.css_selectors.specs.declared.selector.Dialect.TheVariants.{Generic, Html}

-- a name as a document has it: in ASCII lower case in the HTML dialect
abbrev pub folded : Dialect → List ℕ → List ℕ
folded Generic n = n
folded Html n = map to_ascii_lowercase n

-- e has the name, where there is one; `*` and no type at all are no name
abbrev pub has_name : Document → Dialect → Option (List ℕ) → ℕ → Bool
has_name doc dialect None e = true
has_name doc dialect (Some n) e = bytes_eq (row doc e).name (folded dialect n)
