-- Values whose rows are rows of a document.
use Rattle.std.specs.Prelude.{List, length}
use Rattle.std.specs.List.{All}
use Rattle.doc_model.specs.Document.{Document}
use Rattle.doc_model.specs.RowLists.{AllBelow}
use Rattle.xpath_values.specs.declared.value.Value.{Value}
use Rattle.xpath_parser.specs.Conversions.{rows_of}

-- each row of the value is one of the document's
abbrev pub IsWithin : Document → Value → Type 0
IsWithin doc v = AllBelow (length doc) (rows_of v)

abbrev pub AreWithin : Document → List Value → Type 0
AreWithin doc vs = All (IsWithin doc) vs
