-- Texts that are handed to a tree that grows.
use Rattle.std.specs.Prelude.{ℕ, List}
use Rattle.std.specs.Str.{chars}
use Rattle.doc_model.specs.declared.grow.Piece.{Piece}
use Rattle.doc_model.specs.declared.grow.Piece.TheVariants.{Page, Made}

-- the characters of a piece
abbrev pub piece_text : Piece → List ℕ
piece_text (Page text) = chars text.now
piece_text (Made text) = chars text.now
