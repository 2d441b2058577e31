-- Lines as they are written, each with the truth whether it holds a refusal.
use Rattle.std.specs.Prelude.{ℕ, Bool, ◌||◌, false, List, [], ◌∷◌, ◌++◌, string_bytes}
use Rattle.extract_call.specs.declared.answers.Line.{Line}

-- A line without its LF, and whether it holds a refusal. The markup of a page is one such, though it may have line feeds of its own.
pub record Answer : Type 0 where
  pub text : List ℕ
  pub refused : Bool

abbrev pub answer_of : Line → Answer
answer_of line = record { text = string_bytes line.text; refused = line.refused }

-- the bytes of a line, which ends with LF
abbrev pub line_bytes : Answer → List ℕ
line_bytes a = a.text ++ 10 ∷ []

-- the bytes of all lines
abbrev pub bytes_of : List Answer → List ℕ
bytes_of [] = []
bytes_of (a ∷ rest) = line_bytes a ++ bytes_of rest

-- some line holds a refusal
abbrev pub refuses : List Answer → Bool
refuses [] = false
refuses (a ∷ rest) = a.refused || refuses rest
