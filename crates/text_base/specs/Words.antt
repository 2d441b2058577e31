-- The words of a text.
use Rattle.std.specs.Prelude.{ℕ, Bool, not, List, filter}
use Rattle.std.specs.List.{slice_split}
use Rattle.text_base.specs.Strings.{is_empty}
use Rattle.text_base.specs.Text.{is_space4}

abbrev pub is_some : List ℕ → Bool
is_some cs = not (is_empty cs)

-- the maximal runs without a character that passes the test, in order: what the text is cut into at each character
-- that passes, empty pieces left out
abbrev pub words_by : (ℕ → Bool) → List ℕ → List (List ℕ)
words_by p text = filter is_some (slice_split p text)

-- the words between white space of XML
abbrev pub words : List ℕ → List (List ℕ)
words text = words_by is_space4 text
