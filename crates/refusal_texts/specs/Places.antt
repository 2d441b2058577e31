-- Lines and columns of places in a text, which are places of bytes. Both count from 1, and columns count characters.
use Rattle.std.specs.Prelude.{ℕ, ◌+◌, Bool, ◌&&◌, ◌==◌, nat_le, nat_lt, List, ◌++◌, length, take, drop, codes, decimal}
use Rattle.std.specs.List.{count_by, after_last, before_first}
use Rattle.std.specs.Str.{chars}
use Rattle.text_base.specs.Text.{run_end}

-- a line feed
abbrev pub is_newline : ℕ → Bool
is_newline c = c == 10

-- a byte of a character after its first one
abbrev pub is_inner : ℕ → Bool
is_inner b = nat_le 128 b && nat_lt b 192

-- the place itself, or the next at which a character begins or the text ends, where it stands inside of a character
abbrev pub outer : List ℕ → ℕ → ℕ
outer text place = run_end is_inner text place

-- the characters of the text before the place; all of them where it stands past the text's end
abbrev pub before : List ℕ → ℕ → List ℕ
before text place = chars (take (outer text place) text)

-- the characters of the text from the place on
abbrev pub after : List ℕ → ℕ → List ℕ
after text place = chars (drop (outer text place) text)

-- the part of the place's line before it: what stands after the last line feed before the place
abbrev pub line_before : List ℕ → ℕ → List ℕ
line_before text place = after_last is_newline (before text place)

-- the part of the place's line from it on: what stands before the first line feed from the place on
abbrev pub line_after : List ℕ → ℕ → List ℕ
line_after text place = before_first is_newline (after text place)

-- one more than there are line feeds before the place
abbrev pub line_of : List ℕ → ℕ → ℕ
line_of text place = count_by is_newline (before text place) + 1

-- one more than there are characters on the place's line before it
abbrev pub column_of : List ℕ → ℕ → ℕ
column_of text place = length (line_before text place) + 1

-- line and column, as people write them: `3:14`
abbrev pub place_text : List ℕ → ℕ → List ℕ
place_text text place = decimal (line_of text place) ++ (codes ":" ++ decimal (column_of text place))
