-- The line of a place as it is shown, and the mark below the place.
use Rattle.std.specs.Prelude.{ℕ, ◌-◌, Bool, ◌||◌, ◌==◌, nat_lt, cond, List, ◌++◌, length, map, take, drop, codes, encode_utf8_all}
use Rattle.refusal_texts.specs.Places.{line_before, line_after}

-- how many characters of the line are shown before the place, and from it on, at most
abbrev pub most_before : ℕ
most_before = 60

abbrev pub most_after : ℕ
most_after = 20

-- a control character of ASCII
abbrev pub is_control : ℕ → Bool
is_control c = nat_lt c 32 || (c == 127)

-- a character as it is shown: itself, or a space for a control character
abbrev pub shown : ℕ → ℕ
shown c = cond (is_control c) 32 c

-- the last characters of a list, so many at most
abbrev pub last : ℕ → List ℕ → List ℕ
last n cs = drop (length cs - n) cs

-- what is shown of the line before the place
abbrev pub shown_before : List ℕ → ℕ → List ℕ
shown_before text place = map shown (last most_before (line_before text place))

-- and from it on
abbrev pub shown_after : List ℕ → ℕ → List ℕ
shown_after text place = map shown (take most_after (line_after text place))

-- what stands before both lines
abbrev pub indent : List ℕ
indent = codes "    "

-- the line
abbrev pub shown_line : List ℕ → ℕ → List ℕ
shown_line text place = indent ++ (encode_utf8_all (shown_before text place) ++ encode_utf8_all (shown_after text place))

-- the mark below the character at the place: as many spaces as characters are shown before it, and the mark
abbrev pub mark_line : List ℕ → ℕ → List ℕ
mark_line text place = indent ++ (map (λ c. 32) (shown_before text place) ++ codes "^")
