-- Characters that are written as references, and how texts without them are told.
use Rattle.std.specs.Prelude.{ℕ, Bool, ◌||◌, ◌==◌}
pub use Rattle.char_refs.specs.Escapes.{text_escape, value_escape, escaped_text, escaped_value, escape, escaped}

-- every other character is written as it is
abbrev pub is_special : ℕ → Bool
is_special c = (c == 38) || ((c == 60) || ((c == 62) || ((c == 34) || ((c == 160) || (c == 13)))))

-- a text without these bytes has none of those characters: five are their own byte, and 194 begins the other
abbrev pub is_mark : ℕ → Bool
is_mark b = (b == 38) || ((b == 60) || ((b == 62) || ((b == 34) || ((b == 194) || (b == 13)))))
