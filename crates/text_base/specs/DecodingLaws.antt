-- What holds of the bytes of all pages.
use Rattle.std.specs.Prelude.{◌≡◌, ℕ, ◌≤◌, List, length, Ok}
use Rattle.std.specs.Str.{IsUtf8}
use Rattle.text_base.specs.Decoding.{decoded}

-- The text that bytes decode to is UTF-8, and has no more bytes than they are.
abbrev pub DecodedTexts : Type 0
DecodedTexts = (bytes text : List ℕ) → decoded bytes ≡ Ok text → IsUtf8 text × (length text ≤ length bytes)
