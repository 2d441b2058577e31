-- The bytes of a text that the page holds, or that was made from it.
use Rattle.std.specs.Prelude.{ℕ, List, string_bytes}
use Rattle.html_reader.specs.declared.owned.Owned.{Owned}
use Rattle.html_reader.specs.declared.owned.Owned.TheVariants.{Page, Made}

abbrev pub owned_bytes : Owned → List ℕ
owned_bytes (Page text) = text.now
owned_bytes (Made text) = string_bytes text
