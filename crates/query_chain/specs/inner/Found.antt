-- How the texts that a search has found grow.
use Rattle.std.specs.Prelude.{◌≡◌, ℕ, ◌+◌, ◌<◌, ◌≤◌, true, false, List, [], ◌++◌, length, ◌⊎◌}
use Rattle.query_chain.specs.declared.limits.Limits.{Limits}
use Rattle.query_chain.specs.declared.found.Found.{Found}
use Rattle.query_chain.specs.Items.{bytes_of}

-- no text was found yet
pub record IsNew (f : Found) : Type 0 where
  pub count : f.count ≡ 0
  pub bytes : f.bytes ≡ 0
  pub texts : f.texts.items ≡ []
  pub fits : f.is_over ≡ false

-- these texts were found after what was found before. They are kept as long as all that were found are within the limit
-- on bytes, and counted in any case.
pub record Adds (limits : Limits) (before after : Found) (xs : List (List ℕ)) : Type 0 where
  pub count : after.count ≡ before.count + length xs
  pub few : before.count ≤ limits.items → after.count ≤ limits.items
  pub within : before.bytes ≤ limits.bytes → after.bytes ≤ limits.bytes
  pub kept : after.is_over ≡ false → (before.is_over ≡ false) × (after.texts.items ≡ before.texts.items ++ xs) × (after.bytes ≡ before.bytes + bytes_of xs)
  pub over : after.is_over ≡ true → (before.is_over ≡ true) ⊎ (limits.bytes < before.bytes + bytes_of xs)
