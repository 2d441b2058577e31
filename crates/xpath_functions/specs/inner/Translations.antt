-- What `translate` makes of a character.
use Rattle.std.specs.Prelude.{ℕ, ◌==◌, List, Option, Some, None, slice_get}
use Rattle.std.specs.List.{position_from}

-- where c first stands
abbrev pub place_in : List ℕ → ℕ → Option ℕ
place_in from c = position_from (λ d. d == c) 0 from

-- what stands at the same place of the other text, or nothing
abbrev pub image_at : List ℕ → Option ℕ → Option (Option ℕ)
image_at to None = None
image_at to (Some i) = Some (slice_get to i)

abbrev pub image_in : List ℕ → List ℕ → ℕ → Option (Option ℕ)
image_in from to c = image_at to (place_in from c)

-- a character without an image stays
abbrev pub turned : ℕ → Option (Option ℕ) → Option ℕ
turned c None = Some c
turned c (Some d) = d
