-- Steps of given lengths, one after the other.
use Rattle.std.specs.Prelude.{◌≡◌, ℕ, ◌+◌, ◌<◌, List, [], ◌∷◌}

-- from i on a step is made at each of these places, of the length that it has there, and at j, where they end, none can
-- be made
abbrev pub Steps : (ℕ → ℕ) → ℕ → List ℕ → ℕ → Type 0
Steps len i [] j = (i ≡ j) × (len i ≡ 0)
Steps len i (k ∷ places) j = (i ≡ k) × (0 < len i) × Steps len (i + len i) places j
