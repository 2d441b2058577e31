-- Counts that never fall, kept in 64 bits.
use Rattle.std.specs.Prelude.{◌≡◌, ℕ, ◌+◌, ◌<◌, ◌≤◌, ◌⊎◌, min}

-- the last value of a count, which no run reaches
abbrev pub last_count : ℕ
last_count = 18446744073709551615

-- the count after one more, which stays at its last value
abbrev pub next_count : ℕ → ℕ
next_count n = min (n + 1) last_count

-- a count grew by so many, where it does not pass its last value
abbrev pub Grows : ℕ → ℕ → ℕ → Type 0
Grows before more now = before + more ≤ last_count → now ≡ before + more

-- a count rose, or stands at its last value
abbrev pub Rose : ℕ → ℕ → Type 0
Rose before now = (before < now) ⊎ (now ≡ last_count)
