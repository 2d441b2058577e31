-- The code's tables of names as lists.
use Rattle.std.specs.Prelude.{ℕ, List}
use denote.Ref.{Bor}

-- a name and what it stands for
abbrev pub entry : {A : Type 0} → Bor (List ℕ) × A → List ℕ × A
entry p = (p.0.now, p.1)
