-- What the tests on texts say, by the parts of a text.
use Rattle.std.specs.Prelude.{◌≡◌, ℕ, List, ◌++◌}

-- x is v and what follows
pub record Begins (x v : List ℕ) : Type 0 where
  pub after : List ℕ
  pub is : x ≡ v ++ after

-- x is what stands ahead, and v
pub record Ends (x v : List ℕ) : Type 0 where
  pub ahead : List ℕ
  pub is : x ≡ ahead ++ v

-- x is what stands ahead, v and what follows
pub record Occurs (x v : List ℕ) : Type 0 where
  pub ahead : List ℕ
  pub after : List ℕ
  pub is : x ≡ ahead ++ (v ++ after)
