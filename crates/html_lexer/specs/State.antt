-- A page and how far it is read, and the attributes of a start tag and how far they are read.
use Rattle.std.specs.Prelude.{ℕ, List}

pub record Reading : Type 0 where
  pub text : List ℕ
  pub at : ℕ
  -- of the start tag just read, or empty
  pub name : List ℕ

pub record AttrReading : Type 0 where
  pub text : List ℕ
  pub at : ℕ
