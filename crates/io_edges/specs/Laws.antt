-- What holds of the bytes that sinks take.
use Rattle.std.specs.Prelude.{◌≡◌, ℕ, ◌++◌, List, [], Option}
use Rattle.io_edges.specs.Sink.{grown, TakesFront}

-- Bytes that are taken in pieces are taken as a whole.
pub record TakingLaw : Type 0 where
  -- two pieces, one after the other, are one
  pub in_turn : (old : Option (List ℕ)) (a b : List ℕ) → grown (grown old a) b ≡ grown old (a ++ b)
  -- an empty piece changes nothing
  pub nothing : (old : Option (List ℕ)) → old ≡ grown old []
  -- where nothing was taken, the rest is all
  pub none_taken : (old : Option (List ℕ)) (bytes : List ℕ) → TakesFront old bytes old bytes
