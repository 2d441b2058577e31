use Rattle.std.proofs.Common.{◌≡◌, take, map}
use Rattle.std.specs.Prelude.{filter}
use Rattle.query_script.specs.Cuts.{is_written}
use Rattle.query_script.proofs.cuts.written.Given as goal

abbrev pub invariant-loop-piece : goal.invariant-loop-piece
invariant-loop-piece l = map (λ p. p.now) l.some.items ≡ filter is_written (map (λ p. p.now) (take l.piece-index l.all))
