use Rattle.std.specs.Prelude.{◌-◌, length}
use Rattle.html_reader.specs.inner.Pieces.{owned_bytes}
use Rattle.html_reader.specs.inner.States.{the_state}
use Rattle.html_reader.proofs.LoopLemmas.{IsReading}
use Rattle.html_reader.proofs.page.read_tokens.Given as goal

abbrev pub invariant-loop-token : goal.invariant-loop-token
invariant-loop-token g l = IsReading l.text l.lexer l.before (the_state l.reader.tags.items l.reader.rooted (g.G.Grow.growing l.reader.grow) (owned_bytes l.reader.waits))

abbrev pub decreases-loop-token : goal.decreases-loop-token
decreases-loop-token g l = length l.text - l.lexer.at
