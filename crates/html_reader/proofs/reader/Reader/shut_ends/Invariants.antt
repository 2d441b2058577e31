use Rattle.std.specs.Prelude.{◌≡◌, ◌+◌, ◌<◌, ◌^◌, length, []}
use Rattle.html_reader.specs.inner.Pieces.{owned_bytes}
use Rattle.html_reader.specs.inner.States.{the_state, tags_onto, next_of}
use Rattle.html_reader.specs.inner.Machine.{shuts}
use Rattle.html_reader.specs.inner.Reached.{IsReached}
use Rattle.html_reader.proofs.reader.Reader.shut_ends.Given as goal

abbrev pub invariant-loop-self : goal.invariant-loop-self
invariant-loop-self g l = record {
  reached : IsReached (next_of l.next) (the_state l.self.tags.items l.self.rooted (g.G.Grow.growing l.self.grow) (owned_bytes l.self.waits));
  same : shuts (next_of l.next) (the_state l.self.tags.items l.self.rooted (g.G.Grow.growing l.self.grow) (owned_bytes l.self.waits))
      ≡ shuts (next_of l.next) (the_state l.fn.self.tags.items l.fn.self.rooted (g.G.Grow.growing l.fn.self.grow) (owned_bytes l.fn.self.waits));
  room : length (g.G.Grow.growing l.self.grow).rows + length (tags_onto [] l.self.tags.items) + 1 < 2 ^ 32;
}

abbrev pub decreases-loop-self : goal.decreases-loop-self
decreases-loop-self g l = length (tags_onto [] l.self.tags.items)
