use Rattle.std.proofs.Common.{refl, arith, ap}
use Rattle.html_reader.specs.inner.Pieces.{owned_bytes}
use Rattle.html_reader.proofs.AttrLemmas.{settled_room, comments}
use Rattle.html_reader.proofs.reader.Reader.comment.Goals as goal

pub comment-requires : goal.comment-requires
comment-requires g c κs = (
  (refl, tt),
  omega (arith, c.requires.room, settled_room (g.G.Grow.growing c.args.self.now.grow) (g.G.Grow.growing c.flush.new.self.grow) (owned_bytes c.args.self.now.waits) (owned_bytes c.flush.new.self.waits) c.in_ok-flush.ensures.grown),
)

pub returns : goal.returns
returns g c =
    comments (g.G.Grow.growing c.args.self.now.grow) (g.G.Grow.growing c.flush.new.self.grow) (g.G.Grow.growing c.comment.new.self) (owned_bytes c.args.self.now.waits) (owned_bytes c.flush.new.self.waits)
    c.args.self.now.tags.items c.flush.new.self.tags.items c.args.self.now.rooted c.flush.new.self.rooted c.args.content.now
    c.in_ok-flush.ensures.grown c.in_ok-comment.ensures.ok (ap (λ v. v.items) c.flush.ensures.tags) c.flush.ensures.rooted
