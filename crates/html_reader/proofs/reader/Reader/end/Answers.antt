use Rattle.std.proofs.Common.{ap, subst, sym, refl, arith, ◌<◌}
use Rattle.std.specs.Vec.{vec_len}
use Rattle.html_reader.specs.inner.Pieces.{owned_bytes}
use Rattle.html_reader.proofs.AttrLemmas.{ends_pop, stays_open}
use Rattle.html_reader.proofs.reader.Reader.end.Goals as goal

pub close-requires : goal.close-requires
close-requires g c κs = ((refl, tt), stays_open (g.G.Grow.growing c.args.self.now.grow) (g.G.Grow.growing c.flush.new.self.grow) (owned_bytes c.args.self.now.waits) (owned_bytes c.flush.new.self.waits) c.args.self.now.tags.items _ c.in_ok-flush.ensures.grown c.requires.sound.level (omega (arith, c.requires.some)))

pub returns : goal.returns
returns g c =
    ends_pop (g.G.Grow.growing c.args.self.now.grow) (g.G.Grow.growing c.flush.new.self.grow) (g.G.Grow.growing c.close.new.self) (owned_bytes c.args.self.now.waits) (owned_bytes c.flush.new.self.waits)
    c.args.self.now.tags.items c.flush.new.self.tags.items c.pop-last.new.self.items c.args.self.now.rooted c.flush.new.self.rooted c.pop-last.result (vec_len c.flush.new.self.tags)
    c.in_ok-flush.ensures.grown c.close.ensures (ap (λ v. v.items) c.flush.ensures.tags) c.flush.ensures.rooted c.pop-last.ensures.items c.pop-last.ensures.variant (subst (λ v. 0 < vec_len v) (sym c.flush.ensures.tags) c.requires.some)
