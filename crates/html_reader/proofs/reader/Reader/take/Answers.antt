use Rattle.std.proofs.Common.{◌≡◌, refl, arith, rules, Some}
use Rattle.html_reader.specs.inner.Pieces.{owned_bytes}
use Rattle.html_reader.specs.inner.Machine.{shuts}
use Rattle.html_reader.specs.inner.States.{the_state, tok_of}
use Rattle.html_reader.proofs.ReadLemmas.{mid_sound, mid_size, takes}
use Rattle.html_reader.proofs.reader.Reader.take.Goals as goal

pub step-requires : goal.step-requires
step-requires g c κs =
    let old = the_state c.args.self.now.tags.items c.args.self.now.rooted (g.G.Grow.growing c.args.self.now.grow) (owned_bytes c.args.self.now.waits) in
    let mid = the_state c.shut_ends.new.self.tags.items c.shut_ends.new.self.rooted (g.G.Grow.growing c.shut_ends.new.self.grow) (owned_bytes c.shut_ends.new.self.waits) in
    let next = Some (tok_of c.args.token) in
    let is : (mid ≡ shuts next old) = search rules in (
      (refl, tt),
      (
        mid_sound next old mid is c.requires.led,
        (
          c.requires.kept,
          omega (arith, c.requires.room, mid_size next old mid is),
        ),
      ),
    )

pub returns : goal.returns
returns g c =
    let old = the_state c.args.self.now.tags.items c.args.self.now.rooted (g.G.Grow.growing c.args.self.now.grow) (owned_bytes c.args.self.now.waits) in
    let mid = the_state c.shut_ends.new.self.tags.items c.shut_ends.new.self.rooted (g.G.Grow.growing c.shut_ends.new.self.grow) (owned_bytes c.shut_ends.new.self.waits) in
    let next = Some (tok_of c.args.token) in
    let is : (mid ≡ shuts next old) = search rules in
    takes old mid _ c.args.token c.step.result is c.step.ensures
