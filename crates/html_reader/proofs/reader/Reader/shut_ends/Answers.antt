use Rattle.std.proofs.Common.{◌≡◌, ◌<◌, refl, arith, ◌∙◌, ◌^◌, sym, subst, [], true}
use Rattle.std.specs.Vec.{vec_len}
use Rattle.html_reader.specs.inner.Pieces.{owned_bytes}
use Rattle.html_reader.specs.inner.States.{the_state, tags_onto, next_of}
use Rattle.html_reader.specs.inner.Reached.{IsReached}
use Rattle.html_reader.specs.Words.{is_shut}
use Rattle.html_reader.proofs.SoundLemmas.{reached_sound, reached_shut, shuts_more, closed_room, shut_some}
use Rattle.html_reader.proofs.AttrLemmas.{length-tags}
use Rattle.html_reader.proofs.reader.Reader.shut_ends.Goals as goal

pub end-requires : goal.end-requires
end-requires g c κs =
    let next = next_of c.args.next in
    let must : (is_shut (tags_onto [] c.loop-self.self.tags.items) next ≡ true) = sym c.is_shut.ensures ∙ c.loop-self-test.true in
    let some : (0 < vec_len c.loop-self.self.tags) = omega (arith, shut_some next (tags_onto [] c.loop-self.self.tags.items) must, length-tags [] c.loop-self.self.tags.items) in (
      (refl, tt),
      (
        reached_sound next _ c.loop-self.invariant.reached,
        (
          some,
          omega (arith, c.loop-self.invariant.room),
        ),
      ),
    )

pub loop-self-preserved : goal.loop-self-preserved
loop-self-preserved g c =
    let old = the_state c.loop-self.self.tags.items c.loop-self.self.rooted (g.G.Grow.growing c.loop-self.self.grow) (owned_bytes c.loop-self.self.waits) in
    let new = the_state c.end.new.self.tags.items c.end.new.self.rooted (g.G.Grow.growing c.end.new.self.grow) (owned_bytes c.end.new.self.waits) in
    let first = the_state c.args.self.now.tags.items c.args.self.now.rooted (g.G.Grow.growing c.args.self.now.grow) (owned_bytes c.args.self.now.waits) in
    let next = next_of c.args.next in
    let must : (is_shut (tags_onto [] c.loop-self.self.tags.items) next ≡ true) = sym c.is_shut.ensures ∙ c.loop-self-test.true in
    record {
      reached = subst (IsReached next) (sym c.in_ok-end.ensures) (reached_shut next old c.loop-self.invariant.reached must);
      same = shuts_more next old new first c.loop-self.invariant.same must c.in_ok-end.ensures;
      room = closed_room next old new (2 ^ 32) c.in_ok-end.ensures must c.loop-self.invariant.room;
    }
