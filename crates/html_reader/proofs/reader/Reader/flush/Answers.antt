use Rattle.std.proofs.Common.{◌≡◌, sym, ◌∙◌, ap, [], rules, refl}
use Rattle.html_reader.specs.inner.Pieces.{owned_bytes}
use Rattle.html_reader.specs.inner.States.{grown_of, the_state}
use Rattle.html_reader.proofs.AttrLemmas.{settle_text}
use Rattle.html_reader.proofs.ReadLemmas.{still_open}
use Rattle.doc_model.proofs.Awaits.{no_text}
use Rattle.html_reader.proofs.reader.Reader.flush.Goals as goal

pub text-requires : goal.text-requires
text-requires g c κs =
    let some : (owned_bytes c.args.self.now.waits ≡ [] → ⊥) = search rules in (
      (refl, tt),
      (
        c.piece.ensures.some some,
        (
          record {
            opened = still_open (the_state c.args.self.now.tags.items c.args.self.now.rooted (g.G.Grow.growing c.args.self.now.grow) (owned_bytes c.args.self.now.waits)) c.requires.sound.level (sym c.is_outermost.ensures ∙ c.if-is_outermost.false);
            calm = no_text (g.G.Grow.growing c.args.self.now.grow).rows _ c.requires.sound.calm;
          },
          c.requires.room,
        ),
      ),
    )

pub returns-clause-grown : goal.returns-clause-grown
returns-clause-grown g c =
    let was = g.G.Grow.growing c.args.self.now.grow in
    let waits = owned_bytes c.args.self.now.waits in
    let some : (waits ≡ [] → ⊥) = search rules in
    let opened : (was.open_rows ≡ [] → ⊥) = still_open (the_state c.args.self.now.tags.items c.args.self.now.rooted was waits) c.requires.sound.level (sym c.is_outermost.ensures ∙ c.if-is_outermost.false) in
    ap (λ x. grown_of x []) c.in_ok-text.ensures.ok
    ∙ settle_text was waits (c.requires.sound.below_root opened) some _ c.piece.ensures.text
