use Rattle.std.proofs.Common.{rules, refl, arith, length, map, sym, subst, ap, ◌+◌, ◌≤◌, length-append, ◌∙◌, ◌≡◌, ◌++◌, [], ◌∷◌}
use Rattle.doc_model.specs.Pieces.{piece_text}
use Rattle.doc_model.specs.Growing.{Growing, innermost, element_row}
use Rattle.html_reader.specs.inner.Kept.{AreKept}
use Rattle.html_reader.specs.inner.States.{attr_of, the_state}
use Rattle.html_reader.specs.inner.Machine.{with_some}
use Rattle.html_reader.specs.declared.reader.Root.{Root}
use Rattle.html_reader.specs.inner.Pieces.{owned_bytes}
use Rattle.html_reader.proofs.AttrLemmas.{starts_tag, settled_room, ends_in}
use Rattle.html_reader.proofs.reader.Reader.start.Goals as goal

pub element-requires : goal.element-requires
element-requires g c κs = (
  (refl, tt),
  (
    c.piece.ensures.some c.requires.kept.0,
    omega (arith, c.requires.room, settled_room (g.G.Grow.growing c.args.self.now.grow) (g.G.Grow.growing c.flush.new.self.grow) (owned_bytes c.args.self.now.waits) (owned_bytes c.flush.new.self.waits) c.in_ok-flush.ensures.grown),
  ),
)

pub push_attrs-requires : goal.push_attrs-requires
push_attrs-requires g c κs =
    let was = g.G.Grow.growing c.args.self.now.grow in
    let flushed = g.G.Grow.growing c.flush.new.self.grow in
    let few : length flushed.rows ≤ length was.rows + 1 = settled_room was flushed (owned_bytes c.args.self.now.waits) (owned_bytes c.flush.new.self.waits) c.in_ok-flush.ensures.grown in
    let begun = c.in_ok-element.ensures.ok in
    let name = owned_bytes c.args.tag.name in (
      (refl, tt),
      (
        ends_in was flushed (g.G.Grow.growing c.element.new.self) (owned_bytes c.args.self.now.waits) (owned_bytes c.flush.new.self.waits) name _ c.in_ok-flush.ensures.grown c.requires.sound.there c.requires.sound.inside c.piece.ensures.text begun,
        (
          subst (λ xs. AreKept (map attr_of xs)) (sym c.as_slice.ensures.value) c.requires.kept.1,
          omega (arith, c.requires.room, few, ap (λ (x : Growing). length x.rows) begun, length-append flushed.rows (element_row (innermost flushed.open_rows) (piece_text c.piece.result) ∷ []), ap length c.as_slice.ensures.value),
        ),
      ),
    )

pub returns : goal.returns
returns g c =
    let pushed : (c.push.new.self.items ≡ c.args.self.now.tags.items ++ c.args.tag ∷ []) = search rules in
    ap (λ (r : Root). the_state c.push.new.self.items (with_some r) (g.G.Grow.growing c.push_attrs.new.grow) (owned_bytes c.flush.new.self.waits)) c.flush.ensures.rooted
    ∙ starts_tag (g.G.Grow.growing c.args.self.now.grow) (g.G.Grow.growing c.flush.new.self.grow) (g.G.Grow.growing c.element.new.self) (g.G.Grow.growing c.push_attrs.new.grow)
    (owned_bytes c.args.self.now.waits) (owned_bytes c.flush.new.self.waits) c.args.self.now.tags.items c.push.new.self.items c.args.self.now.rooted c.args.tag
    c.in_ok-flush.ensures.grown _ c.piece.ensures.text c.in_ok-element.ensures.ok _ c.as_slice.ensures.value c.in_ok-push_attrs.ensures pushed
