use Rattle.std.proofs.Common.{◌≡◌, ◌∙◌, sym, refl, ap, arith, get_or}
use Rattle.std.specs.Str.{chars}
use Rattle.doc_model.specs.Pieces.{piece_text}
use Rattle.html_reader.specs.declared.token.Attr.{Attr}
use Rattle.html_reader.specs.inner.Pieces.{owned_bytes}
use Rattle.html_reader.proofs.reader.push_attrs.Given.{Over}
use Rattle.html_reader.proofs.AttrLemmas.{kept_name, awaits, attr_room}
use Rattle.html_reader.proofs.reader.push_attrs.Goals as goal

named : (g : Over) (c : goal.After-piece-in-loop-attr g) → piece_text c.piece.result ≡ chars (owned_bytes (get_or c.args.attrs.now c.loop-attr.attr-index c.attr-item.result).name)
named g c = c.piece.ensures.text ∙ ap (λ (a : Attr). chars (owned_bytes a.name)) c.attr-item.is

pub attr-requires : goal.attr-requires
attr-requires g c κs = (
  (refl, tt),
  (
    λ e. kept_name c.args.attrs.now c.loop-attr.attr-index _ c.requires.kept c.loop-attr-test.true (sym (named g c) ∙ e),
    (
      awaits (g.G.Grow.growing c.args.grow.now) (g.G.Grow.growing c.loop-attr.grow) c.args.attrs.now c.loop-attr.attr-index _ _ c.requires.element c.requires.kept c.loop-attr.invariant c.loop-attr-test.true (named g c),
      omega (arith, attr_room (g.G.Grow.growing c.args.grow.now) (g.G.Grow.growing c.loop-attr.grow) c.args.attrs.now c.loop-attr.attr-index c.loop-attr.invariant c.loop-attr.auto.attr-index-end, c.loop-attr-test.true, c.requires.room),
    ),
  ),
)
