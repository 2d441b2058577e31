use Rattle.std.proofs.Common.{◌++◌, sym, ◌∙◌, ap, false}
use Rattle.text_base.specs.inner.Newlines.{newlines_after}
use Rattle.text_base.proofs.Boundaries.{at_start}
use Rattle.text_base.proofs.NewlinePlaces.{newlines_read}
use Rattle.text_base.proofs.decoding.with_newlines.Goals as goal

pub loop-from-init : goal.loop-from-init
loop-from-init c = record {
  place = at_start c.args.text.now c.utf8.text;
  so_far = ap (λ t. t ++ newlines_after false c.args.text.now) c.new-out.ensures.bytes ∙ sym (newlines_read c.args.text.now);
}
