use Rattle.std.proofs.Common.{refl, sym, ap, ◌∙◌, map-id}
use Rattle.std.specs.Str.{chars}
use Rattle.std.proofs.lemmas.Iterator.{YieldsList-from_chars}
use Rattle.std.proofs.lemmas.Iterator.Consumers.{YieldsList-end}
use Rattle.std.proofs.lemmas.Str.{chars-nil}
use Rattle.xpath_functions.specs.inner.Spacing.{start, after}
use Rattle.xpath_functions.proofs.Spaces.{spaced}
use Rattle.xpath_functions.proofs.building.normalized.Goals as goal

pub loop-c-init : goal.loop-c-init
loop-c-init c = record { text = ap chars c.new-out.ensures.bytes ∙ chars-nil; apart = refl }

pub returns : goal.returns
returns c =
    let end = YieldsList-end (YieldsList-from_chars c.args.text.now c.utf8.text cc) c.loop-c.yielded _ c.loop-c.yielded_by _ _ c.in-None.is c.next.ensures.steps in
    c.loop-c.invariant.text ∙ ap (λ cs. (after start cs).text) (sym (map-id c.loop-c.yielded) ∙ end.0) ∙ spaced (chars c.args.text.now)
