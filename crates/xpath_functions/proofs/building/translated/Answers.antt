use Rattle.std.proofs.Common.{sym, ap, ◌∙◌, map-id}
use Rattle.std.specs.Str.{chars}
use Rattle.std.proofs.lemmas.Iterator.{YieldsList-from_chars}
use Rattle.std.proofs.lemmas.Iterator.Consumers.{YieldsList-end}
use Rattle.std.proofs.lemmas.Str.{chars-nil}
use Rattle.xpath_values.specs.Strings.{translated}
use Rattle.xpath_functions.proofs.building.translated.Goals as goal

pub loop-c-init : goal.loop-c-init
loop-c-init c = ap chars c.new-out.ensures.bytes ∙ chars-nil

pub returns : goal.returns
returns c =
    let end = YieldsList-end (YieldsList-from_chars c.args.text.now c.utf8.text cc) c.loop-c.yielded _ c.loop-c.yielded_by _ _ c.in-None.is c.next.ensures.steps in
    c.loop-c.invariant ∙ ap (λ cs. translated cs (chars c.args.from.now) (chars c.args.to.now)) (sym (map-id c.loop-c.yielded) ∙ end.0)
