use Rattle.std.proofs.Common.{sym, ap, ◌∙◌, map-id}
use Rattle.std.specs.Str.{chars}
use Rattle.std.proofs.lemmas.Iterator.{YieldsList-from_chars}
use Rattle.std.proofs.lemmas.Iterator.Consumers.{YieldsList-end}
use Rattle.xpath_values.specs.declared.reading.Reading.TheVariants.{Front}
use Rattle.xpath_values.specs.inner.Reading.{after, number}
use Rattle.xpath_values.proofs.Scanned.{scanned}
use Rattle.xpath_values.proofs.reading.to_number.Goals as goal

pub returns : goal.returns
returns c =
    let end = YieldsList-end (YieldsList-from_chars c.args.text.now c.utf8.text cc) c.loop-c.yielded _ c.loop-c.yielded_by _ _ c.in-None.is c.next.ensures.steps in
    c.number.ensures ∙ ap number (c.loop-c.invariant ∙ ap (after Front) (sym (map-id c.loop-c.yielded) ∙ end.0)) ∙ scanned (chars c.args.text.now)
