use Rattle.std.proofs.Common.{refl, ◌∙◌}
use Rattle.css_meaning.proofs.Dashes.{dash_here, no_dash, same_stops}
use Rattle.css_meaning.proofs.attribute_values.has_dash.Goals as goal

pub returns-then-begins : goal.returns-then-begins
returns-then-begins c =
    same_stops c.as_bytes.result.now c.args.value.now c.args.wanted.now _ _ c.stops_or_dash.ensures c.as_bytes.ensures.value refl
    ∙ dash_here c.args.value.now c.args.wanted.now c.utf8.value c.utf8.wanted c.begins.result c.begins.ensures c.if-begins.true

pub returns-else-begins : goal.returns-else-begins
returns-else-begins c =
    no_dash c.args.value.now c.args.wanted.now c.utf8.value c.utf8.wanted c.begins.result c.begins.ensures c.if-begins.false
