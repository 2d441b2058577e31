use Rattle.std.proofs.Common.{◌∙◌}
use Rattle.std.specs.Str.{chars}
use Rattle.xpath_eval.proofs.Sides.{attribute_any}
use Rattle.xpath_eval.proofs.told.gives_any.Goals as goal

pub returns-in-Some : goal.returns-in-Some
returns-in-Some g c =
    c.is_some.ensures ∙ attribute_any (g.S.Tree.document c.args.source.now) c.args.step.now c.args.x (chars c.in-Some.name.now) c.attribute_named.result c.in-Some.ensures c.attribute_named.ensures.named
