use Rattle.std.specs.Str.{chars}
use Rattle.xpath_eval.proofs.Sides.{one_attribute}
use Rattle.xpath_eval.proofs.quick.attribute_side.Goals as goal

pub returns-in-Some : goal.returns-in-Some
returns-in-Some g c =
    one_attribute (g.S.Tree.document c.args.source.now) c.args.x c.in-Some.y (chars c.args.name.now) (chars c.text.result.now) c.in-Some.ensures.named c.text.ensures.chars
