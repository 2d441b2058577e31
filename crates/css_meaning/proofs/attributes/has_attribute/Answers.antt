use Rattle.std.proofs.Common.{◌∙◌}
use Rattle.std.specs.Str.{chars}
use Rattle.css_meaning.proofs.FoundValues.{some_there}
use Rattle.css_meaning.proofs.attributes.has_attribute.Goals as goal

pub returns : goal.returns
returns g c = c.is_some.ensures ∙ some_there (g.T.Tree.document c.args.tree.now) (chars c.args.name.now) c.args.e c.attribute_named.result c.attribute_named.ensures.named
