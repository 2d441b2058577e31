use Rattle.std.proofs.Common.{◌∙◌, ap}
use Rattle.std.specs.Str.{chars}
use Rattle.css_meaning.specs.Attributes.{op_test}
use Rattle.css_meaning.specs.Names.{folded}
use Rattle.css_meaning.proofs.FoundValues.{value_there, no_value}
use Rattle.css_meaning.proofs.attributes.attribute_holds.Goals as goal

pub returns-in-Some : goal.returns-in-Some
returns-in-Some g c =
    c.value_passes.ensures ∙ ap (λ value. op_test c.args.op value (chars c.args.wanted.now)) c.text.ensures.chars
    ∙ value_there (g.T.Tree.document c.args.tree.now) (folded c.args.dialect (chars c.args.name.now)) c.args.e (λ value. op_test c.args.op value (chars c.args.wanted.now)) c.in-Some.z c.in-Some.ensures.named

pub returns-in-None : goal.returns-in-None
returns-in-None g c =
    no_value (g.T.Tree.document c.args.tree.now) (folded c.args.dialect (chars c.args.name.now)) c.args.e (λ value. op_test c.args.op value (chars c.args.wanted.now)) c.in-None.ensures.named
