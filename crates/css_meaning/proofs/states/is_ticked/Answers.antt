use Rattle.std.proofs.Common.{◌≡◌, codes}
use Rattle.std.specs.Str.{chars}
use Rattle.css_meaning.specs.Attributes.{has_attribute}
use Rattle.css_meaning.proofs.FoundValues.{then_both, else_none}
use Rattle.css_meaning.proofs.states.is_ticked.Goals as goal

pub returns-then-is_box : goal.returns-then-is_box
unfolding chars
returns-then-is_box g c =
    let attribute : c.has_attribute.result ≡ has_attribute (g.T.Tree.document c.args.tree.now) c.args.e (codes "checked") = c.has_attribute.ensures in
    then_both _ _ _ _ c.is_box.ensures c.if-is_box.true attribute

pub returns-else-is_box : goal.returns-else-is_box
returns-else-is_box g c =
    else_none _ (has_attribute (g.T.Tree.document c.args.tree.now) c.args.e (codes "checked")) _ c.is_box.ensures c.if-is_box.false
