use Rattle.std.proofs.Common.{◌≡◌, codes, ap, not}
use Rattle.std.specs.Str.{chars}
use Rattle.css_meaning.specs.Attributes.{has_attribute}
use Rattle.css_meaning.proofs.FoundValues.{then_both, else_none}
use Rattle.css_meaning.proofs.states.is_enabled.Goals as goal

pub returns-then-is_control : goal.returns-then-is_control
unfolding chars
returns-then-is_control g c =
    let attribute : not c.has_attribute.result ≡ not (has_attribute (g.T.Tree.document c.args.tree.now) c.args.e (codes "disabled")) = ap not c.has_attribute.ensures in
    then_both _ _ _ _ c.is_control.ensures c.if-is_control.true attribute

pub returns-else-is_control : goal.returns-else-is_control
returns-else-is_control g c =
    else_none _ (not (has_attribute (g.T.Tree.document c.args.tree.now) c.args.e (codes "disabled"))) _ c.is_control.ensures c.if-is_control.false
