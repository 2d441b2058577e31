use Rattle.std.proofs.Common.{◌≡◌, true, subst}
use Rattle.std.proofs.lemmas.Bool.{eqb-true, eq-eqb}
use Rattle.std.specs.Cmp.{both_ways as same_tests}
use Rattle.css_meaning.specs.Siblings.{is_nearest_earlier}
use Rattle.css_meaning.proofs.Earlier.{nearest}
use Rattle.css_meaning.proofs.Outward.{one_nearest}
use Rattle.css_meaning.proofs.links.is_nearest_earlier.Goals as goal

pub returns-in-Some : goal.returns-in-Some
returns-in-Some g c =
    let doc = g.T.Tree.document c.args.tree.now in
    let n = c.in-Some.nearest in
    let y = c.args.y in
    same_tests _ _ (λ h. subst (λ z. is_nearest_earlier doc z y ≡ true) (eqb-true n c.args.x h) c.in-Some.ensures)
    (λ h. eq-eqb n c.args.x (one_nearest doc n c.args.x y (nearest doc n y c.requires c.in-Some.ensures) (nearest doc c.args.x y c.requires h)))
