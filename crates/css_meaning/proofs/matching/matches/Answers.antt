use Rattle.std.proofs.Common.{◌∙◌, ap}
use Rattle.std.specs.Prelude.{reverse}
use Rattle.css_meaning.specs.Matching.{matches_by}
use Rattle.css_meaning.proofs.Backwards.{ends_anywhere}
use Rattle.css_meaning.proofs.matching.matches.Goals as goal

pub returns : goal.returns
returns g c =
    let doc = g.T.Tree.document c.args.tree.now in
    c.leads_back.ensures
    ∙ (ends_anywhere doc c.args.dialect (reverse c.as_slice.result.now) c.args.e
    ∙ ap (λ ps. matches_by doc c.args.dialect ps c.args.e) c.as_slice.ensures)
