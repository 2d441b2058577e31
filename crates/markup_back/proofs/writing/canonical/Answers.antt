use Rattle.std.proofs.Common.{ℕ, List, sym, subst}
use Rattle.html_reader.specs.Pages.{BuildsPage}
use Rattle.markup_back.proofs.LawLemmas.{canonical_builds}
use Rattle.markup_back.proofs.writing.canonical.Goals as goal

pub returns-in-Ok-clause-builds : goal.returns-in-Ok-clause-builds
returns-in-Ok-clause-builds g c =
    let doc = g.T.Tree.document c.args.tree.now in
    λ page utf8 b. subst (λ (bs : List ℕ). BuildsPage bs doc) (sym c.in-Ok.ensures.bytes) (canonical_builds page doc utf8 b)
