use Rattle.std.proofs.Common.{ℕ, List, sym, subst, inl, inr}
use Rattle.html_reader.specs.Pages.{BuildsPage}
use Rattle.html_reader.proofs.FaultLemmas.{one_page_document, never_both_of_page}
use Rattle.markup_back.proofs.writing.read_back.Goals as goal

pub returns-in-Ok : goal.returns-in-Ok
returns-in-Ok g c =
    let doc = g.T.Tree.document c.args.tree.now in
    let known = c.requires.builds in
    let built = subst (λ (bs : List ℕ). BuildsPage bs doc) (sym c.as_str.ensures.value) (c.in_ok-text.ensures.builds known.0 known.1.0 known.1.1) in
    one_page_document c.as_str.result.now _ doc c.in-Ok.ensures.ok built

pub unreachable-requires : goal.unreachable-requires
unreachable-requires g c =
    let doc = g.T.Tree.document c.args.tree.now in
    let known = c.requires.builds in
    let built = subst (λ (bs : List ℕ). BuildsPage bs doc) (sym c.as_str.ensures.value) (c.in_ok-text.ensures.builds known.0 known.1.0 known.1.1) in
    elim c.in-Err.ensures.fault [
      | inl memory ↦ c.in_default.not-Memory memory.0
      | inr fault ↦ never_both_of_page c.as_str.result.now doc c.in-Err.fault.reason c.in-Err.fault.at built fault
    ]
