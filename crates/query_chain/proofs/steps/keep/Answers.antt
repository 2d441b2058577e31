use Rattle.std.proofs.Common.{◌<◌, subst, sym, length, map}
use Rattle.std.specs.List.{All}
use Rattle.std.proofs.lemmas.List.Elements.{All-filter}
use Rattle.query_chain.specs.Items.{node, text}
use Rattle.query_chain.specs.inner.Keeping.{row_meets}
use Rattle.query_chain.proofs.ItemTexts.{texts_within}
use Rattle.query_chain.proofs.Keeping.{kept_rows, kept_texts, keep_passes, kept_within}
use Rattle.query_chain.proofs.steps.keep.Goals as goal

pub returns-in_ok-kept-in-Rows-clause-items : goal.returns-in_ok-kept-in-Rows-clause-items
returns-in_ok-kept-in-Rows-clause-items g c =
    rw c.in-Rows.is (kept_rows (g.S.Tree.document c.args.source.now) c.args.kind c.args.other.now c.in-Rows.rows.items _ (rw c.as_slice.ensures.value at c.in_ok-kept-in-Rows.ensures.rows))

pub returns-in_ok-kept-in-Rows-clause-passes : goal.returns-in_ok-kept-in-Rows-clause-passes
returns-in_ok-kept-in-Rows-clause-passes g c =
    rw c.in-Rows.is
    (keep_passes (g.S.Tree.document c.args.source.now) c.args.kind c.args.other.now c.args.limits (map node c.in-Rows.rows.items) (rw c.as_slice.ensures.value at c.in_ok-kept-in-Rows.ensures.within)
    (rw c.in-Rows.is at c.requires.few))

pub returns-in_ok-kept-in-Rows-clause-within : goal.returns-in_ok-kept-in-Rows-clause-within
returns-in_ok-kept-in-Rows-clause-within g c =
    let doc = g.S.Tree.document c.args.source.now in
    subst (λ xs. All (λ x. x < length doc) xs) (sym (rw c.as_slice.ensures.value at c.in_ok-kept-in-Rows.ensures.rows))
    (All-filter (row_meets doc c.args.kind c.args.other.now) (λ x. x < length doc) c.in-Rows.rows.items (rw c.in-Rows.is at c.requires.within))

pub returns-in_ok-kept-in-Rows-clause-few : goal.returns-in_ok-kept-in-Rows-clause-few
returns-in_ok-kept-in-Rows-clause-few g c =
    kept_within (g.S.Tree.document c.args.source.now) c.args.kind c.args.other.now (map node c.in-Rows.rows.items) _ c.args.limits.items
    (kept_rows (g.S.Tree.document c.args.source.now) c.args.kind c.args.other.now c.in-Rows.rows.items _ (rw c.as_slice.ensures.value at c.in_ok-kept-in-Rows.ensures.rows))
    (rw c.in-Rows.is at c.requires.few)

pub returns-in_ok-kept-in-Texts-clause-items : goal.returns-in_ok-kept-in-Texts-clause-items
returns-in_ok-kept-in-Texts-clause-items g c =
    rw c.in-Texts.is (kept_texts (g.S.Tree.document c.args.source.now) c.args.kind c.args.other.now c.in-Texts.texts.items _ c.in_ok-kept-in-Texts.ensures.texts)

pub returns-in_ok-kept-in-Texts-clause-passes : goal.returns-in_ok-kept-in-Texts-clause-passes
returns-in_ok-kept-in-Texts-clause-passes g c =
    rw c.in-Texts.is
    (keep_passes (g.S.Tree.document c.args.source.now) c.args.kind c.args.other.now c.args.limits (map text c.in-Texts.texts.items)
    (texts_within (g.S.Tree.document c.args.source.now) c.in-Texts.texts.items c.args.limits.bytes c.in_ok-kept-in-Texts.ensures.within) (rw c.in-Texts.is at c.requires.few))

pub returns-in_ok-kept-in-Texts-clause-few : goal.returns-in_ok-kept-in-Texts-clause-few
returns-in_ok-kept-in-Texts-clause-few g c =
    kept_within (g.S.Tree.document c.args.source.now) c.args.kind c.args.other.now (map text c.in-Texts.texts.items) _ c.args.limits.items
    (kept_texts (g.S.Tree.document c.args.source.now) c.args.kind c.args.other.now c.in-Texts.texts.items _ c.in_ok-kept-in-Texts.ensures.texts) (rw c.in-Texts.is at c.requires.few)
