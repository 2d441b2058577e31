use Rattle.std.proofs.Common.{ap, sym, ◌∙◌, arith}
use Rattle.std.specs.Str.{chars}
use Rattle.doc_model.specs.Growing.{Growing, with_attr}
use Rattle.doc_model.specs.KeptRows.{growing_of}
use Rattle.worked_trees.proofs.Rows.{filled, tagged, awaits_attr, awaits_behind_attr, on_ok}
use Rattle.worked_trees.proofs.steps.start_tag.Goals as goal

pub element-requires : goal.element-requires
element-requires c = (filled c.args.name.now c.utf8.name (sym c.is_empty.ensures ∙ c.if-is_empty.false), omega (arith, c.requires))

pub attr-requires : goal.attr-requires
attr-requires c =
    let was = c.args.grow.now in
    let old : Growing = growing_of was.kept.rows.items was.kept.unclosed.items in
    let now = c.element.new.self in
    let new : Growing = growing_of now.kept.rows.items now.kept.unclosed.items in
    let is = c.in_ok-element.ensures.ok in
    (filled c.args.attr.now c.utf8.attr (sym c.is_empty-2.ensures ∙ c.if-is_empty-2.false), (awaits_attr new old (chars c.args.name.now) (chars c.args.attr.now) was.kept.grown is, omega (arith, tagged new old (chars c.args.name.now) is, c.requires)))

pub returns-clause-awaits : goal.returns-clause-awaits
returns-clause-awaits c =
    let was = c.args.grow.now in
    let now = c.attr.new.self in
    on_ok c.attr.result
    (λ e. awaits_behind_attr (growing_of now.kept.rows.items now.kept.unclosed.items) (growing_of was.kept.rows.items was.kept.unclosed.items) (chars c.args.name.now) (chars c.args.attr.now) (chars c.args.value.now) now.kept.grown
    (e ∙ ap (λ s. with_attr s (chars c.args.attr.now) (chars c.args.value.now)) c.in_ok-element.ensures.ok))
    c.attr.ensures.ok
