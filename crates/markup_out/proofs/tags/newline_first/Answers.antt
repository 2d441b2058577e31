use Rattle.std.proofs.Common.{sym, ap, ◌∙◌, arith}
use Rattle.std.specs.Prelude.{◌==◌}
use Rattle.markup_out.specs.Markup.{begins_newline}
use Rattle.markup_out.proofs.ContentRows.{newline_some, newline_none}
use Rattle.markup_out.proofs.NameLemmas.{begins_same}
use Rattle.markup_out.proofs.tags.newline_first.Goals as goal

pub returns-then-y-len : goal.returns-then-y-len
returns-then-y-len g c =
    sym (newline_none (g.T.Tree.document c.args.tree.now) c.args.x c.args.y (g.met.T.Tree.is_document c.args.tree.now) c.requires (λ l p t. omega (arith, l, c.len.ensures, c.if-y-len.true)))

pub returns-then-parent-x : goal.returns-then-parent-x
returns-then-parent-x g c =
    sym (newline_none (g.T.Tree.document c.args.tree.now) c.args.x c.args.y (g.met.T.Tree.is_document c.args.tree.now) c.requires (λ l p t. c.if-parent-x.true (c.parent.ensures ∙ p)))

pub returns-in-Text : goal.returns-in-Text
returns-in-Text g c =
    let doc = g.T.Tree.document c.args.tree.now in
    let parent = sym c.parent.ensures ∙ c.if-parent-x.false in
    let text = sym c.kind.ensures ∙ c.in-Text.is in
    ap (λ b. b == 10) c.byte_at.ensures ∙ begins_same c.text.result.now c.text.utf8 ∙ ap begins_newline c.text.ensures.chars
    ∙ sym (newline_some doc c.args.x c.args.y (g.met.T.Tree.is_document c.args.tree.now) c.requires (omega (arith, c.len.ensures, c.if-y-len.false)) parent text)

pub returns-in_default : goal.returns-in_default
returns-in_default g c =
    sym (newline_none (g.T.Tree.document c.args.tree.now) c.args.x c.args.y (g.met.T.Tree.is_document c.args.tree.now) c.requires (λ l p t. c.in_default.not-Text (c.kind.ensures ∙ t)))
