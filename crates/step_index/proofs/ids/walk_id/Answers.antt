use Rattle.std.proofs.Common.{◌∙◌, ap, sym, length, Some, arith}
use Rattle.std.specs.List.{find}
use Rattle.std.specs.Option.{option_map}
use Rattle.std.specs.Str.{chars}
use Rattle.doc_model.specs.Document.{row, rows}
use Rattle.step_index.specs.inner.Tables.{gives_id}
use Rattle.step_index.proofs.Firsts.{found, found_is, found_none}
use Rattle.step_index.proofs.ids.walk_id.Goals as goal

pub returns-then-is_id_of : goal.returns-then-is_id_of
returns-then-is_id_of g c =
    let doc = g.T.Tree.document c.args.tree.now in
    let p = gives_id doc (chars c.args.word.now) in
    let first = found_is p (length doc) c.loop-z.z (find p (rows doc)) (found p (length doc) 0) (omega (arith, c.loop-z-test.true, c.len-z-end.ensures)) (sym c.is_id_of.ensures ∙ c.if-is_id_of.true) c.loop-z.invariant in
    ap Some c.parent.ensures ∙ sym (ap (option_map (λ z. (row doc z).parent)) first)

pub returns : goal.returns
returns g c =
    let doc = g.T.Tree.document c.args.tree.now in
    let p = gives_id doc (chars c.args.word.now) in
    sym (ap (option_map (λ z. (row doc z).parent)) (found_none p (length doc) (find p (rows doc)) (found p (length doc) 0) (λ z l. c.loop-z.invariant z (omega (arith, l, c.loop-z-test.false, c.len-z-end.ensures)))))
