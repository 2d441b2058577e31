use Rattle.std.proofs.Common.{◌≡◌, ◌+◌, length, arith, ◌∙◌}
use Rattle.std.specs.Str.{chars}
use Rattle.step_index.specs.Named.{is_named, named_before}
use Rattle.step_index.proofs.Ranges as ranges
use Rattle.step_index.proofs.indexed.Indexed.count_below.Goals as goal

pub overflow_sub-result : goal.overflow_sub-result
overflow_sub-result g c =
    let doc = g.T.Tree.document c.args.self.now.tree in
    let name = chars c.args.name.now in
    let end = c.end-end.ensures in
    let is = c.under-list.ensures ∙ c.args.self.now.named c.args.name.now c.utf8.name in
    let to : c.number_before-to.result ≡ length (named_before doc name c.end-end.result) = c.number_before-to.ensures (is_named doc name) (length doc) end.within is in
    let from : c.number_before-from.result ≡ length (named_before doc name (c.args.x + 1)) = c.number_before-from.ensures (is_named doc name) (length doc) (omega (arith, end.after, end.within)) is in
    omega (arith, to, from, ranges.number_below doc c.args.x c.end-end.result name (g.met.T.Tree.is_document c.args.self.now.tree) end)

pub returns : goal.returns
returns g c =
    let doc = g.T.Tree.document c.args.self.now.tree in
    let name = chars c.args.name.now in
    let end = c.end-end.ensures in
    let is = c.under-list.ensures ∙ c.args.self.now.named c.args.name.now c.utf8.name in
    let to : c.number_before-to.result ≡ length (named_before doc name c.end-end.result) = c.number_before-to.ensures (is_named doc name) (length doc) end.within is in
    let from : c.number_before-from.result ≡ length (named_before doc name (c.args.x + 1)) = c.number_before-from.ensures (is_named doc name) (length doc) (omega (arith, end.after, end.within)) is in
    omega (arith, to, from, ranges.number_below doc c.args.x c.end-end.result name (g.met.T.Tree.is_document c.args.self.now.tree) end)
