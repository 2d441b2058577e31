use Rattle.std.proofs.Common.{◌≡◌, length, arith, ◌∙◌, ap}
use Rattle.std.specs.Str.{chars}
use Rattle.step_index.specs.Named.{is_named, named_before}
use Rattle.step_index.proofs.Ranges as ranges
use Rattle.step_index.proofs.indexed.Indexed.count_following.Goals as goal

pub overflow_sub-result : goal.overflow_sub-result
overflow_sub-result g c =
    let doc = g.T.Tree.document c.args.self.now.tree in
    let name = chars c.args.name.now in
    let end = c.end-end.ensures in
    let is = c.under-list.ensures ∙ c.args.self.now.named c.args.name.now c.utf8.name in
    let all : c.number_before-all.result ≡ length (named_before doc name (length doc)) = c.number_before-all.ensures (is_named doc name) (length doc) (omega (arith, c.len-len.ensures)) is ∙ ap (λ m. length (named_before doc name m)) c.len-len.ensures in
    let before : c.number_before-before.result ≡ length (named_before doc name c.end-end.result) = c.number_before-before.ensures (is_named doc name) (length doc) end.within is in
    omega (arith, all, before, ranges.number_following doc c.args.x c.end-end.result name (g.met.T.Tree.is_document c.args.self.now.tree) end)

pub returns : goal.returns
returns g c =
    let doc = g.T.Tree.document c.args.self.now.tree in
    let name = chars c.args.name.now in
    let end = c.end-end.ensures in
    let is = c.under-list.ensures ∙ c.args.self.now.named c.args.name.now c.utf8.name in
    let all : c.number_before-all.result ≡ length (named_before doc name (length doc)) = c.number_before-all.ensures (is_named doc name) (length doc) (omega (arith, c.len-len.ensures)) is ∙ ap (λ m. length (named_before doc name m)) c.len-len.ensures in
    let before : c.number_before-before.result ≡ length (named_before doc name c.end-end.result) = c.number_before-before.ensures (is_named doc name) (length doc) end.within is in
    omega (arith, all, before, ranges.number_following doc c.args.x c.end-end.result name (g.met.T.Tree.is_document c.args.self.now.tree) end)
