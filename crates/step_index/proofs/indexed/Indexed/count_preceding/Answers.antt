use Rattle.std.proofs.Common.{◌≡◌, length, arith, ◌∙◌, ap}
use Rattle.std.specs.Str.{chars}
use Rattle.doc_model.specs.declared.Axis.TheVariants as axis
use Rattle.doc_model.specs.declared.NodeTest.TheVariants as test
use Rattle.doc_model.specs.Axes.{axis_list}
use Rattle.step_index.specs.Named.{is_named, named_before}
use Rattle.step_index.proofs.Ranges as ranges
use Rattle.step_index.proofs.indexed.Indexed.count_preceding.Goals as goal

pub overflow_sub-result : goal.overflow_sub-result
overflow_sub-result g c =
    let doc = g.T.Tree.document c.args.self.now.tree in
    let name = chars c.args.name.now in
    let is = c.under-list.ensures ∙ c.args.self.now.named c.args.name.now c.utf8.name in
    let before : c.number_before-before.result ≡ length (named_before doc name c.args.x) = c.number_before-before.ensures (is_named doc name) (length doc) (omega (arith, c.requires.row)) is in
    let above : c.walk_count-above.result ≡ length (axis_list doc c.args.x axis.Ancestor (test.Name name)) = c.walk_count-above.ensures ∙ ap (λ t. length (axis_list doc c.args.x axis.Ancestor t)) c.requires.named in
    omega (arith, before, above, ranges.number_preceding doc c.args.x name (g.met.T.Tree.is_document c.args.self.now.tree) c.requires.row)

pub returns : goal.returns
returns g c =
    let doc = g.T.Tree.document c.args.self.now.tree in
    let name = chars c.args.name.now in
    let is = c.under-list.ensures ∙ c.args.self.now.named c.args.name.now c.utf8.name in
    let before : c.number_before-before.result ≡ length (named_before doc name c.args.x) = c.number_before-before.ensures (is_named doc name) (length doc) (omega (arith, c.requires.row)) is in
    let above : c.walk_count-above.result ≡ length (axis_list doc c.args.x axis.Ancestor (test.Name name)) = c.walk_count-above.ensures ∙ ap (λ t. length (axis_list doc c.args.x axis.Ancestor t)) c.requires.named in
    let all : length (axis_list doc c.args.x axis.Preceding c.args.test.now) ≡ length (axis_list doc c.args.x axis.Preceding (test.Name name)) = ap (λ t. length (axis_list doc c.args.x axis.Preceding t)) c.requires.named in
    omega (arith, before, above, all, ranges.number_preceding doc c.args.x name (g.met.T.Tree.is_document c.args.self.now.tree) c.requires.row)
