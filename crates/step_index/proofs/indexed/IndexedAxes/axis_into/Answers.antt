use Rattle.std.proofs.Common.{◌++◌, [], ◌∷◌, cond, sym, ◌∙◌, ap}
use Rattle.doc_model.proofs.Runs.{on_err}
use Rattle.doc_model.proofs.WalkSteps.{empty_front}
use Rattle.step_index.specs.Named.{is_named, named_below}
use Rattle.std.specs.Str.{chars}
use Rattle.step_index.proofs.Axes as axes
use Rattle.step_index.proofs.Filled as filled
use Rattle.step_index.proofs.indexed.IndexedAxes.axis_into.Goals as goal

pub returns-in_err-push_named-in-DescendantOrSelf-clause-err :
    goal.returns-in_err-push_named-in-DescendantOrSelf-clause-err
returns-in_err-push_named-in-DescendantOrSelf-clause-err g c =
    on_err c.from_residual.result (empty_front c.push_named.new.out.items _ (c.in_err-push_named-in-DescendantOrSelf.ensures.err ∙ c.requires.empty))

pub returns-in-DescendantOrSelf-clause-ok : goal.returns-in-DescendantOrSelf-clause-ok
returns-in-DescendantOrSelf-clause-ok g c =
    let doc = g.T.Tree.document c.args.self.now.tree in
    let x = c.args.x in
    let answers = named_below doc x c.in-Name.name in
    filled.on_ok c.below_into-in-DescendantOrSelf.result
    (axes.all_behind c.args.out.now.items (cond (is_named doc (chars c.as_str.result.now) x) (x ∷ []) []) c.push_named.new.out.items c.below_into-in-DescendantOrSelf.new.out.items answers _ c.requires.empty
    c.in_ok-push_named-in-DescendantOrSelf.ensures.ok
    (axes.down_self doc x c.args.axis c.args.test.now c.in-Name.name (g.met.T.Tree.is_document c.args.self.now.tree) c.requires.row c.in-DescendantOrSelf.is c.in-Name.is ∙ ap (λ m. cond (is_named doc m x) (x ∷ []) [] ++ answers) (sym c.as_str.ensures.chars)))
    c.below_into-in-DescendantOrSelf.ensures.ok

pub returns-in-DescendantOrSelf-clause-err : goal.returns-in-DescendantOrSelf-clause-err
returns-in-DescendantOrSelf-clause-err g c =
    let doc = g.T.Tree.document c.args.self.now.tree in
    let x = c.args.x in
    let answers = named_below doc x c.in-Name.name in
    filled.on_err_by c.below_into-in-DescendantOrSelf.result
    (axes.front_behind c.args.out.now.items (cond (is_named doc (chars c.as_str.result.now) x) (x ∷ []) []) c.push_named.new.out.items c.below_into-in-DescendantOrSelf.new.out.items answers _ c.requires.empty
    c.in_ok-push_named-in-DescendantOrSelf.ensures.ok
    (axes.down_self doc x c.args.axis c.args.test.now c.in-Name.name (g.met.T.Tree.is_document c.args.self.now.tree) c.requires.row c.in-DescendantOrSelf.is c.in-Name.is ∙ ap (λ m. cond (is_named doc m x) (x ∷ []) [] ++ answers) (sym c.as_str.ensures.chars)))
    c.below_into-in-DescendantOrSelf.ensures.err
