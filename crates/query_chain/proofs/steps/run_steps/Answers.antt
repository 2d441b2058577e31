use Rattle.std.proofs.Common.{◌∙◌, map}
use Rattle.std.proofs.lemmas.Result.{err_from_is_err_and}
use Rattle.test_registry.specs.View.{known}
use Rattle.query_chain.specs.Tasks.{ActionAsks}
use Rattle.query_chain.specs.inner.Steps.{items_of, action_of}
use Rattle.query_chain.proofs.Lists.{all_mapped}
use Rattle.query_chain.proofs.Stepping.{answered, stopped_early, stopped_late}
use Rattle.query_chain.proofs.steps.run_steps.Goals as goal

pub give_all-requires-clause-asks : goal.give_all-requires-clause-asks
give_all-requires-clause-asks g c = all_mapped (ActionAsks (known c.args.tests.now)) action_of c.args.steps.now c.requires.asks

pub returns-clause-value : goal.returns-clause-value
returns-clause-value g c =
    c.value_of.ensures ∙ answered c.args.limits (g.S.Tree.document c.args.source.now) c.args.x (map action_of c.args.steps.now) c.args.end (items_of c.in_ok-items.items) c.in_ok-texts.texts.items
    c.in_ok-items.ensures.items c.in_ok-items.ensures.passes c.in_ok-texts.ensures.texts c.in_ok-texts.ensures.passes

pub returns-in_err-items-clause-stop : goal.returns-in_err-items-clause-stop
returns-in_err-items-clause-stop g c =
    let p = err_from_is_err_and c.from_residual.result c.from_residual.ensures.1 in
    rw (p.1, p.2) (stopped_early c.args.limits (g.S.Tree.document c.args.source.now) c.args.x (map action_of c.args.steps.now) c.args.end _ c.in_err-items.ensures.stop)

pub returns-in_err-texts-clause-stop : goal.returns-in_err-texts-clause-stop
returns-in_err-texts-clause-stop g c =
    let p = err_from_is_err_and c.from_residual-in_err-texts.result c.from_residual-in_err-texts.ensures.1 in
    rw (p.1, p.2) (stopped_late c.args.limits (g.S.Tree.document c.args.source.now) c.args.x (map action_of c.args.steps.now) c.args.end (items_of c.in_ok-items.items) _
    c.in_ok-items.ensures.items c.in_ok-items.ensures.passes c.in_err-texts.ensures.stop)
