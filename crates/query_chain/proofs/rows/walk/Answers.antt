use Rattle.std.proofs.Common.{◌∙◌}
use Rattle.test_registry.specs.View.{known}
use Rattle.query_chain.specs.Tasks.{ActionAsks}
use Rattle.query_chain.specs.inner.Steps.{items_of, action_of}
use Rattle.query_chain.proofs.Lists.{all_mapped}
use Rattle.query_chain.proofs.Rowing.{usable_rows, no_output, too_many, not_many}
use Rattle.query_chain.proofs.rows.walk.Goals as goal

pub give_all-requires-clause-usable : goal.give_all-requires-clause-usable
give_all-requires-clause-usable g c = usable_rows c.args.steps.now c.requires.rows

pub give_all-requires-clause-asks : goal.give_all-requires-clause-asks
give_all-requires-clause-asks g c = all_mapped (ActionAsks (known c.args.tests.now)) action_of c.args.steps.now c.requires.asks

pub unreachable-requires : goal.unreachable-requires
unreachable-requires g c =
    no_output c.args.limits (g.S.Tree.document c.args.source.now) c.args.most c.args.steps.now c.requires.rows (rw c.in-Err-Output.field-0-is at c.in-Err-Output.ensures.stop)

pub returns-in-Ok-clause-rows : goal.returns-in-Ok-clause-rows
returns-in-Ok-clause-rows g c =
    c.few_rows.ensures.rows
    ∙ not_many c.args.limits (g.S.Tree.document c.args.source.now) c.args.most c.args.steps.now (items_of c.in-Ok.items) c.requires.rows c.in-Ok.ensures.passes c.in-Ok.ensures.items

pub returns-in-Err-Selection-clause-rows : goal.returns-in-Err-Selection-clause-rows
returns-in-Err-Selection-clause-rows g c =
    too_many c.args.limits (g.S.Tree.document c.args.source.now) c.args.most c.args.steps.now c.requires.rows (rw c.in-Err-Selection.field-0-is at c.in-Err-Selection.ensures.stop)
