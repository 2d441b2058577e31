use Rattle.std.proofs.Common.{sym}
use Rattle.xpath_parser.specs.Typed.{expression}
use Rattle.query_chain.proofs.Stepping.{select_texts, nothing_passes}
use Rattle.query_chain.proofs.steps.select_items.Goals as goal

pub returns-clause-items : goal.returns-clause-items
returns-clause-items g c =
    rw (c.new.ensures.items, c.in-Texts.is) (sym (select_texts (g.S.Tree.document c.args.source.now) (expression c.args.query.now) c.in-Texts.field-0.items))

pub returns-clause-passes : goal.returns-clause-passes
returns-clause-passes g c =
    rw c.in-Texts.is (nothing_passes c.args.limits (g.S.Tree.document c.args.source.now) (expression c.args.query.now) c.in-Texts.field-0.items)
