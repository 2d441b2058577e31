use Rattle.std.proofs.lemmas.Result.{IfOk-weaker}
use Rattle.test_registry.specs.View.{known}
use Rattle.page_records.proofs.ContentLemmas.{unnamed, both}
use Rattle.page_records.proofs.blocks.block.Goals as goal

pub returns-in-None-clause-is : goal.returns-in-None-clause-is
returns-in-None-clause-is g c =
    IfOk-weaker c.refused.result _ _ (unnamed (known c.args.tests.now) c.args.dialect c.args.piece.now c.in-None.ensures) (both c.refused.result _ _ c.refused.ensures.name c.refused.ensures.is)
