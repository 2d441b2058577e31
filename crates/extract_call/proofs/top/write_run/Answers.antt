use Rattle.std.proofs.Common.{rules, map, string_bytes}
use Rattle.test_registry.specs.View.{known}
use Rattle.page_records.specs.Scripts.{IsRecordFault}
use Rattle.extract_call.proofs.Complete.{nothing_run, run_at}
use Rattle.extract_call.specs.Plans.{alone}
use Rattle.extract_call.proofs.Plans.{of_script, of_refusal}
use Rattle.extract_call.proofs.top.write_run.Goals as goal

pub returns-in-Ok-clause-run : goal.returns-in-Ok-clause-run
returns-in-Ok-clause-run g c =
    of_script c.laws_below.ensures (known c.args.tests.now) c.args.dialect c.args.script.now (map string_bytes c.args.names.now) c.in-Ok.read.entries _ c.in-Ok.ensures.ok c.write_pages.ensures.run

pub returns-in-Err-Memory-clause-run : goal.returns-in-Err-Memory-clause-run
returns-in-Err-Memory-clause-run g c = λ plan is. nothing_run c.laws_below.ensures.takings plan _ _

pub returns-in-Err-clause-run : goal.returns-in-Err-clause-run
returns-in-Err-clause-run g c =
    let cause : IsRecordFault c.args.script.now c.in-Err.fault = search rules in
    of_refusal c.laws_below.ensures (known c.args.tests.now) c.args.dialect c.args.script.now (map string_bytes c.args.names.now) c.in-Err.fault c.script_answer.result _ cause c.script_answer.ensures
    (λ a made. run_at (alone a) _ _ _ _ (c.write_alone.ensures.run a made))
