use Rattle.std.proofs.Common.{List, ◌∙◌, sym, subst}
use Rattle.std.specs.Prelude.{All}
use Rattle.std.specs.List.{AllByRecursion}
use Rattle.test_registry.specs.View.{known}
use Rattle.css_selectors.specs.declared.selector.Dialect.TheVariants.{Html}
use Rattle.page_records.specs.declared.script.Entry.{Entry}
use Rattle.page_records.specs.Ordered.{IsOrderedEntry, IsStoredEntry}
use Rattle.page_records.specs.Records.{EntryTask, EntryAsks}
use Rattle.page_records.specs.Scripts.{IsRecordScript}
use Rattle.extract_call.specs.Bulk.{bulk_script}
use Rattle.extract_call.specs.inner.Tasks.{AreTasks}
use Rattle.extract_call.proofs.Plans.{bulk_line}
use Rattle.extract_call.proofs.bulk.bulk_answer.Goals as goal

pub prepare_entries-requires-clause-ordered : goal.prepare_entries-requires-clause-ordered
prepare_entries-requires-clause-ordered g c =
    subst (λ (es : List Entry). AllByRecursion (IsOrderedEntry (known c.args.tests.now)) es) (sym c.as_slice.ensures) c.in-Ok.ensures.ordered

pub prepare_entries-requires-clause-stored : goal.prepare_entries-requires-clause-stored
prepare_entries-requires-clause-stored g c =
    subst (λ (es : List Entry). AllByRecursion (IsStoredEntry (known c.args.tests.now)) es) (sym c.as_slice.ensures) c.in-Ok.ensures.stored

pub bulk_page-requires-clause-some : goal.bulk_page-requires-clause-some
bulk_page-requires-clause-some g c = c.requires.some

pub bulk_page-requires-clause-most : goal.bulk_page-requires-clause-most
bulk_page-requires-clause-most g c = c.requires.most

pub page_answer-requires : goal.page_answer-requires
page_answer-requires g c =
    let tests = known c.args.tests.now in
    let ready = sym c.as_slice-in-Ok.ensures.value in (
      subst (λ (es : List Entry). AreTasks tests es c.as_slice-in-Ok.result.now) c.as_slice.ensures
          (subst (λ (ts : List EntryTask). AreTasks tests c.as_slice.result.now ts) ready c.in_ok-ready-in-Ok.ensures.tasks),
      (subst (λ (ts : List EntryTask). All (EntryAsks tests) ts) ready c.in_ok-ready-in-Ok.ensures.asks, c.in-Ok.ensures.names),
    )

pub returns-in_ok-page-in-Ok : goal.returns-in_ok-page-in-Ok
returns-in_ok-page-in-Ok g c =
    let reads : IsRecordScript (known c.args.tests.now) Html bulk_script c.in-Ok.script.entries = c.in-Ok.ensures.ok in
    bulk_line (known c.args.tests.now) c.args.n c.in-Ok.script.entries _ c.page_answer.result reads (c.as_bytes.ensures.value ∙ c.in_ok-page-in-Ok.ensures) c.page_answer.ensures
