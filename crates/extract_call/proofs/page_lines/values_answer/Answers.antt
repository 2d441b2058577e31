use Rattle.std.proofs.Common.{List, ap₂, sym, subst}
use Rattle.test_registry.specs.View.{known}
use Rattle.page_records.specs.declared.script.EntryValue.{EntryValue}
use Rattle.page_records.specs.Lines.{HaveForms}
use Rattle.extract_call.specs.PageLines.{AreValues}
use Rattle.extract_call.proofs.Tasks.{values_by_tasks, forms_by_tasks}
use Rattle.extract_call.proofs.page_lines.values_answer.Goals as goal

pub record_line-requires-clause-forms : goal.record_line-requires-clause-forms
record_line-requires-clause-forms g c =
    subst (λ (vs : List EntryValue). HaveForms c.args.entries.now vs) (sym c.in_ok-values.ensures)
    (forms_by_tasks (known c.args.tests.now) c.laws_below.ensures (g.S.Tree.document c.args.source.now) c.args.entries.now c.args.ready.now c.requires.tasks)

pub returns : goal.returns
returns g c =
    let doc = g.S.Tree.document c.args.source.now in
    record {
      values = c.in_ok-values.values;
      are = subst (λ (vs : List EntryValue). AreValues (known c.args.tests.now) doc c.args.entries.now vs) (sym c.in_ok-values.ensures)
          (values_by_tasks (known c.args.tests.now) doc c.args.entries.now c.args.ready.now c.requires.tasks);
      line = ap₂ (λ t r. record { text = t; refused = r }) c.in_ok-text.ensures.text c.holds_refusal-refused.ensures;
    }
