use Rattle.std.proofs.Common.{◌≡◌, ℕ, ◌≤◌, ◌-◌, ◌++◌, length, take, drop, map}
use Rattle.std.specs.List.{list_any, list_all}
use Rattle.doc_model.specs.Axes.{axis_list}
use Rattle.xpath_parser.specs.declared.expression.Expr.{Expr}
use Rattle.xpath_parser.specs.declared.expression.Step.{out-Step}
use Rattle.xpath_parser.specs.declared.expression.Operand.{Operand}
use Rattle.xpath_parser.specs.Conversions as conversions
use Rattle.xpath_parser.specs.Denote as spec
use Rattle.xpath_functions.specs.Rows.{AreWithin}
use Rattle.xpath_eval.specs.inner.Places.{context}
use Rattle.doc_model.specs.RowLists.{AllBelow}
use Rattle.xpath_eval.specs.Rows.{AreRows}
use Rattle.xpath_eval.specs.inner.Tests.{passes_all}
use Rattle.xpath_eval.proofs.Gathers.{Gathered}
use Rattle.xpath_eval.proofs.Turns.{Keeping}
use Rattle.xpath_eval.proofs.+evaluation.Given as goal

abbrev pub invariant-truths::any-loop-e : goal.invariant-truths::any-loop-e
invariant-truths::any-loop-e g l =
    let test = λ (e : Expr). conversions.truth_of (spec.denote (g.S.Tree.document l.source) e (context l.place)) in
    list_any test (drop l.e-index l.es) ≡ list_any test l.es

abbrev pub invariant-truths::all-loop-e : goal.invariant-truths::all-loop-e
invariant-truths::all-loop-e g l =
    let test = λ (e : Expr). conversions.truth_of (spec.denote (g.S.Tree.document l.source) e (context l.place)) in
    list_all test (drop l.e-index l.es) ≡ list_all test l.es

abbrev pub invariant-evaluation::values-loop-e : goal.invariant-evaluation::values-loop-e
invariant-evaluation::values-loop-e g l =
    let doc = g.S.Tree.document l.source in
    let value = λ (e : Expr). spec.denote doc e (context l.place) in
    record { values : l.found ++ map value (drop l.e-index l.es) ≡ map value l.es; within : AreWithin doc l.found }

abbrev pub invariant-evaluation::joined-loop-operand : goal.invariant-evaluation::joined-loop-operand
invariant-evaluation::joined-loop-operand g l =
    let doc = g.S.Tree.document l.source in
    let arm = λ (o : Operand). spec.arm_at doc o (context l.place) in
    record {
      value : spec.joined doc l.value (map arm (drop l.operand-index l.operands)) ≡ spec.joined doc l.fn.first (map arm l.operands);
      rows : AreRows doc (conversions.rows_of l.value);
    }

abbrev pub invariant-evaluation::union-loop-e : goal.invariant-evaluation::union-loop-e
invariant-evaluation::union-loop-e g l =
    let doc = g.S.Tree.document l.source in
    Gathered (length doc) (take l.e-index l.es) (λ (e : Expr). conversions.rows_of (spec.denote doc e (context l.place))) l.found.items

abbrev pub invariant-evaluation::first_steps-loop-i : goal.invariant-evaluation::first_steps-loop-i
invariant-evaluation::first_steps-loop-i g l =
    let doc = g.S.Tree.document l.source in
    record {
      path : spec.path doc l.rows (map (spec.walk_of doc) (drop l.i (take l.count l.steps))) ≡ spec.path doc l.fn.start (map (spec.walk_of doc) (take l.count l.steps));
      rows : AreRows doc l.rows;
      below : AllBelow (length doc) l.rows;
    }

abbrev pub decreases-evaluation::first_steps-loop-i : goal.decreases-evaluation::first_steps-loop-i
decreases-evaluation::first_steps-loop-i g l = l.count - l.i

abbrev pub invariant-evaluation::from_each-loop-x : goal.invariant-evaluation::from_each-loop-x
invariant-evaluation::from_each-loop-x g l =
    let doc = g.S.Tree.document l.source in Gathered (length doc) (take l.x-index l.rows) (spec.walk_of doc l.step) l.found.items

abbrev pub invariant-predicates::filtered-loop-predicate : goal.invariant-predicates::filtered-loop-predicate
invariant-predicates::filtered-loop-predicate g l =
    let doc = g.S.Tree.document l.source in
    record {
      kept : spec.kept (map (spec.denote doc) (drop l.predicate-index l.predicates)) l.rows.items ≡ spec.kept (map (spec.denote doc) l.predicates) l.fn.rows.items;
      below : AllBelow (length doc) l.rows.items;
      few : length l.rows.items ≤ length doc;
    }

abbrev pub invariant-predicates::tried-loop-position : goal.invariant-predicates::tried-loop-position
invariant-predicates::tried-loop-position g l =
    let doc = g.S.Tree.document l.source in
    Keeping (length doc) (spec.denote doc l.predicate) l.size l.fn.rows.items l.rows.items l.position l.end

abbrev pub decreases-predicates::tried-loop-position : goal.decreases-predicates::tried-loop-position
decreases-predicates::tried-loop-position g l = l.size - l.position

abbrev pub invariant-truths::walks-loop-x : goal.invariant-truths::walks-loop-x
invariant-truths::walks-loop-x g l =
    let test = λ (x : ℕ). conversions.is_any (spec.walk_of (g.S.Tree.document l.source) l.step x) in
    list_any test (drop l.x-index l.rows) ≡ list_any test l.rows

abbrev pub invariant-truths::each_tested-loop-x : goal.invariant-truths::each_tested-loop-x
invariant-truths::each_tested-loop-x g l =
    let doc = g.S.Tree.document l.source in
    let s = out-Step l.step in
    let test = λ (x : ℕ). list_any (λ y. passes_all doc s.predicates y) (axis_list doc x l.axis s.test) in
    list_any test (drop l.x-index l.rows) ≡ list_any test l.rows

abbrev pub invariant-truths::one_passes-loop-y : goal.invariant-truths::one_passes-loop-y
invariant-truths::one_passes-loop-y g l =
    let test = λ (y : ℕ). passes_all (g.S.Tree.document l.source) l.predicates y in
    list_any test (drop l.y-index l.rows) ≡ list_any test l.rows
