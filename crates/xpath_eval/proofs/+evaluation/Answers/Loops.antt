-- What each turn of a loop keeps.
use Rattle.std.proofs.Common.{arith, ◌≡◌, sym, ◌∙◌, ap, subst, ℕ, ◌+◌, ◌<◌, ◌≤◌, ◌||◌, List, [], ◌∷◌, ◌++◌, length, take, drop, map, get_or, append_assoc}
use Rattle.std.proofs.lemmas.List.{take_more}
use Rattle.std.proofs.lemmas.List.Elements.{All-append, All-cons, All-nil}
use Rattle.doc_model.specs.RowLists.{has, Run, AllBelow}
use Rattle.doc_model.specs.Axes.{axis_list}
use Rattle.doc_model.specs.declared.Axis.TheVariants as axis
use Rattle.xpath_values.specs.declared.value.Value.{Value}
use Rattle.xpath_parser.specs.declared.expression.Expr.{Expr}
use Rattle.xpath_parser.specs.declared.expression.Step.{Step, out-Step}
use Rattle.xpath_parser.specs.Conversions.{rows_of}
use Rattle.xpath_parser.specs.Denote as spec
use Rattle.xpath_functions.specs.Rows.{AreWithin, IsWithin}
use Rattle.xpath_eval.specs.inner.Places.{context}
use Rattle.xpath_eval.specs.Rows.{AreRows}
use Rattle.xpath_eval.specs.inner.Steps.{IsTestedChild}
use Rattle.xpath_eval.proofs.Deep as deep
use Rattle.xpath_eval.proofs.Gathers as gathers
use Rattle.xpath_eval.proofs.Kept as kept
use Rattle.xpath_eval.proofs.Lists as lists
use Rattle.xpath_eval.proofs.+evaluation.Goals as goal

pub from_each-loop-x-preserved : goal.evaluation::from_each-loop-x-preserved
from_each-loop-x-preserved g t c =
    let doc = g.S.Tree.document c.args.source.now in
    let w = spec.walk_of doc c.args.step.now in
    let xs = c.args.rows.now in
    let i = c.loop-x.x-index in
    let x = get_or xs i 0 in
    subst (λ v. gathers.Gathered (length doc) v w c.in_ok-found.found.items) (sym (take_more xs i 0 c.loop-x-test.true))
    (gathers.gathered_more (length doc) (take i xs) x w c.loop-x.found.items c.in_ok-found.found.items c.loop-x.invariant (kept.walk_below doc c.args.step.now x)
    (λ y. c.in_ok-found.ensures y ∙ ap (λ v. has y c.loop-x.found.items || has y v) c.in_ok-walked.ensures))

pub union-loop-e-preserved : goal.evaluation::union-loop-e-preserved
union-loop-e-preserved g t c =
    let doc = g.S.Tree.document c.args.source.now in
    let w : Expr → List ℕ = λ x. rows_of (spec.denote doc x (context c.args.place)) in
    let es = c.args.es.now in
    let i = c.loop-e.e-index in
    let x = c.e-item.result in
    let more : c.as_slice.result.now ≡ w x = c.as_slice.ensures ∙ c.nodes-rows.ensures ∙ ap rows_of c.in_ok-value.ensures.value in
    let run : Run 0 (length doc) (w x) = subst (λ v. Run 0 (length doc) (rows_of v)) c.in_ok-value.ensures.value c.in_ok-value.ensures.rows in
    subst (λ v. gathers.Gathered (length doc) v w c.in_ok-found.found.items) (sym (lists.take_at es i x c.e-item.is c.loop-e-test.true))
    (gathers.gathered_more (length doc) (take i es) x w c.loop-e.found.items c.in_ok-found.found.items c.loop-e.invariant (lists.run_below 0 (length doc) (w x) run)
    (λ y. c.in_ok-found.ensures y ∙ ap (λ v. has y c.loop-e.found.items || has y v) more))

pub union-returns : goal.evaluation::union-returns
union-returns g t c =
    let doc = g.S.Tree.document c.args.source.now in
    let w : Expr → List ℕ = λ x. rows_of (spec.denote doc x (context c.args.place)) in
    c.from_vec.ensures ∙ gathers.gathered_whole doc c.args.es.now c.loop-e.e-index w c.loop-e.found.items c.ordered-rows.result.items
    c.loop-e.invariant c.loop-e-test.false c.ordered-rows.ensures.same c.ordered-rows.ensures.order

pub filtered-loop-predicate-preserved : goal.predicates::filtered-loop-predicate-preserved
filtered-loop-predicate-preserved g t c =
    let doc = g.S.Tree.document c.args.source.now in
    let ps = c.args.predicates.now in
    let i = c.loop-predicate.predicate-index in
    let p = c.predicate-item.result in
    let old = c.loop-predicate.rows.items in
    let is : c.kept.new.rows.items ≡ spec.kept_from (spec.denote doc p) (length old) 1 old = c.in_ok-kept.ensures in
    let fewer = kept.kept_from_few (spec.denote doc p) (length old) 1 old in
    let few = c.loop-predicate.invariant.few in
    record {
      kept = ap (spec.kept (map (spec.denote doc) (drop (i + 1) ps))) is
          ∙ ap (λ v. spec.kept (map (spec.denote doc) v) old) (sym (lists.drop_at ps i p c.predicate-item.is c.loop-predicate-test.true)) ∙ c.loop-predicate.invariant.kept;
      below = subst (AllBelow (length doc)) (sym is) (kept.kept_from_all (λ y. y < length doc) (spec.denote doc p) (length old) 1 old c.loop-predicate.invariant.below);
      few = subst (λ v. length v ≤ length doc) (sym is) (omega (arith, few, fewer));
    }

pub first_steps-loop-i-preserved-then-is_tested_child : goal.evaluation::first_steps-loop-i-preserved-then-is_tested_child
first_steps-loop-i-preserved-then-is_tested_child g t c =
    let doc = g.S.Tree.document c.args.source.now in
    let ss = c.args.steps.now in
    let n = c.args.count in
    let i = c.loop-i.i in
    let few : n ≤ length ss = c.requires.count in
    let less : i + 1 < n = c.if-i-count.true in
    let first = c.index-steps-i.result in
    let asked = c.index-steps-i-then-is_all_below.result in
    let second = c.index-steps-i-then-is_tested_child.result in
    let within : i + 1 < length ss = omega (arith, less, few) in
    let rest = lists.drop_at ss (i + 1) second c.index-steps-i-then-is_tested_child.is within in
    let same : second ≡ asked = ap (λ (v : List Step). get_or v 0 asked) (sym rest ∙ lists.drop_at ss (i + 1) asked c.index-steps-i-then-is_all_below.is within) in
    let cut : drop i (take n ss) ≡ first ∷ second ∷ drop (i + 2) (take n ss) =
    lists.drop_taken ss n i first c.index-steps-i.is c.loop-i-test.true few
    ∙ ap (λ v. first ∷ v) (lists.drop_taken ss n (i + 1) second c.index-steps-i-then-is_tested_child.is less few ∙ ap (λ k. second ∷ drop k (take n ss)) (omega arith)) in
    let is : c.in_ok-rows.rows ≡ spec.rows_in doc (spec.rows_in doc c.loop-i.rows (spec.walk_of doc first)) (spec.walk_of doc second) =
    c.in_ok-rows.ensures
    ∙ ap (λ v. spec.kept (map (spec.denote doc) (out-Step second).predicates) (spec.rows_in doc v (λ x. axis_list doc x axis.Descendant (out-Step second).test))) c.as_slice.ensures
    ∙ deep.tested_below doc first second c.loop-i.rows (g.met.S.Tree.is_document c.args.source.now) (c.is_all_below.ensures c.if-is_all_below.true) (subst IsTestedChild (sym same) (c.is_tested_child.ensures c.if-is_tested_child.true)) in
    let run : AreRows doc c.in_ok-rows.rows = subst (AreRows doc) (sym is) (gathers.rows_in_run doc (spec.rows_in doc c.loop-i.rows (spec.walk_of doc first)) (spec.walk_of doc second)) in
    record {
      path = ap (λ v. spec.path doc v (map (spec.walk_of doc) (drop (i + 2) (take n ss)))) is
          ∙ ap (λ v. spec.path doc c.loop-i.rows (map (spec.walk_of doc) v)) (sym cut) ∙ c.loop-i.invariant.path;
      rows = run;
      below = lists.run_below 0 (length doc) c.in_ok-rows.rows run;
    }

pub first_steps-loop-i-preserved : goal.evaluation::first_steps-loop-i-preserved
first_steps-loop-i-preserved g t c =
    let doc = g.S.Tree.document c.args.source.now in
    let ss = c.args.steps.now in
    let n = c.args.count in
    let i = c.loop-i.i in
    let few : n ≤ length ss = c.requires.count in
    let s = c.index-steps-i-else-i-count.result in
    let is : c.in_ok-rows-2.rows ≡ spec.rows_in doc c.loop-i.rows (spec.walk_of doc s) = c.in_ok-rows-2.ensures ∙ ap (λ v. spec.rows_in doc v (spec.walk_of doc s)) c.as_slice-else-i-count.ensures in
    let run : AreRows doc c.in_ok-rows-2.rows = subst (AreRows doc) (sym is) (gathers.rows_in_run doc c.loop-i.rows (spec.walk_of doc s)) in
    record {
      path = ap (λ v. spec.path doc v (map (spec.walk_of doc) (drop (i + 1) (take n ss)))) is
          ∙ ap (λ v. spec.path doc c.loop-i.rows (map (spec.walk_of doc) v)) (sym (lists.drop_taken ss n i s c.index-steps-i-else-i-count.is c.loop-i-test.true few)) ∙ c.loop-i.invariant.path;
      rows = run;
      below = lists.run_below 0 (length doc) c.in_ok-rows-2.rows run;
    }

pub values-loop-e-preserved : goal.evaluation::values-loop-e-preserved
values-loop-e-preserved g t c =
    let doc = g.S.Tree.document c.args.source.now in
    let value : Expr → Value = λ e. spec.denote doc e (context c.args.place) in
    let es = c.args.es.now in
    let i = c.loop-e.e-index in
    let e = c.e-item.result in
    let found = c.loop-e.found in
    let v = c.in_ok-value_at.field-0 in
    record {
      values = ap (λ vs. vs ++ map value (drop (i + 1) es)) c.in_ok-push.ensures.ok ∙ append_assoc found (v ∷ []) (map value (drop (i + 1) es))
          ∙ ap (λ u. found ++ u ∷ map value (drop (i + 1) es)) c.in_ok-value_at.ensures.value
          ∙ ap (λ us. found ++ map value us) (sym (lists.drop_at es i e c.e-item.is c.loop-e-test.true)) ∙ c.loop-e.invariant.values;
      within = subst (AreWithin doc) (sym c.in_ok-push.ensures.ok) (All-append (IsWithin doc) found (v ∷ []) c.loop-e.invariant.within
          (All-cons (IsWithin doc) v [] (lists.run_below 0 (length doc) (rows_of v) c.in_ok-value_at.ensures.rows) (All-nil (IsWithin doc))));
    }
