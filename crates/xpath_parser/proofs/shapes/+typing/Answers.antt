use Rattle.std.proofs.Common.{rules, arith, ◌≡◌, refl, sym, ◌∙◌, ap, true, false, ◌&&◌, ◌+◌, map, length, drop}
use Rattle.std.proofs.lemmas.Grind.{common_steps}
use Rattle.std.specs.List.{list_all}
use Rattle.xpath_values.specs.declared.value.Shape.TheVariants as shape
use Rattle.xpath_parser.specs.declared.expression.Expr.TheVariants as e
use Rattle.xpath_parser.specs.Shapes as spec
use Rattle.xpath_parser.specs.inner.Typings.{start_right, step_right, operand_typed, operand_right, fits}
use Rattle.xpath_parser.proofs.ShapeLemmas as lemma
use Rattle.xpath_parser.proofs.shapes.+typing.Goals as goal

pub start_right-returns-in-Here : goal.start_right-returns-in-Here
start_right-returns-in-Here t c = sym (ap start_right c.in-Here.is ∙ lemma.at_here)

pub start_right-returns-in-Root : goal.start_right-returns-in-Root
start_right-returns-in-Root t c = sym (ap start_right c.in-Root.is ∙ lemma.at_root)

pub start_right-returns-in-From : goal.start_right-returns-in-From
start_right-returns-in-From t c =
    let read : c.fits.result ≡ fits true c.in-From.e = first_of (search rules, grind (arith, common_steps)) in
    read ∙ sym (ap start_right c.in-From.is ∙ lemma.at_from c.in-From.e)

pub typing-returns-in-Or-clause-shape : goal.typing-returns-in-Or-clause-shape
typing-returns-in-Or-clause-shape t c = lemma.of_shape c.args.e.now (e.Or c.in-Or.es) (shape.Bool) (list_all (fits false) c.in-Or.es) c.in-Or.is (lemma.at_or c.in-Or.es)

pub typing-returns-in-Or-clause-right : goal.typing-returns-in-Or-clause-right
typing-returns-in-Or-clause-right t c =
    let same : c.all_fit.result ≡ (list_all (fits false) c.in-Or.es) = first_of (search rules, grind (arith, common_steps)) in
    lemma.of_right c.args.e.now (e.Or c.in-Or.es) (shape.Bool) c.all_fit.result (list_all (fits false) c.in-Or.es) c.in-Or.is (lemma.at_or c.in-Or.es) same

pub typing-returns-in-And-clause-shape : goal.typing-returns-in-And-clause-shape
typing-returns-in-And-clause-shape t c = lemma.of_shape c.args.e.now (e.And c.in-And.es) (shape.Bool) (list_all (fits false) c.in-And.es) c.in-And.is (lemma.at_and c.in-And.es)

pub typing-returns-in-And-clause-right : goal.typing-returns-in-And-clause-right
typing-returns-in-And-clause-right t c =
    let same : c.all_fit-in-And.result ≡ (list_all (fits false) c.in-And.es) = first_of (search rules, grind (arith, common_steps)) in
    lemma.of_right c.args.e.now (e.And c.in-And.es) (shape.Bool) c.all_fit-in-And.result (list_all (fits false) c.in-And.es) c.in-And.is (lemma.at_and c.in-And.es) same

pub typing-returns-in-Minus-clause-shape : goal.typing-returns-in-Minus-clause-shape
typing-returns-in-Minus-clause-shape t c = lemma.of_shape c.args.e.now (e.Minus c.in-Minus.field-0 c.in-Minus.e) (shape.Num) ((spec.typing c.in-Minus.e).right) c.in-Minus.is (lemma.at_minus c.in-Minus.field-0 c.in-Minus.e)

pub typing-returns-in-Minus-clause-right : goal.typing-returns-in-Minus-clause-right
typing-returns-in-Minus-clause-right t c =
    let same : c.typing.result.1 ≡ ((spec.typing c.in-Minus.e).right) = first_of (search rules, grind (arith, common_steps)) in
    lemma.of_right c.args.e.now (e.Minus c.in-Minus.field-0 c.in-Minus.e) (shape.Num) c.typing.result.1 ((spec.typing c.in-Minus.e).right) c.in-Minus.is (lemma.at_minus c.in-Minus.field-0 c.in-Minus.e) same

pub typing-returns-in-Union-clause-shape : goal.typing-returns-in-Union-clause-shape
typing-returns-in-Union-clause-shape t c = lemma.of_shape c.args.e.now (e.Union c.in-Union.es) (shape.Nodes) (list_all (fits true) c.in-Union.es) c.in-Union.is (lemma.at_union c.in-Union.es)

pub typing-returns-in-Union-clause-right : goal.typing-returns-in-Union-clause-right
typing-returns-in-Union-clause-right t c =
    let same : c.all_fit-in-Union.result ≡ (list_all (fits true) c.in-Union.es) = first_of (search rules, grind (arith, common_steps)) in
    lemma.of_right c.args.e.now (e.Union c.in-Union.es) (shape.Nodes) c.all_fit-in-Union.result (list_all (fits true) c.in-Union.es) c.in-Union.is (lemma.at_union c.in-Union.es) same

pub typing-returns-then-start_right-clause-shape : goal.typing-returns-then-start_right-clause-shape
typing-returns-then-start_right-clause-shape t c = lemma.of_shape c.args.e.now (e.Path c.in-Path.start c.in-Path.steps) (shape.Nodes) (start_right c.in-Path.start && list_all step_right c.in-Path.steps) c.in-Path.is (lemma.at_path c.in-Path.start c.in-Path.steps)

pub typing-returns-then-start_right-clause-right : goal.typing-returns-then-start_right-clause-right
typing-returns-then-start_right-clause-right t c =
    let same : c.steps_right.result ≡ (start_right c.in-Path.start && list_all step_right c.in-Path.steps) = lemma.and_then (start_right c.in-Path.start) c.steps_right.result (list_all step_right c.in-Path.steps) (first_of (search rules, grind (arith, common_steps))) (first_of (search rules, grind (arith, common_steps))) in
    lemma.of_right c.args.e.now (e.Path c.in-Path.start c.in-Path.steps) (shape.Nodes) c.steps_right.result (start_right c.in-Path.start && list_all step_right c.in-Path.steps) c.in-Path.is (lemma.at_path c.in-Path.start c.in-Path.steps) same

pub typing-returns-else-start_right-clause-shape : goal.typing-returns-else-start_right-clause-shape
typing-returns-else-start_right-clause-shape t c = lemma.of_shape c.args.e.now (e.Path c.in-Path.start c.in-Path.steps) (shape.Nodes) (start_right c.in-Path.start && list_all step_right c.in-Path.steps) c.in-Path.is (lemma.at_path c.in-Path.start c.in-Path.steps)

pub typing-returns-else-start_right-clause-right : goal.typing-returns-else-start_right-clause-right
typing-returns-else-start_right-clause-right t c =
    let same : c.start_right.result ≡ (start_right c.in-Path.start && list_all step_right c.in-Path.steps) = lemma.and_else c.start_right.result (start_right c.in-Path.start) (list_all step_right c.in-Path.steps) (first_of (search rules, grind (arith, common_steps))) (first_of (search rules, grind (arith, common_steps))) in
    lemma.of_right c.args.e.now (e.Path c.in-Path.start c.in-Path.steps) (shape.Nodes) c.start_right.result (start_right c.in-Path.start && list_all step_right c.in-Path.steps) c.in-Path.is (lemma.at_path c.in-Path.start c.in-Path.steps) same

pub typing-returns-in-Literal-clause-shape : goal.typing-returns-in-Literal-clause-shape
typing-returns-in-Literal-clause-shape t c = lemma.of_shape c.args.e.now (e.Literal c.in-Literal.field-0) (shape.Str) (true) c.in-Literal.is (lemma.at_literal c.in-Literal.field-0)

pub typing-returns-in-Literal-clause-right : goal.typing-returns-in-Literal-clause-right
typing-returns-in-Literal-clause-right t c =
    let same : true ≡ (true) = refl in
    lemma.of_right c.args.e.now (e.Literal c.in-Literal.field-0) (shape.Str) true (true) c.in-Literal.is (lemma.at_literal c.in-Literal.field-0) same

pub typing-returns-in-Number-clause-shape : goal.typing-returns-in-Number-clause-shape
typing-returns-in-Number-clause-shape t c = lemma.of_shape c.args.e.now (e.Number c.in-Number.field-0) (shape.Num) (true) c.in-Number.is (lemma.at_number c.in-Number.field-0)

pub typing-returns-in-Number-clause-right : goal.typing-returns-in-Number-clause-right
typing-returns-in-Number-clause-right t c =
    let same : true ≡ (true) = refl in
    lemma.of_right c.args.e.now (e.Number c.in-Number.field-0) (shape.Num) true (true) c.in-Number.is (lemma.at_number c.in-Number.field-0) same

pub typing-returns-then-found-clause-shape : goal.typing-returns-then-found-clause-shape
typing-returns-then-found-clause-shape t c =
    let found : c.joined_shape.result ≡ (spec.joined_shape (spec.typing c.in-Joined.first).shape (map operand_typed c.in-Joined.operands)) = first_of (search rules, grind (arith, common_steps)) in
    found ∙ lemma.of_shape c.args.e.now (e.Joined c.in-Joined.first c.in-Joined.operands) (spec.joined_shape (spec.typing c.in-Joined.first).shape (map operand_typed c.in-Joined.operands)) ((spec.typing c.in-Joined.first).right && list_all operand_right c.in-Joined.operands) c.in-Joined.is (lemma.at_joined c.in-Joined.first c.in-Joined.operands)

pub typing-returns-then-found-clause-right : goal.typing-returns-then-found-clause-right
typing-returns-then-found-clause-right t c =
    let same : c.operands_right.result ≡ ((spec.typing c.in-Joined.first).right && list_all operand_right c.in-Joined.operands) = lemma.and_then ((spec.typing c.in-Joined.first).right) c.operands_right.result (list_all operand_right c.in-Joined.operands) (first_of (search rules, grind (arith, common_steps))) (first_of (search rules, grind (arith, common_steps))) in
    lemma.of_right c.args.e.now (e.Joined c.in-Joined.first c.in-Joined.operands) (spec.joined_shape (spec.typing c.in-Joined.first).shape (map operand_typed c.in-Joined.operands)) c.operands_right.result ((spec.typing c.in-Joined.first).right && list_all operand_right c.in-Joined.operands) c.in-Joined.is (lemma.at_joined c.in-Joined.first c.in-Joined.operands) same

pub typing-returns-else-found-clause-shape : goal.typing-returns-else-found-clause-shape
typing-returns-else-found-clause-shape t c =
    let found : c.joined_shape.result ≡ (spec.joined_shape (spec.typing c.in-Joined.first).shape (map operand_typed c.in-Joined.operands)) = first_of (search rules, grind (arith, common_steps)) in
    found ∙ lemma.of_shape c.args.e.now (e.Joined c.in-Joined.first c.in-Joined.operands) (spec.joined_shape (spec.typing c.in-Joined.first).shape (map operand_typed c.in-Joined.operands)) ((spec.typing c.in-Joined.first).right && list_all operand_right c.in-Joined.operands) c.in-Joined.is (lemma.at_joined c.in-Joined.first c.in-Joined.operands)

pub typing-returns-else-found-clause-right : goal.typing-returns-else-found-clause-right
typing-returns-else-found-clause-right t c =
    let same : c.typing-found.result.1 ≡ ((spec.typing c.in-Joined.first).right && list_all operand_right c.in-Joined.operands) = lemma.and_else c.typing-found.result.1 ((spec.typing c.in-Joined.first).right) (list_all operand_right c.in-Joined.operands) (first_of (search rules, grind (arith, common_steps))) (first_of (search rules, grind (arith, common_steps))) in
    lemma.of_right c.args.e.now (e.Joined c.in-Joined.first c.in-Joined.operands) (spec.joined_shape (spec.typing c.in-Joined.first).shape (map operand_typed c.in-Joined.operands)) c.typing-found.result.1 ((spec.typing c.in-Joined.first).right && list_all operand_right c.in-Joined.operands) c.in-Joined.is (lemma.at_joined c.in-Joined.first c.in-Joined.operands) same

pub typing-returns-then-right_nodes-clause-shape : goal.typing-returns-then-right_nodes-clause-shape
typing-returns-then-right_nodes-clause-shape t c =
    let found : c.typing-found-in-Filter.result.0 ≡ ((spec.typing c.in-Filter.e).shape) = first_of (search rules, grind (arith, common_steps)) in
    found ∙ lemma.of_shape c.args.e.now (e.Filter c.in-Filter.e c.in-Filter.predicates) ((spec.typing c.in-Filter.e).shape) ((spec.typing c.in-Filter.e).right && (spec.is_nodes (spec.typing c.in-Filter.e).shape && list_all (fits false) c.in-Filter.predicates)) c.in-Filter.is (lemma.at_filter c.in-Filter.e c.in-Filter.predicates)

pub typing-returns-then-right_nodes-clause-right : goal.typing-returns-then-right_nodes-clause-right
typing-returns-then-right_nodes-clause-right t c =
    let same : c.all_fit-then-right_nodes.result ≡ ((spec.typing c.in-Filter.e).right && (spec.is_nodes (spec.typing c.in-Filter.e).shape && list_all (fits false) c.in-Filter.predicates)) = lemma.and_then ((spec.typing c.in-Filter.e).right && spec.is_nodes (spec.typing c.in-Filter.e).shape) c.all_fit-then-right_nodes.result (list_all (fits false) c.in-Filter.predicates) (first_of (search rules, grind (arith, common_steps))) (first_of (search rules, grind (arith, common_steps))) ∙ lemma.and_three (spec.typing c.in-Filter.e).right (spec.is_nodes (spec.typing c.in-Filter.e).shape) (list_all (fits false) c.in-Filter.predicates) in
    lemma.of_right c.args.e.now (e.Filter c.in-Filter.e c.in-Filter.predicates) ((spec.typing c.in-Filter.e).shape) c.all_fit-then-right_nodes.result ((spec.typing c.in-Filter.e).right && (spec.is_nodes (spec.typing c.in-Filter.e).shape && list_all (fits false) c.in-Filter.predicates)) c.in-Filter.is (lemma.at_filter c.in-Filter.e c.in-Filter.predicates) same

pub typing-returns-else-right_nodes-clause-shape : goal.typing-returns-else-right_nodes-clause-shape
typing-returns-else-right_nodes-clause-shape t c =
    let found : c.typing-found-in-Filter.result.0 ≡ ((spec.typing c.in-Filter.e).shape) = first_of (search rules, grind (arith, common_steps)) in
    found ∙ lemma.of_shape c.args.e.now (e.Filter c.in-Filter.e c.in-Filter.predicates) ((spec.typing c.in-Filter.e).shape) ((spec.typing c.in-Filter.e).right && (spec.is_nodes (spec.typing c.in-Filter.e).shape && list_all (fits false) c.in-Filter.predicates)) c.in-Filter.is (lemma.at_filter c.in-Filter.e c.in-Filter.predicates)

pub typing-returns-else-right_nodes-clause-right : goal.typing-returns-else-right_nodes-clause-right
typing-returns-else-right_nodes-clause-right t c =
    let same : c.right_nodes.result ≡ ((spec.typing c.in-Filter.e).right && (spec.is_nodes (spec.typing c.in-Filter.e).shape && list_all (fits false) c.in-Filter.predicates)) = lemma.and_else c.right_nodes.result ((spec.typing c.in-Filter.e).right && spec.is_nodes (spec.typing c.in-Filter.e).shape) (list_all (fits false) c.in-Filter.predicates) (first_of (search rules, grind (arith, common_steps))) (first_of (search rules, grind (arith, common_steps))) ∙ lemma.and_three (spec.typing c.in-Filter.e).right (spec.is_nodes (spec.typing c.in-Filter.e).shape) (list_all (fits false) c.in-Filter.predicates) in
    lemma.of_right c.args.e.now (e.Filter c.in-Filter.e c.in-Filter.predicates) ((spec.typing c.in-Filter.e).shape) c.right_nodes.result ((spec.typing c.in-Filter.e).right && (spec.is_nodes (spec.typing c.in-Filter.e).shape && list_all (fits false) c.in-Filter.predicates)) c.in-Filter.is (lemma.at_filter c.in-Filter.e c.in-Filter.predicates) same

pub typing-returns-then-takes-clause-shape : goal.typing-returns-then-takes-clause-shape
typing-returns-then-takes-clause-shape t c =
    let found : c.function_shape.result ≡ (spec.function_shape c.in-Call.function) = first_of (search rules, grind (arith, common_steps)) in
    found ∙ lemma.of_shape c.args.e.now (e.Call c.in-Call.function c.in-Call.es) (spec.function_shape c.in-Call.function) (spec.takes c.in-Call.function (length c.in-Call.es) && list_all (fits (spec.wants_nodes c.in-Call.function)) c.in-Call.es) c.in-Call.is (lemma.at_call c.in-Call.function c.in-Call.es)

pub typing-returns-then-takes-clause-right : goal.typing-returns-then-takes-clause-right
typing-returns-then-takes-clause-right t c =
    let same : c.all_fit-then-takes.result ≡ (spec.takes c.in-Call.function (length c.in-Call.es) && list_all (fits (spec.wants_nodes c.in-Call.function)) c.in-Call.es) = lemma.and_then (spec.takes c.in-Call.function (length c.in-Call.es)) c.all_fit-then-takes.result (list_all (fits (spec.wants_nodes c.in-Call.function)) c.in-Call.es) (first_of (search rules, grind (arith, common_steps))) (first_of (search rules, grind (arith, common_steps))) in
    lemma.of_right c.args.e.now (e.Call c.in-Call.function c.in-Call.es) (spec.function_shape c.in-Call.function) c.all_fit-then-takes.result (spec.takes c.in-Call.function (length c.in-Call.es) && list_all (fits (spec.wants_nodes c.in-Call.function)) c.in-Call.es) c.in-Call.is (lemma.at_call c.in-Call.function c.in-Call.es) same

pub typing-returns-else-takes-clause-shape : goal.typing-returns-else-takes-clause-shape
typing-returns-else-takes-clause-shape t c =
    let found : c.function_shape.result ≡ (spec.function_shape c.in-Call.function) = first_of (search rules, grind (arith, common_steps)) in
    found ∙ lemma.of_shape c.args.e.now (e.Call c.in-Call.function c.in-Call.es) (spec.function_shape c.in-Call.function) (spec.takes c.in-Call.function (length c.in-Call.es) && list_all (fits (spec.wants_nodes c.in-Call.function)) c.in-Call.es) c.in-Call.is (lemma.at_call c.in-Call.function c.in-Call.es)

pub typing-returns-else-takes-clause-right : goal.typing-returns-else-takes-clause-right
typing-returns-else-takes-clause-right t c =
    let same : c.takes.result ≡ (spec.takes c.in-Call.function (length c.in-Call.es) && list_all (fits (spec.wants_nodes c.in-Call.function)) c.in-Call.es) = lemma.and_else c.takes.result (spec.takes c.in-Call.function (length c.in-Call.es)) (list_all (fits (spec.wants_nodes c.in-Call.function)) c.in-Call.es) (first_of (search rules, grind (arith, common_steps))) (first_of (search rules, grind (arith, common_steps))) in
    lemma.of_right c.args.e.now (e.Call c.in-Call.function c.in-Call.es) (spec.function_shape c.in-Call.function) c.takes.result (spec.takes c.in-Call.function (length c.in-Call.es) && list_all (fits (spec.wants_nodes c.in-Call.function)) c.in-Call.es) c.in-Call.is (lemma.at_call c.in-Call.function c.in-Call.es) same

pub operands_right-returns-then-not-fits : goal.operands_right-returns-then-not-fits
operands_right-returns-then-not-fits t c =
    let rest = list_all operand_right (drop (c.loop-operand.operand-index + 1) c.args.operands.now) in
    let turn = lemma.operands_turn c.args.operands.now c.loop-operand.operand-index c.operand-item.result c.loop-operand-test.true c.operand-item.is in
    let no : fits false c.operand-item.result.value ≡ false = sym c.fits.ensures ∙ c.if-not-fits.true in
    sym (sym c.loop-operand.invariant ∙ turn ∙ ap (λ b. b && rest) no)

pub operands_right-loop-operand-preserved : goal.operands_right-loop-operand-preserved
operands_right-loop-operand-preserved t c =
    let rest = list_all operand_right (drop (c.loop-operand.operand-index + 1) c.args.operands.now) in
    let turn = lemma.operands_turn c.args.operands.now c.loop-operand.operand-index c.operand-item.result c.loop-operand-test.true c.operand-item.is in
    let yes : fits false c.operand-item.result.value ≡ true = sym c.fits.ensures ∙ c.if-not-fits.false in
    ap (λ b. b && rest) (sym yes) ∙ sym turn ∙ c.loop-operand.invariant

pub steps_right-returns-then-not-all_fit : goal.steps_right-returns-then-not-all_fit
steps_right-returns-then-not-all_fit t c =
    let rest = list_all step_right (drop (c.loop-step.step-index + 1) c.args.steps.now) in
    let turn = lemma.steps_turn c.args.steps.now c.loop-step.step-index c.step-item.result c.loop-step-test.true c.step-item.is in
    let no : list_all (fits false) c.step-item.result.predicates ≡ false = first_of (search rules, grind (arith, common_steps)) in
    sym (sym c.loop-step.invariant ∙ turn ∙ ap (λ b. b && rest) no)

pub steps_right-loop-step-preserved : goal.steps_right-loop-step-preserved
steps_right-loop-step-preserved t c =
    let rest = list_all step_right (drop (c.loop-step.step-index + 1) c.args.steps.now) in
    let turn = lemma.steps_turn c.args.steps.now c.loop-step.step-index c.step-item.result c.loop-step-test.true c.step-item.is in
    let yes : list_all (fits false) c.step-item.result.predicates ≡ true = first_of (search rules, grind (arith, common_steps)) in
    ap (λ b. b && rest) (sym yes) ∙ sym turn ∙ c.loop-step.invariant
