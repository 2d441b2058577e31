use Rattle.std.proofs.Common.{rules, arith, ◌≡◌, ◌∙◌, sym, ap, subst, eqb, ◌+◌, ◌-◌, ◌++◌, ◌∷◌, [], length, true, false, Some, None}
use Rattle.std.proofs.lemmas.Grind.{common_steps}
use Rattle.std.proofs.lemmas.Bool.Decides.{nat_tests}
use Rattle.xpath_parser.specs.declared.expression.Expr.TheVariants as e
use Rattle.xpath_parser.specs.Grammar as grammar
use Rattle.xpath_parser.specs.inner.Parsing.{Gives, with_front, mapped, joins_at}
use Rattle.xpath_parser.specs.Reader as spec
use Rattle.xpath_parser.specs.Reader.{◌>>=◌}
use Rattle.xpath_parser.proofs.Front as front
use Rattle.xpath_parser.proofs.grammar.Grammar.+tiers.Goals as goal

pub joined-returns : goal.joined-returns
joined-returns g t c =
    let sub = spec.tier (spec.expr c.args.self.now.depth) c.args.tier in
    let all = spec.operators c.args.tier sub (length c.args.terms.now) c.args.terms.now in
    let read : mapped grammar.operand all ≡ Some (c.in_ok-more.more, c.operands.new.terms) = first_of (search rules, grind (arith, common_steps)) in
    let boxed : c.in_ok-first.first ≡ c.args.first = first_of (search rules, grind (arith, common_steps)) in
    front.joined_made c.args.tier c.args.first all c.in_ok-more.more c.operands.new.terms c.requires.low c.requires.high (front.some_operands c.args.tier sub c.args.terms.now c.requires.operator) read
    ∙ ap (λ x. Some (e.Joined x c.in_ok-more.more, c.operands.new.terms)) (sym boxed)

pub listed-returns : goal.listed-returns
listed-returns g t c =
    let sub = spec.tier (spec.expr c.args.self.now.depth) c.args.tier in
    let all = spec.operators c.args.tier sub (length c.args.terms.now) c.args.terms.now in
    let first : c.push.new.self ≡ c.args.first ∷ [] = first_of (search rules, grind (arith, common_steps)) in
    let read : with_front c.push.new.self (mapped (λ p. p.1) all) ≡ Some (c.in_ok-all.all, c.values.new.terms) = first_of (search rules, grind (arith, common_steps)) in
    front.listed_made c.args.tier c.args.first all c.in_ok-all.all c.values.new.terms c.requires.tier (front.some_operands c.args.tier sub c.args.terms.now c.requires.operator)
    (ap (λ xs. with_front xs (mapped (λ p. p.1) all)) (sym first) ∙ read)
    ∙ ap (λ x. Some (x, c.values.new.terms)) (sym c.list_of.ensures)

pub operands-returns-in_default : goal.operands-returns-in_default
operands-returns-in_default g t c =
    let sub = spec.tier (spec.expr c.args.self.now.depth) c.args.tier in
    let n = c.len-turn-end.result - (c.loop-turn._turn + 1) in
    let before = front.one_more (λ k. with_front c.loop-turn.found (mapped grammar.operand (spec.operators c.args.tier sub k c.loop-turn.terms))) c.len-turn-end.result c.loop-turn._turn c.loop-turn-test.true c.loop-turn.invariant in
    let none : spec.peek c.loop-turn.terms ≡ None = first_of (search rules, grind (arith, common_steps)) in
    sym before ∙ front.no_operator grammar.operand c.args.tier sub n c.loop-turn.terms c.loop-turn.found (ap (joins_at (c.args.tier + 1)) none)

pub operands-returns-then-not-joins : goal.operands-returns-then-not-joins
operands-returns-then-not-joins g t c =
    let sub = spec.tier (spec.expr c.args.self.now.depth) c.args.tier in
    let n = c.len-turn-end.result - (c.loop-turn._turn + 1) in
    let before = front.one_more (λ k. with_front c.loop-turn.found (mapped grammar.operand (spec.operators c.args.tier sub k c.loop-turn.terms))) c.len-turn-end.result c.loop-turn._turn c.loop-turn-test.true c.loop-turn.invariant in
    let seen : spec.peek c.loop-turn.terms ≡ Some c.in-Some.term.now = first_of (search rules, grind (arith, common_steps)) in
    let differs : joins_at (c.args.tier + 1) (Some c.in-Some.term.now) ≡ false = sym c.joins.ensures ∙ c.if-not-joins.true in
    sym before ∙ front.no_operator grammar.operand c.args.tier sub n c.loop-turn.terms c.loop-turn.found (ap (joins_at (c.args.tier + 1)) seen ∙ differs)

pub operands-returns-in_err-value : goal.operands-returns-in_err-value
operands-returns-in_err-value g t c =
    let sub = spec.tier (spec.expr c.args.self.now.depth) c.args.tier in
    let n = c.len-turn-end.result - (c.loop-turn._turn + 1) in
    let before = front.one_more (λ k. with_front c.loop-turn.found (mapped grammar.operand (spec.operators c.args.tier sub k c.loop-turn.terms))) c.len-turn-end.result c.loop-turn._turn c.loop-turn-test.true c.loop-turn.invariant in
    let seen : spec.peek c.loop-turn.terms ≡ Some c.in-Some.term.now = first_of (search rules, grind (arith, common_steps)) in
    let same : joins_at (c.args.tier + 1) (Some c.in-Some.term.now) ≡ true = sym c.joins.ensures ∙ c.if-not-joins.false in
    subst (λ o. Gives o c.from_residual.result c.tier.new.terms) (sym (front.operator_step grammar.operand c.args.tier sub n c.in-Some.term.now c.loop-turn.terms c.loop-turn.found seen same) ∙ before)
    (first_of (search rules, grind (arith, common_steps)))

pub operands-loop-turn-preserved : goal.operands-loop-turn-preserved
operands-loop-turn-preserved g t c =
    let sub = spec.tier (spec.expr c.args.self.now.depth) c.args.tier in
    let n = c.len-turn-end.result - (c.loop-turn._turn + 1) in
    let before = front.one_more (λ k. with_front c.loop-turn.found (mapped grammar.operand (spec.operators c.args.tier sub k c.loop-turn.terms))) c.len-turn-end.result c.loop-turn._turn c.loop-turn-test.true c.loop-turn.invariant in
    let seen : spec.peek c.loop-turn.terms ≡ Some c.in-Some.term.now = first_of (search rules, grind (arith, common_steps)) in
    let same : joins_at (c.args.tier + 1) (Some c.in-Some.term.now) ≡ true = sym c.joins.ensures ∙ c.if-not-joins.false in
    let read : sub (spec.rest c.loop-turn.terms) ≡ Some (c.in_ok-value.value, c.tier.new.terms) = first_of (search rules, grind (arith, common_steps)) in
    let pushed : c.push.new.self ≡ c.loop-turn.found ++ grammar.operand (c.in-Some.term.now, c.in_ok-value.value) ∷ [] = first_of (search rules, grind (arith, common_steps)) in
    ap (λ f. with_front f (mapped grammar.operand (spec.operators c.args.tier sub n c.tier.new.terms))) pushed
    ∙ sym (front.operator_turn grammar.operand c.args.tier sub n c.in-Some.term.now c.loop-turn.terms c.loop-turn.found c.in_ok-value.value c.tier.new.terms seen same read) ∙ before

pub signs-returns-then-not-is_sign : goal.signs-returns-then-not-is_sign
signs-returns-then-not-is_sign g t c =
    let sub = spec.tier (spec.expr c.args.self.now.depth) 1 in
    let n = c.len-turn-end.result - (c.loop-turn._turn + 1) in
    let plain : spec.is_sign (spec.peek c.loop-turn.terms) ≡ false = first_of (search rules, grind (arith, common_steps)) in
    let read : sub c.loop-turn.terms ≡ Some (c.in_ok-operand.operand, c.tier.new.terms) = first_of (search rules, grind (arith, common_steps)) in
    let before = front.one_more (λ k. front.with_count c.loop-turn.count (spec.signed sub k c.loop-turn.terms)) c.len-turn-end.result c.loop-turn._turn c.loop-turn-test.true c.loop-turn.invariant.1 in
    let all = sym before ∙ front.sign_end sub n c.loop-turn.terms c.loop-turn.count plain ∙ ap (λ o. o >>= (λ r. Some ((c.loop-turn.count, r.0), r.1))) read in
    ap (λ o. o >>= (λ r. Some (grammar.negated r.0.0 r.0.1, r.1))) all ∙ ap (λ x. Some (x, c.tier.new.terms)) (sym c.in_ok-negated.ensures)

pub signs-loop-turn-preserved : goal.signs-loop-turn-preserved
signs-loop-turn-preserved g t c =
    let sub = spec.tier (spec.expr c.args.self.now.depth) 1 in
    let n = c.len-turn-end.result - (c.loop-turn._turn + 1) in
    let signed : spec.is_sign (spec.peek c.loop-turn.terms) ≡ true = first_of (search rules, grind (arith, common_steps)) in
    let before = front.one_more (λ k. front.with_count c.loop-turn.count (spec.signed sub k c.loop-turn.terms)) c.len-turn-end.result c.loop-turn._turn c.loop-turn-test.true c.loop-turn.invariant.1 in (
      ap (λ k. k + 1) c.loop-turn.invariant.0,
      ap (λ ts. front.with_count (c.loop-turn.count + 1) (spec.signed sub n ts)) c.skip.ensures ∙ sym (front.sign_turn sub n c.loop-turn.terms c.loop-turn.count signed) ∙ before,
    )

pub tier-returns-in_err-first : goal.tier-returns-in_err-first
tier-returns-in_err-first g t c =
    let two : eqb c.args.tier 2 ≡ false = grind (arith, nat_tests) in
    subst (λ o. Gives o c.from_residual.result c.tier.new.terms) (sym (front.tier_above (spec.expr c.args.self.now.depth) c.args.tier c.args.terms.now (omega arith) two)) (first_of (search rules, grind (arith, common_steps)))

pub tier-returns-then-tier-ge7 : goal.tier-returns-then-tier-ge7
tier-returns-then-tier-ge7 g t c =
    let inner = spec.expr c.args.self.now.depth in
    let two : eqb c.args.tier 2 ≡ false = grind (arith, nat_tests) in
    let read : spec.tier inner (c.args.tier - 1) c.args.terms.now ≡ Some (c.in_ok-first.first, c.tier.new.terms) = first_of (search rules, grind (arith, common_steps)) in
    subst (λ o. Gives o c.listed.result c.listed.new.terms) (sym (front.tier_more inner c.args.tier c.args.terms.now c.in_ok-first.first c.tier.new.terms (omega arith) two read)) c.listed.ensures

pub tier-returns-else-tier-ge7 : goal.tier-returns-else-tier-ge7
tier-returns-else-tier-ge7 g t c =
    let inner = spec.expr c.args.self.now.depth in
    let two : eqb c.args.tier 2 ≡ false = grind (arith, nat_tests) in
    let read : spec.tier inner (c.args.tier - 1) c.args.terms.now ≡ Some (c.in_ok-first.first, c.tier.new.terms) = first_of (search rules, grind (arith, common_steps)) in
    subst (λ o. Gives o c.joined.result c.joined.new.terms) (sym (front.tier_more inner c.args.tier c.args.terms.now c.in_ok-first.first c.tier.new.terms (omega arith) two read)) c.joined.ensures

pub values-returns-then-not-joins : goal.values-returns-then-not-joins
values-returns-then-not-joins g t c =
    let sub = spec.tier (spec.expr c.args.self.now.depth) c.args.tier in
    let n = c.len-turn-end.result - (c.loop-turn._turn + 1) in
    let before = front.one_more (λ k. with_front c.loop-turn.found (mapped front.value (spec.operators c.args.tier sub k c.loop-turn.terms))) c.len-turn-end.result c.loop-turn._turn c.loop-turn-test.true c.loop-turn.invariant in
    let differs : joins_at (c.args.tier + 1) (spec.peek c.loop-turn.terms) ≡ false = first_of (search rules, grind (arith, common_steps)) in
    sym before ∙ front.no_operator front.value c.args.tier sub n c.loop-turn.terms c.loop-turn.found differs

pub values-returns-in_err-value : goal.values-returns-in_err-value
values-returns-in_err-value g t c =
    let sub = spec.tier (spec.expr c.args.self.now.depth) c.args.tier in
    let n = c.len-turn-end.result - (c.loop-turn._turn + 1) in
    let before = front.one_more (λ k. with_front c.loop-turn.found (mapped front.value (spec.operators c.args.tier sub k c.loop-turn.terms))) c.len-turn-end.result c.loop-turn._turn c.loop-turn-test.true c.loop-turn.invariant in
    let same : joins_at (c.args.tier + 1) (spec.peek c.loop-turn.terms) ≡ true = first_of (search rules, grind (arith, common_steps)) in
    subst (λ o. Gives o c.from_residual.result c.tier.new.terms) (sym (front.value_step c.args.tier sub n c.loop-turn.terms c.loop-turn.found same) ∙ before)
    (first_of (search rules, grind (arith, common_steps)))

pub values-loop-turn-preserved : goal.values-loop-turn-preserved
values-loop-turn-preserved g t c =
    let sub = spec.tier (spec.expr c.args.self.now.depth) c.args.tier in
    let n = c.len-turn-end.result - (c.loop-turn._turn + 1) in
    let before = front.one_more (λ k. with_front c.loop-turn.found (mapped front.value (spec.operators c.args.tier sub k c.loop-turn.terms))) c.len-turn-end.result c.loop-turn._turn c.loop-turn-test.true c.loop-turn.invariant in
    let same : joins_at (c.args.tier + 1) (spec.peek c.loop-turn.terms) ≡ true = first_of (search rules, grind (arith, common_steps)) in
    let read : sub (spec.rest c.loop-turn.terms) ≡ Some (c.in_ok-value.value, c.tier.new.terms) = first_of (search rules, grind (arith, common_steps)) in
    let pushed : c.push.new.self ≡ c.loop-turn.found ++ c.in_ok-value.value ∷ [] = first_of (search rules, grind (arith, common_steps)) in
    ap (λ f. with_front f (mapped front.value (spec.operators c.args.tier sub n c.tier.new.terms))) pushed
    ∙ sym (front.value_turn c.args.tier sub n c.loop-turn.terms c.loop-turn.found c.in_ok-value.value c.tier.new.terms same read) ∙ before
