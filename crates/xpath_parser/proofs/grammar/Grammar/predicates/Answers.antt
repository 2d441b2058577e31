use Rattle.std.proofs.Common.{rules, arith, ◌≡◌, ◌∙◌, sym, ap, ◌+◌, ◌-◌, ◌++◌, ◌∷◌, [], true, Some}
use Rattle.std.proofs.lemmas.Grind.{common_steps}
use Rattle.xpath_parser.specs.Reader.{expr, preds, sees, rest, expect}
use Rattle.xpath_parser.specs.inner.Parsing.{with_front}
use Rattle.xpath_parser.proofs.Front.{one_more, pred_turn}
use Rattle.xpath_parser.proofs.grammar.Grammar.predicates.Goals as goal

pub loop-turn-preserved : goal.loop-turn-preserved
loop-turn-preserved g c =
    let inner = expr c.args.self.now.depth in
    let seen : sees 3 c.loop-turn.terms ≡ true = first_of (search rules, grind (arith, common_steps)) in
    let read : inner (rest c.loop-turn.terms) ≡ Some (c.in_ok-next.next, c.inner.new.terms) = first_of (search rules, grind (arith, common_steps)) in
    let shut : expect 4 c.inner.new.terms ≡ Some (tt, c.expect.new.self) = first_of (search rules, grind (arith, common_steps)) in
    let pushed : c.push.new.self ≡ c.loop-turn.found ++ c.in_ok-next.next ∷ [] = first_of (search rules, grind (arith, common_steps)) in
    let n = c.len-turn-end.result - (c.loop-turn._turn + 1) in
    ap (λ front. with_front front (preds inner n c.expect.new.self)) pushed
    ∙ sym (pred_turn inner n c.loop-turn.terms c.loop-turn.found c.in_ok-next.next c.inner.new.terms c.expect.new.self seen read shut)
    ∙ one_more (λ k. with_front c.loop-turn.found (preds inner k c.loop-turn.terms)) c.len-turn-end.result c.loop-turn._turn c.loop-turn-test.true c.loop-turn.invariant
