use Rattle.std.proofs.Common.{rules, arith, ◌≡◌, ◌∙◌, sym, ap, ◌+◌, ◌-◌, ◌++◌, ◌∷◌, [], true, false, Some}
use Rattle.std.proofs.lemmas.Grind.{common_steps}
use Rattle.xpath_parser.specs.Reader as spec
use Rattle.xpath_parser.specs.Reader.{expr, steps, sees, rest}
use Rattle.xpath_parser.specs.Grammar.{any_below}
use Rattle.xpath_parser.specs.inner.Parsing.{with_front}
use Rattle.xpath_parser.proofs.Front.{one_more, step_turn, step_below, step_last}
use Rattle.xpath_parser.proofs.grammar.Grammar.steps.Goals as goal
use Rattle.xpath_parser.proofs.grammar.Grammar.steps.Goals.{then-sees, else-sees+then-sees-2+in_ok-push-2}

pub returns-else-sees-2 : goal.returns-else-sees-2
returns-else-sees-2 g c =
    let inner = expr c.args.self.now.depth in
    let read : spec.step inner c.loop-turn.terms ≡ Some (c.in_ok-next.next, c.step.new.terms) = first_of (search rules, grind (arith, common_steps)) in
    let six : sees 6 c.step.new.terms ≡ false = first_of (search rules, grind (arith, common_steps)) in
    let seven : sees 7 c.step.new.terms ≡ false = first_of (search rules, grind (arith, common_steps)) in
    let pushed : c.push.new.self ≡ c.loop-turn.found ++ c.in_ok-next.next ∷ [] = first_of (search rules, grind (arith, common_steps)) in
    sym (one_more (λ k. with_front c.loop-turn.found (steps inner k c.loop-turn.terms)) c.len-turn-end.result c.loop-turn._turn c.loop-turn-test.true c.loop-turn.invariant)
    ∙ step_last inner (c.len-turn-end.result - (c.loop-turn._turn + 1)) c.loop-turn.terms c.loop-turn.found c.in_ok-next.next c.step.new.terms read six seven
    ∙ ap (λ xs. Some (xs, c.step.new.terms)) (sym pushed)

pub loop-turn-preserved : goal.loop-turn-preserved
loop-turn-preserved g c =
    let inner = expr c.args.self.now.depth in
    let n = c.len-turn-end.result - (c.loop-turn._turn + 1) in
    let read : spec.step inner c.loop-turn.terms ≡ Some (c.in_ok-next.next, c.step.new.terms) = first_of (search rules, grind (arith, common_steps)) in
    let pushed : c.push.new.self ≡ c.loop-turn.found ++ c.in_ok-next.next ∷ [] = first_of (search rules, grind (arith, common_steps)) in
    let before = one_more (λ k. with_front c.loop-turn.found (steps inner k c.loop-turn.terms)) c.len-turn-end.result c.loop-turn._turn c.loop-turn-test.true c.loop-turn.invariant in
    elim c.if-sees.branch [
      | then-sees w ↦
          (let six : sees 6 c.step.new.terms ≡ true = first_of (search rules, grind (arith, common_steps)) in
          let found : c.if-sees.found ≡ c.loop-turn.found ++ c.in_ok-next.next ∷ [] = w.found-is ∙ pushed in
          let left : c.if-sees.terms ≡ rest c.step.new.terms = first_of (search rules, grind (arith, common_steps)) in
          ap (λ f. with_front f (steps inner n c.if-sees.terms)) found ∙ ap (λ ts. with_front (c.loop-turn.found ++ c.in_ok-next.next ∷ []) (steps inner n ts)) left
          ∙ sym (step_turn inner n c.loop-turn.terms c.loop-turn.found c.in_ok-next.next c.step.new.terms read six) ∙ before)
      | else-sees+then-sees-2+in_ok-push-2 w ↦
          (let six : sees 6 c.step.new.terms ≡ false = first_of (search rules, grind (arith, common_steps)) in
          let seven : sees 7 c.step.new.terms ≡ true = first_of (search rules, grind (arith, common_steps)) in
          let found : c.if-sees.found ≡ (c.loop-turn.found ++ c.in_ok-next.next ∷ []) ++ any_below ∷ [] = first_of (search rules, grind (arith, common_steps)) in
          let left : c.if-sees.terms ≡ rest c.step.new.terms = first_of (search rules, grind (arith, common_steps)) in
          ap (λ f. with_front f (steps inner n c.if-sees.terms)) found ∙ ap (λ ts. with_front ((c.loop-turn.found ++ c.in_ok-next.next ∷ []) ++ any_below ∷ []) (steps inner n ts)) left
          ∙ sym (step_below inner n c.loop-turn.terms c.loop-turn.found c.in_ok-next.next c.step.new.terms read six seven) ∙ before)
    ]
