use Rattle.std.proofs.Common.{rules, arith, ◌≡◌, ◌∙◌, sym, ap, ◌+◌, ◌-◌, ◌++◌, ◌∷◌, [], true, false, Some}
use Rattle.std.proofs.lemmas.Grind.{common_steps}
use Rattle.xpath_parser.specs.Reader.{expr, args, sees, rest}
use Rattle.xpath_parser.specs.inner.Parsing.{with_front}
use Rattle.xpath_parser.proofs.Front.{one_more, arg_turn, arg_last}
use Rattle.xpath_parser.proofs.grammar.Grammar.arguments.Goals as goal

pub loop-turn-preserved : goal.loop-turn-preserved
loop-turn-preserved g c =
    let inner = expr c.args.self.now.depth in
    let read : inner c.loop-turn.terms ≡ Some (c.in_ok-next.next, c.inner.new.terms) = first_of (search rules, grind (arith, common_steps)) in
    let comma : sees 5 c.inner.new.terms ≡ true = first_of (search rules, grind (arith, common_steps)) in
    let pushed : c.push.new.self ≡ c.loop-turn.found ++ c.in_ok-next.next ∷ [] = first_of (search rules, grind (arith, common_steps)) in
    let skipped : c.skip.new.self ≡ rest c.inner.new.terms = first_of (search rules, grind (arith, common_steps)) in
    let n = c.len-turn-end.result - (c.loop-turn._turn + 1) in
    ap (λ front. with_front front (args inner n c.skip.new.self)) pushed
    ∙ ap (λ ts. with_front (c.loop-turn.found ++ c.in_ok-next.next ∷ []) (args inner n ts)) skipped
    ∙ sym (arg_turn inner n c.loop-turn.terms c.loop-turn.found c.in_ok-next.next c.inner.new.terms read comma)
    ∙ one_more (λ k. with_front c.loop-turn.found (args inner k c.loop-turn.terms)) c.len-turn-end.result c.loop-turn._turn c.loop-turn-test.true c.loop-turn.invariant

pub returns-then-not-sees : goal.returns-then-not-sees
returns-then-not-sees g c =
    let inner = expr c.args.self.now.depth in
    let read : inner c.loop-turn.terms ≡ Some (c.in_ok-next.next, c.inner.new.terms) = first_of (search rules, grind (arith, common_steps)) in
    let last : sees 5 c.inner.new.terms ≡ false = first_of (search rules, grind (arith, common_steps)) in
    let pushed : c.push.new.self ≡ c.loop-turn.found ++ c.in_ok-next.next ∷ [] = first_of (search rules, grind (arith, common_steps)) in
    let n = c.len-turn-end.result - (c.loop-turn._turn + 1) in
    sym (one_more (λ k. with_front c.loop-turn.found (args inner k c.loop-turn.terms)) c.len-turn-end.result c.loop-turn._turn c.loop-turn-test.true c.loop-turn.invariant)
    ∙ arg_last inner n c.loop-turn.terms c.loop-turn.found c.in_ok-next.next c.inner.new.terms read last
    ∙ ap (λ xs. Some (xs, c.inner.new.terms)) (sym pushed)
