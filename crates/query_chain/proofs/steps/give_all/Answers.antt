use Rattle.std.proofs.Common.{◌≡◌, ◌+◌, ◌<◌, ◌∙◌, ap, sym, subst, [], ◌∷◌, map, drop, length, arith}
use Rattle.std.specs.List.{All}
use Rattle.std.proofs.lemmas.Result.{err_from_is_err_and}
use Rattle.std.proofs.lemmas.List.{drop_more}
use Rattle.query_chain.specs.Items.{node}
use Rattle.query_chain.specs.inner.Steps.{items_of, action_of}
use Rattle.query_chain.proofs.Lists.{all_one, none_left}
use Rattle.query_chain.proofs.Stepping.{IsOn, on_start, on_step, on_stop, on_end}
use Rattle.query_chain.proofs.steps.give_all.Goals as goal

pub loop-step-init : goal.loop-step-init
loop-step-init g c =
    let doc = g.S.Tree.document c.args.source.now in
    let n = length doc in
    let all = map action_of c.args.steps.now in
    let e : c.push.new.self.items ≡ c.args.x ∷ [] = rw c.new-rows.ensures.items at c.in_ok-push.ensures.items in
    record {
      on = subst (λ xs. IsOn c.args.limits doc (node c.args.x ∷ []) all (map node xs) all) (sym e) (on_start c.args.limits doc (node c.args.x ∷ []) all);
      within = subst (λ xs. All (λ y. y < n) xs) (sym e) (all_one (λ y. y < n) c.args.x c.requires.within);
      few = let size = ap (λ xs. length (map node xs)) e in let some = c.requires.some in omega (arith, size, some);
    }

pub loop-step-preserved : goal.loop-step-preserved
loop-step-preserved g c =
    let doc = g.S.Tree.document c.args.source.now in
    let steps = c.args.steps.now in
    let i = c.loop-step.step-index in
    let r = c.step-item.result in
    let whole : map action_of (drop i steps) ≡ action_of r ∷ map action_of (drop (i + 1) steps) =
    ap (map action_of) (drop_more steps i r c.loop-step-test.true ∙ ap (λ q. q ∷ drop (i + 1) steps) (sym c.step-item.is)) in
    record {
      on = on_step c.args.limits doc (node c.args.x ∷ []) (map action_of steps) (items_of c.loop-step.items) _ (action_of r) (map action_of (drop (i + 1) steps)) (map action_of (drop i steps)) whole
          c.in_ok-next.ensures.items c.in_ok-next.ensures.passes c.loop-step.invariant.on;
      within = c.in_ok-next.ensures.within;
      few = c.in_ok-next.ensures.few;
    }

pub returns-in_err-next-clause-stop : goal.returns-in_err-next-clause-stop
returns-in_err-next-clause-stop g c =
    let p = err_from_is_err_and c.from_residual-in_err-next.result c.from_residual-in_err-next.ensures.1 in
    let doc = g.S.Tree.document c.args.source.now in
    let steps = c.args.steps.now in
    let i = c.loop-step.step-index in
    let r = c.step-item.result in
    let whole : map action_of (drop i steps) ≡ action_of r ∷ map action_of (drop (i + 1) steps) =
    ap (map action_of) (drop_more steps i r c.loop-step-test.true ∙ ap (λ q. q ∷ drop (i + 1) steps) (sym c.step-item.is)) in
    rw (p.1, p.2) (on_stop c.args.limits doc (node c.args.x ∷ []) (map action_of steps) (items_of c.loop-step.items) (action_of r) (map action_of (drop (i + 1) steps)) (map action_of (drop i steps)) _ whole
    c.in_err-next.ensures.stop c.loop-step.invariant.on)

pub returns-clause-items : goal.returns-clause-items
returns-clause-items g c =
    (on_end c.args.limits (g.S.Tree.document c.args.source.now) (node c.args.x ∷ []) (map action_of c.args.steps.now) (items_of c.loop-step.items) (map action_of (drop c.loop-step.step-index c.args.steps.now))
    (ap (map action_of) (none_left c.args.steps.now c.loop-step.step-index c.loop-step-test.false)) c.loop-step.invariant.on).0

pub returns-clause-passes : goal.returns-clause-passes
returns-clause-passes g c =
    (on_end c.args.limits (g.S.Tree.document c.args.source.now) (node c.args.x ∷ []) (map action_of c.args.steps.now) (items_of c.loop-step.items) (map action_of (drop c.loop-step.step-index c.args.steps.now))
    (ap (map action_of) (none_left c.args.steps.now c.loop-step.step-index c.loop-step-test.false)) c.loop-step.invariant.on).1
