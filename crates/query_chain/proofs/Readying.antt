-- Steps that are read and built one after the other.
use Rattle.std.proofs.Common.{◌≡◌, ℕ, ◌+◌, ◌<◌, ◌≤◌, ◌++◌, Bool, true, false, List, [], ◌∷◌, length, take, get_or, map, sym, ◌∙◌, ap, subst}
use Rattle.std.specs.Prelude.{All, encode_utf8_all}
use Rattle.std.proofs.lemmas.List.{take_more, take_all, map-append}
use Rattle.std.proofs.lemmas.List.Elements.{All-push, All-nil, All-cons}
use Rattle.test_registry.specs.Kinds.{HasKind}
use Rattle.test_registry.specs.Names.{Known}
use Rattle.query_script.specs.declared.script.ChainStep.{ChainStep}
use Rattle.query_script.specs.declared.script.ChainStep.TheVariants as step
use Rattle.query_script.specs.Ordered.{AreOrderedOver, AreStored, IsStepStored}
use Rattle.xpath_parser.proofs.Asked.{asks_only}
use Rattle.query_chain.specs.declared.ready_steps.ReadyStep.{ReadyStep}
use Rattle.query_chain.specs.Tasks.{Action, select, search, keep, IsAction, AreActions, ActionAsks}
use Rattle.query_chain.specs.inner.Readiness.{IsReadable}
use Rattle.query_chain.specs.inner.Steps.{action_of, IsUsable}

module _ (tests : Known) where
  more_actions : (steps : List ChainStep) (actions : List Action) (s : ChainStep) (a : Action) → AreActions tests steps actions → IsAction tests s a → AreActions tests (steps ++ s ∷ []) (actions ++ a ∷ [])
  more_actions [] [] s a h k = (k, tt)
  more_actions [] (b ∷ actions) s a h k = absurd h
  more_actions (t ∷ steps) [] s a h k = absurd h
  more_actions (t ∷ steps) (b ∷ actions) s a h k = (h.0, more_actions steps actions s a h.1 k)

  -- one step more
  pub actions_more : (steps : List ChainStep) (i : ℕ) (old new : List ReadyStep) (s : ChainStep) (r : ReadyStep) → i < length steps → s ≡ get_or steps i s → new ≡ old ++ r ∷ [] →
      AreActions tests (take i steps) (map action_of old) → IsAction tests s (action_of r) → AreActions tests (take (i + 1) steps) (map action_of new)
  actions_more steps i old new s r h at e before one =
      let front : take (i + 1) steps ≡ take i steps ++ s ∷ [] = take_more steps i s h ∙ ap (λ t. take i steps ++ t ∷ []) (sym at) in
      let done : map action_of new ≡ map action_of old ++ action_of r ∷ [] = ap (map action_of) e ∙ map-append action_of old (r ∷ []) in
      subst (λ actions. AreActions tests (take (i + 1) steps) actions) (sym done)
      (subst (λ ss. AreActions tests ss (map action_of old ++ action_of r ∷ [])) (sym front) (more_actions (take i steps) (map action_of old) s (action_of r) before one))

  pub all_actions : (steps : List ChainStep) (i : ℕ) (actions : List Action) → length steps ≤ i → AreActions tests (take i steps) actions → AreActions tests steps actions
  all_actions steps i actions h a = subst (λ ss. AreActions tests ss actions) (take_all i steps h) a

  -- what is asked of stored tests: those of a query's text, and that of a step that keeps
  one_asks : (s : ChainStep) (a : Action) → IsAction tests s a → IsStepStored tests s → ActionAsks tests a
  one_asks (step.Query query) (select x) h k = asks_only tests (encode_utf8_all query) x h
  one_asks (step.Query query) (search source) h k = absurd h
  one_asks (step.Query query) (keep kind other) h k = absurd h
  one_asks (step.Match pattern) (select x) h k = absurd h
  one_asks (step.Match pattern) (search source) h k = tt
  one_asks (step.Match pattern) (keep kind other) h k = absurd h
  one_asks (step.Keep kind text) (select x) h k = absurd h
  one_asks (step.Keep kind text) (search source) h k = absurd h
  one_asks (step.Keep kind text) (keep asked other) h k = subst (λ a. HasKind a tests) (sym h.0) k

  pub all_asks : (steps : List ChainStep) (actions : List Action) → AreActions tests steps actions → AreStored tests steps → All (ActionAsks tests) actions
  all_asks [] [] h k = All-nil (ActionAsks tests)
  all_asks [] (a ∷ actions) h k = absurd h
  all_asks (s ∷ steps) [] h k = absurd h
  all_asks (s ∷ steps) (a ∷ actions) h k = All-cons (ActionAsks tests) a actions (one_asks s a h.0 k.0) (all_asks steps actions h.1 k.1)

  readable_each : (nodes : Bool) (steps : List ChainStep) → AreOrderedOver tests nodes steps → All (IsReadable tests) steps
  readable_each nodes [] h = All-nil (IsReadable tests)
  readable_each nodes (step.Query query ∷ steps) h =
      All-cons (IsReadable tests) (step.Query query) steps (record { expression = h.1.0; reads = h.1.1.0 }) (readable_each _ steps h.1.1.1)
  readable_each nodes (step.Match pattern ∷ steps) h = All-cons (IsReadable tests) (step.Match pattern) steps tt (readable_each false steps h)
  readable_each nodes (step.Keep kind text ∷ steps) h = All-cons (IsReadable tests) (step.Keep kind text) steps tt (readable_each nodes steps h)

  -- each query of ordered steps reads as an expression
  pub readable_of : (steps : List ChainStep) → AreOrderedOver tests true steps → All (IsReadable tests) steps
  readable_of steps h = readable_each true steps h

pub usable_more : (old new : List ReadyStep) (r : ReadyStep) → new ≡ old ++ r ∷ [] → All IsUsable old → IsUsable r → All IsUsable new
usable_more old new r e h k = subst (λ rs. All IsUsable rs) (sym e) (All-push IsUsable old r h k)
