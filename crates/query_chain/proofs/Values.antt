-- A field has one value on a document, from each row on.
use Rattle.std.proofs.Common.{◌≡◌, ℕ, Bool, true, false, List, [], ◌∷◌, refl, sym, ◌∙◌, ap, ap₂}
use Rattle.std.specs.Prelude.{not, ◌||◌, encode_utf8_all}
use Rattle.std.specs.List.{list_any}
use Rattle.doc_model.specs.Document.{Document}
use Rattle.test_registry.specs.Names.{Known}
use Rattle.xpath_parser.proofs.Complete.{one_expression_over}
use Rattle.query_script.specs.declared.script.Chain.{Chain}
use Rattle.query_script.specs.declared.script.Chain.TheVariants as chain
use Rattle.query_script.specs.declared.script.ChainStep.{ChainStep}
use Rattle.query_script.specs.declared.script.ChainStep.TheVariants as step
use Rattle.query_script.specs.declared.script.Field.{Field}
use Rattle.query_script.specs.declared.script.FieldValue.{FieldValue}
use Rattle.query_script.specs.declared.script.Reason.TheVariants as reason
use Rattle.query_script.specs.Ordered.{IsOrderedOver, IsOrderedChainOver, AreOrderedOver}
use Rattle.query_chain.specs.Chains.{IsValueAtOver, outcome}
use Rattle.query_chain.specs.Tasks.{Action, select, search, keep, is_pattern, is_refused, IsAction, AreActions, Task, refuses, does, IsChainTask}

-- a step that does something is not refused
not_refused : (tests : Known) (s : ChainStep) (a : Action) → IsAction tests s a → is_refused s ≡ false
not_refused tests (step.Query query) a h = refl
not_refused tests (step.Match pattern) (select x) h = absurd h
not_refused tests (step.Match pattern) (search p) h = ap not h.1
not_refused tests (step.Match pattern) (keep kind other) h = absurd h
not_refused tests (step.Keep kind text) a h = refl

or_parts : (a b : Bool) → (a || b) ≡ false → (a ≡ false) × (b ≡ false)
or_parts true b e = cc
or_parts false b e = (refl, e)

not_false : (b : Bool) → not b ≡ false → b ≡ true
not_false true e = refl
not_false false e = cc

module _ (tests : Known) where
  -- and does one thing
  same_action : (s : ChainStep) (a b : Action) → IsAction tests s a → IsAction tests s b → a ≡ b
  same_action (step.Query query) (select x) (select y) h k = ap select (one_expression_over tests (encode_utf8_all query) x y h k)
  same_action (step.Query query) (select x) (search q) h k = absurd k
  same_action (step.Query query) (select x) (keep kind other) h k = absurd k
  same_action (step.Query query) (search p) b h k = absurd h
  same_action (step.Query query) (keep kind other) b h k = absurd h
  same_action (step.Match pattern) (select x) b h k = absurd h
  same_action (step.Match pattern) (search p) (select y) h k = absurd k
  same_action (step.Match pattern) (search p) (search q) h k = ap search (h.0 ∙ sym k.0)
  same_action (step.Match pattern) (search p) (keep kind other) h k = absurd k
  same_action (step.Match pattern) (keep kind other) b h k = absurd h
  same_action (step.Keep kind text) (select x) b h k = absurd h
  same_action (step.Keep kind text) (search p) b h k = absurd h
  same_action (step.Keep kind text) (keep a t) (select y) h k = absurd k
  same_action (step.Keep kind text) (keep a t) (search q) h k = absurd k
  same_action (step.Keep kind text) (keep a t) (keep b u) h k = ap₂ keep (h.0 ∙ sym k.0) (h.1 ∙ sym k.1)

  pub same_actions : (steps : List ChainStep) (xs bs : List Action) → AreActions tests steps xs → AreActions tests steps bs → xs ≡ bs
  same_actions [] [] [] h k = refl
  same_actions [] [] (b ∷ bs) h k = absurd k
  same_actions [] (a ∷ xs) bs h k = absurd h
  same_actions (s ∷ steps) [] bs h k = absurd h
  same_actions (s ∷ steps) (a ∷ xs) [] h k = absurd k
  same_actions (s ∷ steps) (a ∷ xs) (b ∷ bs) h k = ap₂ ◌∷◌ (same_action s a b h.0 k.0) (same_actions steps xs bs h.1 k.1)

  -- steps that do something have no pattern that is refused
  none_refused : (steps : List ChainStep) (xs : List Action) → AreActions tests steps xs → list_any is_refused steps ≡ false
  none_refused [] xs h = refl
  none_refused (s ∷ steps) [] h = absurd h
  none_refused (s ∷ steps) (a ∷ xs) h = ap₂ ◌||◌ (not_refused tests s a h.0) (none_refused steps xs h.1)

  refused_and_run : (steps : List ChainStep) (xs : List Action) → list_any is_refused steps ≡ true → AreActions tests steps xs → ⊥
  refused_and_run steps xs h k = let e : true ≡ false = sym h ∙ none_refused steps xs k in cc

  -- at most one task
  pub one_task : (c : Chain) (t u : Task) → IsChainTask tests c t → IsChainTask tests c u → t ≡ u
  one_task (chain.Refused why) (refuses v) (refuses w) h k = ap refuses (h ∙ sym k)
  one_task (chain.Refused why) (refuses v) (does ys f) h k = absurd k
  one_task (chain.Refused why) (does xs e) u h k = absurd h
  one_task (chain.Steps steps end) (refuses v) (refuses w) h k = ap refuses (h.1 ∙ sym k.1)
  one_task (chain.Steps steps end) (refuses v) (does ys f) h k = absurd (refused_and_run steps ys h.0 k.0)
  one_task (chain.Steps steps end) (does xs e) (refuses w) h k = absurd (refused_and_run steps xs k.0 h.0)
  one_task (chain.Steps steps end) (does xs e) (does ys f) h k = ap₂ does (same_actions steps xs ys h.0 k.0) (h.1 ∙ sym k.1)

  -- at least one, for an ordered chain
  actions_of : (nodes : Bool) (steps : List ChainStep) → AreOrderedOver tests nodes steps → list_any is_refused steps ≡ false → (xs : List Action) × AreActions tests steps xs
  actions_of nodes [] h e = ([], tt)
  actions_of nodes (step.Query query ∷ steps) h e =
      let rest = actions_of _ steps h.1.1.1 e in
      (select h.1.0 ∷ rest.0, (h.1.1.0, rest.1))
  actions_of nodes (step.Match pattern ∷ steps) h e =
      let parts = or_parts (not (is_pattern pattern)) (list_any is_refused steps) e in
      let rest = actions_of false steps h parts.1 in
      (search pattern ∷ rest.0, ((refl, not_false (is_pattern pattern) parts.0), rest.1))
  actions_of nodes (step.Keep kind text ∷ steps) h e =
      let rest = actions_of nodes steps h e in
      (keep kind text ∷ rest.0, ((refl, refl), rest.1))

  pub a_task : (c : Chain) → IsOrderedChainOver tests c → (t : Task) × IsChainTask tests c t
  a_task (chain.Refused why) h = (refuses why, refl)
  a_task (chain.Steps steps end) h =
      (elim (list_any is_refused steps) as (λ b. list_any is_refused steps ≡ b → (t : Task) × IsChainTask tests (chain.Steps steps end) t) [
        | true ↦ λ e. (refuses reason.Pattern, (e, refl))
        | false ↦ λ e. let found = actions_of true steps h e in (does found.0 end, (found.1, refl))
      ]) refl

pub one_value : (tests : Known) (doc : Document) (x : ℕ) (field : Field) (v w : FieldValue) → IsValueAtOver tests doc x field v → IsValueAtOver tests doc x field w → v ≡ w
one_value tests doc x field v w h k = h.2 ∙ (ap (outcome doc x) (one_task tests field.chain h.0 k.0 h.1 k.1) ∙ sym k.2)

pub a_value : (tests : Known) (doc : Document) (x : ℕ) (field : Field) → IsOrderedOver tests field → (v : FieldValue) × IsValueAtOver tests doc x field v
a_value tests doc x field h = let found = a_task tests field.chain h in (outcome doc x found.0, (found.0, found.1, refl))
