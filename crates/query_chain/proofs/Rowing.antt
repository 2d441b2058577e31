-- Steps of which rows come, one after the other.
use Rattle.std.proofs.Common.{◌≡◌, ℕ, ◌++◌, Bool, true, false, List, [], ◌∷◌, map, length, refl, sym, ◌∙◌, ap, ap₂, subst, arith}
use Rattle.std.specs.Prelude.{◌||◌, nat_lt, if◌then◌else◌, Some, None, All, encode_utf8_all}
use Rattle.std.specs.List.{AllByRecursion}
use Rattle.std.proofs.lemmas.List.{map-append}
use Rattle.std.proofs.lemmas.List.Elements.{All-nil, All-cons, All-head, All-tail, All-weaker}
use Rattle.doc_model.specs.Document.{Document}
use Rattle.test_registry.specs.Names.{Known}
use Rattle.xpath_values.specs.declared.value.Value.{Value}
use Rattle.xpath_values.specs.declared.value.Value.TheVariants.{Nodes, Num, Str, Bool as Truth}
use Rattle.xpath_parser.specs.Denote.{denote}
use Rattle.xpath_parser.specs.Shapes.{is_nodes, shape_of}
use Rattle.xpath_parser.specs.Typed.{expression}
use Rattle.xpath_parser.proofs.Complete.{one_expression_over}
use Rattle.query_script.specs.declared.script.ChainStep.{ChainStep}
use Rattle.query_script.specs.declared.script.ChainStep.TheVariants as step
use Rattle.query_script.specs.declared.script.Reason.{Reason}
use Rattle.query_script.specs.declared.script.Reason.TheVariants as reason
use Rattle.query_script.specs.Ordered.{AreStored}
use Rattle.query_chain.specs.declared.limits.Limits.{Limits}
use Rattle.query_chain.specs.declared.limits.Stop.TheVariants.{Selection, Output}
use Rattle.query_chain.specs.declared.ready_steps.ReadyStep.{ReadyStep}
use Rattle.query_chain.specs.declared.ready_steps.ReadyStep.TheVariants as ready
use Rattle.query_chain.specs.Chains.{step_items, value_items, if_passed, step_passes, steps_pass, last_items}
use Rattle.query_chain.specs.Items.{Item, node, text, strings, bytes_of}
use Rattle.query_chain.specs.Rows.{IsRowQuery, rows_in, gives_many, rows_given}
use Rattle.query_chain.specs.Tasks.{Action, IsAction, AreActions, ActionAsks}
use Rattle.query_chain.specs.inner.Readiness.{IsReadable}
use Rattle.query_chain.specs.inner.RowSteps.{IsRowStep}
use Rattle.query_chain.specs.inner.Steps.{action_of, IsUsable, IsFirst}
use Rattle.query_chain.specs.inner.Values.{is_rows}
use Rattle.query_chain.proofs.Lists.{strings_nodes}
use Rattle.query_chain.proofs.Readying.{all_asks}
use Rattle.query_chain.proofs.Shapes.{typed_rows}
use Rattle.query_chain.proofs.Stepping.{is_within}

-- ---- steps that are prepared

module _ (tests : Known) where
  readable_row : (s : ChainStep) → IsRowQuery tests s → IsReadable tests s
  readable_row (step.Query query) h = record { expression = h.0; reads = h.1.0 }
  readable_row (step.Match pattern) h = tt
  readable_row (step.Keep kind other) h = tt

  pub readable_rows : (steps : List ChainStep) → AllByRecursion (IsRowQuery tests) steps → All (IsReadable tests) steps
  readable_rows [] h = All-nil (IsReadable tests)
  readable_rows (s ∷ steps) h = All-cons (IsReadable tests) s steps (readable_row s h.0) (readable_rows steps h.1)

  stored_rows : (steps : List ChainStep) → AllByRecursion (IsRowQuery tests) steps → AreStored tests steps
  stored_rows [] h = tt
  stored_rows (step.Query query ∷ steps) h = (tt, stored_rows steps h.1)
  stored_rows (step.Match pattern ∷ steps) h = absurd h.0
  stored_rows (step.Keep kind other ∷ steps) h = absurd h.0

  -- what the steps ask is stored
  pub asks_rows : (steps : List ChainStep) (actions : List Action) → AllByRecursion (IsRowQuery tests) steps → AreActions tests steps actions → All (ActionAsks tests) actions
  asks_rows steps actions h k = all_asks tests steps actions k (stored_rows steps h)

  row_step : (s : ChainStep) (r : ReadyStep) → IsRowQuery tests s → IsAction tests s (action_of r) → IsRowStep r
  row_step (step.Query query) (ready.Query typed) h k =
      subst (λ x. is_nodes (shape_of x) ≡ true) (one_expression_over tests (encode_utf8_all query) h.0 (expression typed) h.1.0 k) h.1.1
  row_step (step.Query query) (ready.Match regex) h k = absurd k
  row_step (step.Query query) (ready.Keep kind other) h k = absurd k
  row_step (step.Match pattern) r h k = absurd h
  row_step (step.Keep kind other) r h k = absurd h

  -- rows come of each of them
  pub row_steps : (steps : List ChainStep) (rs : List ReadyStep) → AllByRecursion (IsRowQuery tests) steps → AreActions tests steps (map action_of rs) → All IsRowStep rs
  row_steps steps [] h k = All-nil IsRowStep
  row_steps [] (r ∷ rs) h k = absurd k
  row_steps (s ∷ steps) (r ∷ rs) h k = All-cons IsRowStep r rs (row_step s r h.0 k.0) (row_steps steps rs h.1 k.1)

usable_row : (r : ReadyStep) → IsRowStep r → IsUsable r
usable_row (ready.Query typed) h = tt
usable_row (ready.Match regex) h = absurd h
usable_row (ready.Keep kind other) h = absurd h

pub usable_rows : (rs : List ReadyStep) → All IsRowStep rs → All IsUsable rs
usable_rows rs h = All-weaker IsRowStep IsUsable usable_row rs h

-- ---- what they give

value_rows : (v : Value) → is_rows v ≡ true → (zs : List ℕ) × (value_items v ≡ map node zs)
value_rows (Nodes rows) h = (rows, refl)
value_rows (Num n) h = cc
value_rows (Str s) h = cc
value_rows (Truth b) h = cc

-- rows, at rows
step_rows : (doc : Document) (r : ReadyStep) → IsRowStep r → (xs : List ℕ) → (ys : List ℕ) × (step_items doc (action_of r) (map node xs) ≡ map node ys)
step_rows doc (ready.Query typed) h [] = ([], refl)
step_rows doc (ready.Query typed) h (x ∷ xs) =
    let here = value_rows (denote doc (expression typed) (record { row = x; position = 1; size = 1 })) (typed_rows doc typed _ ∙ h) in
    let rest = step_rows doc (ready.Query typed) h xs in
    (here.0 ++ rest.0, ap₂ ◌++◌ here.1 rest.1 ∙ sym (map-append node here.0 rest.0))
step_rows doc (ready.Match regex) h xs = absurd h
step_rows doc (ready.Keep kind other) h xs = absurd h

pub rows_nodes : (xs : List ℕ) → rows_in (map node xs) ≡ xs
rows_nodes [] = refl
rows_nodes (x ∷ xs) = ap (λ r. x ∷ r) (rows_nodes xs)

pub rows_texts : (ts : List (List ℕ)) → rows_in (map text ts) ≡ []
rows_texts [] = refl
rows_texts (t ∷ ts) = rows_texts ts

-- ---- the limits that they pass

middle : (a b c : Bool) → a ≡ false → c ≡ false → if_passed a reason.Output ++ (if_passed b reason.Selection ++ if_passed c reason.Output) ≡ if_passed b reason.Selection
middle false true false i j = refl
middle false false false i j = refl
middle true b c i j = cc
middle false true true i j = cc
middle false false true i j = cc

-- their number alone
only_many : (limits : Limits) (doc : Document) (r : ReadyStep) → IsRowStep r → (xs ys : List ℕ) → step_items doc (action_of r) (map node xs) ≡ map node ys →
    step_passes limits doc (action_of r) (map node xs) ≡ if_passed (nat_lt limits.items (length (step_items doc (action_of r) (map node xs)))) reason.Selection
only_many limits doc (ready.Query typed) h xs ys e =
    let none = ap bytes_of (ap strings e ∙ strings_nodes ys) in
    middle _ _ _ (is_within limits [] (omega arith)) (is_within limits (strings (step_items doc (action_of (ready.Query typed)) (map node xs))) (omega (arith, none)))
only_many limits doc (ready.Match regex) h xs ys e = absurd h
only_many limits doc (ready.Keep kind other) h xs ys e = absurd h

-- what the limits that are passed say: never too many bytes; too many items; and where none is passed, whether there are more at the end
record Tells (passed : List Reason) (many over : Bool) : Type 0 where
  output : IsFirst Output passed → ⊥
  selection : IsFirst Selection passed → many ≡ true
  none : passed ≡ [] → many ≡ over

tells_more : (b : Bool) (passed : List Reason) (many over : Bool) → Tells passed many over → Tells (if_passed b reason.Selection ++ passed) (b || many) over
tells_more true passed many over t = record {
  output = λ h. let e = h.1 in cc;
  selection = λ h. refl;
  none = λ e. cc;
}
tells_more false passed many over t = t

module _ (limits : Limits) (doc : Document) (most : ℕ) where
  tells : (rs : List ReadyStep) → All IsRowStep rs → (xs : List ℕ) →
      Tells (steps_pass limits doc (map node xs) (map action_of rs)) (gives_many limits doc most (map node xs) (map action_of rs)) (nat_lt most (length (last_items doc (map node xs) (map action_of rs))))
  tells [] h xs = record {
    output = λ h. let e = h.1 in cc;
    selection = λ h. let e = h.1 in cc;
    none = λ e. refl;
  }
  tells (r ∷ rs) h xs =
      let first = All-head IsRowStep r rs h in
      let here = step_rows doc r first xs in
      let actions = map action_of rs in
      let next = step_items doc (action_of r) (map node xs) in
      let rest = subst (λ items. Tells (steps_pass limits doc items actions) (gives_many limits doc most items actions) (nat_lt most (length (last_items doc items actions)))) (sym here.1)
      (tells rs (All-tail IsRowStep r rs h) here.0) in
      subst (λ passed. Tells (passed ++ steps_pass limits doc next actions) (gives_many limits doc most (map node xs) (action_of r ∷ actions)) (nat_lt most (length (last_items doc next actions))))
      (sym (only_many limits doc r first xs here.0 here.1))
      (tells_more (nat_lt limits.items (length next)) (steps_pass limits doc next actions) (gives_many limits doc most next actions) _ rest)

  pub no_output : (rs : List ReadyStep) → All IsRowStep rs → IsFirst Output (steps_pass limits doc (node 0 ∷ []) (map action_of rs)) → ⊥
  no_output rs h = (tells rs h (0 ∷ [])).output

  pub too_many : (rs : List ReadyStep) → All IsRowStep rs → IsFirst Selection (steps_pass limits doc (node 0 ∷ []) (map action_of rs)) → None ≡ rows_given limits doc most (map action_of rs)
  too_many rs h k =
      ap (λ b. if b then None else Some (rows_in (last_items doc (node 0 ∷ []) (map action_of rs)))) (sym ((tells rs h (0 ∷ [])).selection k))

  pub not_many : (rs : List ReadyStep) (items : List Item) → All IsRowStep rs → steps_pass limits doc (node 0 ∷ []) (map action_of rs) ≡ [] → items ≡ last_items doc (node 0 ∷ []) (map action_of rs) →
      (if nat_lt most (length items) then None else Some (rows_in items)) ≡ rows_given limits doc most (map action_of rs)
  not_many rs items h k e =
      ap (λ is. if nat_lt most (length is) then None else Some (rows_in is)) e
      ∙ ap (λ b. if b then None else Some (rows_in (last_items doc (node 0 ∷ []) (map action_of rs)))) (sym ((tells rs h (0 ∷ [])).none k))
