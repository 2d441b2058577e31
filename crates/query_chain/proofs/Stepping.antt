-- Which limits a step passes.
use Rattle.std.proofs.Common.{◌≡◌, ℕ, ◌<◌, ◌≤◌, ◌++◌, Bool, true, false, List, [], ◌∷◌, map, length, refl, sym, ◌∙◌, ap, subst, arith}
use Rattle.std.specs.Prelude.{nat_lt, flat_map}
use Rattle.std.proofs.lemmas.List.{length-map, map-append}
use Rattle.xpath_parser.specs.declared.expression.Expr.{Expr}
use Rattle.doc_model.specs.Document.{Document}
use Rattle.query_script.specs.declared.script.FieldValue.{FieldValue}
use Rattle.query_script.specs.declared.script.Reason.{Reason}
use Rattle.query_script.specs.declared.script.Reason.TheVariants as reason
use Rattle.query_chain.specs.declared.limits.Limits.{Limits}
use Rattle.query_chain.specs.declared.limits.Stop.{Stop}
use Rattle.query_chain.specs.declared.limits.Stop.TheVariants.{Selection, Output, Memory}
use Rattle.query_chain.specs.Chains.{step_items, searched, item_text, item_texts, if_passed, is_over, step_passes, steps_pass, end_passes, first_reason, last_items, taken_texts, value_of, answer}
use Rattle.query_chain.specs.Items.{Item, node, text, strings, bytes_of}
use Rattle.query_chain.specs.Tasks.{Action, select, search}
use Rattle.query_chain.specs.inner.Steps.{IsFirst, IsStopOf}
use Rattle.query_chain.specs.Patterns.{found_texts}
use Rattle.query_script.specs.declared.script.Take.{Take}
use Rattle.query_chain.proofs.Lists.{strings_texts, strings_nodes}
use Rattle.std.proofs.lemmas.Bool.{le-ltb, lt-ltb}

pub is_within : (limits : Limits) (ts : List (List ℕ)) → bytes_of ts ≤ limits.bytes → is_over limits ts ≡ false
is_within limits ts h = le-ltb limits.bytes (bytes_of ts) h

over_it : (limits : Limits) (ts : List (List ℕ)) → limits.bytes < bytes_of ts → is_over limits ts ≡ true
over_it limits ts h = lt-ltb limits.bytes (bytes_of ts) h

-- three tests, one after the other
abbrev three : Bool → Bool → Bool → List Reason
three a b c = if_passed a reason.Output ++ (if_passed b reason.Selection ++ if_passed c reason.Output)

none_of : (a b c : Bool) → a ≡ false → b ≡ false → c ≡ false → three a b c ≡ []
none_of false false false i j k = refl
none_of true b c i j k = cc
none_of false true c i j k = cc
none_of false false true i j k = cc

second_of_three : (a b c : Bool) → a ≡ false → b ≡ true → (more : List Reason) × (three a b c ≡ reason.Selection ∷ more)
second_of_three false true c i j = (_, refl)
second_of_three true b c i j = cc
second_of_three false false c i j = cc

third_of_three : (a b c : Bool) → a ≡ false → b ≡ false → c ≡ true → (more : List Reason) × (three a b c ≡ reason.Output ∷ more)
third_of_three false false true i j k = (_, refl)
third_of_three true b c i j k = cc
third_of_three false true c i j k = cc
third_of_three false false false i j k = cc

module _ (limits : Limits) (doc : Document) (a : Action) (items : List Item) where
  pub passes_none : bytes_of (searched doc a items) ≤ limits.bytes → length (step_items doc a items) ≤ limits.items → bytes_of (strings (step_items doc a items)) ≤ limits.bytes → step_passes limits doc a items ≡ []
  passes_none h k m =
      none_of (is_over limits (searched doc a items)) (nat_lt limits.items (length (step_items doc a items))) (is_over limits (strings (step_items doc a items)))
      (is_within limits (searched doc a items) h) (le-ltb limits.items (length (step_items doc a items)) k) (is_within limits (strings (step_items doc a items)) m)

  pub passes_many : bytes_of (searched doc a items) ≤ limits.bytes → limits.items < length (step_items doc a items) → IsFirst Selection (step_passes limits doc a items)
  passes_many h k =
      second_of_three (is_over limits (searched doc a items)) (nat_lt limits.items (length (step_items doc a items))) (is_over limits (strings (step_items doc a items)))
      (is_within limits (searched doc a items) h) (lt-ltb limits.items (length (step_items doc a items)) k)

  pub passes_over : bytes_of (searched doc a items) ≤ limits.bytes → length (step_items doc a items) ≤ limits.items → limits.bytes < bytes_of (strings (step_items doc a items)) → IsFirst Output (step_passes limits doc a items)
  passes_over h k m =
      third_of_three (is_over limits (searched doc a items)) (nat_lt limits.items (length (step_items doc a items))) (is_over limits (strings (step_items doc a items)))
      (is_within limits (searched doc a items) h) (le-ltb limits.items (length (step_items doc a items)) k) (over_it limits (strings (step_items doc a items)) m)

-- what a search gives, from the texts that it searches
pub search_texts : (doc : Document) (source : List ℕ) (items : List Item) → step_items doc (search source) items ≡ map text (flat_map (found_texts source) (item_texts doc items))
search_texts doc source [] = refl
search_texts doc source (i ∷ items) = ap (λ r. map text (found_texts source (item_text doc i)) ++ r) (search_texts doc source items) ∙ sym (map-append text (found_texts source (item_text doc i)) _)

-- texts give nothing to a query
pub select_texts : (doc : Document) (x : Expr) (ts : List (List ℕ)) → step_items doc (select x) (map text ts) ≡ []
select_texts doc x [] = refl
select_texts doc x (t ∷ ts) = select_texts doc x ts

-- one step of the chain, and its end
pub stops_first : (s : Stop) (passed more : List Reason) → IsFirst s passed → IsFirst s (passed ++ more)
stops_first Selection passed more h = (h.0 ++ more, ap (λ r. r ++ more) h.1)
stops_first Output passed more h = (h.0 ++ more, ap (λ r. r ++ more) h.1)
stops_first Memory passed more h = tt

pub stops_then : (s : Stop) (passed more : List Reason) → passed ≡ [] → IsFirst s more → IsFirst s (passed ++ more)
stops_then s passed more e h = subst (λ r. IsFirst s (r ++ more)) (sym e) h

pub stops_value : (s : Stop) (passed : List Reason) (v : FieldValue) → IsFirst s passed → IsStopOf s (first_reason passed v)
stops_value Selection passed v h = ap (λ r. first_reason r v) h.1
stops_value Output passed v h = ap (λ r. first_reason r v) h.1
stops_value Memory passed v h = tt

-- how far the steps have come: what is given so far goes on as all steps do
pub record IsOn (limits : Limits) (doc : Document) (start : List Item) (all : List Action) (items : List Item) (rest : List Action) : Type 0 where
  pub items_are : last_items doc items rest ≡ last_items doc start all
  pub passes : steps_pass limits doc items rest ≡ steps_pass limits doc start all

pub on_start : (limits : Limits) (doc : Document) (start : List Item) (all : List Action) → IsOn limits doc start all start all
on_start limits doc start all = record { items_are = refl; passes = refl }

pub on_step : (limits : Limits) (doc : Document) (start : List Item) (all : List Action) (items next : List Item) (a : Action) (rest whole : List Action) → whole ≡ a ∷ rest →
    next ≡ step_items doc a items → step_passes limits doc a items ≡ [] → IsOn limits doc start all items whole → IsOn limits doc start all next rest
on_step limits doc start all items next a rest whole w e n on = record {
  items_are = ap (λ r. last_items doc r rest) e ∙ (ap (last_items doc items) (sym w) ∙ on.items_are);
  passes = ap (λ r. steps_pass limits doc r rest) e ∙ (ap (λ r. r ++ steps_pass limits doc (step_items doc a items) rest) (sym n) ∙ (ap (steps_pass limits doc items) (sym w) ∙ on.passes));
}

pub on_stop : (limits : Limits) (doc : Document) (start : List Item) (all : List Action) (items : List Item) (a : Action) (rest whole : List Action) (s : Stop) → whole ≡ a ∷ rest →
    IsFirst s (step_passes limits doc a items) → IsOn limits doc start all items whole → IsFirst s (steps_pass limits doc start all)
on_stop limits doc start all items a rest whole s w h on =
    subst (IsFirst s) (ap (steps_pass limits doc items) (sym w) ∙ on.passes) (stops_first s (step_passes limits doc a items) (steps_pass limits doc (step_items doc a items) rest) h)

pub on_end : (limits : Limits) (doc : Document) (start : List Item) (all : List Action) (items : List Item) (rest : List Action) → rest ≡ [] → IsOn limits doc start all items rest →
    (items ≡ last_items doc start all) × (steps_pass limits doc start all ≡ [])
on_end limits doc start all items rest e on =
    (ap (last_items doc items) (sym e) ∙ on.items_are, sym on.passes ∙ ap (steps_pass limits doc items) e)

-- why a query was stopped
pub stopped_rows : (limits : Limits) (doc : Document) (x : Expr) (xs : List ℕ) (s : Stop) → (s ≡ Output → ⊥) → (s ≡ Selection → limits.items < length (step_items doc (select x) (map node xs))) →
    IsFirst s (step_passes limits doc (select x) (map node xs))
stopped_rows limits doc x xs Selection h k = passes_many limits doc (select x) (map node xs) (omega arith) (k refl)
stopped_rows limits doc x xs Output h k = absurd (h refl)
stopped_rows limits doc x xs Memory h k = tt

pub stopped_texts : (limits : Limits) (doc : Document) (x : Expr) (xs : List ℕ) (s : Stop) → (s ≡ Selection → ⊥) → length (step_items doc (select x) (map node xs)) ≡ length xs → length xs ≤ limits.items →
    (s ≡ Output → limits.bytes < bytes_of (strings (step_items doc (select x) (map node xs)))) → IsFirst s (step_passes limits doc (select x) (map node xs))
stopped_texts limits doc x xs Selection h e few k = absurd (h refl)
stopped_texts limits doc x xs Output h e few k = passes_over limits doc (select x) (map node xs) (omega arith) (omega (arith, e, few)) (k refl)
stopped_texts limits doc x xs Memory h e few k = tt

pub rows_pass : (limits : Limits) (doc : Document) (x : Expr) (xs got : List ℕ) → map node got ≡ step_items doc (select x) (map node xs) → length got ≤ limits.items →
    step_passes limits doc (select x) (map node xs) ≡ []
rows_pass limits doc x xs got e few =
    let size = ap length e in
    let same = length-map got node in
    let none = ap bytes_of (ap strings (sym e) ∙ strings_nodes got) in
    passes_none limits doc (select x) (map node xs) (omega arith) (omega (arith, size, same, few)) (omega (arith, none))

pub texts_pass : (limits : Limits) (doc : Document) (x : Expr) (xs : List ℕ) (got : List (List ℕ)) → map text got ≡ step_items doc (select x) (map node xs) →
    length (step_items doc (select x) (map node xs)) ≡ length xs → length xs ≤ limits.items → bytes_of got ≤ limits.bytes → step_passes limits doc (select x) (map node xs) ≡ []
texts_pass limits doc x xs got e n few h =
    let all = ap bytes_of (ap strings (sym e) ∙ strings_texts got) in
    passes_none limits doc (select x) (map node xs) (omega arith) (omega (arith, n, few)) (omega (arith, all, h))

pub texts_few : (doc : Document) (x : Expr) (xs : List ℕ) (got : List (List ℕ)) (n : ℕ) → map text got ≡ step_items doc (select x) (map node xs) →
    length (step_items doc (select x) (map node xs)) ≡ length xs → length xs ≤ n → length (map text got) ≤ n
texts_few doc x xs got n e one few = let size = ap length e in omega (arith, size, one, few)

-- a query at texts
pub nothing_passes : (limits : Limits) (doc : Document) (x : Expr) (ts : List (List ℕ)) → step_passes limits doc (select x) (map text ts) ≡ []
nothing_passes limits doc x ts =
    let none = select_texts doc x ts in
    let size = ap length none in
    let bytes = ap (λ r. bytes_of (strings r)) none in
    passes_none limits doc (select x) (map text ts) (omega arith) (omega (arith, size)) (omega (arith, bytes))

-- why a search was stopped
pub stopped_search : (limits : Limits) (doc : Document) (source : List ℕ) (items : List Item) (ts : List (List ℕ)) (s : Stop) → ts ≡ item_texts doc items → bytes_of (item_texts doc items) ≤ limits.bytes →
    (s ≡ Selection → limits.items < length (flat_map (found_texts source) ts)) →
    (s ≡ Output → (length (flat_map (found_texts source) ts) ≤ limits.items) × (limits.bytes < bytes_of (flat_map (found_texts source) ts))) →
    IsFirst s (step_passes limits doc (search source) items)
stopped_search limits doc source items ts Selection e h k m =
    let given = search_texts doc source items ∙ ap (λ r. map text (flat_map (found_texts source) r)) (sym e) in
    let size = ap length given in
    let same = length-map (flat_map (found_texts source) ts) text in
    let many = k refl in
    passes_many limits doc (search source) items h (omega (arith, size, same, many))
stopped_search limits doc source items ts Output e h k m =
    let given = search_texts doc source items ∙ ap (λ r. map text (flat_map (found_texts source) r)) (sym e) in
    let size = ap length given in
    let same = length-map (flat_map (found_texts source) ts) text in
    let few = (m refl).0 in
    let bytes = ap bytes_of (ap strings given ∙ strings_texts (flat_map (found_texts source) ts)) in
    let over = (m refl).1 in
    passes_over limits doc (search source) items h (omega (arith, size, same, few)) (omega (arith, bytes, over))
stopped_search limits doc source items ts Memory e h k m = tt

pub search_items : (doc : Document) (source : List ℕ) (items : List Item) (ts got : List (List ℕ)) → ts ≡ item_texts doc items → got ≡ flat_map (found_texts source) ts →
    map text got ≡ step_items doc (search source) items
search_items doc source items ts got e n = ap (map text) (n ∙ ap (flat_map (found_texts source)) e) ∙ sym (search_texts doc source items)

pub search_passes : (limits : Limits) (doc : Document) (source : List ℕ) (items : List Item) (ts got : List (List ℕ)) → ts ≡ item_texts doc items → got ≡ flat_map (found_texts source) ts →
    bytes_of (item_texts doc items) ≤ limits.bytes → length got ≤ limits.items → bytes_of got ≤ limits.bytes → step_passes limits doc (search source) items ≡ []
search_passes limits doc source items ts got e n h few within =
    let given = search_items doc source items ts got e n in
    let size = ap length given in
    let same = length-map got text in
    let bytes = ap bytes_of (ap strings (sym given) ∙ strings_texts got) in
    passes_none limits doc (search source) items h (omega (arith, size, same, few)) (omega (arith, bytes, within))

-- the value of the chain
pub answered : (limits : Limits) (doc : Document) (x : ℕ) (actions : List Action) (end : Take) (items : List Item) (ts : List (List ℕ)) → items ≡ last_items doc (node x ∷ []) actions →
    steps_pass limits doc (node x ∷ []) actions ≡ [] → ts ≡ taken_texts end (item_texts doc items) → end_passes limits doc ts ≡ [] → value_of end ts ≡ answer limits doc x actions end
answered limits doc x actions end items ts e n t m =
    let given : ts ≡ taken_texts end (item_texts doc (last_items doc (node x ∷ []) actions)) = t ∙ ap (λ r. taken_texts end (item_texts doc r)) e in
    ap (value_of end) given
    ∙ ap (λ r. first_reason r (value_of end (taken_texts end (item_texts doc (last_items doc (node x ∷ []) actions)))))
    (sym (ap (λ r. r ++ end_passes limits doc (taken_texts end (item_texts doc (last_items doc (node x ∷ []) actions)))) n ∙ (ap (end_passes limits doc) (sym given) ∙ m)))

pub stopped_early : (limits : Limits) (doc : Document) (x : ℕ) (actions : List Action) (end : Take) (s : Stop) → IsFirst s (steps_pass limits doc (node x ∷ []) actions) → IsStopOf s (answer limits doc x actions end)
stopped_early limits doc x actions end s h = stops_value s _ _ (stops_first s (steps_pass limits doc (node x ∷ []) actions) _ h)

pub stopped_late : (limits : Limits) (doc : Document) (x : ℕ) (actions : List Action) (end : Take) (items : List Item) (s : Stop) → items ≡ last_items doc (node x ∷ []) actions →
    steps_pass limits doc (node x ∷ []) actions ≡ [] → IsFirst s (end_passes limits doc (taken_texts end (item_texts doc items))) → IsStopOf s (answer limits doc x actions end)
stopped_late limits doc x actions end items s e n h =
    stops_value s _ _ (stops_then s (steps_pass limits doc (node x ∷ []) actions) _ n (subst (λ r. IsFirst s (end_passes limits doc (taken_texts end (item_texts doc r)))) e h))
