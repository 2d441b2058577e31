-- What the expression of a selector denotes: the rows that the selector answers.
use Rattle.std.proofs.Common.{◌≡◌, refl, ℕ, Bool, true, false, ◌&&◌, ◌||◌, not, eqb, List, [], ◌∷◌, ap, sym, ◌∙◌, filter, map, subst}
use Rattle.std.specs.Prelude.{◌≢◌}
use Rattle.std.specs.List.{list_any, AllByRecursion}
use Rattle.std.proofs.lemmas.List.{map-append}
use Rattle.std.proofs.lemmas.Bool.{and_parts, eqb-true}
use Rattle.doc_model.specs.declared.Kind.{Kind}
use Rattle.doc_model.specs.declared.Kind.TheVariants.{Root, Element, Attribute, Text, Comment}
use Rattle.doc_model.specs.declared.Axis.TheVariants as axis
use Rattle.doc_model.specs.declared.NodeTest.TheVariants as node
use Rattle.doc_model.specs.Document.{Document, row, rows, is_element, is_attribute, is_text, is_attribute_kind, is_text_kind, is_parent, below}
use Rattle.css_selectors.specs.declared.selector.Dialect.{Dialect}
use Rattle.css_selectors.specs.declared.selector.Link.{Link}
use Rattle.css_selectors.specs.declared.selector.Link.TheVariants as link
use Rattle.css_selectors.specs.declared.selector.Part.{Part, out-Part}
use Rattle.css_selectors.specs.declared.selector.Selector.{Selector}
use Rattle.css_selectors.specs.declared.selector.SelectorList.{SelectorList}
use Rattle.css_selectors.specs.declared.selector.Tail.{Tail}
use Rattle.css_selectors.specs.declared.selector.Tail.TheVariants as tail
use Rattle.css_meaning.proofs.HoldsAt.{held_element}
use Rattle.css_meaning.specs.Matching.{holds, linked, leads, reaches_by, gives, answered, answers}
use Rattle.css_meaning.proofs.ListTests as lists
use Rattle.xpath_values.specs.declared.value.Value.TheVariants.{Nodes}
use Rattle.xpath_parser.specs.declared.expression.Expr.TheVariants as e
use Rattle.xpath_parser.specs.declared.expression.Start.TheVariants.{Here}
use Rattle.xpath_parser.specs.declared.expression.Step.{Step}
use Rattle.xpath_parser.specs.Conversions.{rows_of}
use Rattle.xpath_parser.specs.Functions.{Context}
use Rattle.xpath_parser.specs.Denote.{Walk, has, path, rows_in, denote, walk_of}
use Rattle.xpath_parser.proofs.Equations.{at_path, at_here, at_union}
use Rattle.css_printed.specs.inner.Expression.{tail_steps, selector_steps, selector_expression, expression}
use Rattle.css_printed.specs.inner.Predicates.{step, attribute_step}
use Rattle.css_printed.specs.inner.TestPredicates.{step_of}
use Rattle.css_printed.proofs.Links.{near}
use Rattle.css_printed.proofs.Paths as paths
use Rattle.css_printed.proofs.Paths.{chain, path_append, path_chain, path_rows, one_step, in_rows_in}
use Rattle.css_printed.proofs.PathsKept.{keep_none, step_has}
use Rattle.css_printed.proofs.MeansNames.{attribute_walk}

abbrev pub any_row : ℕ → Bool
any_row x = true

module _ (doc : Document) (d : Dialect) where
  -- from the row of the part before to that of this part
  abbrev pub related : Part → ℕ → ℕ → Bool
  related p x y = near doc (out-Part p).link x y && holds doc d p y

  abbrev pub walk : Part → Walk
  walk p = walk_of doc (step_of d p)

  abbrev pub StepGives : (ℕ → Bool) → Part → Type 0
  StepGives kind p = paths.Gives doc walk related kind p

  -- ---- parts

  related_element : (p : Part) → paths.Stays doc walk related (is_element doc) p
  related_element p x y h = held_element doc d p y (and_parts (near doc (out-Part p).link x y) _ h).1

  -- a further part, and its step
  pub record Further (p : Part) : Type 0 where
    pub link : (out-Part p).link ≢ link.First
    pub step : StepGives (is_element doc) p

  -- the first part has the link First and no other has, and all steps give what their parts say
  abbrev pub AllGive : List Part → Type 0
  AllGive [] = ⊥
  AllGive (p ∷ ps) = ((out-Part p).link ≡ link.First) × StepGives any_row p × AllByRecursion Further ps

  pub near_linked : (l : Link) (x y : ℕ) → l ≢ link.First → near doc l x y ≡ linked doc l x y
  near_linked link.First x y h = absurd (h refl)
  near_linked link.Descendant x y h = refl
  near_linked link.Child x y h = refl
  near_linked link.Next x y h = refl
  near_linked link.Later x y h = refl

  chain_leads : (ps : List Part) (x r : ℕ) → AllByRecursion Further ps → chain doc related ps x r ≡ leads doc d ps x r
  unfolding leads
  chain_leads [] x r h = refl
  chain_leads (p ∷ ps) x r h = lists.any_same _ _ (λ y.
      lists.and_assoc (near doc (out-Part p).link x y) (holds doc d p y) (chain doc related ps y r)
      ∙ ap (λ b. b && (holds doc d p y && chain doc related ps y r)) (near_linked (out-Part p).link x y h.0.link)
      ∙ ap (λ b. linked doc (out-Part p).link x y && (holds doc d p y && b)) (chain_leads ps y r h.1)) (rows doc)

  chain_reaches : (p : Part) (ps : List Part) (c r : ℕ) → (out-Part p).link ≡ link.First → AllByRecursion Further ps → chain doc related (p ∷ ps) c r ≡ reaches_by doc d (p ∷ ps) c r
  unfolding reaches_by
  chain_reaches p ps c r first h = lists.any_same _ _ (λ y.
      lists.and_assoc (near doc (out-Part p).link c y) (holds doc d p y) (chain doc related ps y r)
      ∙ ap (λ l. near doc l c y && (holds doc d p y && chain doc related ps y r)) first
      ∙ ap (λ b. ((eqb y c) || below doc c y) && (holds doc d p y && b)) (chain_leads ps y r h)) (rows doc)

  pub all_step : (ps : List Part) → AllByRecursion Further ps → AllByRecursion (StepGives (is_element doc)) ps
  all_step [] h = tt
  all_step (p ∷ ps) h = (h.0.step, all_step ps h.1)

  pub all_stay : (ps : List Part) → AllByRecursion (paths.Stays doc walk related (is_element doc)) ps
  all_stay [] = tt
  all_stay (p ∷ ps) = (related_element p, all_stay ps)

  pub walks : (ps : List Part) → map (walk_of doc) (map (step_of d) ps) ≡ map walk ps
  walks [] = refl
  walks (p ∷ ps) = ap (λ ws. walk p ∷ ws) (walks ps)

  first_elements : (p : Part) (c : ℕ) → StepGives any_row p → (x : ℕ) → has x (rows_in doc (c ∷ []) (walk p)) ≡ true → is_element doc x ≡ true
  first_elements p c step x h =
      let both : (list_any (λ z. has x (walk p z)) (c ∷ []) ≡ true) × (has x (rows doc) ≡ true) = and_parts _ _ (sym (in_rows_in doc (c ∷ []) (walk p) x) ∙ h) in
      related_element p c x (sym (step c x refl both.1) ∙ sym (lists.or_false (has x (walk p c))) ∙ both.0)

  -- the steps of the parts give the rows that the parts reach
  pub parts_rows : (parts : List Part) (c : ℕ) → AllGive parts
      → path doc (c ∷ []) (map (walk_of doc) (map (step_of d) parts)) ≡ filter (λ r. reaches_by doc d parts c r) (rows doc)
  parts_rows [] c h = absurd h
  parts_rows (p ∷ ps) c h =
      ap (path doc (c ∷ [])) (walks (p ∷ ps))
      ∙ path_rows doc (walk p) (map walk ps) (c ∷ []) (λ r. reaches_by doc d (p ∷ ps) c r) (λ r among.
      path_chain doc walk related (is_element doc) ps (rows_in doc (c ∷ []) (walk p)) r (all_step ps h.2) (all_stay ps) (first_elements p c h.1)
      ∙ one_step doc walk related any_row p ps (c ∷ []) r h.1 (λ x i. refl)
      ∙ lists.or_false _ ∙ chain_reaches p ps c r h.0 h.2)

  -- ---- tails

  -- the steps of the tail give what it gives, from elements
  abbrev pub TailGives : Tail → Type 0
  TailGives t = (test : ℕ → Bool) → ((x : ℕ) → test x ≡ true → is_element doc x ≡ true)
      → path doc (filter test (rows doc)) (map (walk_of doc) (tail_steps d t)) ≡ filter (λ r. list_any (λ e. test e && gives doc d t e r) (rows doc)) (rows doc)

  pub element_tail : TailGives tail.Element
  element_tail test element = lists.filter_among _ _ (rows doc) (λ r among. sym (lists.any_one test (rows doc) r ∙ ap (λ b. test r && b) among ∙ lists.and_true (test r)))

  -- a tail of one step
  pub one_tail : (t : Tail) (s : Step) → tail_steps d t ≡ s ∷ []
      → ((x y : ℕ) → is_element doc x ≡ true → has y (rows doc) ≡ true → has y (walk_of doc s x) ≡ gives doc d t x y) → TailGives t
  unfolding rows_in
  one_tail t s one same test element =
      ap (λ ss. path doc (filter test (rows doc)) (map (walk_of doc) ss)) one
      ∙ lists.filter_among _ _ (rows doc) (λ r among.
      lists.any_filter test (λ x. has r (walk_of doc s x)) (rows doc)
      ∙ lists.any_same _ _ (λ x. guarded (test x) _ _ (λ h. same x r (element x h) among)) (rows doc))
    where
      guarded : (t a b : Bool) → (t ≡ true → a ≡ b) → (t && a) ≡ (t && b)
      guarded true a b h = h refl
      guarded false a b h = refl

  text_test : (a p t : Bool) → (t ≡ true → a ≡ true) → (true && ((a && p) && t)) ≡ (t && p)
  text_test a p true h = lists.and_true (a && p) ∙ ap (λ b. b && p) (h refl)
  text_test a p false h = lists.and_false (a && p)

  text_no_attribute : (k : Kind) → is_text_kind k ≡ true → not (is_attribute_kind k) ≡ true
  text_no_attribute Root h = refl
  text_no_attribute Element h = refl
  text_no_attribute Attribute h = cc
  text_no_attribute Text h = refl
  text_no_attribute Comment h = refl

  pub text_tail : TailGives tail.Text
  text_tail = one_tail tail.Text (step axis.Child node.Text []) refl (λ x y element among.
      step_has doc (λ z. true) axis.Child node.Text [] (λ z. true) x y (λ z h i. refl) (keep_none doc (λ z. true)) among
      ∙ text_test (not (is_attribute doc y)) (is_parent doc x y) (is_text doc y) (text_no_attribute (row doc y).kind))

  pub attribute_tail : (n : List ℕ) → TailGives (tail.Attr n)
  attribute_tail n = one_tail (tail.Attr n) (attribute_step d n) refl (λ x y element among. attribute_walk doc d n x y among)

  pub any_tail : (t : Tail) → TailGives t
  any_tail tail.Element = element_tail
  any_tail tail.Text = text_tail
  any_tail (tail.Attr n) = attribute_tail n

  -- ---- selectors

  leads_element : (ps : List Part) (x e : ℕ) → is_element doc x ≡ true → leads doc d ps x e ≡ true → is_element doc e ≡ true
  unfolding leads
  leads_element [] x e element h = subst (λ v. is_element doc v ≡ true) (eqb-true x e h) element
  leads_element (p ∷ ps) x e element h =
      let w : (y : ℕ) × (has y (rows doc) ≡ true) × ((linked doc (out-Part p).link x y && (holds doc d p y && leads doc d ps y e)) ≡ true) = paths.found_in _ (rows doc) h in
      let more : (holds doc d p w.0 ≡ true) × (leads doc d ps w.0 e ≡ true) = and_parts _ _ (and_parts (linked doc (out-Part p).link x w.0) _ w.2).1 in
      leads_element ps w.0 e (held_element doc d p w.0 more.0) more.1

  -- what is reached is an element
  pub reaches_element : (parts : List Part) (c e : ℕ) → reaches_by doc d parts c e ≡ true → is_element doc e ≡ true
  unfolding reaches_by
  reaches_element [] c e h = cc
  reaches_element (p ∷ ps) c e h =
      let w : (y : ℕ) × (has y (rows doc) ≡ true) × ((((eqb y c) || below doc c y) && (holds doc d p y && leads doc d ps y e)) ≡ true) = paths.found_in _ (rows doc) h in
      let more : (holds doc d p w.0 ≡ true) × (leads doc d ps w.0 e ≡ true) = and_parts _ _ (and_parts ((eqb w.0 c) || below doc c w.0) _ w.2).1 in
      leads_element ps w.0 e (held_element doc d p w.0 more.0) more.1

  abbrev pub SelectorGives : Selector → Type 0
  SelectorGives s = AllGive s.parts

  pub selector_rows : (s : Selector) (c : ℕ) → SelectorGives s → path doc (c ∷ []) (map (walk_of doc) (selector_steps d s)) ≡ filter (λ r. answered doc d s c r) (rows doc)
  selector_rows s c h =
      ap (path doc (c ∷ [])) (map-append (walk_of doc) (map (step_of d) s.parts) (tail_steps d s.tail))
      ∙ path_append doc (c ∷ []) (map (walk_of doc) (map (step_of d) s.parts)) (map (walk_of doc) (tail_steps d s.tail))
      ∙ ap (λ xs. path doc xs (map (walk_of doc) (tail_steps d s.tail))) (parts_rows s.parts c h)
      ∙ any_tail s.tail (λ e. reaches_by doc d s.parts c e) (reaches_element s.parts c)

  pub denote_selector : (s : Selector) (c : Context) → SelectorGives s → denote doc (selector_expression d s) c ≡ Nodes (filter (λ r. answered doc d s c.row r) (rows doc))
  denote_selector s c h =
      at_path doc Here (selector_steps d s) c
      ∙ ap (λ xs. Nodes (path doc xs (map (walk_of doc) (selector_steps d s)))) (at_here doc c)
      ∙ ap Nodes (selector_rows s c.row h)

  -- ---- lists

  operand_has : (s : Selector) (c : Context) (r : ℕ) → SelectorGives s → has r (rows doc) ≡ true → has r (rows_of (denote doc (selector_expression d s) c)) ≡ answered doc d s c.row r
  operand_has s c r h among =
      ap (λ v. has r (rows_of v)) (denote_selector s c h) ∙ lists.in_filter (λ z. answered doc d s c.row z) (rows doc) r
      ∙ ap (λ b. answered doc d s c.row r && b) among ∙ lists.and_true (answered doc d s c.row r)

  operands_have : (items : List Selector) (c : Context) (r : ℕ) → AllByRecursion SelectorGives items → has r (rows doc) ≡ true
      → list_any (λ x. has r (rows_of (denote doc x c))) (map (selector_expression d) items) ≡ list_any (λ s. answered doc d s c.row r) items
  operands_have [] c r h among = refl
  operands_have (s ∷ items) c r h among =
      ap (λ b. b || list_any (λ x. has r (rows_of (denote doc x c))) (map (selector_expression d) items)) (operand_has s c r h.0 among)
      ∙ ap (λ b. answered doc d s c.row r || b) (operands_have items c r h.1 among)

  pub denote_union : (items : List Selector) (c : Context) → AllByRecursion SelectorGives items
      → denote doc (e.Union (map (selector_expression d) items)) c ≡ Nodes (answers doc d (record { items = items }) c.row)
  unfolding rows_in
  denote_union items c h =
      at_union doc (map (selector_expression d) items) c
      ∙ ap Nodes (lists.filter_among _ _ (rows doc) (λ r among. operands_have items c r h among))

  pub denote_one : (s : Selector) (c : Context) → SelectorGives s → denote doc (selector_expression d s) c ≡ Nodes (answers doc d (record { items = s ∷ [] }) c.row)
  denote_one s c h = denote_selector s c h ∙ ap Nodes (lists.filter_same _ _ (λ r. sym (lists.or_false (answered doc d s c.row r))) (rows doc))

  denote_items : (items : List Selector) (c : Context) → AllByRecursion SelectorGives items
      → denote doc (expression d (record { items = items })) c ≡ Nodes (answers doc d (record { items = items }) c.row)
  denote_items [] c h = denote_union [] c h
  denote_items (s ∷ []) c h = denote_one s c h.0
  denote_items (s ∷ t ∷ items) c h = denote_union (s ∷ t ∷ items) c h

  -- the expression of a list denotes the rows that the list answers
  pub denote_list : (list : SelectorList) (c : Context) → AllByRecursion SelectorGives list.items → denote doc (expression d list) c ≡ Nodes (answers doc d list c.row)
  denote_list list c h = denote_items list.items c h
