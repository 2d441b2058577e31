-- The steps of all parts: their links, their names and their simples.
use Rattle.std.proofs.Common.{◌≡◌, refl, ℕ, length, inl, inr, Bool, true, false, ◌&&◌, eqb, List, [], ◌∷◌, ◌++◌, ap, sym, ◌∙◌, subst, Option, Some, None}
use Rattle.std.specs.Prelude.{◌≢◌, flat_map}
use Rattle.std.specs.List.{list_any, list_all, AllByRecursion}
use Rattle.std.proofs.lemmas.List.Elements.{recursion_from_All}
use Rattle.std.proofs.lemmas.Bool.{and_parts, and_from, cases_lt}
use Rattle.std.proofs.lemmas.List.{get_or_past}
use Rattle.doc_model.specs.declared.Axis.TheVariants as axis
use Rattle.doc_model.specs.Document.{Document, Row, no_row, rows, is_element, is_element_kind}
use Rattle.doc_model.specs.Axes.{on_axis, passes}
use Rattle.css_selectors.specs.declared.selector.Dialect.{Dialect}
use Rattle.css_selectors.specs.declared.selector.Link.{Link}
use Rattle.css_selectors.specs.declared.selector.Link.TheVariants as link
use Rattle.css_selectors.specs.declared.selector.Part.{Part, out-Part}
use Rattle.css_selectors.specs.declared.selector.Simple.{Simple}
use Rattle.css_meaning.specs.Names.{has_name}
use Rattle.css_meaning.specs.Holding.{simple_holds}
use Rattle.css_meaning.proofs.HoldsAt.{at_part}
use Rattle.css_selectors.specs.WellMade.{AreLinked}
use Rattle.css_meaning.proofs.ListTests as lists
use Rattle.css_meaning.proofs.Finding.{in_rows}
use Rattle.xpath_parser.specs.declared.expression.Expr.{Expr}
use Rattle.xpath_parser.specs.Denote.{has, walk_of}
use Rattle.css_printed.specs.inner.LinkPredicates.{axis_of, link_test, link_brackets, next_brackets}
use Rattle.css_printed.specs.inner.Predicates.{step, node_test, name_brackets, elements}
use Rattle.css_printed.specs.inner.TestPredicates.{simple_predicates}
use Rattle.text_base.proofs.Swaps.{swap}
use Rattle.css_printed.proofs.Links.{near, principal_by, axis_near, axis_descendant, axis_child, axis_later}
use Rattle.css_printed.proofs.PathsKept.{Is, Keep, keep_none, keep_one, keep_then, step_has}
use Rattle.css_printed.proofs.LinksNext.{next_has}
use Rattle.css_printed.proofs.MeansValues.{is_nodes, any_kept}
use Rattle.css_printed.proofs.MeansNames.{at_elements, element_kept, keep_element, passes_element, element_principal}
use Rattle.css_printed.proofs.Means.{any_row, StepGives, Further, AllGive}
use Rattle.css_printed.proofs.PrintedAt.{asked_at_part}

regrouped : (on l e f k q n : Bool) → (e ≡ true → on ≡ l) → (f ≡ true → e ≡ true) → (f && k) ≡ (e && n) → ((k && q) && (on && f)) ≡ (l && (e && (n && q)))
regrouped on l true true k q n same to_e kept = ap (λ b. (b && q) && (on && true)) kept ∙ ap (λ b. (n && q) && b) (lists.and_true on ∙ same refl) ∙ swap (n && q) l
regrouped on l false true k q n same to_e kept = let no : false ≡ true = to_e refl in cc
regrouped on l true false k q n same to_e kept = ap (λ b. (k && q) && b) (lists.and_false on) ∙ lists.and_false (k && q) ∙ sym (lists.and_false l) ∙ ap (λ b. l && (b && q)) kept
regrouped on l false false k q n same to_e kept = ap (λ b. (k && q) && b) (lists.and_false on) ∙ lists.and_false (k && q) ∙ sym (lists.and_false l)

-- an element is a row
pub element_row : (doc : Document) (x : ℕ) → is_element doc x ≡ true → has x (rows doc) ≡ true
element_row doc x is = elim (cases_lt x (length doc)) [
  | inl within ↦ in_rows doc x within
  | inr past ↦ absurd (let none : false ≡ true = sym (ap (λ (r : Row). is_element_kind r.kind) (get_or_past doc x no_row past)) ∙ is in cc)
]

-- a test of the row itself
pub self_any : (doc : Document) (p : ℕ → Bool) (x : ℕ) → has x (rows doc) ≡ true → list_any (λ y. eqb y x && p y) (rows doc) ≡ p x
self_any doc p x among = lists.any_same _ _ (λ y. swap (eqb y x) (p y)) (rows doc) ∙ lists.any_one p (rows doc) x ∙ ap (λ b. p x && b) among ∙ lists.and_true (p x)

module _ (doc : Document) (d : Dialect) where
  -- y is an element of the part's name
  abbrev pub is_named_element : Option (List ℕ) → ℕ → Bool
  is_named_element el y = is_element doc y && has_name doc d el y

  abbrev pub all_hold : List Simple → ℕ → Bool
  all_hold ss y = list_all (λ s. simple_holds doc d s y) ss

  -- the predicates of the simples keep, of the elements of the part's name, those at which all simples hold
  abbrev pub PartKeeps : Part → Type 0
  PartKeeps p = Keep doc (is_named_element (out-Part p).element) (flat_map (λ s. simple_predicates d s (out-Part p).element) (out-Part p).simples) (all_hold (out-Part p).simples)

  -- The step of such a link, such an element and such predicates gives, from each row of the kind, the elements that stand to it
  -- as the link says, have the name and pass the test.
  abbrev pub LinkGives : (ℕ → Bool) → Link → Option (List ℕ) → List Expr → (ℕ → Bool) → Type 0
  LinkGives kind l el es q = (x y : ℕ) → kind x ≡ true → has y (rows doc) ≡ true
      → has y (walk_of doc (step (axis_of l) (link_test d l el) (link_brackets d l el ++ es)) x) ≡ (near doc l x y && (is_element doc y && (has_name doc d el y && q y)))

  passes_by : (l : Link) (el : Option (List ℕ)) (y : ℕ) → (passes doc (axis_of l) (node_test d el) y && element_kept doc d el y) ≡ is_named_element el y
  passes_by l el y = passes_element doc (axis_of l) d el y ∙ ap (λ b. b && has_name doc d el y) (principal_by doc l y)

  -- the axis of the link, the name, and the test
  by_axis : (kind : ℕ → Bool) (l : Link) (el : Option (List ℕ)) (es : List Expr) (q : ℕ → Bool) → Keep doc (is_named_element el) es q
      → ((x y : ℕ) → kind x ≡ true → is_element doc y ≡ true → on_axis doc (axis_of l) x y ≡ near doc l x y)
      → (x y : ℕ) → kind x ≡ true → has y (rows doc) ≡ true
      → has y (walk_of doc (step (axis_of l) (node_test d el) (name_brackets d el ++ es)) x) ≡ (near doc l x y && (is_element doc y && (has_name doc d el y && q y)))
  by_axis kind l el es q keep same x y is among =
      step_has doc (passes doc (axis_of l) (node_test d el)) (axis_of l) (node_test d el) (name_brackets d el ++ es) (λ z. element_kept doc d el z && q z) x y (λ z h i. i)
      (keep_then doc (passes doc (axis_of l) (node_test d el)) (is_named_element el) (name_brackets d el) es (element_kept doc d el) q
      (keep_element doc (passes doc (axis_of l) (node_test d el)) d el) keep (λ z h i. sym (passes_by l el z) ∙ and_from _ _ h i)) among
      ∙ regrouped (on_axis doc (axis_of l) x y) (near doc l x y) (is_element doc y) (passes doc (axis_of l) (node_test d el) y) (element_kept doc d el y) (q y) (has_name doc d el y)
      (same x y is) (λ h. sym (principal_by doc l y) ∙ element_principal doc (axis_of l) d el y h) (passes_by l el y)

  first_gives : (el : Option (List ℕ)) (es : List Expr) (q : ℕ → Bool) → Keep doc (is_named_element el) es q → LinkGives any_row link.First el es q
  first_gives el es q keep = by_axis any_row link.First el es q keep (λ x y is k. axis_near doc x y k)

  -- ---- the nearest sibling

  -- the element itself has the name
  pub self_named_is : (el : Option (List ℕ)) (x : ℕ) → is_element doc x ≡ true → Is doc (elements d axis.OwnSelf el) x (has_name doc d el x)
  self_named_is el x is at size =
      is_nodes doc (elements d axis.OwnSelf el) x _ (at_elements doc d axis.OwnSelf el x) at size
      ∙ any_kept (λ y. eqb y x && (is_element doc y && has_name doc d el y)) (rows doc) ∙ self_any doc (λ y. is_element doc y && has_name doc d el y) x (element_row doc x is) ∙ ap (λ b. b && has_name doc d el x) is

  keep_next : (el : Option (List ℕ)) → Keep doc (is_element doc) (next_brackets d el) (has_name doc d el)
  keep_next None = keep_none doc (is_element doc)
  keep_next (Some n) = keep_one doc (is_element doc) (elements d axis.OwnSelf (Some n)) (has_name doc d (Some n)) (λ x is. self_named_is (Some n) x is)

  nested : (e n all : Bool) → e ≡ true → (n && all) ≡ (e && (n && all))
  nested e n all h = ap (λ b. b && (n && all)) (sym h)

  next_gives : (el : Option (List ℕ)) (es : List Expr) (q : ℕ → Bool) → Keep doc (is_named_element el) es q → LinkGives (is_element doc) link.Next el es q
  next_gives el es q keep x y is among =
      next_has doc (next_brackets d el ++ es) (λ z. has_name doc d el z && q z) (λ z. is_element doc z && (has_name doc d el z && q z)) x y
      (keep_then doc (is_element doc) (is_named_element el) (next_brackets d el) es (has_name doc d el) q (keep_next el) keep (λ z h i. and_from _ _ h i))
      (λ z h. (and_parts (is_element doc z) _ h).0) (λ z h. nested (is_element doc z) (has_name doc d el z) (q z) h) is among

  pub further_gives : (l : Link) (el : Option (List ℕ)) (es : List Expr) (q : ℕ → Bool) → l ≢ link.First → Keep doc (is_named_element el) es q → LinkGives (is_element doc) l el es q
  further_gives link.First el es q f keep = absurd (f refl)
  further_gives link.Descendant el es q f keep = by_axis (is_element doc) link.Descendant el es q keep (λ x y is k. axis_descendant doc x y k)
  further_gives link.Child el es q f keep = by_axis (is_element doc) link.Child el es q keep (λ x y is k. axis_child doc x y k)
  further_gives link.Next el es q f keep = next_gives el es q keep
  further_gives link.Later el es q f keep = by_axis (is_element doc) link.Later el es q keep (λ x y is k. axis_later doc x y is k)

  -- ---- parts

  part_gives : (kind : ℕ → Bool) (p : Part)
      → LinkGives kind (out-Part p).link (out-Part p).element (flat_map (λ s. simple_predicates d s (out-Part p).element) (out-Part p).simples) (all_hold (out-Part p).simples) → StepGives doc d kind p
  part_gives kind p h x y is among = ap (λ s. has y (walk_of doc s x)) (asked_at_part d p) ∙ h x y is among ∙ ap (λ b. near doc (out-Part p).link x y && b) (sym (at_part doc d p y))

  first_at : (l : Link) (el : Option (List ℕ)) (es : List Expr) (q : ℕ → Bool) → l ≡ link.First → Keep doc (is_named_element el) es q → LinkGives any_row l el es q
  first_at l el es q e keep = subst (λ v. LinkGives any_row v el es q) (sym e) (first_gives el es q keep)

  first_part : (p : Part) → (out-Part p).link ≡ link.First → PartKeeps p → StepGives doc d any_row p
  first_part p e h = part_gives any_row p (first_at (out-Part p).link (out-Part p).element (flat_map (λ s. simple_predicates d s (out-Part p).element) (out-Part p).simples) (all_hold (out-Part p).simples) e h)

  pub further_part : (p : Part) → (out-Part p).link ≢ link.First → PartKeeps p → Further doc d p
  further_part p f h = record {
    link = f;
    step = part_gives (is_element doc) p (further_gives (out-Part p).link (out-Part p).element (flat_map (λ s. simple_predicates d s (out-Part p).element) (out-Part p).simples) (all_hold (out-Part p).simples) f h);
  }

  pub further_parts : (ps : List Part) → AllByRecursion (λ q. (out-Part q).link ≢ link.First) ps → AllByRecursion PartKeeps ps → AllByRecursion (Further doc d) ps
  further_parts [] f h = tt
  further_parts (p ∷ ps) f h = (further_part p f.0 h.0, further_parts ps f.1 h.1)

  -- a selector of well linked parts whose simples are kept gives what its parts say
  pub all_give : (parts : List Part) → AreLinked parts → AllByRecursion PartKeeps parts → AllGive doc d parts
  all_give [] l h = l
  all_give (p ∷ ps) l h = (l.0, first_part p l.0 h.0, further_parts ps (recursion_from_All (λ (q : Part). (out-Part q).link ≢ link.First) ps l.1) h.1)
