-- Every test, and the theorem: the expression of a well made list denotes what the list answers.
use Rattle.std.proofs.Common.{◌≡◌, refl, ℕ, zero, suc, Bool, true, false, ◌&&◌, not, cond, List, [], ◌∷◌, map, ap, sym, subst, ◌∙◌, Option}
use Rattle.std.specs.Prelude.{codes, All}
use Rattle.std.specs.List.{list_any, AllByRecursion}
use Rattle.std.specs.Str.{bytes_eq}
use Rattle.std.proofs.lemmas.List.Elements.{recursion_from_All}
use Rattle.doc_model.specs.declared.Axis.TheVariants as axis
use Rattle.doc_model.specs.Document.{Document, rows, is_element, IsDocument}
use Rattle.css_selectors.specs.declared.selector.Dialect.{Dialect}
use Rattle.css_selectors.specs.declared.selector.Dialect.TheVariants.{Generic, Html}
use Rattle.css_selectors.specs.declared.selector.Op.{Op}
use Rattle.css_selectors.specs.declared.selector.Op.TheVariants as op
use Rattle.css_selectors.specs.declared.selector.Pseudo.{Pseudo}
use Rattle.css_selectors.specs.declared.selector.Pseudo.TheVariants as pseudo
use Rattle.css_selectors.specs.declared.selector.Compound.{Compound, out-Compound}
use Rattle.css_selectors.specs.declared.selector.Test.{Test, out-Test, roll-Test}
use Rattle.css_selectors.specs.declared.selector.Test.TheOpen as open_
use Rattle.css_selectors.specs.declared.selector.Test.TheViews as views
use Rattle.css_selectors.specs.Words.{is_word_op, test_asks, compound_asks, part_asks, relative_asks, simple_asks}
use Rattle.css_selectors.proofs.Mapped.{any_map}
use Rattle.css_selectors.proofs.WordsAt as words_at
use Rattle.css_meaning.specs.Names.{folded}
use Rattle.css_meaning.specs.Attributes.{has_value, attribute_holds}
use Rattle.css_meaning.specs.Limits.{Countable, NoFormFeed}
use Rattle.css_selectors.specs.WellMade.{FitsTest, FitsPart, FitsRelative, FitsSimple, FitsPseudo, Nowhere, innermost, IsPart, IsSelector, WellMade}
use Rattle.css_meaning.specs.Holding.{test_holds, compound_holds, relative_holds, simple_holds}
use Rattle.css_meaning.specs.Names.{has_name}
use Rattle.css_meaning.specs.Simples.{pseudo_holds}
use Rattle.css_meaning.specs.Matching.{matches_by, gives, answered, answers}
use Rattle.css_meaning.proofs.HoldsAt as holds_at
use Rattle.css_meaning.proofs.ListTests as lists
use Rattle.css_meaning.proofs.Finding.{row_within}
use Rattle.css_meaning.proofs.Backwards.{matches_law}
use Rattle.css_selectors.specs.declared.selector.Part.{Part, out-Part}
use Rattle.css_selectors.specs.declared.selector.Relative.{Relative, out-Relative}
use Rattle.css_selectors.specs.declared.selector.Selector.{Selector}
use Rattle.css_selectors.specs.declared.selector.SelectorList.{SelectorList}
use Rattle.css_selectors.specs.declared.selector.Simple.{Simple}
use Rattle.std.proofs.lemmas.Bool.{and_parts, or_left, or_right}
use Rattle.xpath_values.specs.declared.value.Value.TheVariants.{Nodes}
use Rattle.xpath_parser.specs.Functions.{Context}
use Rattle.xpath_parser.specs.Denote.{denote}
use Rattle.css_printed.specs.inner.Expression.{expression}
use Rattle.css_printed.specs.Promise.{IsWithin, alone, matched}
use Rattle.css_printed.proofs.MeansLanguage.{lang_is}
use Rattle.css_printed.proofs.Means.{Further, SelectorGives, denote_list}
use Rattle.xpath_parser.specs.declared.expression.Expr.{Expr}
use Rattle.css_printed.specs.inner.Predicates.{attribute, plain_attribute, elements, equals, literal, not_one, op_predicate, pseudo_predicates}
use Rattle.css_printed.specs.inner.TestPredicates as q
use Rattle.css_printed.specs.inner.TestPredicates.{Asked, test_asked, compound_expression, relative_expression}
use Rattle.css_printed.proofs.PrintedAt.{Layer, asked_layer, asked_at, asked_at_simple, asked_at_any}
use Rattle.css_printed.proofs.MeansChoices.{SimpleKeeps, simples_keep, Tells, keep_tells, keep_not, tells_choice, compound_tells}
use Rattle.css_printed.proofs.PathsKept.{Keep, keep_same}
use Rattle.css_printed.proofs.MeansNames.{at_attribute, at_plain_attribute}
use Rattle.css_printed.proofs.MeansValues.{is_never}
use Rattle.css_printed.proofs.MeansParts.{is_named_element, element_row, PartKeeps, further_part, all_give}
use Rattle.css_printed.proofs.MeansRelatives.{relative_tells}
use Rattle.css_printed.proofs.MeansAttributes.{exists_is, equals_is, dash_is, prefix_is, substring_is, suffix_is, word_is}
use Rattle.css_printed.proofs.MeansPseudo.{empty_is, root_is, contains_is, link_is, checked_is, enabled_is, disabled_is, in_html_is}
use Rattle.css_printed.proofs.MeansSiblings.{position_keeps, only_child, only_of_type}
use Rattle.css_printed.proofs.MeansTests.{one_keeps, element_test, not_keeps, not_named}

module _ (doc : Document) (is : IsDocument doc) (c : Countable doc) (d : Dialect) (el : Option (List ℕ)) where
  pub pseudo_keeps : (p : Pseudo) → FitsPseudo el p → Keep doc (is_named_element doc d el) (pseudo_predicates d el p) (pseudo_holds doc d p)
  pseudo_keeps pseudo.OnlyChild h = only_child doc is d el c
  pseudo_keeps pseudo.OnlyOfType h = only_of_type doc is d el c h
  pseudo_keeps pseudo.Empty h = one_keeps doc d el _ _ (λ x i. empty_is doc x)
  pseudo_keeps pseudo.Root h = one_keeps doc d el _ _ (λ x i. root_is doc is x i)
  pseudo_keeps pseudo.Never h = one_keeps doc d el _ _ (λ x i. is_never doc x)
  pseudo_keeps pseudo.Link h = one_keeps doc d el _ _ (λ x i. in_html_is doc d _ _ x (link_is doc x i))
  pseudo_keeps pseudo.Checked h = one_keeps doc d el _ _ (λ x i. in_html_is doc d _ _ x (checked_is doc x i))
  pseudo_keeps pseudo.Enabled h = one_keeps doc d el _ _ (λ x i. in_html_is doc d _ _ x (enabled_is doc x i))
  pseudo_keeps pseudo.Disabled h = one_keeps doc d el _ _ (λ x i. in_html_is doc d _ _ x (disabled_is doc x i))

  -- an id's name is one in both dialects
  id_name : (d : Dialect) → folded d (codes "id") ≡ codes "id"
  id_name Generic = refl
  id_name Html = refl

  pub id_keeps : (v : List ℕ) → Keep doc (is_named_element doc d el) (equals (plain_attribute (codes "id")) (literal v) ∷ []) (attribute_holds doc d (codes "id") op.Equals v)
  id_keeps v = one_keeps doc d el _ _ (λ x i at size.
      equals_is doc (plain_attribute (codes "id")) (codes "id") (at_plain_attribute doc (codes "id")) v x at size
      ∙ ap (λ n. has_value doc x n (λ t. bytes_eq t v)) (sym (id_name d)))

  -- ---- attributes

  pub op_keeps : (name : List ℕ) (o : Op) (v : List ℕ) → (is_word_op o ≡ true → NoFormFeed doc)
      → Keep doc (is_named_element doc d el) (op_predicate (attribute d name) o v ∷ []) (attribute_holds doc d name o v)
  op_keeps name op.Exists v calm = one_keeps doc d el _ _ (λ x i. exists_is doc (attribute d name) (folded d name) (at_attribute doc d name) x)
  op_keeps name op.Equals v calm = one_keeps doc d el _ _ (λ x i. equals_is doc (attribute d name) (folded d name) (at_attribute doc d name) v x)
  op_keeps name op.Word v calm = one_keeps doc d el _ _ (λ x i. word_is doc (attribute d name) (folded d name) (at_attribute doc d name) is (calm refl) v x)
  op_keeps name op.Dash v calm = one_keeps doc d el _ _ (λ x i. dash_is doc (attribute d name) (folded d name) (at_attribute doc d name) is v x)
  op_keeps name op.Prefix v calm = one_keeps doc d el _ _ (λ x i. prefix_is doc (attribute d name) (folded d name) (at_attribute doc d name) is v x)
  op_keeps name op.Suffix v calm = one_keeps doc d el _ _ (λ x i. suffix_is doc (attribute d name) (folded d name) (at_attribute doc d name) is c v x)
  op_keeps name op.Substring v calm = one_keeps doc d el _ _ (λ x i. substring_is doc (attribute d name) (folded d name) (at_attribute doc d name) is v x)
  -- ---- all tests, at every depth

module _ (doc : Document) (is : IsDocument doc) (c : Countable doc) (d : Dialect) where
  -- the predicates keep where something holds, and the negated one where it does not
  record Kept (around : Option (List ℕ)) (a : Asked) (p : ℕ → Bool) : Type 0 where
    plainly : Keep doc (is_named_element doc d around) a.brackets p
    negated : Keep doc (is_named_element doc d around) (not_one a.inside ∷ []) (λ y. not (p y))

  of_itself : (around : Option (List ℕ)) (ps : List Expr) (p : ℕ → Bool) → Keep doc (is_named_element doc d around) ps p → Kept around (q.by_itself ps) p
  of_itself around ps p h = record { plainly = h; negated = not_keeps doc d around ps p h }

  of_name : (around n : Option (List ℕ)) → Kept around (q.alone (elements d axis.OwnSelf n)) (has_name doc d n)
  of_name around n = record { plainly = element_test doc d around n; negated = not_named doc d around n }

  of_tells : (around : Option (List ℕ)) (a : Expr) (p : ℕ → Bool) → ((y : ℕ) → is_named_element doc d around y ≡ true → Tells doc a y (p y)) → Kept around (q.alone a) p
  of_tells around a p h = record { plainly = keep_tells doc (is_named_element doc d around) a p h; negated = keep_not doc (is_named_element doc d around) a p h }

  abbrev TestKeeps : Option (List ℕ) → Test → Type 0
  TestKeeps around t = Kept around (test_asked d t around) (test_holds doc d t)

  made : (around : Option (List ℕ)) (l : Layer) (p : ℕ → Bool) → test_holds doc d (roll-Test l) ≡ p → Kept around (asked_layer d l around) p → TestKeeps around (roll-Test l)
  made around l p e h =
      subst (λ a. Kept around a (test_holds doc d (roll-Test l))) (sym (ap (λ f. f around) (asked_at d l))) (subst (λ v. Kept around (asked_layer d l around) v) (sym e) h)

  -- the simples of a compound or a part
  all_of : (Fits : Simple → Type 0) (around : Option (List ℕ)) → ((s : Simple) → (simple_asks s ≡ true → NoFormFeed doc) → Fits s → SimpleKeeps doc d around s)
      → (ss : List Simple) → (list_any simple_asks ss ≡ true → NoFormFeed doc) → AllByRecursion Fits ss → AllByRecursion (SimpleKeeps doc d around) ss
  all_of Fits around ih [] calm k = tt
  all_of Fits around ih (s ∷ ss) calm k =
      (ih s (λ w. calm (or_left (simple_asks s) _ w)) k.0, all_of Fits around ih ss (λ w. calm (or_right (simple_asks s) _ w)) k.1)

  compounds_tell : (Fits : Bool → Option (List ℕ) → Simple → Type 0) (inside : Bool) (around : Option (List ℕ))
      → ((a : Option (List ℕ)) (s : Simple) → (simple_asks s ≡ true → NoFormFeed doc) → Fits inside a s → SimpleKeeps doc d a s)
      → (list : List Compound) → (list_any compound_asks list ≡ true → NoFormFeed doc) → AllByRecursion (λ v. All (Fits inside (innermost around (out-Compound v).element)) (out-Compound v).simples) list
      → (y : ℕ) → is_named_element doc d around y ≡ true → AllByRecursion (λ v. Tells doc (compound_expression d v around) y (compound_holds doc d v y)) list
  compounds_tell Fits inside around ih [] calm h y named = tt
  compounds_tell Fits inside around ih (v ∷ vs) calm h y named =
      let inner : Option (List ℕ) = innermost around (out-Compound v).element in (
        compound_tells doc d around v (all_of (Fits inside inner) inner (ih inner) (out-Compound v).simples (λ w. calm (or_left (compound_asks v) _ (words_at.at_compound v ∙ w)))
            (recursion_from_All (Fits inside inner) (out-Compound v).simples h.0)) y named,
        compounds_tell Fits inside around ih vs (λ w. calm (or_right (compound_asks v) _ w)) h.1 y named,
      )

  -- a part whose simples fit, where Fits is asked of each with the part's element around it
  fitting_keeps : (Fits : Option (List ℕ) → Simple → Type 0) → ((a : Option (List ℕ)) (s : Simple) → (simple_asks s ≡ true → NoFormFeed doc) → Fits a s → SimpleKeeps doc d a s)
      → (p : Part) → All (Fits (out-Part p).element) (out-Part p).simples → (part_asks p ≡ true → NoFormFeed doc) → PartKeeps doc d p
  fitting_keeps Fits ih p fits calm =
      let el : Option (List ℕ) = (out-Part p).element in
      simples_keep doc d el (out-Part p).simples
      (all_of (Fits el) el (ih el) (out-Part p).simples (λ w. calm (words_at.at_part p ∙ w)) (recursion_from_All (Fits el) (out-Part p).simples fits))

  parts_go_on : (Fits : Option (List ℕ) → Simple → Type 0) → ((a : Option (List ℕ)) (s : Simple) → (simple_asks s ≡ true → NoFormFeed doc) → Fits a s → SimpleKeeps doc d a s)
      → (ps : List Part) → AllByRecursion (FitsPart Fits) ps → (list_any part_asks ps ≡ true → NoFormFeed doc)
      → AllByRecursion (Further doc d) ps
  parts_go_on Fits ih [] h calm = tt
  parts_go_on Fits ih (p ∷ ps) h calm =
      (further_part doc d p h.0.0 (fitting_keeps Fits ih p h.0.1 (λ w. calm (or_left (part_asks p) _ w))), parts_go_on Fits ih ps h.1 (λ w. calm (or_right (part_asks p) _ w)))

  relatives_tell : (Fits : Option (List ℕ) → Simple → Type 0) → ((a : Option (List ℕ)) (s : Simple) → (simple_asks s ≡ true → NoFormFeed doc) → Fits a s → SimpleKeeps doc d a s)
      → (list : List Relative) → (list_any relative_asks list ≡ true → NoFormFeed doc) → AllByRecursion (FitsRelative Fits) list
      → (y : ℕ) → is_element doc y ≡ true → AllByRecursion (λ r. Tells doc (relative_expression d r) y (relative_holds doc d r y)) list
  relatives_tell Fits ih [] calm h y element = tt
  relatives_tell Fits ih (r ∷ rs) calm h y element = (
    relative_tells doc d r h.0.0 (parts_go_on Fits ih (out-Relative r).parts
        (recursion_from_All (FitsPart Fits) (out-Relative r).parts h.0.1)
        (λ w. calm (or_left (relative_asks r) _ (words_at.at_relative r ∙ w)))) y element,
    relatives_tell Fits ih rs (λ w. calm (or_right (relative_asks r) _ w)) h.1 y element,
  )

  layer_keeps : (Fits : Bool → Option (List ℕ) → Simple → Type 0)
      → ((inside : Bool) (a : Option (List ℕ)) (s : Simple) → (simple_asks s ≡ true → NoFormFeed doc) → Fits inside a s → SimpleKeeps doc d a s)
      → (room inside negated : Bool) (around : Option (List ℕ)) (l : Layer) → (test_asks (roll-Test l) ≡ true → NoFormFeed doc) → FitsTest Fits room inside around negated l → TestKeeps around (roll-Test l)
  layer_keeps Fits ih room inside negated around (open_.Element n) calm fits = made around (open_.Element n) _ (holds_at.at_layer doc d (open_.Element n)) (of_name around n)
  layer_keeps Fits ih room inside negated around (open_.Id v) calm fits =
      made around (open_.Id v) _ (holds_at.at_layer doc d (open_.Id v)) (of_itself around _ _ (id_keeps doc is c d around v))
  layer_keeps Fits ih room inside negated around (open_.Class v) calm fits =
      made around (open_.Class v) _ (holds_at.at_layer doc d (open_.Class v)) (of_itself around _ _ (op_keeps doc is c d around (codes "class") op.Word v (λ w. calm (words_at.at_layer (open_.Class v)))))
  layer_keeps Fits ih room inside negated around (open_.Attr name o v) calm fits =
      made around (open_.Attr name o v) _ (holds_at.at_layer doc d (open_.Attr name o v)) (of_itself around _ _ (op_keeps doc is c d around name o v (λ w. calm (words_at.at_layer (open_.Attr name o v) ∙ w))))
  layer_keeps Fits ih room inside negated around (open_.Nth kind a b) calm fits =
      made around (open_.Nth kind a b) _ (holds_at.at_layer doc d (open_.Nth kind a b)) (of_itself around _ _ (position_keeps doc is d around c kind fits.2 a b fits.0 fits.1))
  layer_keeps Fits ih room inside negated around (open_.Pseudo p) calm fits =
      made around (open_.Pseudo p) _ (holds_at.at_layer doc d (open_.Pseudo p)) (of_itself around _ _ (pseudo_keeps doc is c d around p fits))
  layer_keeps Fits ih room inside negated around (open_.Contains v) calm fits =
      made around (open_.Contains v) _ (holds_at.at_layer doc d (open_.Contains v)) (of_itself around _ _ (one_keeps doc d around _ _ (λ x i. contains_is doc v x (element_row doc x i))))
  layer_keeps Fits ih room inside negated around (open_.Lang v) calm fits =
      made around (open_.Lang v) _ (holds_at.at_layer doc d (open_.Lang v)) (of_itself around _ _ (one_keeps doc d around _ _ (λ x i. lang_is doc is d v x)))
  layer_keeps Fits ih room inside negated around (open_.Any w list) calm fits =
      let p : ℕ → Bool = λ y. list_any (λ h. h y) (map (compound_holds doc d) list) in
      let all : Kept around (q.alone (q.choice (map (λ v. compound_expression d v around) list))) p = of_tells around (q.choice (map (λ v. compound_expression d v around) list)) p (λ y named.
      tells_choice doc (λ v. compound_expression d v around) (compound_holds doc d) list y
      (compounds_tell Fits inside around (λ a s k h. ih inside a s k h) list (λ h. calm (words_at.at_layer (open_.Any w list) ∙ any_map (λ b. b) compound_asks list ∙ h))
      (recursion_from_All (λ v. All (Fits inside (innermost around (out-Compound v).element)) (out-Compound v).simples) list fits.2) y named)) in
      made around (open_.Any w list) p (holds_at.at_layer doc d (open_.Any w list)) (subst (λ a. Kept around a p) (sym (asked_at_any d w list around)) all)
  layer_keeps Fits ih room inside negated around (open_.Has list) calm fits =
      let a : Expr = q.choice (map (relative_expression d) list) in
      let p : ℕ → Bool = λ y. list_any (λ h. h y) (map (relative_holds doc d) list) in
      made around (open_.Has list) p (holds_at.at_layer doc d (open_.Has list)) (of_itself around (a ∷ []) p (keep_tells doc (is_named_element doc d around) a p (λ y named.
      tells_choice doc (relative_expression d) (relative_holds doc d) list y
      (relatives_tell (Fits true) (λ b s k h. ih true b s k h) list (λ h. calm (words_at.at_layer (open_.Has list) ∙ any_map (λ b. b) relative_asks list ∙ h))
      (recursion_from_All (FitsRelative (Fits true)) list fits.3) y (and_parts (is_element doc y) _ named).0))))

  signed : (around : Option (List ℕ)) (s : Simple) (b : Bool) → s.negated ≡ b → TestKeeps around s.test → SimpleKeeps doc d around s
  signed around s true e h =
      subst (λ es. Keep doc (is_named_element doc d around) es (simple_holds doc d s)) (sym (asked_at_simple d s around ∙ ap (λ n. cond n (not_one (test_asked d s.test around).inside ∷ []) (test_asked d s.test around).brackets) e))
      (keep_same doc (is_named_element doc d around) (not_one (test_asked d s.test around).inside ∷ []) (λ y. not (test_holds doc d s.test y)) (simple_holds doc d s)
      (λ y k. sym (holds_at.at_simple doc d s y ∙ ap (λ n. cond n (not (test_holds doc d s.test y)) (test_holds doc d s.test y)) e)) h.negated)
  signed around s false e h =
      subst (λ es. Keep doc (is_named_element doc d around) es (simple_holds doc d s)) (sym (asked_at_simple d s around ∙ ap (λ n. cond n (not_one (test_asked d s.test around).inside ∷ []) (test_asked d s.test around).brackets) e))
      (keep_same doc (is_named_element doc d around) (test_asked d s.test around).brackets (test_holds doc d s.test) (simple_holds doc d s)
      (λ y k. sym (holds_at.at_simple doc d s y ∙ ap (λ n. cond n (not (test_holds doc d s.test y)) (test_holds doc d s.test y)) e)) h.plainly)

  by_layer : (Fits : Bool → Option (List ℕ) → Simple → Type 0)
      → ((inside : Bool) (a : Option (List ℕ)) (s : Simple) → (simple_asks s ≡ true → NoFormFeed doc) → Fits inside a s → SimpleKeeps doc d a s)
      → (room inside : Bool) (around : Option (List ℕ)) (s : Simple) → (simple_asks s ≡ true → NoFormFeed doc) → FitsTest Fits room inside around s.negated (out-Test s.test) → SimpleKeeps doc d around s
  by_layer Fits ih room inside around s calm fits =
      signed around s s.negated refl (subst (TestKeeps around) (views.roll-out-Test s.test)
      (layer_keeps Fits ih room inside s.negated around (out-Test s.test) (λ w. calm (words_at.at_simple s ∙ ap test_asks (sym (views.roll-out-Test s.test)) ∙ w)) fits))

  -- the predicates of a well made simple keep, of the elements of the name around, those at which it holds
  simple_keeps : (n : ℕ) (inside : Bool) (around : Option (List ℕ)) (s : Simple) → (simple_asks s ≡ true → NoFormFeed doc) → FitsSimple n inside around s → SimpleKeeps doc d around s
  unfolding FitsSimple
  simple_keeps zero inside around s calm fits = by_layer Nowhere (λ i a y k h. absurd h) false inside around s calm fits
  simple_keeps (suc n) inside around s calm fits = by_layer (FitsSimple n) (λ i a y k h. simple_keeps n i a y k h) true inside around s calm fits

  -- ---- parts and selectors

  part_keeps : (p : Part) → IsPart p → (part_asks p ≡ true → NoFormFeed doc) → PartKeeps doc d p
  part_keeps p fits calm = fitting_keeps (FitsSimple 8 false) (simple_keeps 8 false) p fits calm

  parts_keep : (ps : List Part) → AllByRecursion IsPart ps → (list_any part_asks ps ≡ true → NoFormFeed doc) → AllByRecursion (PartKeeps doc d) ps
  parts_keep [] fits calm = tt
  parts_keep (p ∷ ps) fits calm = (part_keeps p fits.0 (λ w. calm (or_left (part_asks p) _ w)), parts_keep ps fits.1 (λ w. calm (or_right (part_asks p) _ w)))

  selector_gives : (s : Selector) → IsSelector s → (list_any part_asks s.parts ≡ true → NoFormFeed doc) → SelectorGives doc d s
  selector_gives s fits calm = all_give doc d s.parts fits.links (parts_keep s.parts (recursion_from_All IsPart s.parts fits.parts) calm)

  selectors_give : (items : List Selector) → AllByRecursion IsSelector items → (list_any (λ s. list_any part_asks s.parts) items ≡ true → NoFormFeed doc) → AllByRecursion (SelectorGives doc d) items
  selectors_give [] fits calm = tt
  selectors_give (s ∷ items) fits calm =
      (selector_gives s fits.0 (λ w. calm (or_left (list_any part_asks s.parts) _ w)), selectors_give items fits.1 (λ w. calm (or_right (list_any part_asks s.parts) _ w)))

module _ (doc : Document) (d : Dialect) where
  matched_from : IsDocument doc → (items : List Selector) (r : ℕ)
      → list_any (λ s. answered doc d s 0 r) items ≡ list_any (λ s. list_any (λ e. matches_by doc d s.parts e && gives doc d s.tail e r) (rows doc)) items
  matched_from is items r = lists.any_same _ _ (λ s. lists.any_among _ _ (rows doc) (λ e among. ap (λ b. b && gives doc d s.tail e r) (matches_law doc is d s e (row_within doc e among)))) items

  -- the answers from the root node are what the selectors give for the elements that they match
  root_matched : IsDocument doc → (list : SelectorList) → answers doc d list 0 ≡ matched doc d list
  root_matched is list = lists.filter_same _ _ (λ r. matched_from is list.items r) (rows doc)

-- the expression of a well made list denotes, at each row, position and size, the rows that the list answers from there
pub denote_answers : (doc : Document) (d : Dialect) (list : SelectorList) → WellMade list → IsWithin list doc → (c : Context) → denote doc (expression d list) c ≡ Nodes (answers doc d list c.row)
denote_answers doc d list made within c =
    denote_list doc d list c (selectors_give doc within.document within.countable d list.items (recursion_from_All IsSelector list.items made.each) within.no_form_feed)

-- and from the root node what the selectors give for the elements that they match
pub denote_matched : (doc : Document) (d : Dialect) (list : SelectorList) → WellMade list → IsWithin list doc → denote doc (expression d list) (alone 0) ≡ Nodes (matched doc d list)
denote_matched doc d list made within = denote_answers doc d list made within (alone 0) ∙ ap Nodes (root_matched doc d within.document list)
