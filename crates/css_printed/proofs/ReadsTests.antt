-- The tests that hold no selectors, and all simple selectors at every depth, as predicates.
use Rattle.std.proofs.Common.{◌≡◌, refl, ℕ, zero, suc, ◌<◌, arith, Bool, true, false, cond, List, [], ◌∷◌, ◌++◌, ap, sym, subst, map, length, append-nil, append_assoc, Option, codes}
use Rattle.std.specs.Prelude.{All}
use Rattle.std.specs.List.{flat_map, AllByRecursion}
use Rattle.std.proofs.lemmas.List.Elements.{recursion_from_All}
use Rattle.std.proofs.lemmas.List.Folds.{flat_map-map}
use Rattle.std.specs.Char.{to_ascii_lowercase}
use Rattle.doc_model.specs.declared.Axis.TheVariants as axis
use Rattle.css_selectors.specs.declared.selector.Compound.{Compound, out-Compound}
use Rattle.css_selectors.specs.declared.selector.Dialect.{Dialect}
use Rattle.css_selectors.specs.declared.selector.Dialect.TheVariants.{Generic, Html}
use Rattle.css_selectors.specs.declared.selector.Op.TheVariants as op
use Rattle.css_selectors.specs.declared.selector.Part.{Part, out-Part}
use Rattle.css_selectors.specs.declared.selector.Relative.{Relative, out-Relative}
use Rattle.css_selectors.specs.declared.selector.Simple.{Simple}
use Rattle.css_selectors.specs.declared.selector.Test.{Test, out-Test, roll-Test}
use Rattle.css_selectors.specs.declared.selector.Test.TheOpen as open_
use Rattle.css_selectors.specs.declared.selector.Test.TheViews as views
use Rattle.css_selectors.specs.WellMade.{FitsTest, FitsPart, FitsRelative, FitsSimple, Nowhere, innermost, IsPart}
use Rattle.xpath_parser.specs.declared.expression.Expr.{Expr}
use Rattle.xpath_parser.specs.declared.expression.Expr.TheVariants as e
use Rattle.xpath_parser.specs.declared.expression.Func.TheVariants as f
use Rattle.xpath_parser.specs.declared.expression.Start.TheVariants as start
use Rattle.xpath_parser.specs.declared.expression.Step.{Step}
use Rattle.xpath_parser.specs.declared.term.Term.{Term}
use Rattle.xpath_parser.specs.declared.term.Term.TheVariants as t
use Rattle.xpath_parser.specs.Grammar as g
use Rattle.xpath_parser.specs.Grammar.{Reads, Operands}
use Rattle.css_printed.specs.inner.Predicates as x
use Rattle.css_printed.specs.inner.TestPredicates as q
use Rattle.css_printed.specs.inner.TestPredicates.{Asked, test_asked, compound_expression, step_of, relative_expression, simple_predicates}
use Rattle.css_printed.proofs.PrintedAt.{Layer, terms_layer, terms_at, terms_at_simple, terms_at_compound, terms_at_first, terms_at_part, terms_at_relative, terms_at_any, asked_layer, asked_at, asked_at_simple, asked_at_compound, asked_at_part, asked_at_relative, asked_at_any}
use Rattle.css_printed.proofs.Readings.{up, to_2, to_5, to_8, whole}
use Rattle.css_printed.proofs.ReadsPieces.{to_7, Brackets, no_brackets, bracket, join, any_tested, with, axis_step, single, equal, number_reads, literal_reads, call_one, call_two, call_three}
use Rattle.css_printed.proofs.ReadsLinks.{first_reads, link_reads}
use Rattle.css_printed.proofs.ReadsNames.{text_reads, element_tested, elements_read, attribute_reads, plain_attribute_reads}
use Rattle.css_printed.proofs.ReadsAttributes.{op_reads}
use Rattle.css_printed.proofs.ReadsPositions.{nth_reads}
use Rattle.css_printed.proofs.ReadsPseudo.{pseudo_reads}
use Rattle.css_printed.proofs.TemplateTerms as p
use Rattle.css_printed.proofs.TemplateTerms.{test_terms, compound_terms, relative_terms, simple_terms}

lang_attribute : Reads (p.plain_attribute (codes "lang")) (g.at 0 (x.plain_attribute (codes "lang")))
lang_attribute = plain_attribute_reads (codes "lang")

begins_read : (v : List ℕ) → Reads (p.lang_begins v) (g.at 0 (x.lang_begins v))
begins_read v =
    call_two f.StartsWith
    (whole (call_two f.Concat
    (whole (call_three f.Translate (whole lang_attribute) (whole (literal_reads (codes "ABCDEFGHIJKLMNOPQRSTUVWXYZ"))) (whole (literal_reads (codes "abcdefghijklmnopqrstuvwxyz")))))
    (whole (literal_reads (codes "-")))))
    (whole (text_reads (map to_ascii_lowercase v ++ codes "-")))

pub lang_reads : (d : Dialect) (v : List ℕ) → Brackets (p.lang_terms d v) (x.lang_predicate d v ∷ [])
lang_reads Generic v = bracket (whole (call_one f.Lang (whole (text_reads v))))
lang_reads Html v =
    bracket (whole (single (axis_step axis.AncestorOrSelf
    (with any_tested (join (bracket (whole lang_attribute)) (join (bracket (whole (number_reads 1))) (bracket (whole (begins_read v)))))))))

-- ---- one alone, or several with `or` between

module _ {X : Type 0} (said : X → List Term) (means : X → Expr) where
  abbrev Each : List X → Type 0
  Each xs = AllByRecursion (λ c. Reads (said c) (g.at 7 (means c))) xs

  abbrev others : List X → Operands
  others cs = map (λ c. (t.Or, means c)) cs

  others_read : (c : X) (cs : List X) → Each (c ∷ cs) → Reads (t.Or ∷ p.choice (map said (c ∷ cs))) (g.rest 7 (others (c ∷ cs)))
  others_read c [] h = g.rest_more refl h.0 g.rest_end (sym (append-nil (said c)))
  others_read c (b ∷ bs) h = g.rest_more refl h.0 (others_read b bs h.1) refl

  values : (cs : List X) → map (λ q. q.1) (others cs) ≡ map means cs
  values [] = refl
  values (c ∷ cs) = ap (λ v. means c ∷ v) (values cs)

  choice_reads : (cs : List X) → 0 < length cs → Each cs → Reads (p.choice (map said cs)) (g.at 8 (q.choice (map means cs)))
  unfolding g.joined
  choice_reads [] some h = absurd (let no : ⊥ = omega arith in no)
  choice_reads (c ∷ []) some h = up 7 h.0 refl
  choice_reads (c ∷ (b ∷ bs)) some h =
      let P : List Expr → Type 0 = λ es. Reads (p.choice (map said (c ∷ (b ∷ bs)))) (g.at 8 (e.Or (means c ∷ es))) in
      subst P (values (b ∷ bs)) (g.tier refl h.0 (others_read b bs h.1) refl)

-- ---- all tests

itself_reads : {ts : List Term} {ps : List Expr} → Brackets ts ps → Reads (p.itself ts) (g.at 8 (q.itself ps))
itself_reads h = whole (single (axis_step axis.OwnSelf (with any_tested h)))

by_sign : (negated : Bool) {ts us : List Term} {y : Expr} {ps : List Expr} → Brackets ts (y ∷ []) → Brackets us ps → Brackets (cond negated ts us) (cond negated (y ∷ []) ps)
by_sign true h k = h
by_sign false h k = k

-- terms that read as what is asked, plainly and in a negation
pub record Answers (u : p.Said) (a : Asked) : Type 0 where
  pub plainly : Brackets u.brackets a.brackets
  pub inside : Reads u.inside (g.at 8 a.inside)

of_itself : {ts : List Term} {ps : List Expr} → Brackets ts ps → Answers (p.by_itself ts) (q.by_itself ps)
of_itself h = record { plainly = h; inside = itself_reads h }

of_one : {ts : List Term} {y : Expr} → Reads ts (g.at 8 y) → Answers (p.alone ts) (q.alone y)
of_one r = record { plainly = bracket r; inside = r }

-- ---- steps, one behind the other

-- terms that put these steps behind another
pub record MoreSteps (us : List Term) (ws : List Step) : Type 0 where
  pub read : (a : List Term) (s : Step) → Reads a (g.step s) → Reads (a ++ us) (g.steps (s ∷ ws))

pub no_more : MoreSteps [] []
no_more = record { read = λ a s r. subst (λ ts. Reads ts (g.steps (s ∷ []))) (sym (append-nil a)) (g.steps_one r) }

module _ (d : Dialect) where
  abbrev pub SimpleReads : Option (List ℕ) → Simple → Type 0
  SimpleReads around s = Brackets (simple_terms d s around) (simple_predicates d s around)

  pub simples_read : (around : Option (List ℕ)) (ss : List Simple) → AllByRecursion (SimpleReads around) ss
      → Brackets (flat_map (λ s. simple_terms d s around) ss) (flat_map (λ s. simple_predicates d s around) ss)
  simples_read around [] h = no_brackets
  simples_read around (s ∷ ss) h = join h.0 (simples_read around ss h.1)

  all_of : (Fits : Simple → Type 0) (around : Option (List ℕ)) → ((s : Simple) → Fits s → SimpleReads around s) → (ss : List Simple) → AllByRecursion Fits ss → AllByRecursion (SimpleReads around) ss
  all_of Fits around ih [] k = tt
  all_of Fits around ih (s ∷ ss) k = (ih s k.0, all_of Fits around ih ss k.1)

  compound_reads : (around : Option (List ℕ)) (c : Compound) → AllByRecursion (SimpleReads (innermost around (out-Compound c).element)) (out-Compound c).simples
      → Reads (compound_terms d c around) (g.at 0 (compound_expression d c around))
  compound_reads around c h =
      let inner : Option (List ℕ) = innermost around (out-Compound c).element in
      let ts : List Term = p.on_axis axis.OwnSelf (p.element d (out-Compound c).element ++ flat_map (λ s. simple_terms d s inner) (out-Compound c).simples) in
      subst (λ us. Reads us (g.at 0 (compound_expression d c around))) (sym (terms_at_compound d c around))
      (subst (λ y. Reads ts (g.at 0 y)) (sym (asked_at_compound d c around))
      (single (axis_step axis.OwnSelf (with (element_tested d (out-Compound c).element) (simples_read inner (out-Compound c).simples h)))))

  compounds_read : (Fits : Bool → Option (List ℕ) → Simple → Type 0) (inside : Bool) (around : Option (List ℕ)) → ((a : Option (List ℕ)) (s : Simple) → Fits inside a s → SimpleReads a s)
      → (list : List Compound) → AllByRecursion (λ c. All (Fits inside (innermost around (out-Compound c).element)) (out-Compound c).simples) list
      → AllByRecursion (λ c. Reads (compound_terms d c around) (g.at 7 (compound_expression d c around))) list
  compounds_read Fits inside around ih [] h = tt
  compounds_read Fits inside around ih (c ∷ cs) h =
      let inner : Option (List ℕ) = innermost around (out-Compound c).element in
      (to_7 (compound_reads around c (all_of (Fits inside inner) inner (ih inner) (out-Compound c).simples (recursion_from_All (Fits inside inner) (out-Compound c).simples h.0))), compounds_read Fits inside around ih cs h.1)

  -- ---- a relative

  -- a part as the first of a relative, and behind a `/`
  pub record PartReads (u : Part) : Type 0 where
    pub first : Reads (p.part_steps d u).first (g.step (step_of d u))
    pub further : Reads (p.part_terms d u) (g.step (step_of d u))

  same_step : {ts us : List Term} {s v : Step} → ts ≡ us → s ≡ v → Reads us (g.step v) → Reads ts (g.step s)
  same_step {ts} {us} {s} {v} e k r = subst (λ w. Reads w (g.step s)) (sym e) (subst (λ w. Reads us (g.step w)) (sym k) r)

  -- a part whose simples fit, where Fits is asked of each with the part's element around it
  fitting_reads : (Fits : Option (List ℕ) → Simple → Type 0) → ((a : Option (List ℕ)) (s : Simple) → Fits a s → SimpleReads a s) → (u : Part) → All (Fits (out-Part u).element) (out-Part u).simples → PartReads u
  fitting_reads Fits ih u fits =
      let el : Option (List ℕ) = (out-Part u).element in
      let all : Brackets (flat_map (λ s. simple_terms d s el) (out-Part u).simples) (flat_map (λ s. simple_predicates d s el) (out-Part u).simples) =
      simples_read el (out-Part u).simples (all_of (Fits el) el (ih el) (out-Part u).simples (recursion_from_All (Fits el) (out-Part u).simples fits)) in
      record {
        first = same_step (terms_at_first d u) (asked_at_part d u) (first_reads d (out-Part u).link el all);
        further = same_step (terms_at_part d u) (asked_at_part d u) (link_reads d (out-Part u).link el all);
      }

  -- further parts, and what stands behind them
  pub parts_behind : (ps : List Part) (us : List Term) (ws : List Step) → MoreSteps us ws → AllByRecursion PartReads ps → MoreSteps (p.further_terms d ps ++ us) (map (step_of d) ps ++ ws)
  parts_behind [] us ws more h = more
  parts_behind (u ∷ ps) us ws more h = record {
    read = λ a s r. g.steps_more r ((parts_behind ps us ws more h.1).read (p.part_terms d u) (step_of d u) h.0.further) (ap (λ v. a ++ t.Slash ∷ v) (append_assoc (p.part_terms d u) (p.further_terms d ps) us));
  }

  path_reads : (ps : List Part) → 0 < length ps → AllByRecursion PartReads ps → Reads (p.path_terms (map (p.part_steps d) ps)) (g.at 0 (e.Path start.Here (map (step_of d) ps)))
  path_reads [] some h = absurd (let no : ⊥ = omega arith in no)
  path_reads (u ∷ ps) some h =
      let a : List Term = (p.part_steps d u).first in
      let all : Reads (a ++ (p.further_terms d ps ++ [])) (g.steps (step_of d u ∷ (map (step_of d) ps ++ []))) = (parts_behind ps [] [] no_more h.1).read a (step_of d u) h.0.first in
      g.path_here (subst (λ v. Reads (a ++ v) (g.steps (step_of d u ∷ map (step_of d) ps))) (sym (flat_map-map (λ (y : p.Steps). t.Slash ∷ y.further) (p.part_steps d) ps))
      (subst (λ v. Reads (a ++ v) (g.steps (step_of d u ∷ map (step_of d) ps))) (append-nil (p.further_terms d ps))
      (subst (λ v. Reads (a ++ (p.further_terms d ps ++ [])) (g.steps (step_of d u ∷ v))) (append-nil (map (step_of d) ps)) all)))

  relatives_read : (Fits : Option (List ℕ) → Simple → Type 0) → ((a : Option (List ℕ)) (s : Simple) → Fits a s → SimpleReads a s)
      → (list : List Relative) → AllByRecursion (FitsRelative Fits) list → AllByRecursion (λ r. Reads (relative_terms d r) (g.at 7 (relative_expression d r))) list
  relatives_read Fits ih [] h = tt
  relatives_read Fits ih (r ∷ rs) h = (
    to_7 (subst (λ v. Reads v (g.at 0 (relative_expression d r))) (sym (terms_at_relative d r)) (subst (λ v. Reads (p.path_terms (map (p.part_steps d) (out-Relative r).parts)) (g.at 0 v)) (sym (asked_at_relative d r))
        (path_reads (out-Relative r).parts h.0.0 (all_read (out-Relative r).parts (recursion_from_All (FitsPart Fits) (out-Relative r).parts h.0.1))))),
    relatives_read Fits ih rs h.1,
  )
    where
      all_read : (ps : List Part) → AllByRecursion (FitsPart Fits) ps → AllByRecursion PartReads ps
      all_read [] k = tt
      all_read (u ∷ ps) k = (fitting_reads Fits ih u k.0.1, all_read ps k.1)

  -- ---- each test

  abbrev TestReads : Option (List ℕ) → Test → Type 0
  TestReads around u = Answers (test_terms d u around) (test_asked d u around)

  made : (around : Option (List ℕ)) (l : Layer) → Answers (terms_layer d l around) (asked_layer d l around) → TestReads around (roll-Test l)
  made around l h =
      subst (λ s. Answers s (test_asked d (roll-Test l) around)) (sym (ap (λ f. f around) (terms_at d l)))
      (subst (λ a. Answers (terms_layer d l around) a) (sym (ap (λ f. f around) (asked_at d l))) h)

  layer_reads : (Fits : Bool → Option (List ℕ) → Simple → Type 0) → ((inside : Bool) (a : Option (List ℕ)) (s : Simple) → Fits inside a s → SimpleReads a s)
      → (room inside negated : Bool) (around : Option (List ℕ)) (l : Layer) → FitsTest Fits room inside around negated l → TestReads around (roll-Test l)
  layer_reads Fits ih room inside negated around (open_.Element n) fits = made around (open_.Element n) (of_one (whole (elements_read d axis.OwnSelf n)))
  layer_reads Fits ih room inside negated around (open_.Id v) fits =
      made around (open_.Id v) (of_itself (bracket (to_8 (equal (to_5 (to_2 (plain_attribute_reads (codes "id")))) (to_5 (to_2 (text_reads v)))))))
  layer_reads Fits ih room inside negated around (open_.Class v) fits =
      made around (open_.Class v) (of_itself (op_reads (p.attribute d (codes "class")) (x.attribute d (codes "class")) (attribute_reads d (codes "class")) op.Word v))
  layer_reads Fits ih room inside negated around (open_.Attr name o v) fits =
      made around (open_.Attr name o v) (of_itself (op_reads (p.attribute d name) (x.attribute d name) (attribute_reads d name) o v))
  layer_reads Fits ih room inside negated around (open_.Nth kind a b) fits = made around (open_.Nth kind a b) (of_itself (nth_reads d around kind a b))
  layer_reads Fits ih room inside negated around (open_.Pseudo c) fits = made around (open_.Pseudo c) (of_itself (pseudo_reads d around c))
  layer_reads Fits ih room inside negated around (open_.Contains v) fits =
      made around (open_.Contains v) (of_itself (bracket (whole (call_two f.Contains (whole (single g.step_self)) (whole (text_reads v))))))
  layer_reads Fits ih room inside negated around (open_.Lang v) fits = made around (open_.Lang v) (of_itself (lang_reads d v))
  layer_reads Fits ih room inside negated around (open_.Any w list) fits =
      let r : Answers (p.alone (p.choice (map (λ c. compound_terms d c around) list))) (q.alone (q.choice (map (λ c. compound_expression d c around) list))) =
      of_one (choice_reads (λ c. compound_terms d c around) (λ c. compound_expression d c around) list fits.1
      (compounds_read Fits inside around (λ a s k. ih inside a s k) list (recursion_from_All (λ v. All (Fits inside (innermost around (out-Compound v).element)) (out-Compound v).simples) list fits.2))) in
      made around (open_.Any w list)
      (subst (λ s. Answers s (asked_layer d (open_.Any w list) around)) (sym (terms_at_any d w list around))
      (subst (λ a. Answers (p.alone (p.choice (map (λ c. compound_terms d c around) list))) a) (sym (asked_at_any d w list around)) r))
  layer_reads Fits ih room inside negated around (open_.Has list) fits =
      made around (open_.Has list) (of_itself (bracket (choice_reads (relative_terms d) (relative_expression d) list fits.2
      (relatives_read (Fits true) (λ a s k. ih true a s k) list (recursion_from_All (FitsRelative (Fits true)) list fits.3)))))

  by_layer : (Fits : Bool → Option (List ℕ) → Simple → Type 0) → ((inside : Bool) (a : Option (List ℕ)) (s : Simple) → Fits inside a s → SimpleReads a s)
      → (room inside : Bool) (around : Option (List ℕ)) (s : Simple) → FitsTest Fits room inside around s.negated (out-Test s.test) → SimpleReads around s
  by_layer Fits ih room inside around s fits =
      let h : TestReads around s.test = subst (TestReads around) (views.roll-out-Test s.test) (layer_reads Fits ih room inside s.negated around (out-Test s.test) fits) in
      subst (λ ts. Brackets ts (simple_predicates d s around)) (sym (terms_at_simple d s around))
      (subst (λ ps. Brackets (cond s.negated (p.in_square (p.call f.Not (test_terms d s.test around).inside)) (test_terms d s.test around).brackets) ps) (sym (asked_at_simple d s around))
      (by_sign s.negated (bracket (whole (call_one f.Not h.inside))) h.plainly))

  -- the terms of a well made simple read as its predicates
  pub simple_reads : (n : ℕ) (inside : Bool) (around : Option (List ℕ)) (s : Simple) → FitsSimple n inside around s → SimpleReads around s
  unfolding FitsSimple
  simple_reads zero inside around s fits = by_layer Nowhere (λ i a y h. absurd h) false inside around s fits
  simple_reads (suc n) inside around s fits = by_layer (FitsSimple n) (λ i a y h. simple_reads n i a y h) true inside around s fits

  pub part_reads : (u : Part) → IsPart u → PartReads u
  part_reads u h = fitting_reads (FitsSimple 8 false) (simple_reads 8 false) u h
