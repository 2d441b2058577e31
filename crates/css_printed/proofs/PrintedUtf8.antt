-- The printed text of a selector list whose names and values are texts is UTF-8.
use Rattle.std.proofs.Common.{◌≡◌, ℕ, zero, suc, Bool, true, false, List, [], ◌∷◌, ◌++◌, map, refl, sym, ◌∙◌, ap, subst, codes}
use Rattle.std.specs.Prelude.{All, Option, Some, None}
use Rattle.std.specs.List.{AllByRecursion, flat_map, list_all}
use Rattle.std.specs.Str.{IsUtf8}
use Rattle.std.proofs.lemmas.Bool.{and_parts}
use Rattle.std.proofs.lemmas.List.Elements.{recursion_from_All}
use Rattle.std.proofs.lemmas.List.Folds.{flat_map-map, list_all-map}
use Rattle.std.proofs.lemmas.Str.{IsUtf8-append}
use Rattle.css_selectors.specs.declared.selector.Compound.{Compound, out-Compound}
use Rattle.css_selectors.specs.declared.selector.Dialect.{Dialect}
use Rattle.css_selectors.specs.declared.selector.Op.TheVariants as op
use Rattle.css_selectors.specs.declared.selector.Part.{Part, out-Part}
use Rattle.css_selectors.specs.declared.selector.Relative.{Relative, out-Relative}
use Rattle.css_selectors.specs.declared.selector.Selector.{Selector}
use Rattle.css_selectors.specs.declared.selector.SelectorList.{SelectorList}
use Rattle.css_selectors.specs.declared.selector.Simple.{Simple}
use Rattle.css_selectors.specs.declared.selector.Test.{Test, out-Test, roll-Test}
use Rattle.css_selectors.specs.declared.selector.Test.TheOpen as open_
use Rattle.css_selectors.specs.declared.selector.Test.TheViews as views
use Rattle.css_selectors.specs.Texts as texts
use Rattle.css_selectors.specs.Texts.{test_texts, compound_texts, part_texts, relative_texts, simple_texts, selector_texts, AreTexts}
use Rattle.css_selectors.specs.WellMade.{FitsTest, FitsPart, FitsRelative, FitsSimple, Nowhere, innermost, IsPart, IsSelector, WellMade}
use Rattle.css_selectors.proofs.TextsAt as texts_at
use Rattle.css_printed.specs.Names.{attribute_text}
use Rattle.css_printed.specs.Printed.{part_text, parts_text, tail_text, selector_text, joined, printed}
use Rattle.css_printed.specs.TestTexts as s
use Rattle.css_printed.specs.TestTexts.{Said, Steps, test_said, compound_text, part_steps, relative_text, simple_text}
use Rattle.css_printed.proofs.PrintedAt.{Layer, text_layer, text_at, text_at_simple, text_at_compound, text_at_first, text_at_part, text_at_relative, text_at_any}
use Rattle.css_printed.proofs.SpellChoices.{all_true}
use Rattle.css_printed.proofs.SpellNames.{IsElementText}
use Rattle.css_printed.proofs.PrintedPieces.{Bytes, ascii, after, chosen, element_utf8, attribute_utf8, op_utf8, nth_utf8, pseudo_utf8, lang_utf8, id_utf8, contains_utf8, first_utf8, step_utf8, tail_utf8}

-- ---- one text after another

choice_utf8 : (xs : List Bytes) → AllByRecursion IsUtf8 xs → IsUtf8 (s.choice xs)
choice_utf8 [] h = ascii [] refl
choice_utf8 (x ∷ []) h = h.0
choice_utf8 (x ∷ y ∷ ys) h = IsUtf8-append x _ h.0 (after (codes " or ") _ refl (choice_utf8 (y ∷ ys) h.1))

joined_utf8 : (xs : List Bytes) → AllByRecursion IsUtf8 xs → IsUtf8 (joined xs)
joined_utf8 [] h = ascii [] refl
joined_utf8 (x ∷ []) h = h.0
joined_utf8 (x ∷ y ∷ ys) h = IsUtf8-append x _ h.0 (after (codes " | ") _ refl (joined_utf8 (y ∷ ys) h.1))

-- both texts of a test
record SaidUtf8 (x : Said) : Type 0 where
  pub brackets : IsUtf8 x.brackets
  pub inside : IsUtf8 x.inside

by_itself : (x : Bytes) → IsUtf8 x → SaidUtf8 (s.by_itself x)
by_itself x u = record { brackets = u; inside = after (codes "self::*") x refl u }

in_square : (x : Bytes) → IsUtf8 x → IsUtf8 (codes "[" ++ (x ++ codes "]"))
in_square x u = after (codes "[") _ refl (IsUtf8-append x (codes "]") u (ascii (codes "]") refl))

alone : (x : Bytes) → IsUtf8 x → SaidUtf8 (s.alone x)
alone x u = record { brackets = in_square x u; inside = u }

innermost_text : (around el : Option (List ℕ)) → IsElementText around → IsElementText el → IsElementText (innermost around el)
innermost_text around None h g = h
innermost_text around (Some n) h g = g

module _ (d : Dialect) where
  abbrev SimpleUtf8 : Option (List ℕ) → Simple → Type 0
  SimpleUtf8 around x = IsUtf8 (simple_text d x around)

  simples_utf8 : (around : Option (List ℕ)) (ss : List Simple) → AllByRecursion (SimpleUtf8 around) ss → IsUtf8 (flat_map (λ x. simple_text d x around) ss)
  simples_utf8 around [] h = ascii [] refl
  simples_utf8 around (x ∷ ss) h = IsUtf8-append (simple_text d x around) _ h.0 (simples_utf8 around ss h.1)

  -- what stands in a choice, where Fits is asked of each simple with the element around it
  module _ (Fits : Bool → Option (List ℕ) → Simple → Type 0) (ih : (inside : Bool) (a : Option (List ℕ)) (x : Simple) → IsElementText a → simple_texts x ≡ true → Fits inside a x → SimpleUtf8 a x) where
    all_of : (inside : Bool) (around : Option (List ℕ)) → IsElementText around → (ss : List Simple) → AllByRecursion (λ v. simple_texts v ≡ true) ss → AllByRecursion (Fits inside around) ss → AllByRecursion (SimpleUtf8 around) ss
    all_of inside around a [] g k = tt
    all_of inside around a (x ∷ ss) g k = (ih inside around x a g.0 k.0, all_of inside around a ss g.1 k.1)

    compound_utf8 : (inside : Bool) (around : Option (List ℕ)) → IsElementText around → (c : Compound) → compound_texts c ≡ true → All (Fits inside (innermost around (out-Compound c).element)) (out-Compound c).simples →
        IsUtf8 (compound_text d c around)
    compound_utf8 inside around a c g h =
        let inner : Option (List ℕ) = innermost around (out-Compound c).element in
        let both : (IsElementText (out-Compound c).element) × (list_all simple_texts (out-Compound c).simples ≡ true) = and_parts _ _ (sym (texts_at.at_compound c) ∙ g) in
        subst IsUtf8 (sym (text_at_compound d c around))
        (after (codes "self::") _ refl (IsUtf8-append _ _ (element_utf8 d (out-Compound c).element both.0) (simples_utf8 inner (out-Compound c).simples (all_of inside inner (innermost_text around (out-Compound c).element a both.0)
        (out-Compound c).simples (all_true simple_texts (out-Compound c).simples both.1) (recursion_from_All (Fits inside inner) (out-Compound c).simples h)))))

    compounds_utf8 : (inside : Bool) (around : Option (List ℕ)) → IsElementText around → (list : List Compound) → AllByRecursion (λ c. compound_texts c ≡ true) list →
        AllByRecursion (λ c. All (Fits inside (innermost around (out-Compound c).element)) (out-Compound c).simples) list → AllByRecursion IsUtf8 (map (λ c. compound_text d c around) list)
    compounds_utf8 inside around a [] g h = tt
    compounds_utf8 inside around a (c ∷ cs) g h = (compound_utf8 inside around a c g.0 h.0, compounds_utf8 inside around a cs g.1 h.1)

    -- a part, as the first of a relative and after another
    simples_of : (inside : Bool) (p : Part) → part_texts p ≡ true → All (Fits inside (out-Part p).element) (out-Part p).simples → (IsElementText (out-Part p).element) × IsUtf8 (flat_map (λ z. simple_text d z (out-Part p).element) (out-Part p).simples)
    simples_of inside p g h =
        let both : (IsElementText (out-Part p).element) × (list_all simple_texts (out-Part p).simples ≡ true) = and_parts _ _ (sym (texts_at.at_part p) ∙ g) in (
          both.0,
          simples_utf8 (out-Part p).element (out-Part p).simples (all_of inside (out-Part p).element both.0 (out-Part p).simples (all_true simple_texts (out-Part p).simples both.1)
              (recursion_from_All (Fits inside (out-Part p).element) (out-Part p).simples h)),
        )

    first_part : (inside : Bool) (p : Part) → part_texts p ≡ true → All (Fits inside (out-Part p).element) (out-Part p).simples → IsUtf8 (part_steps d p).first
    first_part inside p g h = let of = simples_of inside p g h in subst IsUtf8 (sym (text_at_first d p)) (IsUtf8-append _ _ (first_utf8 d (out-Part p).element of.0 (out-Part p).link) of.1)

    further_part : (inside : Bool) (p : Part) → part_texts p ≡ true → All (Fits inside (out-Part p).element) (out-Part p).simples → IsUtf8 (part_text d p)
    further_part inside p g h = let of = simples_of inside p g h in subst IsUtf8 (sym (text_at_part d p)) (IsUtf8-append _ _ (step_utf8 d (out-Part p).element of.0 (out-Part p).link) of.1)

    parts_utf8 : (inside : Bool) (ps : List Part) → AllByRecursion (λ p. part_texts p ≡ true) ps → AllByRecursion (λ p. All (Fits inside (out-Part p).element) (out-Part p).simples) ps → IsUtf8 (parts_text d ps)
    parts_utf8 inside [] g h = ascii [] refl
    parts_utf8 inside (p ∷ ps) g h = IsUtf8-append (part_text d p) _ (further_part inside p g.0 h.0) (parts_utf8 inside ps g.1 h.1)

    simples_alone : (inside : Bool) (ps : List Part) → AllByRecursion (FitsPart (Fits inside)) ps → AllByRecursion (λ p. All (Fits inside (out-Part p).element) (out-Part p).simples) ps
    simples_alone inside [] h = tt
    simples_alone inside (p ∷ ps) h = (h.0.1, simples_alone inside ps h.1)

    path_utf8 : (inside : Bool) (ps : List Part) → AllByRecursion (λ p. part_texts p ≡ true) ps → AllByRecursion (λ p. All (Fits inside (out-Part p).element) (out-Part p).simples) ps → IsUtf8 (s.path_text (map (part_steps d) ps))
    path_utf8 inside [] g h = ascii [] refl
    path_utf8 inside (p ∷ ps) g h =
        IsUtf8-append (part_steps d p).first _ (first_part inside p g.0 h.0) (subst IsUtf8 (sym (flat_map-map (λ (y : Steps). y.further) (part_steps d) ps)) (parts_utf8 inside ps g.1 h.1))

    relatives_utf8 : (inside : Bool) (list : List Relative) → AllByRecursion (λ r. relative_texts r ≡ true) list → AllByRecursion (FitsRelative (Fits inside)) list → AllByRecursion IsUtf8 (map (relative_text d) list)
    relatives_utf8 inside [] g h = tt
    relatives_utf8 inside (r ∷ rs) g h = (
      subst IsUtf8 (sym (text_at_relative d r)) (path_utf8 inside (out-Relative r).parts (all_true part_texts (out-Relative r).parts (sym (texts_at.at_relative r) ∙ g.0))
          (simples_alone inside (out-Relative r).parts (recursion_from_All (FitsPart (Fits inside)) (out-Relative r).parts h.0.1))),
      relatives_utf8 inside rs g.1 h.1,
    )

    -- ---- each test

    layer_utf8 : (room inside negated : Bool) (around : Option (List ℕ)) → IsElementText around → (l : Layer) → test_texts (roll-Test l) ≡ true → FitsTest Fits room inside around negated l → SaidUtf8 (text_layer d l around)
    layer_utf8 room inside negated around a (open_.Element el) g fits = alone _ (after (codes "self::") _ refl (element_utf8 d el (sym (texts_at.at_layer (open_.Element el)) ∙ g)))
    layer_utf8 room inside negated around a (open_.Id v) g fits = by_itself _ (id_utf8 v (sym (texts_at.at_layer (open_.Id v)) ∙ g))
    layer_utf8 room inside negated around a (open_.Class v) g fits = by_itself _ (op_utf8 (attribute_text d (codes "class")) (attribute_utf8 d (codes "class") refl) v (sym (texts_at.at_layer (open_.Class v)) ∙ g) op.Word)
    layer_utf8 room inside negated around a (open_.Attr name o v) g fits =
        let both = and_parts _ _ (sym (texts_at.at_layer (open_.Attr name o v)) ∙ g) in by_itself _ (op_utf8 (attribute_text d name) (attribute_utf8 d name both.0) v both.1 o)
    layer_utf8 room inside negated around a (open_.Nth kind x y) g fits = by_itself _ (nth_utf8 d around a kind x y)
    layer_utf8 room inside negated around a (open_.Pseudo p) g fits = by_itself _ (pseudo_utf8 d around a p)
    layer_utf8 room inside negated around a (open_.Contains v) g fits = by_itself _ (contains_utf8 v (sym (texts_at.at_layer (open_.Contains v)) ∙ g))
    layer_utf8 room inside negated around a (open_.Lang v) g fits = by_itself _ (lang_utf8 d v (sym (texts_at.at_layer (open_.Lang v)) ∙ g))
    layer_utf8 room inside negated around a (open_.Any w list) g fits =
        let made : AllByRecursion (λ c. compound_texts c ≡ true) list = all_true compound_texts list (sym (list_all-map (λ b. b) compound_texts list) ∙ sym (texts_at.at_layer (open_.Any w list)) ∙ g) in
        subst SaidUtf8 (sym (text_at_any d w list around))
        (alone _ (choice_utf8 (map (λ c. compound_text d c around) list) (compounds_utf8 inside around a list made (recursion_from_All (λ c. All (Fits inside (innermost around (out-Compound c).element)) (out-Compound c).simples) list fits.2))))
    layer_utf8 room inside negated around a (open_.Has list) g fits =
        let made : AllByRecursion (λ r. relative_texts r ≡ true) list = all_true relative_texts list (sym (list_all-map (λ b. b) relative_texts list) ∙ sym (texts_at.at_layer (open_.Has list)) ∙ g) in
        by_itself _ (in_square _ (choice_utf8 (map (relative_text d) list) (relatives_utf8 true list made (recursion_from_All (FitsRelative (Fits true)) list fits.3))))

    by_layer : (room inside : Bool) (around : Option (List ℕ)) (x : Simple) → IsElementText around → simple_texts x ≡ true → FitsTest Fits room inside around x.negated (out-Test x.test) → SimpleUtf8 around x
    by_layer room inside around x a g fits =
        let made : test_texts (roll-Test (out-Test x.test)) ≡ true = ap test_texts (views.roll-out-Test x.test) ∙ sym (texts_at.at_simple x) ∙ g in
        let P : Test → Type 0 = λ t. SaidUtf8 (test_said d t around) in
        let said : SaidUtf8 (test_said d x.test around) = subst P (views.roll-out-Test x.test) (subst SaidUtf8 (sym (ap (λ f. f around) (text_at d (out-Test x.test)))) (layer_utf8 room inside x.negated around a (out-Test x.test) made fits)) in
        subst IsUtf8 (sym (text_at_simple d x around))
        (chosen x.negated _ _ (after (codes "[not(") _ refl (IsUtf8-append _ (codes ")]") said.inside (ascii (codes ")]") refl))) said.brackets)

  simple_utf8 : (n : ℕ) (inside : Bool) (around : Option (List ℕ)) (x : Simple) → IsElementText around → simple_texts x ≡ true → FitsSimple n inside around x → SimpleUtf8 around x
  unfolding FitsSimple
  simple_utf8 zero inside around x a g fits = by_layer Nowhere (λ i b y k h none. absurd none) false inside around x a g fits
  simple_utf8 (suc n) inside around x a g fits = by_layer (FitsSimple n) (λ i b y k h fit. simple_utf8 n i b y k h fit) true inside around x a g fits

  -- ---- selectors

  selector_utf8 : (v : Selector) → selector_texts v ≡ true → IsSelector v → IsUtf8 (selector_text d v)
  selector_utf8 v g h =
      let both : (list_all part_texts v.parts ≡ true) × (texts.tail_text v.tail ≡ true) = and_parts (list_all part_texts v.parts) (texts.tail_text v.tail) g in
      IsUtf8-append (parts_text d v.parts) (tail_text d v.tail)
      (parts_utf8 (FitsSimple 8) (λ i b y k m fit. simple_utf8 8 i b y k m fit) false v.parts (all_true part_texts v.parts both.0) (recursion_from_All IsPart v.parts h.parts)) (tail_utf8 d v.tail both.1)

  selectors_utf8 : (items : List Selector) → AllByRecursion (λ v. selector_texts v ≡ true) items → AllByRecursion IsSelector items → AllByRecursion IsUtf8 (map (selector_text d) items)
  selectors_utf8 [] g h = tt
  selectors_utf8 (v ∷ items) g h = (selector_utf8 v g.0 h.0, selectors_utf8 items g.1 h.1)

  pub printed_utf8 : (list : SelectorList) → WellMade list → AreTexts list → IsUtf8 (printed d list)
  printed_utf8 list made are_texts = joined_utf8 (map (selector_text d) list.items) (selectors_utf8 list.items (all_true selector_texts list.items are_texts) (recursion_from_All IsSelector list.items made.each))
