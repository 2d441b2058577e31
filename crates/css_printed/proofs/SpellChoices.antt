-- Simple selectors in printed texts, at every depth, with room for the brackets of so many levels: three a level, and eight for
-- what stands innermost.
use Rattle.std.proofs.Common.{◌≡◌, refl, sym, ◌∙◌, ap, subst, ℕ, zero, suc, ◌<◌, arith, Bool, true, false, cond, List, [], ◌∷◌, ◌++◌, map, length, codes, append_assoc, Option, Some, None}
use Rattle.std.specs.Prelude.{◌≢◌, All, encode_utf8_all}
use Rattle.std.specs.List.{flat_map, list_all, AllByRecursion}
use Rattle.std.specs.Str.{chars}
use Rattle.std.proofs.lemmas.Bool.{and_parts}
use Rattle.std.proofs.lemmas.List.Elements.{recursion_from_All}
use Rattle.doc_model.specs.declared.Axis.TheVariants as axis
use Rattle.css_selectors.specs.declared.selector.Compound.{Compound, out-Compound}
use Rattle.css_selectors.specs.declared.selector.Dialect.{Dialect}
use Rattle.css_selectors.specs.declared.selector.Link.{Link}
use Rattle.css_selectors.specs.declared.selector.Link.TheVariants as link
use Rattle.css_selectors.specs.declared.selector.Op.TheVariants as op
use Rattle.css_selectors.specs.declared.selector.Part.{Part, out-Part}
use Rattle.css_selectors.specs.declared.selector.Relative.{Relative, out-Relative}
use Rattle.css_selectors.specs.declared.selector.Simple.{Simple}
use Rattle.css_selectors.specs.declared.selector.Test.{Test, out-Test, roll-Test}
use Rattle.css_selectors.specs.declared.selector.Test.TheOpen as open_
use Rattle.css_selectors.specs.declared.selector.Test.TheViews as views
use Rattle.css_selectors.specs.Texts.{test_texts, compound_texts, part_texts, relative_texts, simple_texts}
use Rattle.css_selectors.specs.WellMade.{FitsTest, FitsPart, FitsRelative, FitsSimple, Nowhere, innermost, IsPart}
use Rattle.css_selectors.proofs.TextsAt as texts_at
use Rattle.std.proofs.lemmas.List.Folds.{flat_map-map, list_all-map}
use Rattle.xpath_lexer.specs.Tokens.{Text}
use Rattle.xpath_parser.specs.declared.expression.Func.TheVariants as f
use Rattle.xpath_parser.specs.declared.term.Term.{Term}
use Rattle.xpath_parser.specs.declared.term.Term.TheVariants as t
use Rattle.xpath_parser.specs.Terms.{axis_names, function_names, node_type_names, operator_names}
use Rattle.css_printed.specs.Links.{first_text, step_text}
use Rattle.css_printed.specs.Literals.{literal_text}
use Rattle.css_printed.specs.Names.{element_text, attribute_text}
use Rattle.css_printed.specs.Printed.{part_text, parts_text}
use Rattle.css_printed.specs.TestTexts as s
use Rattle.css_printed.specs.TestTexts.{Said, Steps, test_said, compound_text, part_steps, relative_text, simple_text}
use Rattle.css_printed.proofs.PrintedAt.{Layer, text_layer, text_at, text_at_simple, text_at_compound, text_at_first, text_at_part, text_at_relative, text_at_any, terms_layer, terms_at, terms_at_simple, terms_at_compound, terms_at_first, terms_at_part, terms_at_relative, terms_at_any}
use Rattle.css_printed.proofs.SpellConditions.{nth_puts}
use Rattle.css_printed.proofs.SpellFixed.{Puts, Piece, ◌⨾◌, fix, said, then_puts, nothing_puts, choose_puts}
use Rattle.css_printed.proofs.SpellLinks.{first_puts, further_puts}
use Rattle.css_printed.proofs.SpellLiterals.{literal_puts}
use Rattle.css_printed.proofs.SpellNames.{IsElementText, element_puts, attribute_puts}
use Rattle.css_printed.proofs.SpellOps.{six}
use Rattle.css_printed.proofs.SpellPseudo.{pseudo_puts, lang_puts}
use Rattle.css_printed.proofs.SpellTests.{eight, self_puts, not_self_puts, id_puts, contains_puts, not_puts}
use Rattle.css_printed.proofs.SpellValues.{op_puts}
use Rattle.css_printed.proofs.TemplateTerms as terms
use Rattle.css_printed.proofs.TemplateTerms.{test_terms, compound_terms, relative_terms, simple_terms}

-- three brackets a level
abbrev pub thrice : ℕ → ℕ → ℕ
thrice zero r = r
thrice (suc n) r = suc (suc (suc (thrice n r)))

thrice_suc : (n r : ℕ) → thrice n (suc r) ≡ suc (thrice n r)
thrice_suc zero r = refl
thrice_suc (suc n) r = ap (λ m. suc (suc (suc m))) (thrice_suc n r)

-- what is said of a text at a level, in whatever room
abbrev pub Follows : ℕ → Text → List Term → Type 0
Follows n x ts = (r : ℕ) → Puts (eight (thrice n r)) true (eight (thrice n r)) true x ts

abbrev pub Begins : ℕ → Text → List Term → Type 0
Begins n x ts = (r : ℕ) → Puts (eight (thrice n r)) false (eight (thrice n r)) true x ts

-- ---- a choice

-- one level further out there is room for two more
more_room : (n : ℕ) (x : Text) (ts : List Term) → Begins n x ts → (r : ℕ) → Puts (suc (suc (eight (thrice n r)))) false (suc (suc (eight (thrice n r)))) true x ts
more_room n x ts h r = subst (λ m. Puts (eight m) false (eight m) true x ts) (thrice_suc n (suc r) ∙ ap (λ m. suc m) (thrice_suc n r)) (h (suc (suc r)))

one_more : (n : ℕ) (x : Text) (ts : List Term) → Begins n x ts → (r : ℕ) → Puts (suc (eight (thrice n r))) false (suc (eight (thrice n r))) true x ts
one_more n x ts h r = subst (λ m. Puts (eight m) false (eight m) true x ts) (thrice_suc n r) (h (suc r))

-- in brackets, and negated in brackets, one level further out
bracket_puts : (n : ℕ) (x : Text) (ts : List Term) → Begins n x ts → Follows (suc n) (codes "[" ++ (x ++ codes "]")) (terms.in_square ts)
unfolding axis_names function_names node_type_names operator_names chars
bracket_puts n x ts h r =
    let one : Piece (suc (suc (eight (thrice n r)))) false (suc (suc (eight (thrice n r)))) true = record { text = x; terms = ts; puts = more_room n x ts h r } in
    let all : Piece (suc (suc (suc (eight (thrice n r))))) true (suc (suc (suc (eight (thrice n r))))) true = fix (codes "[") (λ rest. refl) refl ⨾ one ⨾ fix (codes "]") (λ rest. refl) refl in
    said all (terms.in_square ts) refl

negated_puts : (n : ℕ) (x : Text) (ts : List Term) → Begins n x ts → Follows (suc n) (codes "[not(" ++ (x ++ codes ")]")) (terms.in_square (terms.call f.Not ts))
unfolding axis_names function_names node_type_names operator_names chars
negated_puts n x ts h r =
    let one : Piece (suc (eight (thrice n r))) false (suc (eight (thrice n r))) true = record { text = x; terms = ts; puts = one_more n x ts h r } in
    let all : Piece (suc (suc (suc (eight (thrice n r))))) true (suc (suc (suc (eight (thrice n r))))) true = fix (codes "[not(") (λ rest. refl) refl ⨾ one ⨾ fix (codes ")]") (λ rest. refl) refl in
    said all (terms.in_square (terms.call f.Not ts)) (simp append_assoc refl)

-- negated at the element itself, one level further out
not_itself_puts : (n : ℕ) (x : Text) (ts : List Term) → Begins n x ts
    → Follows (suc n) (codes "[not(self::*[" ++ ((x ++ codes "]") ++ codes ")]")) (terms.in_square (terms.call f.Not (terms.itself (terms.in_square ts))))
unfolding axis_names function_names node_type_names operator_names chars
not_itself_puts n x ts h r =
    let one : Piece (eight (thrice n r)) false (eight (thrice n r)) true = record { text = x; terms = ts; puts = h r } in
    let all : Piece (suc (suc (suc (eight (thrice n r))))) true (suc (suc (suc (eight (thrice n r))))) true = fix (codes "[not(self::*[") (λ rest. refl) refl ⨾ one ⨾ fix (codes "])]") (λ rest. refl) refl in
    let P : Text → Type 0 = λ v. Puts (suc (suc (suc (eight (thrice n r))))) true (suc (suc (suc (eight (thrice n r))))) true (codes "[not(self::*[" ++ v) (terms.in_square (terms.call f.Not (terms.itself (terms.in_square ts)))) in
    subst P (sym (append_assoc x (codes "]") (codes ")]"))) (said all (terms.in_square (terms.call f.Not (terms.itself (terms.in_square ts)))) (simp append_assoc refl))

-- an element and more at the element itself
self_follows : (d : Dialect) (n : ℕ) (el : Option (List ℕ)) (x : Text) (ts : List Term) → IsElementText el → Follows n x ts
    → Begins n (codes "self::" ++ (element_text d el ++ x)) (terms.on_axis axis.OwnSelf (terms.element d el ++ ts))
unfolding axis_names function_names node_type_names operator_names chars
self_follows d n el x ts h k r =
    let m = thrice n r in
    let name : Piece (eight m) false (eight m) true = record { text = element_text d el; terms = terms.element d el; puts = element_puts (suc (suc (suc (suc (suc (suc m)))))) d el h } in
    let more : Piece (eight m) true (eight m) true = record { text = x; terms = ts; puts = k r } in
    let all : Piece (eight m) false (eight m) true = fix (codes "self::") (λ rest. refl) refl ⨾ name ⨾ more in
    all.puts

or_puts : (n : ℕ) (x y : Text) (ts us : List Term) → Begins n x ts → Begins n y us → Begins n (x ++ (codes " or " ++ y)) (ts ++ (t.Or ∷ us))
unfolding axis_names function_names node_type_names operator_names chars
or_puts n x y ts us p q r =
    let m = thrice n r in
    let one : Piece (eight m) false (eight m) true = record { text = x; terms = ts; puts = p r } in
    let more : Piece (eight m) false (eight m) true = record { text = y; terms = us; puts = q r } in
    let all : Piece (eight m) false (eight m) true = one ⨾ fix (codes " or ") (λ rest. refl) refl ⨾ more in all.puts

choice_puts : {X : Type 0} (n : ℕ) (text : X → Text) (said_of : X → List Term) (cs : List X) → 0 < length cs → AllByRecursion (λ v. Begins n (text v) (said_of v)) cs
    → Begins n (s.choice (map text cs)) (terms.choice (map said_of cs))
choice_puts n text said_of [] some h = absurd (let no : ⊥ = omega arith in no)
choice_puts n text said_of (c ∷ []) some h = h.0
choice_puts n text said_of (c ∷ (b ∷ bs)) some h =
    or_puts n (text c) (s.choice (map text (b ∷ bs))) (said_of c) (terms.choice (map said_of (b ∷ bs))) h.0 (choice_puts n text said_of (b ∷ bs) (omega arith) h.1)

-- ---- all tests

-- the text puts the terms, plainly and in a negation
pub record Spells (n : ℕ) (x : Said) (u : terms.Said) : Type 0 where
  pub plainly : Follows n x.brackets u.brackets
  pub negated : Follows n (codes "[not(" ++ (x.inside ++ codes ")]")) (terms.in_square (terms.call f.Not u.inside))

of_itself : (n : ℕ) (x : Text) (ts : List Term) → ((r : ℕ) → Puts (six r) true (six r) true x ts) → Spells n (s.by_itself x) (terms.by_itself ts)
of_itself n x ts h = record { plainly = λ r. h (suc (suc (thrice n r))); negated = λ r. not_puts x ts (thrice n r) (h (thrice n r)) }

of_name : (d : Dialect) (n : ℕ) (el : Option (List ℕ)) → IsElementText el → Spells n (s.alone (codes "self::" ++ element_text d el)) (terms.alone (terms.on_axis axis.OwnSelf (terms.element d el)))
of_name d n el h = record {
  plainly = λ r. self_puts (element_text d el) (terms.element d el) (λ r'. element_puts r' d el h) (suc (suc (thrice n r)));
  negated = λ r. not_self_puts (element_text d el) (terms.element d el) (λ r'. element_puts r' d el h) (thrice n r);
}

of_choice : (n : ℕ) (x : Text) (ts : List Term) → Begins n x ts → Spells (suc n) (s.alone x) (terms.alone ts)
of_choice n x ts h = record { plainly = bracket_puts n x ts h; negated = negated_puts n x ts h }

-- some paths in brackets
of_paths : (n : ℕ) (x : Text) (ts : List Term) → Begins n x ts → Spells (suc n) (s.by_itself (codes "[" ++ (x ++ codes "]"))) (terms.by_itself (terms.in_square ts))
of_paths n x ts h = record { plainly = bracket_puts n x ts h; negated = not_itself_puts n x ts h }

pub all_true : {X : Type 0} (p : X → Bool) (xs : List X) → list_all p xs ≡ true → AllByRecursion (λ v. p v ≡ true) xs
all_true p [] h = tt
all_true p (v ∷ vs) h = let both : (p v ≡ true) × (list_all p vs ≡ true) = and_parts (p v) (list_all p vs) h in (both.0, all_true p vs both.1)

innermost_text : (around el : Option (List ℕ)) → IsElementText around → IsElementText el → IsElementText (innermost around el)
innermost_text around None h g = h
innermost_text around (Some n) h g = g

module _ (d : Dialect) where
  abbrev pub SimpleSpells : ℕ → Option (List ℕ) → Simple → Type 0
  SimpleSpells n around x = Follows n (simple_text d x around) (simple_terms d x around)

  pub simples_spell : (n : ℕ) (around : Option (List ℕ)) (ss : List Simple) → AllByRecursion (SimpleSpells n around) ss
      → Follows n (flat_map (λ x. simple_text d x around) ss) (flat_map (λ x. simple_terms d x around) ss)
  simples_spell n around [] h r = nothing_puts (eight (thrice n r)) true
  simples_spell n around (x ∷ ss) h r =
      then_puts (eight (thrice n r)) true (eight (thrice n r)) true (eight (thrice n r)) true (simple_text d x around) (flat_map (λ v. simple_text d v around) ss)
      (simple_terms d x around) (flat_map (λ v. simple_terms d v around) ss) (h.0 r) (simples_spell n around ss h.1 r)

  -- the simples of a compound or a part
  all_of : (Fits : Simple → Type 0) (n : ℕ) (around : Option (List ℕ)) → ((x : Simple) → simple_texts x ≡ true → Fits x → SimpleSpells n around x)
      → (ss : List Simple) → AllByRecursion (λ v. simple_texts v ≡ true) ss → AllByRecursion Fits ss → AllByRecursion (SimpleSpells n around) ss
  all_of Fits n around ih [] g k = tt
  all_of Fits n around ih (x ∷ ss) g k = (ih x g.0 k.0, all_of Fits n around ih ss g.1 k.1)

  compound_begins : (n : ℕ) (around : Option (List ℕ)) (c : Compound) → IsElementText (out-Compound c).element → AllByRecursion (SimpleSpells n (innermost around (out-Compound c).element)) (out-Compound c).simples
      → Begins n (compound_text d c around) (compound_terms d c around)
  compound_begins n around c g h =
      let inner : Option (List ℕ) = innermost around (out-Compound c).element in
      let x : Text = flat_map (λ v. simple_text d v inner) (out-Compound c).simples in
      let ts : List Term = flat_map (λ v. simple_terms d v inner) (out-Compound c).simples in
      subst (λ y. Begins n y (compound_terms d c around)) (sym (text_at_compound d c around))
      (subst (λ us. Begins n (codes "self::" ++ (element_text d (out-Compound c).element ++ x)) us) (sym (terms_at_compound d c around))
      (self_follows d n (out-Compound c).element x ts g (simples_spell n inner (out-Compound c).simples h)))

  compounds_begin : (Fits : Bool → Option (List ℕ) → Simple → Type 0) (inside : Bool) (n : ℕ) (around : Option (List ℕ)) → IsElementText around
      → ((a : Option (List ℕ)) (x : Simple) → IsElementText a → simple_texts x ≡ true → Fits inside a x → SimpleSpells n a x)
      → (list : List Compound) → AllByRecursion (λ c. compound_texts c ≡ true) list → AllByRecursion (λ c. All (Fits inside (innermost around (out-Compound c).element)) (out-Compound c).simples) list
      → AllByRecursion (λ c. Begins n (compound_text d c around) (compound_terms d c around)) list
  compounds_begin Fits inside n around a ih [] g h = tt
  compounds_begin Fits inside n around a ih (c ∷ cs) g h =
      let inner : Option (List ℕ) = innermost around (out-Compound c).element in
      let both : (IsElementText (out-Compound c).element) × (list_all simple_texts (out-Compound c).simples ≡ true) = and_parts _ _ (sym (texts_at.at_compound c) ∙ g.0) in (
        compound_begins n around c both.0 (all_of (Fits inside inner) n inner (λ x k fits. ih inner x (innermost_text around (out-Compound c).element a both.0) k fits) (out-Compound c).simples
            (all_true simple_texts (out-Compound c).simples both.1) (recursion_from_All (Fits inside inner) (out-Compound c).simples h.0)),
        compounds_begin Fits inside n around a ih cs g.1 h.1,
      )

  -- ---- a relative

  -- a part where no other step stands before it, as the first of a selector, and behind another part
  pub record PartSpells (n : ℕ) (p : Part) : Type 0 where
    pub first : Begins n (part_steps d p).first (terms.part_steps d p).first
    pub leading : (out-Part p).link ≡ link.First → Begins n (part_text d p) (terms.part_terms d p)
    pub further : (out-Part p).link ≢ link.First → Follows n (part_text d p) (t.Slash ∷ terms.part_terms d p)

  same_begins : (n : ℕ) {x y : Text} {ts us : List Term} → x ≡ y → ts ≡ us → Begins n y us → Begins n x ts
  same_begins n {x} {y} {ts} {us} e k h = subst (λ v. Begins n v ts) (sym e) (subst (λ v. Begins n y v) (sym k) h)

  same_follows : (n : ℕ) {x y : Text} {ts us : List Term} → x ≡ y → ts ≡ us → Follows n y us → Follows n x ts
  same_follows n {x} {y} {ts} {us} e k h = subst (λ v. Follows n v ts) (sym e) (subst (λ v. Follows n y v) (sym k) h)

  -- a part whose simples fit, where Fits is asked of each with the part's element around it
  fitting_spells : (n : ℕ) (Fits : Option (List ℕ) → Simple → Type 0) → ((a : Option (List ℕ)) (x : Simple) → IsElementText a → simple_texts x ≡ true → Fits a x → SimpleSpells n a x)
      → (p : Part) → part_texts p ≡ true → All (Fits (out-Part p).element) (out-Part p).simples → PartSpells n p
  fitting_spells n Fits ih p g fits =
      let l : Link = (out-Part p).link in
      let el : Option (List ℕ) = (out-Part p).element in
      let both : (IsElementText el) × (list_all simple_texts (out-Part p).simples ≡ true) = and_parts _ _ (sym (texts_at.at_part p) ∙ g) in
      let x : Text = flat_map (λ v. simple_text d v el) (out-Part p).simples in
      let ts : List Term = flat_map (λ v. simple_terms d v el) (out-Part p).simples in
      let more : Follows n x ts = simples_spell n el (out-Part p).simples (all_of (Fits el) n el (λ v k f. ih el v both.0 k f) (out-Part p).simples
      (all_true simple_texts (out-Part p).simples both.1) (recursion_from_All (Fits el) (out-Part p).simples fits)) in
      let behind : (a : Bool) (y : Text) (us : List Term) (r : ℕ) → Puts (eight (thrice n r)) a (eight (thrice n r)) true y us → Puts (eight (thrice n r)) a (eight (thrice n r)) true (y ++ x) (us ++ ts) =
      λ a y us r h. then_puts (eight (thrice n r)) a (eight (thrice n r)) true (eight (thrice n r)) true y x us ts h (more r) in
      let P : ℕ → Link → Type 0 = λ r v. Puts (eight (thrice n r)) false (eight (thrice n r)) true (step_text d v el) (terms.link_step_terms d v el) in
      record {
        first = same_begins n (text_at_first d p) (terms_at_first d p) (λ r. behind false (first_text d l el) (terms.first_terms d l el) r (first_puts d l el both.0 (thrice n r)));
        leading = λ e. same_begins n (text_at_part d p) (terms_at_part d p)
            (λ r. behind false (step_text d l el) (terms.link_step_terms d l el) r (subst (P r) (sym e) (first_puts d link.First el both.0 (thrice n r))));
        further = λ k. same_follows n (text_at_part d p) (ap (λ v. t.Slash ∷ v) (terms_at_part d p))
            (λ r. behind true (step_text d l el) (t.Slash ∷ terms.link_step_terms d l el) r (further_puts d l el k both.0 (thrice n r)));
      }

  pub parts_follow : (n : ℕ) (ps : List Part) → AllByRecursion (λ p. (out-Part p).link ≢ link.First) ps → AllByRecursion (PartSpells n) ps → Follows n (parts_text d ps) (terms.further_terms d ps)
  parts_follow n [] k h r = nothing_puts (eight (thrice n r)) true
  parts_follow n (p ∷ ps) k h r =
      then_puts (eight (thrice n r)) true (eight (thrice n r)) true (eight (thrice n r)) true (part_text d p) (parts_text d ps) (t.Slash ∷ terms.part_terms d p) (terms.further_terms d ps)
      (h.0.further k.0 r) (parts_follow n ps k.1 h.1 r)

  path_begins : (n : ℕ) (ps : List Part) → 0 < length ps → AllByRecursion (λ p. (out-Part p).link ≢ link.First) ps → AllByRecursion (PartSpells n) ps
      → Begins n (s.path_text (map (part_steps d) ps)) (terms.path_terms (map (terms.part_steps d) ps))
  path_begins n [] some k h = absurd (let no : ⊥ = omega arith in no)
  path_begins n (p ∷ ps) some k h =
      same_begins n (ap (λ v. (part_steps d p).first ++ v) (flat_map-map (λ (y : Steps). y.further) (part_steps d) ps))
      (ap (λ v. (terms.part_steps d p).first ++ v) (flat_map-map (λ (y : terms.Steps). t.Slash ∷ y.further) (terms.part_steps d) ps))
      (λ r. then_puts (eight (thrice n r)) false (eight (thrice n r)) true (eight (thrice n r)) true (part_steps d p).first (parts_text d ps) (terms.part_steps d p).first (terms.further_terms d ps)
      (h.0.first r) (parts_follow n ps k.1 h.1 r))

  relatives_begin : (Fits : Option (List ℕ) → Simple → Type 0) (n : ℕ) → ((a : Option (List ℕ)) (x : Simple) → IsElementText a → simple_texts x ≡ true → Fits a x → SimpleSpells n a x)
      → (list : List Relative) → AllByRecursion (λ v. relative_texts v ≡ true) list → AllByRecursion (FitsRelative Fits) list
      → AllByRecursion (λ v. Begins n (relative_text d v) (relative_terms d v)) list
  relatives_begin Fits n ih [] g h = tt
  relatives_begin Fits n ih (v ∷ vs) g h =
      let fits : AllByRecursion (FitsPart Fits) (out-Relative v).parts = recursion_from_All (FitsPart Fits) (out-Relative v).parts h.0.1 in (
        same_begins n (text_at_relative d v) (terms_at_relative d v) (path_begins n (out-Relative v).parts h.0.0 (all_linked (out-Relative v).parts fits)
            (all_spell (out-Relative v).parts (all_true part_texts (out-Relative v).parts (sym (texts_at.at_relative v) ∙ g.0)) fits)),
        relatives_begin Fits n ih vs g.1 h.1,
      )
    where
      all_linked : (ps : List Part) → AllByRecursion (FitsPart Fits) ps → AllByRecursion (λ p. (out-Part p).link ≢ link.First) ps
      all_linked [] k = tt
      all_linked (p ∷ ps) k = (k.0.0, all_linked ps k.1)

      all_spell : (ps : List Part) → AllByRecursion (λ p. part_texts p ≡ true) ps → AllByRecursion (FitsPart Fits) ps → AllByRecursion (PartSpells n) ps
      all_spell [] t k = tt
      all_spell (p ∷ ps) t k = (fitting_spells n Fits ih p t.0 k.0.1, all_spell ps t.1 k.1)

  -- ---- each test

  abbrev TestSpells : ℕ → Option (List ℕ) → Test → Type 0
  TestSpells n around u = Spells n (test_said d u around) (test_terms d u around)

  made : (n : ℕ) (around : Option (List ℕ)) (l : Layer) → Spells n (text_layer d l around) (terms_layer d l around) → TestSpells n around (roll-Test l)
  made n around l h =
      subst (λ v. Spells n v (test_terms d (roll-Test l) around)) (sym (ap (λ g. g around) (text_at d l)))
      (subst (λ v. Spells n (text_layer d l around) v) (sym (ap (λ g. g around) (terms_at d l))) h)

  -- room is there for one more choice exactly where m levels are left inside it
  layer_spells : (Fits : Bool → Option (List ℕ) → Simple → Type 0) (m n : ℕ) → ((inside : Bool) (a : Option (List ℕ)) (x : Simple) → IsElementText a → simple_texts x ≡ true → Fits inside a x → SimpleSpells m a x)
      → (room inside negated : Bool) → (room ≡ true → suc m ≡ n) → (around : Option (List ℕ)) → IsElementText around → (l : Layer) → test_texts (roll-Test l) ≡ true → FitsTest Fits room inside around negated l → TestSpells n around (roll-Test l)
  layer_spells Fits m n ih room inside negated levels around a (open_.Element el) g fits = made n around (open_.Element el) (of_name d n el (sym (texts_at.at_layer (open_.Element el)) ∙ g))
  layer_spells Fits m n ih room inside negated levels around a (open_.Id v) g fits =
      made n around (open_.Id v) (of_itself n _ _ (λ r. id_puts (literal_text (encode_utf8_all v)) (terms.literal v) (λ r'. literal_puts r' v (sym (texts_at.at_layer (open_.Id v)) ∙ g)) r))
  layer_spells Fits m n ih room inside negated levels around a (open_.Class v) g fits =
      made n around (open_.Class v) (of_itself n _ _ (λ r. op_puts (attribute_text d (codes "class")) (terms.attribute d (codes "class")) (λ r'. attribute_puts r' d (codes "class") refl) v (sym (texts_at.at_layer (open_.Class v)) ∙ g) op.Word r))
  layer_spells Fits m n ih room inside negated levels around a (open_.Attr name o v) g fits =
      let both = and_parts _ _ (sym (texts_at.at_layer (open_.Attr name o v)) ∙ g) in
      made n around (open_.Attr name o v) (of_itself n _ _ (λ r. op_puts (attribute_text d name) (terms.attribute d name) (λ r'. attribute_puts r' d name both.0) v both.1 o r))
  layer_spells Fits m n ih room inside negated levels around a (open_.Nth kind x y) g fits =
      made n around (open_.Nth kind x y) (of_itself n _ _ (λ r. nth_puts d around kind x y a fits.0 fits.1 r))
  layer_spells Fits m n ih room inside negated levels around a (open_.Pseudo p) g fits = made n around (open_.Pseudo p) (of_itself n _ _ (λ r. pseudo_puts d around p a r))
  layer_spells Fits m n ih room inside negated levels around a (open_.Contains v) g fits =
      made n around (open_.Contains v) (of_itself n _ _ (λ r. contains_puts (literal_text (encode_utf8_all v)) (terms.literal v) (λ r'. literal_puts r' v (sym (texts_at.at_layer (open_.Contains v)) ∙ g)) r))
  layer_spells Fits m n ih room inside negated levels around a (open_.Lang v) g fits =
      made n around (open_.Lang v) (of_itself n _ _ (λ r. lang_puts d v (sym (texts_at.at_layer (open_.Lang v)) ∙ g) r))
  layer_spells Fits m n ih room inside negated levels around a (open_.Any w list) g fits =
      let texts : AllByRecursion (λ c. compound_texts c ≡ true) list = all_true compound_texts list (sym (list_all-map (λ b. b) compound_texts list) ∙ sym (texts_at.at_layer (open_.Any w list)) ∙ g) in
      let x : Text = s.choice (map (λ c. compound_text d c around) list) in
      let ts : List Term = terms.choice (map (λ c. compound_terms d c around) list) in
      let all : Begins m x ts = choice_puts m (λ c. compound_text d c around) (λ c. compound_terms d c around) list fits.1
      (compounds_begin Fits inside m around a (λ b v k h fit. ih inside b v k h fit) list texts (recursion_from_All (λ v. All (Fits inside (innermost around (out-Compound v).element)) (out-Compound v).simples) list fits.2)) in
      made n around (open_.Any w list)
      (subst (λ k. Spells k (text_layer d (open_.Any w list) around) (terms_layer d (open_.Any w list) around)) (levels fits.0)
      (subst (λ v. Spells (suc m) v (terms_layer d (open_.Any w list) around)) (sym (text_at_any d w list around))
      (subst (λ v. Spells (suc m) (s.alone x) v) (sym (terms_at_any d w list around)) (of_choice m x ts all))))
  layer_spells Fits m n ih room inside negated levels around a (open_.Has list) g fits =
      let texts : AllByRecursion (λ v. relative_texts v ≡ true) list = all_true relative_texts list (sym (list_all-map (λ b. b) relative_texts list) ∙ sym (texts_at.at_layer (open_.Has list)) ∙ g) in
      let x : Text = s.choice (map (relative_text d) list) in
      let ts : List Term = terms.choice (map (relative_terms d) list) in
      let all : Begins m x ts = choice_puts m (relative_text d) (relative_terms d) list fits.2
      (relatives_begin (Fits true) m (λ b v k h fit. ih true b v k h fit) list texts (recursion_from_All (FitsRelative (Fits true)) list fits.3)) in
      made n around (open_.Has list) (subst (λ k. Spells k (text_layer d (open_.Has list) around) (terms_layer d (open_.Has list) around)) (levels fits.0) (of_paths m x ts all))

  by_layer : (Fits : Bool → Option (List ℕ) → Simple → Type 0) (m n : ℕ) → ((inside : Bool) (a : Option (List ℕ)) (x : Simple) → IsElementText a → simple_texts x ≡ true → Fits inside a x → SimpleSpells m a x)
      → (room inside : Bool) → (room ≡ true → suc m ≡ n) → (around : Option (List ℕ)) (x : Simple) → IsElementText around → simple_texts x ≡ true → FitsTest Fits room inside around x.negated (out-Test x.test) → SimpleSpells n around x
  by_layer Fits m n ih room inside levels around x a g fits =
      let texts : test_texts (roll-Test (out-Test x.test)) ≡ true = ap test_texts (views.roll-out-Test x.test) ∙ sym (texts_at.at_simple x) ∙ g in
      let h : TestSpells n around x.test = subst (TestSpells n around) (views.roll-out-Test x.test) (layer_spells Fits m n ih room inside x.negated levels around a (out-Test x.test) texts fits) in
      let plain : Text = (test_said d x.test around).brackets in
      let turned : Text = codes "[not(" ++ ((test_said d x.test around).inside ++ codes ")]") in
      subst (λ v. Follows n v (simple_terms d x around)) (sym (text_at_simple d x around))
      (subst (λ us. Follows n (cond x.negated turned plain) us) (sym (terms_at_simple d x around))
      (λ r. choose_puts (eight (thrice n r)) true (eight (thrice n r)) true x.negated turned plain (terms.in_square (terms.call f.Not (test_terms d x.test around).inside)) (test_terms d x.test around).brackets
      (λ e. h.negated r) (λ e. h.plainly r)))

  pub simple_spells : (n : ℕ) (inside : Bool) (around : Option (List ℕ)) (x : Simple) → IsElementText around → simple_texts x ≡ true → FitsSimple n inside around x → SimpleSpells n around x
  unfolding FitsSimple
  simple_spells zero inside around x a g fits = by_layer Nowhere zero zero (λ i b y k h none. absurd none) false inside (λ e. cc) around x a g fits
  simple_spells (suc n) inside around x a g fits = by_layer (FitsSimple n) n (suc n) (λ i b y k h fit. simple_spells n i b y k h fit) true inside (λ e. refl) around x a g fits

  pub part_spells : (p : Part) → part_texts p ≡ true → IsPart p → PartSpells 8 p
  part_spells p g h = fitting_spells 8 (FitsSimple 8 false) (λ b x a k fits. simple_spells 8 false b x a k fits) p g h
