-- Forms, inners and members whose names and values are texts are simple selectors, compounds and relatives of texts.
use Rattle.std.proofs.Common.{◌≡◌, ℕ, Bool, true, false, ◌&&◌, List, [], ◌∷◌, map, flat_map, fold, refl, sym, ◌∙◌, ap, subst}
use Rattle.std.proofs.lemmas.Bool.{and_from}
use Rattle.std.proofs.lemmas.List.Folds.{list_all-append}
use Rattle.std.specs.List.{AllByRecursion, list_all}
use Rattle.std.specs.Prelude.{Option, Some, None}
use Rattle.css_selectors.specs.declared.selector.Compound as choice
use Rattle.css_selectors.specs.declared.selector.Part.{Part}
use Rattle.css_selectors.specs.declared.selector.Relative.{Relative}
use Rattle.css_selectors.specs.declared.selector.Simple.{Simple}
use Rattle.css_selectors.specs.declared.selector.Tail.{Tail}
use Rattle.css_selectors.specs.declared.selector.Test.{Test}
use Rattle.css_selectors.specs.declared.selector.Test.TheOpen as test_open
use Rattle.css_selectors.specs.declared.selector.Weight.{Weight}
use Rattle.css_selectors.specs.declared.selector.Weight.TheVariants as weight
use Rattle.css_selectors.specs.Texts.{element_text, test_texts, compound_texts, part_texts, relative_texts, simple_texts, tail_text}
use Rattle.css_selectors.proofs.TextsAt.{at_element, at_any, at_has, at_compound, at_part, at_relative, at_simple}
use Rattle.css_parser.specs.declared.pieces.Piece.{Piece}
use Rattle.css_parser.specs.declared.pieces.Piece.TheVariants as piece
use Rattle.css_parser.specs.declared.pieces.Word.{Word}
use Rattle.css_parser.specs.declared.pieces.Word.TheVariants as word
use Rattle.css_parser.specs.declared.pieces.Form.{Form}
use Rattle.css_parser.specs.declared.pieces.Form.TheVariants as form
use Rattle.css_parser.specs.declared.pieces.Inner.{Inner, out-Inner}
use Rattle.css_parser.specs.declared.pieces.Member.{Member, out-Member}
use Rattle.css_parser.specs.Lists.{piece_tail, tail_by}
use Rattle.css_parser.specs.Values.{FormValue, test_of, simple_of, piece_value, alone_in, alone_of, only_of, any, has, negation, choice_value, form_value, inner_value, member_value, form_simples, compound_of, part_of, relative_of, compounds_in}
use Rattle.css_parser.proofs.CopyLemmas.{one_tail, choice_tail, deep_tail}
use Rattle.css_parser.proofs.MemberFits.{relative_out}
use Rattle.css_parser.proofs.TextPieces.{IsTextPiece}
use Rattle.css_parser.proofs.ValueFits.{part_out, compound_out}
use Rattle.css_parser.proofs.ValueLemmas.{one_value, choice_simples, choice_alone, deep_simples, deep_alone, alone_is, member_is, compounds_in_is, any_is, has_is}

-- what is negated by itself
abbrev pub IsTextAlone : Option Test → Type 0
IsTextAlone None = Unit {0}
IsTextAlone (Some t) = test_texts t ≡ true

pub record IsTextForm (x : Form) : Type 0 where
  pub simples : list_all simple_texts (form_simples x) ≡ true
  pub alone : IsTextAlone (form_value x).alone
  pub tail : (old : Tail) → tail_text old ≡ true → tail_text (tail_by old x) ≡ true

pub record IsTextInner (x : Inner) : Type 0 where
  pub compound : compound_texts (compound_of x) ≡ true
  pub part : part_texts (part_of x) ≡ true
  pub alone : IsTextAlone (inner_value x).alone

abbrev pub IsTextMember : Member → Type 0
IsTextMember m = AllByRecursion IsTextInner (out-Member m).parts

-- pieces
simple_text : (negated : Bool) (t : Test) → test_texts t ≡ true → simple_texts (simple_of negated t) ≡ true
simple_text negated t h = at_simple (simple_of negated t) ∙ h

one_simple : (x : Simple) → simple_texts x ≡ true → list_all simple_texts (x ∷ []) ≡ true
one_simple x h = and_from _ _ h refl

piece_simples : (p : Piece) → IsTextPiece p → list_all simple_texts (piece_value p).simples ≡ true
piece_simples (piece.Plain x) h = one_simple (simple_of false (test_of x)) (simple_text false (test_of x) h)
piece_simples piece.Prefixed h = refl
piece_simples piece.Unknown h = refl
piece_simples (piece.Large position) h = refl
piece_simples (piece.Tail t) h = refl
piece_simples piece.Strange h = refl

piece_alone : (p : Piece) → IsTextPiece p → IsTextAlone (piece_value p).alone
piece_alone (piece.Plain x) h = h
piece_alone piece.Prefixed h = tt
piece_alone piece.Unknown h = tt
piece_alone (piece.Large position) h = tt
piece_alone (piece.Tail t) h = tt
piece_alone piece.Strange h = tt

piece_tail_text : (p : Piece) → IsTextPiece p → (old : Tail) → tail_text old ≡ true → tail_text (piece_tail old p) ≡ true
piece_tail_text (piece.Plain x) h old g = g
piece_tail_text piece.Prefixed h old g = g
piece_tail_text piece.Unknown h old g = g
piece_tail_text (piece.Large position) h old g = g
piece_tail_text (piece.Tail t) h old g = h
piece_tail_text piece.Strange h old g = g

pub one_text : (p : Piece) → IsTextPiece p → IsTextForm (form.One p)
one_text p h = record {
  simples = ap (λ (v : FormValue). list_all simple_texts v.simples) (one_value p) ∙ piece_simples p h;
  alone = subst (λ (v : FormValue). IsTextAlone v.alone) (sym (one_value p)) (piece_alone p h);
  tail = λ old g. ap tail_text (one_tail old p) ∙ piece_tail_text p h old g;
}

pub deep_text : IsTextForm form.Deep
deep_text = record {
  simples = ap (list_all simple_texts) deep_simples;
  alone = subst IsTextAlone (sym deep_alone) tt;
  tail = λ old g. ap tail_text (deep_tail old) ∙ g;
}

-- forms in a row
pub forms_simples : (xs : List Form) → AllByRecursion IsTextForm xs → list_all simple_texts (flat_map form_simples xs) ≡ true
forms_simples [] h = refl
forms_simples (x ∷ xs) h = list_all-append simple_texts (form_simples x) (flat_map form_simples xs) ∙ and_from _ _ h.0.simples (forms_simples xs h.1)

pub forms_tail : (xs : List Form) (old : Tail) → AllByRecursion IsTextForm xs → tail_text old ≡ true → tail_text (fold tail_by old xs) ≡ true
forms_tail [] old h g = g
forms_tail (x ∷ xs) old h g = forms_tail xs (tail_by old x) h.1 (h.0.tail old g)

alone_text : (named : Bool) (e : Option (List ℕ)) (xs : List Form) → element_text e ≡ true → AllByRecursion IsTextForm xs → IsTextAlone (alone_in named e (map form_value xs))
alone_text true e [] h g = at_element e ∙ h
alone_text true e (x ∷ xs) h g = tt
alone_text false e [] h g = tt
alone_text false e (x ∷ []) h g = g.0.alone
alone_text false e (x ∷ y ∷ xs) h g = tt

abbrev ChoiceLayer : Type 0
ChoiceLayer = test_open.Compound-F Test choice.Compound Part Relative Simple

abbrev PartLayer : Type 0
PartLayer = test_open.Part-F Test choice.Compound Part Relative Simple

abbrev RelativeLayer : Type 0
RelativeLayer = test_open.Relative-F Test choice.Compound Part Relative Simple

pub inner_text : (x : Inner) → element_text (out-Inner x).element ≡ true → AllByRecursion IsTextForm (out-Inner x).forms → IsTextInner x
inner_text x h g =
    let both = and_from _ _ h (forms_simples (out-Inner x).forms g) in
    record {
      compound = at_compound (compound_of x) ∙ ap (λ (d : ChoiceLayer). element_text d.element && list_all simple_texts d.simples) (compound_out x) ∙ both;
      part = at_part (part_of x) ∙ ap (λ (d : PartLayer). element_text d.element && list_all simple_texts d.simples) (part_out x) ∙ both;
      alone = subst IsTextAlone (sym (alone_is x)) (alone_text (out-Inner x).named (out-Inner x).element (out-Inner x).forms h g);
    }

-- members
inners_compounds : (xs : List Inner) → AllByRecursion IsTextInner xs → list_all compound_texts (map compound_of xs) ≡ true
inners_compounds [] h = refl
inners_compounds (x ∷ xs) h = and_from _ _ h.0.compound (inners_compounds xs h.1)

inners_parts : (xs : List Inner) → AllByRecursion IsTextInner xs → list_all part_texts (map part_of xs) ≡ true
inners_parts [] h = refl
inners_parts (x ∷ xs) h = and_from _ _ h.0.part (inners_parts xs h.1)

inners_alone : (xs : List Inner) → AllByRecursion IsTextInner xs → IsTextAlone (alone_of (map inner_value xs))
inners_alone [] h = tt
inners_alone (x ∷ []) h = h.0.alone
inners_alone (x ∷ y ∷ xs) h = tt

members_compounds : (xs : List Member) → AllByRecursion IsTextMember xs → list_all compound_texts (flat_map compounds_in xs) ≡ true
members_compounds [] h = refl
members_compounds (m ∷ xs) h =
    list_all-append compound_texts (compounds_in m) (flat_map compounds_in xs)
    ∙ and_from _ _ (ap (list_all compound_texts) (compounds_in_is m) ∙ inners_compounds (out-Member m).parts h.0) (members_compounds xs h.1)

members_relatives : (xs : List Member) → AllByRecursion IsTextMember xs → list_all relative_texts (map relative_of xs) ≡ true
members_relatives [] h = refl
members_relatives (m ∷ xs) h =
    and_from _ _
    (at_relative (relative_of m) ∙ ap (λ (d : RelativeLayer). list_all part_texts d.parts) (relative_out m) ∙ inners_parts (out-Member m).parts h.0)
    (members_relatives xs h.1)

members_alone : (xs : List Member) → AllByRecursion IsTextMember xs → IsTextAlone (only_of (map member_value xs))
members_alone [] h = tt
members_alone (m ∷ []) h = subst IsTextAlone (ap alone_of (sym (member_is m))) (inners_alone (out-Member m).parts h.0)
members_alone (m ∷ n ∷ xs) h = tt

-- choices
module _ (xs : List Member) (h : AllByRecursion IsTextMember xs) where
  any_text : (negated : Bool) (v : Weight) → simple_texts (simple_of negated (any v (map member_value xs))) ≡ true
  any_text negated v =
      simple_text negated (any v (map member_value xs)) (ap test_texts (any_is v xs) ∙ at_any v (flat_map compounds_in xs) ∙ members_compounds xs h)

  negation_text : (o : Option Test) → IsTextAlone o → simple_texts (negation o (map member_value xs)) ≡ true
  negation_text None g = any_text true weight.Most
  negation_text (Some t) g = simple_text true t g

  choice_text : (w : Word) → simple_texts (choice_value w (map member_value xs)) ≡ true
  choice_text word.Is = any_text false weight.Most
  choice_text word.Where = any_text false weight.Zero
  choice_text word.Not = negation_text (only_of (map member_value xs)) (members_alone xs h)
  choice_text word.Has = simple_text false (has (map member_value xs)) (ap test_texts (has_is xs) ∙ at_has (map relative_of xs) ∙ members_relatives xs h)

  pub choice_is_text : (w : Word) → IsTextForm (form.Choice w xs)
  choice_is_text w = record {
    simples = ap (list_all simple_texts) (choice_simples w xs) ∙ one_simple (choice_value w (map member_value xs)) (choice_text w);
    alone = subst IsTextAlone (sym (choice_alone w xs)) tt;
    tail = λ old g. ap tail_text (choice_tail old w xs) ∙ g;
  }
