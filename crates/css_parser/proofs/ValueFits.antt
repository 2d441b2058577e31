-- Forms and inners that are read with so many choices in each other and are not refused are well made with so many, and have no
-- more simple selectors than tokens.
use Rattle.std.proofs.Common.{◌≡◌, ℕ, zero, suc, ◌+◌, ◌<◌, ◌≤◌, Bool, true, false, ◌&&◌, List, [], ◌∷◌, length, map, flat_map, refl, sym, ◌∙◌, ap, subst, arith}
use Rattle.std.specs.Prelude.{Option, Some, None, All, sum_by, is_none}
use Rattle.std.proofs.lemmas.List.Elements.{All-nil, All-cons, All-append}
use Rattle.std.proofs.lemmas.List.Sums.{sum_by-cons, sum_by-append}
use Rattle.css_lexer.specs.declared.tokens.CssToken.{CssToken}
use Rattle.text_base.specs.declared.reasons.SelectorFault.{SelectorFault}
use Rattle.text_base.specs.declared.reasons.SelectorFault.TheVariants as fault
use Rattle.css_selectors.specs.declared.selector.Compound as choice
use Rattle.css_selectors.specs.declared.selector.Nth.{Nth}
use Rattle.css_selectors.specs.declared.selector.Nth.TheVariants as nth
use Rattle.css_selectors.specs.declared.selector.Part.{Part, out-Part}
use Rattle.css_selectors.specs.declared.selector.Pseudo.{Pseudo}
use Rattle.css_selectors.specs.declared.selector.Pseudo.TheVariants as pseudo
use Rattle.css_selectors.specs.declared.selector.Relative.{Relative}
use Rattle.css_selectors.specs.declared.selector.Simple.{Simple}
use Rattle.css_selectors.specs.declared.selector.Test.{Test, out-Test, roll-Test}
use Rattle.css_selectors.specs.declared.selector.Test.TheFolds.{map-Test, fold-roll-Test}
use Rattle.css_selectors.specs.declared.selector.Test.TheOpen as test_open
use Rattle.css_selectors.specs.declared.selector.Test.TheVariants as test
use Rattle.css_selectors.specs.declared.selector.Test.TheViews as test_views
use Rattle.css_selectors.specs.declared.selector.Weight.{Weight}
use Rattle.css_selectors.specs.Sizes as z
use Rattle.css_selectors.specs.Sizes.{test_size, compound_size, part_size, simple_size}
use Rattle.css_selectors.specs.WellMade.{FitsTest, FitsRelative, FitsKind, FitsPseudo, FitsSimple, Nowhere, innermost}
use Rattle.css_selectors.proofs.Equations.{size_of_compound, size_of_part, size_of_simple}
use Rattle.css_parser.specs.declared.pieces.Plain.{Plain}
use Rattle.css_parser.specs.declared.pieces.Plain.TheVariants as plain
use Rattle.css_parser.specs.declared.pieces.Piece.{Piece}
use Rattle.css_parser.specs.declared.pieces.Piece.TheVariants as piece
use Rattle.css_parser.specs.declared.pieces.Read.{Read}
use Rattle.css_parser.specs.declared.pieces.Form.{Form, out-Form, roll-Form}
use Rattle.css_parser.specs.declared.pieces.Form.TheOpen as open_
use Rattle.css_parser.specs.declared.pieces.Form.TheVariants as form
use Rattle.css_parser.specs.declared.pieces.Form.TheViews as views
use Rattle.css_parser.specs.declared.pieces.FormRead.{FormRead}
use Rattle.css_parser.specs.declared.pieces.Inner.{Inner, out-Inner}
use Rattle.css_parser.specs.declared.pieces.Member.{Member, out-Member}
use Rattle.css_parser.specs.Choices.{one_read, Reader, Forms, forms_by, forms_from}
use Rattle.css_parser.specs.inner.Reading.{IsBehind, EndsForm}
use Rattle.text_base.specs.Strings.{is_empty}
use Rattle.css_parser.specs.Refusals.{or_else, if_refused, is_of_type, needs_element, is_only_of_type, piece_refusal, form_refusal, inner_refusal, forms_refusal}
use Rattle.css_parser.specs.Values.{FormValue, test_of, simple_of, piece_value, alone_in, alone_of, form_value, inner_value, member_value, only_of, form_simples, compound_of, part_of}
use Rattle.css_parser.proofs.RefusalLemmas.{one_refusal, deep_refusal, inner_is}
use Rattle.css_parser.proofs.Fitting.{FitsPlain, FitsPiece, Good}
use Rattle.css_parser.proofs.ChoiceLemmas.{IsSound}
use Rattle.css_parser.proofs.ValueLemmas.{one_value, choice_alone, deep_simples, deep_alone, compound_is, part_is, alone_is, member_is}

-- nothing is refused of either
pub record Neither (o p : Option SelectorFault) : Type 0 where
  pub first : o ≡ None
  pub other : p ≡ None

pub neither : (o p : Option SelectorFault) → or_else o p ≡ None → Neither o p
neither None p h = record { first = refl; other = h }
neither (Some f) p h = cc

not_refused : (b : Bool) (f : SelectorFault) → if_refused b f ≡ None → b ≡ false
not_refused true f h = cc
not_refused false f h = refl

-- the name of the innermost compound around that has one
abbrev pub Around : Type 0
Around = Option (List ℕ)

-- a simple selector with n choices in it at most, inside a `has` or not
abbrev pub Fit : ℕ → Bool → Around → Simple → Type 0
Fit n inside around x = FitsSimple n inside around x

-- tests
kind_fits : (e : Around) (position : Nth) → (is_of_type position && is_none e) ≡ false → FitsKind e position
kind_fits e nth.Child h = tt
kind_fits e nth.LastChild h = tt
kind_fits None nth.OfType h = cc
kind_fits (Some n) nth.OfType h = refl
kind_fits None nth.LastOfType h = cc
kind_fits (Some n) nth.LastOfType h = refl

pseudo_fits : (e : Around) (p : Pseudo) → (is_only_of_type p && is_none e) ≡ false → FitsPseudo e p
pseudo_fits None pseudo.OnlyOfType h = cc
pseudo_fits (Some n) pseudo.OnlyOfType h = refl
pseudo_fits e _ h = tt

abbrev Layer : Type 0
Layer = test_open.Test-F Test choice.Compound Part Relative Simple

layer_of : Plain → Layer
layer_of (plain.Id x) = test_open.Id x
layer_of (plain.Class x) = test_open.Class x
layer_of (plain.Attr name o v) = test_open.Attr name o v
layer_of (plain.Nth position a b) = test_open.Nth position a b
layer_of (plain.Pseudo p) = test_open.Pseudo p
layer_of (plain.Contains x) = test_open.Contains x
layer_of (plain.Lang x) = test_open.Lang x

roll_plain : (x : Plain) → roll-Test (layer_of x) ≡ test_of x
unfolding layer_of
roll_plain (plain.Id x) = test.rolls-Id x
roll_plain (plain.Class x) = test.rolls-Class x
roll_plain (plain.Attr name o v) = test.rolls-Attr name o v
roll_plain (plain.Nth position a b) = test.rolls-Nth position a b
roll_plain (plain.Pseudo p) = test.rolls-Pseudo p
roll_plain (plain.Contains x) = test.rolls-Contains x
roll_plain (plain.Lang x) = test.rolls-Lang x

out_plain : (x : Plain) → out-Test (test_of x) ≡ layer_of x
out_plain x = ap out-Test (sym (roll_plain x)) ∙ test_views.out-roll-Test (layer_of x)

layer_fits : (F : Bool → Around → Simple → Type 0) (room inside : Bool) (around : Around) (negated : Bool) (x : Plain) → FitsPlain x → (needs_element x && is_none around) ≡ false → FitsTest F room inside around negated (layer_of x)
unfolding layer_of
layer_fits F room inside around negated (plain.Id x) f h = tt
layer_fits F room inside around negated (plain.Class x) f h = tt
layer_fits F room inside around negated (plain.Attr name o v) f h = f
layer_fits F room inside around negated (plain.Nth position a b) f h = (f.0, f.1, kind_fits around position h)
layer_fits F room inside around negated (plain.Pseudo p) f h = pseudo_fits around p h
layer_fits F room inside around negated (plain.Contains x) f h = tt
layer_fits F room inside around negated (plain.Lang x) f h = tt

-- where a simple selector's test fits, the simple selector does
of_layer : (n : ℕ) (inside : Bool) (around : Around) (negated : Bool) (t : Test) (d : Layer) → out-Test t ≡ d
    → ((F : Bool → Around → Simple → Type 0) (room : Bool) → FitsTest F room inside around negated d) → Fit n inside around (simple_of negated t)
unfolding FitsSimple
of_layer zero inside around negated t d e h = subst (FitsTest Nowhere false inside around negated) (sym e) (h Nowhere false)
of_layer (suc n) inside around negated t d e h = subst (FitsTest (FitsSimple n) true inside around negated) (sym e) (h (FitsSimple n) true)

plain_fits : (n : ℕ) (inside : Bool) (around : Around) (negated : Bool) (x : Plain) → FitsPlain x → (needs_element x && is_none around) ≡ false → Fit n inside around (simple_of negated (test_of x))
plain_fits n inside around negated x f h = of_layer n inside around negated (test_of x) (layer_of x) (out_plain x) (λ F room. layer_fits F room inside around negated x f h)

element_fits : (n : ℕ) (inside : Bool) (around e : Around) → Fit n inside around (simple_of true (test.Element e))
element_fits n inside around e =
    of_layer n inside around true (test.Element e) (test_open.Element e) (ap out-Test (sym (test.rolls-Element e)) ∙ test_views.out-roll-Test (test_open.Element e)) (λ F room. refl)

-- a compound that stands in a choice
abbrev pub IsFit : ℕ → Bool → Around → choice.Compound → Type 0
IsFit n inside around c = All (Fit n inside (innermost around (choice.out-Compound c).element)) (choice.out-Compound c).simples

pub any_fits : (n : ℕ) (inside : Bool) (around : Around) (negated : Bool) (w : Weight) (list : List choice.Compound) → 0 < length list → All (IsFit n inside around) list → Fit (suc n) inside around (simple_of negated (test.Any w list))
unfolding FitsSimple
any_fits n inside around negated w list some h =
    subst (FitsTest (FitsSimple n) true inside around negated) (sym (ap out-Test (sym (test.rolls-Any w list)) ∙ test_views.out-roll-Test (test_open.Any w list))) (refl, some, h)

-- a relative
abbrev pub IsRelative : ℕ → Bool → Relative → Type 0
IsRelative n inside r = FitsRelative (Fit n inside) r

pub has_fits : (n : ℕ) (around : Around) (negated : Bool) (list : List Relative) → 0 < length list → All (IsRelative n true) list → Fit (suc n) false around (simple_of negated (test.Has list))
unfolding FitsSimple
has_fits n around negated list some h =
    subst (FitsTest (FitsSimple n) true false around negated) (sym (ap out-Test (sym (test.rolls-Has list)) ∙ test_views.out-roll-Test (test_open.Has list))) (refl, refl, some, h)

-- sizes
size_roll : (d : Layer) → test_size (roll-Test d) ≡ z.test_size_step (map-Test Test choice.Compound Part Relative Simple ℕ ℕ ℕ ℕ ℕ test_size compound_size part_size z.relative_size simple_size d)
unfolding test_size compound_size part_size z.relative_size simple_size
size_roll d = fold-roll-Test ℕ ℕ ℕ ℕ ℕ z.test_size_step z.compound_size_step z.part_size_step z.relative_size_step z.simple_size_step d

layer_size : (x : Plain) → z.test_size_step (map-Test Test choice.Compound Part Relative Simple ℕ ℕ ℕ ℕ ℕ test_size compound_size part_size z.relative_size simple_size (layer_of x)) ≡ 0
unfolding layer_of
layer_size (plain.Id x) = refl
layer_size (plain.Class x) = refl
layer_size (plain.Attr name o v) = refl
layer_size (plain.Nth position a b) = refl
layer_size (plain.Pseudo p) = refl
layer_size (plain.Contains x) = refl
layer_size (plain.Lang x) = refl

pub of_size : (negated : Bool) (t : Test) (n : ℕ) → test_size t ≡ n → simple_size (simple_of negated t) ≡ 1 + n
of_size negated t n e = size_of_simple (simple_of negated t) ∙ ap (λ m. 1 + m) e

plain_size : (negated : Bool) (x : Plain) → simple_size (simple_of negated (test_of x)) ≡ 1
plain_size negated x = of_size negated (test_of x) 0 (ap test_size (sym (roll_plain x)) ∙ size_roll (layer_of x) ∙ layer_size x)

element_size : (e : Around) → simple_size (simple_of true (test.Element e)) ≡ 1
element_size e = of_size true (test.Element e) 0 (ap test_size (sym (test.rolls-Element e)) ∙ size_roll (test_open.Element e))

-- what may be negated by itself
abbrev pub Lone : Around → Test → Type 0
Lone around t = (m : ℕ) (inside : Bool) → Fit m inside around (simple_of true t)

-- what a form is that is read from i up to j, inside a `has` or not, where it has n choices in it at most
pub record Gives (n : ℕ) (inside : Bool) (i : ℕ) (x : Form) (j : ℕ) : Type 0 where
  pub fits : (around : Around) (last : Bool) → form_refusal (is_none around) last x ≡ None → All (Fit n inside around) (form_simples x)
  pub alone : (t : Test) → (form_value x).alone ≡ Some t → (around : Around) (last : Bool) → form_refusal (is_none around) last x ≡ None → Lone around t
  pub size : sum_by simple_size (form_simples x) + i ≤ j

abbrev pub GivesRead : ℕ → Bool → ℕ → Option FormRead → Type 0
GivesRead n inside i None = Unit {0}
GivesRead n inside i (Some r) = Gives n inside i r.form r.end

-- the same of all forms of a compound
pub record GivesForms (n : ℕ) (inside : Bool) (i : ℕ) (xs : List Form) (j : ℕ) : Type 0 where
  pub fits : (around : Around) (last : Bool) → forms_refusal (is_none around) last xs ≡ None → All (Fit n inside around) (flat_map form_simples xs)
  pub alone : (e : Around) (t : Test) → alone_in false e (map form_value xs) ≡ Some t → (around : Around) (last : Bool) → forms_refusal (is_none around) last xs ≡ None → Lone around t
  pub size : sum_by simple_size (flat_map form_simples xs) + i ≤ j

-- and of a compound of a choice, which is a part as well
pub record GivesInner (n : ℕ) (inside : Bool) (i : ℕ) (x : Inner) (j : ℕ) : Type 0 where
  pub fits : (around : Around) → inner_refusal (is_none around) x ≡ None → IsFit n inside around (compound_of x)
  pub part : inner_refusal true x ≡ None → All (Fit n inside (out-Part (part_of x)).element) (out-Part (part_of x)).simples
  pub alone : (t : Test) → (inner_value x).alone ≡ Some t → (around : Around) → inner_refusal (is_none around) x ≡ None → Lone around t
  pub size : part_size (part_of x) + i ≤ j + 1
  pub within : i ≤ j

-- pieces
module _ (n : ℕ) (inside : Bool) (around : Around) (last : Bool) where
  piece_fits : (p : Piece) → FitsPiece p → piece_refusal (is_none around) last p ≡ None → All (Fit n inside around) (piece_value p).simples
  piece_fits (piece.Plain x) f h =
      All-cons (Fit n inside around) (simple_of false (test_of x)) [] (plain_fits n inside around false x f (not_refused (needs_element x && is_none around) fault.OfType h)) (All-nil (Fit n inside around))
  piece_fits piece.Prefixed f h = All-nil (Fit n inside around)
  piece_fits piece.Unknown f h = All-nil (Fit n inside around)
  piece_fits (piece.Large position) f h = All-nil (Fit n inside around)
  piece_fits (piece.Tail t) f h = All-nil (Fit n inside around)
  piece_fits piece.Strange f h = All-nil (Fit n inside around)

some_same : {A : Type 0} (x y : A) → Some x ≡ Some y → x ≡ y
some_same x y e = cc

piece_alone : (around : Around) (last : Bool) (p : Piece) (t : Test) → FitsPiece p → piece_refusal (is_none around) last p ≡ None → (piece_value p).alone ≡ Some t → Lone around t
piece_alone around last (piece.Plain x) t f h e =
    subst (Lone around) (some_same (test_of x) t e) (λ m inside. plain_fits m inside around true x f (not_refused (needs_element x && is_none around) fault.OfType h))
piece_alone around last piece.Prefixed t f h e = cc
piece_alone around last piece.Unknown t f h e = cc
piece_alone around last (piece.Large position) t f h e = cc
piece_alone around last (piece.Tail q) t f h e = cc
piece_alone around last piece.Strange t f h e = cc

piece_few : (p : Piece) → sum_by simple_size (piece_value p).simples ≤ 1
piece_few (piece.Plain x) = omega (arith, sum_by-cons simple_size (simple_of false (test_of x)) [], plain_size false x)
piece_few piece.Prefixed = omega arith
piece_few piece.Unknown = omega arith
piece_few (piece.Large position) = omega arith
piece_few (piece.Tail t) = omega arith
piece_few piece.Strange = omega arith

-- what is negated by itself is one simple selector, and none stands in it
abbrev IsOne : Test → Type 0
IsOne t = simple_size (simple_of true t) ≡ 1

piece_one : (p : Piece) (t : Test) → (piece_value p).alone ≡ Some t → IsOne t
piece_one (piece.Plain x) t e = subst IsOne (some_same (test_of x) t e) (plain_size true x)
piece_one piece.Prefixed t e = cc
piece_one piece.Unknown t e = cc
piece_one (piece.Large position) t e = cc
piece_one (piece.Tail q) t e = cc
piece_one piece.Strange t e = cc

layer_one : (d : open_.Form-F Form Inner Member) (t : Test) → (form_value (roll-Form d)).alone ≡ Some t → IsOne t
layer_one (open_.One p) t e = piece_one p t (ap (λ (v : FormValue). v.alone) (sym (ap form_value (form.rolls-One p) ∙ one_value p)) ∙ e)
layer_one (open_.Choice w xs) t e = let z : None ≡ Some t = sym (choice_alone w xs) ∙ ap (λ x. (form_value x).alone) (sym (form.rolls-Choice w xs)) ∙ e in cc
layer_one open_.Deep t e = let z : None ≡ Some t = sym deep_alone ∙ ap (λ x. (form_value x).alone) (sym form.rolls-Deep) ∙ e in cc

form_one : (x : Form) (t : Test) → (form_value x).alone ≡ Some t → IsOne t
form_one x t e = layer_one (out-Form x) t (ap (λ y. (form_value y).alone) (views.roll-out-Form x) ∙ e)

in_one : (named : Bool) (e : Around) (xs : List Form) (t : Test) → alone_in named e (map form_value xs) ≡ Some t → IsOne t
in_one true e [] t is = subst IsOne (some_same (test.Element e) t is) (element_size e)
in_one true e (x ∷ xs) t is = cc
in_one false e [] t is = cc
in_one false e (x ∷ []) t is = form_one x t is
in_one false e (x ∷ y ∷ xs) t is = cc

inners_one : (xs : List Inner) (t : Test) → alone_of (map inner_value xs) ≡ Some t → IsOne t
inners_one [] t e = cc
inners_one (x ∷ []) t e = in_one (out-Inner x).named (out-Inner x).element (out-Inner x).forms t (sym (alone_is x) ∙ e)
inners_one (x ∷ y ∷ xs) t e = cc

pub alone_one : (xs : List Member) (t : Test) → only_of (map member_value xs) ≡ Some t → simple_size (simple_of true t) ≡ 1
alone_one [] t e = cc
alone_one (x ∷ []) t e = inners_one (out-Member x).parts t (sym (ap alone_of (member_is x)) ∙ e)
alone_one (x ∷ y ∷ xs) t e = cc

one_gives : (n : ℕ) (inside : Bool) (i j : ℕ) (p : Piece) → FitsPiece p → i < j → Gives n inside i (form.One p) j
one_gives n inside i j p f l = record {
  fits = λ around last h. subst (λ (v : FormValue). All (Fit n inside around) v.simples) (sym (one_value p)) (piece_fits n inside around last p f (sym (one_refusal (is_none around) last p) ∙ h));
  alone = λ t e around last h. piece_alone around last p t f (sym (one_refusal (is_none around) last p) ∙ h) (ap (λ (v : FormValue). v.alone) (sym (one_value p)) ∙ e);
  size = omega (arith, piece_few p, ap (λ (v : FormValue). sum_by simple_size v.simples) (one_value p));
}

pub piece_gives : (n : ℕ) (inside : Bool) (i : ℕ) (ts : List CssToken) (o : Option Read) → Good ts i o → GivesRead n inside i (one_read o)
piece_gives n inside i ts None h = tt
piece_gives n inside i ts (Some r) h = let l = h.behind.moves in one_gives n inside i r.end r.piece h.fits l

-- a choice of which nothing is kept
pub deep_gives : (n : ℕ) (inside : Bool) (i j : ℕ) → i ≤ j → Gives n inside i form.Deep j
deep_gives n inside i j l = record {
  fits = λ around last h. let z : Some fault.Nested ≡ None = sym (deep_refusal (is_none around) last) ∙ h in cc;
  alone = λ t e around last h. let z : Some fault.Nested ≡ None = sym (deep_refusal (is_none around) last) ∙ h in cc;
  size = omega (arith, ap (sum_by simple_size) deep_simples);
}

-- forms
module _ (ts : List CssToken) (n : ℕ) (inside : Bool) (f : Reader) (sound : IsSound ts f) (each : (i : ℕ) → i ≤ length ts → GivesRead n inside i (f i)) where
  pub forms_give : (i j : ℕ) (xs : List Form) → i ≤ length ts → Forms f i xs j → GivesForms n inside i xs j
  forms_give i j [] low h = record { fits = λ around last r. All-nil (Fit n inside around); alone = λ e t is around last r. cc; size = omega arith }
  forms_give i j (x ∷ xs) low h =
      let first : Gives n inside i x h.0 = subst (GivesRead n inside i) h.1 (each i low) in
      let behind : IsBehind ts i h.0 = subst (EndsForm ts i) h.1 (sound i low) in
      let rest = forms_give h.0 j xs behind.within h.2 in
      record {
        fits = λ around last r.
            let parts = neither (form_refusal (is_none around) (last && is_empty xs) x) (forms_refusal (is_none around) last xs) r in
            All-append (Fit n inside around) (form_simples x) (flat_map form_simples xs) (first.fits around (last && is_empty xs) parts.first) (rest.fits around last parts.other);
        alone = λ e t is around last r.
            let parts = neither (form_refusal (is_none around) (last && is_empty xs) x) (forms_refusal (is_none around) last xs) r in
            by_rest xs e t is around (λ g. first.alone t g around (last && is_empty xs) parts.first);
        size = omega (arith, sum_by-append simple_size (form_simples x) (flat_map form_simples xs), first.size, rest.size);
      }
    where
      by_rest : (ys : List Form) (e : Around) (t : Test) → alone_in false e (map form_value (x ∷ ys)) ≡ Some t → (around : Around) → ((form_value x).alone ≡ Some t → Lone around t) → Lone around t
      by_rest [] e t is around go = go is
      by_rest (y ∷ ys) e t is around go = cc

  are_forms : (m i : ℕ) → Forms f i (forms_from f m i).forms (forms_from f m i).end
  are_forms zero i = refl
  are_forms (suc m) i = by_form (λ k. are_forms m k) (f i) refl
    where
      by_form : ((k : ℕ) → Forms f k (forms_from f m k).forms (forms_from f m k).end) → (o : Option FormRead) → f i ≡ o → Forms f i (forms_by i (forms_from f m) o).forms (forms_by i (forms_from f m) o).end
      by_form go None e = refl
      by_form go (Some r) e = (r.end, e, go r.end)

  pub forms_from_give : (m i : ℕ) → i ≤ length ts → GivesForms n inside i (forms_from f m i).forms (forms_from f m i).end
  forms_from_give m i low = forms_give i _ _ low (are_forms m i)

-- a compound of a choice
abbrev ChoiceLayer : Type 0
ChoiceLayer = test_open.Compound-F Test choice.Compound Part Relative Simple

abbrev PartLayer : Type 0
PartLayer = test_open.Part-F Test choice.Compound Part Relative Simple

pub part_out : (x : Inner) → out-Part (part_of x) ≡ record { link = (out-Inner x).link; element = (out-Inner x).element; simples = flat_map form_simples (out-Inner x).forms }
part_out x = ap out-Part (part_is x) ∙ test_views.out-roll-Part (record { link = (out-Inner x).link; element = (out-Inner x).element; simples = flat_map form_simples (out-Inner x).forms })

pub part_link : (x : Inner) → (out-Part (part_of x)).link ≡ (out-Inner x).link
part_link x = ap (λ (d : PartLayer). d.link) (part_out x)

pub compound_out : (x : Inner) → choice.out-Compound (compound_of x) ≡ record { element = (out-Inner x).element; simples = flat_map form_simples (out-Inner x).forms }
compound_out x = ap choice.out-Compound (compound_is x) ∙ test_views.out-roll-Compound (record { element = (out-Inner x).element; simples = flat_map form_simples (out-Inner x).forms })

part_few : (x : Inner) → part_size (part_of x) ≡ 1 + sum_by simple_size (flat_map form_simples (out-Inner x).forms)
part_few x = size_of_part (part_of x) ∙ ap (λ (d : PartLayer). 1 + sum_by simple_size d.simples) (part_out x)

pub compound_few : (x : Inner) → part_size (part_of x) ≡ 1 + compound_size (compound_of x)
compound_few x = part_few x ∙ ap (λ n. 1 + n) (sym (size_of_compound (compound_of x) ∙ ap (λ (d : ChoiceLayer). sum_by simple_size d.simples) (compound_out x)))

pub still_none : (a e : Around) → (is_none a && is_none e) ≡ is_none (innermost a e)
still_none None None = refl
still_none None (Some n) = refl
still_none (Some m) None = refl
still_none (Some m) (Some n) = refl

pub its_own : (e : Around) → innermost None e ≡ e
its_own None = refl
its_own (Some n) = refl

alone_gives : (n : ℕ) (inside : Bool) (k j : ℕ) (named : Bool) (e : Around) (xs : List Form) → GivesForms n inside k xs j → (named ≡ false → e ≡ None) → (t : Test) → alone_in named e (map form_value xs) ≡ Some t
    → (around : Around) → forms_refusal (is_none (innermost around e)) false xs ≡ None → Lone around t
alone_gives n inside k j true e [] g c t is around r = subst (Lone around) (some_same (test.Element e) t is) (λ m v. element_fits m v around e)
alone_gives n inside k j true e (x ∷ xs) g c t is around r = cc
alone_gives n inside k j false e xs g c t is around r = g.alone e t is around false (subst (λ d. forms_refusal (is_none (innermost around d)) false xs ≡ None) (c refl) r)

pub inner_gives : (n : ℕ) (inside : Bool) (i k j : ℕ) (x : Inner) → i ≤ k → GivesForms n inside k (out-Inner x).forms j → ((out-Inner x).named ≡ false → (out-Inner x).element ≡ None) → GivesInner n inside i x j
inner_gives n inside i k j x le g c = record {
  fits = λ around h. subst (λ (d : ChoiceLayer). All (Fit n inside (innermost around d.element)) d.simples) (sym (compound_out x)) (g.fits (innermost around (out-Inner x).element) false (allowed around h));
  part = λ h. subst (λ (d : PartLayer). All (Fit n inside d.element) d.simples) (sym (part_out x)) (g.fits (out-Inner x).element false (ap (λ e. forms_refusal (is_none e) false (out-Inner x).forms) (sym (its_own (out-Inner x).element)) ∙ allowed None h));
  alone = λ t e around h. alone_gives n inside k j (out-Inner x).named (out-Inner x).element (out-Inner x).forms g c t (sym (alone_is x) ∙ e) around (allowed around h);
  size = omega (arith, le, g.size, part_few x);
  within = omega (arith, le, g.size);
}
  where
    allowed : (around : Around) → inner_refusal (is_none around) x ≡ None → forms_refusal (is_none (innermost around (out-Inner x).element)) false (out-Inner x).forms ≡ None
    allowed around h =
        let parts = neither (if_refused (out-Inner x).prefixed fault.Prefix) (forms_refusal (is_none around && is_none (out-Inner x).element) false (out-Inner x).forms) (sym (inner_is (is_none around) x) ∙ h) in
        ap (λ b. forms_refusal b false (out-Inner x).forms) (sym (still_none around (out-Inner x).element)) ∙ parts.other
