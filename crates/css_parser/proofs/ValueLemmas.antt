-- The values of forms and inners, one level at a time.
use Rattle.std.proofs.Common.{◌≡◌, ℕ, true, false, List, [], ◌∷◌, ◌++◌, length, get_or, map, flat_map, refl, sym, ◌∙◌, ap, arith}
use Rattle.std.specs.Prelude.{◌==◌, Option, Some, None}
use Rattle.std.proofs.lemmas.Bool.Decides.{nat_tests}
use Rattle.css_selectors.specs.declared.selector.Compound as choice
use Rattle.css_selectors.specs.declared.selector.Link.{Link}
use Rattle.css_selectors.specs.declared.selector.Part.{Part, roll-Part}
use Rattle.css_selectors.specs.declared.selector.Relative.{Relative, roll-Relative}
use Rattle.css_selectors.specs.declared.selector.Test.{Test}
use Rattle.css_selectors.specs.declared.selector.Test.TheVariants as test
use Rattle.css_selectors.specs.declared.selector.Weight.{Weight}
use Rattle.css_selectors.specs.declared.selector.Weight.TheVariants as weight
use Rattle.css_selectors.specs.declared.selector.Simple.{Simple}
use Rattle.css_parser.specs.declared.pieces.Piece.{Piece}
use Rattle.css_parser.specs.declared.pieces.Word.{Word}
use Rattle.css_parser.specs.declared.pieces.Word.TheVariants as word
use Rattle.css_parser.specs.declared.pieces.Form.{Form}
use Rattle.css_parser.specs.declared.pieces.Form.TheOpen as open_
use Rattle.css_parser.specs.declared.pieces.Form.TheFolds.{fold-roll-Form, fold_out-Inner, fold_out-Member}
use Rattle.css_parser.specs.declared.pieces.Form.TheVariants as form
use Rattle.css_parser.specs.declared.pieces.Inner.{Inner, out-Inner}
use Rattle.css_parser.specs.declared.pieces.Member.{Member, out-Member}
use Rattle.css_parser.specs.Values.{FormValue, InnerValue, MemberValue, piece_value, alone_in, alone_of, only_of, any, relative, has, simple_of, negation, choice_value, form_step, inner_step, member_step, form_value, inner_value, member_value, form_simples, compound_of, part_of, relative_of, compounds_in}

pub one_value : (p : Piece) → form_value (form.One p) ≡ piece_value p
unfolding form_value inner_value member_value
one_value p = ap form_value (sym (form.rolls-One p)) ∙ fold-roll-Form FormValue InnerValue MemberValue form_step inner_step member_step (open_.One p)

pub choice_is : (w : Word) (xs : List Member) → form_value (form.Choice w xs) ≡ record { simples = choice_value w (map member_value xs) ∷ []; alone = None }
unfolding form_value inner_value member_value
choice_is w xs = ap form_value (sym (form.rolls-Choice w xs)) ∙ fold-roll-Form FormValue InnerValue MemberValue form_step inner_step member_step (open_.Choice w xs)

pub deep_value : form_value form.Deep ≡ record { simples = []; alone = None }
unfolding form_value inner_value member_value
deep_value = ap form_value (sym form.rolls-Deep) ∙ fold-roll-Form FormValue InnerValue MemberValue form_step inner_step member_step open_.Deep

pub choice_simples : (w : Word) (xs : List Member) → form_simples (form.Choice w xs) ≡ choice_value w (map member_value xs) ∷ []
choice_simples w xs = ap (λ (v : FormValue). v.simples) (choice_is w xs)

pub choice_alone : (w : Word) (xs : List Member) → (form_value (form.Choice w xs)).alone ≡ None
choice_alone w xs = ap (λ (v : FormValue). v.alone) (choice_is w xs)

pub deep_simples : form_simples form.Deep ≡ []
deep_simples = ap (λ (v : FormValue). v.simples) deep_value

pub deep_alone : (form_value form.Deep).alone ≡ None
deep_alone = ap (λ (v : FormValue). v.alone) deep_value

-- inners
pub inner_is : (x : Inner) → inner_value x ≡ record {
  compound = choice.roll-Compound (record { element = (out-Inner x).element; simples = flat_map (λ (f : FormValue). f.simples) (map form_value (out-Inner x).forms) });
  part = roll-Part (record { link = (out-Inner x).link; element = (out-Inner x).element; simples = flat_map (λ (f : FormValue). f.simples) (map form_value (out-Inner x).forms) });
  alone = alone_in (out-Inner x).named (out-Inner x).element (map form_value (out-Inner x).forms);
}
unfolding form_value inner_value member_value
inner_is x = fold_out-Inner FormValue InnerValue MemberValue form_step inner_step member_step x

simples_of_map : (xs : List Form) → flat_map (λ (f : FormValue). f.simples) (map form_value xs) ≡ flat_map form_simples xs
simples_of_map [] = refl
simples_of_map (x ∷ xs) = ap (λ ys. form_simples x ++ ys) (simples_of_map xs)

pub compound_is : (x : Inner) → compound_of x ≡ choice.roll-Compound (record { element = (out-Inner x).element; simples = flat_map form_simples (out-Inner x).forms })
compound_is x = ap (λ (v : InnerValue). v.compound) (inner_is x) ∙ ap (λ ys. compound_with (out-Inner x).element ys) (simples_of_map (out-Inner x).forms)
  where
    compound_with : Option (List ℕ) → List Simple → choice.Compound
    compound_with e ys = choice.roll-Compound (record { element = e; simples = ys })

pub part_is : (x : Inner) → part_of x ≡ roll-Part (record { link = (out-Inner x).link; element = (out-Inner x).element; simples = flat_map form_simples (out-Inner x).forms })
part_is x = ap (λ (v : InnerValue). v.part) (inner_is x) ∙ ap (λ ys. part_with (out-Inner x).link (out-Inner x).element ys) (simples_of_map (out-Inner x).forms)
  where
    part_with : Link → Option (List ℕ) → List Simple → Part
    part_with l e ys = roll-Part (record { link = l; element = e; simples = ys })

pub alone_is : (x : Inner) → (inner_value x).alone ≡ alone_in (out-Inner x).named (out-Inner x).element (map form_value (out-Inner x).forms)
alone_is x = ap (λ (v : InnerValue). v.alone) (inner_is x)

-- alone
none_there : {A : Type 0} (xs : List A) → (length xs == 0) ≡ true → xs ≡ []
none_there [] h = refl
none_there (x ∷ xs) h = let f : (length (x ∷ xs) == 0) ≡ false = grind (arith, nat_tests) in let z : true ≡ false = sym h ∙ f in cc

pub named_alone : (x : Inner) → (out-Inner x).named ≡ true → (length (out-Inner x).forms == 0) ≡ true → (inner_value x).alone ≡ Some (test.Element (out-Inner x).element)
named_alone x e h =
    alone_is x ∙ ap (λ b. alone_in b (out-Inner x).element (map form_value (out-Inner x).forms)) e
    ∙ ap (λ ys. alone_in true (out-Inner x).element (map form_value ys)) (none_there (out-Inner x).forms h)

some_more : (e : Option (List ℕ)) (xs : List Form) → (length xs == 0) ≡ false → alone_in true e (map form_value xs) ≡ None
some_more e [] h = let f : (0 == 0) ≡ true = grind (arith, nat_tests) in let z : true ≡ false = sym f ∙ h in cc
some_more e (x ∷ xs) h = refl

pub named_more : (x : Inner) → (out-Inner x).named ≡ true → (length (out-Inner x).forms == 0) ≡ false → (inner_value x).alone ≡ None
named_more x e h =
    alone_is x ∙ ap (λ b. alone_in b (out-Inner x).element (map form_value (out-Inner x).forms)) e ∙ some_more (out-Inner x).element (out-Inner x).forms h

two_or_more : {A : Type 0} (x y : A) (xs : List A) → (length (x ∷ y ∷ xs) == 1) ≡ false
two_or_more x y xs = grind (arith, nat_tests)

first_of : (e : Option (List ℕ)) (xs : List Form) (x : Form) → (length xs == 1) ≡ true → x ≡ get_or xs 0 x → alone_in false e (map form_value xs) ≡ (form_value x).alone
first_of e [] x h g = let f : (0 == 1) ≡ false = grind (arith, nat_tests) in let z : true ≡ false = sym h ∙ f in cc
first_of e (y ∷ []) x h g = ap (λ z. (form_value z).alone) (sym g)
first_of e (y ∷ z ∷ xs) x h g = let n : true ≡ false = sym h ∙ two_or_more y z xs in cc

pub first_alone : (y : Inner) (x : Form) → (out-Inner y).named ≡ false → (length (out-Inner y).forms == 1) ≡ true → x ≡ get_or (out-Inner y).forms 0 x → (inner_value y).alone ≡ (form_value x).alone
first_alone y x e h g =
    alone_is y ∙ ap (λ b. alone_in b (out-Inner y).element (map form_value (out-Inner y).forms)) e ∙ first_of (out-Inner y).element (out-Inner y).forms x h g

not_one : (e : Option (List ℕ)) (xs : List Form) → (length xs == 1) ≡ false → alone_in false e (map form_value xs) ≡ None
not_one e [] h = refl
not_one e (x ∷ []) h = let f : (1 == 1) ≡ true = grind (arith, nat_tests) in let z : true ≡ false = sym f ∙ h in cc
not_one e (x ∷ y ∷ xs) h = refl

pub none_alone : (y : Inner) → (out-Inner y).named ≡ false → (length (out-Inner y).forms == 1) ≡ false → (inner_value y).alone ≡ None
none_alone y e h =
    alone_is y ∙ ap (λ b. alone_in b (out-Inner y).element (map form_value (out-Inner y).forms)) e ∙ not_one (out-Inner y).element (out-Inner y).forms h

pub one_inner : (xs : List Inner) (x : Inner) → (length xs == 1) ≡ true → x ≡ get_or xs 0 x → alone_of (map inner_value xs) ≡ (inner_value x).alone
one_inner [] x h g = let f : (0 == 1) ≡ false = grind (arith, nat_tests) in let z : true ≡ false = sym h ∙ f in cc
one_inner (y ∷ []) x h g = ap (λ z. (inner_value z).alone) (sym g)
one_inner (y ∷ z ∷ xs) x h g = let n : true ≡ false = sym h ∙ two_or_more y z xs in cc

pub more_inners : (xs : List Inner) → (length xs == 1) ≡ false → alone_of (map inner_value xs) ≡ None
more_inners [] h = refl
more_inners (x ∷ []) h = let f : (1 == 1) ≡ true = grind (arith, nat_tests) in let z : true ≡ false = sym f ∙ h in cc
more_inners (x ∷ y ∷ xs) h = refl

-- members
pub member_is : (m : Member) → member_value m ≡ map inner_value (out-Member m).parts
unfolding form_value inner_value member_value
member_is m = fold_out-Member FormValue InnerValue MemberValue form_step inner_step member_step m

parts_are : (xs : List Inner) → map (λ (v : InnerValue). v.part) (map inner_value xs) ≡ map part_of xs
parts_are [] = refl
parts_are (x ∷ xs) = ap (λ ys. part_of x ∷ ys) (parts_are xs)

pub relative_is : (m : Member) → relative_of m ≡ roll-Relative (record { parts = map part_of (out-Member m).parts })
relative_is m = ap relative (member_is m) ∙ ap of_parts (parts_are (out-Member m).parts)
  where
    of_parts : List Part → Relative
    of_parts xs = roll-Relative (record { parts = xs })

compounds_are : (xs : List Inner) → map (λ (v : InnerValue). v.compound) (map inner_value xs) ≡ map compound_of xs
compounds_are [] = refl
compounds_are (x ∷ xs) = ap (λ ys. compound_of x ∷ ys) (compounds_are xs)

pub compounds_in_is : (m : Member) → compounds_in m ≡ map compound_of (out-Member m).parts
compounds_in_is m = ap (map (λ (v : InnerValue). v.compound)) (member_is m) ∙ compounds_are (out-Member m).parts

pub one_member : (xs : List Member) (x : Member) → (length xs == 1) ≡ true → x ≡ get_or xs 0 x → only_of (map member_value xs) ≡ alone_of (map inner_value (out-Member x).parts)
one_member [] x h g = let f : (0 == 1) ≡ false = grind (arith, nat_tests) in let z : true ≡ false = sym h ∙ f in cc
one_member (y ∷ []) x h g = ap alone_of (ap member_value (sym g) ∙ member_is x)
one_member (y ∷ z ∷ xs) x h g = let n : true ≡ false = sym h ∙ two_or_more y z xs in cc

pub more_members : (xs : List Member) → (length xs == 1) ≡ false → only_of (map member_value xs) ≡ None
more_members [] h = refl
more_members (x ∷ []) h = let f : (1 == 1) ≡ true = grind (arith, nat_tests) in let z : true ≡ false = sym f ∙ h in cc
more_members (x ∷ y ∷ xs) h = refl

-- choices
all_compounds : (xs : List Member) → flat_map (λ (m : MemberValue). map (λ (v : InnerValue). v.compound) m) (map member_value xs) ≡ flat_map compounds_in xs
all_compounds [] = refl
all_compounds (x ∷ xs) = ap (λ ys. compounds_in x ++ ys) (all_compounds xs)

pub any_is : (w : Weight) (xs : List Member) → any w (map member_value xs) ≡ test.Any w (flat_map compounds_in xs)
any_is w xs = ap (test.Any w) (all_compounds xs)

all_relatives : (xs : List Member) → map relative (map member_value xs) ≡ map relative_of xs
all_relatives [] = refl
all_relatives (x ∷ xs) = ap (λ ys. relative_of x ∷ ys) (all_relatives xs)

pub has_is : (xs : List Member) → has (map member_value xs) ≡ test.Has (map relative_of xs)
has_is xs = ap test.Has (all_relatives xs)

pub is_value : (xs : List Member) → choice_value word.Is (map member_value xs) ≡ simple_of false (test.Any weight.Most (flat_map compounds_in xs))
is_value xs = ap (simple_of false) (any_is weight.Most xs)

pub where_value : (xs : List Member) → choice_value word.Where (map member_value xs) ≡ simple_of false (test.Any weight.Zero (flat_map compounds_in xs))
where_value xs = ap (simple_of false) (any_is weight.Zero xs)

pub has_value : (xs : List Member) → choice_value word.Has (map member_value xs) ≡ simple_of false (test.Has (map relative_of xs))
has_value xs = ap (simple_of false) (has_is xs)

pub negates_alone : (xs : List Member) (t : Test) → only_of (map member_value xs) ≡ Some t → negation (only_of (map member_value xs)) (map member_value xs) ≡ simple_of true t
negates_alone xs t e = ap (λ o. negation o (map member_value xs)) e

pub negates_any : (xs : List Member) → only_of (map member_value xs) ≡ None → negation (only_of (map member_value xs)) (map member_value xs) ≡ simple_of true (test.Any weight.Most (flat_map compounds_in xs))
negates_any xs e = ap (λ o. negation o (map member_value xs)) e ∙ ap (simple_of true) (any_is weight.Most xs)
