-- The first refusal, from left to right.
use Rattle.std.proofs.Common.{true, map, ◌≡◌, ℕ, suc, ◌+◌, ◌-◌, ◌<◌, ◌≤◌, Bool, false, ◌&&◌, List, [], ◌∷◌, length, drop, get_or, refl, sym, ◌∙◌, ap, arith, length-drop}
use Rattle.std.specs.Prelude.{◌==◌, ◌||◌, Option, Some, None, is_none}
use Rattle.std.proofs.Math.Seq.{drop-cons}
use Rattle.std.proofs.lemmas.List.{drop_all}
use Rattle.std.proofs.lemmas.Bool.Decides.{nat_tests}
use Rattle.text_base.specs.declared.reasons.SelectorFault.{SelectorFault}
use Rattle.css_parser.specs.declared.pieces.Form.{Form, roll-Form}
use Rattle.css_parser.specs.declared.pieces.Form.TheOpen as open_
use Rattle.css_parser.specs.declared.pieces.Form.TheFolds.{fold-roll-Form, fold_out-Inner, fold_out-Member}
use Rattle.css_parser.specs.declared.pieces.Compound.{Compound}
use Rattle.css_parser.specs.declared.pieces.Piece.{Piece}
use Rattle.css_parser.specs.declared.pieces.Word.{Word}
use Rattle.css_parser.specs.declared.pieces.Inner.{Inner, out-Inner}
use Rattle.css_parser.specs.declared.pieces.Member.{Member, out-Member}
use Rattle.css_parser.specs.declared.pieces.Form.TheVariants as form
use Rattle.text_base.specs.declared.reasons.SelectorFault.TheVariants as fault
use Rattle.css_parser.specs.Choices.{is_has}
use Rattle.text_base.specs.Strings.{is_empty}
use Rattle.css_parser.specs.Refusals.{form_layer, inner_layer, ByPlace, by_forms, by_inners, ByName, member_layer, member_refusal, members_refusal, if_refused, piece_refusal, inner_refusal, inners_refusal, or_else, form_refusal, forms_refusal, compound_refusal, selector_refusal, refusal}

module _ {A : Type 0} (xs : List A) (i : ℕ) (x : A) (l : i < length xs) (e : x ≡ get_or xs i x) where
  pub cut : drop i xs ≡ x ∷ drop (i + 1) xs
  cut = drop-cons xs i x l ∙ ap (λ y. y ∷ drop (suc i) xs) (sym e) ∙ ap (λ n. x ∷ drop n xs) (let f : suc i ≡ i + 1 = omega arith in f)

  empty_is : (ys : List A) → is_empty ys ≡ (length ys == 0)
  empty_is [] = refl
  empty_is (y ∷ ys) = let f : (length (y ∷ ys) == 0) ≡ false = grind (arith, nat_tests) in sym f

  length_test : (m n : ℕ) → m ≡ n - (i + 1) → i < n → (m == 0) ≡ (i + 1 == n)
  length_test m n f g = grind (arith, nat_tests)

  pub last_is : is_empty (drop (i + 1) xs) ≡ (i + 1 == length xs)
  last_is = empty_is (drop (i + 1) xs) ∙ length_test (length (drop (i + 1) xs)) (length xs) (length-drop (i + 1) xs) l

-- what is refused of each form and of each inner
each_form : Form → ByPlace
each_form x nameless last = form_refusal nameless last x

each_inner : Inner → Bool → Option SelectorFault
each_inner x nameless = inner_refusal nameless x

forms_by : (nameless last : Bool) (xs : List Form) → by_forms nameless last (map each_form xs) ≡ forms_refusal nameless last xs
unfolding each_form
forms_by nameless last [] = refl
forms_by nameless last (x ∷ xs) =
    ap (λ b. or_else (form_refusal nameless (last && b) x) (by_forms nameless last (map each_form xs))) (same_empty xs)
    ∙ ap (or_else (form_refusal nameless (last && is_empty xs) x)) (forms_by nameless last xs)
  where
    same_empty : (ys : List Form) → is_empty (map each_form ys) ≡ is_empty ys
    same_empty [] = refl
    same_empty (y ∷ ys) = refl

inners_by : (nameless : Bool) (xs : List Inner) → by_inners nameless (map each_inner xs) ≡ inners_refusal nameless xs
unfolding each_inner
inners_by nameless [] = refl
inners_by nameless (x ∷ xs) = ap (or_else (inner_refusal nameless x)) (inners_by nameless xs)

each_member : Member → ByName
each_member x nameless = member_refusal nameless x

members_by : (nameless : Bool) (xs : List Member) → by_inners nameless (map each_member xs) ≡ members_refusal nameless xs
unfolding each_member
members_by nameless [] = refl
members_by nameless (x ∷ xs) = ap (or_else (member_refusal nameless x)) (members_by nameless xs)

pub roll_one : (nameless last : Bool) (p : Piece) → form_refusal nameless last (roll-Form (open_.One p)) ≡ piece_refusal nameless last p
unfolding form_refusal
roll_one nameless last p = ap (λ (h : ByPlace). h nameless last) (fold-roll-Form ByPlace ByName ByName form_layer inner_layer member_layer (open_.One p))

pub roll_choice : (nameless last : Bool) (w : Word) (xs : List Member) → form_refusal nameless last (roll-Form (open_.Choice w xs)) ≡ members_refusal (is_has w || nameless) xs
unfolding form_refusal member_refusal each_member
roll_choice nameless last w xs = ap (λ (h : ByPlace). h nameless last) (fold-roll-Form ByPlace ByName ByName form_layer inner_layer member_layer (open_.Choice w xs)) ∙ members_by (is_has w || nameless) xs

pub roll_deep : (nameless last : Bool) → form_refusal nameless last (roll-Form open_.Deep) ≡ Some fault.Nested
unfolding form_refusal
roll_deep nameless last = ap (λ (h : ByPlace). h nameless last) (fold-roll-Form ByPlace ByName ByName form_layer inner_layer member_layer open_.Deep)

pub one_refusal : (nameless last : Bool) (p : Piece) → form_refusal nameless last (form.One p) ≡ piece_refusal nameless last p
one_refusal nameless last p = ap (form_refusal nameless last) (sym (form.rolls-One p)) ∙ roll_one nameless last p

pub choice_refusal : (nameless last : Bool) (w : Word) (xs : List Member) → form_refusal nameless last (form.Choice w xs) ≡ members_refusal (is_has w || nameless) xs
choice_refusal nameless last w xs = ap (form_refusal nameless last) (sym (form.rolls-Choice w xs)) ∙ roll_choice nameless last w xs

pub deep_refusal : (nameless last : Bool) → form_refusal nameless last form.Deep ≡ Some fault.Nested
deep_refusal nameless last = ap (form_refusal nameless last) (sym form.rolls-Deep) ∙ roll_deep nameless last

pub inner_is : (nameless : Bool) (x : Inner) → inner_refusal nameless x ≡ or_else (if_refused (out-Inner x).prefixed fault.Prefix) (forms_refusal (nameless && is_none (out-Inner x).element) false (out-Inner x).forms)
unfolding form_refusal inner_refusal each_form
inner_is nameless x =
    ap (λ (h : ByName). h nameless) (fold_out-Inner ByPlace ByName ByName form_layer inner_layer member_layer x)
    ∙ ap (or_else (if_refused (out-Inner x).prefixed fault.Prefix)) (forms_by (nameless && is_none (out-Inner x).element) false (out-Inner x).forms)

pub inner_prefixed : (nameless : Bool) (x : Inner) → (out-Inner x).prefixed ≡ true → inner_refusal nameless x ≡ Some fault.Prefix
inner_prefixed nameless x e = inner_is nameless x ∙ ap (λ b. or_else (if_refused b fault.Prefix) (forms_refusal (nameless && is_none (out-Inner x).element) false (out-Inner x).forms)) e

pub inner_plain : (nameless : Bool) (x : Inner) → (out-Inner x).prefixed ≡ false → inner_refusal nameless x ≡ forms_refusal (nameless && is_none (out-Inner x).element) false (out-Inner x).forms
inner_plain nameless x e = inner_is nameless x ∙ ap (λ b. or_else (if_refused b fault.Prefix) (forms_refusal (nameless && is_none (out-Inner x).element) false (out-Inner x).forms)) e

module _ (nameless : Bool) (xs : List Inner) (i : ℕ) (x : Inner) (l : i < length xs) (e : x ≡ get_or xs i x) where
  inners_step : inners_refusal nameless (drop i xs) ≡ or_else (inner_refusal nameless x) (inners_refusal nameless (drop (i + 1) xs))
  inners_step = ap (inners_refusal nameless) (cut xs i x l e)

  pub inner_refused : (f : SelectorFault) → inner_refusal nameless x ≡ Some f → inners_refusal nameless (drop i xs) ≡ Some f
  inner_refused f h = inners_step ∙ ap (λ o. or_else o (inners_refusal nameless (drop (i + 1) xs))) h

  pub inner_allowed : inner_refusal nameless x ≡ None → inners_refusal nameless (drop i xs) ≡ inners_refusal nameless (drop (i + 1) xs)
  inner_allowed h = inners_step ∙ ap (λ o. or_else o (inners_refusal nameless (drop (i + 1) xs))) h

pub member_is : (nameless : Bool) (x : Member) → member_refusal nameless x ≡ inners_refusal nameless (out-Member x).parts
unfolding inner_refusal member_refusal each_inner
member_is nameless x = ap (λ (h : ByName). h nameless) (fold_out-Member ByPlace ByName ByName form_layer inner_layer member_layer x) ∙ inners_by nameless (out-Member x).parts

module _ (nameless : Bool) (xs : List Member) (i : ℕ) (x : Member) (l : i < length xs) (e : x ≡ get_or xs i x) where
  members_step : members_refusal nameless (drop i xs) ≡ or_else (member_refusal nameless x) (members_refusal nameless (drop (i + 1) xs))
  members_step = ap (members_refusal nameless) (cut xs i x l e)

  pub member_refused : (f : SelectorFault) → member_refusal nameless x ≡ Some f → members_refusal nameless (drop i xs) ≡ Some f
  member_refused f h = members_step ∙ ap (λ o. or_else o (members_refusal nameless (drop (i + 1) xs))) h

  pub member_allowed : member_refusal nameless x ≡ None → members_refusal nameless (drop i xs) ≡ members_refusal nameless (drop (i + 1) xs)
  member_allowed h = members_step ∙ ap (λ o. or_else o (members_refusal nameless (drop (i + 1) xs))) h

pub no_members : (nameless : Bool) (xs : List Member) (i : ℕ) → length xs ≤ i → members_refusal nameless (drop i xs) ≡ None
no_members nameless xs i h = ap (members_refusal nameless) (drop_all i xs h)

pub no_inners : (nameless : Bool) (xs : List Inner) (i : ℕ) → length xs ≤ i → inners_refusal nameless (drop i xs) ≡ None
no_inners nameless xs i h = ap (inners_refusal nameless) (drop_all i xs h)

module _ (nameless last : Bool) (xs : List Form) (i : ℕ) (x : Form) (l : i < length xs) (e : x ≡ get_or xs i x) where
  form_step : forms_refusal nameless last (drop i xs) ≡ or_else (form_refusal nameless (last && (i + 1 == length xs)) x) (forms_refusal nameless last (drop (i + 1) xs))
  form_step = ap (forms_refusal nameless last) (cut xs i x l e) ∙ ap (λ b. or_else (form_refusal nameless (last && b) x) (forms_refusal nameless last (drop (i + 1) xs))) (last_is xs i x l e)

  pub form_refused : (f : SelectorFault) → form_refusal nameless (last && (i + 1 == length xs)) x ≡ Some f → forms_refusal nameless last (drop i xs) ≡ Some f
  form_refused f h = form_step ∙ ap (λ o. or_else o (forms_refusal nameless last (drop (i + 1) xs))) h

  pub form_allowed : form_refusal nameless (last && (i + 1 == length xs)) x ≡ None → forms_refusal nameless last (drop i xs) ≡ forms_refusal nameless last (drop (i + 1) xs)
  form_allowed h = form_step ∙ ap (λ o. or_else o (forms_refusal nameless last (drop (i + 1) xs))) h

pub no_forms : (nameless last : Bool) (xs : List Form) (i : ℕ) → length xs ≤ i → forms_refusal nameless last (drop i xs) ≡ None
no_forms nameless last xs i h = ap (forms_refusal nameless last) (drop_all i xs h)

module _ (xs : List Compound) (i : ℕ) (x : Compound) (l : i < length xs) (e : x ≡ get_or xs i x) where
  compound_step : selector_refusal (drop i xs) ≡ or_else (compound_refusal (i + 1 == length xs) x) (selector_refusal (drop (i + 1) xs))
  compound_step = ap selector_refusal (cut xs i x l e) ∙ ap (λ b. or_else (compound_refusal b x) (selector_refusal (drop (i + 1) xs))) (last_is xs i x l e)

  pub compound_refused : (f : SelectorFault) → compound_refusal (i + 1 == length xs) x ≡ Some f → selector_refusal (drop i xs) ≡ Some f
  compound_refused f h = compound_step ∙ ap (λ o. or_else o (selector_refusal (drop (i + 1) xs))) h

  pub compound_allowed : compound_refusal (i + 1 == length xs) x ≡ None → selector_refusal (drop i xs) ≡ selector_refusal (drop (i + 1) xs)
  compound_allowed h = compound_step ∙ ap (λ o. or_else o (selector_refusal (drop (i + 1) xs))) h

pub no_compounds : (xs : List Compound) (i : ℕ) → length xs ≤ i → selector_refusal (drop i xs) ≡ None
no_compounds xs i h = ap selector_refusal (drop_all i xs h)

module _ (xs : List (List Compound)) (i : ℕ) (x : List Compound) (l : i < length xs) (e : x ≡ get_or xs i x) where
  selector_step : refusal (drop i xs) ≡ or_else (selector_refusal x) (refusal (drop (i + 1) xs))
  selector_step = ap refusal (cut xs i x l e)

  pub selector_refused : (f : SelectorFault) → selector_refusal x ≡ Some f → refusal (drop i xs) ≡ Some f
  selector_refused f h = selector_step ∙ ap (λ o. or_else o (refusal (drop (i + 1) xs))) h

  pub selector_allowed : selector_refusal x ≡ None → refusal (drop i xs) ≡ refusal (drop (i + 1) xs)
  selector_allowed h = selector_step ∙ ap (λ o. or_else o (refusal (drop (i + 1) xs))) h

pub no_selectors : (xs : List (List Compound)) (i : ℕ) → length xs ≤ i → refusal (drop i xs) ≡ None
no_selectors xs i h = ap refusal (drop_all i xs h)
