-- What forms, inners and members are as simple selectors, compounds and relative selectors.
use Rattle.std.specs.Prelude.{ℕ, Bool, true, false, List, [], ◌∷◌, map, flat_map, Option, Some, None}
use Rattle.css_selectors.specs.declared.selector.Compound as choice
use Rattle.css_selectors.specs.declared.selector.Part.{Part, roll-Part}
use Rattle.css_selectors.specs.declared.selector.Relative.{Relative, roll-Relative}
use Rattle.css_selectors.specs.declared.selector.Simple.{Simple}
use Rattle.css_selectors.specs.declared.selector.Test.{Test}
use Rattle.css_selectors.specs.declared.selector.Test.TheVariants as test
use Rattle.css_selectors.specs.declared.selector.Weight.{Weight}
use Rattle.css_selectors.specs.declared.selector.Weight.TheVariants as weight
use Rattle.css_parser.specs.declared.pieces.Plain.{Plain}
use Rattle.css_parser.specs.declared.pieces.Plain.TheVariants as plain
use Rattle.css_parser.specs.declared.pieces.Piece.{Piece}
use Rattle.css_parser.specs.declared.pieces.Piece.TheVariants as piece
use Rattle.css_parser.specs.declared.pieces.Word.{Word}
use Rattle.css_parser.specs.declared.pieces.Word.TheVariants as word
use Rattle.css_parser.specs.declared.pieces.Form.{Form}
use Rattle.css_parser.specs.declared.pieces.Form.TheOpen as open_
use Rattle.css_parser.specs.declared.pieces.Form.TheFolds as folds
use Rattle.css_parser.specs.declared.pieces.Inner.{Inner}
use Rattle.css_parser.specs.declared.pieces.Member.{Member}

-- the test that it asks
abbrev pub test_of : Plain → Test
test_of (plain.Id x) = test.Id x
test_of (plain.Class x) = test.Class x
test_of (plain.Attr name o v) = test.Attr name o v
test_of (plain.Nth position a b) = test.Nth position a b
test_of (plain.Pseudo p) = test.Pseudo p
test_of (plain.Contains x) = test.Contains x
test_of (plain.Lang x) = test.Lang x

abbrev pub simple_of : Bool → Test → Simple
simple_of negated t = record { negated = negated; test = t }

-- The simple selectors that a form gives, and the test of it where it is one simple selector that is no choice.
pub record FormValue : Type 0 where
  pub simples : List Simple
  pub alone : Option Test

-- The compound that an inner is, the part that it is with its combinator, and the test of it where it is an element alone, or
-- one simple selector alone that is no choice.
pub record InnerValue : Type 0 where
  pub compound : choice.Compound
  pub part : Part
  pub alone : Option Test

abbrev pub MemberValue : Type 0
MemberValue = List InnerValue

-- a pseudo-element, and what is refused, is no simple selector
abbrev pub no_value : FormValue
no_value = record { simples = []; alone = None }

abbrev pub piece_value : Piece → FormValue
piece_value (piece.Plain x) = record { simples = simple_of false (test_of x) ∷ []; alone = Some (test_of x) }
piece_value piece.Prefixed = no_value
piece_value piece.Unknown = no_value
piece_value (piece.Large position) = no_value
piece_value (piece.Tail t) = no_value
piece_value piece.Strange = no_value

-- what an inner is alone, where an element stands in it or not and these forms do
abbrev pub alone_in : Bool → Option (List ℕ) → List FormValue → Option Test
alone_in true element [] = Some (test.Element element)
alone_in true element (x ∷ xs) = None
alone_in false element [] = None
alone_in false element (x ∷ []) = x.alone
alone_in false element (x ∷ y ∷ xs) = None

-- what a member is, where an inner is alone in it
abbrev pub alone_of : MemberValue → Option Test
alone_of [] = None
alone_of (x ∷ []) = x.alone
alone_of (x ∷ y ∷ xs) = None

-- what stands in a choice, where it is alone there
abbrev pub only_of : List MemberValue → Option Test
only_of [] = None
only_of (x ∷ []) = alone_of x
only_of (x ∷ y ∷ xs) = None

abbrev pub any : Weight → List MemberValue → Test
any w xs = test.Any w (flat_map (λ m. map (λ x. x.compound) m) xs)

abbrev pub relative : MemberValue → Relative
relative xs = roll-Relative (record { parts = map (λ x. x.part) xs })

abbrev pub has : List MemberValue → Test
has xs = test.Has (map relative xs)

-- A negation of one that is alone negates that, and any other negates the choice.
abbrev pub negation : Option Test → List MemberValue → Simple
negation (Some t) xs = simple_of true t
negation None xs = simple_of true (any weight.Most xs)

abbrev pub choice_value : Word → List MemberValue → Simple
choice_value word.Is xs = simple_of false (any weight.Most xs)
choice_value word.Where xs = simple_of false (any weight.Zero xs)
choice_value word.Not xs = negation (only_of xs) xs
choice_value word.Has xs = simple_of false (has xs)

abbrev pub form_step : open_.Form-F FormValue InnerValue MemberValue → FormValue
form_step (open_.One p) = piece_value p
form_step (open_.Choice w xs) = record { simples = choice_value w xs ∷ []; alone = None }
form_step open_.Deep = no_value

abbrev pub inner_step : open_.Inner-F FormValue InnerValue MemberValue → InnerValue
inner_step x = record {
  compound = choice.roll-Compound (record { element = x.element; simples = flat_map (λ f. f.simples) x.forms });
  part = roll-Part (record { link = x.link; element = x.element; simples = flat_map (λ f. f.simples) x.forms });
  alone = alone_in x.named x.element x.forms;
}

abbrev pub member_step : open_.Member-F FormValue InnerValue MemberValue → MemberValue
member_step x = x.parts

unfoldable pub form_value : Form → FormValue
form_value = folds.fold-Form FormValue InnerValue MemberValue form_step inner_step member_step

unfoldable pub inner_value : Inner → InnerValue
inner_value = folds.fold-Inner FormValue InnerValue MemberValue form_step inner_step member_step

unfoldable pub member_value : Member → MemberValue
member_value = folds.fold-Member FormValue InnerValue MemberValue form_step inner_step member_step

abbrev pub form_simples : Form → List Simple
form_simples x = (form_value x).simples

abbrev pub compound_of : Inner → choice.Compound
compound_of x = (inner_value x).compound

abbrev pub part_of : Inner → Part
part_of x = (inner_value x).part

abbrev pub relative_of : Member → Relative
relative_of x = relative (member_value x)

-- the compounds that stand in a member
abbrev pub compounds_in : Member → List choice.Compound
compounds_in x = map (λ v. v.compound) (member_value x)
