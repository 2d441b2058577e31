-- What is refused of a list that the grammar reads: the first from left to right.
use Rattle.std.specs.Prelude.{◌&&◌, ◌||◌, not, Bool, true, false, if◌then◌else◌, List, [], ◌∷◌, Option, Some, None, is_none}
use Rattle.text_base.specs.Strings.{is_empty}
use Rattle.text_base.specs.declared.reasons.SelectorFault.{SelectorFault}
use Rattle.text_base.specs.declared.reasons.SelectorFault.TheVariants as fault
use Rattle.css_selectors.specs.declared.selector.Nth.{Nth}
use Rattle.css_selectors.specs.declared.selector.Nth.TheVariants as nth
use Rattle.css_selectors.specs.declared.selector.Pseudo.{Pseudo}
use Rattle.css_selectors.specs.declared.selector.Pseudo.TheVariants as pseudo
use Rattle.css_parser.specs.declared.pieces.Plain.{Plain}
use Rattle.css_parser.specs.declared.pieces.Plain.TheVariants as plain
use Rattle.css_parser.specs.declared.pieces.Piece.{Piece}
use Rattle.css_parser.specs.declared.pieces.Piece.TheVariants as piece
use Rattle.css_parser.specs.declared.pieces.Form.{Form}
use Rattle.css_parser.specs.declared.pieces.Form.TheOpen as open_
use Rattle.css_parser.specs.declared.pieces.Form.TheFolds as folds
use Rattle.css_parser.specs.declared.pieces.Inner.{Inner}
use Rattle.css_parser.specs.declared.pieces.Member.{Member}
use Rattle.css_parser.specs.declared.pieces.Compound.{Compound}
use Rattle.css_parser.specs.Choices.{is_has}

-- positions that are counted among the elements of one name
abbrev pub is_of_type : Nth → Bool
is_of_type nth.Child = false
is_of_type nth.LastChild = false
is_of_type nth.OfType = true
is_of_type nth.LastOfType = true

abbrev pub is_only_of_type : Pseudo → Bool
is_only_of_type pseudo.OnlyOfType = true
is_only_of_type _ = false

abbrev pub needs_element : Plain → Bool
needs_element (plain.Nth kind a b) = is_of_type kind
needs_element (plain.Pseudo p) = is_only_of_type p
needs_element _ = false

abbrev pub if_refused : Bool → SelectorFault → Option SelectorFault
if_refused b f = if b then Some f else None

abbrev pub large_refusal : Bool → Nth → SelectorFault
large_refusal nameless position = if is_of_type position && nameless then fault.OfType else fault.Number

-- the refusal of a piece, where no compound around it has an element's name or one has, and as the last of its selector or
-- not
abbrev pub piece_refusal : Bool → Bool → Piece → Option SelectorFault
piece_refusal nameless last (piece.Plain t) = if_refused (needs_element t && nameless) fault.OfType
piece_refusal nameless last piece.Prefixed = Some fault.Prefix
piece_refusal nameless last piece.Unknown = Some fault.UnknownPseudo
piece_refusal nameless last (piece.Large position) = Some (large_refusal nameless position)
piece_refusal nameless last (piece.Tail t) = if_refused (not last) fault.PseudoElement
piece_refusal nameless last piece.Strange = Some fault.PseudoElement

-- the first, or else the other
abbrev pub or_else : Option SelectorFault → Option SelectorFault → Option SelectorFault
or_else (Some f) other = Some f
or_else None other = other

-- the refusal of a form, by whether no compound around it has an element's name, and whether it is the last of its selector
abbrev pub ByPlace : Type 0
ByPlace = Bool → Bool → Option SelectorFault

-- the refusals of forms, from left to right
abbrev pub by_forms : Bool → Bool → List ByPlace → Option SelectorFault
by_forms nameless last [] = None
by_forms nameless last (x ∷ xs) = or_else (x nameless (last && is_empty xs)) (by_forms nameless last xs)

-- the refusal of what stands in a choice, by whether no compound around it has an element's name
abbrev pub ByName : Type 0
ByName = Bool → Option SelectorFault

abbrev pub by_inners : Bool → List ByName → Option SelectorFault
by_inners nameless [] = None
by_inners nameless (x ∷ xs) = or_else (x nameless) (by_inners nameless xs)

abbrev pub member_layer : open_.Member-F ByPlace ByName ByName → ByName
member_layer x nameless = by_inners nameless x.parts

-- what stands in a choice is not the last of its selector
abbrev pub inner_layer : open_.Inner-F ByPlace ByName ByName → ByName
inner_layer x nameless = or_else (if_refused x.prefixed fault.Prefix) (by_forms (nameless && is_none x.element) false x.forms)

-- Of what is around a `has`, nothing counts as around what stands in it.
abbrev pub form_layer : open_.Form-F ByPlace ByName ByName → ByPlace
form_layer (open_.One p) nameless last = piece_refusal nameless last p
form_layer (open_.Choice w xs) nameless last = by_inners (is_has w || nameless) xs
form_layer open_.Deep nameless last = Some fault.Nested

unfoldable pub form_refusal : Bool → Bool → Form → Option SelectorFault
form_refusal nameless last x = folds.fold-Form ByPlace ByName ByName form_layer inner_layer member_layer x nameless last

unfoldable pub inner_refusal : Bool → Inner → Option SelectorFault
inner_refusal nameless x = folds.fold-Inner ByPlace ByName ByName form_layer inner_layer member_layer x nameless

abbrev pub inners_refusal : Bool → List Inner → Option SelectorFault
inners_refusal nameless [] = None
inners_refusal nameless (x ∷ xs) = or_else (inner_refusal nameless x) (inners_refusal nameless xs)

unfoldable pub member_refusal : Bool → Member → Option SelectorFault
member_refusal nameless x = folds.fold-Member ByPlace ByName ByName form_layer inner_layer member_layer x nameless

abbrev pub members_refusal : Bool → List Member → Option SelectorFault
members_refusal nameless [] = None
members_refusal nameless (x ∷ xs) = or_else (member_refusal nameless x) (members_refusal nameless xs)

abbrev pub forms_refusal : Bool → Bool → List Form → Option SelectorFault
forms_refusal nameless last [] = None
forms_refusal nameless last (x ∷ xs) = or_else (form_refusal nameless (last && is_empty xs) x) (forms_refusal nameless last xs)

abbrev pub compound_refusal : Bool → Compound → Option SelectorFault
compound_refusal last c = or_else (if_refused c.prefixed fault.Prefix) (forms_refusal (is_none c.element) last c.forms)

abbrev pub selector_refusal : List Compound → Option SelectorFault
selector_refusal [] = None
selector_refusal (c ∷ cs) = or_else (compound_refusal (is_empty cs) c) (selector_refusal cs)

abbrev pub refusal : List (List Compound) → Option SelectorFault
refusal [] = None
refusal (s ∷ ss) = or_else (selector_refusal s) (refusal ss)
