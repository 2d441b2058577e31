-- The list of selectors that a list without a refusal is.
use Rattle.std.specs.Prelude.{List, map, flat_map}
use Rattle.std.specs.List.{fold}
use Rattle.css_selectors.specs.declared.selector.Part.{Part, roll-Part}
use Rattle.css_selectors.specs.declared.selector.Selector.{Selector}
use Rattle.css_selectors.specs.declared.selector.SelectorList.{SelectorList}
use Rattle.css_selectors.specs.declared.selector.Tail.{Tail}
use Rattle.css_selectors.specs.declared.selector.Tail.TheVariants as tail
use Rattle.css_parser.specs.declared.pieces.Piece.{Piece}
use Rattle.css_parser.specs.declared.pieces.Piece.TheVariants as piece
use Rattle.css_parser.specs.declared.pieces.Form.{Form, out-Form}
use Rattle.css_parser.specs.declared.pieces.Form.TheOpen as open_
use Rattle.css_parser.specs.declared.pieces.Inner.{Inner}
use Rattle.css_parser.specs.declared.pieces.Member.{Member}
use Rattle.css_parser.specs.declared.pieces.Compound.{Compound}
use Rattle.css_parser.specs.Values.{form_simples}

abbrev pub part_of : Compound → Part
part_of c = roll-Part (record { link = c.link; element = c.element; simples = flat_map form_simples c.forms })

-- the tail after a piece, or after a form, where `old` was the tail before it
abbrev pub piece_tail : Tail → Piece → Tail
piece_tail old (piece.Tail t) = t
piece_tail old (piece.Plain x) = old
piece_tail old piece.Prefixed = old
piece_tail old piece.Unknown = old
piece_tail old (piece.Large position) = old
piece_tail old piece.Strange = old

abbrev pub form_tail : Tail → open_.Form-F Form Inner Member → Tail
form_tail old (open_.One p) = piece_tail old p
form_tail old (open_.Choice w xs) = old
form_tail old open_.Deep = old

abbrev pub tail_by : Tail → Form → Tail
tail_by old x = form_tail old (out-Form x)

abbrev pub tail_after : Tail → Compound → Tail
tail_after old c = fold tail_by old c.forms

abbrev pub tail_of : List Compound → Tail
tail_of cs = fold tail_after tail.Element cs

abbrev pub selector_of : List Compound → Selector
selector_of cs = record { parts = map part_of cs; tail = tail_of cs }

abbrev pub list_of : List (List Compound) → SelectorList
list_of ss = record { items = map selector_of ss }
