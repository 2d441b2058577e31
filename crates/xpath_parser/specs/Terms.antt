-- The lexical rule of XPath 1.0, section 3.7: what a token is, by the token before it and the token after it.
use Rattle.std.specs.Prelude.{ℕ, ◌+◌, ◌≤◌, Bool, true, false, ◌==◌, nat_le, if◌then◌else◌, List, [], ◌∷◌, length, take, count_by, Option, Some, None, codes, pos}
use Rattle.std.specs.List.{list_any}
use Rattle.std.specs.Str.{chars}
use Rattle.doc_model.specs.declared.Axis.{Axis}
use Rattle.doc_model.specs.declared.Axis.TheVariants as axis
use Rattle.test_registry.specs.declared.kinds.TestKind.{TestKind}
use Rattle.text_base.specs.Names.{named_in}
use Rattle.text_base.specs.Text.{digits_value}
use Rattle.test_registry.specs.Names.{Known}
use Rattle.xpath_lexer.specs.declared.token.XKind.{XKind}
use Rattle.xpath_lexer.specs.declared.token.XKind.TheVariants as k
use Rattle.xpath_lexer.specs.Tokens.{Text, Lexeme}
use Rattle.xpath_values.specs.Numbers.{largest_whole}
use Rattle.xpath_parser.specs.declared.expression.Func.{Func}
use Rattle.xpath_parser.specs.declared.expression.Func.TheVariants as f
use Rattle.xpath_parser.specs.declared.term.NodeType.{NodeType}
use Rattle.xpath_parser.specs.declared.term.NodeType.TheVariants as node_type
use Rattle.xpath_parser.specs.declared.term.Term.{Term}
use Rattle.xpath_parser.specs.declared.term.Term.TheVariants as t

-- ---- the names of section 2.2, 2.3, 3.3 to 3.5 and 4

unfoldable pub axis_names : List (Text × Axis)
axis_names =
    (codes "child", axis.Child) ∷ (codes "descendant", axis.Descendant) ∷ (codes "parent", axis.Parent) ∷ (codes "ancestor", axis.Ancestor)
    ∷ (codes "following-sibling", axis.FollowingSibling) ∷ (codes "preceding-sibling", axis.PrecedingSibling)
    ∷ (codes "following", axis.Following) ∷ (codes "preceding", axis.Preceding) ∷ (codes "attribute", axis.Attribute)
    ∷ (codes "namespace", axis.Namespace) ∷ (codes "self", axis.OwnSelf) ∷ (codes "descendant-or-self", axis.DescendantOrSelf)
    ∷ (codes "ancestor-or-self", axis.AncestorOrSelf) ∷ []

unfoldable pub node_type_names : List (Text × NodeType)
node_type_names =
    (codes "node", node_type.Node) ∷ (codes "text", node_type.Text) ∷ (codes "comment", node_type.Comment)
    ∷ (codes "processing-instruction", node_type.Instruction) ∷ []

unfoldable pub function_names : List (Text × Func)
function_names =
    (codes "last", f.Last) ∷ (codes "position", f.Position) ∷ (codes "count", f.Count) ∷ (codes "id", f.Id)
    ∷ (codes "local-name", f.LocalName) ∷ (codes "namespace-uri", f.NamespaceUri) ∷ (codes "name", f.Name)
    ∷ (codes "string", f.Str) ∷ (codes "concat", f.Concat) ∷ (codes "starts-with", f.StartsWith) ∷ (codes "contains", f.Contains)
    ∷ (codes "substring-before", f.SubstringBefore) ∷ (codes "substring-after", f.SubstringAfter) ∷ (codes "substring", f.Substring)
    ∷ (codes "string-length", f.StringLength) ∷ (codes "normalize-space", f.NormalizeSpace) ∷ (codes "translate", f.Translate)
    ∷ (codes "boolean", f.Boolean) ∷ (codes "not", f.Not) ∷ (codes "true", f.True) ∷ (codes "false", f.False) ∷ (codes "lang", f.Lang)
    ∷ (codes "number", f.Number) ∷ (codes "sum", f.Sum) ∷ (codes "floor", f.Floor) ∷ (codes "ceiling", f.Ceiling) ∷ (codes "round", f.Round) ∷ []

unfoldable pub operator_names : List (Text × Term)
operator_names = (codes "or", t.Or) ∷ (codes "and", t.And) ∷ (codes "mod", t.Mod) ∷ (codes "div", t.Div) ∷ []

-- ---- the terms

abbrev pub operator_term : Option Term → Term
operator_term (Some w) = w
operator_term None = t.Unknown

abbrev pub axis_term : Option Axis → Term
axis_term (Some a) = t.Axis a
axis_term None = t.Unknown

abbrev pub function_term : Option Func → Term
function_term (Some g) = t.Function g
function_term None = t.UnknownFunction

-- one of the functions, or else a stored test
abbrev pub or_stored : Option Func → Option TestKind → Option Func
or_stored (Some g) kind = Some g
or_stored None (Some kind) = Some (f.Stored kind)
or_stored None None = None

-- the function of that name, where these tests are stored
abbrev pub function_of : Known → Text → Option Func
function_of [] w = named_in function_names w
function_of (p ∷ ps) w = or_stored (named_in function_names w) (named_in (p ∷ ps) w)

-- a name before `(` is a node type, or else a function's
abbrev pub called_term_over : Known → Option NodeType → Text → Term
called_term_over tests (Some n) w = t.NodeType n
called_term_over tests None w = function_term (function_of tests w)

abbrev pub called_term : Option NodeType → Text → Term
called_term n w = called_term_over [] n w

-- a name that is no operator, by the kind of the token after it
abbrev pub name_term_over : Known → Option XKind → Text → Term
name_term_over tests (Some k.DoubleColon) w = axis_term (named_in axis_names w)
name_term_over tests (Some k.OpenRound) w = called_term_over tests (named_in node_type_names w) w
name_term_over tests _ w = t.Name (chars w)

abbrev pub name_term : Option XKind → Text → Term
name_term next w = name_term_over [] next w

abbrev pub number_term : Text → Term
number_term w =
    if list_any (λ b. b == 46) w then t.Fraction else
    if nat_le (digits_value w) largest_whole then t.Number (pos (digits_value w)) else t.TooLarge

-- What a token is. `after` says that the token before it is there and is none of `@`, `::`, `(`, `[`, `,` and an operator.
abbrev pub term_of_over : Known → Bool → XKind → Text → Option XKind → Term
term_of_over tests true k.Name w next = operator_term (named_in operator_names w)
term_of_over tests false k.Name w next = name_term_over tests next w
term_of_over tests true k.Star w next = t.Times
term_of_over tests false k.Star w next = t.AnyName
term_of_over tests after k.OpenRound w next = t.OpenRound
term_of_over tests after k.CloseRound w next = t.CloseRound
term_of_over tests after k.OpenSquare w next = t.OpenSquare
term_of_over tests after k.CloseSquare w next = t.CloseSquare
term_of_over tests after k.Dot w next = t.Dot
term_of_over tests after k.DotDot w next = t.DotDot
term_of_over tests after k.At w next = t.At
term_of_over tests after k.Comma w next = t.Comma
term_of_over tests after k.DoubleColon w next = t.DoubleColon
term_of_over tests after k.Literal w next = t.Literal (chars w)
term_of_over tests after k.Number w next = number_term w
term_of_over tests after k.Prefixed w next = t.Prefixed
term_of_over tests after k.Variable w next = t.Variable
term_of_over tests after k.Slash w next = t.Slash
term_of_over tests after k.DoubleSlash w next = t.DoubleSlash
term_of_over tests after k.Bar w next = t.Bar
term_of_over tests after k.Plus w next = t.Plus
term_of_over tests after k.Minus w next = t.Minus
term_of_over tests after k.Equal w next = t.Equal
term_of_over tests after k.Unequal w next = t.Unequal
term_of_over tests after k.Less w next = t.Less
term_of_over tests after k.LessEqual w next = t.LessEqual
term_of_over tests after k.Greater w next = t.Greater
term_of_over tests after k.GreaterEqual w next = t.GreaterEqual

abbrev pub term_of : Bool → XKind → Text → Option XKind → Term
term_of after kind w next = term_of_over [] after kind w next

-- the term is none of `@`, `::`, `(`, `[`, `,` and an operator
abbrev pub is_operand : Term → Bool
is_operand t.At = false
is_operand t.DoubleColon = false
is_operand t.OpenRound = false
is_operand t.OpenSquare = false
is_operand t.Comma = false
is_operand t.Slash = false
is_operand t.DoubleSlash = false
is_operand t.Bar = false
is_operand t.Plus = false
is_operand t.Minus = false
is_operand t.Equal = false
is_operand t.Unequal = false
is_operand t.Less = false
is_operand t.LessEqual = false
is_operand t.Greater = false
is_operand t.GreaterEqual = false
is_operand t.Or = false
is_operand t.And = false
is_operand t.Times = false
is_operand t.Mod = false
is_operand t.Div = false
is_operand t.CloseRound = true
is_operand t.CloseSquare = true
is_operand t.Dot = true
is_operand t.DotDot = true
is_operand t.AnyName = true
is_operand (t.Name n) = true
is_operand t.Prefixed = true
is_operand (t.Axis a) = true
is_operand (t.NodeType n) = true
is_operand (t.Function g) = true
is_operand t.UnknownFunction = true
is_operand (t.Literal s) = true
is_operand (t.Number n) = true
is_operand t.Fraction = true
is_operand t.TooLarge = true
is_operand t.Variable = true
is_operand t.Unknown = true

abbrev pub next_kind : List Lexeme → Option XKind
next_kind [] = None
next_kind (w ∷ ws) = Some w.kind

-- the terms of the tokens that stand after such a token, or not
abbrev pub terms_after_over : Known → Bool → List Lexeme → List Term
terms_after_over tests after [] = []
terms_after_over tests after (w ∷ ws) =
    let found = term_of_over tests after w.kind w.text (next_kind ws) in found ∷ terms_after_over tests (is_operand found) ws

abbrev pub terms_after : Bool → List Lexeme → List Term
terms_after after ws = terms_after_over [] after ws

-- the terms where these tests are stored
abbrev pub terms_over : Known → List Lexeme → List Term
terms_over tests ws = terms_after_over tests false ws

-- the terms of XPath 1.0 alone
abbrev pub terms : List Lexeme → List Term
terms ws = terms_over [] ws

-- ---- what makes no expression although the grammar reads it

-- a fraction, a number beyond 2^53 - 1, `div`, a variable, a prefixed name, a function that is not known
abbrev pub is_refused : Term → Bool
is_refused t.Fraction = true
is_refused t.TooLarge = true
is_refused t.Div = true
is_refused t.Variable = true
is_refused t.Prefixed = true
is_refused t.UnknownFunction = true
is_refused t.OpenRound = false
is_refused t.CloseRound = false
is_refused t.OpenSquare = false
is_refused t.CloseSquare = false
is_refused t.Dot = false
is_refused t.DotDot = false
is_refused t.At = false
is_refused t.Comma = false
is_refused t.DoubleColon = false
is_refused t.Slash = false
is_refused t.DoubleSlash = false
is_refused t.Bar = false
is_refused t.Plus = false
is_refused t.Minus = false
is_refused t.Equal = false
is_refused t.Unequal = false
is_refused t.Less = false
is_refused t.LessEqual = false
is_refused t.Greater = false
is_refused t.GreaterEqual = false
is_refused t.Or = false
is_refused t.And = false
is_refused t.Times = false
is_refused t.Mod = false
is_refused t.AnyName = false
is_refused (t.Name n) = false
is_refused (t.Axis a) = false
is_refused (t.NodeType n) = false
is_refused (t.Function g) = false
is_refused (t.Literal s) = false
is_refused (t.Number n) = false
is_refused t.Unknown = false

abbrev pub is_open : Lexeme → Bool
is_open w = opens w.kind
  where
    opens : XKind → Bool
    opens k.OpenRound = true
    opens k.OpenSquare = true
    opens _ = false

abbrev pub is_close : Lexeme → Bool
is_close w = closes w.kind
  where
    closes : XKind → Bool
    closes k.CloseRound = true
    closes k.CloseSquare = true
    closes _ = false

-- the most brackets that may be open
abbrev pub most_open : ℕ
most_open = 64

-- At no token are the `(` and `[` so far more than the `)` and `]` so far by more than 64.
abbrev pub IsShallow : List Lexeme → Type 0
IsShallow ws = (i : ℕ) → i ≤ length ws → count_by is_open (take i ws) ≤ count_by is_close (take i ws) + most_open
