-- A plain text of a selector list: each compound with its element or `*`, each name and string in escapes, an empty comment
-- after each token. It says what the grammar reads without the grammar's words.
use Rattle.std.specs.Prelude.{ℕ, ℤ, pos, negsuc, nat_abs, if◌then◌else◌, List, [], ◌∷◌, ◌++◌, map, flat_map, Option, Some, None, codes}
use Rattle.std.specs.Fmt.{decimal}
use Rattle.css_lexer.specs.declared.tokens.CssKind.{CssKind}
use Rattle.css_lexer.specs.declared.tokens.CssKind.TheVariants as kind
use Rattle.css_lexer.specs.Spelled.{Sign, Name, Call, Hash, Quoted, Number, LetterN, Blank, Mark, spelled}
use Rattle.css_selectors.specs.declared.selector.Compound.{Compound}
use Rattle.css_selectors.specs.declared.selector.Link.{Link}
use Rattle.css_selectors.specs.declared.selector.Link.TheVariants as link
use Rattle.css_selectors.specs.declared.selector.Nth.{Nth}
use Rattle.css_selectors.specs.declared.selector.Nth.TheVariants as nth
use Rattle.css_selectors.specs.declared.selector.Op.{Op}
use Rattle.css_selectors.specs.declared.selector.Op.TheVariants as op
use Rattle.css_selectors.specs.declared.selector.Part.{Part}
use Rattle.css_selectors.specs.declared.selector.Pseudo.{Pseudo}
use Rattle.css_selectors.specs.declared.selector.Pseudo.TheVariants as pseudo
use Rattle.css_selectors.specs.declared.selector.Relative.{Relative}
use Rattle.css_selectors.specs.declared.selector.Selector.{Selector}
use Rattle.css_selectors.specs.declared.selector.SelectorList.{SelectorList}
use Rattle.css_selectors.specs.declared.selector.Simple.{Simple}
use Rattle.css_selectors.specs.declared.selector.Tail.{Tail}
use Rattle.css_selectors.specs.declared.selector.Tail.TheVariants as tail
use Rattle.css_selectors.specs.declared.selector.Test.{Test}
use Rattle.css_selectors.specs.declared.selector.Test.TheFolds.{fold-Test, fold-Compound, fold-Part, fold-Relative, fold-Simple}
use Rattle.css_selectors.specs.declared.selector.Test.TheOpen as open_
use Rattle.css_selectors.specs.declared.selector.Weight.{Weight}
use Rattle.css_selectors.specs.declared.selector.Weight.TheVariants as weight

-- an element's name, or `*`
abbrev pub element_signs : Option (List ℕ) → List Sign
element_signs None = Mark kind.Star ∷ []
element_signs (Some n) = Name n ∷ []

-- a pseudo-class with an argument
abbrev pub called : List ℕ → List Sign → List Sign
called name argument = Mark kind.Colon ∷ Call name ∷ (argument ++ Mark kind.CloseRound ∷ [])

-- with commas between
abbrev pub listed : List (List Sign) → List Sign
listed [] = []
listed (x ∷ []) = x
listed (x ∷ y ∷ xs) = x ++ (Mark kind.Comma ∷ listed (y ∷ xs))

-- the operator and the value, where it is compared with one
abbrev pub compared_signs : Op → List ℕ → List Sign
compared_signs op.Exists v = []
compared_signs op.Equals v = Mark kind.Equal ∷ Quoted v ∷ []
compared_signs op.Word v = Mark kind.WordMatch ∷ Quoted v ∷ []
compared_signs op.Dash v = Mark kind.DashMatch ∷ Quoted v ∷ []
compared_signs op.Prefix v = Mark kind.PrefixMatch ∷ Quoted v ∷ []
compared_signs op.Suffix v = Mark kind.SuffixMatch ∷ Quoted v ∷ []
compared_signs op.Substring v = Mark kind.PartMatch ∷ Quoted v ∷ []

abbrev pub attribute_signs : List ℕ → Op → List ℕ → List Sign
attribute_signs name o v = Mark kind.OpenSquare ∷ Name name ∷ (compared_signs o v ++ Mark kind.CloseSquare ∷ [])

abbrev pub nth_name : Nth → List ℕ
nth_name nth.Child = codes "nth-child"
nth_name nth.LastChild = codes "nth-last-child"
nth_name nth.OfType = codes "nth-of-type"
nth_name nth.LastOfType = codes "nth-last-of-type"

abbrev pub sign_of : ℤ → CssKind
sign_of (pos n) = kind.Plus
sign_of (negsuc n) = kind.Minus

-- `an+b`, with the sign of each
abbrev pub line_signs : ℤ → ℤ → List Sign
line_signs a b = Mark (sign_of a) ∷ Number (decimal (nat_abs a)) ∷ LetterN ∷ Mark (sign_of b) ∷ Number (decimal (nat_abs b)) ∷ []

abbrev pub pseudo_name : Pseudo → List ℕ
pseudo_name pseudo.OnlyChild = codes "only-child"
pseudo_name pseudo.OnlyOfType = codes "only-of-type"
pseudo_name pseudo.Empty = codes "empty"
pseudo_name pseudo.Root = codes "root"
pseudo_name pseudo.Never = codes "hover"
pseudo_name pseudo.Link = codes "link"
pseudo_name pseudo.Checked = codes "checked"
pseudo_name pseudo.Enabled = codes "enabled"
pseudo_name pseudo.Disabled = codes "disabled"

abbrev pub weight_name : Weight → List ℕ
weight_name weight.Most = codes "is"
weight_name weight.Zero = codes "where"

-- a test, and its negation
pub record TestSigns : Type 0 where
  pub stands : List Sign
  pub denied : List Sign

abbrev pub plain_signs : List Sign → TestSigns
plain_signs ss = record { stands = ss; denied = called (codes "not") ss }

-- The negation of a choice of the greatest weight is that of what it offers.
abbrev pub test_step : open_.Test-F TestSigns (List Sign) (Link × List Sign) (List Sign) (List Sign) → TestSigns
test_step (open_.Element n) = plain_signs (element_signs n)
test_step (open_.Id x) = plain_signs (Hash x ∷ [])
test_step (open_.Class x) = plain_signs (Mark kind.Dot ∷ Name x ∷ [])
test_step (open_.Attr name o v) = plain_signs (attribute_signs name o v)
test_step (open_.Nth position a b) = plain_signs (called (nth_name position) (line_signs a b))
test_step (open_.Pseudo p) = plain_signs (Mark kind.Colon ∷ Name (pseudo_name p) ∷ [])
test_step (open_.Contains x) = plain_signs (called (codes "contains") (Quoted x ∷ []))
test_step (open_.Lang x) = plain_signs (called (codes "lang") (Quoted x ∷ []))
test_step (open_.Any w list) = record { stands = called (weight_name w) (listed list); denied = called (codes "not") (listed list) }
test_step (open_.Has list) = plain_signs (called (codes "has") (listed list))

abbrev pub simple_step : open_.Simple-F TestSigns (List Sign) (Link × List Sign) (List Sign) (List Sign) → List Sign
simple_step x = if x.negated then x.test.denied else x.test.stands

abbrev pub compound_step : open_.Compound-F TestSigns (List Sign) (Link × List Sign) (List Sign) (List Sign) → List Sign
compound_step c = element_signs c.element ++ flat_map (λ x. x) c.simples

abbrev pub part_step : open_.Part-F TestSigns (List Sign) (Link × List Sign) (List Sign) (List Sign) → Link × List Sign
part_step p = (p.link, element_signs p.element ++ flat_map (λ x. x) p.simples)

-- the combinator before a part
abbrev pub link_signs : Link → List Sign
link_signs link.First = []
link_signs link.Descendant = Blank ∷ []
link_signs link.Child = Mark kind.Greater ∷ []
link_signs link.Next = Mark kind.Plus ∷ []
link_signs link.Later = Mark kind.Tilde ∷ []

-- before the first part of a relative, where white space says nothing
abbrev pub first_signs : Link → List Sign
first_signs link.First = []
first_signs link.Descendant = []
first_signs link.Child = Mark kind.Greater ∷ []
first_signs link.Next = Mark kind.Plus ∷ []
first_signs link.Later = Mark kind.Tilde ∷ []

-- parts, each after its combinator
abbrev pub chain_signs : List (Link × List Sign) → List Sign
chain_signs ps = flat_map (λ p. link_signs p.0 ++ p.1) ps

abbrev pub path_signs : List (Link × List Sign) → List Sign
path_signs [] = []
path_signs (p ∷ ps) = first_signs p.0 ++ (p.1 ++ chain_signs ps)

abbrev pub relative_step : open_.Relative-F TestSigns (List Sign) (Link × List Sign) (List Sign) (List Sign) → List Sign
relative_step r = path_signs r.parts

unfoldable pub test_signs : Test → TestSigns
test_signs = fold-Test TestSigns (List Sign) (Link × List Sign) (List Sign) (List Sign) test_step compound_step part_step relative_step simple_step

unfoldable pub compound_signs : Compound → List Sign
compound_signs = fold-Compound TestSigns (List Sign) (Link × List Sign) (List Sign) (List Sign) test_step compound_step part_step relative_step simple_step

unfoldable pub part_signs : Part → Link × List Sign
part_signs = fold-Part TestSigns (List Sign) (Link × List Sign) (List Sign) (List Sign) test_step compound_step part_step relative_step simple_step

unfoldable pub relative_signs : Relative → List Sign
relative_signs = fold-Relative TestSigns (List Sign) (Link × List Sign) (List Sign) (List Sign) test_step compound_step part_step relative_step simple_step

unfoldable pub simple_signs : Simple → List Sign
simple_signs = fold-Simple TestSigns (List Sign) (Link × List Sign) (List Sign) (List Sign) test_step compound_step part_step relative_step simple_step

-- a tail that is no element, after the last part
abbrev pub tail_signs : Tail → List Sign
tail_signs tail.Element = []
tail_signs tail.Text = Mark kind.DoubleColon ∷ Name (codes "text") ∷ []
tail_signs (tail.Attr n) = Mark kind.DoubleColon ∷ Call (codes "attr") ∷ Name n ∷ Mark kind.CloseRound ∷ []

abbrev pub selector_signs : Selector → List Sign
selector_signs s = chain_signs (map part_signs s.parts) ++ tail_signs s.tail

abbrev pub list_signs : SelectorList → List Sign
list_signs list = listed (map selector_signs list.items)

abbrev pub written : SelectorList → List ℕ
written list = spelled (list_signs list)
