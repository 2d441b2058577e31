-- The predicates that the printed tests read as, of those tests that hold no selectors.
use Rattle.std.specs.Prelude.{ℕ, ◌||◌, if◌then◌else◌, List, [], ◌∷◌, ◌++◌, map, Option, Some, None, ℤ, pos, codes}
use Rattle.std.specs.Char.{to_ascii_lowercase}
use Rattle.std.specs.List.{list_any}
use Rattle.text_base.specs.Text.{is_space5}
use Rattle.text_base.specs.Strings.{is_empty}
use Rattle.doc_model.specs.declared.Axis.{Axis}
use Rattle.doc_model.specs.declared.Axis.TheVariants as axis
use Rattle.doc_model.specs.declared.NodeTest.{NodeTest}
use Rattle.doc_model.specs.declared.NodeTest.TheVariants as node
use Rattle.css_selectors.specs.declared.selector.Dialect.{Dialect}
use Rattle.css_selectors.specs.declared.selector.Dialect.TheVariants.{Generic, Html}
use Rattle.css_selectors.specs.declared.selector.Nth.{Nth}
use Rattle.css_selectors.specs.declared.selector.Nth.TheVariants as nth
use Rattle.css_selectors.specs.declared.selector.Op.{Op}
use Rattle.css_selectors.specs.declared.selector.Op.TheVariants as op
use Rattle.css_selectors.specs.declared.selector.Pseudo.{Pseudo}
use Rattle.css_selectors.specs.declared.selector.Pseudo.TheVariants as pseudo
use Rattle.css_meaning.specs.Names.{folded}
use Rattle.xpath_values.specs.declared.value.Compare.TheVariants as compare
use Rattle.xpath_parser.specs.declared.expression.Expr.{Expr}
use Rattle.xpath_parser.specs.declared.expression.Expr.TheVariants as e
use Rattle.xpath_parser.specs.declared.expression.Func.TheVariants as f
use Rattle.xpath_parser.specs.declared.expression.Infix.{Infix}
use Rattle.xpath_parser.specs.declared.expression.Infix.TheVariants as infix_of
use Rattle.xpath_parser.specs.declared.expression.Operand.{roll-Operand}
use Rattle.xpath_parser.specs.declared.expression.Start.TheVariants as start
use Rattle.xpath_parser.specs.declared.expression.Step.{Step, roll-Step}
use Rattle.css_printed.specs.Conditions.{Condition, never, exactly, at_least, at_most, every, conditions}
use Rattle.css_printed.specs.Literals.{Quoted, literal_parts}
use Rattle.css_printed.specs.Names.{is_plain}
use Rattle.css_printed.specs.Simples.{behind_first}

-- ---- small words

abbrev pub step : Axis → NodeTest → List Expr → Step
step a t ps = roll-Step (record { axis = a; test = t; predicates = ps })

-- a path of one step from here
abbrev pub path : Axis → NodeTest → List Expr → Expr
path a t ps = e.Path start.Here (step a t ps ∷ [])

abbrev pub joins : Infix → Expr → Expr → Expr
joins i x y = e.Joined x (roll-Operand (record { op = i; value = y }) ∷ [])

abbrev pub equals : Expr → Expr → Expr
equals x y = joins (infix_of.Compare compare.Equal) x y

abbrev pub both : Expr → Expr → Expr
both x y = e.And (x ∷ y ∷ [])

abbrev pub number : ℕ → Expr
number n = e.Number (pos n)

-- a literal, or a `concat` of several, as the text has quotes
abbrev pub literal_of : List Quoted → Expr
literal_of [] = e.Literal []
literal_of (q ∷ []) = e.Literal q.content
literal_of (q ∷ (r ∷ rs)) = e.Call f.Concat (map (λ s. e.Literal s.content) (q ∷ (r ∷ rs)))

abbrev pub literal : List ℕ → Expr
literal x = literal_of (literal_parts x)

-- ---- names

-- the predicate on a name that is not plain
abbrev pub named : List ℕ → Expr
named n = equals (e.Call f.Name []) (literal n)

abbrev pub test_of_name : List ℕ → NodeTest
test_of_name n = if is_plain n then node.Name n else node.AnyName

abbrev pub predicates_of_name : List ℕ → List Expr
predicates_of_name n = if is_plain n then [] else named n ∷ []

abbrev pub node_test : Dialect → Option (List ℕ) → NodeTest
node_test dialect None = node.AnyName
node_test dialect (Some n) = test_of_name (folded dialect n)

abbrev pub name_brackets : Dialect → Option (List ℕ) → List Expr
name_brackets dialect None = []
name_brackets dialect (Some n) = predicates_of_name (folded dialect n)

-- elements of the axis that have the name
abbrev pub elements : Dialect → Axis → Option (List ℕ) → Expr
elements dialect a element = path a (node_test dialect element) (name_brackets dialect element)

abbrev pub self_named : List ℕ → Expr
self_named n = path axis.OwnSelf (node.Name n) []

-- the attribute of a name
abbrev pub attribute_step : Dialect → List ℕ → Step
attribute_step dialect n = step axis.Attribute (test_of_name (folded dialect n)) (predicates_of_name (folded dialect n))

abbrev pub attribute : Dialect → List ℕ → Expr
attribute dialect n = e.Path start.Here (attribute_step dialect n ∷ [])

-- an attribute of a plain name
abbrev pub plain_attribute : List ℕ → Expr
plain_attribute n = path axis.Attribute (node.Name n) []

-- ---- attributes

abbrev pub word_predicate : Expr → List ℕ → Expr
word_predicate at v =
    if is_empty v || list_any is_space5 v then number 0 else
    both at (e.Call f.Contains
    (e.Call f.Concat (literal (codes " ") ∷ e.Call f.NormalizeSpace (at ∷ []) ∷ literal (codes " ") ∷ [])
    ∷ literal (codes " " ++ (v ++ codes " ")) ∷ []))

abbrev pub dash_predicate : Expr → List ℕ → Expr
dash_predicate at v = both at (e.Or (equals at (literal v) ∷ e.Call f.StartsWith (at ∷ literal (v ++ codes "-") ∷ []) ∷ []))

abbrev pub prefix_predicate : Expr → List ℕ → Expr
prefix_predicate at v = if is_empty v then number 0 else both at (e.Call f.StartsWith (at ∷ literal v ∷ []))

abbrev pub suffix_predicate : Expr → List ℕ → Expr
suffix_predicate at v =
    if is_empty v then number 0 else
    both at (equals
    (e.Call f.Substring (at ∷ joins infix_of.Sub (e.Call f.StringLength (at ∷ [])) (number (behind_first v)) ∷ []))
    (literal v))

abbrev pub substring_predicate : Expr → List ℕ → Expr
substring_predicate at v = if is_empty v then number 0 else both at (e.Call f.Contains (at ∷ literal v ∷ []))

abbrev pub op_predicate : Expr → Op → List ℕ → Expr
op_predicate at op.Exists v = at
op_predicate at op.Equals v = equals at (literal v)
op_predicate at op.Word v = word_predicate at v
op_predicate at op.Dash v = dash_predicate at v
op_predicate at op.Prefix v = prefix_predicate at v
op_predicate at op.Suffix v = suffix_predicate at v
op_predicate at op.Substring v = substring_predicate at v

-- ---- positions

abbrev pub siblings : Dialect → Option (List ℕ) → Nth → Expr
siblings dialect element nth.Child = path axis.PrecedingSibling node.AnyName []
siblings dialect element nth.LastChild = path axis.FollowingSibling node.AnyName []
siblings dialect element nth.OfType = elements dialect axis.PrecedingSibling element
siblings dialect element nth.LastOfType = elements dialect axis.FollowingSibling element

abbrev pub count : Expr → Expr
count x = e.Call f.Count (x ∷ [])

abbrev pub condition_predicate : Expr → Condition → Expr
condition_predicate x never = number 0
condition_predicate x (exactly n) = equals (count x) (number n)
condition_predicate x (at_least n) = joins (infix_of.Compare compare.GreaterEqual) (count x) (number n)
condition_predicate x (at_most n) = joins (infix_of.Compare compare.LessEqual) (count x) (number n)
condition_predicate x (every n r) = equals (joins infix_of.Mod (count x) (number n)) (number r)

abbrev pub nth_predicates : Dialect → Option (List ℕ) → Nth → ℤ → ℤ → List Expr
nth_predicates dialect element kind a b = map (condition_predicate (siblings dialect element kind)) (conditions a b)

-- ---- pseudo-classes

abbrev pub not_one : Expr → Expr
not_one x = e.Call f.Not (x ∷ [])

abbrev pub one_of : List (List ℕ) → Expr
one_of names = e.Or (map self_named names)

abbrev pub control : Expr
control = one_of (codes "button" ∷ codes "fieldset" ∷ codes "input" ∷ codes "optgroup" ∷ codes "option" ∷ codes "select" ∷ codes "textarea" ∷ [])

abbrev pub html_predicate : Dialect → Expr → Expr
html_predicate Generic x = number 0
html_predicate Html x = x

abbrev pub link_predicate : Expr
link_predicate = both (plain_attribute (codes "href")) (one_of (codes "a" ∷ codes "area" ∷ codes "link" ∷ []))

abbrev pub checked_predicate : Expr
checked_predicate =
    e.Or
    (both (plain_attribute (codes "selected")) (self_named (codes "option"))
    ∷ e.And (plain_attribute (codes "checked") ∷ self_named (codes "input")
    ∷ e.Or (equals (plain_attribute (codes "type")) (literal (codes "checkbox")) ∷ equals (plain_attribute (codes "type")) (literal (codes "radio")) ∷ [])
    ∷ [])
    ∷ [])

abbrev pub pseudo_predicates : Dialect → Option (List ℕ) → Pseudo → List Expr
pseudo_predicates dialect element pseudo.OnlyChild =
    nth_predicates dialect element nth.Child (pos 0) (pos 1) ++ nth_predicates dialect element nth.LastChild (pos 0) (pos 1)
pseudo_predicates dialect element pseudo.OnlyOfType =
    nth_predicates dialect element nth.OfType (pos 0) (pos 1) ++ nth_predicates dialect element nth.LastOfType (pos 0) (pos 1)
pseudo_predicates dialect element pseudo.Empty = both (not_one (path axis.Child node.AnyName [])) (not_one (path axis.Child node.Text [])) ∷ []
pseudo_predicates dialect element pseudo.Root = not_one (path axis.Parent node.AnyName []) ∷ []
pseudo_predicates dialect element pseudo.Never = number 0 ∷ []
pseudo_predicates dialect element pseudo.Link = html_predicate dialect link_predicate ∷ []
pseudo_predicates dialect element pseudo.Checked = html_predicate dialect checked_predicate ∷ []
pseudo_predicates dialect element pseudo.Enabled = html_predicate dialect (both (not_one (plain_attribute (codes "disabled"))) control) ∷ []
pseudo_predicates dialect element pseudo.Disabled = html_predicate dialect (both (plain_attribute (codes "disabled")) control) ∷ []

-- ---- languages

abbrev pub lang_begins : List ℕ → Expr
lang_begins x =
    e.Call f.StartsWith
    (e.Call f.Concat
    (e.Call f.Translate (plain_attribute (codes "lang") ∷ literal (codes "ABCDEFGHIJKLMNOPQRSTUVWXYZ") ∷ literal (codes "abcdefghijklmnopqrstuvwxyz") ∷ [])
    ∷ literal (codes "-") ∷ [])
    ∷ literal (map to_ascii_lowercase x ++ codes "-") ∷ [])

abbrev pub lang_predicate : Dialect → List ℕ → Expr
lang_predicate Generic x = e.Call f.Lang (literal x ∷ [])
lang_predicate Html x = path axis.AncestorOrSelf node.AnyName (plain_attribute (codes "lang") ∷ number 1 ∷ lang_begins x ∷ [])
