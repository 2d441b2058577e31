-- The types of the predicates of the tests that hold no selectors.
use Rattle.std.proofs.Common.{◌≡◌, refl, ◌∙◌, ap, ℕ, suc, Bool, true, false, ◌&&◌, ◌||◌, cond, List, [], ◌∷◌, ◌++◌, map, length, Option, Some, None, codes, arith}
use Rattle.std.specs.Prelude.{ℤ, pos, nat_le}
use Rattle.std.specs.Char.{to_ascii_lowercase}
use Rattle.std.specs.List.{list_all, list_any}
use Rattle.std.proofs.lemmas.Bool.{le-leb}
use Rattle.text_base.specs.Text.{is_space5}
use Rattle.text_base.specs.Strings.{is_empty}
use Rattle.doc_model.specs.declared.Axis.{Axis}
use Rattle.doc_model.specs.declared.Axis.TheVariants as axis
use Rattle.doc_model.specs.declared.NodeTest.TheVariants as node
use Rattle.css_selectors.specs.declared.selector.Dialect.{Dialect}
use Rattle.css_selectors.specs.declared.selector.Dialect.TheVariants.{Generic, Html}
use Rattle.css_selectors.specs.declared.selector.Nth.{Nth}
use Rattle.css_selectors.specs.declared.selector.Nth.TheVariants as nth
use Rattle.css_selectors.specs.declared.selector.Op.{Op}
use Rattle.css_selectors.specs.declared.selector.Op.TheVariants as op
use Rattle.css_selectors.specs.declared.selector.Pseudo.{Pseudo}
use Rattle.css_selectors.specs.declared.selector.Pseudo.TheVariants as pseudo
use Rattle.css_meaning.specs.Names.{folded}
use Rattle.xpath_values.specs.declared.value.Compare.TheVariants as compare
use Rattle.xpath_values.specs.declared.value.Shape.{Shape}
use Rattle.xpath_values.specs.declared.value.Shape.TheVariants as shape
use Rattle.xpath_parser.specs.declared.expression.Expr.{Expr}
use Rattle.xpath_parser.specs.declared.expression.Expr.TheVariants as e
use Rattle.xpath_parser.specs.declared.expression.Func.TheVariants as f
use Rattle.xpath_parser.specs.declared.expression.Infix.TheVariants as infix_of
use Rattle.xpath_parser.specs.Shapes.{Typing, typing}
use Rattle.css_printed.specs.Simples.{behind_first}
use Rattle.css_printed.specs.Conditions.{Condition, never, exactly, at_least, at_most, every, conditions}
use Rattle.css_printed.specs.Literals.{Quoted, literal_parts}
use Rattle.css_printed.specs.Names.{is_plain}
use Rattle.css_printed.specs.inner.Predicates as x
use Rattle.css_printed.specs.inner.Predicates.{node_test, name_brackets, predicates_of_name, test_of_name, literal_of}
use Rattle.css_printed.proofs.TypesPieces.{Typed, AllRight, call_typing, literal_typing, literal_typed, number_typed, call_none, call_one, call_two, call_three, joins_typed, no_expression, front, one, join, each_one, or_typed, and_typed, path_typed}

-- ---- literals

all_literals : (qs : List Quoted) → list_all (λ t. t.right && true) (map typing (map (λ s. e.Literal s.content) qs)) ≡ true
all_literals [] = refl
all_literals (q ∷ qs) =
    ap (λ (t : Typing). (t.right && true) && list_all (λ t. t.right && true) (map typing (map (λ s. e.Literal s.content) qs))) (literal_typing q.content) ∙ all_literals qs

at_least_two : (n : ℕ) → nat_le 2 (suc (suc n)) ≡ true
at_least_two n = le-leb 2 (suc (suc n)) (omega arith)

literal_by : (qs : List Quoted) → Typed (literal_of qs) shape.Str
literal_by [] = literal_typed []
literal_by (q ∷ []) = literal_typed q.content
literal_by (q ∷ (r ∷ rs)) = record {
  is =
      call_typing f.Concat (map (λ s. e.Literal s.content) (q ∷ (r ∷ rs)))
      ∙ ap (λ b. record { shape = shape.Str; right = b && list_all (λ t. t.right && true) (map typing (map (λ s. e.Literal s.content) (q ∷ (r ∷ rs)))) })
      (at_least_two (length (map typing (map (λ s. e.Literal s.content) rs))))
      ∙ ap (λ b. record { shape = shape.Str; right = b }) (all_literals (q ∷ (r ∷ rs)));
}

pub text_typed : (v : List ℕ) → Typed (x.literal v) shape.Str
text_typed v = literal_by (literal_parts v)

-- ---- names

named_typed : (n : List ℕ) → Typed (x.named n) shape.Bool
named_typed n = joins_typed (infix_of.Compare compare.Equal) (call_none f.Name refl) (text_typed n)

by_plain : (b : Bool) (n : List ℕ) → AllRight (cond b [] (x.named n ∷ []))
by_plain true n = no_expression
by_plain false n = one (named_typed n)

pub of_name_right : (n : List ℕ) → AllRight (predicates_of_name n)
of_name_right n = by_plain (is_plain n) n

pub name_right : (d : Dialect) (el : Option (List ℕ)) → AllRight (name_brackets d el)
name_right d None = no_expression
name_right d (Some n) = of_name_right (folded d n)

pub elements_typed : (d : Dialect) (a : Axis) (el : Option (List ℕ)) → Typed (x.elements d a el) shape.Nodes
elements_typed d a el = path_typed a (node_test d el) (name_right d el)

pub attribute_typed : (d : Dialect) (n : List ℕ) → Typed (x.attribute d n) shape.Nodes
attribute_typed d n = path_typed axis.Attribute (test_of_name (folded d n)) (of_name_right (folded d n))

pub plain_attribute_typed : (n : List ℕ) → Typed (x.plain_attribute n) shape.Nodes
plain_attribute_typed n = path_typed axis.Attribute (node.Name n) no_expression

self_named_typed : (n : List ℕ) → Typed (x.self_named n) shape.Nodes
self_named_typed n = path_typed axis.OwnSelf (node.Name n) no_expression

-- ---- small words

pub nowhere_typed : Typed (x.number 0) shape.Num
nowhere_typed = number_typed (pos 0)

pub equals_typed : {y z : Expr} {s u : Shape} → Typed y s → Typed z u → Typed (x.equals y z) shape.Bool
equals_typed a b = joins_typed (infix_of.Compare compare.Equal) a b

both_typed : {y z : Expr} {s u : Shape} → Typed y s → Typed z u → Typed (x.both y z) shape.Bool
both_typed a b = and_typed (front a (one b))

either_typed : {y z : Expr} {s u : Shape} → Typed y s → Typed z u → Typed (e.Or (y ∷ z ∷ [])) shape.Bool
either_typed a b = or_typed (front a (one b))

or_nowhere : (b : Bool) {y : Expr} {s : Shape} → Typed y s → AllRight (cond b (x.number 0) y ∷ [])
or_nowhere true h = one nowhere_typed
or_nowhere false h = one h

-- ---- attributes

module _ (y : Expr) (a : Typed y shape.Nodes) where
  word_right : (v : List ℕ) → AllRight (x.word_predicate y v ∷ [])
  word_right v =
      or_nowhere (is_empty v || list_any is_space5 v)
      (both_typed a (call_two f.Contains (call_three f.Concat (text_typed (codes " ")) (call_one f.NormalizeSpace a refl) (text_typed (codes " ")) refl) (text_typed (codes " " ++ (v ++ codes " "))) refl))

  begins_typed : (v : List ℕ) → Typed (e.Call f.StartsWith (y ∷ x.literal v ∷ [])) shape.Bool
  begins_typed v = call_two f.StartsWith a (text_typed v) refl

  suffix_right : (v : List ℕ) → AllRight (x.suffix_predicate y v ∷ [])
  suffix_right v =
      or_nowhere (is_empty v)
      (both_typed a (equals_typed
      (call_two f.Substring a (joins_typed infix_of.Sub (call_one f.StringLength a refl) (number_typed (pos (behind_first v)))) refl)
      (text_typed v)))

  pub op_right : (o : Op) (v : List ℕ) → AllRight (x.op_predicate y o v ∷ [])
  op_right op.Exists v = one a
  op_right op.Equals v = one (equals_typed a (text_typed v))
  op_right op.Word v = word_right v
  op_right op.Dash v = one (both_typed a (either_typed (equals_typed a (text_typed v)) (begins_typed (v ++ codes "-"))))
  op_right op.Prefix v = or_nowhere (is_empty v) (both_typed a (begins_typed v))
  op_right op.Suffix v = suffix_right v
  op_right op.Substring v = or_nowhere (is_empty v) (both_typed a (call_two f.Contains a (text_typed v) refl))

-- ---- positions

siblings_typed : (d : Dialect) (el : Option (List ℕ)) (kind : Nth) → Typed (x.siblings d el kind) shape.Nodes
siblings_typed d el nth.Child = path_typed axis.PrecedingSibling node.AnyName no_expression
siblings_typed d el nth.LastChild = path_typed axis.FollowingSibling node.AnyName no_expression
siblings_typed d el nth.OfType = elements_typed d axis.PrecedingSibling el
siblings_typed d el nth.LastOfType = elements_typed d axis.FollowingSibling el

count_typed : {y : Expr} → Typed y shape.Nodes → Typed (x.count y) shape.Num
count_typed a = call_one f.Count a refl

condition_right : {y : Expr} → Typed y shape.Nodes → (c : Condition) → AllRight (x.condition_predicate y c ∷ [])
condition_right a never = one nowhere_typed
condition_right a (exactly n) = one (equals_typed (count_typed a) (number_typed (pos n)))
condition_right a (at_least n) = one (joins_typed (infix_of.Compare compare.GreaterEqual) (count_typed a) (number_typed (pos n)))
condition_right a (at_most n) = one (joins_typed (infix_of.Compare compare.LessEqual) (count_typed a) (number_typed (pos n)))
condition_right a (every n r) = one (equals_typed (joins_typed infix_of.Mod (count_typed a) (number_typed (pos n))) (number_typed (pos r)))

pub nth_right : (d : Dialect) (el : Option (List ℕ)) (kind : Nth) (a b : ℤ) → AllRight (x.nth_predicates d el kind a b)
nth_right d el kind a b = each_one (x.condition_predicate (x.siblings d el kind)) (condition_right (siblings_typed d el kind)) (conditions a b)

-- ---- pseudo-classes

pub not_typed : {y : Expr} {s : Shape} → Typed y s → Typed (x.not_one y) shape.Bool
not_typed a = call_one f.Not a refl

one_of_typed : (ns : List (List ℕ)) → Typed (x.one_of ns) shape.Bool
one_of_typed ns = or_typed (each_one x.self_named (λ n. one (self_named_typed n)) ns)

html_right : (d : Dialect) {y : Expr} {s : Shape} → Typed y s → AllRight (x.html_predicate d y ∷ [])
html_right Generic a = one nowhere_typed
html_right Html a = one a

control_typed : Typed x.control shape.Bool
control_typed = one_of_typed (codes "button" ∷ codes "fieldset" ∷ codes "input" ∷ codes "optgroup" ∷ codes "option" ∷ codes "select" ∷ codes "textarea" ∷ [])

link_typed : Typed x.link_predicate shape.Bool
link_typed = both_typed (plain_attribute_typed (codes "href")) (one_of_typed (codes "a" ∷ codes "area" ∷ codes "link" ∷ []))

type_is : (v : List ℕ) → Typed (x.equals (x.plain_attribute (codes "type")) (x.literal v)) shape.Bool
type_is v = equals_typed (plain_attribute_typed (codes "type")) (text_typed v)

checked_typed : Typed x.checked_predicate shape.Bool
checked_typed =
    either_typed (both_typed (plain_attribute_typed (codes "selected")) (self_named_typed (codes "option")))
    (and_typed (front (plain_attribute_typed (codes "checked")) (front (self_named_typed (codes "input")) (one (either_typed (type_is (codes "checkbox")) (type_is (codes "radio")))))))

pub pseudo_right : (d : Dialect) (el : Option (List ℕ)) (c : Pseudo) → AllRight (x.pseudo_predicates d el c)
pseudo_right d el pseudo.OnlyChild = join (nth_right d el nth.Child (pos 0) (pos 1)) (nth_right d el nth.LastChild (pos 0) (pos 1))
pseudo_right d el pseudo.OnlyOfType = join (nth_right d el nth.OfType (pos 0) (pos 1)) (nth_right d el nth.LastOfType (pos 0) (pos 1))
pseudo_right d el pseudo.Empty = one (both_typed (not_typed (path_typed axis.Child node.AnyName no_expression)) (not_typed (path_typed axis.Child node.Text no_expression)))
pseudo_right d el pseudo.Root = one (not_typed (path_typed axis.Parent node.AnyName no_expression))
pseudo_right d el pseudo.Never = one nowhere_typed
pseudo_right d el pseudo.Link = html_right d link_typed
pseudo_right d el pseudo.Checked = html_right d checked_typed
pseudo_right d el pseudo.Enabled = html_right d (both_typed (not_typed (plain_attribute_typed (codes "disabled"))) control_typed)
pseudo_right d el pseudo.Disabled = html_right d (both_typed (plain_attribute_typed (codes "disabled")) control_typed)

-- ---- languages

begins_with : (v : List ℕ) → Typed (x.lang_begins v) shape.Bool
begins_with v =
    call_two f.StartsWith
    (call_two f.Concat
    (call_three f.Translate (plain_attribute_typed (codes "lang")) (text_typed (codes "ABCDEFGHIJKLMNOPQRSTUVWXYZ")) (text_typed (codes "abcdefghijklmnopqrstuvwxyz")) refl)
    (text_typed (codes "-")) refl)
    (text_typed (map to_ascii_lowercase v ++ codes "-")) refl

pub lang_right : (d : Dialect) (v : List ℕ) → AllRight (x.lang_predicate d v ∷ [])
lang_right Generic v = one (call_one f.Lang (text_typed v) refl)
lang_right Html v = one (path_typed axis.AncestorOrSelf node.AnyName (front (plain_attribute_typed (codes "lang")) (front (number_typed (pos 1)) (one (begins_with v)))))
