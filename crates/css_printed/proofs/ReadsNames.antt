-- Literals, and the names of elements and attributes, as expressions.
use Rattle.std.proofs.Common.{refl, ℕ, Bool, true, false, cond, List, [], ◌∷◌, map, Option, Some, None}
use Rattle.std.specs.Prelude.{◌==◌}
use Rattle.std.specs.List.{list_any}
use Rattle.std.proofs.lemmas.Bool.{cond_both}
use Rattle.doc_model.specs.declared.Axis.{Axis}
use Rattle.doc_model.specs.declared.Axis.TheVariants as axis
use Rattle.doc_model.specs.declared.NodeTest.TheVariants as node
use Rattle.css_selectors.specs.declared.selector.Dialect.{Dialect}
use Rattle.css_meaning.specs.Names.{folded}
use Rattle.xpath_parser.specs.declared.expression.Expr.TheVariants as e
use Rattle.xpath_parser.specs.declared.term.Term.TheVariants as t
use Rattle.xpath_parser.specs.Grammar as g
use Rattle.xpath_parser.specs.Grammar.{Reads}
use Rattle.css_printed.specs.Literals.{Quoted, is_apostrophe, is_double, quote_of, add, quoted_runs, literal_parts}
use Rattle.css_printed.specs.Names.{is_plain}
use Rattle.css_printed.specs.inner.Predicates as x
use Rattle.css_printed.specs.inner.Predicates.{step, node_test, name_brackets, test_of_name, predicates_of_name, attribute_step, elements, literal_of}
use Rattle.css_printed.proofs.Readings.{to_2, to_5, to_8, whole}
use Rattle.css_printed.proofs.ReadsPieces.{Brackets, Tested, bracket, with, any_tested, name_tested, axis_step, at_step, single, equal, lone, literal_reads}
use Rattle.css_printed.proofs.TemplateTerms as p

-- ---- literals

abbrev pub HasParts : List Quoted → Type 0
HasParts [] = ⊥
HasParts (q ∷ qs) = Unit

add_parts : (c : ℕ) (qs : List Quoted) → HasParts (add c qs)
add_parts c [] = tt
add_parts c (q ∷ qs) =
    cond_both (quote_of c == q.quote) (record { quote = q.quote; content = c ∷ q.content } ∷ qs) (record { quote = quote_of c; content = c ∷ [] } ∷ (q ∷ qs)) HasParts (λ e. tt) (λ e. tt)

pub has_parts : (v : List ℕ) → HasParts (literal_parts v)
has_parts [] = tt
has_parts (c ∷ v) =
    cond_both (list_any is_apostrophe (c ∷ v)) (cond (list_any is_double (c ∷ v)) (quoted_runs (c ∷ v)) (record { quote = 34; content = c ∷ v } ∷ [])) (record { quote = 39; content = c ∷ v } ∷ []) HasParts
    (λ e. cond_both (list_any is_double (c ∷ v)) (quoted_runs (c ∷ v)) (record { quote = 34; content = c ∷ v } ∷ []) HasParts (λ e. add_parts c (quoted_runs v)) (λ e. tt))
    (λ e. tt)

listed_reads : (q : Quoted) (qs : List Quoted) → Reads (p.listed (q ∷ qs)) (g.args (map (λ s. e.Literal s.content) (q ∷ qs)))
listed_reads q [] = g.args_one (whole (literal_reads q.content))
listed_reads q (r ∷ rs) = g.args_more (whole (literal_reads q.content)) (listed_reads r rs) refl

shown_reads : (qs : List Quoted) → HasParts qs → Reads (p.shown qs) (g.at 0 (literal_of qs))
shown_reads [] h = absurd h
shown_reads (q ∷ []) h = literal_reads q.content
shown_reads (q ∷ (r ∷ rs)) h = lone (g.call (listed_reads q (r ∷ rs)))

pub text_reads : (v : List ℕ) → Reads (p.literal v) (g.at 0 (x.literal v))
text_reads v = shown_reads (literal_parts v) (has_parts v)

-- ---- names

pub name_bracket_reads : (n : List ℕ) → Brackets (p.name_bracket n) (x.named n ∷ [])
name_bracket_reads n = bracket (to_8 (equal (to_5 (to_2 (lone g.call_none))) (to_5 (to_2 (text_reads n)))))

by_plain : (b : Bool) (n : List ℕ) → Tested (cond b (t.Name n ∷ []) (t.AnyName ∷ p.name_bracket n)) (cond b (node.Name n) node.AnyName) (cond b [] (x.named n ∷ []))
by_plain true n = name_tested n
by_plain false n = with any_tested (name_bracket_reads n)

pub named_tested : (n : List ℕ) → Tested (p.named n) (test_of_name n) (predicates_of_name n)
named_tested n = by_plain (is_plain n) n

pub element_tested : (d : Dialect) (el : Option (List ℕ)) → Tested (p.element d el) (node_test d el) (name_brackets d el)
element_tested d None = any_tested
element_tested d (Some n) = named_tested (folded d n)

pub elements_read : (d : Dialect) (a : Axis) (el : Option (List ℕ)) → Reads (p.on_axis a (p.element d el)) (g.at 0 (elements d a el))
elements_read d a el = single (axis_step a (element_tested d el))

attribute_by : (b : Bool) (n : List ℕ)
    → Reads (cond b (t.At ∷ t.Name n ∷ []) (p.on_axis axis.Attribute (t.AnyName ∷ p.name_bracket n))) (g.step (step axis.Attribute (cond b (node.Name n) node.AnyName) (cond b [] (x.named n ∷ []))))
attribute_by true n = at_step (name_tested n)
attribute_by false n = axis_step axis.Attribute (with any_tested (name_bracket_reads n))

pub attribute_step_reads : (d : Dialect) (n : List ℕ) → Reads (p.attribute d n) (g.step (attribute_step d n))
attribute_step_reads d n = attribute_by (is_plain (folded d n)) (folded d n)

pub attribute_reads : (d : Dialect) (n : List ℕ) → Reads (p.attribute d n) (g.at 0 (x.attribute d n))
attribute_reads d n = single (attribute_step_reads d n)

pub plain_attribute_reads : (n : List ℕ) → Reads (p.plain_attribute n) (g.at 0 (x.plain_attribute n))
plain_attribute_reads n = single (at_step (name_tested n))

pub self_named_reads : (n : List ℕ) → Reads (p.self_named n) (g.at 0 (x.self_named n))
self_named_reads n = single (axis_step axis.OwnSelf (name_tested n))
