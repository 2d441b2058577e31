-- The pseudo-classes, as predicates.
use Rattle.std.proofs.Common.{refl, ℕ, List, [], ◌∷◌, ◌++◌, map, Option, codes}
use Rattle.std.specs.Prelude.{pos}
use Rattle.doc_model.specs.declared.Axis.TheVariants as axis
use Rattle.doc_model.specs.declared.NodeTest.TheVariants as node
use Rattle.css_selectors.specs.declared.selector.Dialect.{Dialect}
use Rattle.css_selectors.specs.declared.selector.Dialect.TheVariants.{Generic, Html}
use Rattle.css_selectors.specs.declared.selector.Nth.TheVariants as nth
use Rattle.css_selectors.specs.declared.selector.Pseudo.{Pseudo}
use Rattle.css_selectors.specs.declared.selector.Pseudo.TheVariants as pseudo
use Rattle.xpath_parser.specs.declared.expression.Expr.{Expr}
use Rattle.xpath_parser.specs.declared.expression.Expr.TheVariants as e
use Rattle.xpath_parser.specs.declared.expression.Func.TheVariants as f
use Rattle.xpath_parser.specs.declared.term.Term.{Term}
use Rattle.xpath_parser.specs.declared.term.Term.TheVariants as t
use Rattle.xpath_parser.specs.Grammar as g
use Rattle.xpath_parser.specs.Grammar.{Reads, Operands}
use Rattle.css_printed.specs.inner.Predicates as x
use Rattle.css_printed.proofs.Readings.{up, to_2, to_5, whole}
use Rattle.css_printed.proofs.ReadsPieces.{to_6, to_7, Brackets, bracket, join, nowhere_reads, any_tested, text_tested, axis_step, child_step, single, equal, and_two, and_three, or_two, round, literal_reads, call_one}
use Rattle.css_printed.proofs.ReadsNames.{plain_attribute_reads, self_named_reads}
use Rattle.css_printed.proofs.ReadsPositions.{nth_reads}
use Rattle.css_printed.proofs.TemplateTerms as p

-- ---- one of some names

abbrev others : List (List ℕ) → Operands
others ns = map (λ n. (t.Or, x.self_named n)) ns

others_read : (n : List ℕ) (ns : List (List ℕ)) → Reads (t.Or ∷ p.one_of (n ∷ ns)) (g.rest 7 (others (n ∷ ns)))
others_read n [] = g.rest_more refl (to_7 (self_named_reads n)) g.rest_end refl
others_read n (m ∷ ms) = g.rest_more refl (to_7 (self_named_reads n)) (others_read m ms) refl

one_of_reads : (n m : List ℕ) (ms : List (List ℕ)) → Reads (p.one_of (n ∷ (m ∷ ms))) (g.at 8 (g.made 8 (x.self_named n) (others (m ∷ ms))))
one_of_reads n m ms = g.tier refl (to_7 (self_named_reads n)) (others_read m ms) refl

control_reads : Reads p.control (g.at 8 x.control)
unfolding g.joined
control_reads = one_of_reads (codes "button") (codes "fieldset") (codes "input" ∷ codes "optgroup" ∷ codes "option" ∷ codes "select" ∷ codes "textarea" ∷ [])

links_read : Reads (p.one_of (codes "a" ∷ codes "area" ∷ codes "link" ∷ [])) (g.at 8 (x.one_of (codes "a" ∷ codes "area" ∷ codes "link" ∷ [])))
unfolding g.joined
links_read = one_of_reads (codes "a") (codes "area") (codes "link" ∷ [])

-- ---- the pseudo-classes

html_reads : (d : Dialect) {ts : List Term} {y : Expr} → Brackets ts (y ∷ []) → Brackets (p.html_only d ts) (x.html_predicate d y ∷ [])
html_reads Generic h = nowhere_reads
html_reads Html h = h

empty_reads : Brackets p.empty_terms (x.both (x.not_one (x.path axis.Child node.AnyName [])) (x.not_one (x.path axis.Child node.Text [])) ∷ [])
empty_reads = bracket (up 7 (and_two (to_6 (call_one f.Not (whole (single (child_step any_tested))))) (to_6 (call_one f.Not (whole (single (child_step text_tested)))))) refl)

link_reads : Brackets p.link_terms (x.link_predicate ∷ [])
link_reads = bracket (up 7 (and_two (to_6 (plain_attribute_reads (codes "href"))) (to_6 (round links_read))) refl)

type_is : (v : List ℕ) → Reads (p.plain_attribute (codes "type") ++ (t.Equal ∷ t.Literal v ∷ [])) (g.at 6 (x.equals (x.plain_attribute (codes "type")) (e.Literal v)))
type_is v = equal (to_5 (to_2 (plain_attribute_reads (codes "type")))) (to_5 (to_2 (literal_reads v)))

checked_reads : Brackets p.checked_terms (x.checked_predicate ∷ [])
checked_reads =
    bracket (or_two
    (to_7 (round (up 7 (and_two (to_6 (plain_attribute_reads (codes "selected"))) (to_6 (self_named_reads (codes "option")))) refl)))
    (to_7 (round (up 7 (and_three (to_6 (plain_attribute_reads (codes "checked"))) (to_6 (self_named_reads (codes "input")))
    (to_6 (round (or_two (up 6 (type_is (codes "checkbox")) refl) (up 6 (type_is (codes "radio")) refl))))) refl))))

disabled : Reads (p.plain_attribute (codes "disabled")) (g.at 0 (x.plain_attribute (codes "disabled")))
disabled = plain_attribute_reads (codes "disabled")

enabled_reads : Brackets p.enabled_terms (x.both (x.not_one (x.plain_attribute (codes "disabled"))) x.control ∷ [])
enabled_reads = bracket (up 7 (and_two (to_6 (call_one f.Not (whole disabled))) (to_6 (round control_reads))) refl)

disabled_reads : Brackets p.disabled_terms (x.both (x.plain_attribute (codes "disabled")) x.control ∷ [])
disabled_reads = bracket (up 7 (and_two (to_6 disabled) (to_6 (round control_reads))) refl)

pub pseudo_reads : (d : Dialect) (el : Option (List ℕ)) (c : Pseudo) → Brackets (p.pseudo_terms d el c) (x.pseudo_predicates d el c)
pseudo_reads d el pseudo.OnlyChild = join (nth_reads d el nth.Child (pos 0) (pos 1)) (nth_reads d el nth.LastChild (pos 0) (pos 1))
pseudo_reads d el pseudo.OnlyOfType = join (nth_reads d el nth.OfType (pos 0) (pos 1)) (nth_reads d el nth.LastOfType (pos 0) (pos 1))
pseudo_reads d el pseudo.Empty = empty_reads
pseudo_reads d el pseudo.Root = bracket (whole (call_one f.Not (whole (single (axis_step axis.Parent any_tested)))))
pseudo_reads d el pseudo.Never = nowhere_reads
pseudo_reads d el pseudo.Link = html_reads d link_reads
pseudo_reads d el pseudo.Checked = html_reads d checked_reads
pseudo_reads d el pseudo.Enabled = html_reads d enabled_reads
pseudo_reads d el pseudo.Disabled = html_reads d disabled_reads
