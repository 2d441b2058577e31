-- The step of a part, as an expression, by its link, its element and the predicates of its simples.
use Rattle.std.proofs.Common.{ℕ, List, ◌++◌, Option, Some, None}
use Rattle.doc_model.specs.declared.Axis.TheVariants as axis
use Rattle.css_selectors.specs.declared.selector.Dialect.{Dialect}
use Rattle.css_selectors.specs.declared.selector.Link.{Link}
use Rattle.css_selectors.specs.declared.selector.Link.TheVariants as link
use Rattle.xpath_parser.specs.declared.expression.Expr.{Expr}
use Rattle.xpath_parser.specs.declared.term.Term.{Term}
use Rattle.xpath_parser.specs.Grammar as g
use Rattle.xpath_parser.specs.Grammar.{Reads}
use Rattle.css_printed.specs.inner.LinkPredicates.{link_test, link_brackets, axis_of, next_brackets}
use Rattle.css_printed.specs.inner.Predicates.{step}
use Rattle.css_printed.proofs.Readings.{whole}
use Rattle.css_printed.proofs.ReadsNames.{element_tested, elements_read}
use Rattle.css_printed.proofs.ReadsPieces.{Brackets, no_brackets, bracket, join, any_tested, with, axis_step, child_step, number_reads}
use Rattle.css_printed.proofs.TemplateTerms as p

next_reads : (d : Dialect) (el : Option (List ℕ)) → Brackets (p.next_terms d el) (next_brackets d el)
next_reads d None = no_brackets
next_reads d (Some n) = bracket (whole (elements_read d axis.OwnSelf (Some n)))

-- where no other step stands before it
pub first_reads : (d : Dialect) (l : Link) (el : Option (List ℕ)) {ts : List Term} {ps : List Expr} → Brackets ts ps
    → Reads (p.first_terms d l el ++ ts) (g.step (step (axis_of l) (link_test d l el) (link_brackets d l el ++ ps)))
first_reads d link.First el h = axis_step axis.DescendantOrSelf (with (element_tested d el) h)
first_reads d link.Descendant el h = axis_step axis.Descendant (with (element_tested d el) h)
first_reads d link.Child el h = axis_step axis.Child (with (element_tested d el) h)
first_reads d link.Next el h = axis_step axis.FollowingSibling (with (with any_tested (join (bracket (whole (number_reads 1))) (next_reads d el))) h)
first_reads d link.Later el h = axis_step axis.FollowingSibling (with (element_tested d el) h)

-- behind a `/`
pub link_reads : (d : Dialect) (l : Link) (el : Option (List ℕ)) {ts : List Term} {ps : List Expr} → Brackets ts ps
    → Reads (p.link_step_terms d l el ++ ts) (g.step (step (axis_of l) (link_test d l el) (link_brackets d l el ++ ps)))
link_reads d link.First el h = first_reads d link.First el h
link_reads d link.Descendant el h = first_reads d link.Descendant el h
link_reads d link.Child el h = child_step (with (element_tested d el) h)
link_reads d link.Next el h = first_reads d link.Next el h
link_reads d link.Later el h = first_reads d link.Later el h
