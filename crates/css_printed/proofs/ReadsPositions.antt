-- The tests of positions, as predicates.
use Rattle.std.proofs.Common.{refl, ℕ, List, [], ◌∷◌, Option}
use Rattle.std.specs.Prelude.{ℤ}
use Rattle.doc_model.specs.declared.Axis.TheVariants as axis
use Rattle.css_selectors.specs.declared.selector.Dialect.{Dialect}
use Rattle.css_selectors.specs.declared.selector.Nth.{Nth}
use Rattle.css_selectors.specs.declared.selector.Nth.TheVariants as nth
use Rattle.xpath_parser.specs.declared.expression.Expr.{Expr}
use Rattle.xpath_parser.specs.declared.expression.Func.TheVariants as f
use Rattle.xpath_parser.specs.declared.term.Term.{Term}
use Rattle.xpath_parser.specs.declared.term.Term.TheVariants as t
use Rattle.xpath_parser.specs.Grammar as g
use Rattle.xpath_parser.specs.Grammar.{Reads}
use Rattle.css_printed.specs.Conditions.{Condition, never, exactly, at_least, at_most, every, conditions}
use Rattle.css_printed.specs.inner.Predicates as x
use Rattle.css_printed.proofs.Readings.{up, to_2, to_5, to_8, whole}
use Rattle.css_printed.proofs.ReadsPieces.{Brackets, bracket, nowhere_reads, each_one, any_tested, axis_step, single, equal, greater_equal, less_equal, modulo, number_reads, call_one}
use Rattle.css_printed.proofs.ReadsNames.{elements_read}
use Rattle.css_printed.proofs.ReadsAttributes.{regroup}
use Rattle.css_printed.proofs.TemplateTerms as p

siblings_read : (d : Dialect) (el : Option (List ℕ)) (kind : Nth) → Reads (p.siblings d el kind) (g.at 0 (x.siblings d el kind))
siblings_read d el nth.Child = single (axis_step axis.PrecedingSibling any_tested)
siblings_read d el nth.LastChild = single (axis_step axis.FollowingSibling any_tested)
siblings_read d el nth.OfType = elements_read d axis.PrecedingSibling el
siblings_read d el nth.LastOfType = elements_read d axis.FollowingSibling el

condition_reads : {ts : List Term} {y : Expr} → Reads ts (g.at 0 y) → (c : Condition) → Brackets (p.condition ts c) (x.condition_predicate y c ∷ [])
condition_reads r never = nowhere_reads
condition_reads r (exactly n) = bracket (to_8 (equal (to_5 (to_2 (call_one f.Count (whole r)))) (to_5 (to_2 (number_reads n)))))
condition_reads r (at_least n) = bracket (to_8 (up 5 (greater_equal (call_one f.Count (whole r)) (number_reads n)) refl))
condition_reads r (at_most n) = bracket (to_8 (up 5 (less_equal (call_one f.Count (whole r)) (number_reads n)) refl))
condition_reads {ts} r (every n m) =
    bracket (regroup (p.call f.Count ts) (t.Mod ∷ p.number n ∷ []) (t.Equal ∷ p.number m ∷ [])
    (to_8 (equal (up 4 (up 3 (modulo (call_one f.Count (whole r)) (number_reads n)) refl) refl) (to_5 (to_2 (number_reads m))))))

pub nth_reads : (d : Dialect) (el : Option (List ℕ)) (kind : Nth) (a b : ℤ) → Brackets (p.nth_terms d el kind a b) (x.nth_predicates d el kind a b)
nth_reads d el kind a b = each_one (p.condition (p.siblings d el kind)) (x.condition_predicate (x.siblings d el kind)) (condition_reads (siblings_read d el kind)) (conditions a b)
