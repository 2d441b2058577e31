-- Parts, tails, selectors and lists, as expressions.
use Rattle.std.proofs.Common.{◌≡◌, refl, sym, ap, subst, ◌<◌, List, [], ◌∷◌, ◌++◌, map, length, append-nil, append_assoc, arith}
use Rattle.std.specs.List.{AllByRecursion}
use Rattle.std.proofs.lemmas.List.Elements.{recursion_from_All}
use Rattle.css_selectors.specs.declared.selector.Dialect.{Dialect}
use Rattle.css_selectors.specs.declared.selector.Part.{Part}
use Rattle.css_selectors.specs.declared.selector.Selector.{Selector}
use Rattle.css_selectors.specs.declared.selector.SelectorList.{SelectorList}
use Rattle.css_selectors.specs.declared.selector.Tail.{Tail}
use Rattle.css_selectors.specs.declared.selector.Tail.TheVariants as tail
use Rattle.css_selectors.specs.WellMade.{WellMade, IsSelector, IsPart, AreLinked}
use Rattle.xpath_parser.specs.declared.expression.Expr.{Expr}
use Rattle.xpath_parser.specs.declared.expression.Expr.TheVariants as e
use Rattle.xpath_parser.specs.declared.expression.Start.TheVariants as start
use Rattle.xpath_parser.specs.declared.term.Term.{Term}
use Rattle.xpath_parser.specs.declared.term.Term.TheVariants as t
use Rattle.xpath_parser.specs.Grammar as g
use Rattle.xpath_parser.specs.Grammar.{Reads, ReadsWhole, Operands}
use Rattle.css_printed.specs.inner.Expression.{tail_steps, selector_expression, expression, united}
use Rattle.css_printed.specs.inner.TestPredicates.{step_of}
use Rattle.css_printed.proofs.Readings.{up, whole, to_5, to_8}
use Rattle.css_printed.proofs.ReadsPieces.{text_tested, child_step}
use Rattle.css_printed.proofs.ReadsNames.{attribute_step_reads}
use Rattle.css_printed.proofs.ReadsTests.{MoreSteps, no_more, PartReads, parts_behind, part_reads}
use Rattle.css_printed.proofs.TemplateTerms as p

-- ---- the steps of a selector

ending_behind : (d : Dialect) (u : Tail) → MoreSteps (p.ending_terms d u) (tail_steps d u)
ending_behind d tail.Element = no_more
ending_behind d tail.Text = record { read = λ a s r. g.steps_more r (g.steps_one (child_step text_tested)) refl }
ending_behind d (tail.Attr n) = record { read = λ a s r. g.steps_more r (g.steps_one (attribute_step_reads d n)) refl }

all_read : (d : Dialect) (ps : List Part) → AllByRecursion IsPart ps → AllByRecursion (PartReads d) ps
all_read d [] h = tt
all_read d (q ∷ ps) h = (part_reads d q h.0, all_read d ps h.1)

parts_read : (d : Dialect) (u : Tail) (ps : List Part) → AreLinked ps → AllByRecursion IsPart ps
    → Reads (p.parts_terms d ps ++ p.ending_terms d u) (g.at 0 (e.Path start.Here (map (step_of d) ps ++ tail_steps d u)))
parts_read d u [] l h = absurd l
parts_read d u (q ∷ ps) l h =
    let P : List Term → Type 0 = λ ts. Reads ts (g.steps (step_of d q ∷ (map (step_of d) ps ++ tail_steps d u))) in
    g.path_here (subst P (sym (append_assoc (p.part_terms d q) (p.further_terms d ps) (p.ending_terms d u)))
    ((parts_behind d ps (p.ending_terms d u) (tail_steps d u) (ending_behind d u) (all_read d ps h.1)).read (p.part_terms d q) (step_of d q) (part_reads d q h.0).further))

pub selector_reads : (d : Dialect) (s : Selector) → IsSelector s → Reads (p.selector_terms d s) (g.at 0 (selector_expression d s))
selector_reads d s h = parts_read d s.tail s.parts h.links (recursion_from_All IsPart s.parts h.parts)

-- ---- lists

abbrev others : Dialect → List Selector → Operands
others d ss = map (λ s. (t.Bar, selector_expression d s)) ss

others_read : (d : Dialect) (s : Selector) (ss : List Selector) → AllByRecursion IsSelector (s ∷ ss) → Reads (t.Bar ∷ p.united_terms d (s ∷ ss)) (g.rest 0 (others d (s ∷ ss)))
others_read d s [] h = g.rest_more refl (selector_reads d s h.0) g.rest_end (sym (append-nil (p.selector_terms d s)))
others_read d s (u ∷ us) h = g.rest_more refl (selector_reads d s h.0) (others_read d u us h.1) refl

values : (d : Dialect) (ss : List Selector) → map (λ q. q.1) (others d ss) ≡ map (selector_expression d) ss
values d [] = refl
values d (s ∷ ss) = ap (λ v. selector_expression d s ∷ v) (values d ss)

several_read : (d : Dialect) (s u : Selector) (us : List Selector) → AllByRecursion IsSelector (s ∷ u ∷ us)
    → Reads (p.united_terms d (s ∷ u ∷ us)) (g.at 1 (e.Union (selector_expression d s ∷ selector_expression d u ∷ map (selector_expression d) us)))
unfolding g.joined
several_read d s u us h =
    let P : List Expr → Type 0 = λ es. Reads (p.united_terms d (s ∷ u ∷ us)) (g.at 1 (e.Union (selector_expression d s ∷ selector_expression d u ∷ es))) in
    subst P (values d us) (g.tier refl (selector_reads d s h.0) (others_read d u us h.1) refl)

united_reads : (d : Dialect) (ss : List Selector) → 0 < length ss → AllByRecursion IsSelector ss → ReadsWhole (p.united_terms d ss) (united (map (selector_expression d) ss))
united_reads d [] some h = absurd (let no : ⊥ = omega arith in no)
united_reads d (s ∷ []) some h = whole (selector_reads d s h.0)
united_reads d (s ∷ (u ∷ us)) some h = to_8 (up 5 (to_5 (g.signs (g.no_sign (several_read d s u us h)))) refl)

-- the terms of a printed list read as its expression
pub list_reads : (d : Dialect) (list : SelectorList) → WellMade list → ReadsWhole (p.list_terms d list) (expression d list)
list_reads d list made = united_reads d list.items made.some (recursion_from_All IsSelector list.items made.each)
