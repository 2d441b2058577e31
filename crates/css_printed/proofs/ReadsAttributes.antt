-- The tests of attributes, as predicates.
use Rattle.std.proofs.Common.{subst, refl, append_assoc, ℕ, Bool, true, false, cond, List, [], ◌∷◌, ◌++◌, codes, ◌||◌}
use Rattle.std.specs.List.{list_any}
use Rattle.text_base.specs.Text.{is_space5}
use Rattle.text_base.specs.Strings.{is_empty}
use Rattle.css_selectors.specs.declared.selector.Op.{Op}
use Rattle.css_selectors.specs.declared.selector.Op.TheVariants as op
use Rattle.xpath_parser.specs.declared.expression.Expr.{Expr}
use Rattle.xpath_parser.specs.declared.expression.Expr.TheVariants as e
use Rattle.xpath_parser.specs.declared.expression.Func.TheVariants as f
use Rattle.xpath_parser.specs.declared.term.Term.{Term}
use Rattle.xpath_parser.specs.declared.term.Term.TheVariants as t
use Rattle.xpath_parser.specs.Grammar as g
use Rattle.xpath_parser.specs.Grammar.{Reads, Node}
use Rattle.css_printed.specs.Simples.{behind_first}
use Rattle.css_printed.specs.inner.Predicates as x
use Rattle.css_printed.proofs.Readings.{up, to_2, to_5, to_8, whole}
use Rattle.css_printed.proofs.ReadsPieces.{to_6, to_7, Brackets, bracket, nowhere_reads, equal, minus, and_two, or_two, round, number_reads, call_one, call_two, call_three}
use Rattle.css_printed.proofs.ReadsNames.{text_reads}
use Rattle.css_printed.proofs.TemplateTerms as p

-- nothing matches, or else what follows
pub or_nowhere : (b : Bool) {ts : List Term} {y : Expr} → Brackets ts (y ∷ []) → Brackets (cond b p.nowhere ts) (cond b (x.number 0) y ∷ [])
or_nowhere true h = nowhere_reads
or_nowhere false h = h

pub regroup : {n : Node} (a b c : List Term) → Reads ((a ++ b) ++ c) n → Reads (a ++ (b ++ c)) n
regroup {n} a b c r = let P : List Term → Type 0 = λ ts. Reads ts n in subst P (append_assoc a b c) r

module _ (at : List Term) (y : Expr) (r : Reads at (g.at 0 y)) where
  word_reads : (v : List ℕ) → Brackets (p.word at v) (x.word_predicate y v ∷ [])
  word_reads v =
      or_nowhere (is_empty v || list_any is_space5 v)
      (bracket (up 7 (and_two (to_6 r) (to_6 (call_two f.Contains
      (whole (call_three f.Concat (whole (text_reads (codes " "))) (whole (call_one f.NormalizeSpace (whole r))) (whole (text_reads (codes " ")))))
      (whole (text_reads (codes " " ++ (v ++ codes " "))))))) refl))

  begins_reads : (v : List ℕ) → Reads (p.call f.StartsWith (at ++ (t.Comma ∷ p.literal v))) (g.at 0 (e.Call f.StartsWith (y ∷ x.literal v ∷ [])))
  begins_reads v = call_two f.StartsWith (whole r) (whole (text_reads v))

  equals_reads : (v : List ℕ) → Reads (at ++ (t.Equal ∷ p.literal v)) (g.at 6 (x.equals y (x.literal v)))
  equals_reads v = equal (to_5 (to_2 r)) (to_5 (to_2 (text_reads v)))

  dash_reads : (v : List ℕ) → Brackets (p.dash at v) (x.dash_predicate y v ∷ [])
  dash_reads v =
      bracket (up 7 (and_two (to_6 r) (to_6 (round
      (regroup at (t.Equal ∷ p.literal v) (t.Or ∷ p.call f.StartsWith (at ++ (t.Comma ∷ p.literal (v ++ codes "-"))))
      (or_two (up 6 (equals_reads v) refl) (to_7 (begins_reads (v ++ codes "-")))))))) refl)

  prefix_reads : (v : List ℕ) → Brackets (p.prefix at v) (x.prefix_predicate y v ∷ [])
  prefix_reads v = or_nowhere (is_empty v) (bracket (up 7 (and_two (to_6 r) (to_6 (begins_reads v))) refl))

  suffix_reads : (v : List ℕ) → Brackets (p.suffix at v) (x.suffix_predicate y v ∷ [])
  suffix_reads v =
      or_nowhere (is_empty v)
      (bracket (up 7 (and_two (to_6 r) (equal
      (to_5 (to_2 (call_two f.Substring (whole r) (to_8 (up 5 (up 4 (minus (call_one f.StringLength (whole r)) (number_reads (behind_first v))) refl) refl)))))
      (to_5 (to_2 (text_reads v))))) refl))

  substring_reads : (v : List ℕ) → Brackets (p.substring at v) (x.substring_predicate y v ∷ [])
  substring_reads v = or_nowhere (is_empty v) (bracket (up 7 (and_two (to_6 r) (to_6 (call_two f.Contains (whole r) (whole (text_reads v))))) refl))

  pub op_reads : (o : Op) (v : List ℕ) → Brackets (p.op_terms at o v) (x.op_predicate y o v ∷ [])
  op_reads op.Exists v = bracket (whole r)
  op_reads op.Equals v = bracket (to_8 (equals_reads v))
  op_reads op.Word v = word_reads v
  op_reads op.Dash v = dash_reads v
  op_reads op.Prefix v = prefix_reads v
  op_reads op.Suffix v = suffix_reads v
  op_reads op.Substring v = substring_reads v
