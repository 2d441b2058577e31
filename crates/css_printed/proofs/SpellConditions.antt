-- Positions among siblings in printed texts.
use Rattle.std.proofs.Common.{refl, ℕ, suc, ◌<◌, ◌^◌, true, false, List, [], ◌∷◌, ◌++◌, codes, append_assoc, Option, arith}
use Rattle.std.specs.Prelude.{ℤ}
use Rattle.std.specs.Fmt.{decimal}
use Rattle.std.specs.List.{flat_map, AllByRecursion}
use Rattle.std.specs.Str.{chars}
use Rattle.css_selectors.specs.declared.selector.Dialect.{Dialect}
use Rattle.css_selectors.specs.declared.selector.Nth.{Nth}
use Rattle.css_selectors.specs.declared.selector.Nth.TheVariants as nth
use Rattle.css_selectors.specs.WellMade.{IsSmall}
use Rattle.xpath_lexer.specs.Tokens.{Text}
use Rattle.xpath_parser.specs.declared.expression.Func.TheVariants as f
use Rattle.xpath_parser.specs.declared.term.Term.{Term}
use Rattle.xpath_parser.specs.declared.term.Term.TheVariants as t
use Rattle.xpath_parser.specs.Terms.{axis_names, function_names, node_type_names, operator_names}
use Rattle.css_printed.specs.Conditions.{Condition, never, exactly, at_least, at_most, every, conditions}
use Rattle.css_printed.specs.Simples.{condition_text, siblings_text, nth_text}
use Rattle.css_printed.proofs.MeansPositions.{IsSmallCondition, small_conditions}
use Rattle.css_printed.proofs.SpellFixed.{Puts, Piece, ◌⨾◌, fix, said, then_puts, nothing_puts}
use Rattle.css_printed.proofs.SpellNames.{IsElementText, element_piece}
use Rattle.css_printed.proofs.SpellNumbers.{number_puts}
use Rattle.css_printed.proofs.SpellOps.{six, nowhere_puts}
use Rattle.css_printed.proofs.TemplateTerms as terms

number_below : (r n : ℕ) → n < 2 ^ 53 → Puts r false r true (decimal n) (terms.number n ∷ [])
number_below r n h = number_puts r n (omega arith)

abbrev number_piece : {r : ℕ} (n : ℕ) → n < 2 ^ 53 → Piece r false r true
number_piece {r = r} n h = record { text = decimal n; terms = terms.number n ∷ []; puts = number_below r n h }

module _ (sib : Text) (xs : List Term) (sib_puts : (r : ℕ) → Puts (suc (suc r)) false (suc (suc r)) true sib xs) where
  abbrev siblings : {r : ℕ} → Piece (suc (suc r)) false (suc (suc r)) true
  siblings {r = r} = record { text = sib; terms = xs; puts = sib_puts r }

  pub condition_puts : (c : Condition) → IsSmallCondition c → (r : ℕ) → Puts (six r) true (six r) true (condition_text sib c) (terms.condition xs c)
  unfolding axis_names function_names node_type_names operator_names chars
  condition_puts never h r = nowhere_puts (suc (suc (suc (suc (suc r)))))
  condition_puts (exactly n) h r =
      let all : Piece (six r) true (six r) true =
      fix (codes "[count(") (λ rest. refl) refl ⨾ siblings ⨾ fix (codes ") = ") (λ rest. refl) refl ⨾ number_piece n h ⨾ fix (codes "]") (λ rest. refl) refl in
      said all (terms.in_square (terms.call f.Count xs ++ (t.Equal ∷ terms.number n ∷ []))) (simp append_assoc refl)
  condition_puts (at_least n) h r =
      let all : Piece (six r) true (six r) true =
      fix (codes "[count(") (λ rest. refl) refl ⨾ siblings ⨾ fix (codes ") >= ") (λ rest. refl) refl ⨾ number_piece n h ⨾ fix (codes "]") (λ rest. refl) refl in
      said all (terms.in_square (terms.call f.Count xs ++ (t.GreaterEqual ∷ terms.number n ∷ []))) (simp append_assoc refl)
  condition_puts (at_most n) h r =
      let all : Piece (six r) true (six r) true =
      fix (codes "[count(") (λ rest. refl) refl ⨾ siblings ⨾ fix (codes ") <= ") (λ rest. refl) refl ⨾ number_piece n h ⨾ fix (codes "]") (λ rest. refl) refl in
      said all (terms.in_square (terms.call f.Count xs ++ (t.LessEqual ∷ terms.number n ∷ []))) (simp append_assoc refl)
  condition_puts (every n k) h r =
      let all : Piece (six r) true (six r) true =
      fix (codes "[count(") (λ rest. refl) refl ⨾ siblings ⨾ fix (codes ") mod ") (λ rest. refl) refl ⨾ number_piece n h.1 ⨾ fix (codes " = ") (λ rest. refl) refl
      ⨾ number_piece k h.2 ⨾ fix (codes "]") (λ rest. refl) refl in
      said all (terms.in_square (terms.call f.Count xs ++ (t.Mod ∷ terms.number n ∷ t.Equal ∷ terms.number k ∷ []))) (simp append_assoc refl)

  conditions_put : (cs : List Condition) → AllByRecursion IsSmallCondition cs → (r : ℕ) → Puts (six r) true (six r) true (flat_map (condition_text sib) cs) (flat_map (terms.condition xs) cs)
  conditions_put [] h r = nothing_puts (six r) true
  conditions_put (c ∷ cs) h r =
      then_puts (six r) true (six r) true (six r) true (condition_text sib c) (flat_map (condition_text sib) cs) (terms.condition xs c) (flat_map (terms.condition xs) cs)
      (condition_puts c h.0 r) (conditions_put cs h.1 r)

siblings_put : (d : Dialect) (el : Option (List ℕ)) (kind : Nth) → IsElementText el → (r : ℕ) → Puts (suc (suc r)) false (suc (suc r)) true (siblings_text d el kind) (terms.siblings d el kind)
unfolding axis_names function_names node_type_names operator_names chars
siblings_put d el nth.Child h r = let all : Piece (suc (suc r)) false (suc (suc r)) true = fix (codes "preceding-sibling::*") (λ rest. refl) refl in all.puts
siblings_put d el nth.LastChild h r = let all : Piece (suc (suc r)) false (suc (suc r)) true = fix (codes "following-sibling::*") (λ rest. refl) refl in all.puts
siblings_put d el nth.OfType h r = let all : Piece (suc (suc r)) false (suc (suc r)) true = fix (codes "preceding-sibling::") (λ rest. refl) refl ⨾ element_piece d el h in all.puts
siblings_put d el nth.LastOfType h r = let all : Piece (suc (suc r)) false (suc (suc r)) true = fix (codes "following-sibling::") (λ rest. refl) refl ⨾ element_piece d el h in all.puts

pub nth_puts : (d : Dialect) (el : Option (List ℕ)) (kind : Nth) (a b : ℤ) → IsElementText el → IsSmall a → IsSmall b → (r : ℕ)
    → Puts (six r) true (six r) true (nth_text d el kind a b) (terms.nth_terms d el kind a b)
nth_puts d el kind a b h p q r = conditions_put (siblings_text d el kind) (terms.siblings d el kind) (siblings_put d el kind h) (conditions a b) (small_conditions a b p q) r
