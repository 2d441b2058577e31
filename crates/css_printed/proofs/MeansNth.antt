-- The predicates that count siblings.
use Rattle.std.proofs.Common.{◌≡◌, ℕ, zero, suc, ◌%◌, ◌^◌, ◌<◌, ◌≤◌, Bool, true, cond, eqb, List, [], ◌∷◌, length, ap, ◌∙◌, map, arith}
use Rattle.std.specs.Prelude.{ℤ, pos, nat_le}
use Rattle.std.specs.List.{AllByRecursion}
use Rattle.std.specs.Ordering.{int_eq}
use Rattle.std.specs.Cmp.{signed_Decides, both_ways}
use Rattle.std.proofs.Math.Nat.{mod-le}
use Rattle.std.proofs.lemmas.Bool.{eqb-true, eq-eqb}
use Rattle.std.proofs.lemmas.Bool.Decides.{nat_tests}
use Rattle.xpath_values.specs.declared.value.XNum.TheVariants.{Whole, NaN}
use Rattle.xpath_values.specs.declared.value.Value.TheVariants.{Nodes, Num, Bool as Truth}
use Rattle.xpath_values.specs.declared.value.Compare.{Compare}
use Rattle.xpath_values.specs.declared.value.Compare.TheVariants as compare
use Rattle.xpath_values.specs.Numbers.{whole}
use Rattle.xpath_parser.specs.declared.expression.Expr.{Expr}
use Rattle.xpath_parser.specs.declared.expression.Func.TheVariants as f
use Rattle.xpath_parser.specs.declared.expression.Infix.TheVariants as infix_of
use Rattle.xpath_parser.specs.Denote.{applied}
use Rattle.css_meaning.specs.Nth.{is_nth}
use Rattle.css_selectors.specs.WellMade.{IsSmall}
use Rattle.doc_model.specs.Document.{Document}
use Rattle.css_printed.specs.Conditions.{Condition, never, exactly, at_least, at_most, every, conditions}
use Rattle.css_printed.specs.inner.Predicates.{number, count, joins, condition_predicate}
use Rattle.css_printed.proofs.PathsKept.{Is, Keep, keep_none, keep_one, keep_both, keep_same}
use Rattle.css_printed.proofs.MeansValues.{Value_at, is_truth, is_never, at_two, at_number, at_call_one}
use Rattle.css_printed.proofs.MeansPositions.{meets, meet_all, IsSmallCondition, conditions_nth, small_conditions}

whole_small : (n : ℕ) → n < 2 ^ 53 → whole (pos n) ≡ Whole (pos n)
whole_small n h = let in_it : nat_le n 9007199254740991 ≡ true = grind (arith, nat_tests) in ap (λ b. cond b (Whole (pos n)) NaN) in_it

same_pos : (n m : ℕ) → int_eq (pos n) (pos m) ≡ eqb n m
same_pos n m = both_ways _ _ (λ h. eq-eqb n m (let same : pos n ≡ pos m = (signed_Decides (pos n) (pos m)).0 h in cc)) (λ h. (signed_Decides (pos n) (pos m)).1 (ap pos (eqb-true n m h)))

module _ (doc : Document) where
  module _ (s : Expr) (x : ℕ) (found : List ℕ) (small : length found < 2 ^ 53) (at_s : Value_at doc s x (Nodes found)) where
    at_count : Value_at doc (count s) x (Num (Whole (pos (length found))))
    at_count at size = at_call_one doc f.Count s x (Nodes found) at_s at size ∙ ap Num (whole_small (length found) small)

    at_small : (n : ℕ) → n < 2 ^ 53 → Value_at doc (number n) x (Num (Whole (pos n)))
    at_small n h at size = at_number doc (pos n) x at size ∙ ap Num (whole_small n h)

    at_remainder : (k : ℕ) → 0 < k → k < 2 ^ 53 → Value_at doc (joins infix_of.Mod (count s) (number k)) x (Num (Whole (pos (length found % k))))
    at_remainder zero some h at size = absurd (omega arith)
    at_remainder (suc k) some h at size =
        at_two doc (count s) (number (suc k)) infix_of.Mod x (Num (Whole (pos (length found)))) (Num (Whole (pos (suc k)))) at_count (at_small (suc k) h) at size
        ∙ ap Num (whole_small (length found % suc k) (let l : length found % suc k ≤ length found = mod-le (length found) (suc k) in omega arith))

    counted : (c : Compare) (a : Expr) (n m : ℕ) → Value_at doc a x (Num (Whole (pos n))) → m < 2 ^ 53
        → Value_at doc (joins (infix_of.Compare c) a (number m)) x (applied doc (infix_of.Compare c) (Num (Whole (pos n))) (Num (Whole (pos m))))
    counted c a n m h k = at_two doc a (number m) (infix_of.Compare c) x (Num (Whole (pos n))) (Num (Whole (pos m))) h (at_small m k)

    pub condition_is : (c : Condition) → IsSmallCondition c → Is doc (condition_predicate s c) x (meets c (length found))
    condition_is never h = is_never doc x
    condition_is (exactly m) h = is_truth doc (condition_predicate s (exactly m)) x _ (λ at size. counted compare.Equal (count s) (length found) m at_count h at size ∙ ap Truth (same_pos (length found) m))
    condition_is (at_least m) h = is_truth doc (condition_predicate s (at_least m)) x _ (counted compare.GreaterEqual (count s) (length found) m at_count h)
    condition_is (at_most m) h = is_truth doc (condition_predicate s (at_most m)) x _ (counted compare.LessEqual (count s) (length found) m at_count h)
    condition_is (every k r) h = is_truth doc (condition_predicate s (every k r)) x _ (λ at size.
        counted compare.Equal (joins infix_of.Mod (count s) (number k)) (length found % k) r (at_remainder k h.0 h.1) h.2 at size ∙ ap Truth (same_pos (length found % k) r))

  -- predicates that count what an expression gives
  pub conditions_keep : (kind : ℕ → Bool) (s : Expr) (found : ℕ → List ℕ) → ((x : ℕ) → length (found x) < 2 ^ 53) → ((x : ℕ) → kind x ≡ true → Value_at doc s x (Nodes (found x)))
      → (cs : List Condition) → AllByRecursion IsSmallCondition cs → Keep doc kind (map (condition_predicate s) cs) (λ y. meet_all cs (length (found y)))
  conditions_keep kind s found small at_s [] h = keep_none doc kind
  conditions_keep kind s found small at_s (c ∷ cs) h =
      keep_both doc kind (condition_predicate s c ∷ []) (map (condition_predicate s) cs) (λ y. meets c (length (found y))) (λ y. meet_all cs (length (found y)))
      (keep_one doc kind (condition_predicate s c) (λ y. meets c (length (found y))) (λ x is. condition_is s x (found x) (small x) (at_s x is) c h.0))
      (conditions_keep kind s found small at_s cs h.1)

  pub nth_keeps : (kind : ℕ → Bool) (s : Expr) (found : ℕ → List ℕ) → ((x : ℕ) → length (found x) < 2 ^ 53) → ((x : ℕ) → kind x ≡ true → Value_at doc s x (Nodes (found x)))
      → (a b : ℤ) → IsSmall a → IsSmall b → Keep doc kind (map (condition_predicate s) (conditions a b)) (λ y. is_nth a b (suc (length (found y))))
  nth_keeps kind s found small at_s a b h k =
      keep_same doc kind (map (condition_predicate s) (conditions a b)) (λ y. meet_all (conditions a b) (length (found y))) _ (λ y is. conditions_nth a b (length (found y)))
      (conditions_keep kind s found small at_s (conditions a b) (small_conditions a b h k))
