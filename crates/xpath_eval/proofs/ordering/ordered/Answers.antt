use Rattle.std.proofs.Common.{sym, ◌∙◌, ap, subst, ◌<◌, eqb}
use Rattle.std.specs.List.{dedup}
use Rattle.std.specs.List.Sorted.{IsStrictlyIncreasing}
use Rattle.std.proofs.lemmas.List.Filters.{dedup_is}
use Rattle.std.proofs.lemmas.List.Sorted.{list_any-IsPermutation}
use Rattle.std.proofs.lemmas.Map.Keys.{IsStrictlyIncreasing-dedup}
use Rattle.doc_model.specs.RowLists.{has, Run}
use Rattle.xpath_eval.proofs.Lists.{rising_run, all_by_same, has-dedup}
use Rattle.xpath_eval.proofs.ordering.ordered.Goals as goal

pub returns-then-rises-clause-order : goal.returns-then-rises-clause-order
returns-then-rises-clause-order c = λ n below.
    rising_run n c.args.rows.items (subst IsStrictlyIncreasing c.as_slice.ensures.value (c.rises.ensures c.if-rises.true)) below

pub returns-clause-same : goal.returns-clause-same
returns-clause-same c = λ y.
    let sorted = c.sort_unstable.new.self.items in
    ap (has y) (dedup_is eqb sorted c.dedup.new.self.items c.dedup.ensures.filtered) ∙ has-dedup y sorted
    ∙ sym (list_any-IsPermutation (λ x. eqb x y) c.args.rows.items sorted c.sort_unstable.ensures.permutation)

pub returns-clause-order : goal.returns-clause-order
returns-clause-order c = λ n below.
    let sorted = c.sort_unstable.new.self.items in
    let is = dedup_is eqb sorted c.dedup.new.self.items c.dedup.ensures.filtered in
    subst (Run 0 n) (sym is) (rising_run n (dedup eqb sorted) (IsStrictlyIncreasing-dedup sorted c.sort_unstable.ensures.sorted)
    (all_by_same (λ y. y < n) c.args.rows.items (dedup eqb sorted) (λ y. has-dedup y sorted ∙ sym (list_any-IsPermutation (λ x. eqb x y) c.args.rows.items sorted c.sort_unstable.ensures.permutation)) below))
