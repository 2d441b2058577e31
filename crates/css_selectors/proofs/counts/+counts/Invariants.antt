use Rattle.std.proofs.Common.{◌≡◌, ◌+◌, ◌≤◌, map, sum_by, drop}
use Rattle.css_selectors.specs.Sizes.{compound_size, part_size, relative_size, simple_size}
use Rattle.css_selectors.specs.Specificity.{compound_triple, part_triple, relative_triple, simple_triple, sum_from, greatest_from, greatest, IsAtMost}
use Rattle.css_selectors.proofs.Bounds.{Leaves}
use Rattle.css_selectors.proofs.counts.+counts.Given as goal

abbrev pub invariant-greatest_compound-loop-compound : goal.invariant-greatest_compound-loop-compound
invariant-greatest_compound-loop-compound l =
    (greatest_from l.best (map compound_triple (drop l.compound-index l.compounds)) ≡ greatest (map compound_triple l.compounds))
    × IsAtMost (sum_by compound_size l.compounds + 1) l.best
    × (sum_by compound_size (drop l.compound-index l.compounds) ≤ sum_by compound_size l.compounds)

abbrev pub invariant-greatest_relative-loop-relative : goal.invariant-greatest_relative-loop-relative
invariant-greatest_relative-loop-relative l =
    (greatest_from l.best (map relative_triple (drop l.relative-index l.relatives)) ≡ greatest (map relative_triple l.relatives))
    × IsAtMost (sum_by relative_size l.relatives + 1) l.best
    × (sum_by relative_size (drop l.relative-index l.relatives) ≤ sum_by relative_size l.relatives)

abbrev pub invariant-parts_counts-loop-part : goal.invariant-parts_counts-loop-part
invariant-parts_counts-loop-part l =
    (sum_from l.sum (map part_triple (drop l.part-index l.parts)) ≡ sum_from l.initial.sum (map part_triple l.parts))
    × Leaves (sum_by part_size (drop l.part-index l.parts)) (sum_by part_size l.parts + 1) l.sum

abbrev pub invariant-simples_counts-loop-simple : goal.invariant-simples_counts-loop-simple
invariant-simples_counts-loop-simple l =
    (sum_from l.sum (map simple_triple (drop l.simple-index l.simples)) ≡ sum_from l.initial.sum (map simple_triple l.simples))
    × Leaves (sum_by simple_size (drop l.simple-index l.simples)) (sum_by simple_size l.simples + 1) l.sum
