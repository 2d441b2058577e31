use Rattle.std.proofs.Common.{◌≡◌, length, true}
use Rattle.regex.specs.Search.{matches_after}
use Rattle.regex.specs.Strings.{matcher_pattern}
use Rattle.query_chain.proofs.Matching.{IsAlong}
use Rattle.query_chain.proofs.search.add_matches.Given as goal

abbrev pub invariant-loop-end : goal.invariant-loop-end
invariant-loop-end l = record {
  same : matcher_pattern l.matcher ≡ matcher_pattern l.fn.matcher;
  along : IsAlong l.limits l.fn.out l.out (matcher_pattern l.fn.matcher) l.text l.groups l.after;
}

abbrev pub decreases-loop-end : goal.decreases-loop-end
decreases-loop-end l = length (matches_after true (matcher_pattern l.fn.matcher) l.text l.after)
