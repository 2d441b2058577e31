use Rattle.std.proofs.Common.{◌-◌, map}
use Rattle.std.specs.List.{range_with_len}
use Rattle.std.specs.Str.{chars}
use Rattle.regex.specs.Patterns.{Match}
use Rattle.regex.specs.Strings.{captures_haystack, IsCapturesOf}
use Rattle.query_chain.specs.Patterns.{group_text}
use Rattle.query_chain.specs.inner.Found.{Adds}
use Rattle.query_chain.proofs.search.add_match.Given as goal

abbrev pub invariant-loop-k : goal.invariant-loop-k
invariant-loop-k l = (m : Match) → IsCapturesOf (captures_haystack l.captures) m l.captures →
    Adds l.limits l.initial.out l.out (map chars (map (group_text (captures_haystack l.captures) m) (range_with_len 1 (l.k - 1))))
