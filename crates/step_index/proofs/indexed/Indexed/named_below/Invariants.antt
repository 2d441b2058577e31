use Rattle.std.proofs.Common.{◌≡◌, ◌≤◌, ◌+◌, ◌-◌, ◌*◌, ◌^◌, ◌++◌, length, take}
use Rattle.std.specs.Str.{chars}
use Rattle.step_index.specs.Named.{named_before, named_below}
use Rattle.step_index.proofs.indexed.Indexed.named_below.Given as goal

abbrev pub invariant-loop-y : goal.invariant-loop-y
invariant-loop-y g l =
    let doc = g.T.Tree.document l.self.tree in
    let answers = named_below doc l.x (chars l.name) in
    let done = l.k - length (named_before doc (chars l.name) (l.x + 1)) in
    record {
      from : length (named_before doc (chars l.name) (l.x + 1)) ≤ l.k;
      within : done ≤ length answers;
      found : l.out.items ≡ l.fn.out.items ++ take done answers;
      rose : l.fn.steps + done ≤ l.steps;
      cost : 2 ^ (l.steps - l.fn.steps - done) ≤ 2 * length doc + 1;
    }

abbrev pub decreases-loop-y : goal.decreases-loop-y
decreases-loop-y g l = length (named_before (g.T.Tree.document l.self.tree) (chars l.name) l.end) - l.k
