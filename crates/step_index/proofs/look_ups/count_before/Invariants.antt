use Rattle.std.proofs.Common.{◌≤◌, ◌+◌, ◌-◌, ◌*◌, ◌^◌, length}
use Rattle.step_index.specs.inner.Tables.{Before}
use Rattle.step_index.proofs.look_ups.count_before.Given as goal

abbrev pub invariant-loop-low : goal.invariant-loop-low
invariant-loop-low g l = record {
  front : Before l.list l.end (λ rows. l.low ≤ length rows);
  back : Before l.list l.end (λ rows. length rows ≤ l.high);
  within : l.high ≤ l.end;
  rose : l.fn.steps ≤ l.steps;
  halved : 2 ^ (l.steps - l.fn.steps) * (l.high - l.low) ≤ l.end;
  cost : 2 ^ (l.steps - l.fn.steps) ≤ 2 * l.end + 1;
}

abbrev pub decreases-loop-low : goal.decreases-loop-low
decreases-loop-low g l = l.high - l.low
