use Rattle.std.proofs.Common.{◌≡◌, ◌++◌, ◌≤◌, ◌-◌, length, drop, string_bytes}
use Rattle.text_base.specs.Text.{IsPlace}
use Rattle.css_printed.specs.Literals.{quoted_runs, listed}
use Rattle.css_translate.specs.inner.Runs.{further}
use Rattle.css_translate.proofs.literals.push_runs.Given as goal

abbrev pub invariant-loop-at : goal.invariant-loop-at
invariant-loop-at l =
    (string_bytes l.out ++ further (quoted_runs (drop l.at l.text)) ≡ string_bytes l.fn.out ++ listed (quoted_runs l.text))
    × (l.at ≤ length l.text) × IsPlace l.text l.at

abbrev pub decreases-loop-at : goal.decreases-loop-at
decreases-loop-at l = length l.text - l.at
