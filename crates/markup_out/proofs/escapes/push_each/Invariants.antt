use Rattle.markup_out.specs.inner.Adding.{Adds}
use Rattle.markup_out.specs.Escapes.{escaped}
use Rattle.markup_out.proofs.escapes.push_each.Given as goal

abbrev pub invariant-loop-c : goal.invariant-loop-c
invariant-loop-c l = Adds l.fn.out l.out (escaped l.back l.quoted l.yielded)
