use Rattle.std.proofs.Common.{arith}
use Rattle.text_base.proofs.Boundaries.{at_start}
use Rattle.refusal_places.proofs.beginnings.longest.Goals as goal

pub returns : goal.returns
returns g c = record {
  place = at_start c.args.text.now c.utf8.text;
  goes = λ some. absurd (let l = some in omega arith);
  none = λ m place some. c.loop-size.invariant.none m place (let l = some in omega (arith, c.loop-size-test.false));
}
