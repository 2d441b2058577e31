use Rattle.std.proofs.Common.{refl}
use Rattle.std.proofs.lemmas.Bool.{both_ways}
use Rattle.refusal_places.proofs.Endings.{none_more, none_of}
use Rattle.refusal_places.proofs.beginnings.goes_on.Goals as goal

pub loop-ending-preserved : goal.loop-ending-preserved
loop-ending-preserved g c =
    none_more (g.L.Language.goes c.args.language.now c.args.beginning.now) c.args.endings.now c.loop-ending.ending-index c.loop-ending.invariant _ c.loop-ending-test.true
    (λ goes. both_ways _ c.if-branch.false (c.in_ok-goes_by.ensures.1 goes))

pub returns : goal.returns
returns g c =
    let none = none_of (g.L.Language.goes c.args.language.now c.args.beginning.now) c.args.endings.now c.loop-ending.ending-index c.loop-ending.invariant c.loop-ending-test.false in
    (λ found. absurd (both_ways _ refl found), λ any. absurd (none any))
