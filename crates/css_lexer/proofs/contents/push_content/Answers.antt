use Rattle.std.proofs.Common.{arith, refl}
use Rattle.css_lexer.proofs.ContentLemmas.{pushes_none, pushes_more, unit_fits}
use Rattle.css_lexer.proofs.contents.push_content.Goals as goal

pub returns-then-n-eq0-clause-pushes : goal.returns-then-n-eq0-clause-pushes
returns-then-n-eq0-clause-pushes c =
    let unit = c.in_ok-n.ensures in
    c.loop-n.invariant.comes c.loop-n.at _ (pushes_none c.args.content c.args.text.now c.loop-n.at c.in_ok-n.n _ _ unit.len c.if-n-eq0.true unit.value)

pub loop-n-preserved : goal.loop-n-preserved
loop-n-preserved c =
    let unit = c.in_ok-n.ensures in
    record {
      order = (let kept = c.loop-n.invariant.order in omega arith);
      within = (let len = unit.len in omega (arith, unit_fits c.args.content c.args.text.now c.loop-n.at c.loop-n.invariant.within));
      place = unit.place;
      comes = λ end new later. c.loop-n.invariant.comes end new (pushes_more c.args.content c.args.text.now c.loop-n.at _ c.in_ok-n.n end _ _ new unit.len refl (omega arith) unit.value later);
    }
