use Rattle.std.proofs.Common.{sym, arith, ◌∷◌}
use Rattle.html_lexer.proofs.tags.tag_end.Goals as goal

pub loop-attribute-preserved : goal.loop-attribute-preserved
loop-attribute-preserved c =
    let read = c.in-Reads.ensures in
    record {
      order = omega (arith, read.bounds.0);
      within = read.bounds.1;
      place = read.bounds.2;
      comes = λ out later. c.loop-attribute.invariant.comes out (c.in-Reads.attribute ∷ later.0, (sym read.step, later.1));
    }
