use Rattle.std.proofs.Common.{sym, ◌∙◌, arith}
use Rattle.doc_model.proofs.Named.{found, none}
use Rattle.doc_model.proofs.attributes.attribute_named.Goals as goal

pub returns-then-is_attribute_of-clause-named : goal.returns-then-is_attribute_of-clause-named
returns-then-is_attribute_of-clause-named g c =
    found (g.T.Tree.document c.args.tree.now) (g.N.WantedName.wanted c.args.name.now) c.args.e c.loop-z.z (g.met.T.Tree.is_document c.args.tree.now) (omega (arith, c.loop-z.invariant.all))
    (sym c.is_attribute_of.ensures ∙ c.if-is_attribute_of.true) c.loop-z.invariant.others

pub returns-else-is_attribute-clause-named : goal.returns-else-is_attribute-clause-named
returns-else-is_attribute-clause-named g c =
    let i = c.loop-z.invariant in
    none (g.T.Tree.document c.args.tree.now) (g.N.WantedName.wanted c.args.name.now) c.args.e c.loop-z.z (g.met.T.Tree.is_document c.args.tree.now)
    (record { after = i.after; within = i.within; inside = i.attributes; outside = λ _. sym c.is_attribute.ensures ∙ c.if-is_attribute.false }) i.others

pub returns-after-loop-z-clause-named : goal.returns-after-loop-z-clause-named
returns-after-loop-z-clause-named g c =
    let i = c.loop-z.invariant in
    none (g.T.Tree.document c.args.tree.now) (g.N.WantedName.wanted c.args.name.now) c.args.e c.loop-z.z (g.met.T.Tree.is_document c.args.tree.now)
    (record { after = i.after; within = i.within; inside = i.attributes; outside = λ l. absurd (omega (arith, l, i.all, c.loop-z-test.false)) }) i.others
