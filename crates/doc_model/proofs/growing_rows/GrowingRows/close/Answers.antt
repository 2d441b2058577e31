use Rattle.std.proofs.Common.{◌-◌, subst, sym}
use Rattle.doc_model.specs.Growing.{IsGrowing}
use Rattle.doc_model.specs.KeptRows.{growing_of}
use Rattle.doc_model.proofs.Grown.{grown_close}
use Rattle.doc_model.proofs.Pushed.{closed_growing, closed_keeps, closed_small, same_row}
use Rattle.doc_model.proofs.growing_rows.GrowingRows.close.Goals as goal

pub invariant_of-self-clause-grown : goal.invariant_of-self-clause-grown
invariant_of-self-clause-grown g c =
    subst IsGrowing (sym (closed_growing c.args.self.now.rows.items c.args.self.now.unclosed.items c.pop.new.self.items c.in-Some.row c.next-end.result _ c.in-Some.ensures.items (same_row c.args.self.now.rows.items (c.in-Some.row - 1) c.index_mut-closed.result.now _ c.closed.view_is c.index_mut-closed.ensures.value)))
    (grown_close (growing_of c.args.self.now.rows.items c.args.self.now.unclosed.items) c.args.self.now.grown c.requires)

pub invariant_of-self-clause-ends : goal.invariant_of-self-clause-ends
invariant_of-self-clause-ends g c =
    closed_keeps c.args.self.now.rows.items c.args.self.now.unclosed.items c.pop.new.self.items c.in-Some.row c.next-end.result _ c.in-Some.ensures.items (same_row c.args.self.now.rows.items (c.in-Some.row - 1) c.index_mut-closed.result.now _ c.closed.view_is c.index_mut-closed.ensures.value) c.next-end.ensures c.args.self.now.grown
    c.args.self.now.ends

pub returns-in-Some : goal.returns-in-Some
returns-in-Some g c =
    closed_growing c.args.self.now.rows.items c.args.self.now.unclosed.items c.pop.new.self.items c.in-Some.row c.next-end.result _ c.in-Some.ensures.items (same_row c.args.self.now.rows.items (c.in-Some.row - 1) c.index_mut-closed.result.now _ c.closed.view_is c.index_mut-closed.ensures.value)

pub invariant_of-self-clause-small : goal.invariant_of-self-clause-small
invariant_of-self-clause-small g c = closed_small c.args.self.now.rows.items (c.in-Some.row - 1) _ c.args.self.now.small
