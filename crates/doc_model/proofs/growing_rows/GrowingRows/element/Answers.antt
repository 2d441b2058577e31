use Rattle.std.proofs.Common.{◌≡◌, subst, sym, arith}
use Rattle.std.specs.Prelude.{reverse}
use Rattle.doc_model.specs.Growing.{IsGrowing}
use Rattle.doc_model.specs.KeptRows.{growing_of, rows_of, ends_of, AreEnds}
use Rattle.doc_model.proofs.Pushed.{same_element, element_made, element_keeps, taken_back}
use Rattle.doc_model.proofs.growing_rows.GrowingRows.element.Goals as goal

pub invariant_of-self-in-Ok-clause-grown : goal.invariant_of-self-in-Ok-clause-grown
invariant_of-self-in-Ok-clause-grown g c =
    element_made c.args.self.now.rows.items c.push-2.new.self.items _ c.args.self.now.unclosed.items c.push.new.self.items c.next-at.result _ c.in-Ok.ensures.items c.in_ok-push.ensures.items
    (same_element (g.X.RowText.characters c.args.name) (g.X.RowText.characters c.args.nothing) _ _ c.innermost.ensures c.requires.nothing) c.next-at.ensures c.requires.name c.args.self.now.grown

pub invariant_of-self-in-Ok-clause-ends : goal.invariant_of-self-in-Ok-clause-ends
invariant_of-self-in-Ok-clause-ends g c =
    element_keeps c.args.self.now.rows.items c.push-2.new.self.items _ c.args.self.now.unclosed.items c.push.new.self.items c.next-at.result _ c.in-Ok.ensures.items c.in_ok-push.ensures.items
    (same_element (g.X.RowText.characters c.args.name) (g.X.RowText.characters c.args.nothing) _ _ c.innermost.ensures c.requires.nothing) c.next-at.ensures c.requires.name c.args.self.now.grown c.args.self.now.ends

pub invariant_of-self-in-Err-clause-grown : goal.invariant_of-self-in-Err-clause-grown
invariant_of-self-in-Err-clause-grown g c =
    let rows : c.push-2.new.self.items ≡ c.args.self.now.rows.items = c.in-Err.ensures.items in
    let back : c.pop.new.self.items ≡ c.args.self.now.unclosed.items = taken_back c.args.self.now.unclosed.items c.push.new.self.items c.pop.new.self.items c.next-at.result _ c.in_ok-push.ensures.items c.pop.ensures.rest (omega arith) in
    subst IsGrowing (sym (λ i. growing_of (rows i) (back i))) c.args.self.now.grown

pub invariant_of-self-in-Err-clause-ends : goal.invariant_of-self-in-Err-clause-ends
invariant_of-self-in-Err-clause-ends g c =
    let rows : c.push-2.new.self.items ≡ c.args.self.now.rows.items = c.in-Err.ensures.items in
    let back : c.pop.new.self.items ≡ c.args.self.now.unclosed.items = taken_back c.args.self.now.unclosed.items c.push.new.self.items c.pop.new.self.items c.next-at.result _ c.in_ok-push.ensures.items c.pop.ensures.rest (omega arith) in
    subst (λ r. AreEnds (rows_of r) (reverse c.pop.new.self.items) (ends_of r)) (sym rows) (subst (λ u. AreEnds (rows_of c.args.self.now.rows.items) (reverse u) (ends_of c.args.self.now.rows.items)) (sym back) c.args.self.now.ends)
