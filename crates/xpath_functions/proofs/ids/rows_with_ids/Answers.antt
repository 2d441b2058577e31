use Rattle.std.proofs.Common.{◌≡◌, sym, ◌∙◌, ap, arith}
use Rattle.std.specs.List.{list_any, range_with_len}
use Rattle.doc_model.specs.Attributes.{has_id}
use Rattle.xpath_parser.specs.Functions.{is_id}
use Rattle.xpath_functions.proofs.FirstIds.{first_ids, fewer, kept, passed}
use Rattle.xpath_functions.proofs.ids.rows_with_ids.Goals as goal
use Rattle.xpath_functions.proofs.ids.rows_with_ids.Goals.{then-is_found+in_ok-push, else-is_found}

pub loop-y-preserved : goal.loop-y-preserved
loop-y-preserved g c =
    let doc = g.T.Tree.document c.args.tree.now in
    let y = c.loop-y.y in
    let ws = c.args.words.now in
    let wanted : list_any (λ w. is_id doc w y) ws ≡ c.is_found.result =
    sym (c.is_found.ensures.found ws (λ w. list_any (has_id doc w) (range_with_len 0 y)) c.loop-y.invariant.left ∙ first_ids doc y ws (omega (arith, c.loop-y-test.true, c.len-y-end.ensures))) in
    record {
      found = elim c.if-is_found.branch [
        | then-is_found+in_ok-push w ↦
            kept (λ y. list_any (λ w. is_id doc w y) ws) y c.loop-y.found.items c.if-is_found.found.items (wanted ∙ w.if-is_found.true) c.loop-y.invariant.found
            (ap (λ v. v.items) w.found-is ∙ w.in_ok-push.ensures.items)
        | else-is_found w ↦
            passed (λ y. list_any (λ w. is_id doc w y) ws) y c.loop-y.found.items c.if-is_found.found.items (wanted ∙ w.if-is_found.false) c.loop-y.invariant.found (ap (λ v. v.items) w.found-is)
      ];
      left = λ q. fewer (has_id doc q) y _ _ _ (c.loop-y.invariant.left q) (c.is_found.ensures.left q);
    }
