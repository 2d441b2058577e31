use Rattle.std.proofs.Common.{arith, sym, ◌∙◌, ap}
use Rattle.std.proofs.lemmas.List.{map-append}
use Rattle.text_base.proofs.Boundaries.{at_start, past_ascii}
use Rattle.page_records.proofs.CutLemmas.{begins, cuts_here, goes_past, cut_ascii}
use Rattle.page_records.proofs.braces.block_pieces.Goals as goal

pub loop-at-init : goal.loop-at-init
loop-at-init c = record {
  cutting = rw c.new-done.ensures.items (begins c.args.text.now);
  order = omega arith;
  place = at_start c.args.text.now c.utf8.text;
}

pub loop-at-preserved-then-is_cut : goal.loop-at-preserved-then-is_cut
loop-at-preserved-then-is_cut c =
    let cut = ap (λ b. b) (sym c.is_cut.ensures ∙ c.if-is_cut.true) in
    record {
      cutting = rw (c.in_ok-push.ensures.items, map-append, c.part.ensures) (cuts_here c.args.text.now c.loop-at.at c.loop-at.start _ c.loop-at.begun c.loop-at.quote c.last_close-last.result
          c.loop-at.invariant.cutting c.loop-at-test.true c.last_close-last.ensures (rw c.byte_at-byte.ensures at cut));
      order = omega arith;
      place = past_ascii c.args.text.now c.loop-at.at c.utf8.text c.loop-at-test.true (cut_ascii c.loop-at.begun c.loop-at.quote _ _ (rw c.byte_at-byte.ensures at cut));
    }

pub loop-at-preserved : goal.loop-at-preserved
loop-at-preserved c =
    let uncut = ap (λ b. b) (sym c.is_cut.ensures ∙ c.if-is_cut.false) in
    record {
      cutting = rw (c.open_after-begun.ensures, c.quote_after-quote.ensures, c.byte_at-byte.ensures) (goes_past c.args.text.now c.loop-at.at c.loop-at.start _ c.loop-at.begun c.loop-at.quote
          c.last_close-last.result c.loop-at.invariant.cutting c.loop-at-test.true c.last_close-last.ensures c.loop-at.invariant.order (rw c.byte_at-byte.ensures at uncut));
      order = (let order = c.loop-at.invariant.order in omega arith);
      place = c.loop-at.invariant.place;
    }
