use Rattle.std.proofs.Common.{arith, ◌≡◌, ◌+◌, get_or, sym, ◌∙◌}
use Rattle.text_base.proofs.Boundaries.{at_start, after_ascii}
use Rattle.query_script.proofs.StringLemmas.{begins, no_end, closes, goes_wrong, goes_on}
use Rattle.query_script.proofs.strings.unquoted.Goals as goal

pub loop-at-init : goal.loop-at-init
loop-at-init c = record {
  so_far = rw c.new-value.ensures.bytes (begins c.args.quote c.args.text.now);
  within = omega arith;
  place = at_start c.args.text.now c.utf8.text;
}

pub returns-then-end-text : goal.returns-then-end-text
returns-then-end-text c = no_end c.args.quote c.args.text.now _ c.loop-at.at c.find_byte-end.result c.loop-at.invariant.so_far c.loop-at.invariant.within c.find_byte-end.ensures.end c.if-end-text.true

pub returns-then-end-text-2 : goal.returns-then-end-text-2
returns-then-end-text-2 c =
    rw (c.in_ok-push_str.ensures.bytes, c.part.ensures) (closes c.args.quote c.args.text.now _ c.loop-at.at c.find_byte-end.result c.loop-at.invariant.so_far c.loop-at.invariant.within c.find_byte-end.ensures.end (omega arith)
    c.if-end-text-2.true)

pub returns-then-byte_at-quote : goal.returns-then-byte_at-quote
returns-then-byte_at-quote c =
    goes_wrong c.args.quote c.args.text.now _ c.loop-at.at c.find_byte-end.result c.loop-at.invariant.so_far c.loop-at.invariant.within c.find_byte-end.ensures.end c.if-end-text.false c.if-end-text-2.false
    (rw c.byte_at.ensures at c.if-byte_at-quote.true)

pub loop-at-preserved : goal.loop-at-preserved
loop-at-preserved c =
    let again : get_or c.args.text.now (c.find_byte-end.result + 1) 0 ≡ c.args.quote = sym c.byte_at.ensures ∙ c.if-byte_at-quote.false in
    record {
      so_far =
          rw (c.in_ok-push_str-2.ensures.bytes, c.part-in-loop-at.ensures, c.in_ok-push_str.ensures.bytes, c.part.ensures) (goes_on c.args.quote c.args.text.now _ c.loop-at.at c.find_byte-end.result c.loop-at.invariant.so_far
          c.loop-at.invariant.within c.find_byte-end.ensures.end c.if-end-text.false c.if-end-text-2.false again);
      within = (let l = c.if-end-text-2.false in omega arith);
      place = after_ascii c.args.text.now (c.find_byte-end.result + 1) (c.find_byte-end.result + 2) c.utf8.text (omega arith) (let l = c.if-end-text-2.false in omega arith) (let ascii = c.requires.ascii in omega arith);
    }
