use Rattle.std.proofs.Common.{◌+◌, ◌-◌, ◌/◌, ◌^◌, arith, sym}
use Rattle.std.specs.Prelude.{filter}
use Rattle.std.specs.List.{range_with_len}
use Rattle.step_index.proofs.Places as places
use Rattle.step_index.proofs.look_ups.count_before.Goals as goal

pub loop-low-init : goal.loop-low-init
loop-low-init g c = record {
  front = λ p n le is. omega arith;
  back = λ p n le is. places.filter_le p c.args.end 0;
  within = omega arith;
  rose = omega arith;
  halved = places.start_halved c.args.steps.now c.args.end c.args.end (omega arith);
  cost = places.start_cost c.args.steps.now c.args.end;
}

pub loop-low-preserved-in-Some : goal.loop-low-preserved-in-Some
loop-low-preserved-in-Some g c =
    let inv = c.loop-low.invariant in
    let low = c.loop-low.low in
    let high = c.loop-low.high in
    let power = places.next_power (c.loop-low.steps - c.args.steps.now) (c.row_before.new.steps - c.args.steps.now) (omega (arith, inv.rose, c.row_before.ensures.one)) in
    record {
      front = λ p n le is. omega (arith, places.within_some (filter p (range_with_len 0 c.args.end)) (low + (high - low) / 2) c.in-Some.field-0 (sym (c.in-Some.ensures.row p n le is)));
      back = inv.back;
      within = inv.within;
      rose = omega (arith, inv.rose, c.row_before.ensures.one);
      halved = rw power (places.half_step (2 ^ (c.loop-low.steps - c.args.steps.now)) (high - low) (high - (low + (high - low) / 2 + 1)) c.args.end inv.halved (omega (arith, c.loop-low-test.true)));
      cost = rw power (places.cost_step (2 ^ (c.loop-low.steps - c.args.steps.now)) (high - low) c.args.end inv.halved (omega (arith, c.loop-low-test.true)));
    }

pub loop-low-preserved : goal.loop-low-preserved
loop-low-preserved g c =
    let inv = c.loop-low.invariant in
    let low = c.loop-low.low in
    let high = c.loop-low.high in
    let power = places.next_power (c.loop-low.steps - c.args.steps.now) (c.row_before.new.steps - c.args.steps.now) (omega (arith, inv.rose, c.row_before.ensures.one)) in
    record {
      front = inv.front;
      back = λ p n le is. places.past_none (filter p (range_with_len 0 c.args.end)) (low + (high - low) / 2) (sym (c.in-None.ensures.row p n le is));
      within = omega (arith, inv.within, c.loop-low-test.true);
      rose = omega (arith, inv.rose, c.row_before.ensures.one);
      halved = rw power (places.half_step (2 ^ (c.loop-low.steps - c.args.steps.now)) (high - low) (low + (high - low) / 2 - low) c.args.end inv.halved (omega (arith, c.loop-low-test.true)));
      cost = rw power (places.cost_step (2 ^ (c.loop-low.steps - c.args.steps.now)) (high - low) c.args.end inv.halved (omega (arith, c.loop-low-test.true)));
    }
