use Rattle.std.proofs.Common.{◌≡◌, arith, length, string_bytes, map, ◌∙◌, ap}
use Rattle.std.specs.Prelude.{◌||◌}
use Rattle.extract_call.specs.Plans.{over}
use Rattle.extract_call.proofs.Complete.{run_of, counted_after, unfaulted}
use Rattle.extract_call.proofs.Walk.{ended_at, ended_done, ended_refused, next_page, name_at, place_within, places}
use Rattle.extract_call.proofs.pages.write_each.Goals as goal
use Rattle.extract_call.proofs.pages.write_each.Goals.{then-refused, else-refused}

pub loop-name-preserved : goal.loop-name-preserved
loop-name-preserved g c =
    let here = name_at c.args.names.now c.loop-name.name-index c.name-item.result c.name-item.is c.loop-name-test.true in
    let or : c.if-refused.refused ≡ (c.loop-name.refused || c.in-Ok.one) = elim c.if-refused.branch [ then-refused w ↦ cc | else-refused w ↦ cc ] in
    let ok = rw (c.loop-name.invariant.told, c.as_str.ensures.value) at c.in-Ok.ensures.ok in
    record {
      told = c.in-Ok.ensures.counts.told ∙ c.loop-name.invariant.told;
      begun = omega (arith, c.loop-name.invariant.begun, c.in-Ok.ensures.begun);
      pages_uncounted = c.in-Ok.ensures.counts.pages_uncounted (λ z. cc) ∙ c.loop-name.invariant.pages_uncounted;
      sink_uncounted = c.in-Ok.ensures.counts.sink_uncounted (λ z. cc) ∙ c.loop-name.invariant.sink_uncounted;
      idle = λ z. absurd (omega arith);
      written = λ line makes. rw or (next_page c.laws_below.ensures.takings line (g.P.Pages.told c.args.pages.now) (map string_bytes c.args.names.now) c.loop-name.name-index _ _ _ c.loop-name.refused c.in-Ok.one (string_bytes c.name-item.result) (c.loop-name.invariant.written line makes) (place_within c.args.names.now c.loop-name.name-index c.loop-name-test.true) here (ok line makes));
    }

pub returns-in-Err-clause-run : goal.returns-in-Err-clause-run
returns-in-Err-clause-run g c = λ line makes.
    let here = name_at c.args.names.now c.loop-name.name-index c.name-item.result c.name-item.is c.loop-name-test.true in
    let within = place_within c.args.names.now c.loop-name.name-index c.loop-name-test.true in
    let part = rw (c.loop-name.invariant.told, c.as_str.ensures.value) at c.in-Err.ensures.err in
    let cause = rw (c.loop-name.invariant.told, c.as_str.ensures.value) at c.in-Err.ensures.read_fault in
    run_of (over line (map string_bytes c.args.names.now)) _ _ _ _ _
    (ended_at c.laws_below.ensures.takings line (g.P.Pages.told c.args.pages.now) (map string_bytes c.args.names.now) c.loop-name.name-index _ _ _ c.loop-name.refused (string_bytes c.name-item.result)
    _ _ _ _ _ _ _ _ _ _ (c.loop-name.invariant.written line makes) within here c.loop-name.invariant.begun c.in-Err.ensures.begun (omega (arith, c.loop-name.invariant.pages_uncounted)) (omega (arith, c.loop-name.invariant.sink_uncounted)) (part line makes)
    (λ e. cause (cc)) c.in-Err.ensures.counts.write_fault (λ e. c.in-Err.ensures.other.0 (cc)) (λ e. c.in-Err.ensures.other.1 (cc)) (λ e. c.in-Err.ensures.other.2 (cc)))
    (counted_after _ _ _ _ _ _ _ c.loop-name.invariant.told c.loop-name.invariant.pages_uncounted c.loop-name.invariant.sink_uncounted c.in-Err.ensures.counts)
    (λ none. absurd (let z : length (map string_bytes c.args.names.now) ≡ 0 = ap length none in omega (arith, within)))

pub returns-then-refused-2-clause-run : goal.returns-then-refused-2-clause-run
returns-then-refused-2-clause-run g c = λ line makes.
    let here = rw c.if-refused-2.true at (c.loop-name.invariant.written line makes) in
    let last : c.loop-name.name-index ≡ length (map string_bytes c.args.names.now) = omega (arith, places c.args.names.now) in
    run_of (over line (map string_bytes c.args.names.now)) _ _ _ _ _
    (ended_refused c.laws_below.ensures.takings line (g.P.Pages.told c.args.pages.now) (map string_bytes c.args.names.now) c.loop-name.name-index _ _ _ _ _ _ _ _ here last c.loop-name.invariant.begun)
    (unfaulted _ _ _ _ _ c.loop-name.invariant.told c.loop-name.invariant.pages_uncounted c.loop-name.invariant.sink_uncounted (λ z. cc))
    (λ none. c.loop-name.invariant.idle (last ∙ ap length none))

pub returns-else-refused-2-clause-run : goal.returns-else-refused-2-clause-run
returns-else-refused-2-clause-run g c = λ line makes.
    let here = rw c.if-refused-2.false at (c.loop-name.invariant.written line makes) in
    let last : c.loop-name.name-index ≡ length (map string_bytes c.args.names.now) = omega (arith, places c.args.names.now) in
    run_of (over line (map string_bytes c.args.names.now)) _ _ _ _ _
    (ended_done c.laws_below.ensures.takings line (g.P.Pages.told c.args.pages.now) (map string_bytes c.args.names.now) c.loop-name.name-index _ _ _ _ _ _ _ _ here last c.loop-name.invariant.begun)
    (unfaulted _ _ _ _ _ c.loop-name.invariant.told c.loop-name.invariant.pages_uncounted c.loop-name.invariant.sink_uncounted (λ z. cc))
    (λ none. c.loop-name.invariant.idle (last ∙ ap length none))
