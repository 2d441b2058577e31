use Rattle.std.proofs.Common.{◌≡◌, refl, inl, inr, arith, List, [], ◌∷◌, ◌∙◌, sym}
use Rattle.std.specs.Prelude.{true, false}
use Rattle.extract_call.specs.Answers.{answer_of}
use Rattle.extract_call.specs.Plans.{over}
use Rattle.extract_call.proofs.Complete.{run_of, counted_then}
use Rattle.extract_call.proofs.Walk.{ended_at, ended_done, ended_refused, next_page}
use Rattle.why_call.proofs.OnePage.{answer_taken, answer_part, start}
use Rattle.why_call.proofs.writing.write_page.Goals as goal

pub returns-then-refused-clause-run : goal.returns-then-refused-clause-run
returns-then-refused-clause-run g c = λ line makes.
    let told = g.P.Pages.told c.args.pages.now in
    let law = c.laws_below.ensures.lines.takings in
    let names : List _ = c.args.name.now ∷ [] in
    let taken = answer_taken c.laws_below.ensures line makes told c.args.name.now (g.W.Sink.taken c.args.sink.now) _ (answer_of c.in-Ok.line) true c.in-Ok.ensures.ok
    (c.in-Ok-write_line.ensures.ok.0 ∙ c.if-refused.true) c.in-Ok-write_line.ensures.ok.1 in
    run_of (over line names) _ _ _ _ _
    (ended_refused law line told names 1 _ _ _ _ _ _ _ _ (next_page law line told names 0 _ _ _ false true c.args.name.now (start law line told c.args.name.now _) (omega arith) refl taken) refl c.in-Ok.ensures.begun)
    (counted_then _ _ _ _ _ (c.in-Ok.ensures.counts _) c.in-Ok-write_line.ensures.never_falls (λ z. c.in-Ok-write_line.ensures.uncounted (λ e. cc)) (λ z. absurd (cc)))
    (λ none. absurd (cc))

pub returns-else-refused-clause-run : goal.returns-else-refused-clause-run
returns-else-refused-clause-run g c = λ line makes.
    let told = g.P.Pages.told c.args.pages.now in
    let law = c.laws_below.ensures.lines.takings in
    let names : List _ = c.args.name.now ∷ [] in
    let taken = answer_taken c.laws_below.ensures line makes told c.args.name.now (g.W.Sink.taken c.args.sink.now) _ (answer_of c.in-Ok.line) false c.in-Ok.ensures.ok
    (c.in-Ok-write_line.ensures.ok.0 ∙ c.if-refused.false) c.in-Ok-write_line.ensures.ok.1 in
    run_of (over line names) _ _ _ _ _
    (ended_done law line told names 1 _ _ _ _ _ _ _ _ (next_page law line told names 0 _ _ _ false false c.args.name.now (start law line told c.args.name.now _) (omega arith) refl taken) refl c.in-Ok.ensures.begun)
    (counted_then _ _ _ _ _ (c.in-Ok.ensures.counts _) c.in-Ok-write_line.ensures.never_falls (λ z. c.in-Ok-write_line.ensures.uncounted (λ e. cc)) (λ z. absurd (cc)))
    (λ none. absurd (cc))

pub returns-in-Err-write_line-clause-run : goal.returns-in-Err-write_line-clause-run
returns-in-Err-write_line-clause-run g c = λ line makes.
    let told = g.P.Pages.told c.args.pages.now in
    let law = c.laws_below.ensures.lines.takings in
    let names : List _ = c.args.name.now ∷ [] in
    let part = answer_part c.laws_below.ensures line makes told c.args.name.now (g.W.Sink.taken c.args.sink.now) _ (answer_of c.in-Ok.line) c.in-Ok.ensures.ok c.in-Err-write_line.ensures.err in
    run_of (over line names) _ _ _ _ _
    (ended_at law line told names 0 _ (g.W.Sink.taken c.args.sink.now) _ false c.args.name.now _ (g.P.Pages.begun c.args.pages.now) _ _ (g.P.Pages.faults c.args.pages.now) _ _ (g.W.Sink.faults c.args.sink.now) _ _ (start law line told c.args.name.now _) (omega arith) refl
    (omega arith) c.in-Ok.ensures.begun (omega arith) (omega arith) (inr part)
    (λ e. absurd (c.in-Err-write_line.ensures.other.3 (cc))) (λ e. c.in-Err-write_line.ensures.write_fault (cc)) (λ e. c.in-Err-write_line.ensures.other.0 (cc)) (λ e. c.in-Err-write_line.ensures.other.1 (cc)) (λ e. c.in-Err-write_line.ensures.other.2 (cc)))
    (counted_then _ _ _ _ _ (c.in-Ok.ensures.counts _) c.in-Err-write_line.ensures.never_falls (λ z. c.in-Err-write_line.ensures.uncounted (λ e. z (cc))) (λ z. c.in-Err-write_line.ensures.write_fault (cc)))
    (λ none. absurd (cc))

pub returns-in-Err-clause-run : goal.returns-in-Err-clause-run
returns-in-Err-clause-run g c = λ line makes.
    let told = g.P.Pages.told c.args.pages.now in
    let law = c.laws_below.ensures.lines.takings in
    let names : List _ = c.args.name.now ∷ [] in
    run_of (over line names) _ _ _ _ _
    (ended_at law line told names 0 _ (g.W.Sink.taken c.args.sink.now) _ false c.args.name.now _ (g.P.Pages.begun c.args.pages.now) _ _ (g.P.Pages.faults c.args.pages.now) _ _ (g.W.Sink.faults c.args.sink.now) _ _ (start law line told c.args.name.now _) (omega arith) refl
    (omega arith) c.in-Err.ensures.begun (omega arith) (omega arith) (inl refl)
    (λ e. (c.in-Err.ensures.read_fault (cc), refl)) (λ e. absurd (c.in-Err.ensures.other.3 (cc))) (λ e. c.in-Err.ensures.other.0 (cc)) (λ e. c.in-Err.ensures.other.1 (cc)) (λ e. c.in-Err.ensures.other.2 (cc)))
    (c.in-Err.ensures.counts _)
    (λ none. absurd (cc))
