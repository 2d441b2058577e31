-- How a run without faults ends.
use Rattle.std.proofs.Common.{◌≡◌, ◌≢◌, ◌≤◌, refl, ℕ, ◌<◌, List, [], Option, Some, None, length, sym, ◌∙◌, ap, arith, inl, inr, append-nil, subst}
use Rattle.std.specs.Prelude.{IfSome, Bool, true, false, ◌||◌, ◌⊎◌, slice_index_or}
use Rattle.io_edges.specs.Counts.{Rose, Grows}
use Rattle.io_edges.specs.Laws.{TakingLaw}
use Rattle.io_edges.specs.Pages.{Lacks}
use Rattle.io_edges.specs.Sink.{grown, TakesPart}
use Rattle.extract_call.specs.Answers.{Answer, bytes_of, line_bytes}
use Rattle.extract_call.specs.Output.{names_of, answers, known, page_answers, HasAll, Written, Stopped, Completes, Lacking}
use Rattle.extract_call.specs.Plans.{Plan, alone, over}
use Rattle.extract_call.specs.Runs.{PagesAt, SinkAt, Run}
use Rattle.extract_call.specs.inner.OnePage.{Counted}
use Rattle.extract_call.proofs.Ended.{Ended}
use Rattle.extract_call.proofs.OutputLemmas.{part_of_nothing, part_whole, not_all, answers_lacking}
use Rattle.extract_call.proofs.Turns.{turn_alone, turn_of_nothing}
use Rattle.extract_call.specs.declared.status.Status.{Status}
use Rattle.extract_call.specs.declared.status.Status.TheVariants.{Done, Refused, Usage, Memory, ReadFault, WriteFault}

-- a run that found no memory before it began a page
pub nothing_written : (law : TakingLaw) (plan : Plan) (told : Option (List (List ℕ × List ℕ))) (b f : ℕ) (old : Option (List ℕ)) (s : ℕ) → Ended plan told b b f f old old s s Memory
nothing_written law plan told b f old s = record {
  prefix = front (known plan told) (λ pages. bytes_of (answers plan pages));
  done = λ z. absurd (cc);
  refused = λ z. absurd (cc);
  begun_all = neither;
  read_fault = λ z. absurd (cc);
  in_turn = turn_of_nothing law plan told old b;
  write_fault = λ z. absurd (cc);
  used = λ z. cc;
}
  where
    front : (told : Option (List (List ℕ × List ℕ))) (bytes : List (List ℕ × List ℕ) → List ℕ) → IfSome told (λ pages. TakesPart old (bytes pages) old)
    front None bytes = tt
    front (Some pages) bytes = part_of_nothing law old (bytes pages)

    neither : (Memory ≡ Done) ⊎ (Memory ≡ Refused) → Grows b (length (names_of plan)) b
    neither (inl e) = absurd (cc)
    neither (inr e) = absurd (cc)

-- a run without pages whose line was not written whole
pub alone_stopped : (law : TakingLaw) (made a : Answer) (told : Option (List (List ℕ × List ℕ))) (b f : ℕ) (old new : Option (List ℕ)) (s s' : ℕ) (status : Status) →
    TakesPart old (line_bytes made) new → made ≡ a → (status ≡ WriteFault → Rose s s') →
    (status ≡ Done → ⊥) → (status ≡ Refused → ⊥) → (status ≡ Usage → ⊥) → (status ≡ ReadFault → ⊥) → Ended (alone a) told b b f f old new s s' status
alone_stopped law made a told b f old new s s' status t same wf nd nr nu nf = record {
  prefix = rw (append-nil (line_bytes a)) part;
  done = λ z. absurd (nd z);
  refused = λ z. absurd (nr z);
  begun_all = neither;
  read_fault = λ z. absurd (nf z);
  in_turn = turn_alone law a told old new b part;
  write_fault = wf;
  used = nu;
}
  where
    part : TakesPart old (line_bytes a) new
    part = subst (λ (x : Answer). TakesPart old (line_bytes x) new) same t

    neither : (status ≡ Done) ⊎ (status ≡ Refused) → Grows b (length (names_of (alone a))) b
    neither (inl z) = absurd (nd z)
    neither (inr z) = absurd (nr z)

-- a run without pages meets no read fault
pub no_read_fault : (plan : Plan) (told : Option (List (List ℕ × List ℕ))) (b b' f f' : ℕ) (old new : Option (List ℕ)) (s s' : ℕ) (status : Status)
    → Ended plan told b b' f f' old new s s' status → names_of plan ≡ [] → status ≡ ReadFault → ⊥
no_read_fault plan told b b' f f' old new s s' status e none stopped =
    let q : Stopped plan told b b' f f' old new = e.read_fault stopped in
    let w : q.before < length (names_of plan) = q.within in
    let z : length (names_of plan) ≡ 0 = ap length none in omega arith

by_status : (plan : Plan) (told : List (List ℕ × List ℕ)) (taken taken' : Option (List ℕ)) (status : Status) →
    (status ≡ Done → Written plan told taken taken' false) → (status ≡ Refused → Written plan told taken taken' true) →
    (status ≡ ReadFault → ⊥) → (status ≡ WriteFault → ⊥) → (status ≡ Usage → ⊥) → Completes plan told taken taken' status
by_status plan told taken taken' Done d r f w u = inr (inl (refl, d refl))
by_status plan told taken taken' Refused d r f w u = inr (inr (refl, r refl))
by_status plan told taken taken' Usage d r f w u = absurd (u refl)
by_status plan told taken taken' Memory d r f w u = inl refl
by_status plan told taken taken' ReadFault d r f w u = absurd (f refl)
by_status plan told taken taken' WriteFault d r f w u = absurd (w refl)

no_cause : (line : List ℕ → List ℕ → Answer) (names : List (List ℕ)) (told : List (List ℕ × List ℕ)) (b b' f f' : ℕ) (taken taken' : Option (List ℕ)) → HasAll told names → (Rose f f' → ⊥) →
    Stopped (over line names) (Some told) b b' f f' taken taken' → ⊥
no_cause line names told b b' f f' taken taken' h nf s = here s.cause
  where
    here : Rose f f' ⊎ Lacks (Some told) (slice_index_or names s.before []) → ⊥
    here (inl r) = nf r
    here (inr l) = not_all told names s.before s.within l h

pub completes : (plan : Plan) (told : Option (List (List ℕ × List ℕ))) (b b' f f' : ℕ) (taken taken' : Option (List ℕ)) (s s' : ℕ) (status : Status) →
    Ended plan told b b' f f' taken taken' s s' status → (Rose f f' → ⊥) → (Rose s s' → ⊥) →
    IfSome (known plan told) (λ pages. HasAll pages (names_of plan) → Completes plan pages taken taken' status)
completes (alone a) told b b' f f' taken taken' s s' status e nf ns = λ h.
    by_status (alone a) [] taken taken' status e.done e.refused (λ z. let q : Stopped (alone a) told b b' f f' taken taken' = e.read_fault z in let w : q.before < 0 = q.within in omega arith) (λ z. ns (e.write_fault z)) e.used
completes (over line names) None b b' f f' taken taken' s s' status e nf ns = tt
completes (over line names) (Some told) b b' f f' taken taken' s s' status e nf ns = λ h.
    by_status (over line names) told taken taken' status e.done e.refused (λ z. no_cause line names told b b' f f' taken taken' h nf (e.read_fault z)) (λ z. ns (e.write_fault z)) e.used

by_status_lacking : (plan : Plan) (told : List (List ℕ × List ℕ)) (taken taken' : Option (List ℕ)) (status : Status) →
    (status ≡ Done → ⊥) → (status ≡ Refused → ⊥) →
    (status ≡ ReadFault → taken' ≡ grown taken (bytes_of (answers plan told))) → (status ≡ WriteFault → ⊥) → (status ≡ Usage → ⊥) → Lacking plan told taken taken' status
by_status_lacking plan told taken taken' Done d r f w u = absurd (d refl)
by_status_lacking plan told taken taken' Refused d r f w u = absurd (r refl)
by_status_lacking plan told taken taken' Usage d r f w u = absurd (u refl)
by_status_lacking plan told taken taken' Memory d r f w u = inl refl
by_status_lacking plan told taken taken' ReadFault d r f w u = inr (refl, f refl)
by_status_lacking plan told taken taken' WriteFault d r f w u = absurd (w refl)

all_before : (line : List ℕ → List ℕ → Answer) (names : List (List ℕ)) (told : List (List ℕ × List ℕ)) (b b' f f' : ℕ) (taken taken' : Option (List ℕ)) → (Rose f f' → ⊥) →
    Stopped (over line names) (Some told) b b' f f' taken taken' → taken' ≡ grown taken (bytes_of (page_answers line told names))
all_before line names told b b' f f' taken taken' nf s = here s.cause
  where
    here : Rose f f' ⊎ Lacks (Some told) (slice_index_or names s.before []) → taken' ≡ grown taken (bytes_of (page_answers line told names))
    here (inl r) = absurd (nf r)
    here (inr l) = s.written ∙ ap (λ x. grown taken (bytes_of x)) (sym (answers_lacking line told names s.before s.there s.within l))

pub lacks : (plan : Plan) (told : Option (List (List ℕ × List ℕ))) (b b' f f' : ℕ) (taken taken' : Option (List ℕ)) (s s' : ℕ) (status : Status) →
    Ended plan told b b' f f' taken taken' s s' status → (Rose f f' → ⊥) → (Rose s s' → ⊥) →
    IfSome (known plan told) (λ pages. (HasAll pages (names_of plan) → ⊥) → Lacking plan pages taken taken' status)
lacks (alone a) told b b' f f' taken taken' s s' status e nf ns = λ h. absurd (h tt)
lacks (over line names) None b b' f f' taken taken' s s' status e nf ns = tt
lacks (over line names) (Some told) b b' f f' taken taken' s s' status e nf ns = λ h.
    by_status_lacking (over line names) told taken taken' status (λ z. h (e.done z).there) (λ z. h (e.refused z).there) (λ z. all_before line names told b b' f f' taken taken' nf (e.read_fault z)) (λ z. ns (e.write_fault z)) e.used

-- ---- what the counts say

-- nothing was touched
pub untouched : {P : Type 0} (pages : PagesAt P) (sink : SinkAt) (status : Status) → (status ≡ WriteFault → ⊥) → Counted pages pages sink sink status
untouched pages sink status other = record {
  told = refl;
  write_fault = λ z. absurd (other z);
  page_faults = omega arith;
  sink_faults = omega arith;
  pages_uncounted = λ z. refl;
  sink_uncounted = λ z. refl;
}

-- no fault was counted
pub unfaulted : {P : Type 0} (pages pages' : PagesAt P) (sink sink' : SinkAt) (status : Status) → pages'.told ≡ pages.told → pages'.faults ≡ pages.faults → sink'.faults ≡ sink.faults
    → (status ≡ WriteFault → ⊥) → Counted pages pages' sink sink' status
unfaulted pages pages' sink sink' status told same_pages same_sink other = record {
  told = told;
  write_fault = λ z. absurd (other z);
  page_faults = omega (arith, same_pages);
  sink_faults = omega (arith, same_sink);
  pages_uncounted = λ z. same_pages;
  sink_uncounted = λ z. same_sink;
}

-- after a page was read, its line was written, or not
pub counted_then : {P : Type 0} (pages pages' : PagesAt P) (sink sink' : SinkAt) (status : Status) → Counted pages pages' sink sink Done → sink.faults ≤ sink'.faults
    → (status ≢ WriteFault → sink'.faults ≡ sink.faults) → (status ≡ WriteFault → Rose sink.faults sink'.faults) → Counted pages pages' sink sink' status
counted_then pages pages' sink sink' status read never_falls uncounted write_fault = record {
  told = read.told;
  write_fault = write_fault;
  page_faults = read.page_faults;
  sink_faults = never_falls;
  pages_uncounted = λ z. read.pages_uncounted (λ e. cc);
  sink_uncounted = uncounted;
}

-- what was counted of a page after others that met no fault
pub counted_after : {P : Type 0} (pages mid pages' : PagesAt P) (sink turn sink' : SinkAt) (status : Status) → mid.told ≡ pages.told → mid.faults ≡ pages.faults → turn.faults ≡ sink.faults
    → Counted mid pages' turn sink' status → Counted pages pages' sink sink' status
counted_after pages mid pages' sink turn sink' status told same_pages same_sink h = record {
  told = h.told ∙ told;
  write_fault = λ z. subst (λ n. Rose n sink'.faults) same_sink (h.write_fault z);
  page_faults = omega (arith, same_pages, h.page_faults);
  sink_faults = omega (arith, same_sink, h.sink_faults);
  pages_uncounted = λ z. h.pages_uncounted z ∙ same_pages;
  sink_uncounted = λ z. h.sink_uncounted z ∙ same_sink;
}

-- ---- what is promised of a run

pub run_of : {P : Type 0} (plan : Plan) (pages pages' : PagesAt P) (sink sink' : SinkAt) (status : Status)
    → Ended plan pages.told pages.begun pages'.begun pages.faults pages'.faults sink.taken sink'.taken sink.faults sink'.faults status
    → Counted pages pages' sink sink' status → (names_of plan ≡ [] → pages'.pages ≡ pages.pages) → Run plan pages pages' sink sink' status
run_of plan pages pages' sink sink' status e counts idle = record {
  no_pages = λ none. (idle none, no_read_fault plan pages.told _ _ _ _ _ _ _ _ status e none);
  prefix = e.prefix;
  in_turn = e.in_turn;
  done = e.done;
  refused = e.refused;
  begun = e.begun_all;
  read_fault = e.read_fault;
  complete = completes plan pages.told _ _ _ _ _ _ _ _ status e;
  lacking = lacks plan pages.told _ _ _ _ _ _ _ _ status e;
  told = counts.told;
  write_fault = counts.write_fault;
  page_faults = counts.page_faults;
  sink_faults = counts.sink_faults;
  pages_uncounted = counts.pages_uncounted;
  sink_uncounted = counts.sink_uncounted;
}

-- a run that left the pages alone, whatever pages they are
pub run_at : {P : Type 0} (plan : Plan) (pages : PagesAt P) (sink sink' : SinkAt) (status : Status)
    → ((none : PagesAt (Unit {0})) → Run plan none none sink sink' status) → Run plan pages pages sink sink' status
run_at plan pages sink sink' status r =
    let e : Run plan (record { pages = tt; told = pages.told; begun = pages.begun; faults = pages.faults }) (record { pages = tt; told = pages.told; begun = pages.begun; faults = pages.faults }) sink sink' status
    = r (record { pages = tt; told = pages.told; begun = pages.begun; faults = pages.faults }) in
    record {
      no_pages = λ none. (refl, (e.no_pages none).1);
      prefix = e.prefix;
      in_turn = e.in_turn;
      done = e.done;
      refused = e.refused;
      begun = e.begun;
      read_fault = e.read_fault;
      complete = e.complete;
      lacking = e.lacking;
      told = refl;
      write_fault = e.write_fault;
      page_faults = e.page_faults;
      sink_faults = e.sink_faults;
      pages_uncounted = λ other. refl;
      sink_uncounted = e.sink_uncounted;
    }

-- a run that found no memory before it began a page
pub nothing_run : {P : Type 0} (law : TakingLaw) (plan : Plan) (pages : PagesAt P) (sink : SinkAt) → Run plan pages pages sink sink Memory
nothing_run law plan pages sink =
    run_of plan pages pages sink sink Memory (nothing_written law plan pages.told pages.begun pages.faults sink.taken sink.faults) (untouched pages sink Memory (λ z. cc)) (λ none. refl)

-- a run without pages whose line was not written whole
pub part_run : {P : Type 0} (law : TakingLaw) (made a : Answer) (pages : PagesAt P) (sink sink' : SinkAt) (status : Status) → made ≡ a → TakesPart sink.taken (line_bytes made) sink'.taken →
    Counted pages pages sink sink' status → (status ≡ Done → ⊥) → (status ≡ Refused → ⊥) → (status ≡ Usage → ⊥) → (status ≡ ReadFault → ⊥) →
    Run (alone a) pages pages sink sink' status
part_run law made a pages sink sink' status same part counts nd nr nu nf =
    run_of (alone a) pages pages sink sink' status
    (alone_stopped law made a pages.told pages.begun pages.faults sink.taken sink'.taken sink.faults sink'.faults status part same counts.write_fault nd nr nu nf) counts (λ none. refl)

-- and one whose line was written
pub whole_run : {P : Type 0} (law : TakingLaw) (made a : Answer) (pages : PagesAt P) (sink sink' : SinkAt) (status : Status) → made ≡ a → sink'.taken ≡ grown sink.taken (line_bytes made) →
    sink'.faults ≡ sink.faults → (status ≡ Done → made.refused ≡ false) → (status ≡ Refused → made.refused ≡ true) → (status ≡ Usage → ⊥) → (status ≡ ReadFault → ⊥) → (status ≡ WriteFault → ⊥) →
    Run (alone a) pages pages sink sink' status
whole_run law made a pages sink sink' status same all uncounted d r nu nf nw =
    run_of (alone a) pages pages sink sink' status written (unfaulted pages pages sink sink' status refl refl uncounted nw) (λ none. refl)
  where
    taken : sink'.taken ≡ grown sink.taken (line_bytes a)
    taken = subst (λ (x : Answer). sink'.taken ≡ grown sink.taken (line_bytes x)) same all

    or_false : (b : Bool) → (b || false) ≡ b
    or_false true = refl
    or_false false = refl

    by_truth : (b : Bool) → made.refused ≡ b → Written (alone a) [] sink.taken sink'.taken b
    by_truth b e = record {
      there = tt;
      truth = or_false a.refused ∙ (ap (λ (x : Answer). x.refused) (sym same) ∙ e);
      all = rw (append-nil (line_bytes a)) taken;
    }

    written : Ended (alone a) pages.told pages.begun pages.begun pages.faults pages.faults sink.taken sink'.taken sink.faults sink'.faults status
    written = record {
      prefix = rw (append-nil (line_bytes a)) (part_whole sink.taken sink'.taken (line_bytes a) taken);
      done = λ z. by_truth false (d z);
      refused = λ z. by_truth true (r z);
      begun_all = λ z. omega arith;
      read_fault = λ z. absurd (nf z);
      in_turn = turn_alone law a pages.told sink.taken sink'.taken pages.begun (part_whole sink.taken sink'.taken (line_bytes a) taken);
      write_fault = λ z. absurd (nw z);
      used = nu;
    }
