-- What holds of each run.
use Rattle.std.specs.Prelude.{◌≡◌, ◌≢◌, ◌≤◌, ℕ, ◌⊎◌, true, false, List, [], length, Option, IfSome}
use Rattle.io_edges.specs.Counts.{Rose, Grows}
use Rattle.io_edges.specs.Sink.{TakesPart}
use Rattle.extract_call.specs.Answers.{bytes_of}
use Rattle.extract_call.specs.Output.{names_of, answers, known, HasAll, Stopped, InTurn, Written, Completes, Lacking}
use Rattle.extract_call.specs.Plans.{Plan}
use Rattle.extract_call.specs.declared.status.Status.{Status}
use Rattle.extract_call.specs.declared.status.Status.TheVariants.{Done, Refused, ReadFault, WriteFault}

-- The pages as they are before or after a run: what is told of the bytes of each name, how many times a page was begun, and how
-- many faults were counted.
pub record PagesAt (P : Type 0) : Type 0 where
  pub pages : P
  pub told : Option (List (List ℕ × List ℕ))
  pub begun : ℕ
  pub faults : ℕ

-- The sink as it is before or after a run: the bytes that it took, where it tells them, and how many faults were counted.
pub record SinkAt : Type 0 where
  pub taken : Option (List ℕ)
  pub faults : ℕ

abbrev pub pages_at : {P : Type 0} → P → Option (List (List ℕ × List ℕ)) → ℕ → ℕ → PagesAt P
pages_at pages told begun faults = record { pages = pages; told = told; begun = begun; faults = faults }

abbrev pub sink_at : Option (List ℕ) → ℕ → SinkAt
sink_at taken faults = record { taken = taken; faults = faults }

-- What holds of a run of the plan.
pub record Run {P : Type 0} (plan : Plan) (pages pages' : PagesAt P) (sink sink' : SinkAt) (status : Status) : Type 0 where
  -- A run without pages leaves them as they were, and meets no read fault.
  pub no_pages : names_of plan ≡ [] → (pages'.pages ≡ pages.pages) × (status ≢ ReadFault)
  -- Whatever the status, a prefix of the output was written.
  pub prefix : IfSome (known plan pages.told) (λ told. TakesPart sink.taken (bytes_of (answers plan told)) sink'.taken)
  -- Whatever the status, a page was begun only after the lines of all pages before it were written.
  pub in_turn : InTurn plan pages.told pages.begun pages'.begun sink.taken sink'.taken
  -- All was written, and each page was read.
  pub done : status ≡ Done → IfSome (known plan pages.told) (λ told. Written plan told sink.taken sink'.taken false)
  pub refused : status ≡ Refused → IfSome (known plan pages.told) (λ told. Written plan told sink.taken sink'.taken true)
  pub begun : (status ≡ Done) ⊎ (status ≡ Refused) → Grows pages.begun (length (names_of plan)) pages'.begun
  -- A read fault has a cause.
  pub read_fault : status ≡ ReadFault → Stopped plan pages.told pages.begun pages'.begun pages.faults pages'.faults sink.taken sink'.taken
  -- A write fault has a cause.
  pub write_fault : status ≡ WriteFault → Rose sink.faults sink'.faults
  -- Where no fault rises.
  pub complete : ¬ Rose pages.faults pages'.faults → ¬ Rose sink.faults sink'.faults →
      IfSome (known plan pages.told) (λ told. HasAll told (names_of plan) → Completes plan told sink.taken sink'.taken status)
  pub lacking : ¬ Rose pages.faults pages'.faults → ¬ Rose sink.faults sink'.faults →
      IfSome (known plan pages.told) (λ told. (¬ HasAll told (names_of plan)) → Lacking plan told sink.taken sink'.taken status)
  -- Whatever the status, what is told of the pages stays, no count of faults falls, and each rises only in a run that ends by
  -- such a fault.
  pub told : pages'.told ≡ pages.told
  pub page_faults : pages.faults ≤ pages'.faults
  pub sink_faults : sink.faults ≤ sink'.faults
  pub pages_uncounted : status ≢ ReadFault → pages'.faults ≡ pages.faults
  pub sink_uncounted : status ≢ WriteFault → sink'.faults ≡ sink.faults
