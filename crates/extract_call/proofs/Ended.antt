-- What is found of a run piece by piece, and that it is all that is promised of one.
use Rattle.std.proofs.Common.{◌≡◌, ◌≢◌, ℕ, ◌⊎◌, true, false, List, length, Option}
use Rattle.std.specs.Prelude.{IfSome}
use Rattle.io_edges.specs.Counts.{Rose, Grows}
use Rattle.io_edges.specs.Sink.{TakesPart}
use Rattle.extract_call.specs.Answers.{bytes_of}
use Rattle.extract_call.specs.Output.{names_of, answers, known, Stopped, InTurn, Written}
use Rattle.extract_call.specs.Plans.{Plan}
use Rattle.extract_call.specs.declared.status.Status.{Status}
use Rattle.extract_call.specs.declared.status.Status.TheVariants.{Done, Refused, Usage, ReadFault, WriteFault}

-- what does not follow from the rest
pub record Ended (plan : Plan) (told : Option (List (List ℕ × List ℕ))) (begun begun' faults faults' : ℕ) (taken taken' : Option (List ℕ)) (sink sink' : ℕ) (status : Status) : Type 0 where
  pub prefix : IfSome (known plan told) (λ pages. TakesPart taken (bytes_of (answers plan pages)) taken')
  pub done : status ≡ Done → IfSome (known plan told) (λ pages. Written plan pages taken taken' false)
  pub refused : status ≡ Refused → IfSome (known plan told) (λ pages. Written plan pages taken taken' true)
  pub begun_all : (status ≡ Done) ⊎ (status ≡ Refused) → Grows begun (length (names_of plan)) begun'
  pub read_fault : status ≡ ReadFault → Stopped plan told begun begun' faults faults' taken taken'
  pub in_turn : InTurn plan told begun begun' taken taken'
  pub write_fault : status ≡ WriteFault → Rose sink sink'
  pub used : status ≢ Usage
