-- What the program says on standard error of how a run ended.
use Rattle.std.specs.Prelude.{ℕ, List, [], codes}
use Rattle.extract_call.specs.declared.status.Status.{Status}
use Rattle.extract_call.specs.declared.status.Status.TheVariants.{Done, Refused, Usage, Memory, ReadFault, WriteFault}

-- nothing where all was written
abbrev pub message_of : Status → List ℕ
message_of Done = []
message_of Refused = []
message_of Usage = codes "why: usage"
message_of Memory = codes "why: no memory"
message_of ReadFault = codes "why: read fault"
message_of WriteFault = codes "why: write fault"
