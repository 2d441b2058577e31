-- What the program says on standard error of how a run ended.
use Rattle.std.specs.Prelude.{ℕ, List, [], codes}
use Rattle.extract_call.specs.declared.status.Status.{Status}
use Rattle.extract_call.specs.declared.status.Status.TheVariants.{Done, Refused, Usage, Memory, ReadFault, WriteFault}

-- nothing where all was written
abbrev pub message_of : Status → List ℕ
message_of Done = []
message_of Refused = []
message_of Usage = codes "extract: usage"
message_of Memory = codes "extract: no memory"
message_of ReadFault = codes "extract: read fault"
message_of WriteFault = codes "extract: write fault"
