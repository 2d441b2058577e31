-- What a sink in memory took, how it was made, and how many writes it had.
use Rattle.std.specs.Prelude.{◌≡◌, ℕ, ◌-◌, List, Option, Some, vec_len}
use Rattle.io_edges.specs.Counts.{next_count}
use Rattle.io_edges.specs.declared.mem_sink.MemSink.{MemSink}

-- the bytes taken so far
abbrev pub taken_by : MemSink → Option (List ℕ)
taken_by s = Some s.bytes.items

-- how many writes were counted as faults
abbrev pub faults_of : MemSink → ℕ
faults_of s = s.faults

-- how many bytes the sink takes in all
abbrev pub room_of : MemSink → ℕ
room_of s = s.room

-- how many bytes the sink can still take
abbrev pub free_room : MemSink → ℕ
free_room s = s.room - vec_len s.bytes

-- the most bytes that a write takes
abbrev pub most_of : MemSink → ℕ
most_of s = s.most

-- the numbers of the writes that fail
abbrev pub fails_of : MemSink → List ℕ
fails_of s = s.fails

-- how many writes were made
abbrev pub writes_of : MemSink → ℕ
writes_of s = s.writes

-- the number of the next write, from 1
abbrev pub number_of : MemSink → ℕ
number_of s = next_count (writes_of s)

-- one write more was made, and what the sink was made from is the same
pub record WritesOnce (old new : MemSink) : Type 0 where
  pub writes : writes_of new ≡ number_of old
  pub room : room_of new ≡ room_of old
  pub most : most_of new ≡ most_of old
  pub fails : fails_of new ≡ fails_of old
