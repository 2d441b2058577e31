-- What the bytes of a page decode to.
use Rattle.std.specs.Prelude.{◌≡◌, ℕ, ◌-◌, ◌==◌, ◌&&◌, not, nat_lt, cond, Bool, List, filter, map, drop, length, slice_index, Result, Ok, Err, IsOk, if◌then◌else◌, ◌⊎◌}
use Rattle.std.specs.List.{range_with_len}
use Rattle.std.specs.Str.Lossy.{utf8_valid_len}
use Rattle.text_base.specs.Text.{run_end, is_not_byte}
use Rattle.text_base.specs.declared.reasons.PageFault.{PageFault}
use Rattle.text_base.specs.declared.reasons.PageReason.{PageReason}
use Rattle.text_base.specs.declared.reasons.PageReason.TheVariants.{NotUtf8, Nul, Memory}

-- any byte but an LF directly after a CR
abbrev pub is_kept : List ℕ → ℕ → Bool
is_kept bytes i = not ((slice_index bytes i == 10) && (slice_index bytes (i - 1) == 13))

-- an LF for a CR
abbrev pub newline_for : ℕ → ℕ
newline_for b = cond (b == 13) 10 b

-- each CR LF and each CR as one LF: of all places those that are kept, in order
abbrev pub newlines : List ℕ → List ℕ
newlines bytes = map (λ i. newline_for (slice_index bytes i)) (filter (is_kept bytes) (range_with_len 0 (length bytes)))

-- the bytes without one byte order mark at their start
abbrev pub without_mark : List ℕ → List ℕ
without_mark bytes =
    if (slice_index bytes 0 == 0xef) && (slice_index bytes 1 == 0xbb) && (slice_index bytes 2 == 0xbf) then drop 3 bytes else bytes

abbrev pub fault : PageReason → ℕ → PageFault
fault reason at = record { reason = reason; at = at }

-- The text, or the fault at the smaller of two places, both in the bytes as read: the first zero byte, and the first
-- byte at which no whole UTF-8 character begins.
abbrev pub decoded : List ℕ → Result (List ℕ) PageFault
decoded bytes =
    let zero_at = run_end (is_not_byte 0) bytes 0 in
    let bad_at = utf8_valid_len bytes in
    if nat_lt zero_at bad_at then Err (fault Nul zero_at)
    else (if nat_lt bad_at (length bytes) then Err (fault NotUtf8 bad_at)
    else Ok (newlines (without_mark bytes)))

-- what a call gave is what is decoded; where that is a text, memory may be wanting
abbrev pub Gives : {X : Type 0} → (X → List ℕ) → Result X PageFault → Result (List ℕ) PageFault → Type 0
Gives view (Ok x) read = read ≡ Ok (view x)
Gives view (Err e) read = (read ≡ Err e) ⊎ ((e ≡ fault Memory 0) × IsOk read)
