use Rattle.std.proofs.Common.{◌≡◌, drop, map}
use Rattle.std.specs.Char.{to_ascii_lowercase}
use Rattle.std.specs.Str.{bytes_eq}
use Rattle.css_meaning.proofs.texts.is_lowered.Given as goal

abbrev pub invariant-loop-i : goal.invariant-loop-i
invariant-loop-i l = bytes_eq (drop l.i l.low) (map to_ascii_lowercase (drop l.i l.bytes)) ≡ bytes_eq l.low (map to_ascii_lowercase l.bytes)
