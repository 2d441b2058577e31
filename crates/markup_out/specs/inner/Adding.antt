-- What an output holds, and what a call adds to it.
use Rattle.std.specs.Prelude.{◌≡◌, ℕ, ◌+◌, ◌<◌, List, ◌++◌, length, string_bytes, encode_utf8_all}
use Rattle.std.specs.Bool.{MatchBool}
use Rattle.markup_out.specs.declared.output.Output.{Output}

-- how many bytes it may keep
abbrev pub limit_of : Output → ℕ
limit_of o = length (string_bytes o.text) + o.left

-- these bytes were written: the output keeps them, or that they are more than the limit allows
abbrev pub Holds : Output → List ℕ → Type 0
Holds o bytes = MatchBool o.over (limit_of o < length bytes) (string_bytes o.text ≡ bytes)

-- these bytes were written after what was written before
pub record AddsBytes (old new : Output) (bytes : List ℕ) : Type 0 where
  pub limit : limit_of new ≡ limit_of old
  pub each : (was : List ℕ) → Holds old was → Holds new (was ++ bytes)

-- these characters were
pub record Adds (old new : Output) (text : List ℕ) : Type 0 where
  pub bytes : AddsBytes old new (encode_utf8_all text)
