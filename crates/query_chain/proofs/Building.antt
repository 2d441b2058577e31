-- What a build says of the pattern.
use Rattle.std.proofs.Common.{◌≡◌, ◌≢◌, ℕ, ◌<◌, ◌≤◌, true, false, List, Option, Some, None, chars, length, refl, inl, inr, ap, le-leb}
use Rattle.std.specs.Prelude.{IsSomeAnd, IfSome, nat_le}
use Rattle.std.proofs.lemmas.Bool.{lt-leb}
use Rattle.std.specs.Option.{option_and_then}
use Rattle.regex_syntax.specs.Brackets.{Nested}
use Rattle.regex_syntax.specs.Grammar.{Names, read}
use Rattle.regex_syntax.specs.declared.error.ErrorKind.{ErrorKind}
use Rattle.regex_syntax.specs.declared.error.ErrorKind.TheVariants.{OutOfMemory}
use Rattle.regex_syntax.specs.Verdict.{Reads, Refuses}
use Rattle.regex.specs.Patterns.{Re, SameCaptures, default_config}
use Rattle.regex.specs.Strings.{regex_pattern, regex_source, regex_config, regex_names, IsReadFromSource}
use Rattle.regex.specs.declared.string.regex.Regex.{Regex}
use Rattle.query_chain.specs.Patterns.{shallow, pattern_of}
use Rattle.query_chain.specs.inner.Built.{Stands, IsBuilt}

built_by : (r : Regex) (o : Option (Nested Re × Names)) (Q : Nested Re → Names → Type 0) →
    IsSomeAnd o (λ (re, found). (re.depth ≤ 250) × SameCaptures (regex_pattern r) re.value × (regex_names r ≡ found) × Q re found) →
    IsSomeAnd (option_and_then (λ (nested, names). shallow nested names) o) (Stands r)
built_by r None Q h = h
built_by r (Some x) Q h = let e : nat_le x.0.depth 250 ≡ true = le-leb x.0.depth 250 h.0 in rw e (record { captures = h.1; groups = ap length h.2 })

-- what was read is the pattern of its text
pub built : (r : Regex) (source : List ℕ) → regex_source r ≡ source → regex_config r ≡ default_config → IsReadFromSource r → IsBuilt (chars source) r
unfolding Reads
built r source s c q = built_by r (read default_config (chars source)) _ (rw (c, s) at q)

too_deep : (o : Option (Nested Re × Names)) → IfSome o (λ (re, found). 250 < re.depth) → option_and_then (λ (nested, names). shallow nested names) o ≡ None
too_deep None h = refl
too_deep (Some x) h = let e : nat_le x.0.depth 250 ≡ false = lt-leb x.0.depth 250 h in rw e refl

-- what is refused is no pattern
pub refused : (source : List ℕ) (kind : ErrorKind) → Refuses default_config source kind → kind ≢ OutOfMemory → pattern_of (chars source) ≡ None
unfolding Refuses
refused source kind (inl e) ne = absurd (ne e)
refused source kind (inr (inl e)) ne = ap (option_and_then (λ (nested, names). shallow nested names)) e
refused source kind (inr (inr h)) ne = too_deep (read default_config (chars source)) h.1
