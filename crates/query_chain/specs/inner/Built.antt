-- What a built pattern stands for.
use Rattle.std.specs.Prelude.{◌≡◌, ℕ, List, length, IsSomeAnd}
use Rattle.regex.specs.Patterns.{SameCaptures}
use Rattle.regex.specs.Strings.{regex_pattern, regex_names}
use Rattle.regex.specs.declared.string.regex.Regex.{Regex}
use Rattle.query_chain.specs.Patterns.{Pattern, pattern_of}

-- the regex has the captures of what its text is read as, and as many groups
pub record Stands (regex : Regex) (p : Pattern) : Type 0 where
  pub captures : SameCaptures (regex_pattern regex) p.re
  pub groups : length (regex_names regex) ≡ p.groups

-- these characters are a pattern, and the regex stands for it
abbrev pub IsBuilt : List ℕ → Regex → Type 0
IsBuilt source regex = IsSomeAnd (pattern_of source) (Stands regex)
