-- Patterns: what they are, and the texts that they find. The grammar, and the matches that an iterator over a text goes through,
-- are those of the crate `regex`.
use Rattle.std.specs.Prelude.{ℕ, ◌-◌, List, [], ◌∷◌, map, length, slice_range, if◌then◌else◌, nat_le, Option, Some, None, encode_utf8_all}
use Rattle.std.specs.Str.{chars}
use Rattle.std.specs.List.{flat_map, range_with_len}
use Rattle.std.specs.Option.{option_map_or, option_and_then}
use Rattle.regex_syntax.specs.Grammar.{Names, read}
use Rattle.regex_syntax.specs.Brackets.{Nested}
use Rattle.regex.specs.Patterns.{Re, Match, find_all_str, default_config}
use Rattle.regex.specs.Writes.{group_of}

-- a pattern as it is matched, and how many groups it has, the whole match counted as one
pub record Pattern : Type 0 where
  pub re : Re
  pub groups : ℕ

-- what nests deeper than 250 levels is no pattern
abbrev pub shallow : Nested Re → Names → Option Pattern
shallow nested names = if nat_le nested.depth 250 then Some (record { re = nested.value; groups = length names }) else None

-- the pattern that these characters are, where the grammar reads them and they do not nest too deep
abbrev pub pattern_of : List ℕ → Option Pattern
pattern_of source = option_and_then (λ (nested, names). shallow nested names) (read default_config source)

-- the bytes that a group matched; a group that took no part has the empty text
abbrev pub group_text : List ℕ → Match → ℕ → List ℕ
group_text hay m k = option_map_or (λ s. slice_range hay s.0 s.1) (group_of m k) []

-- the whole match where the pattern has no group, else each group in order; group 0 is the whole match
abbrev pub texts_of : ℕ → List ℕ → Match → List (List ℕ)
texts_of groups hay m = if nat_le groups 1 then slice_range hay m.start m.trace.end ∷ [] else map (group_text hay m) (range_with_len 1 (groups - 1))

-- the same for each match in these bytes, from left to right. An empty match where the match before it ends is passed over.
abbrev pub match_texts : Re → ℕ → List ℕ → List (List ℕ)
match_texts re groups hay = flat_map (texts_of groups hay) (find_all_str re hay)

-- the same as characters
abbrev pub matched : Pattern → List ℕ → List (List ℕ)
matched p text = map chars (match_texts p.re p.groups (encode_utf8_all text))

-- what these characters find in a text; no pattern finds nothing
abbrev pub found_texts : List ℕ → List ℕ → List (List ℕ)
found_texts source text = option_map_or (λ p. matched p text) (pattern_of source) []
