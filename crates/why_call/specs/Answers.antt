-- What is written: a refusal for people, or that nothing is refused.
use Rattle.std.specs.Prelude.{ℕ, ◌<◌, ◌≤◌, true, false, List, length, codes, Option, Some, None}
use Rattle.extract_call.specs.Answers.{Answer}
use Rattle.refusal_places.specs.Beginnings.{most_placed}
use Rattle.refusal_texts.specs.declared.refusal.Refusal.{Refusal}
use Rattle.refusal_texts.specs.Written.{refusal_text}

-- nothing is refused
abbrev pub nothing : Answer
nothing = record { text = codes "nothing is refused"; refused = false }

-- this is refused, at this place of the text where one is told
abbrev pub refused_at : Refusal → List ℕ → Option ℕ → Answer
refused_at r text place = record { text = refusal_text r text place; refused = true }

-- the place that is told of a text: none where the text has too many bytes for one, else one of which this holds
abbrev pub IsTold : (ℕ → Type 0) → List ℕ → Option ℕ → Type 0
IsTold At text None = most_placed < length text
IsTold At text (Some place) = (length text ≤ most_placed) × At place
