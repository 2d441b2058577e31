-- Tokens as they are read one by one: for the clauses of the reader's own functions.
use Rattle.std.specs.Prelude.{◌≡◌, ℕ, ◌+◌, ◌≤◌, List, [], ◌∷◌, ◌++◌, length, Option, Some, None, Result, Ok, Err, ◌⊎◌}
use Rattle.text_base.specs.declared.reasons.PageFault.{PageFault}
use Rattle.doc_model.specs.Document.{Document}
use Rattle.html_reader.specs.declared.token.Token.{Token}
use Rattle.html_reader.specs.Tokens.{Tok}
use Rattle.html_reader.specs.Pages.{IsMemory}
use Rattle.html_reader.specs.Reading.{Builds, Refuses}
use Rattle.html_reader.specs.inner.Machine.{State}
use Rattle.html_reader.specs.inner.Reached.{Reached}
use Rattle.html_reader.specs.inner.States.{tok_of, from_of, most_rows}

-- these tokens lead to the state, whatever comes next
abbrev pub LeadsTo : List Tok → State → Type 0
LeadsTo tokens s = (after : Option Tok) → Reached tokens after s

-- some tokens lead to the state
pub record IsLed (s : State) : Type 0 where
  pub tokens : List Tok
  pub led : LeadsTo tokens s

-- rows and open tags
abbrev pub size : State → ℕ
size s = length s.grown.sofar.rows + length s.tags

-- the token is read, or it is refused after all tokens that lead here
abbrev pub Takes : State → Token → Result (Unit {0}) PageFault → State → Type 0
Takes old t (Ok _) new = ((tokens : List Tok) → LeadsTo tokens old → LeadsTo (tokens ++ tok_of t ∷ []) new) × (new.rooted.made ≡ old.rooted.made) × (size new ≤ size old + most_rows (tok_of t) + 1)
Takes old t (Err fault) new = IsMemory fault ⊎ ((fault.at ≡ from_of t) × ((tokens : List Tok) → LeadsTo tokens old → Refuses old.rooted.made tokens (Some (tok_of t)) fault.reason))

-- all tokens that lead here build the document
abbrev pub AllBuild : State → Document → Type 0
AllBuild s doc = (tokens : List Tok) → LeadsTo tokens s → Builds s.rooted.made tokens doc

-- the end of the text is refused after all tokens that lead here
abbrev pub EndRefused : State → ℕ → PageFault → Type 0
EndRefused s end fault = IsMemory fault ⊎ ((fault.at ≡ end) × ((tokens : List Tok) → LeadsTo tokens s → Refuses s.rooted.made tokens None fault.reason))
