-- What the functions that print a literal's runs answer. These definitions serve no public contract.
use Rattle.std.specs.Prelude.{◌≡◌, ℕ, ◌<◌, ◌≤◌, List, [], ◌∷◌, ◌++◌, length, drop, codes}
use Rattle.text_base.specs.Text.{IsPlace, run_end}
use Rattle.css_printed.specs.Literals.{is_apostrophe, Quoted, quoted_runs, quoted, listed}

-- the run that begins at a place ends at the other, and was written behind what stood there
pub record WritesRun (text : List ℕ) (from to : ℕ) (before now : List ℕ) : Type 0 where
  pub run : Quoted
  pub first : quoted_runs (drop from text) ≡ run ∷ quoted_runs (drop to text)
  pub written : now ≡ before ++ quoted run
  pub moves : from < to
  pub within : to ≤ length text
  pub place : IsPlace text to

-- the further runs, each behind a comma and a space
abbrev pub further : List Quoted → List ℕ
further [] = []
further (q ∷ qs) = codes ", " ++ listed (q ∷ qs)

-- all bytes between the places are apostrophes
pub record InApostrophes (text : List ℕ) (from at : ℕ) : Type 0 where
  pub same_end : run_end is_apostrophe text from ≡ run_end is_apostrophe text at
  pub moves : from < at
  pub within : at ≤ length text
  pub place : IsPlace text at
