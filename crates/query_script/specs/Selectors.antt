-- The selectors of a script.
use Rattle.std.specs.Prelude.{◌≡◌, ℕ, true, List, encode_utf8_all}
use Rattle.std.specs.List.{Contains}
use Rattle.query_script.specs.declared.script.Take.{Take}
use Rattle.query_script.specs.declared.steps.RawStep.{RawStep}
use Rattle.query_script.specs.declared.steps.RawStep.TheVariants as raw
use Rattle.query_script.specs.Cuts.{fields_of}
use Rattle.query_script.specs.Names.{is_named, after_colon}
use Rattle.query_script.specs.Steps.{IsChainText}

-- the text, as bytes, is that of a css step of the field that the piece is
pub record IsFieldSelector (piece text : List ℕ) : Type 0 where
  pub named : is_named piece ≡ true
  pub steps : List RawStep
  pub take : Take
  pub written : IsChainText (after_colon piece) steps take
  pub value : List ℕ
  pub step : Contains steps (raw.Css value)
  pub is : text ≡ encode_utf8_all value

-- it is that of a css step of a field of the script
pub record IsSelectorText (script text : List ℕ) : Type 0 where
  pub piece : List ℕ
  pub field : Contains (fields_of script) piece
  pub of : IsFieldSelector piece text
