-- The selectors of a script of fields and blocks.
use Rattle.std.specs.Prelude.{◌≡◌, ◌⊎◌, ℕ, true, false, List, encode_utf8_all}
use Rattle.std.specs.List.{Contains}
use Rattle.query_script.specs.declared.steps.RawStep.{RawStep}
use Rattle.query_script.specs.declared.steps.RawStep.TheVariants as raw
use Rattle.query_script.specs.Cuts.{fields_of}
use Rattle.query_script.specs.Names.{is_named, after_colon}
use Rattle.query_script.specs.Selectors.{IsFieldSelector}
use Rattle.page_records.specs.Braces.{entries_of, is_block}
use Rattle.page_records.specs.Blocks.{IsWritten}

-- the text, as bytes, is that of a css step before the `each` of the block that the piece is
pub record IsStepSelector (piece text : List ℕ) : Type 0 where
  pub named : is_named piece ≡ true
  pub written : List RawStep
  pub body : List ℕ
  pub is : IsWritten (after_colon piece) written body
  pub value : List ℕ
  pub step : Contains written (raw.Css value)
  pub is_text : text ≡ encode_utf8_all value

-- it is that of a css step of a field of the block's body
pub record IsBodySelector (piece text : List ℕ) : Type 0 where
  pub named : is_named piece ≡ true
  pub written : List RawStep
  pub body : List ℕ
  pub is : IsWritten (after_colon piece) written body
  pub field : List ℕ
  pub at : Contains (fields_of body) field
  pub of : IsFieldSelector field text

-- it is that of a css step of the field or block that the piece is
abbrev pub IsEntrySelector : List ℕ → List ℕ → Type 0
IsEntrySelector piece text =
    ((is_block piece ≡ false) × IsFieldSelector piece text)
    ⊎ ((is_block piece ≡ true) × (IsStepSelector piece text ⊎ IsBodySelector piece text))

-- and of a field or block of the script
pub record IsSelectorText (script text : List ℕ) : Type 0 where
  pub piece : List ℕ
  pub entry : Contains (entries_of script) piece
  pub of : IsEntrySelector piece text
