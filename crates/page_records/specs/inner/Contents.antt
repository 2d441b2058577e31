-- The parts of a block, as private functions find them.
use Rattle.std.specs.Prelude.{◌≡◌, ℕ, true, List, ◌∷◌, Option, Some, None}
use Rattle.std.specs.List.{AllByRecursion}
use Rattle.test_registry.specs.Names.{Known}
use Rattle.css_selectors.specs.declared.selector.Dialect.{Dialect}
use Rattle.query_script.specs.declared.script.ChainStep.{ChainStep}
use Rattle.query_script.specs.declared.script.Reason.{Reason}
use Rattle.query_script.specs.declared.script.Reason.TheVariants as reason
use Rattle.query_script.specs.declared.steps.RawStep.{RawStep}
use Rattle.query_script.specs.Fields.{AreFields}
use Rattle.page_records.specs.declared.rows.RowFound.{RowFound}
use Rattle.page_records.specs.declared.rows.RowFound.TheVariants as found
use Rattle.page_records.specs.declared.rows.Rows.{Rows}
use Rattle.page_records.specs.declared.rows.Rows.TheVariants as rows
use Rattle.page_records.specs.declared.script.Block.{Block}
use Rattle.page_records.specs.Blocks.{IsQueryKept, AreRowSteps, IsFirstRefused, Differ, names_of, IsEmpty}
use Rattle.page_records.specs.Ordered.{IsRowQuery}

-- nodes come of the step, or it is refused whatever stands after it
abbrev pub IsRowFound : Known → Dialect → RawStep → RowFound → Type 0
IsRowFound tests d raw (found.Kept step) = IsQueryKept tests d true raw step true × IsRowQuery tests step
IsRowFound tests d raw (found.Refused why) = (more : List RawStep) → IsFirstRefused tests d true (raw ∷ more) why

-- rows come of the steps, or the first that is refused is refused for this reason
abbrev pub AreRowsFound : Known → Dialect → List RawStep → Rows → Type 0
AreRowsFound tests d written (rows.Kept steps) = AreRowSteps tests d true written steps.items × AllByRecursion (IsRowQuery tests) steps.items
AreRowsFound tests d written (rows.Refused why) = IsFirstRefused tests d true written why

-- a block that is refused for this reason
abbrev pub IsRefusedAs : Reason → Block → Type 0
IsRefusedAs why block = (block.refused ≡ Some why) × IsEmpty block

-- the block with these steps and the fields that these pieces are, or a refused one where two have the same name
abbrev pub IsWhole : Known → Dialect → List ChainStep → List (List ℕ) → Option Reason → Block → Type 0
IsWhole tests d steps pieces None block = (block.steps ≡ steps) × (AreFields tests d pieces block.fields × Differ (names_of pieces))
IsWhole tests d steps pieces (Some why) block = (why ≡ reason.Twice) × (IsEmpty block × (Differ (names_of pieces) → ⊥))
