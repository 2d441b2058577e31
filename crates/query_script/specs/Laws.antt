-- What holds of all scripts.
use Rattle.std.specs.Prelude.{◌≡◌, ◌⊎◌, ℕ, List}
use Rattle.std.specs.List.{AllByRecursion}
use Rattle.std.specs.Str.{IsUtf8}
use Rattle.text_base.specs.declared.reasons.ScriptFault.{ScriptFault}
use Rattle.test_registry.specs.Names.{Known}
use Rattle.css_selectors.specs.declared.selector.Dialect.{Dialect}
use Rattle.query_script.specs.declared.script.Field.{Field}
use Rattle.query_script.specs.declared.script.Chain.TheVariants as chain
use Rattle.query_script.specs.declared.script.ChainStep.{ChainStep}
use Rattle.query_script.specs.declared.script.Reason.{Reason}
use Rattle.query_script.specs.declared.script.Take.{Take}
use Rattle.query_script.specs.declared.steps.RawStep.{RawStep}
use Rattle.query_script.specs.Fields.{IsField, IsFieldOver, IsFieldReason, IsScriptOver, IsScriptFault}
use Rattle.query_script.specs.Ordered.{IsOrderedOver, KeepsStored}
use Rattle.query_script.specs.Selectors.{IsFieldSelector, IsSelectorText}
use Rattle.query_script.specs.Steps.{AreStepsText}

-- in a dialect, and where these tests are stored, a text reads as one list of fields at most
abbrev pub HasOneReading : Type 0
HasOneReading = (tests : Known) (d : Dialect) (text : List ℕ) (fields other : List Field) → IsScriptOver tests d text fields → IsScriptOver tests d text other → fields ≡ other

-- it is refused as a whole for one reason at most, and not where it reads as fields
abbrev pub HasOneFault : Type 0
HasOneFault = (text : List ℕ) (fault other : ScriptFault) → IsScriptFault text fault → IsScriptFault text other → fault ≡ other

abbrev pub IsReadOrRefused : Type 0
IsReadOrRefused = (tests : Known) (d : Dialect) (text : List ℕ) (fields : List Field) (fault : ScriptFault) → IsScriptOver tests d text fields → IsScriptFault text fault → ⊥

-- each text reads as fields or is refused
abbrev pub HasReading : Type 0
HasReading = (tests : Known) (d : Dialect) (text : List ℕ) → ((fields : List Field) × IsScriptOver tests d text fields) ⊎ ((fault : ScriptFault) × IsScriptFault text fault)

-- a text is one list of steps at most
abbrev pub HasOneCut : Type 0
HasOneCut = (text : List ℕ) (steps other : List RawStep) → AreStepsText text steps → AreStepsText text other → steps ≡ other

-- a field is refused for a reason of its text alone
abbrev pub HasFieldReason : Type 0
HasFieldReason = (tests : Known) (d : Dialect) (piece : List ℕ) (field : Field) (why : Reason) → IsFieldOver tests d piece field → field.chain ≡ chain.Refused why → IsFieldReason why

-- a field that has no reason where no tests are stored is the same field where some are
abbrev pub ReadsMore : Type 0
ReadsMore =
    (tests : Known) (d : Dialect) (piece : List ℕ) (field : Field) (kept : List ChainStep) (take : Take)
    → IsField d piece field → field.chain ≡ chain.Steps kept take → IsFieldOver tests d piece field

-- the queries of a script that is UTF-8 can be run one after the other
abbrev pub QueriesRun : Type 0
QueriesRun = (tests : Known) (d : Dialect) (text : List ℕ) (fields : List Field) → IsUtf8 text → IsScriptOver tests d text fields → AllByRecursion (IsOrderedOver tests) fields

-- the selectors of a script that is UTF-8 are UTF-8
abbrev pub SelectorsAreTexts : Type 0
SelectorsAreTexts = (script text : List ℕ) → IsUtf8 script → IsSelectorText script text → IsUtf8 text

-- and so are those of one piece of it
abbrev pub FieldSelectorsAreTexts : Type 0
FieldSelectorsAreTexts = (piece text : List ℕ) → IsUtf8 piece → IsFieldSelector piece text → IsUtf8 text

-- the tests that a script keeps items by are stored
abbrev pub TestsStored : Type 0
TestsStored = (tests : Known) (d : Dialect) (text : List ℕ) (fields : List Field) → IsScriptOver tests d text fields → AllByRecursion (KeepsStored tests) fields
