-- What a piece with a brace reads as: the steps of a block and the fields of its body, or why it is refused.
use Rattle.std.specs.Prelude.{◌≡◌, ◌⊎◌, ℕ, ◌<◌, ◌≤◌, Bool, true, false, List, [], ◌∷◌, ◌++◌, length, map, Option, Some, None, codes}
use Rattle.std.specs.List.{IsDistinct}
use Rattle.std.specs.Str.{bytes_eq}
use Rattle.test_registry.specs.Names.{Known}
use Rattle.css_selectors.specs.declared.selector.Dialect.{Dialect}
use Rattle.query_script.specs.declared.script.ChainStep.{ChainStep}
use Rattle.query_script.specs.declared.script.Field.{Field}
use Rattle.query_script.specs.declared.script.Reason.{Reason}
use Rattle.query_script.specs.declared.script.Reason.TheVariants as reason
use Rattle.query_script.specs.declared.steps.RawStep.{RawStep}
use Rattle.query_script.specs.declared.steps.RawStep.TheVariants as raw
use Rattle.query_script.specs.Cuts.{trimmed, fields_of}
use Rattle.query_script.specs.Names.{is_named, name_of, after_colon}
use Rattle.query_script.specs.Steps.{AreStepsText}
use Rattle.query_script.specs.Queries.{IsKept, IsRefused}
use Rattle.query_script.specs.Fields.{AreFields}
use Rattle.page_records.specs.declared.script.Block.{Block}
use Rattle.page_records.specs.Braces.{opens, closes, stands, before_outside, after_outside}

-- ---- how a block is written

-- the most fields of a body
abbrev pub most_body : ℕ
most_body = 32

-- After a block's name stands what its steps are written in, a point, `each`, `{`, this body and `}`. The body
-- is what stands between the first `{` outside quotes and the next `}` outside quotes, and it has no `{` outside quotes. Blanks may
-- stand beside `each` and the braces.
pub record IsBlockText (text front body : List ℕ) : Type 0 where
  pub word : List ℕ
  pub head : before_outside opens 0 text ≡ front ++ 46 ∷ word
  pub each : trimmed word ≡ codes "each"
  pub closed : stands closes 0 (after_outside opens 0 text) ≡ true
  pub is : body ≡ before_outside closes 0 (after_outside opens 0 text)
  pub plain : stands opens 0 body ≡ false
  pub blank : trimmed (after_outside closes 0 (after_outside opens 0 text)) ≡ []

-- such a text, where what stands before `each` is these steps, and the body has one field at least and no more than it may
pub record IsWritten (text : List ℕ) (steps : List RawStep) (body : List ℕ) : Type 0 where
  pub front : List ℕ
  pub parts : IsBlockText text front body
  pub are : AreStepsText front steps
  pub some : 0 < length (fields_of body)
  pub few : length (fields_of body) ≤ most_body

-- ---- the steps of a block

-- a css or xpath step
abbrev pub is_query : RawStep → Bool
is_query (raw.Css text) = true
is_query (raw.XPath text) = true
is_query (raw.Re text) = false
is_query (raw.Keep name text) = false

-- a step of a block is kept as such: it is a query on nodes, of which nodes come or not
abbrev pub IsQueryKept : Known → Dialect → Bool → RawStep → ChainStep → Bool → Type 0
IsQueryKept tests d nodes r kept after = (is_query r ≡ true) × IsKept tests d nodes r kept after

-- all steps are kept, in their order, where nodes come to the first or not; and nodes come of the last
abbrev pub AreRowSteps : Known → Dialect → Bool → List RawStep → List ChainStep → Type 0
AreRowSteps tests d nodes [] [] = nodes ≡ true
AreRowSteps tests d nodes [] (s ∷ kept) = ⊥
AreRowSteps tests d nodes (r ∷ steps) [] = ⊥
AreRowSteps tests d nodes (r ∷ steps) (s ∷ kept) = (after : Bool) × (IsQueryKept tests d nodes r s after × AreRowSteps tests d after steps kept)

-- why a step of a block is refused, where nodes come to it or not: a pattern and a test are out of order
abbrev pub IsStepRefused : Known → Dialect → Bool → RawStep → Reason → Type 0
IsStepRefused tests d nodes (raw.Css text) why = IsRefused tests d nodes (raw.Css text) why
IsStepRefused tests d nodes (raw.XPath text) why = IsRefused tests d nodes (raw.XPath text) why
IsStepRefused tests d nodes (raw.Re text) why = why ≡ reason.Order
IsStepRefused tests d nodes (raw.Keep name text) why = why ≡ reason.Order

-- The first step from left to right that is refused is refused for this reason. The last one is out of order too where
-- strings come of it.
abbrev pub IsFirstRefused : Known → Dialect → Bool → List RawStep → Reason → Type 0
IsFirstRefused tests d nodes [] why = (nodes ≡ false) × (why ≡ reason.Order)
IsFirstRefused tests d nodes (r ∷ steps) why =
    IsStepRefused tests d nodes r why ⊎ ((kept : ChainStep) × ((after : Bool) × (IsQueryKept tests d nodes r kept after × IsFirstRefused tests d after steps why)))

-- ---- the fields of a body

-- the names of the fields that these pieces are
abbrev pub names_of : List (List ℕ) → List (List ℕ)
names_of pieces = map name_of pieces

-- no two of them are the same
abbrev pub Differ : List (List ℕ) → Type 0
Differ names = IsDistinct bytes_eq names

-- ---- the block

-- the text is a block's: there are steps of which rows come, and fields whose names differ
pub record IsAccepted (tests : Known) (d : Dialect) (text : List ℕ) (steps : List ChainStep) (fields : List Field) : Type 0 where
  pub written : List RawStep
  pub body : List ℕ
  pub is : IsWritten text written body
  pub kept : AreRowSteps tests d true written steps
  pub differ : Differ (names_of (fields_of body))
  pub are : AreFields tests d (fields_of body) fields

-- it is no block's
abbrev pub IsNoBlock : List ℕ → Type 0
IsNoBlock text = (written : List RawStep) (body : List ℕ) → IsWritten text written body → ⊥

-- it is one's, of which the steps are kept, and two fields have the same name
pub record HasTwins (tests : Known) (d : Dialect) (text : List ℕ) : Type 0 where
  pub written : List RawStep
  pub body : List ℕ
  pub is : IsWritten text written body
  pub steps : List ChainStep
  pub kept : AreRowSteps tests d true written steps
  pub same : Differ (names_of (fields_of body)) → ⊥

-- it is one's, of which a step is refused
pub record HasRefusedStep (tests : Known) (d : Dialect) (text : List ℕ) (why : Reason) : Type 0 where
  pub written : List RawStep
  pub body : List ℕ
  pub is : IsWritten text written body
  pub first : IsFirstRefused tests d true written why

-- why a block is refused by the text after its name, where these tests are stored
abbrev pub IsBlockReason : Known → Dialect → List ℕ → Reason → Type 0
IsBlockReason tests d text reason.Name = ⊥
IsBlockReason tests d text reason.Block = IsNoBlock text
IsBlockReason tests d text reason.Twice = HasTwins tests d text
IsBlockReason tests d text why = HasRefusedStep tests d text why

-- a block that is refused has no steps and no fields
pub record IsEmpty (block : Block) : Type 0 where
  pub steps : block.steps ≡ []
  pub fields : block.fields ≡ []

-- what the text after a block's name reads as: its steps and fields, or its reason
abbrev pub IsContent : Known → Dialect → List ℕ → Option Reason → Block → Type 0
IsContent tests d text (Some why) block = IsBlockReason tests d text why × IsEmpty block
IsContent tests d text None block = IsAccepted tests d text block.steps block.fields

pub record IsUnnamedBlock (piece : List ℕ) (block : Block) : Type 0 where
  pub unnamed : is_named piece ≡ false
  pub is : block.refused ≡ Some reason.Name
  pub empty : IsEmpty block

pub record IsNamedBlock (tests : Known) (d : Dialect) (piece : List ℕ) (block : Block) : Type 0 where
  pub named : is_named piece ≡ true
  pub is : IsContent tests d (after_colon piece) block.refused block

-- the block that a piece is, where these tests are stored
pub record IsBlock (tests : Known) (d : Dialect) (piece : List ℕ) (block : Block) : Type 0 where
  pub name : block.name ≡ name_of piece
  pub reads : IsUnnamedBlock piece block ⊎ IsNamedBlock tests d piece block
