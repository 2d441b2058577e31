-- The fields whose queries can be run one after the other, and whose tests are stored.
use Rattle.std.specs.Prelude.{◌≡◌, Bool, true, false, List, [], ◌∷◌, encode_utf8_all}
use Rattle.std.specs.List.{AllByRecursion}
use Rattle.test_registry.specs.Kinds.{HasKind}
use Rattle.test_registry.specs.Names.{Known}
use Rattle.xpath_parser.specs.declared.expression.Expr.{Expr}
use Rattle.xpath_parser.specs.Reading.{ReadsOver}
use Rattle.xpath_parser.specs.Shapes.{is_nodes, shape_of}
use Rattle.query_script.specs.declared.script.Chain.{Chain}
use Rattle.query_script.specs.declared.script.Chain.TheVariants as chain
use Rattle.query_script.specs.declared.script.ChainStep.{ChainStep}
use Rattle.query_script.specs.declared.script.ChainStep.TheVariants as step
use Rattle.query_script.specs.declared.script.Field.{Field}

-- Where nodes come to the step or not: nodes come to a query, whose text reads as an expression where these tests are
-- stored, and nodes come of it where that is the expression's shape. Strings come of a pattern, and of a test what came to it.
abbrev pub IsInOrder : Known → Bool → ChainStep → Bool → Type 0
IsInOrder tests nodes (step.Query text) after = (nodes ≡ true) × ((x : Expr) × (ReadsOver tests (encode_utf8_all text) x × (after ≡ is_nodes (shape_of x))))
IsInOrder tests nodes (step.Match pattern) after = after ≡ false
IsInOrder tests nodes (step.Keep kind text) after = after ≡ nodes

-- Where nodes come to the first step or not: the text of each query reads as an expression, and nodes come to it, of the
-- root node or of the query before it, whose shape they are. A test is passed over.
abbrev pub AreOrderedOver : Known → Bool → List ChainStep → Type 0
AreOrderedOver tests nodes [] = Unit {0}
AreOrderedOver tests nodes (step.Query text ∷ steps) =
    (nodes ≡ true) × ((x : Expr) × (ReadsOver tests (encode_utf8_all text) x × AreOrderedOver tests (is_nodes (shape_of x)) steps))
AreOrderedOver tests nodes (step.Match pattern ∷ steps) = AreOrderedOver tests false steps
AreOrderedOver tests nodes (step.Keep kind text ∷ steps) = AreOrderedOver tests nodes steps

abbrev pub IsOrderedChainOver : Known → Chain → Type 0
IsOrderedChainOver tests (chain.Steps steps take) = AreOrderedOver tests true steps
IsOrderedChainOver tests (chain.Refused why) = Unit {0}

-- each query of the field reads as an expression where these tests are stored, and stands only after queries that give nodes
abbrev pub IsOrderedOver : Known → Field → Type 0
IsOrderedOver tests field = IsOrderedChainOver tests field.chain

-- the same where no tests are stored
abbrev pub IsOrdered : Field → Type 0
IsOrdered field = IsOrderedOver [] field

-- a test of the step's kind is stored, where it keeps items by one
abbrev pub IsStepStored : Known → ChainStep → Type 0
IsStepStored tests (step.Query text) = Unit {0}
IsStepStored tests (step.Match pattern) = Unit {0}
IsStepStored tests (step.Keep kind text) = HasKind kind tests

abbrev pub AreStored : Known → List ChainStep → Type 0
AreStored tests steps = AllByRecursion (IsStepStored tests) steps

abbrev pub IsStoredChain : Known → Chain → Type 0
IsStoredChain tests (chain.Steps steps take) = AreStored tests steps
IsStoredChain tests (chain.Refused why) = Unit {0}

-- the kind of each step of the field that keeps items is stored
abbrev pub KeepsStored : Known → Field → Type 0
KeepsStored tests field = IsStoredChain tests field.chain
