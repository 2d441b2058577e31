-- Prepared steps of which rows come.
use Rattle.std.specs.Prelude.{◌≡◌, true}
use Rattle.xpath_parser.specs.Typed.{expression}
use Rattle.xpath_parser.specs.Shapes.{is_nodes, shape_of}
use Rattle.query_chain.specs.declared.ready_steps.ReadyStep.{ReadyStep}
use Rattle.query_chain.specs.declared.ready_steps.ReadyStep.TheVariants as ready

-- the step is a query whose shape is nodes
abbrev pub IsRowStep : ReadyStep → Type 0
IsRowStep (ready.Query typed) = is_nodes (shape_of (expression typed)) ≡ true
IsRowStep (ready.Match regex) = ⊥
IsRowStep (ready.Keep kind other) = ⊥
