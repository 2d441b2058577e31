-- The rows that queries give, one after the other.
use Rattle.std.specs.Prelude.{◌≡◌, ℕ, ◌||◌, Bool, true, if◌then◌else◌, nat_lt, List, [], ◌∷◌, flat_map, length, Option, Some, None, encode_utf8_all}
use Rattle.doc_model.specs.Document.{Document}
use Rattle.test_registry.specs.Names.{Known}
use Rattle.xpath_parser.specs.declared.expression.Expr.{Expr}
use Rattle.xpath_parser.specs.Reading.{ReadsOver}
use Rattle.xpath_parser.specs.Shapes.{is_nodes, shape_of}
use Rattle.query_script.specs.declared.script.ChainStep.{ChainStep}
use Rattle.query_script.specs.declared.script.ChainStep.TheVariants as step
use Rattle.query_chain.specs.declared.limits.Limits.{Limits}
use Rattle.query_chain.specs.Chains.{step_items, last_items}
use Rattle.query_chain.specs.Items.{Item, node, text}
use Rattle.query_chain.specs.Tasks.{Action}

-- the step is a query, and its text reads as an expression of which nodes come
abbrev pub IsRowQuery : Known → ChainStep → Type 0
IsRowQuery tests (step.Query query) = (x : Expr) × (ReadsOver tests (encode_utf8_all query) x × (is_nodes (shape_of x) ≡ true))
IsRowQuery tests (step.Match pattern) = ⊥
IsRowQuery tests (step.Keep kind other) = ⊥

-- the rows among the items, in order
abbrev pub own_row : Item → List ℕ
own_row (node x) = x ∷ []
own_row (text t) = []

abbrev pub rows_in : List Item → List ℕ
rows_in items = flat_map own_row items

module _ (limits : Limits) (doc : Document) (most : ℕ) where
  -- from these items on, a step gives more items than it may, or the last one more than these
  abbrev pub gives_many : List Item → List Action → Bool
  gives_many items [] = nat_lt most (length items)
  gives_many items (a ∷ actions) = nat_lt limits.items (length (step_items doc a items)) || gives_many (step_items doc a items) actions

  -- the rows that the last step gives from the root node on, in order; none where a step gives too many
  abbrev pub rows_given : List Action → Option (List ℕ)
  rows_given actions = if gives_many (node 0 ∷ []) actions then None else Some (rows_in (last_items doc (node 0 ∷ []) actions))
