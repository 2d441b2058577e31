use Rattle.std.proofs.Common.{◌≡◌, take, map}
use Rattle.serde_json.specs.View.{view}
use Rattle.css_selectors.specs.Specificity.{triple_of}
use Rattle.json_lines.specs.Lines.{triple_data}
use Rattle.json_lines.proofs.selectors.triples_value.Given as goal

abbrev pub invariant-loop-selector : goal.invariant-loop-selector
invariant-loop-selector l = map view l.triples.items ≡ map (λ s. triple_data (triple_of s)) (take l.selector-index l.selectors)
