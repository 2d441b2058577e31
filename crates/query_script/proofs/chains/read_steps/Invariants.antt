use Rattle.std.proofs.Common.{drop, map}
use Rattle.query_script.specs.Cuts.{trimmed}
use Rattle.query_script.proofs.ChainLemmas.{SoFar}
use Rattle.query_script.proofs.chains.read_steps.Given as goal

abbrev pub invariant-loop-part : goal.invariant-loop-part
invariant-loop-part l = SoFar (map trimmed (map (λ p. p.now) l.parts)) (map trimmed (map (λ p. p.now) (drop l.part-index l.parts))) l.steps.items
