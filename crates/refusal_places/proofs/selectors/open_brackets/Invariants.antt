use Rattle.std.proofs.Common.{◌≡◌, take}
use Rattle.refusal_places.specs.SelectorPlaces.{closers}
use Rattle.refusal_places.proofs.selectors.open_brackets.Given as goal

abbrev pub invariant-loop-token : goal.invariant-loop-token
invariant-loop-token l = l.brackets ≡ closers (take l.token-index l.tokens)
