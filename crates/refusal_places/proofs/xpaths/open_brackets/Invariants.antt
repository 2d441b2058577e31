use Rattle.std.proofs.Common.{◌≡◌, map, take}
use Rattle.xpath_lexer.specs.Places.{lexeme_of}
use Rattle.refusal_places.specs.XPathPlaces.{closers}
use Rattle.refusal_places.proofs.xpaths.open_brackets.Given as goal

abbrev pub invariant-loop-token : goal.invariant-loop-token
invariant-loop-token l = l.brackets ≡ closers (map lexeme_of (take l.token-index l.tokens))
