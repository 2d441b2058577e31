use Rattle.std.specs.Prelude.{◌≡◌, ◌++◌, drop, map}
use Rattle.test_registry.specs.View.{known}
use Rattle.xpath_lexer.specs.Places.{lexeme_of}
use Rattle.xpath_parser.specs.Terms.{terms_over, terms_after_over}
use Rattle.xpath_parser.proofs.terms.terms_of.Given as goal

abbrev pub invariant-loop-at : goal.invariant-loop-at
invariant-loop-at g l = l.found ++ terms_after_over (known l.tests) l.after (map lexeme_of (drop l.at l.tokens)) ≡ terms_over (known l.tests) (map lexeme_of l.tokens)
