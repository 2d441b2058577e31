use Rattle.std.proofs.Common.{rules, arith, map}
use Rattle.std.proofs.lemmas.Grind.{common_steps}
use Rattle.xpath_lexer.specs.Places.{lexeme_of}
use Rattle.xpath_parser.specs.Terms.{IsShallow}
use Rattle.xpath_parser.specs.Faults.{too_deep}
use Rattle.xpath_parser.proofs.parse.fit_tokens.Goals as goal

pub returns-else-is_shallow-clause-fault : goal.returns-else-is_shallow-clause-fault
returns-else-is_shallow-clause-fault c = λ _ tests.
    let deep : IsShallow (map lexeme_of c.in_ok-tokens.tokens) → ⊥ = first_of (search rules, grind (arith, common_steps)) in
    too_deep {ws = map lexeme_of c.in_ok-tokens.tokens} c.in_ok-tokens.ensures.short c.in_ok-tokens.ensures.spelled deep
