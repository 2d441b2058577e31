use Rattle.std.proofs.Common.{rules, arith, ◌∙◌}
use Rattle.std.proofs.lemmas.Grind.{common_steps}
use Rattle.xpath_parser.proofs.ShapeLemmas.{joined_first}
use Rattle.xpath_parser.proofs.shapes.joined_shape.Goals as goal

pub returns-in-Some : goal.returns-in-Some
returns-in-Some c = c.infix_shape.ensures ∙ joined_first c.args.first c.args.operands.now c.in-Some.operand.now (first_of (search rules, grind (arith, common_steps)))
