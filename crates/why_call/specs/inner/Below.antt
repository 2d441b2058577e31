-- What the laws of the crates below say.
use Rattle.xpath_parser.specs.Laws as expressions
use Rattle.extract_call.specs.Below as lines
use Rattle.refusal_places.specs.Laws as places

pub record Below : Type 0 where
  -- what the lines of `extract` stand on
  pub lines : lines.Below
  -- an expression is read or refused, for one reason
  pub one_expression_fault : expressions.OneFault
  pub read_never_refused : expressions.NeverBoth
  -- a text is refused at one place
  pub one_selector_place : places.OneSelectorPlace
  pub one_expression_place : places.OneXPathPlace
