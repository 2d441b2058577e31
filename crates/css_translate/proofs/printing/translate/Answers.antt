use Rattle.std.proofs.Common.{◌≡◌, ◌≤◌, length, string_bytes, arith, rules}
use Rattle.xpath_lexer.specs.Places.{most_xpath}
use Rattle.css_printed.specs.Printed.{printed}
use Rattle.css_printed.proofs.Theorem.{keeps_meaning}
use Rattle.css_translate.proofs.printing.translate.Goals as goal

pub returns-else-len-gt-XPATH_LIMIT-clause-meaning :
    goal.returns-else-len-gt-XPATH_LIMIT-clause-meaning
returns-else-len-gt-XPATH_LIMIT-clause-meaning c =
    let printed_is : string_bytes c.in-Ok.text ≡ printed c.args.dialect c.args.list.now = search rules in
    let within : length (string_bytes c.in-Ok.text) ≤ most_xpath = omega arith in
    keeps_meaning c.args.dialect c.args.list.now (string_bytes c.in-Ok.text) c.requires c.in-Ok.ensures.texts printed_is within
