use Rattle.std.proofs.Common.{sym, ◌∙◌, ap}
use Rattle.std.specs.Str.{chars}
use Rattle.xpath_values.specs.Strings.{before_place}
use Rattle.xpath_functions.proofs.Places.{split_is, before_found, not_found_chars}
use Rattle.xpath_functions.proofs.parts.before.Goals as goal

pub returns-in-Some : goal.returns-in-Some
returns-in-Some c =
    let front = c.in-Some.front.now in
    let back = c.in-Some.field-0-1.now in
    let found = split_is c.args.mark.now c.args.text.now front back c.utf8.mark c.utf8.text c.in-Some.ensures.cases in
    sym (before_found (chars c.args.text.now) (chars c.args.mark.now) (chars front) (chars back) found.0 found.1)

pub returns-in-None : goal.returns-in-None
returns-in-None c =
    c.nothing.ensures ∙ sym (ap (λ p. before_place p (chars c.args.text.now)) (not_found_chars c.args.mark.now c.args.text.now c.utf8.mark c.utf8.text c.in-None.ensures.cases))
