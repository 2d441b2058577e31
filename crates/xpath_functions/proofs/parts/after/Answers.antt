use Rattle.std.proofs.Common.{sym, ◌∙◌, ap, length}
use Rattle.std.specs.Str.{chars}
use Rattle.xpath_values.specs.Strings.{after_place}
use Rattle.xpath_functions.proofs.Places.{split_is, after_found, not_found_chars}
use Rattle.xpath_functions.proofs.parts.after.Goals as goal

pub returns-in-Some : goal.returns-in-Some
returns-in-Some c =
    let front = c.in-Some.field-0-0.now in
    let back = c.in-Some.back.now in
    let found = split_is c.args.mark.now c.args.text.now front back c.utf8.mark c.utf8.text c.in-Some.ensures.cases in
    sym (after_found (chars c.args.text.now) (chars c.args.mark.now) (chars front) (chars back) found.0 found.1)

pub returns-in-None : goal.returns-in-None
returns-in-None c =
    c.nothing.ensures ∙ sym (ap (λ p. after_place p (length (chars c.args.mark.now)) (chars c.args.text.now)) (not_found_chars c.args.mark.now c.args.text.now c.utf8.mark c.utf8.text c.in-None.ensures.cases))
