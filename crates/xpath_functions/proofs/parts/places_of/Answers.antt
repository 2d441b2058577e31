use Rattle.std.proofs.Common.{◌≡◌, ◌∙◌, Some}
use Rattle.std.specs.Str.{chars}
use Rattle.std.proofs.lemmas.Int.{to_z-of_z}
use Rattle.text_base.specs.Positions.{at_positions, is_wanted}
use Rattle.xpath_functions.proofs.Positions.{of_positions}
use Rattle.xpath_functions.proofs.parts.places_of.Goals as goal

pub returns : goal.returns
returns c =
    let given : chars c.char_sub.result.now ≡ at_positions (is_wanted c.args.from (Some c.args.len)) 1 (chars c.args.text.now) = simp (to_z-of_z, c.ranges.from, c.ranges.len) at c.char_sub.ensures in
    given ∙ of_positions (chars c.args.text.now) c.args.from c.args.len
