use Rattle.std.proofs.Common.{ap, ◌∙◌}
use Rattle.std.specs.Str.{chars}
use Rattle.std.proofs.lemmas.Str.{chars-nil}
use Rattle.xpath_functions.proofs.building.joined.Goals as goal

pub loop-value-init : goal.loop-value-init
loop-value-init g c = ap chars c.new-out.ensures.bytes ∙ chars-nil
