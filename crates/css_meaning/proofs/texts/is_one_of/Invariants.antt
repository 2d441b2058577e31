use Rattle.std.proofs.Common.{◌≡◌, drop, map}
use Rattle.std.specs.Str.{chars}
use Rattle.text_base.specs.Strings.{is_among}
use Rattle.css_meaning.proofs.texts.is_one_of.Given as goal

abbrev pub invariant-loop-other : goal.invariant-loop-other
invariant-loop-other l = is_among (chars l.text) (map (λ other. chars other.now) (drop l.other-index l.others)) ≡ is_among (chars l.text) (map (λ other. chars other.now) l.others)
