-- ASCII words are their own characters.
use Rattle.std.proofs.Common.{◌≡◌, refl, codes}
use Rattle.std.specs.Str.{chars}

pub true_chars : chars (codes "true") ≡ codes "true"
unfolding chars
true_chars = refl

pub false_chars : chars (codes "false") ≡ codes "false"
unfolding chars
false_chars = refl

pub nan_chars : chars (codes "NaN") ≡ codes "NaN"
unfolding chars
nan_chars = refl
