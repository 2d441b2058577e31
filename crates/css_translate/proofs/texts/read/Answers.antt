use Rattle.std.proofs.Common.{◌≡◌, true, subst, List, ℕ}
use lib.Utf8.{scalars}
use Rattle.std.proofs.lemmas.Str.{scalars-chars}
use Rattle.css_translate.proofs.texts.read.Goals as goal

pub returns : goal.returns
returns c = subst (λ (x : List ℕ). scalars x ≡ true) c.as_str-read.ensures.chars (scalars-chars _ c.as_str-read.utf8)
