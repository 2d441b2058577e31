use Rattle.std.proofs.Common.{[], ◌∷◌, codes, ◌∙◌, ap}
use Rattle.std.specs.Str.{chars}
use Rattle.text_base.specs.Strings.{is_among}
use Rattle.css_meaning.proofs.states.is_control.Goals as goal

pub returns : goal.returns
unfolding chars
returns g c = c.is_one_of.ensures ∙ ap (λ n. is_among n (codes "button" ∷ codes "fieldset" ∷ codes "input" ∷ codes "optgroup" ∷ codes "option" ∷ codes "select" ∷ codes "textarea" ∷ [])) c.name.ensures.chars
