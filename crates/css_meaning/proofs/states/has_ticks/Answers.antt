use Rattle.std.proofs.Common.{List, ℕ, Bool, [], ◌∷◌, codes, ◌∙◌, ap}
use Rattle.std.specs.Str.{chars}
use Rattle.text_base.specs.Strings.{is_among}
use Rattle.css_meaning.proofs.FoundValues.{value_there, no_value}
use Rattle.css_meaning.proofs.states.has_ticks.Goals as goal

abbrev ticks : List ℕ → Bool
ticks value = is_among value (codes "checkbox" ∷ codes "radio" ∷ [])

pub returns-in-Some : goal.returns-in-Some
unfolding chars
returns-in-Some g c =
    c.is_one_of.ensures ∙ ap ticks c.text.ensures.chars
    ∙ value_there (g.T.Tree.document c.args.tree.now) (codes "type") c.args.e ticks c.in-Some.z c.in-Some.ensures.named

pub returns-in-None : goal.returns-in-None
unfolding chars
returns-in-None g c = no_value (g.T.Tree.document c.args.tree.now) (codes "type") c.args.e ticks c.in-None.ensures.named
