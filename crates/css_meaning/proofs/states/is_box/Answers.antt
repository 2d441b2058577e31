use Rattle.std.proofs.Common.{◌≡◌, [], ◌∷◌, codes, sym, ◌∙◌, ap}
use Rattle.std.specs.Prelude.{◌&&◌}
use Rattle.std.specs.Str.{chars}
use Rattle.text_base.specs.Strings.{is_among}
use Rattle.css_meaning.specs.Attributes.{has_value}
use Rattle.css_meaning.specs.Simples.{is_one_of}
use Rattle.css_meaning.proofs.states.is_box.Goals as goal

pub returns-then-is_one_of : goal.returns-then-is_one_of
unfolding chars
returns-then-is_one_of g c =
    let doc = g.T.Tree.document c.args.tree.now in
    let name : c.is_one_of.result ≡ is_one_of doc (codes "input" ∷ []) c.args.e =
    c.is_one_of.ensures ∙ ap (λ n. is_among n (codes "input" ∷ [])) c.name.ensures.chars in
    c.has_ticks.ensures
    ∙ ap (λ b. b && has_value doc c.args.e (codes "type") (λ value. is_among value (codes "checkbox" ∷ codes "radio" ∷ []))) (sym c.if-is_one_of.true ∙ name)

pub returns-else-is_one_of : goal.returns-else-is_one_of
unfolding chars
returns-else-is_one_of g c =
    let doc = g.T.Tree.document c.args.tree.now in
    let name : c.is_one_of.result ≡ is_one_of doc (codes "input" ∷ []) c.args.e =
    c.is_one_of.ensures ∙ ap (λ n. is_among n (codes "input" ∷ [])) c.name.ensures.chars in
    c.if-is_one_of.false
    ∙ ap (λ b. b && has_value doc c.args.e (codes "type") (λ value. is_among value (codes "checkbox" ∷ codes "radio" ∷ []))) (sym c.if-is_one_of.false ∙ name)
