use Rattle.std.proofs.Common.{◌≡◌, [], ◌∷◌, codes, ◌∙◌, ap}
use Rattle.std.specs.Str.{chars}
use Rattle.text_base.specs.Strings.{is_among}
use Rattle.css_meaning.specs.Attributes.{has_attribute}
use Rattle.css_meaning.specs.Simples.{is_one_of}
use Rattle.css_meaning.proofs.FoundValues.{then_both, else_none}
use Rattle.css_meaning.proofs.states.is_chosen.Goals as goal

pub returns-then-is_one_of : goal.returns-then-is_one_of
unfolding chars
returns-then-is_one_of g c =
    let doc = g.T.Tree.document c.args.tree.now in
    let name : c.is_one_of.result ≡ is_one_of doc (codes "option" ∷ []) c.args.e =
    c.is_one_of.ensures ∙ ap (λ n. is_among n (codes "option" ∷ [])) c.name.ensures.chars in
    let attribute : c.has_attribute.result ≡ has_attribute doc c.args.e (codes "selected") = c.has_attribute.ensures in
    then_both _ _ _ _ name c.if-is_one_of.true attribute

pub returns-else-is_one_of : goal.returns-else-is_one_of
unfolding chars
returns-else-is_one_of g c =
    let doc = g.T.Tree.document c.args.tree.now in
    let name : c.is_one_of.result ≡ is_one_of doc (codes "option" ∷ []) c.args.e =
    c.is_one_of.ensures ∙ ap (λ n. is_among n (codes "option" ∷ [])) c.name.ensures.chars in
    else_none _ (has_attribute doc c.args.e (codes "selected")) _ name c.if-is_one_of.false
