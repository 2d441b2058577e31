use Rattle.std.proofs.Common.{◌≡◌, sym, ◌∙◌, ap}
use Rattle.std.proofs.lemmas.Bool.{eqb-true}
use Rattle.std.specs.Str.{chars}
use Rattle.text_base.specs.Strings.{contains}
use Rattle.doc_model.specs.Document.{row}
use Rattle.doc_model.specs.StringValue.{string_value, string_value_of}
use Rattle.css_meaning.proofs.TextPlaces.{own_text, nothing_wanted}
use Rattle.css_meaning.proofs.contents.contains_text.Goals as goal

pub returns-then-is_empty : goal.returns-then-is_empty
returns-then-is_empty g c =
    sym (nothing_wanted (string_value (g.T.Tree.document c.args.tree.now) c.args.e) c.args.wanted.now (eqb-true _ _ (sym c.is_empty.ensures ∙ c.if-is_empty.true)))

pub returns-in-Attribute : goal.returns-in-Attribute
returns-in-Attribute g c =
    let doc = g.T.Tree.document c.args.tree.now in
    let e = c.args.e in
    let own : string_value doc e ≡ (row doc e).text = ap (λ k. string_value_of k doc e) (sym c.kind.ensures) ∙ own_text doc e c.kind.result c.in-Attribute.is in
    c.includes.ensures ∙ ap (λ t. contains t (chars c.args.wanted.now)) (c.text.ensures.chars ∙ sym own)
