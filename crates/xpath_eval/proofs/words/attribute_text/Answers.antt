use Rattle.std.proofs.Common.{sym, ◌∙◌, ap}
use Rattle.std.proofs.lemmas.Str.{chars-nil}
use Rattle.std.specs.Str.{chars}
use Rattle.xpath_parser.specs.Conversions.{text_of_rows}
use Rattle.xpath_eval.proofs.Sides.{attribute_value}
use Rattle.xpath_eval.proofs.words.attribute_text.Goals as goal

pub returns-in-Some : goal.returns-in-Some
returns-in-Some g c =
    let doc = g.S.Tree.document c.args.source.now in
    c.text.ensures.chars ∙ sym (attribute_value doc c.args.x c.in-Some.y (chars c.args.name.now) c.in-Some.ensures.named) ∙ ap (text_of_rows doc) (sym c.in-Some.ensures.named)

pub returns-in-None : goal.returns-in-None
returns-in-None g c = chars-nil ∙ ap (text_of_rows (g.S.Tree.document c.args.source.now)) (sym c.in-None.ensures.named)
