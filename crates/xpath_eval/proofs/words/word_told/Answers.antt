use Rattle.std.proofs.Common.{◌∙◌, ap}
use Rattle.std.specs.Str.{chars}
use Rattle.text_base.specs.Strings.{is_among}
use Rattle.xpath_values.specs.Strings.{words}
use Rattle.xpath_eval.specs.inner.Places.{context}
use Rattle.xpath_eval.proofs.Spaced.{told, two_items}
use Rattle.xpath_eval.proofs.words.word_told.Goals as goal

pub returns : goal.returns
returns g c =
    let doc = g.S.Tree.document c.args.source.now in
    let name = chars c.in_ok-name.name.now in
    let word = chars c.in_ok-word.word.now in
    told doc (context c.args.place) c.args.es.now c.index-es-0.result c.index-es-1.result name word c.has_word.result
    (two_items c.args.es.now c.index-es-0.result c.index-es-1.result c.if-es-ne2.false c.index-es-0.is c.index-es-1.is)
    c.in_ok-name.ensures c.in_ok-word.ensures.text c.in_ok-word.ensures.word
    (c.has_word.ensures ∙ ap (λ t. is_among word (words t)) c.attribute_text.ensures)
