use Rattle.std.proofs.Common.{◌≡◌, true, get_or, map, ◌∙◌, ap, sym, arith}
use Rattle.std.specs.List.{list_any}
use Rattle.std.specs.Str.{chars}
use Rattle.std.proofs.lemmas.List.{drop_all}
use Rattle.doc_model.specs.StringValue.{string_value}
use Rattle.xpath_functions.specs.inner.Sets.{has_text}
use Rattle.xpath_functions.specs.inner.Texts.{chars_of}
use Rattle.xpath_functions.proofs.Pairs.{shared, any_at}
use Rattle.xpath_functions.proofs.comparisons.share.Goals as goal

pub returns-then-has : goal.returns-then-has
returns-then-has g c =
    let doc = g.T.Tree.document c.args.tree.now in
    let known = c.in_ok-known.known in
    let ys = c.args.ys.now in
    let i = c.loop-y.y-index in
    let text : chars c.as_str.result.now ≡ string_value doc (get_or ys i 0) = c.as_str.ensures.chars ∙ c.in_ok-text.ensures in
    let passes : has_text known (string_value doc (get_or ys i 0)) ≡ true = ap (has_text known) (sym text) ∙ sym c.has.ensures ∙ c.if-has.true in
    sym (any_at (λ y. has_text known (string_value doc y)) ys i (omega arith) passes) ∙ c.loop-y.invariant
    ∙ shared (has_text known) chars_of c.as_slice.result.now (string_value doc) c.args.xs.now ys c.in_ok-known.ensures (ap (map chars_of) c.as_slice.ensures.value ∙ c.in_ok-texts.ensures)

pub returns : goal.returns
returns g c =
    let doc = g.T.Tree.document c.args.tree.now in
    let known = c.in_ok-known.known in
    let ys = c.args.ys.now in
    sym (ap (list_any (λ y. has_text known (string_value doc y))) (drop_all c.loop-y.y-index ys (omega arith))) ∙ c.loop-y.invariant
    ∙ shared (has_text known) chars_of c.as_slice.result.now (string_value doc) c.args.xs.now ys c.in_ok-known.ensures (ap (map chars_of) c.as_slice.ensures.value ∙ c.in_ok-texts.ensures)
