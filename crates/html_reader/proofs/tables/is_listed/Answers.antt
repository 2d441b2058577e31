use Rattle.std.proofs.Common.{◌≡◌, ◌+◌, map, drop, get_or, sym, ◌∙◌, ap, subst, true}
use Rattle.std.proofs.lemmas.List.{drop_more}
use Rattle.html_reader.specs.Tables.{is_listed, are_apart}
use Rattle.html_reader.specs.inner.Views.{ending_of}
use Rattle.html_reader.proofs.TableLemmas.{first_decides}
use Rattle.html_reader.proofs.tables.is_listed.Goals as goal

pub returns-then-is_among : goal.returns-then-is_among
returns-then-is_among c =
    let es = c.args.endings.now in
    let i = c.loop-ending.ending-index in
    let element = c.args.element.now in
    let name = c.args.name.now in
    let cut = drop_more es i _ c.loop-ending-test.true in
    c.is_among-then-is_among.ensures
    ∙ first_decides (ending_of (get_or es i _)) (map ending_of (drop (i + 1) es)) element name
    (subst (λ t. are_apart (map ending_of t) ≡ true) cut c.loop-ending.invariant.apart)
    (sym c.is_among.ensures ∙ c.if-is_among.true)
    ∙ sym (ap (λ t. is_listed (map ending_of t) element name) cut)
    ∙ c.loop-ending.invariant.same
