use Rattle.std.proofs.Common.{◌∙◌, ap, Err}
use Rattle.std.proofs.lemmas.Result.{err_from_is_err_and}
use Rattle.std.specs.Str.{chars}
use Rattle.regex.specs.Strings.{regex_source}
use Rattle.query_chain.specs.inner.Steps.{items_of}
use Rattle.query_chain.proofs.Stepping.{stopped_search, search_items, search_passes}
use Rattle.query_chain.proofs.steps.search.Goals as goal

pub returns-in_err-found-clause-stop : goal.returns-in_err-found-clause-stop
returns-in_err-found-clause-stop g c =
    let p = err_from_is_err_and c.from_residual-in_err-found.result c.from_residual-in_err-found.ensures.1 in
    rw (p.1, p.2) (stopped_search c.args.limits (g.S.Tree.document c.args.source.now) (chars (regex_source c.args.regex.now)) (items_of c.args.items) c.as_slice.result.now _
    (c.as_slice.ensures.value ∙ c.in_ok-texts.ensures.texts) c.in_ok-texts.ensures.within (λ e. c.in_err-found.ensures.many (ap Err e)) (λ e. c.in_err-found.ensures.over (ap Err e)))

pub returns-clause-items : goal.returns-clause-items
returns-clause-items g c =
    search_items (g.S.Tree.document c.args.source.now) (chars (regex_source c.args.regex.now)) (items_of c.args.items) c.as_slice.result.now c.in_ok-found.found.items
    (c.as_slice.ensures.value ∙ c.in_ok-texts.ensures.texts) c.in_ok-found.ensures.texts

pub returns-clause-passes : goal.returns-clause-passes
returns-clause-passes g c =
    search_passes c.args.limits (g.S.Tree.document c.args.source.now) (chars (regex_source c.args.regex.now)) (items_of c.args.items) c.as_slice.result.now c.in_ok-found.found.items
    (c.as_slice.ensures.value ∙ c.in_ok-texts.ensures.texts) c.in_ok-found.ensures.texts c.in_ok-texts.ensures.within c.in_ok-found.ensures.few c.in_ok-found.ensures.within
