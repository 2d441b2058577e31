use Rattle.std.proofs.Common.{◌≡◌, ◌∙◌, ap, sym, false, Err}
use Rattle.std.proofs.lemmas.Result.{err_from_is_err_and}
use Rattle.xpath_parser.specs.Typed.{expression}
use Rattle.xpath_parser.specs.Shapes.{shape_of, is_nodes}
use Rattle.query_chain.proofs.Selecting.{one_each}
use Rattle.query_chain.proofs.Stepping.{stopped_rows, stopped_texts, rows_pass, texts_pass, texts_few}
use Rattle.query_chain.proofs.steps.select.Goals as goal

pub returns-then-gives_nodes-clause-passes : goal.returns-then-gives_nodes-clause-passes
returns-then-gives_nodes-clause-passes g c =
    rows_pass c.args.limits (g.S.Tree.document c.args.source.now) (expression c.args.query.now) c.args.rows.now _ c.in_ok-found.ensures.items c.in_ok-found.ensures.few

pub returns-in_err-found-clause-stop : goal.returns-in_err-found-clause-stop
returns-in_err-found-clause-stop g c =
    let p = err_from_is_err_and c.from_residual.result c.from_residual.ensures.1 in
    rw (p.1, p.2) (stopped_rows c.args.limits (g.S.Tree.document c.args.source.now) (expression c.args.query.now) c.args.rows.now _
    (λ e. c.in_err-found.ensures.output (ap Err e)) (λ e. c.in_err-found.ensures.many (ap Err e)))

pub returns-in_err-found-2-clause-stop : goal.returns-in_err-found-2-clause-stop
returns-in_err-found-2-clause-stop g c =
    let p = err_from_is_err_and c.from_residual-in_err-found-2.result c.from_residual-in_err-found-2.ensures.1 in
    let shape : is_nodes (shape_of (expression c.args.query.now)) ≡ false = sym c.gives_nodes.ensures ∙ c.if-gives_nodes.false in
    let each = one_each (g.S.Tree.document c.args.source.now) c.args.query.now c.args.rows.now shape in
    rw (p.1, p.2) (stopped_texts c.args.limits (g.S.Tree.document c.args.source.now) (expression c.args.query.now) c.args.rows.now _
    (λ e. c.in_err-found-2.ensures.selection (ap Err e)) each c.requires.few (λ e. c.in_err-found-2.ensures.over (ap Err e)))

pub returns-clause-passes : goal.returns-clause-passes
returns-clause-passes g c =
    let shape : is_nodes (shape_of (expression c.args.query.now)) ≡ false = sym c.gives_nodes.ensures ∙ c.if-gives_nodes.false in
    let each = one_each (g.S.Tree.document c.args.source.now) c.args.query.now c.args.rows.now shape in
    texts_pass c.args.limits (g.S.Tree.document c.args.source.now) (expression c.args.query.now) c.args.rows.now _ c.in_ok-found-2.ensures.items each c.requires.few c.in_ok-found-2.ensures.within

pub returns-clause-few : goal.returns-clause-few
returns-clause-few g c =
    let shape : is_nodes (shape_of (expression c.args.query.now)) ≡ false = sym c.gives_nodes.ensures ∙ c.if-gives_nodes.false in
    let each = one_each (g.S.Tree.document c.args.source.now) c.args.query.now c.args.rows.now shape in
    texts_few (g.S.Tree.document c.args.source.now) (expression c.args.query.now) c.args.rows.now _ c.args.limits.items c.in_ok-found-2.ensures.items each c.requires.few
