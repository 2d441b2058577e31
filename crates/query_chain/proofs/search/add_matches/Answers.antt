use Rattle.std.proofs.Common.{◌∙◌, refl}
use Rattle.std.proofs.lemmas.Result.{err_from_is_err_and}
use Rattle.query_chain.proofs.Errors.{moved}
use Rattle.regex.specs.Strings.{matcher_pattern}
use Rattle.query_chain.proofs.Matching.{along_start, along_step, along_end, along_many, fewer_left}
use Rattle.query_chain.proofs.search.add_matches.Goals as goal

pub loop-end-init : goal.loop-end-init
loop-end-init c = record { same = refl; along = along_start c.args.limits c.args.out.now (matcher_pattern c.args.matcher.now) c.args.text.now c.args.groups }

pub loop-end-smaller : goal.loop-end-smaller
loop-end-smaller c =
    let n = rw (c.in-Some.is, c.loop-end.invariant.same) at c.in_ok-end.ensures.next in
    fewer_left (matcher_pattern c.args.matcher.now) c.args.text.now c.loop-end.after c.in-Some.end n.0 n.1 n.2

pub loop-end-preserved : goal.loop-end-preserved
loop-end-preserved c =
    let n = rw (c.in-Some.is, c.loop-end.invariant.same) at c.in_ok-end.ensures.next in
    record {
      same = c.in_ok-end.ensures.same ∙ c.loop-end.invariant.same;
      along = along_step c.args.limits c.args.out.now _ _ (matcher_pattern c.args.matcher.now) c.args.text.now c.args.groups c.loop-end.after c.in-Some.end n.0 n.1 n.2 n.3 c.loop-end.invariant.along;
    }

pub returns-in_err-end-clause-many : goal.returns-in_err-end-clause-many
returns-in_err-end-clause-many c =
    let p = err_from_is_err_and c.from_residual.result c.from_residual.ensures.1 in
    rw (p.1, p.2) (λ e.
    let n = rw c.loop-end.invariant.same at (c.in_err-end.ensures.many (moved _ _ e)) in
    along_many c.args.limits c.args.out.now _ (matcher_pattern c.args.matcher.now) c.args.text.now c.args.groups c.loop-end.after n.0 n.1 n.2 c.loop-end.invariant.along)

pub returns-clause-ok : goal.returns-clause-ok
returns-clause-ok c =
    let n = rw (c.in_default.is, c.loop-end.invariant.same) at c.in_ok-end.ensures.next in
    along_end c.args.limits c.args.out.now _ (matcher_pattern c.args.matcher.now) c.args.text.now c.args.groups c.loop-end.after n.0 (rw n.1 c.loop-end.invariant.along)
