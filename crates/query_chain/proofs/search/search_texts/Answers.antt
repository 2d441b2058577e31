use Rattle.std.proofs.Common.{◌∙◌, ap, arith, length}
use Rattle.std.specs.Str.{chars}
use Rattle.std.proofs.lemmas.Result.{err_from_is_err_and}
use Rattle.regex.specs.Strings.{regex_source}
use Rattle.query_chain.specs.Items.{bytes_of}
use Rattle.query_chain.specs.Patterns.{found_texts}
use Rattle.query_chain.proofs.Adding.{adds_none}
use Rattle.query_chain.proofs.Errors.{moved}
use Rattle.query_chain.proofs.Searching.{found_more, found_many, found_all, all_kept, all_over}
use Rattle.query_chain.proofs.search.search_texts.Goals as goal

pub loop-text-init : goal.loop-text-init
loop-text-init c = record { same = c.in_ok-matcher.ensures.pattern; fresh = c.new-found.ensures; adds = adds_none c.args.limits c.new-found.result }

pub add_found-requires-clause-same : goal.add_found-requires-clause-same
add_found-requires-clause-same c = c.loop-text.invariant.same

pub loop-text-preserved : goal.loop-text-preserved
loop-text-preserved c =
    let source = chars (regex_source c.args.regex.now) in
    record {
      same = c.in_ok-add_found.ensures.same ∙ c.loop-text.invariant.same;
      fresh = c.loop-text.invariant.fresh;
      adds = found_more c.args.limits _ _ _ source c.args.texts.now c.loop-text.text-index c.text-item.result _ c.loop-text-test.true c.text-item.is
          (ap (found_texts source) c.as_str.ensures.chars) c.loop-text.invariant.adds c.in_ok-add_found.ensures.ok;
    }

pub returns-in_err-add_found-clause-many : goal.returns-in_err-add_found-clause-many
returns-in_err-add_found-clause-many c =
    let p = err_from_is_err_and c.from_residual-in_err-add_found.result c.from_residual-in_err-add_found.ensures.1 in
    let source = chars (regex_source c.args.regex.now) in
    rw (p.1, p.2) (λ e.
    found_many c.args.limits _ _ source c.args.texts.now c.loop-text.text-index c.text-item.result _ c.loop-text-test.true c.text-item.is
    (ap (λ t. length (found_texts source t)) c.as_str.ensures.chars) c.loop-text.invariant.fresh c.loop-text.invariant.adds (c.in_err-add_found.ensures.many (moved _ _ e)))

pub returns-then-found-clause-over : goal.returns-then-found-clause-over
returns-then-found-clause-over c = λ _.
    all_over c.args.limits _ c.loop-text.found _ c.loop-text.invariant.fresh (found_all c.args.limits _ _ _ c.args.texts.now c.loop-text.text-index c.loop-text-test.false c.loop-text.invariant.adds) c.if-found.true

pub returns-clause-texts : goal.returns-clause-texts
returns-clause-texts c =
    (all_kept c.args.limits _ c.loop-text.found _ c.loop-text.invariant.fresh (found_all c.args.limits _ _ _ c.args.texts.now c.loop-text.text-index c.loop-text-test.false c.loop-text.invariant.adds) c.if-found.false).0

pub returns-clause-few : goal.returns-clause-few
returns-clause-few c =
    let k = all_kept c.args.limits _ c.loop-text.found _ c.loop-text.invariant.fresh (found_all c.args.limits _ _ _ c.args.texts.now c.loop-text.text-index c.loop-text-test.false c.loop-text.invariant.adds) c.if-found.false in
    let n = ap length k.0 in
    omega (arith, n, k)

pub returns-clause-within : goal.returns-clause-within
returns-clause-within c =
    let k = all_kept c.args.limits _ c.loop-text.found _ c.loop-text.invariant.fresh (found_all c.args.limits _ _ _ c.args.texts.now c.loop-text.text-index c.loop-text-test.false c.loop-text.invariant.adds) c.if-found.false in
    let n = ap bytes_of k.0 in
    omega (arith, n, k)
