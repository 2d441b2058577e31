use Rattle.std.proofs.Common.{sym, ap, subst, arith, length}
use Rattle.std.specs.Str.{chars}
use Rattle.std.proofs.lemmas.Result.{err_from_is_err_and}
use Rattle.std.proofs.lemmas.List.{length-map}
use Rattle.text_base.proofs.Text.{encode-chars}
use Rattle.regex.specs.Strings.{regex_source, regex_pattern}
use Rattle.query_chain.specs.Patterns.{match_texts}
use Rattle.query_chain.specs.inner.Found.{Adds}
use Rattle.query_chain.proofs.Errors.{moved}
use Rattle.query_chain.proofs.Searching.{finds}
use Rattle.query_chain.proofs.search.add_found.Goals as goal

pub returns-clause-ok : goal.returns-clause-ok
returns-clause-ok c =
    let same = finds c.args.regex.now (chars (regex_source c.args.regex.now)) (chars c.args.text.now) c.args.text.now c.captures_len-groups.result c.requires.built
    c.captures_len-groups.ensures.names (sym (encode-chars c.args.text.now c.utf8.text)) (λ k. omega (arith, c.type_inv.text k)) in
    subst (λ ts. Adds c.args.limits c.args.out.now c.add_matches.new.out ts) same (rw c.requires.same at c.in_ok-add_matches.ensures.ok)

pub returns-in_err-add_matches-clause-many : goal.returns-in_err-add_matches-clause-many
returns-in_err-add_matches-clause-many c =
    let p = err_from_is_err_and c.from_residual.result c.from_residual.ensures.1 in
    let same = finds c.args.regex.now (chars (regex_source c.args.regex.now)) (chars c.args.text.now) c.args.text.now c.captures_len-groups.result c.requires.built
    c.captures_len-groups.ensures.names (sym (encode-chars c.args.text.now c.utf8.text)) (λ k. omega (arith, c.type_inv.text k)) in
    rw (p.1, p.2) (λ e.
    let size = ap length same in
    let kept = length-map (match_texts (regex_pattern c.args.regex.now) c.captures_len-groups.result c.args.text.now) chars in
    let more = rw c.requires.same at (c.in_err-add_matches.ensures.many (moved _ _ e)) in
    omega (arith, size, kept, more))
