use Rattle.std.proofs.Common.{◌%◌, ◌++◌, ◌∙◌, ap, codes, decimal, string_bytes}
use Rattle.extract_call.proofs.BulkLemmas.{five}
use Rattle.extract_call.proofs.bulk.push_tag.Goals as goal

pub returns : goal.returns
returns c =
    five c.push-5.result (string_bytes c.args.page.now) (codes "<li class=\"k") (decimal (c.args.i % 7)) (codes "\" id=\"n") (decimal c.args.i) (codes "\">") _ _ _ _ _
    c.in_ok-push.ensures (c.in_ok-push-2.ensures ∙ ap (λ d. string_bytes c.push.new.page ++ d) c.digit.ensures)
    c.in_ok-push-3.ensures (c.in_ok-push-4.ensures ∙ ap (λ d. string_bytes c.push-3.new.page ++ d) c.requires) c.push-5.ensures
