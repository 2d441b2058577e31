use Rattle.std.proofs.Common.{codes, string_bytes}
use Rattle.extract_call.proofs.BulkLemmas.{five}
use Rattle.extract_call.proofs.bulk.push_link.Goals as goal

pub returns : goal.returns
returns c =
    five c.push-5.result (string_bytes c.args.page.now) (codes "<a href=\"/p/") c.args.digits.now (codes "\">item ") c.args.digits.now (codes "</a>") _ _ _ _ _
    c.in_ok-push.ensures c.in_ok-push-2.ensures c.in_ok-push-3.ensures c.in_ok-push-4.ensures c.push-5.ensures
