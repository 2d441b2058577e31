use Rattle.std.proofs.Common.{◌≡◌, ◌≤◌, length, ap, string_bytes, arith}
use Rattle.extract_call.specs.PageLines.{most_page}
use Rattle.extract_call.proofs.PageBytes.{decoded_short}
use Rattle.why_call.proofs.PageTexts.{long_made, other_made, text_made}
use Rattle.why_call.proofs.pages.page_answer.Goals as goal

pub returns-then-bytes-gt-PAGE_LIMIT : goal.returns-then-bytes-gt-PAGE_LIMIT
returns-then-bytes-gt-PAGE_LIMIT c = long_made c.args.bytes.now c.long_answer.result c.if-bytes-gt-PAGE_LIMIT.true c.long_answer.ensures

pub text_answer-requires-in-Ok : goal.text_answer-requires-in-Ok
text_answer-requires-in-Ok c =
    let short = decoded_short c.args.bytes.now (string_bytes c.in-Ok.text) c.in-Ok.ensures in
    let same : length c.as_str.result.now ≡ length (string_bytes c.in-Ok.text) = ap length c.as_str.ensures.value in
    let most : length c.args.bytes.now ≤ most_page = c.if-bytes-gt-PAGE_LIMIT.false in
    omega arith
