use Rattle.std.proofs.Common.{◌≡◌, ◌≤◌, length, ap, string_bytes, arith}
use Rattle.extract_call.specs.PageLines.{most_page}
use Rattle.test_registry.specs.View.{known}
use Rattle.extract_call.specs.inner.Asked.{shown_by}
use Rattle.extract_call.proofs.PageBytes.{decoded_short}
use Rattle.extract_call.proofs.PageReadings.{long_line}
use Rattle.extract_call.proofs.page_lines.page_answer.Goals as goal

pub returns-then-bytes-gt-PAGE_LIMIT : goal.returns-then-bytes-gt-PAGE_LIMIT
returns-then-bytes-gt-PAGE_LIMIT g c = long_line (shown_by (known c.args.tests.now) c.args.asked) c.args.name.now c.args.bytes.now c.long_answer.result c.if-bytes-gt-PAGE_LIMIT.true c.long_answer.ensures

pub text_answer-requires-in-Ok-clause-short : goal.text_answer-requires-in-Ok-clause-short
text_answer-requires-in-Ok-clause-short g c =
    let short = decoded_short c.args.bytes.now (string_bytes c.in-Ok.text) c.in-Ok.ensures in
    let same : length c.as_str.result.now ≡ length (string_bytes c.in-Ok.text) = ap length c.as_str.ensures.value in
    let most : length c.args.bytes.now ≤ most_page = c.if-bytes-gt-PAGE_LIMIT.false in
    omega arith
