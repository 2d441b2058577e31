use Rattle.std.proofs.Common.{◌≤◌, ◌<◌, ◌++◌, [], ◌∷◌, ◌∙◌, sym, ap, arith, take, length, le-leb, encode_utf8_all}
use Rattle.std.proofs.lemmas.Bool.{lt-leb}
use Rattle.std.proofs.lemmas.List.{take_more, take_all}
use Rattle.query_chain.specs.Items.{bytes_of}
use Rattle.query_chain.proofs.Lists.{left_more, bytes_front}
use Rattle.query_chain.proofs.items.are_within.Goals as goal

pub returns-then-len-left : goal.returns-then-len-left
returns-then-len-left c =
    let part = bytes_front c.args.texts.now c.loop-text.text-index c.text-item.result c.loop-text-test.true in
    let here = ap (λ t. length (encode_utf8_all t)) c.text-item.is in
    let len = ap length c.as_str-len.ensures.bytes in
    let over : c.args.limit < bytes_of c.args.texts.now = omega (arith, part, here, len, c.loop-text.invariant, c.if-len-left.true) in
    sym (lt-leb (bytes_of c.args.texts.now) c.args.limit over)

pub returns : goal.returns
returns c =
    let all = ap bytes_of (take_all c.loop-text.text-index c.args.texts.now c.loop-text-test.false) in
    let within : bytes_of c.args.texts.now ≤ c.args.limit = omega (arith, all, c.loop-text.invariant) in
    sym (le-leb (bytes_of c.args.texts.now) c.args.limit within)

pub loop-text-preserved : goal.loop-text-preserved
loop-text-preserved c =
    left_more c.loop-text.left c.args.limit (length c.as_str-len.result.now) (take c.loop-text.text-index c.args.texts.now) _ c.text-item.result
    (take_more c.args.texts.now c.loop-text.text-index c.text-item.result c.loop-text-test.true ∙ ap (λ t. take c.loop-text.text-index c.args.texts.now ++ t ∷ []) (sym c.text-item.is))
    (ap length c.as_str-len.ensures.bytes) c.if-len-left.false c.loop-text.invariant
