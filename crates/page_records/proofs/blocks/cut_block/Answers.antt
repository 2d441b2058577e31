use Rattle.std.proofs.Common.{refl}
use Rattle.page_records.proofs.WordLemmas.{unopened, another}
use Rattle.page_records.proofs.blocks.cut_block.Goals as goal

pub returns-in_default : goal.returns-in_default
returns-in_default c = unopened c.args.text.now c.in_default.ensures

pub returns-then-not-is_each : goal.returns-then-not-is_each
returns-then-not-is_each c =
    another c.args.text.now c.in-Some.head.now c.in-Some.rest.now c.in-Some.ensures.1 c.in-Some.ensures.2 c.in-Some-last_point.front.now c.in-Some-last_point.word.now
    c.in-Some-last_point.ensures.0 c.in-Some-last_point.ensures.1 (c.if-not-is_each.ensures.no refl)
