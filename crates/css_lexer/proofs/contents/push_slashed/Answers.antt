use Rattle.std.proofs.Common.{◌+◌, arith}
use Rattle.css_lexer.proofs.ContentLemmas.{lost_place}
use Rattle.css_lexer.proofs.contents.push_slashed.Goals as goal

pub returns-then-lost-gt0-clause-place : goal.returns-then-lost-gt0-clause-place
returns-then-lost-gt0-clause-place c = lost_place c.args.content c.args.text.now (c.args.at + 1) _ c.lost_len-lost.result c.utf8.text c.lost_len-lost.ensures (omega arith) (omega arith)
