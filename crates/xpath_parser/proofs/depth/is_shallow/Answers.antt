use Rattle.std.proofs.Common.{arith, map, drop, ◌+◌}
use Rattle.xpath_lexer.specs.Places.{lexeme_of}
use Rattle.xpath_parser.specs.Terms.{IsShallow}
use Rattle.xpath_parser.proofs.Walks.{shallow_turn, too_deep}
use Rattle.xpath_parser.proofs.depth.is_shallow.Goals as goal

pub returns-then-open-close-clause-deep : goal.returns-then-open-close-clause-deep
returns-then-open-close-clause-deep c = λ _ shallow.
    let turn = shallow_turn (IsShallow (map lexeme_of c.args.tokens.now)) c.args.tokens.now c.loop-token.token-index c.token-item.result c.loop-token.open c.loop-token.close c.opens-open.result c.closes-close.result
    c.loop-token-test.true c.token-item.is c.loop-token.invariant.2 c.loop-token.invariant.3 c.opens-open.ensures.count c.closes-close.ensures.count in
    too_deep (c.loop-token.open + c.opens-open.result) (c.loop-token.close + c.closes-close.result) (map lexeme_of (drop (c.loop-token.token-index + 1) c.args.tokens.now)) (omega (arith, c.if-open-close.true)) (turn.1 shallow)

pub loop-token-preserved : goal.loop-token-preserved
loop-token-preserved c =
    let turn = shallow_turn (IsShallow (map lexeme_of c.args.tokens.now)) c.args.tokens.now c.loop-token.token-index c.token-item.result c.loop-token.open c.loop-token.close c.opens-open.result c.closes-close.result
    c.loop-token-test.true c.token-item.is c.loop-token.invariant.2 c.loop-token.invariant.3 c.opens-open.ensures.count c.closes-close.ensures.count in
    (omega (arith, c.loop-token.invariant.0, c.opens-open.ensures.small), omega (arith, c.loop-token.invariant.1, c.closes-close.ensures.small), omega (arith, c.if-open-close.false), turn)
