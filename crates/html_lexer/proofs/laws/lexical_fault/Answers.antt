use Rattle.std.proofs.Common.{◌∙◌, ap, subst, Ok}
use Rattle.std.specs.Prelude.{Option}
use Rattle.html_lexer.specs.State.{Reading}
use Rattle.html_lexer.specs.Tokens.{view}
use Rattle.html_lexer.specs.Lexing.{GivesToken, IsNext}
use Rattle.html_lexer.specs.declared.lexer.Token.{Token}
use Rattle.html_lexer.proofs.LexLemmas.{read_token, read_fault}
use Rattle.html_lexer.proofs.laws.lexical_fault.Goals as goal

pub loop-fault-preserved : goal.loop-fault-preserved
loop-fault-preserved c =
    let given : GivesToken c.loop-fault.lexer c.in-Ok-Some.field-0-0 c.next.new.self =
    subst (λ (o : Option Token). IsNext c.loop-fault.lexer (Ok o) c.next.new.self) c.in-Ok-Some.field-0-is c.in-Ok-Some.ensures.next in
    record {
      same = ap (λ (r : Reading). r.text) given.1 ∙ c.loop-fault.invariant.same;
      read = read_token c.loop-fault.lexer c.next.new.self (view c.in-Ok-Some.field-0-0) c.loop-fault.invariant.read given.0 given.1;
    }

pub returns-in-Err : goal.returns-in-Err
returns-in-Err c =
    let given = c.in-Err.ensures.next in
    read_fault c.args.text.now c.loop-fault.lexer c.in-Err.fault.reason c.in-Err.fault.at c.loop-fault.invariant.same c.loop-fault.invariant.read given.0 given.1
