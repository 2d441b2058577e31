use Rattle.query_chain.proofs.Building.{built, refused}
use Rattle.query_chain.proofs.pattern.build.Goals as goal

pub returns-in-Ok-clause-built : goal.returns-in-Ok-clause-built
returns-in-Ok-clause-built c = built _ c.args.source.now c.in-Ok.ensures.source c.in-Ok.ensures.config c.in-Ok.ensures.read

pub returns-in-Err-Syntax-clause-refused : goal.returns-in-Err-Syntax-clause-refused
returns-in-Err-Syntax-clause-refused c = λ _.
    refused c.args.source.now c.in-Err-Syntax.field-0-0.kind
    (c.in-Err-Syntax.ensures.by_grammar c.in-Err-Syntax.field-0-0 c.in-Err-Syntax.field-0-is)
    (rw c.in-Err-Syntax.field-0-is at c.in-Err-Syntax.ensures.kind)
