use Rattle.std.proofs.Common.{[], refl, subst, inr, Ok, None}
use Rattle.std.specs.Prelude.{Option}
use Rattle.html_lexer.specs.Tokens.{view}
use Rattle.html_lexer.specs.Lexing.{GivesToken, IsNext}
use Rattle.html_lexer.specs.declared.lexer.Token.{Token}
use Rattle.html_reader.specs.inner.Pieces.{owned_bytes}
use Rattle.html_reader.specs.inner.States.{the_state, tok_of}
use Rattle.html_reader.proofs.LoopLemmas.{starts_reading, no_utf8, led_of, has_room, reads_token, token_refused, lexer_refused, end_refusals, end_answers, is_readable}
use Rattle.html_reader.proofs.page.read_tokens.Goals as goal

pub loop-token-init : goal.loop-token-init
loop-token-init g c =
    starts_reading c.args.text.now c.new-lexer.result [] (the_state c.args.reader.tags.items c.args.reader.rooted (g.G.Grow.growing c.args.reader.grow) (owned_bytes c.args.reader.waits)) c.new-lexer.ensures refl no_utf8 c.requires.made c.requires.led c.requires.size

pub token_of-requires-text-before : goal.token_of-requires-text-before
token_of-requires-text-before g c κs = c.loop-token.invariant.utf8

pub token_of-requires : goal.token_of-requires
token_of-requires g c =
    let given : GivesToken c.loop-token.lexer c.in-Ok-Some.token c.next.new.self =
    subst (λ (o : Option Token). IsNext c.loop-token.lexer (Ok o) c.next.new.self) c.in-Ok-Some.field-0-is c.in-Ok-Some.ensures.next in
    is_readable c.loop-token.lexer.text c.loop-token.lexer.name c.loop-token.lexer.at (view c.in-Ok-Some.token) given.0

pub take-requires : goal.take-requires
take-requires g c κs =
    let r = c.loop-token.reader in
    let state = the_state r.tags.items r.rooted (g.G.Grow.growing r.grow) (owned_bytes r.waits) in
    let given : GivesToken c.loop-token.lexer c.in-Ok-Some.token c.next.new.self =
    subst (λ (o : Option Token). IsNext c.loop-token.lexer (Ok o) c.next.new.self) c.in-Ok-Some.field-0-is c.in-Ok-Some.ensures.next in (
      (refl, tt),
      (
        led_of c.args.text.now c.loop-token.lexer c.loop-token.before.now state c.loop-token.invariant,
        (
          c.in-Ok.ensures.kept,
          has_room c.args.text.now c.loop-token.lexer c.loop-token.before.now state (view c.in-Ok-Some.token) (tok_of c.in-Ok.taken) c.loop-token.invariant given.0 c.in-Ok.ensures.means c.requires.short,
        ),
      ),
    )

pub returns-in-Err-take-clause-fault : goal.returns-in-Err-take-clause-fault
returns-in-Err-take-clause-fault g c =
    let r = c.loop-token.reader in
    let n = c.take.new.self in
    let given : GivesToken c.loop-token.lexer c.in-Ok-Some.token c.next.new.self =
    subst (λ (o : Option Token). IsNext c.loop-token.lexer (Ok o) c.next.new.self) c.in-Ok-Some.field-0-is c.in-Ok-Some.ensures.next in
    token_refused c.args.text.now c.loop-token.lexer c.loop-token.before.now (the_state r.tags.items r.rooted (g.G.Grow.growing r.grow) (owned_bytes r.waits)) (the_state n.tags.items n.rooted (g.G.Grow.growing n.grow) (owned_bytes n.waits)) (view c.in-Ok-Some.token) c.in-Ok.taken c.in-Err-take.fault c.loop-token.invariant given.0 c.in-Ok.ensures.means c.in-Ok.ensures.from c.in-Err-take.ensures

pub loop-token-preserved : goal.loop-token-preserved
loop-token-preserved g c =
    let r = c.loop-token.reader in
    let n = c.take.new.self in
    let given : GivesToken c.loop-token.lexer c.in-Ok-Some.token c.next.new.self =
    subst (λ (o : Option Token). IsNext c.loop-token.lexer (Ok o) c.next.new.self) c.in-Ok-Some.field-0-is c.in-Ok-Some.ensures.next in
    reads_token c.args.text.now c.loop-token.lexer c.next.new.self c.loop-token.before.now c.name_after-before.result.now (the_state r.tags.items r.rooted (g.G.Grow.growing r.grow) (owned_bytes r.waits)) (the_state n.tags.items n.rooted (g.G.Grow.growing n.grow) (owned_bytes n.waits)) (view c.in-Ok-Some.token) c.in-Ok.taken tt c.loop-token.invariant given.0 given.1 c.in-Ok.ensures.means c.in-Ok-take.ensures c.name_after-before.ensures c.name_after-before.utf8

pub returns-in-Ok-None-clause-fault : goal.returns-in-Ok-None-clause-fault
returns-in-Ok-None-clause-fault g c =
    let r = c.loop-token.reader in
    let state = the_state r.tags.items r.rooted (g.G.Grow.growing r.grow) (owned_bytes r.waits) in
    let ended : IsNext c.loop-token.lexer (Ok None) c.next.new.self =
    subst (λ (o : Option Token). IsNext c.loop-token.lexer (Ok o) c.next.new.self) c.in-Ok-None.field-0-is c.in-Ok-None.ensures.next in
    end_refusals c.args.text.now c.loop-token.lexer c.loop-token.before.now state c.finish.result c.loop-token.invariant ended.0 c.finish.ensures.err

pub returns-in-Err-clause-fault : goal.returns-in-Err-clause-fault
returns-in-Err-clause-fault g c =
    let r = c.loop-token.reader in
    let given = c.in-Err.ensures.next in
    inr (lexer_refused c.args.text.now c.loop-token.lexer c.loop-token.before.now (the_state r.tags.items r.rooted (g.G.Grow.growing r.grow) (owned_bytes r.waits)) c.in-Err.fault c.loop-token.invariant given.0 given.1)

pub returns-in-Ok-None-clause-ok : goal.returns-in-Ok-None-clause-ok
returns-in-Ok-None-clause-ok g c =
    let r = c.loop-token.reader in
    let state = the_state r.tags.items r.rooted (g.G.Grow.growing r.grow) (owned_bytes r.waits) in
    let ended : IsNext c.loop-token.lexer (Ok None) c.next.new.self =
    subst (λ (o : Option Token). IsNext c.loop-token.lexer (Ok o) c.next.new.self) c.in-Ok-None.field-0-is c.in-Ok-None.ensures.next in
    end_answers (λ done. g.G.Done.Tree.document done) c.args.text.now c.loop-token.lexer c.loop-token.before.now state c.finish.result c.loop-token.invariant ended.0 c.finish.ensures.ok
