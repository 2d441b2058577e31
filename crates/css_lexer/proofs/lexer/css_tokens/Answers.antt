use Rattle.std.proofs.Common.{◌≡◌, [], ◌∷◌, ◌++◌, sym, subst, Some, arith}
use Rattle.std.specs.List.{All}
use Rattle.std.proofs.lemmas.List.Elements.{All-push}
use Rattle.text_base.specs.Text.{IsPlace}
use Rattle.css_lexer.specs.inner.Pushing.{EndsIfSome}
use Rattle.text_base.proofs.Boundaries.{at_start}
use Rattle.css_lexer.proofs.SpellLemmas.{spell_push, on_ok}
use Rattle.css_lexer.proofs.TokenLemmas.{token_from}
use Rattle.css_lexer.specs.Tokens.{TokenAt, Spell, SitsIn}
use Rattle.css_lexer.proofs.lexer.css_tokens.Goals as goal

pub past_comments-at-requires-clause-place : goal.past_comments-at-requires-clause-place
past_comments-at-requires-clause-place c = at_start c.args.text.now c.utf8.text

pub loop-at-preserved : goal.loop-at-preserved
loop-at-preserved c =
    let text = c.args.text.now in
    let next = c.past_comments-at-in-loop-at in
    let read : TokenAt text c.loop-at.at (Some c.in-Ok-Some.token) = subst (TokenAt text c.loop-at.at) c.in-Ok-Some.field-0-is c.in-Ok-Some.ensures.token in
    let pushed : c.push.new.self ≡ c.loop-at.tokens ++ c.in-Ok-Some.token ∷ [] = on_ok c.push.result _ c.push.ensures.ok c.if-is_err.ensures.negation in
    let ends : EndsIfSome text c.loop-at.at (Some c.in-Ok-Some.token) = subst (EndsIfSome text c.loop-at.at) c.in-Ok-Some.field-0-is c.in-Ok-Some.ensures.ends in
    let from : c.in-Ok-Some.token.from ≡ c.loop-at.at = token_from text c.loop-at.at c.in-Ok-Some.token read in
    let sits : SitsIn text c.in-Ok-Some.token = record {
      order = (let moves = ends.moves in omega arith);
      starts = subst (IsPlace text) (sym from) c.loop-at.invariant.place;
      ends = ends.place;
    } in
    record {
      sit = subst (All (SitsIn text)) (sym pushed) (All-push (SitsIn text) c.loop-at.tokens c.in-Ok-Some.token c.loop-at.invariant.sit sits);
      place = next.ensures.place;
      spelled = subst (λ ts. Spell text 0 ts next.result) (sym pushed)
          (spell_push text 0 c.loop-at.at next.result c.loop-at.tokens c.in-Ok-Some.token c.loop-at.invariant.spelled from read next.ensures.comments);
    }
