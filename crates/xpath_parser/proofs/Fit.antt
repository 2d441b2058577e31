-- From tokens and terms to what a text reads as.
use Rattle.std.proofs.Common.{◌≡◌, ◌≢◌, refl, subst, sym, ap, ℕ, suc, ◌+◌, ◌<◌, ◌≤◌, ◌^◌, Bool, true, false, List, [], ◌∷◌, length, map, None, arith}
use Rattle.std.proofs.lemmas.List.{length-map}
use Rattle.test_registry.specs.Names.{Known}
use Rattle.xpath_lexer.specs.Tokens.{Text, Lexeme}
use Rattle.text_base.specs.declared.reasons.XPathFault.{XPathFault}
use Rattle.text_base.specs.declared.reasons.XPathFault.TheVariants as fault
use Rattle.xpath_lexer.specs.Places.{Stand, IsFault, lexeme_of, most_xpath}
use Rattle.xpath_lexer.specs.declared.token.XTok.{XTok}
use Rattle.xpath_parser.specs.declared.expression.Expr.{Expr}
use Rattle.xpath_parser.specs.Terms.{terms_over, terms_after_over, term_of_over, is_operand, next_kind}
use Rattle.xpath_parser.specs.Faults.{IsFit, IsFaultOver, first_fault, unread, too_long, unspelled}
use Rattle.xpath_parser.specs.Grammar.{ReadsWhole}
use Rattle.xpath_parser.specs.Reading.{ReadsOver, IsReadable}
use Rattle.xpath_parser.specs.Shapes.{is_well_typed}
use Rattle.xpath_parser.proofs.Refused.{accepted}

tokens_within : (text : Text) (at : ℕ) (ws : List XTok) → at ≤ length text → Stand text at ws → at + length ws ≤ length text
tokens_within text at [] l h = omega arith
tokens_within text at (w ∷ ws) l (token, more) =
    let rest = tokens_within text w.to ws token.within more in
    omega (arith, rest, token.order, token.some)

-- a text that is not too long has no more tokens than bytes
pub few_tokens : (text : Text) (ws : List XTok) → Stand text 0 ws → length text ≤ most_xpath → length ws < 2 ^ 32
few_tokens text ws h l = let all = tokens_within text 0 ws (omega arith) h in omega (arith, all, l)

module _ (tests : Known) where
  terms_length : (after : Bool) (ws : List Lexeme) → length (terms_after_over tests after ws) ≡ length ws
  terms_length after [] = refl
  terms_length after (w ∷ ws) = ap suc (terms_length (is_operand (term_of_over tests after w.kind w.text (next_kind ws))) ws)

  -- why a text has no tokens
  pub lexer_fault : (text : Text) (e : XPathFault) → IsFault text e → IsFaultOver tests text e
  lexer_fault text fault.Long h = too_long h
  lexer_fault text fault.Text h = unspelled h.0 h.1
  lexer_fault text fault.Deep h = absurd h
  lexer_fault text fault.Syntax h = absurd h
  lexer_fault text fault.Fraction h = absurd h
  lexer_fault text fault.Range h = absurd h
  lexer_fault text fault.Div h = absurd h
  lexer_fault text fault.Variable h = absurd h
  lexer_fault text fault.Prefix h = absurd h
  lexer_fault text fault.Function h = absurd h
  lexer_fault text fault.Arguments h = absurd h
  lexer_fault text fault.WrongType h = absurd h
  lexer_fault text fault.Memory h = absurd h

  -- as many terms as tokens
  pub few_terms : (ws : List XTok) → length ws < 2 ^ 32 → length (terms_over tests (map lexeme_of ws)) < 2 ^ 32
  few_terms ws l = let a = terms_length false (map lexeme_of ws) in let b = length-map ws lexeme_of in omega (arith, a, b, l)

  pub reads_as : (text : Text) (ws : List Lexeme) (x : Expr) → IsFit text ws → ReadsWhole (terms_over tests ws) x → first_fault (terms_over tests ws) ≡ None → is_well_typed x ≡ true → ReadsOver tests text x
  reads_as text ws x fit r none e =
      record { short = fit.short; lexemes = ws; spelled = fit.spelled; shallow = fit.shallow; reads = r; accepted = accepted (terms_over tests ws) none; typed = e }

  pub readable : (text : Text) (x : Expr) → ReadsOver tests text x → ∥ IsReadable x ∥₁
  readable text x r = ∣ record { tests = tests; text = text; reads = r } ∣₁

  pub syntax_fault : (text : Text) (ws : List Lexeme) (e : XPathFault) → IsFit text ws → (e ≢ fault.Memory → (e ≡ fault.Syntax) × ((x : Expr) → ReadsWhole (terms_over tests ws) x → ⊥)) → e ≢ fault.Memory → IsFaultOver tests text e
  syntax_fault text ws e fit h some = let why = h some in subst (IsFaultOver tests text) (sym why.0) (unread fit why.1)
