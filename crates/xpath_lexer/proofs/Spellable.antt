-- Each text is spelled by some tokens, or by none.
use Rattle.std.proofs.Common.{◌≡◌, refl, sym, ◌∙◌, ap, subst, ℕ, zero, suc, ◌<◌, ◌≤◌, Bool, true, false, List, [], ◌∷◌, length, drop, Option, Some, None, arith, ◌⊎◌, inl, inr, length-drop}
use Rattle.text_base.specs.Text.{is_space4}
use Rattle.xpath_lexer.specs.Tokens.{Text, Lexeme, lexeme, Begun, Spells, token, ends, space, next}
use Rattle.xpath_lexer.specs.inner.Sizes.{Size, token_size}
use Rattle.xpath_lexer.proofs.Cuts.{Sound, token_right}
use Rattle.xpath_lexer.proofs.Extents.{cut, written}
use Rattle.xpath_lexer.proofs.Spelling.{after_space, after_token, none_begins}

pub record Spelled (text : Text) : Type 0 where
  pub lexemes : List Lexeme
  pub spells : Spells text lexemes

abbrev pub Unspelled : Text → Type 0
Unspelled text = (ws : List Lexeme) → Spells text ws → ⊥

-- what is left after a token is shorter
record Shorter (x : Text) (w : Lexeme) (left : Text) : Type 0 where
  less : length left < length x

second : (v w : Lexeme) (more left : Text) → ◌≡◌ {A = Begun} (Some (v, more)) (Some (w, left)) → more ≡ left
second v w more left h = let same : ◌≡◌ {A = Lexeme × Text} (v, more) (w, left) = cc in ap (λ (q : Lexeme × Text). q.1) same

shorter_at : (x : Text) (o : Option Size) (w : Lexeme) (left : Text) → Sound x o → ◌≡◌ {A = Begun} (cut x o) (Some (w, left)) → length left < length x
shorter_at x None w left h e = cc
shorter_at x (Some z) w left h e =
    let same : drop z.1 x ≡ left = second (lexeme z.0 (written z.0 z.1 x)) w (drop z.1 x) left e in
    let f = h.1 in
    subst (λ (v : Text). length v < length x) same (omega (arith, h.0, f.within, length-drop z.1 x))

shorter : (x : Text) (w : Lexeme) (left : Text) → token x ≡ Some (w, left) → length left < length x
shorter x w left e = let r = token_right x in shorter_at x (token_size x) w left r.fits (sym r.is ∙ e)

pub spelled_or_not : (n : ℕ) (text : Text) → length text ≤ n → Spelled text ⊎ Unspelled text
spelled_or_not n [] l = inl (record { lexemes = []; spells = ends })
spelled_or_not zero (b ∷ bs) l = absurd (omega arith)
spelled_or_not (suc n) (b ∷ bs) l = by_space (is_space4 b) refl (spelled_or_not n)
  where
    by_token : (o : Begun) → token (b ∷ bs) ≡ o → is_space4 b ≡ false → ((text : Text) → length text ≤ n → Spelled text ⊎ Unspelled text) → Spelled (b ∷ bs) ⊎ Unspelled (b ∷ bs)
    by_token None e h ih = inr (λ ws r. none_begins b bs refl h e r)
    by_token (Some p) e h ih = elim (ih p.1 (let less = shorter (b ∷ bs) p.0 p.1 e in omega arith)) [
      | inl s ↦ inl (record { lexemes = p.0 ∷ s.lexemes; spells = next e s.spells })
      | inr s ↦ inr (λ ws r. (let m = after_token p.0 p.1 e r in s m.tail m.spells))
    ]

    by_space : (v : Bool) → is_space4 b ≡ v → ((text : Text) → length text ≤ n → Spelled text ⊎ Unspelled text) → Spelled (b ∷ bs) ⊎ Unspelled (b ∷ bs)
    by_space true h ih = elim (ih bs (omega arith)) [
      | inl s ↦ inl (record { lexemes = s.lexemes; spells = space h s.spells })
      | inr s ↦ inr (λ ws r. s ws (after_space b bs h refl r))
    ]
    by_space false h ih = by_token (token (b ∷ bs)) refl h ih
