-- Printed pieces from the right: what stands behind a piece is spelled already.
use Rattle.std.proofs.Common.{◌≡◌, refl, ◌∙◌, ap, ℕ, Bool, true, false, List, [], ◌∷◌, ◌++◌, Some, ◌==◌}
use Rattle.std.specs.List.{list_all, list_any}
use Rattle.std.specs.Str.{chars}
use Rattle.std.proofs.lemmas.Bool.{and_parts}
use Rattle.xpath_lexer.specs.declared.token.XKind.TheVariants as k
use Rattle.text_base.specs.Names.{is_name_start, is_name_byte}
use Rattle.xpath_lexer.specs.Tokens.{Text, Lexeme, lexeme, span, with_star, ends_with, token, Spells, ends, next}
use Rattle.xpath_parser.specs.declared.term.Term.{Term}
use Rattle.xpath_parser.specs.declared.term.Term.TheVariants as t
use Rattle.xpath_parser.specs.Terms.{terms_after, next_kind, name_term, is_refused, is_operand}
use Rattle.css_printed.proofs.Rooms.{Fits}

-- The text is spelled by tokens that are these terms, where a token that is an operand stands before it or not. None is refused,
-- and there is room for its brackets.
pub record Spoken (room : ℕ) (after : Bool) (text : Text) (ts : List Term) : Type 0 where
  pub lexemes : List Lexeme
  pub spelled : Spells text lexemes
  pub terms_are : terms_after after lexemes ≡ ts
  pub accepted : list_any is_refused ts ≡ false
  pub fits : Fits lexemes room

-- a text whose first byte goes on no name and is no colon
abbrev pub Apart : Text → Type 0
Apart [] = Unit {0}
Apart (b ∷ bs) = (is_name_byte b ≡ false) × ((b == 58) ≡ false)

-- What may stand behind a name and every other operand.
pub record Behind (room : ℕ) (text : Text) (ts : List Term) : Type 0 where
  pub spoken : Spoken room true text ts
  pub apart : Apart text
  pub free : (w : Text) → name_term (next_kind spoken.lexemes) w ≡ t.Name (chars w)

-- the end of the text
pub nothing : (room : ℕ) → Behind room [] []
nothing room = record {
  spoken = record { lexemes = []; spelled = ends; terms_are = refl; accepted = refl; fits = tt };
  apart = tt;
  free = λ w. refl;
}

span_all : (n bs : Text) → list_all is_name_byte n ≡ true → Apart bs → span is_name_byte (n ++ bs) ≡ (n, bs)
span_all [] [] h a = refl
span_all [] (b ∷ bs) h a = rw a.0 refl
span_all (c ∷ n) bs h a = let p = and_parts (is_name_byte c) (list_all is_name_byte n) h in rw (p.0, span_all n bs p.1 a) refl

whole_name : (n bs : Text) → Apart bs → with_star n bs ≡ ends_with k.Name n bs
whole_name n [] a = refl
whole_name n (b ∷ []) a = refl
whole_name n (b ∷ c ∷ bs) a = rw a.1 refl

-- a name
pub name_token : (c : ℕ) (n bs : Text) → is_name_start c ≡ true → list_all is_name_byte n ≡ true → Apart bs → token (c ∷ (n ++ bs)) ≡ Some (lexeme k.Name (c ∷ n), bs)
name_token c n bs s h a = rw (s, span_all n bs h a) (whole_name (c ∷ n) bs a)

pub name_spoken : {room : ℕ} {bs : Text} {ts : List Term} (c : ℕ) (n : Text) → is_name_start c ≡ true → list_all is_name_byte n ≡ true → Behind room bs ts
    → Spoken room false (c ∷ (n ++ bs)) (t.Name (chars (c ∷ n)) ∷ ts)
name_spoken {bs = bs} {ts = ts} c n s h b = record {
  lexemes = lexeme k.Name (c ∷ n) ∷ b.spoken.lexemes;
  spelled = next (name_token c n bs s h b.apart) b.spoken.spelled;
  terms_are =
      ap (λ x. x ∷ terms_after (is_operand x) b.spoken.lexemes) (b.free (c ∷ n)) ∙ ap (λ v. t.Name (chars (c ∷ n)) ∷ v) b.spoken.terms_are;
  accepted = b.spoken.accepted;
  fits = b.spoken.fits;
}
