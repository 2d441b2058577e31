-- Whole numbers of printed texts.
use Rattle.std.proofs.Common.{◌≡◌, refl, ◌∙◌, ap, ℕ, ◌≤◌, ◌<◌, true, false, ◌||◌, [], ◌∷◌, ◌++◌, length, Some, arith, ◌==◌}
use Rattle.std.specs.Prelude.{pos, nat_le}
use Rattle.std.specs.List.{list_any, list_all}
use Rattle.std.specs.Fmt.{decimal}
use Rattle.std.proofs.lemmas.Bool.{and_parts, or_parts, or_from}
use Rattle.std.proofs.lemmas.Bool.Decides.{nat_tests}
use Rattle.xpath_lexer.specs.declared.token.XKind.TheVariants as k
use Rattle.text_base.specs.Names.{is_name_start, is_name_byte}
use Rattle.text_base.specs.Text.{is_digit, digits_value}
use Rattle.text_base.proofs.Decimals.{Digits, decimal_digits}
use Rattle.xpath_lexer.specs.Tokens.{Text, lexeme, span, with_fraction, ends_with, token, next}
use Rattle.xpath_parser.specs.declared.term.Term.TheVariants as t
use Rattle.xpath_parser.specs.Terms.{terms_after, number_term, is_operand}
use Rattle.css_printed.proofs.Spelling.{Apart}
use Rattle.css_printed.proofs.SpellFixed.{Puts}

-- ---- the token

digit_stops : (b : ℕ) → is_name_byte b ≡ false → (is_digit b ≡ false) × ((b == 46) ≡ false)
digit_stops b h =
    let p = or_parts (is_name_start b) (is_digit b || ((b == 45) || (b == 46))) h in
    let q = or_parts (is_digit b) ((b == 45) || (b == 46)) p.1 in
    (q.0, (or_parts (b == 45) (b == 46) q.1).1)

digits_all : (ds rest : Text) → list_all is_digit ds ≡ true → Apart rest → span is_digit (ds ++ rest) ≡ (ds, rest)
digits_all [] [] h a = refl
digits_all [] (b ∷ bs) h a = rw (digit_stops b a.0).0 refl
digits_all (c ∷ ds) rest h a = let p = and_parts (is_digit c) (list_all is_digit ds) h in rw (p.0, digits_all ds rest p.1 a) refl

whole_number : (ds rest : Text) → Apart rest → with_fraction ds rest ≡ ends_with k.Number ds rest
whole_number ds [] a = refl
whole_number ds (b ∷ bs) a = rw (digit_stops b a.0).1 refl

digit_no_name : (c : ℕ) → is_digit c ≡ true → is_name_start c ≡ false
digit_no_name c h = grind (arith, nat_tests)

number_token : (ds rest : Text) → 0 < length ds → list_all is_digit ds ≡ true → Apart rest → token (ds ++ rest) ≡ Some (lexeme k.Number ds, rest)
number_token [] rest l h a = absurd (omega arith)
number_token (c ∷ ds) rest l h a =
    let p = and_parts (is_digit c) (list_all is_digit ds) h in
    rw (digit_no_name c p.0, p.0, digits_all ds rest p.1 a) (whole_number (c ∷ ds) rest a)

digit_no_point : (c : ℕ) → is_digit c ≡ true → (c == 46) ≡ false
digit_no_point c h = grind (arith, nat_tests)

no_point : (ds : Text) → list_all is_digit ds ≡ true → list_any (λ b. b == 46) ds ≡ false
no_point [] h = refl
no_point (c ∷ ds) h = let p = and_parts (is_digit c) (list_all is_digit ds) h in or_from _ _ (digit_no_point c p.0) (no_point ds p.1)

exact_term : (ds : Text) (n : ℕ) → list_any (λ b. b == 46) ds ≡ false → digits_value ds ≡ n → nat_le n 9007199254740991 ≡ true → number_term ds ≡ t.Number (pos n)
exact_term ds n p v le = rw (p, v, le) refl

-- a whole number that XPath counts exactly
pub number_puts : (r n : ℕ) → n ≤ 9007199254740991 → Puts r false r true (decimal n) (t.Number (pos n) ∷ [])
number_puts r n le rest us short b =
    let d : Digits n (decimal n) = decimal_digits n (omega arith) in
    let small : nat_le n 9007199254740991 ≡ true = grind (arith, nat_tests) in
    record {
      lexemes = lexeme k.Number (decimal n) ∷ b.spoken.lexemes;
      spelled = next (number_token (decimal n) rest d.some d.digits b.apart) b.spoken.spelled;
      terms_are = ap (λ v. v ∷ terms_after (is_operand v) b.spoken.lexemes) (exact_term (decimal n) n (no_point (decimal n) d.digits) d.value small)
          ∙ ap (λ v. t.Number (pos n) ∷ v) b.spoken.terms_are;
      accepted = b.spoken.accepted;
      fits = b.spoken.fits;
    }
