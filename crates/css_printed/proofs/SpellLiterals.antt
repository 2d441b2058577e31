-- Literals of printed texts, and what they stand for.
use Rattle.std.proofs.Common.{◌≡◌, refl, sym, ◌∙◌, ap, subst, ℕ, suc, ◌≤◌, ◌<◌, Bool, true, false, ◌&&◌, ◌||◌, cond, List, [], ◌∷◌, ◌++◌, map, length, length-append, Some, codes, append_assoc, arith, ◌==◌, encode_utf8_all, inl, inr}
use Rattle.std.specs.Prelude.{not}
use Rattle.std.specs.List.{list_any}
use Rattle.std.proofs.lemmas.Bool.{and_parts, and_from, or_parts, or_cases, eqb-true, not-true}
use Rattle.std.proofs.lemmas.Str.{chars-encodes}
use lib.Utf8.{scalar, scalars}
use Rattle.xpath_lexer.specs.declared.token.XKind.TheVariants as k
use Rattle.xpath_lexer.specs.Tokens.{Text, lexeme, before_quote, token, next, literal as literal_begun}
use Rattle.xpath_parser.specs.declared.term.Term.TheVariants as t
use Rattle.xpath_parser.specs.Terms.{terms_after, axis_names, function_names, node_type_names, operator_names}
use Rattle.css_printed.specs.Literals.{is_apostrophe, is_double, Quoted, quoted_runs, literal_parts, quoted, listed, shown, literal_text}
use Rattle.css_selectors.specs.Texts.{IsText}
use Rattle.css_printed.proofs.LiteralBytes.{in_bytes, parts_bytes}
use Rattle.css_printed.proofs.LiteralParts.{value, has_quote, are_closed, literal_value, literal_closed, two_parts}
use Rattle.css_printed.proofs.SpellFixed.{Puts, Piece, ◌⨾◌, fix}
use Rattle.css_printed.proofs.TemplateTerms as terms

-- ---- one between its quotes

up_to_quote : (q : ℕ) (x rest : Text) → has_quote q x ≡ false → before_quote q (x ++ (q ∷ rest)) ≡ Some (x, rest)
up_to_quote q [] rest h = let same : (q == q) ≡ true = grind arith in rw same refl
up_to_quote q (b ∷ x) rest h = let p = or_parts (b == q) (has_quote q x) h in rw (p.0, up_to_quote q x rest p.1) refl

quote_token : (q : ℕ) (x rest : Text) → ((q == 39) || (q == 34)) ≡ true → has_quote q x ≡ false → token (q ∷ (x ++ (q ∷ rest))) ≡ Some (lexeme k.Literal x, rest)
quote_token q x rest h c =
    let P : ℕ → Type 0 = λ n. has_quote n x ≡ false → token (n ∷ (x ++ (n ∷ rest))) ≡ Some (lexeme k.Literal x, rest) in
    elim (or_cases (q == 39) (q == 34) h) [
      | inl e ↦ subst P (sym (eqb-true q 39 e)) (λ d. ap literal_begun (up_to_quote 39 x rest d)) c
      | inr e ↦ subst P (sym (eqb-true q 34 e)) (λ d. ap literal_begun (up_to_quote 34 x rest d)) c
    ]

-- written between its quote, which it does not hold
abbrev is_closed : Quoted → Bool
is_closed q = ((q.quote == 39) || (q.quote == 34)) && not (has_quote q.quote q.content)

quoted_token : (q : Quoted) (rest : Text) → is_closed q ≡ true → token (quoted q ++ rest) ≡ Some (lexeme k.Literal q.content, rest)
quoted_token q rest h =
    let p = and_parts ((q.quote == 39) || (q.quote == 34)) (not (has_quote q.quote q.content)) h in
    ap (λ z. token (q.quote ∷ z)) (append_assoc q.content (q.quote ∷ []) rest) ∙ quote_token q.quote q.content rest p.0 (not-true _ p.1)

quoted_puts : (r : ℕ) (q : Quoted) → IsText q.content → is_closed (in_bytes q) ≡ true → Puts r false r true (quoted (in_bytes q)) (t.Literal q.content ∷ [])
quoted_puts r q valid h rest us short b = record {
  lexemes = lexeme k.Literal (encode_utf8_all q.content) ∷ b.spoken.lexemes;
  spelled = next (quoted_token (in_bytes q) rest h) b.spoken.spelled;
  terms_are = ap (λ v. t.Literal v ∷ terms_after true b.spoken.lexemes) (chars-encodes q.content valid) ∙ ap (λ v. t.Literal q.content ∷ v) b.spoken.terms_are;
  accepted = b.spoken.accepted;
  fits = b.spoken.fits;
}

-- ---- several

front_valid : (x y : Text) → scalars (x ++ y) ≡ true → (scalars x ≡ true) × (scalars y ≡ true)
front_valid [] y h = (refl, h)
front_valid (c ∷ x) y h =
    let p = and_parts (scalar c) (scalars (x ++ y)) h in let q = front_valid x y p.1 in (and_from (scalar c) (scalars x) p.0 q.0, q.1)

listed_puts : (r : ℕ) (q : Quoted) (qs : List Quoted) → scalars (value (q ∷ qs)) ≡ true → are_closed (map in_bytes (q ∷ qs)) ≡ true
    → Puts r false r true (listed (map in_bytes (q ∷ qs))) (terms.listed (q ∷ qs))
listed_puts r q [] v h = quoted_puts r q (front_valid q.content [] v).0 (and_parts (is_closed (in_bytes q)) true h).0
listed_puts r q (s ∷ qs) v h =
    let valid = front_valid q.content (value (s ∷ qs)) v in
    let closed = and_parts (is_closed (in_bytes q)) (are_closed (map in_bytes (s ∷ qs))) h in
    let one : Piece r false r true = record { text = quoted (in_bytes q); terms = t.Literal q.content ∷ []; puts = quoted_puts r q valid.0 closed.0 } in
    let more : Piece r false r true = record { text = listed (map in_bytes (s ∷ qs)); terms = terms.listed (s ∷ qs); puts = listed_puts r s qs valid.1 closed.1 } in
    let all : Piece r false r true = one ⨾ fix (codes ", ") (λ rest. refl) refl ⨾ more in all.puts

shown_puts : (r : ℕ) (qs : List Quoted) → 0 < length qs → scalars (value qs) ≡ true → are_closed (map in_bytes qs) ≡ true
    → Puts (suc r) false (suc r) true (shown (map in_bytes qs)) (terms.shown qs)
unfolding axis_names function_names node_type_names operator_names
shown_puts r [] l v h = absurd (omega arith)
shown_puts r (q ∷ []) l v h = listed_puts (suc r) q [] v h
shown_puts r (q ∷ (s ∷ qs)) l v h =
    let inner : Piece r false r true = record { text = listed (map in_bytes (q ∷ (s ∷ qs))); terms = terms.listed (q ∷ (s ∷ qs)); puts = listed_puts r q (s ∷ qs) v h } in
    let all : Piece (suc r) false (suc r) true = fix (codes "concat(") (λ rest. refl) refl ⨾ inner ⨾ fix (codes ")") (λ rest. refl) refl in all.puts

choice_some : (a d : Bool) (x : Text) (ps : List Quoted) → (a ≡ true → d ≡ true → 2 ≤ length ps)
    → 0 < length (cond a (cond d ps (record { quote = 34; content = x } ∷ [])) (record { quote = 39; content = x } ∷ []))
choice_some true true x ps f = omega (arith, f refl refl)
choice_some true false x ps f = omega arith
choice_some false d x ps f = omega arith

some_part : (x : Text) → 0 < length (literal_parts x)
some_part x = choice_some (list_any is_apostrophe x) (list_any is_double x) x (quoted_runs x) (two_parts x)

-- the literal of a text
pub literal_puts : (r : ℕ) (x : List ℕ) → IsText x → Puts (suc r) false (suc r) true (literal_text (encode_utf8_all x)) (terms.literal x)
literal_puts r x valid =
    let P : List Quoted → Type 0 = λ qs. Puts (suc r) false (suc r) true (shown qs) (terms.literal x) in
    let Q : List Quoted → Type 0 = λ qs. are_closed qs ≡ true in
    subst P (sym (parts_bytes x)) (shown_puts r (literal_parts x) (some_part x) (ap scalars (literal_value x) ∙ valid)
    (subst Q (parts_bytes x) (literal_closed (encode_utf8_all x))))

-- ---- lengths

quoted_long : (q : Quoted) → length q.content ≤ length (quoted q)
quoted_long q = omega (arith, length-append q.content (q.quote ∷ []))

listed_long : (qs : List Quoted) → length (value qs) ≤ length (listed qs)
listed_long [] = omega arith
listed_long (q ∷ []) = omega (arith, length-append q.content [], quoted_long q)
listed_long (q ∷ (s ∷ qs)) =
    omega (arith, listed_long (s ∷ qs), quoted_long q, length-append q.content (value (s ∷ qs)), length-append (quoted q) (codes ", " ++ listed (s ∷ qs)))

shown_long : (qs : List Quoted) → length (value qs) ≤ length (shown qs)
shown_long [] = omega arith
shown_long (q ∷ []) = listed_long (q ∷ [])
shown_long (q ∷ (s ∷ qs)) = omega (arith, listed_long (q ∷ (s ∷ qs)), length-append (listed (q ∷ (s ∷ qs))) (codes ")"))

-- a literal is no shorter than what it stands for
pub literal_long : (x : Text) → length x ≤ length (literal_text x)
literal_long x = let P : Text → Type 0 = λ v. length v ≤ length (literal_text x) in subst P (literal_value x) (shown_long (literal_parts x))
