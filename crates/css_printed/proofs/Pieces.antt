-- The printed names and slashes as terms.
use Rattle.std.proofs.Common.{◌≡◌, refl, sym, ◌∙◌, ap, subst, ℕ, true, false, List, [], ◌∷◌, ◌++◌, Some, codes, ◌==◌}
use Rattle.std.specs.Str.{chars}
use Rattle.css_selectors.specs.declared.selector.Dialect.{Dialect}
use Rattle.css_meaning.specs.Names.{folded}
use Rattle.xpath_lexer.specs.declared.token.XKind.TheVariants as k
use Rattle.xpath_lexer.specs.Tokens.{Text, lexeme, token, next}
use Rattle.xpath_parser.specs.declared.term.Term.{Term}
use Rattle.xpath_parser.specs.declared.term.Term.TheVariants as t
use Rattle.css_printed.specs.Names.{is_plain, name_bytes}
use Rattle.css_printed.proofs.PlainNames.{plain_start, plain_rest, plain_bytes, plain_chars}
use Rattle.css_printed.proofs.Spelling.{Spoken, Behind, name_spoken}

-- The piece, which may begin an operand, puts these terms in front of what stands behind it.
abbrev pub Says : ℕ → Text → List Term → Type 0
Says room piece ts = (rest : Text) (us : List Term) → Behind room rest us → Spoken room false (piece ++ rest) (ts ++ us)

plain_says : (room : ℕ) (m : Text) → is_plain m ≡ true → Says room m (t.Name (chars m) ∷ [])
plain_says room [] h rest us b = cc
plain_says room (c ∷ m) h rest us b = name_spoken c m (plain_start c m h) (plain_rest c m h) b

-- a plain name
pub name_says : (room : ℕ) (d : Dialect) (n : List ℕ) → is_plain (folded d n) ≡ true → Says room (name_bytes d n) (t.Name (folded d n) ∷ [])
name_says room d n h =
    let P : Text → Type 0 = λ m. Says room m (t.Name (folded d n) ∷ []) in
    let Q : Text → Type 0 = λ m. Says room (folded d n) (t.Name m ∷ []) in
    subst P (sym (plain_bytes d n h)) (subst Q (sym (ap chars (plain_bytes d n h)) ∙ plain_chars d n h) (plain_says room (folded d n) h))

-- no `/` follows a `/`
abbrev pub NoSlash : Text → Type 0
NoSlash [] = Unit {0}
NoSlash (b ∷ bs) = (b == 47) ≡ false

slash_token : (bs : Text) → NoSlash bs → token (47 ∷ bs) ≡ Some (lexeme k.Slash (codes "/"), bs)
slash_token [] h = refl
slash_token (b ∷ bs) h = rw h refl

pub slash : (room : ℕ) {bs : Text} {us : List Term} → NoSlash bs → Spoken room false bs us → Behind room (codes "/" ++ bs) (t.Slash ∷ us)
slash room {bs} h s = record {
  spoken = record {
    lexemes = lexeme k.Slash (codes "/") ∷ s.lexemes;
    spelled = next (slash_token bs h) s.spelled;
    terms_are = ap (λ v. t.Slash ∷ v) s.terms_are;
    accepted = s.accepted;
    fits = s.fits;
  };
  apart = (refl, refl);
  free = λ w. refl;
}
