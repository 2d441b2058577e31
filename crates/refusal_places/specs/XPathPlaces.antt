-- The place at which an XPath text is refused.
use Rattle.std.specs.Prelude.{ℕ, List, [], ◌∷◌, ◌++◌, drop, codes}
use Rattle.std.specs.List.{fold, Any}
use Rattle.text_base.specs.Text.{is_space4}
use Rattle.test_registry.specs.Names.{Known}
use Rattle.xpath_lexer.specs.declared.token.XKind.{XKind}
use Rattle.xpath_lexer.specs.declared.token.XKind.TheVariants as kind
use Rattle.xpath_lexer.specs.Tokens.{Lexeme, Spells}
use Rattle.xpath_parser.specs.declared.expression.Expr.{Expr}
use Rattle.xpath_parser.specs.Reading.{ReadsOver}
use Rattle.refusal_places.specs.Beginnings.{IsPlaceOf}

-- Behind a token, what closes the brackets that are open, innermost first: `)` for each `(` and `]` for each `[`. A bracket that
-- closes takes the innermost.
abbrev pub open_after : List ℕ → XKind → List ℕ
open_after ends kind.OpenRound = 41 ∷ ends
open_after ends kind.OpenSquare = 93 ∷ ends
open_after ends kind.CloseRound = drop 1 ends
open_after ends kind.CloseSquare = drop 1 ends
open_after ends _ = ends

-- what closes the brackets that are open after the tokens
abbrev pub closers : List Lexeme → List ℕ
closers lexemes = fold (λ ends w. open_after ends w.kind) [] lexemes

-- what may follow a beginning that goes on, before what closes its brackets
unfoldable pub endings : List (List ℕ)
endings =
    [] ∷ codes "a" ∷ codes " a" ∷ codes "=a" ∷ codes ":a" ∷ codes "a,a" ∷ codes "a,a,a" ∷ codes ",a" ∷ codes ",a,a"
    ∷ codes "\"" ∷ codes "'" ∷ codes "\",a" ∷ codes "',a" ∷ codes "\",a,a" ∷ codes "',a,a" ∷ []

-- the beginning with the ending has tokens, and reads as an expression over the stored tests once its brackets are closed
pub record GoesOnBy (tests : Known) (beginning ending : List ℕ) : Type 0 where
  pub lexemes : List Lexeme
  pub spelled : Spells (beginning ++ ending) lexemes
  pub expression : Expr
  pub reads : ReadsOver tests ((beginning ++ ending) ++ closers lexemes) expression

-- with one of the endings it is so
abbrev pub GoesOn : Known → List ℕ → Type 0
GoesOn tests beginning = Any (GoesOnBy tests beginning) endings

-- The text is refused at the place: up to there, but for white space, stands the longest beginning that goes on.
abbrev pub IsXPathPlace : Known → List ℕ → ℕ → Type 0
IsXPathPlace tests text place = IsPlaceOf (GoesOn tests) is_space4 text place
