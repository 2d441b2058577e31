-- The place at which a selector is refused.
use Rattle.std.specs.Prelude.{ℕ, List, [], ◌∷◌, ◌++◌, drop, codes}
use Rattle.std.specs.List.{fold, Any}
use Rattle.text_base.specs.Text.{is_space5}
use Rattle.css_lexer.specs.declared.tokens.CssKind.{CssKind}
use Rattle.css_lexer.specs.declared.tokens.CssKind.TheVariants as kind
use Rattle.css_lexer.specs.declared.tokens.CssToken.{CssToken}
use Rattle.css_lexer.specs.Tokens.{Lexes}
use Rattle.css_selectors.specs.declared.selector.SelectorList.{SelectorList}
use Rattle.css_parser.specs.Selecting.{Accepts}
use Rattle.refusal_places.specs.Beginnings.{IsPlaceOf}

-- Behind a token, what closes the brackets that are open, innermost first: `)` for each Function and `]` for each `[`. A bracket
-- that closes takes the innermost.
abbrev pub open_after : List ℕ → CssKind → List ℕ
open_after ends kind.Function = 41 ∷ ends
open_after ends kind.OpenSquare = 93 ∷ ends
open_after ends kind.CloseRound = drop 1 ends
open_after ends kind.CloseSquare = drop 1 ends
open_after ends _ = ends

-- what closes the brackets that are open after the tokens
abbrev pub closers : List CssToken → List ℕ
closers tokens = fold (λ ends t. open_after ends t.kind) [] tokens

-- what may follow a beginning that goes on, before what closes its brackets
unfoldable pub endings : List (List ℕ)
endings =
    [] ∷ codes "a" ∷ codes "1" ∷ codes "\"" ∷ codes "'" ∷ codes "=a" ∷ codes "(a" ∷ codes "(1" ∷ codes "not(a" ∷ codes "text"
    ∷ codes "*/" ∷ codes "*/a" ∷ []

-- the beginning with the ending has tokens, and is accepted once its brackets are closed
pub record GoesOnBy (beginning ending : List ℕ) : Type 0 where
  pub tokens : List CssToken
  pub spelled : Lexes (beginning ++ ending) tokens
  pub list : SelectorList
  pub accepted : Accepts ((beginning ++ ending) ++ closers tokens) list

-- with one of the endings it is so
abbrev pub GoesOn : List ℕ → Type 0
GoesOn beginning = Any (GoesOnBy beginning) endings

-- The text is refused at the place: up to there, but for white space, stands the longest beginning that goes on.
abbrev pub IsSelectorPlace : List ℕ → ℕ → Type 0
IsSelectorPlace text place = IsPlaceOf GoesOn is_space5 text place
