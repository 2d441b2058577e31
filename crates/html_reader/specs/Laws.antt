-- What holds of all lists of tokens.
use Rattle.std.specs.Prelude.{◌≡◌, Bool, List, ◌∷◌, ◌++◌, Option, Some, None}
use Rattle.text_base.specs.declared.reasons.PageReason.{PageReason}
use Rattle.doc_model.specs.Document.{Document}
use Rattle.html_reader.specs.Tokens.{Tok}
use Rattle.html_reader.specs.Reading.{Builds, Refuses}

-- tokens build one document at most
abbrev pub OneDocument : Type 0
OneDocument = (made : Bool) (tokens : List Tok) (doc other : Document) → Builds made tokens doc → Builds made tokens other → doc ≡ other

-- where a token, or the end, is refused, the tokens build no document
abbrev pub NeverBoth : Type 0
NeverBoth =
    ((made : Bool) (before ts : List Tok) (t : Tok) (reason : PageReason) (doc : Document) → Refuses made before (Some t) reason → Builds made (before ++ t ∷ ts) doc → ⊥)
    × ((made : Bool) (tokens : List Tok) (reason : PageReason) (doc : Document) → Refuses made tokens None reason → Builds made tokens doc → ⊥)

-- a token, or the end, is refused for one reason, and after a refused token none is refused
abbrev pub OneFault : Type 0
OneFault =
    ((made : Bool) (before : List Tok) (next : Option Tok) (a b : PageReason) → Refuses made before next a → Refuses made before next b → a ≡ b)
    × ((made : Bool) (before ts : List Tok) (t : Tok) (next : Option Tok) (a b : PageReason) → Refuses made before (Some t) a → Refuses made (before ++ t ∷ ts) next b → ⊥)
