-- The tokens that a page spells.
use Rattle.std.specs.Prelude.{◌≡◌, ℕ, List, [], ◌∷◌, Option, Some, None, Result, Ok, Err, length}
use Rattle.text_base.specs.declared.reasons.PageFault.{PageFault}
use Rattle.text_base.specs.declared.reasons.PageReason.{PageReason}
use Rattle.html_lexer.specs.declared.steps.TokenAt.{TokenAt}
use Rattle.html_lexer.specs.declared.steps.Step.TheVariants.{Gives, Fails}
use Rattle.html_lexer.specs.declared.lexer.Token.{Token}
use Rattle.html_lexer.specs.Steps.{StepAt}
use Rattle.html_lexer.specs.State.{Reading}
use Rattle.html_lexer.specs.Tokens.{Tok, view, tok_at, end_of, name_after, last_name}

-- the token begins at i, after a start tag of this name or, where the name is empty, after another token
abbrev pub Begins : List ℕ → List ℕ → ℕ → Tok → Type 0
Begins text name i t = (parts : TokenAt) × StepAt text name i (Gives parts) × (t ≡ tok_at text i parts)

-- these tokens spell the text from i up to j, each where the one before it ends
abbrev pub Spell : List ℕ → List ℕ → ℕ → List Tok → ℕ → Type 0
Spell text name i [] j = i ≡ j
Spell text name i (t ∷ ts) j = Begins text name i t × Spell text (name_after t) (end_of t) ts j

-- these tokens spell the first n bytes of the text
abbrev pub Lexes : List ℕ → ℕ → List Tok → Type 0
Lexes text n tokens = Spell text [] 0 tokens n

-- tokens spell the text up to a place, at which one begins that is refused for this reason
abbrev pub LexFault : List ℕ → PageReason → ℕ → Type 0
LexFault text reason at = (tokens : List Tok) × Lexes text at tokens × StepAt text (last_name [] tokens) at (Fails reason)

-- a lexer has read tokens that spell the text up to its place
pub record HasRead (r : Reading) : Type 0 where
  pub tokens : List Tok
  pub spelled : Lexes r.text r.at tokens
  pub named : r.name ≡ last_name [] tokens

-- A call of `next` gives the token at the place, and goes on to its end.
abbrev pub GivesToken : Reading → Token → Reading → Type 0
GivesToken old t new = Begins old.text old.name old.at (view t) × (new ≡ record { text = old.text; at = end_of (view t); name = name_after (view t) })

-- What a call of `next` does. At the end, and at a fault, it stays, so that the next call does the same.
abbrev pub IsNext : Reading → Result (Option Token) PageFault → Reading → Type 0
IsNext old (Ok None) new = (old.at ≡ length old.text) × (new ≡ old)
IsNext old (Ok (Some t)) new = GivesToken old t new
IsNext old (Err fault) new = StepAt old.text old.name old.at (Fails fault.reason) × (fault.at ≡ old.at) × (new ≡ old)

-- the tokens of the whole text, or its fault
abbrev pub IsWhole : List ℕ → Option PageFault → Type 0
IsWhole text None = (tokens : List Tok) × Lexes text (length text) tokens
IsWhole text (Some fault) = LexFault text fault.reason fault.at
