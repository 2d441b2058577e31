-- The document that a page builds, and the fault for which it is refused.
use Rattle.std.specs.Prelude.{◌≡◌, ℕ, ◌≤◌, Bool, List, [], ◌∷◌, length, Option, Some, None, ◌⊎◌}
use Rattle.std.specs.Str.{str_to_ascii_lowercase}
use Rattle.text_base.specs.declared.reasons.PageFault.{PageFault}
use Rattle.text_base.specs.declared.reasons.PageReason.{PageReason}
use Rattle.text_base.specs.declared.reasons.PageReason.TheVariants.{Memory}
use Rattle.doc_model.specs.Document.{Document}
use Rattle.html_lexer.specs.Tokens.{Tok as Lexed, start_tok, end_tok, text_tok, comment_tok, doctype_tok, name_after, last_name}
use Rattle.html_lexer.specs.Lexing.{Begins, Lexes, LexFault}
use Rattle.html_lexer.specs.Attributes.{Writes}
use Rattle.html_reader.specs.Tokens.{Tok, starts, ends, holds, text, comment, doctype}
use Rattle.html_reader.specs.Contents.{kept, content}
use Rattle.html_reader.specs.Places.{Place, place_marks, open_tags, root_at}
use Rattle.html_reader.specs.Words.{tokens_of, IsFull}
use Rattle.html_reader.specs.Reading.{Builds, RefusesNext, is_fragment}
use Rattle.html_lexer.specs.Steps.{StepAt}
use Rattle.html_lexer.specs.declared.steps.Step.TheVariants.{Fails}

-- no memory was found
abbrev pub IsMemory : PageFault → Type 0
IsMemory fault = (fault.reason ≡ Memory) × (fault.at ≡ 0)

-- What the tree takes of a token, as the page writes it. `before` is the name of the start tag directly before it, and
-- [] where no start tag stands there.
abbrev pub Means : List ℕ → Lexed → Tok → Type 0
Means before (start_tok from to name attrs slash) t =
    (written : List (List ℕ × List ℕ)) × Writes attrs 0 written × (t ≡ starts (record { name = str_to_ascii_lowercase name; attrs = kept written; slash = slash }))
Means before (end_tok from to name) t = t ≡ ends (str_to_ascii_lowercase name)
Means before (text_tok from to raw refs) t = t ≡ holds (text (content before raw refs))
Means before (comment_tok from to body) t = t ≡ holds (comment body)
Means before (doctype_tok from to) t = t ≡ holds doctype

-- one by one
abbrev pub AllMean : List ℕ → List Lexed → List Tok → Type 0
AllMean before [] [] = Unit {0}
AllMean before [] (t ∷ ts) = ⊥
AllMean before (x ∷ xs) [] = ⊥
AllMean before (x ∷ xs) (t ∷ ts) = Means before x t × AllMean (name_after x) xs ts

-- these tokens spell the page up to a place
pub record Spells (page : List ℕ) (at : ℕ) (tokens : List Tok) : Type 0 where
  pub read : List Lexed
  pub lexed : Lexes page at read
  pub meant : AllMean [] read tokens

-- the tokens spell the whole page, none of them is refused, nor is the end, and these are the rows
pub record BuildsPage (page : List ℕ) (doc : Document) : Type 0 where
  pub tokens : List Tok
  pub spelled : Spells page (length page) tokens
  pub builds : Builds (is_fragment tokens) tokens doc

-- what stands after the tokens of a page: nothing, or markup that is refused
abbrev pub Stops : List ℕ → List ℕ → ℕ → Type 0
Stops page before at = (at ≡ length page) ⊎ ((reason : PageReason) × StepAt page before at (Fails reason))

-- all tokens of a page, or those before its markup is refused
pub record Whole (page : List ℕ) : Type 0 where
  pub tokens : List Tok
  pub at : ℕ
  pub spelled : Spells page at tokens
  pub stops : Stops page (last_name [] spelled.read) at

-- whether the page gets a root
pub record IsMade (page : List ℕ) (made : Bool) : Type 0 where
  pub whole : Whole page
  pub is : is_fragment whole.tokens ≡ made

-- A token, or the end of the page, is refused by the table of refusals. Before it stand these tokens with the ends
-- that are inserted.
pub record IsRefused (made : Bool) (before : List Tok) (next : Option Tok) (reason : PageReason) : Type 0 where
  pub place : Place
  pub spelled : tokens_of (place_marks place) ≡ before
  pub full : IsFull (place_marks place) next
  pub refused : RefusesNext (open_tags place) (root_at made place) next reason

-- what begins at a place: a token, or the end of the page
abbrev pub Comes : List ℕ → List ℕ → ℕ → Option Tok → Type 0
Comes page before at None = at ≡ length page
Comes page before at (Some t) = (x : Lexed) × Begins page before at x × Means before x t

-- a token that begins at the place is refused, or the end, whose place is the page's length
pub record IsTreeFault (page : List ℕ) (reason : PageReason) (at : ℕ) : Type 0 where
  pub before : List Tok
  pub spelled : Spells page at before
  pub next : Option Tok
  pub comes : Comes page (last_name [] spelled.read) at next
  pub made : Bool
  pub gets_root : IsMade page made
  pub refused : IsRefused made before next reason

-- something is refused at the place, as markup or by the tree
abbrev pub IsFault : List ℕ → PageReason → ℕ → Type 0
IsFault page reason at = LexFault page reason at ⊎ IsTreeFault page reason at

-- the fault with the smallest place, and at one place that of the markup first
pub record IsPageFault (page : List ℕ) (reason : PageReason) (at : ℕ) : Type 0 where
  pub fault : IsFault page reason at
  pub first : (other : PageReason) (place : ℕ) → IsFault page other place → at ≤ place
  pub markup : (other : PageReason) → LexFault page other at → reason ≡ other
