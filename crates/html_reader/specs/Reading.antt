-- The document that tokens build, or their fault.
use Rattle.std.specs.Prelude.{◌≡◌, ◌≢◌, ℕ, List, [], ◌∷◌, length, Bool, true, false, Option, Some, None, not, codes}
use Rattle.std.specs.Str.{bytes_eq}
use Rattle.text_base.specs.declared.reasons.PageReason.{PageReason}
use Rattle.text_base.specs.declared.reasons.PageReason.TheVariants.{NoRoot, Unclosed, SecondRoot, Deep, StrayEnd, TextOutside}
use Rattle.html_reader.specs.Tokens.{Tag, Tok, starts, ends, holds}
use Rattle.html_reader.specs.Forest.{is_white_leaf}
use Rattle.doc_model.specs.Document.{Row}
use Rattle.html_reader.specs.Places.{Place, place_marks, open_tags, is_some, root_at, place_grown, all_rows, most_open, Fits}
use Rattle.html_reader.specs.declared.reader.Root.{Root}
use Rattle.html_reader.specs.Words.{tokens_of, IsFull}

-- These tokens, none of them refused, lead to this place, where `next` comes. The root is made or not.
pub record Leads (made : Bool) (tokens : List Tok) (next : Option Tok) (place : Place) : Type 0 where
  pub spelled : tokens_of (place_marks place) ≡ tokens
  pub full : IsFull (place_marks place) next
  pub fits : Fits made place

-- the innermost open tag, if there is one, has another name
abbrev pub Strays : List Tag → List ℕ → Type 0
Strays [] name = Unit {0}
Strays (tag ∷ before) name = tag.name ≢ name

-- with these tags open, and this known of the root, the next token, or the end, is refused
abbrev pub RefusesNext : List Tag → Root → Option Tok → PageReason → Type 0
RefusesNext tags rooted (Some (starts tag)) SecondRoot = (rooted.made ≡ false) × (tags ≡ []) × (rooted.some ≡ true)
RefusesNext tags rooted (Some (starts tag)) Deep = length tags ≡ most_open rooted.made
RefusesNext tags rooted (Some (ends name)) StrayEnd = Strays tags name
RefusesNext tags rooted (Some (holds leaf)) TextOutside = (rooted.made ≡ false) × (tags ≡ []) × (is_white_leaf leaf ≡ false)
RefusesNext tags rooted None Unclosed = tags ≢ []
RefusesNext tags rooted None NoRoot = (tags ≡ []) × (rooted.some ≡ false)
RefusesNext tags rooted next reason = ⊥

-- after these tokens the next one, or the end, is the first that is refused
pub record Refuses (made : Bool) (before : List Tok) (next : Option Tok) (reason : PageReason) : Type 0 where
  pub place : Place
  pub leads : Leads made before next place
  pub refused : RefusesNext (open_tags place) (root_at made place) next reason

-- none of the tokens is refused, nor is the end, and these are the rows
pub record Builds (made : Bool) (tokens : List Tok) (rows : List Row) : Type 0 where
  pub place : Place
  pub leads : Leads made tokens None place
  pub closed : open_tags place ≡ []
  pub rooted : is_some made place ≡ true
  pub rows_are : all_rows (place_grown made place) ≡ rows

-- The first start tag among the tokens, if there is one, is not `html`: the page gets a root.
abbrev pub is_fragment : List Tok → Bool
is_fragment [] = true
is_fragment (starts tag ∷ ts) = not (bytes_eq tag.name (codes "html"))
is_fragment (ends name ∷ ts) = is_fragment ts
is_fragment (holds leaf ∷ ts) = is_fragment ts
