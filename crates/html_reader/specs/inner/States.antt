-- The reader's state, as the machine's.
use Rattle.std.specs.Prelude.{◌≡◌, ◌≢◌, ℕ, ◌+◌, ◌<◌, List, [], ◌∷◌, map, length, Bool, true, false, Result, Ok, Err, ◌⊎◌, Option, Some, None, ◌||◌, ◌&&◌}
use Rattle.std.specs.List.{list_any}
use denote.Ref.{Bor}
use Rattle.html_reader.specs.Tables.{is_foreign, is_void}
use Rattle.text_base.specs.declared.reasons.PageReason.{PageReason}
use Rattle.text_base.specs.declared.reasons.PageReason.TheVariants.{Memory}
use Rattle.text_base.specs.declared.reasons.PageFault.{PageFault}
use Rattle.html_reader.specs.declared.reader.Root.{Root}
use Rattle.html_reader.specs.declared.token.Token.{Token}
use Rattle.html_reader.specs.declared.token.Token.TheVariants as code
use Rattle.html_reader.specs.declared.token.Attr as code_attr
use Rattle.html_reader.specs.declared.token.StartTag.{StartTag}
use Rattle.html_reader.specs.Tokens.{Attr, Tag, text, comment, doctype, Tok, starts, ends, holds}
use Rattle.html_reader.specs.Rows.{sofar}
use Rattle.html_reader.specs.Places.{Grown, below}
use Rattle.doc_model.specs.Growing.{Growing, innermost}
use Rattle.doc_model.specs.inner.LastChild.{ends_in_text}
use Rattle.html_reader.specs.inner.Kept.{AreKept}
use Rattle.html_reader.specs.inner.Parents.{Within}
use Rattle.html_reader.specs.inner.Pieces.{owned_bytes}
use Rattle.html_reader.specs.inner.Machine.{State, state, step}

abbrev pub attr_of : code_attr.Attr → Attr
attr_of a = record { name = owned_bytes a.name; value = owned_bytes a.value }

abbrev pub tag_of : StartTag → Tag
tag_of t = record { name = owned_bytes t.name; attrs = map attr_of t.attrs.items; slash = t.slash }

abbrev pub tok_of : Token → Tok
tok_of (code.Start from tag) = starts (tag_of tag)
tok_of (code.End from name) = ends (owned_bytes name)
tok_of (code.Text from content) = holds (text (owned_bytes content))
tok_of (code.Comment from content) = holds (comment content.now)
tok_of (code.Doctype from) = holds doctype

abbrev pub from_of : Token → ℕ
from_of (code.Start from tag) = from
from_of (code.End from name) = from
from_of (code.Text from content) = from
from_of (code.Comment from content) = from
from_of (code.Doctype from) = from

-- the tag of a start tag has a name, and the attributes are those kept
abbrev pub HasKeptAttributes : Tok → Type 0
HasKeptAttributes (starts tag) = (tag.name ≢ []) × AreKept tag.attrs
HasKeptAttributes (ends name) = Unit {0}
HasKeptAttributes (holds leaf) = Unit {0}

-- a stack's tags, the innermost first, on top of these
abbrev pub tags_onto : List Tag → List StartTag → List Tag
tags_onto tags [] = tags
tags_onto tags (t ∷ ts) = tags_onto (tag_of t ∷ tags) ts

abbrev pub grown_of : Growing → List ℕ → Grown
grown_of g waits = below g.open_rows (sofar g.rows waits)

abbrev pub the_state : List StartTag → Root → Growing → List ℕ → State
the_state tags rooted g waits = state (tags_onto [] tags) rooted (grown_of g waits)

abbrev pub made_count : Bool → ℕ
made_count true = 1
made_count false = 0

-- what the reader keeps: rows and tags open alike, and a text may come
pub record IsSound (s : State) : Type 0 where
  pub level : length s.grown.open_rows ≡ made_count s.rooted.made + length s.tags
  pub there : innermost s.grown.open_rows < length s.grown.sofar.rows
  pub inside : Within s.grown.sofar.rows
  pub below_root : s.grown.open_rows ≢ [] → 0 < innermost s.grown.open_rows
  pub calm : ends_in_text (innermost s.grown.open_rows) false s.grown.sofar.rows ≡ false

-- refused so at this place, unless memory ran out
abbrev pub RefusedAs : Result State PageReason → ℕ → PageFault → Type 0
RefusedAs r from fault = ((fault.reason ≡ Memory) × (fault.at ≡ 0)) ⊎ ((r ≡ Err fault.reason) × (fault.at ≡ from))

-- the rows that a token may make, with the text that waits
abbrev pub most_rows : Tok → ℕ
most_rows (starts tag) = 2 + length tag.attrs
most_rows (ends name) = 2
most_rows (holds leaf) = 2

abbrev pub Steps : State → Token → Result (Unit {0}) PageFault → State → Type 0
Steps old t (Ok _) new = step old (tok_of t) ≡ Ok new
Steps old t (Err fault) new = RefusedAs (step old (tok_of t)) (from_of t) fault

abbrev pub next_of : Option (Bor Token) → Option Tok
next_of None = None
next_of (Some t) = Some (tok_of t.now)

abbrev pub is_foreign_tag : StartTag → Bool
is_foreign_tag t = is_foreign (owned_bytes t.name)

-- with these tags open, the outermost first, the last of them ends at once
abbrev pub is_single_last : List StartTag → StartTag → Bool
is_single_last tags t = is_void (owned_bytes t.name) || (t.slash && list_any is_foreign_tag tags)
