-- What a mark does to the open tags and the rows.
use Rattle.std.specs.Prelude.{ℕ, ◌==◌, ◌&&◌, ◌||◌, List, [], ◌∷◌, length, Bool, true, false, not, Option, Result, Ok, Err, if◌then◌else◌}
use Rattle.std.specs.Str.{bytes_eq}
use Rattle.text_base.specs.declared.reasons.PageReason.{PageReason}
use Rattle.text_base.specs.declared.reasons.PageReason.TheVariants.{StrayEnd, TextOutside, SecondRoot, Deep}
use Rattle.html_reader.specs.Tokens.{Tag, Leaf, Tok, starts, ends, holds}
use Rattle.html_reader.specs.Forest.{is_white_leaf}
use Rattle.html_reader.specs.Rows.{sofar, flushed, with_leaf}
use Rattle.html_reader.specs.Places.{Grown, below, inside_tag, most_open}
use Rattle.html_reader.specs.declared.reader.Root.{Root}
use Rattle.doc_model.specs.Growing.{innermost}
use Rattle.html_reader.specs.Words.{is_shut}

-- the open tags, the innermost first; what is known of the root; the rows
pub record State : Type 0 where
  pub tags : List Tag
  pub rooted : Root
  pub grown : Grown

abbrev pub state : List Tag → Root → Grown → State
state tags rooted grown = record { tags = tags; rooted = rooted; grown = grown }

abbrev pub holding : Grown → Leaf → Grown
holding g leaf = below g.open_rows (with_leaf (innermost g.open_rows) g.sofar leaf)

abbrev pub without_first : {A : Type 0} → List A → List A
without_first [] = []
without_first (x ∷ xs) = xs

-- the text that waits has its row
abbrev pub settled : Grown → Grown
settled g = below g.open_rows (sofar (flushed (innermost g.open_rows) g.sofar) [])

abbrev pub closing : Grown → Grown
closing g = below (without_first g.open_rows) (settled g).sofar

abbrev pub with_some : Root → Root
with_some r = record { made = r.made; some = true }

-- a text that is not white stands in a made root
abbrev pub after_leaf : Root → Leaf → Root
after_leaf r leaf = record { made = r.made; some = (not (is_white_leaf leaf) && r.made) || r.some }

abbrev pub opened : State → Tag → State
opened s tag = state (tag ∷ s.tags) (with_some s.rooted) (inside_tag s.grown tag)

abbrev pub held : State → Leaf → State
held s leaf = state s.tags (after_leaf s.rooted leaf) (holding s.grown leaf)

abbrev pub closed : State → State
closed s = state (without_first s.tags) s.rooted (closing s.grown)

-- the innermost open tag has this name
abbrev pub is_innermost : List Tag → List ℕ → Bool
is_innermost [] name = false
is_innermost (tag ∷ before) name = bytes_eq tag.name name

abbrev pub is_empty : {A : Type 0} → List A → Bool
is_empty [] = true
is_empty (x ∷ xs) = false

-- the state after a token, or its refusal
abbrev pub step : State → Tok → Result State PageReason
step s (starts tag) =
    if not s.rooted.made && (is_empty s.tags && s.rooted.some) then Err SecondRoot
    else (if length s.tags == most_open s.rooted.made then Err Deep
    else Ok (opened s tag))
step s (ends name) = if is_innermost s.tags name then Ok (closed s) else Err StrayEnd
step s (holds leaf) = if not s.rooted.made && (is_empty s.tags && not (is_white_leaf leaf)) then Err TextOutside else Ok (held s leaf)

-- the state after the ends that the next token inserts
abbrev pub after_shuts : Option Tok → List Tag → Root → Grown → State
after_shuts next [] rooted g = state [] rooted g
after_shuts next (tag ∷ before) rooted g =
    if is_shut (tag ∷ before) next then after_shuts next before rooted (closing g) else state (tag ∷ before) rooted g

abbrev pub shuts : Option Tok → State → State
shuts next s = after_shuts next s.tags s.rooted s.grown
