-- Texts cut at bytes that stand outside quotes, where braces keep a block in one piece.
use Rattle.std.specs.Prelude.{ℕ, ◌==◌, ◌&&◌, ◌||◌, not, Bool, true, false, List, [], ◌∷◌, filter, if◌then◌else◌}
use Rattle.query_script.specs.Cuts.{quote_after, onto_first, ends_field, is_written}

-- `{`
abbrev pub opens : ℕ → Bool
opens c = c == 123

-- `}`
abbrev pub closes : ℕ → Bool
closes c = c == 125

-- a byte that passes the test stands outside quotes, where this quote is open at the text's start
abbrev pub stands : (ℕ → Bool) → ℕ → List ℕ → Bool
stands is q [] = false
stands is q (c ∷ text) = ((q == 0) && is c) || stands is (quote_after q c) text

-- what stands before the first such byte, or all where there is none
abbrev pub before_outside : (ℕ → Bool) → ℕ → List ℕ → List ℕ
before_outside is q [] = []
before_outside is q (c ∷ text) = if (q == 0) && is c then [] else c ∷ before_outside is (quote_after q c) text

-- what stands after it, or nothing where there is none
abbrev pub after_outside : (ℕ → Bool) → ℕ → List ℕ → List ℕ
after_outside is q [] = []
after_outside is q (c ∷ text) = if (q == 0) && is c then text else after_outside is (quote_after q c) text

-- Whether a `{` outside quotes is open after a byte, where it was open before or not: the next `}` outside quotes closes it.
abbrev pub open_after : Bool → ℕ → ℕ → Bool
open_after begun q c = if q == 0 then (if opens c then true else (if closes c then false else begun)) else begun

-- The pieces of a text, cut at each `;` and LF outside quotes that does not stand between a `{` outside quotes and the next `}`
-- outside quotes. A `{` is open at the text's start or not, and this quote is. A `{` with no later `}` keeps nothing together.
abbrev pub block_pieces : Bool → ℕ → List ℕ → List (List ℕ)
block_pieces begun q [] = [] ∷ []
block_pieces begun q (c ∷ text) =
    if (q == 0) && (ends_field c && not (begun && stands closes 0 text)) then [] ∷ block_pieces begun 0 text
    else onto_first c (block_pieces (open_after begun q c) (quote_after q c) text)

-- the pieces of a script that are fields or blocks
abbrev pub entries_of : List ℕ → List (List ℕ)
entries_of text = filter is_written (block_pieces false 0 text)

-- the piece has a `{` outside quotes, so it is a block
abbrev pub is_block : List ℕ → Bool
is_block piece = stands opens 0 piece
