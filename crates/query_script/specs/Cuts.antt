-- A text cut at bytes that stand outside quotes, and texts without the blanks at their ends.
use Rattle.std.specs.Prelude.{ℕ, ◌==◌, ◌&&◌, ◌||◌, not, Bool, List, [], ◌∷◌, filter, if◌then◌else◌}
use Rattle.std.specs.List.{list_all}

-- `"` and `'`
abbrev pub is_quote : ℕ → Bool
is_quote c = (c == 34) || (c == 39)

-- the quote that is open after a byte, 0 where none is: outside quotes each quote opens, and the same quote closes
abbrev pub quote_after : ℕ → ℕ → ℕ
quote_after q c = if q == 0 then (if is_quote c then c else 0) else (if c == q then 0 else q)

-- a byte in front of the first piece
abbrev pub onto_first : ℕ → List (List ℕ) → List (List ℕ)
onto_first c [] = (c ∷ []) ∷ []
onto_first c (p ∷ ps) = (c ∷ p) ∷ ps

-- The pieces of a text, cut at each byte that passes the test and stands outside quotes; this quote is open at the text's
-- start. A doubled quote closes and opens again, so nothing is cut between the two.
abbrev pub pieces : (ℕ → Bool) → ℕ → List ℕ → List (List ℕ)
pieces cuts q [] = [] ∷ []
pieces cuts q (c ∷ text) = if (q == 0) && cuts c then [] ∷ pieces cuts 0 text else onto_first c (pieces cuts (quote_after q c) text)

-- `;` and LF, which stand between fields
abbrev pub ends_field : ℕ → Bool
ends_field c = (c == 59) || (c == 10)

-- `.`, which stands between steps
abbrev pub is_point : ℕ → Bool
is_point c = c == 46

-- space, tab and CR
abbrev pub is_blank : ℕ → Bool
is_blank c = (c == 32) || ((c == 9) || (c == 13))

-- without the blanks at its start
abbrev pub skip_front : List ℕ → List ℕ
skip_front [] = []
skip_front (c ∷ text) = if is_blank c then skip_front text else c ∷ text

-- without the blanks at its end
abbrev pub skip_back : List ℕ → List ℕ
skip_back [] = []
skip_back (c ∷ text) = if is_blank c && list_all is_blank text then [] else c ∷ skip_back text

-- without the blanks at both ends
abbrev pub trimmed : List ℕ → List ℕ
trimmed text = skip_back (skip_front text)

-- not blanks alone
abbrev pub is_written : List ℕ → Bool
is_written piece = not (list_all is_blank piece)

-- the pieces of a script that are fields
abbrev pub fields_of : List ℕ → List (List ℕ)
fields_of text = filter is_written (pieces ends_field 0 text)
