-- The literal of XPath 1.0, section 3.7, that stands for a text: a literal has no escapes, so a text with both quotes is a
-- `concat` of several. The words here serve bytes and characters alike, since both quotes are ASCII.
use Rattle.std.specs.Prelude.{ℕ, Bool, ◌==◌, cond, List, [], ◌∷◌, ◌++◌, codes}
use Rattle.std.specs.List.{list_any}

abbrev pub is_apostrophe : ℕ → Bool
is_apostrophe c = c == 39

abbrev pub is_double : ℕ → Bool
is_double c = c == 34

-- a text and the quote that is written on both sides of it
pub record Quoted : Type 0 where
  pub quote : ℕ
  pub content : List ℕ

-- an apostrophe is written between double quotes, and all else between apostrophes
abbrev pub quote_of : ℕ → ℕ
quote_of c = cond (is_apostrophe c) 34 39

-- a character in front of the runs: in the first one, where its quote is the same
abbrev pub add : ℕ → List Quoted → List Quoted
add c [] = record { quote = quote_of c; content = c ∷ [] } ∷ []
add c (q ∷ qs) =
    cond (quote_of c == q.quote) (record { quote = q.quote; content = c ∷ q.content } ∷ qs)
    (record { quote = quote_of c; content = c ∷ [] } ∷ (q ∷ qs))

-- the maximal runs of `'`, and the runs between them
abbrev pub quoted_runs : List ℕ → List Quoted
quoted_runs [] = []
quoted_runs (c ∷ x) = add c (quoted_runs x)

-- between `'` where x has no `'`, else between `"` where it has no `"`, else its runs
abbrev pub literal_parts : List ℕ → List Quoted
literal_parts x =
    cond (list_any is_apostrophe x) (cond (list_any is_double x) (quoted_runs x) (record { quote = 34; content = x } ∷ []))
    (record { quote = 39; content = x } ∷ [])

abbrev pub quoted : Quoted → List ℕ
quoted q = q.quote ∷ (q.content ++ q.quote ∷ [])

-- with a comma and a space between two
abbrev pub listed : List Quoted → List ℕ
listed [] = []
listed (q ∷ []) = quoted q
listed (q ∷ (r ∷ rs)) = quoted q ++ (codes ", " ++ listed (r ∷ rs))

-- one alone, or `concat` of more
abbrev pub shown : List Quoted → List ℕ
shown [] = []
shown (q ∷ []) = quoted q
shown (q ∷ (r ∷ rs)) = codes "concat(" ++ (listed (q ∷ (r ∷ rs)) ++ codes ")")

abbrev pub literal_text : List ℕ → List ℕ
literal_text x = shown (literal_parts x)
