-- Where braces stand.
use Rattle.std.specs.Prelude.{ℕ, ◌+◌, ◌==◌, ◌&&◌, Bool, List, [], ◌∷◌, if◌then◌else◌}
use Rattle.query_script.specs.Cuts.{quote_after}
use Rattle.page_records.specs.declared.braces.Brace.{Brace}
use Rattle.page_records.specs.declared.braces.Brace.TheVariants as brace
use Rattle.page_records.specs.Braces.{opens, closes}

abbrev pub test_of : Brace → ℕ → Bool
test_of brace.Open c = opens c
test_of brace.Close c = closes c

-- The place after the last `}` outside quotes of a text that begins at a place with this quote open, or the one after the last
-- before it.
abbrev pub last_close : ℕ → ℕ → ℕ → List ℕ → ℕ
last_close at end q [] = end
last_close at end q (c ∷ text) = last_close (at + 1) (if (q == 0) && closes c then at + 1 else end) (quote_after q c) text
