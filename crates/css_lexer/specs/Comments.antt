-- Comments, which stand between tokens and are none.
use Rattle.std.specs.Prelude.{ℕ, ◌+◌, ◌-◌, ◌==◌, ◌&&◌, Bool, List, [], ◌∷◌, length, slice_index, nat_lt, if◌then◌else◌}
use Rattle.text_base.specs.Text.{find_where, begins_with}
use Rattle.css_lexer.specs.Steps.{Steps}

-- where the first `*/` after the `/*` at i begins, or the text's length
abbrev pub closing_at : List ℕ → ℕ → ℕ
closing_at text i = find_where (begins_with (42 ∷ 47 ∷ [])) text (i + 2)

abbrev pub opens_comment : List ℕ → ℕ → Bool
opens_comment text i = (slice_index text i == 47) && (slice_index text (i + 1) == 42)

-- how long the comment at i is, from `/*` up to the first `*/`, or 0 where none begins or it does not end
abbrev pub comment_len : List ℕ → ℕ → ℕ
comment_len text i = if opens_comment text i && nat_lt (closing_at text i) (length text) then closing_at text i + 2 - i else 0

-- from i up to j stand comments, and no more
abbrev pub Comments : List ℕ → ℕ → ℕ → Type 0
Comments text i j = (places : List ℕ) × Steps (comment_len text) i places j
