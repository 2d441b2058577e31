-- The longest beginning of a text that goes on.
use Rattle.std.specs.Prelude.{◌≡◌, ℕ, ◌<◌, Bool, List, take}
use Rattle.text_base.specs.Text.{run_end, IsPlace}

-- the most bytes of a text of which a place is told
abbrev pub most_placed : ℕ
most_placed = 16384

-- So many bytes of the text go on, or they are none, and no longer beginning of whole characters goes on.
pub record IsLongest (Goes : List ℕ → Type 0) (text : List ℕ) (n : ℕ) : Type 0 where
  pub place : IsPlace text n
  pub goes : 0 < n → Goes (take n text)
  pub none : (m : ℕ) → IsPlace text m → n < m → Goes (take m text) → ⊥

-- The place is where the longest beginning ends, or after the white space that stands there.
pub record IsPlaceOf (Goes : List ℕ → Type 0) (is_white : ℕ → Bool) (text : List ℕ) (place : ℕ) : Type 0 where
  pub size : ℕ
  pub longest : IsLongest Goes text size
  pub after : place ≡ run_end is_white text size
