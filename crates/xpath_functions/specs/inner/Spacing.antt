-- A text that is built with one space between its words, as far as a text is read. This is the order of the code's work, and
-- serves its contracts; what `normalize-space` gives is said in xpath_values, specs/Strings.
use Rattle.std.specs.Prelude.{ℕ, Bool, true, false, ◌&&◌, not, if◌then◌else◌, List, [], ◌∷◌, ◌++◌}
use Rattle.std.specs.List.{fold}
use Rattle.text_base.specs.Strings.{is_empty}
use Rattle.text_base.specs.Text.{is_space4}

-- the text so far, and whether white space was read behind it
pub record Spaced : Type 0 where
  pub text : List ℕ
  pub apart : Bool

abbrev pub start : Spaced
start = record { text = []; apart = false }

-- a space behind the text, if it is wanted and the text is not empty
abbrev pub parted : Bool → List ℕ → List ℕ
parted apart s = if apart && not (is_empty s) then s ++ 32 ∷ [] else s

abbrev pub next : Spaced → ℕ → Spaced
next st c = if is_space4 c then record { text = st.text; apart = true } else record { text = parted st.apart st.text ++ c ∷ []; apart = false }

abbrev pub after : Spaced → List ℕ → Spaced
after st cs = fold next st cs
