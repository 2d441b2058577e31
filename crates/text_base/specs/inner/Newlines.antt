-- Newlines from left to right, as the private functions of `decoding` go.
use Rattle.std.specs.Prelude.{ℕ, ◌==◌, ◌&&◌, cond, Bool, true, false, List, [], ◌∷◌}

-- CR LF and CR become LF. `after_cr` tells that a CR stands before the list.
abbrev pub newlines_after : Bool → List ℕ → List ℕ
newlines_after after_cr [] = []
newlines_after after_cr (b ∷ bs) =
    cond (b == 13) (10 ∷ newlines_after true bs)
    (cond (after_cr && b == 10) (newlines_after false bs) (b ∷ newlines_after false bs))
