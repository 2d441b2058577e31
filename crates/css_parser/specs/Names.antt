-- The names of pseudo-classes, after Selectors Level 3, section 6.6, and `contains`.
use Rattle.std.specs.Prelude.{ℕ, pos, if◌then◌else◌, List, Option, Some, None, codes}
use Rattle.css_selectors.specs.declared.selector.Nth.{Nth}
use Rattle.css_selectors.specs.declared.selector.Nth.TheVariants as nth
use Rattle.css_selectors.specs.declared.selector.Pseudo.{Pseudo}
use Rattle.css_selectors.specs.declared.selector.Pseudo.TheVariants as pseudo
use Rattle.css_parser.specs.declared.pieces.Plain.TheVariants as plain
use Rattle.css_parser.specs.declared.pieces.Piece.{Piece}
use Rattle.css_parser.specs.declared.pieces.Piece.TheVariants as piece
use Rattle.css_parser.specs.Places.{is_called}

-- `first-child` and the like, which are a position of 1
abbrev pub first_or_last : List ℕ → Option Nth
first_or_last name =
    if is_called name (codes "first-child") then Some nth.Child
    else (if is_called name (codes "last-child") then Some nth.LastChild
    else (if is_called name (codes "first-of-type") then Some nth.OfType
    else (if is_called name (codes "last-of-type") then Some nth.LastOfType
    else None)))

-- the classes of a user's actions, and of what a document does not tell
abbrev pub never_holds : List ℕ → Option Pseudo
never_holds name =
    if is_called name (codes "hover") then Some pseudo.Never
    else (if is_called name (codes "active") then Some pseudo.Never
    else (if is_called name (codes "focus") then Some pseudo.Never
    else (if is_called name (codes "target") then Some pseudo.Never
    else (if is_called name (codes "visited") then Some pseudo.Never
    else None))))

abbrev pub state : List ℕ → Option Pseudo
state name =
    if is_called name (codes "link") then Some pseudo.Link
    else (if is_called name (codes "checked") then Some pseudo.Checked
    else (if is_called name (codes "enabled") then Some pseudo.Enabled
    else (if is_called name (codes "disabled") then Some pseudo.Disabled
    else never_holds name)))

abbrev pub pseudo_called : List ℕ → Option Pseudo
pseudo_called name =
    if is_called name (codes "only-child") then Some pseudo.OnlyChild
    else (if is_called name (codes "only-of-type") then Some pseudo.OnlyOfType
    else (if is_called name (codes "empty") then Some pseudo.Empty
    else (if is_called name (codes "root") then Some pseudo.Root
    else state name)))

abbrev pub pseudo_piece : Option Pseudo → Piece
pseudo_piece (Some p) = piece.Plain (plain.Pseudo p)
pseudo_piece None = piece.Unknown

abbrev pub position_piece : List ℕ → Option Nth → Piece
position_piece name (Some kind) = piece.Plain (plain.Nth kind (pos 0) (pos 1))
position_piece name None = pseudo_piece (pseudo_called name)

-- the pseudo-class of a name without an argument
unfoldable pub class_called : List ℕ → Piece
class_called name = position_piece name (first_or_last name)

-- the names whose argument is `an+b`
unfoldable pub nth_called : List ℕ → Option Nth
nth_called name =
    if is_called name (codes "nth-child") then Some nth.Child
    else (if is_called name (codes "nth-last-child") then Some nth.LastChild
    else (if is_called name (codes "nth-of-type") then Some nth.OfType
    else (if is_called name (codes "nth-last-of-type") then Some nth.LastOfType
    else None)))
