-- How many brackets may still be opened, token by token.
use Rattle.std.proofs.Common.{◌≡◌, ℕ, zero, suc, ◌+◌, ◌≤◌, cond, List, [], ◌∷◌, take, arith, Option, Some, None}
use Rattle.std.specs.List.{count_by}
use Rattle.std.proofs.lemmas.List.Sums.{sum_by-cons}
use Rattle.xpath_lexer.specs.declared.token.XKind.{XKind}
use Rattle.xpath_lexer.specs.declared.token.XKind.TheVariants as k
use Rattle.xpath_lexer.specs.Tokens.{Lexeme}
use Rattle.xpath_parser.specs.Terms.{is_open, is_close, IsShallow, most_open}

-- the room that a token leaves
abbrev pub room_after : XKind → ℕ → Option ℕ
room_after k.OpenRound zero = None
room_after k.OpenRound (suc r) = Some r
room_after k.OpenSquare zero = None
room_after k.OpenSquare (suc r) = Some r
room_after k.CloseRound r = Some (suc r)
room_after k.CloseSquare r = Some (suc r)
room_after _ r = Some r

abbrev pub OnRoom : Option ℕ → (ℕ → Type 0) → Type 0
OnRoom None P = ⊥
OnRoom (Some r) P = P r

-- with room for so many brackets, none is opened without room
abbrev pub Fits : List Lexeme → ℕ → Type 0
Fits [] room = Unit {0}
Fits (w ∷ ws) room = OnRoom (room_after w.kind room) (Fits ws)

-- what a token adds on each side
record Leaves (w : Lexeme) (ws : List Lexeme) (room : ℕ) : Type 0 where
  left : ℕ
  counts : cond (is_open w) 1 0 + left ≤ cond (is_close w) 1 0 + room
  fits : Fits ws left

leaves : (kind : XKind) (text : List ℕ) (ws : List Lexeme) (room : ℕ) → Fits (record { kind = kind; text = text } ∷ ws) room → Leaves (record { kind = kind; text = text }) ws room
leaves k.OpenRound text ws zero h = absurd h
leaves k.OpenRound text ws (suc r) h = record { left = r; counts = omega arith; fits = h }
leaves k.OpenSquare text ws zero h = absurd h
leaves k.OpenSquare text ws (suc r) h = record { left = r; counts = omega arith; fits = h }
leaves k.CloseRound text ws room h = record { left = suc room; counts = omega arith; fits = h }
leaves k.CloseSquare text ws room h = record { left = suc room; counts = omega arith; fits = h }
leaves _ text ws room h = record { left = room; counts = omega arith; fits = h }

within : (ws : List Lexeme) (room : ℕ) → Fits ws room → (i : ℕ) → count_by is_open (take i ws) ≤ count_by is_close (take i ws) + room
within [] room h zero = omega arith
within [] room h (suc i) = omega arith
within (w ∷ ws) room h zero = omega arith
within (w ∷ ws) room h (suc i) =
    let l : Leaves w ws room = leaves w.kind w.text ws room h in
    let more : count_by is_open (take i ws) ≤ count_by is_close (take i ws) + l.left = within ws l.left l.fits i in
    let opens : count_by is_open (w ∷ take i ws) ≡ cond (is_open w) 1 0 + count_by is_open (take i ws) = sum_by-cons (λ x. cond (is_open x) 1 0) w (take i ws) in
    let closes : count_by is_close (w ∷ take i ws) ≡ cond (is_close w) 1 0 + count_by is_close (take i ws) = sum_by-cons (λ x. cond (is_close x) 1 0) w (take i ws) in
    let counts : cond (is_open w) 1 0 + l.left ≤ cond (is_close w) 1 0 + room = l.counts in
    omega arith

pub shallow : (ws : List Lexeme) → Fits ws most_open → IsShallow ws
shallow ws h i le = within ws most_open h i
