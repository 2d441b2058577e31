-- The terms of the printed pieces as expressions.
use Rattle.std.proofs.Common.{◌≡◌, refl, sym, ℕ, suc, true, List, append-nil}
use Rattle.xpath_parser.specs.declared.expression.Expr.{Expr}
use Rattle.xpath_parser.specs.declared.term.Term.{Term}
use Rattle.xpath_parser.specs.Grammar as g
use Rattle.xpath_parser.specs.Grammar.{Reads}

-- a lone operand, one tier up
pub up : {ts : List Term} {x : Expr} (k : ℕ) → Reads ts (g.at k x) → g.is_joined (suc k) ≡ true → Reads ts (g.at (suc k) x)
up {ts} k r j = g.tier j r g.rest_end (sym (append-nil ts))

-- from a path to a union, to a sign, and so on
pub to_2 : {ts : List Term} {x : Expr} → Reads ts (g.at 0 x) → Reads ts (g.at 2 x)
to_2 r = g.signs (g.no_sign (up 0 r refl))

pub to_5 : {ts : List Term} {x : Expr} → Reads ts (g.at 2 x) → Reads ts (g.at 5 x)
to_5 r = up 4 (up 3 (up 2 r refl) refl) refl

pub to_8 : {ts : List Term} {x : Expr} → Reads ts (g.at 6 x) → Reads ts (g.at 8 x)
to_8 r = up 7 (up 6 r refl) refl

pub whole : {ts : List Term} {x : Expr} → Reads ts (g.at 0 x) → Reads ts (g.at 8 x)
whole r = to_8 (up 5 (to_5 (to_2 r)) refl)
