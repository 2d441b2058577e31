-- Where a level of operators is cut: at its operators outside brackets, of which a `-` that is a sign is none.
use Rattle.std.specs.Prelude.{ℕ, zero, suc, Bool, true, false, ◌&&◌, ◌||◌, not, ◌==◌, if◌then◌else◌, List, [], ◌∷◌}
use Rattle.xpath_parser.specs.declared.term.Term.{Term}
use Rattle.xpath_parser.specs.declared.term.Term.TheVariants as t
use Rattle.xpath_parser.specs.Terms.{is_operand}
use Rattle.xpath_parser.specs.Grammar.{tier_of}

abbrev pub is_slash : Term → Bool
is_slash t.Slash = true
is_slash _ = false

abbrev pub is_minus : Term → Bool
is_minus t.Minus = true
is_minus _ = false

-- the term is none of `@`, `::`, `(`, `[`, `,` and an operator other than `/`, so that a `-` after it is no sign
abbrev pub ends_operand : Term → Bool
ends_operand w = is_operand w || is_slash w

-- The terms with a term before them that is an operator of tier j outside brackets. So many brackets are open; `after` says that
-- a term stands before it and ends an operand.
abbrev pub with_operator_of : ℕ → ℕ → Bool → Term → List Term → List Term
with_operator_of j zero after w ws = if (tier_of w == j) && (after || not (is_minus w)) then w ∷ ws else ws
with_operator_of j (suc d) after w ws = ws

-- the operators of a tier outside brackets
abbrev pub operators_of : ℕ → ℕ → Bool → List Term → List Term
operators_of j d after [] = []
operators_of j d after (t.OpenRound ∷ ts) = operators_of j (suc d) false ts
operators_of j d after (t.OpenSquare ∷ ts) = operators_of j (suc d) false ts
operators_of j zero after (t.CloseRound ∷ ts) = operators_of j zero true ts
operators_of j zero after (t.CloseSquare ∷ ts) = operators_of j zero true ts
operators_of j (suc d) after (t.CloseRound ∷ ts) = operators_of j d true ts
operators_of j (suc d) after (t.CloseSquare ∷ ts) = operators_of j d true ts
operators_of j d after (w ∷ ts) = with_operator_of j d after w (operators_of j d (ends_operand w) ts)
