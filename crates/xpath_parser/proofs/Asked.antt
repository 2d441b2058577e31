-- What an expression asks is what its terms call, and those are stored.
use Rattle.std.proofs.Common.{◌≡◌, refl, sym, ◌∙◌, ap, subst, ℕ, zero, suc, Bool, true, false, eqb, List, [], ◌∷◌, ◌++◌, map, arith, append_assoc, append-nil, Some, None}
use Rattle.std.specs.Prelude.{All, Option, if◌then◌else◌, ◌==◌, nat_le, pos}
use Rattle.std.specs.List.{flat_map, list_any, AllByRecursion}
use Rattle.std.specs.Str.{bytes_eq}
use Rattle.std.proofs.lemmas.Grind.{flat_map-append}
use Rattle.std.proofs.lemmas.List.Elements.{All-nil, All-append, All-cons}
use Rattle.test_registry.specs.declared.kinds.TestKind.{TestKind}
use Rattle.test_registry.specs.Kinds.{HasKind}
use Rattle.text_base.specs.Names.{named_in}
use Rattle.text_base.specs.Text.{digits_value}
use Rattle.xpath_values.specs.Numbers.{largest_whole}
use Rattle.test_registry.specs.Names.{Known}
use Rattle.test_registry.proofs.Stored.{found_stored}
use Rattle.xpath_lexer.specs.Tokens.{Text, Lexeme}
use Rattle.xpath_lexer.specs.declared.token.XKind.{XKind}
use Rattle.xpath_lexer.specs.declared.token.XKind.TheVariants as k
use Rattle.doc_model.specs.declared.Axis.{Axis}
use Rattle.xpath_parser.specs.declared.expression.Expr.{Expr}
use Rattle.xpath_parser.specs.declared.expression.Expr.TheVariants as e
use Rattle.xpath_parser.specs.declared.expression.Func.{Func}
use Rattle.xpath_parser.specs.declared.expression.Func.TheVariants as func
use Rattle.xpath_parser.specs.declared.term.NodeType.{NodeType}
use Rattle.xpath_parser.specs.declared.term.Term.{Term}
use Rattle.xpath_parser.specs.declared.term.Term.TheVariants as t
use Rattle.xpath_parser.specs.Grammar as g
use Rattle.xpath_parser.specs.Grammar.{tier_of, Node, Reads, Operands, operand, made, joined, negated, filtered, any_below}
use Rattle.xpath_parser.specs.Asking.{Kinds, func_kinds, stored_kinds, AsksOnly}
use Rattle.xpath_parser.specs.Terms.{axis_names, node_type_names, function_names, operator_names, operator_term, axis_term, function_term, or_stored, function_of, called_term_over, name_term_over, number_term, term_of_over, is_operand, next_kind, terms_after_over}
use Rattle.xpath_parser.specs.Reading.{ReadsOver}
use Rattle.xpath_parser.proofs.Asking as asking
use Rattle.xpath_parser.proofs.Asking.{kinds_right, kinds_within}

-- the kinds of the stored tests among the terms
abbrev pub term_kind : Term → Kinds
term_kind (t.Function f) = func_kinds f
term_kind _ = []

abbrev pub term_kinds : List Term → Kinds
term_kinds ts = flat_map term_kind ts

-- ---- what the forms that the rules make ask

abbrev operands_ask : Operands → Kinds
operands_ask ps = flat_map (λ p. stored_kinds p.1) ps

values_ask : (ps : Operands) → flat_map stored_kinds (map (λ p. p.1) ps) ≡ operands_ask ps
values_ask [] = refl
values_ask (p ∷ ps) = ap (λ ks. stored_kinds p.1 ++ ks) (values_ask ps)

rights_ask : (ps : Operands) → flat_map kinds_right (map operand ps) ≡ operands_ask ps
rights_ask [] = refl
rights_ask (p ∷ ps) = ap (λ ks. stored_kinds p.1 ++ ks) (rights_ask ps)

made_ask : (k : ℕ) (x : Expr) (ps : Operands) → stored_kinds (made k x ps) ≡ stored_kinds x ++ operands_ask ps
unfolding joined
made_ask k x [] = sym (append-nil (stored_kinds x))
made_ask k x (p ∷ ps) = by (eqb k 1) (eqb k 7) (eqb k 8)
  where
    by : (one seven eight : Bool) → stored_kinds (if one then e.Union (x ∷ p.1 ∷ map (λ q. q.1) ps) else if seven then e.And (x ∷ p.1 ∷ map (λ q. q.1) ps) else if eight then e.Or (x ∷ p.1 ∷ map (λ q. q.1) ps) else e.Joined x (operand p ∷ map operand ps)) ≡ stored_kinds x ++ operands_ask (p ∷ ps)
    by true seven eight = asking.at_union (x ∷ p.1 ∷ map (λ q. q.1) ps) ∙ ap (λ ks. stored_kinds x ++ ks) (values_ask (p ∷ ps))
    by false true eight = asking.at_and (x ∷ p.1 ∷ map (λ q. q.1) ps) ∙ ap (λ ks. stored_kinds x ++ ks) (values_ask (p ∷ ps))
    by false false true = asking.at_or (x ∷ p.1 ∷ map (λ q. q.1) ps) ∙ ap (λ ks. stored_kinds x ++ ks) (values_ask (p ∷ ps))
    by false false false = asking.at_joined x (operand p ∷ map operand ps) ∙ ap (λ ks. stored_kinds x ++ ks) (rights_ask (p ∷ ps))

negated_ask : (n : ℕ) (x : Expr) → stored_kinds (negated n x) ≡ stored_kinds x
negated_ask zero x = refl
negated_ask (suc n) x = asking.at_minus (suc n) x

filtered_ask : (x : Expr) (ps : List Expr) → stored_kinds (filtered x ps) ≡ stored_kinds x ++ flat_map stored_kinds ps
filtered_ask x [] = sym (append-nil (stored_kinds x))
filtered_ask x (p ∷ ps) = asking.at_filter x (p ∷ ps)

-- ---- along the rules

together : (ts a b : List Term) (xs ys : Kinds) → ts ≡ a ++ b → xs ≡ term_kinds a → ys ≡ term_kinds b → xs ++ ys ≡ term_kinds ts
together ts a b xs ys is p q = ap (λ v. v ++ ys) p ∙ ap (λ v. term_kinds a ++ v) q ∙ sym (flat_map-append term_kind a b) ∙ sym (ap term_kinds is)

-- a bracket at the end calls nothing
closed : (ts : List Term) → term_kinds (ts ++ t.CloseRound ∷ []) ≡ term_kinds ts
closed ts = flat_map-append term_kind ts (t.CloseRound ∷ []) ∙ append-nil (term_kinds ts)

operator_calls : (op : Term) (k : ℕ) → tier_of op ≡ suc k → term_kind op ≡ []
operator_calls (t.Function f) k o = absurd (omega arith)
operator_calls _ k o = refl

abbrev node_kinds : Node → Kinds
node_kinds (g.at k x) = stored_kinds x
node_kinds (g.rest k ps) = operands_ask ps
node_kinds (g.signed n x) = stored_kinds x
node_kinds (g.primary x) = stored_kinds x
node_kinds (g.args xs) = flat_map stored_kinds xs
node_kinds (g.preds xs) = flat_map stored_kinds xs
node_kinds (g.test n) = []
node_kinds (g.step s) = kinds_within s
node_kinds (g.steps ss) = flat_map kinds_within ss

pub asked : {ts : List Term} {node : Node} → Reads ts node → node_kinds node ≡ term_kinds ts
asked (g.path_here {ss = ss} r) = asking.at_here ss ∙ asked r
asked g.path_root = asking.at_root []
asked (g.path_from_root {ss = ss} r) = asking.at_root ss ∙ asked r
asked (g.path_below_root {ss = ss} r) = asking.at_root (any_below ∷ ss) ∙ asked r
asked (g.filter {ts = ts} {a = a} {b = b} {x = x} {ps = ps} r q is) = filtered_ask x ps ∙ together ts a b (stored_kinds x) (flat_map stored_kinds ps) is (asked r) (asked q)
asked (g.filter_path {ts = ts} {a = a} {b = b} {c = c} {x = x} {ps = ps} {ss = ss} r q u is) =
    let first = stored_kinds x in
    let second = flat_map stored_kinds ps in
    let third = flat_map kinds_within ss in
    asking.at_from (filtered x ps) ss ∙ ap (λ ks. ks ++ third) (filtered_ask x ps) ∙ append_assoc first second third
    ∙ together ts a (b ++ t.Slash ∷ c) first (second ++ third) is (asked r) (together (b ++ t.Slash ∷ c) b (t.Slash ∷ c) second third refl (asked q) (asked u))
asked (g.filter_below {ts = ts} {a = a} {b = b} {c = c} {x = x} {ps = ps} {ss = ss} r q u is) =
    let first = stored_kinds x in
    let second = flat_map stored_kinds ps in
    let third = flat_map kinds_within ss in
    asking.at_from (filtered x ps) (any_below ∷ ss) ∙ ap (λ ks. ks ++ third) (filtered_ask x ps) ∙ append_assoc first second third
    ∙ together ts a (b ++ t.DoubleSlash ∷ c) first (second ++ third) is (asked r) (together (b ++ t.DoubleSlash ∷ c) b (t.DoubleSlash ∷ c) second third refl (asked q) (asked u))
asked (g.signs {n = n} {x = x} r) = negated_ask n x ∙ asked r
asked (g.no_sign r) = asked r
asked (g.sign r) = asked r
asked (g.tier {ts = ts} {a = a} {b = b} {k = k} {x = x} {ps = ps} j r q is) = made_ask (suc k) x ps ∙ together ts a b (stored_kinds x) (operands_ask ps) is (asked r) (asked q)
asked g.rest_end = refl
asked (g.rest_more {ts = ts} {a = a} {b = b} {k = k} {op = op} {x = x} {ps = ps} o r q is) =
    together ts a b (stored_kinds x) (operands_ask ps) is (asked r) (asked q) ∙ sym (ap (λ ks. ks ++ term_kinds ts) (operator_calls op k o))
asked (g.literal {s = s}) = asking.at_literal s
asked (g.number {n = n}) = asking.at_number n
asked g.fraction = asking.at_number _
asked g.too_large = asking.at_number _
asked g.variable = asking.at_literal []
asked (g.round {ts = ts} r) = asked r ∙ sym (closed ts)
asked (g.call_none {g = f}) = asking.at_call f []
asked (g.call {ts = ts} {g = f} {xs = xs} r) = asking.at_call f xs ∙ ap (λ ks. func_kinds f ++ ks) (asked r ∙ sym (closed ts))
asked g.unknown_none = asking.at_call func.Last []
asked (g.unknown {ts = ts} {xs = xs} r) = asking.at_call func.Last xs ∙ asked r ∙ sym (closed ts)
asked (g.args_one {x = x} r) = append-nil (stored_kinds x) ∙ asked r
asked (g.args_more {ts = ts} {a = a} {b = b} {x = x} {xs = xs} r q is) = together ts a (t.Comma ∷ b) (stored_kinds x) (flat_map stored_kinds xs) is (asked r) (asked q)
asked g.preds_end = refl
asked (g.preds_more {ts = ts} {a = a} {b = b} {x = x} {xs = xs} r q is) = together ts a (t.CloseSquare ∷ b) (stored_kinds x) (flat_map stored_kinds xs) is (asked r) (asked q)
asked g.any_name = refl
asked g.name = refl
asked g.prefixed = refl
asked g.of_type = refl
asked g.instruction_named = refl
asked (g.step_child {ts = ts} {a = a} {b = b} {ps = ps} r q is) = together ts a b [] (flat_map stored_kinds ps) is (asked r) (asked q)
asked (g.step_attribute {ts = ts} {a = a} {b = b} {ps = ps} r q is) = together ts a b [] (flat_map stored_kinds ps) is (asked r) (asked q)
asked (g.step_axis {ts = ts} {a = a} {b = b} {ps = ps} r q is) = together ts a b [] (flat_map stored_kinds ps) is (asked r) (asked q)
asked g.step_self = refl
asked g.step_parent = refl
asked (g.steps_one {s = s} r) = append-nil (kinds_within s) ∙ asked r
asked (g.steps_more {ts = ts} {a = a} {b = b} {s = s} {ss = ss} r q is) = together ts a (t.Slash ∷ b) (kinds_within s) (flat_map kinds_within ss) is (asked r) (asked q)
asked (g.steps_below {ts = ts} {a = a} {b = b} {s = s} {ss = ss} r q is) = together ts a (t.DoubleSlash ∷ b) (kinds_within s) (flat_map kinds_within ss) is (asked r) (asked q)

-- ---- what the terms of tokens call is stored

-- no entry of the table is a stored test
functions_plain : (ps : List (Text × Func)) → AllByRecursion (λ p. func_kinds p.1 ≡ []) ps → (w : Text) → term_kind (function_term (named_in ps w)) ≡ []
functions_plain [] h w = refl
functions_plain (p ∷ ps) h w = by (bytes_eq w p.0) (functions_plain ps h.1 w)
  where
    by : (b : Bool) → term_kind (function_term (named_in ps w)) ≡ [] → term_kind (function_term (if b then Some p.1 else named_in ps w)) ≡ []
    by true later = h.0
    by false later = later

function_plain : (w : Text) → term_kind (function_term (named_in function_names w)) ≡ []
unfolding function_names
function_plain w = functions_plain function_names (refl, (refl, (refl, (refl, (refl, (refl, (refl, (refl, (refl, (refl, (refl, (refl, (refl, (refl, (refl, (refl, (refl, (refl, (refl, (refl, (refl, (refl, (refl, (refl, (refl, (refl, (refl, tt))))))))))))))))))))))))))) w

operators_plain : (ps : List (Text × Term)) → AllByRecursion (λ p. term_kind p.1 ≡ []) ps → (w : Text) → term_kind (operator_term (named_in ps w)) ≡ []
operators_plain [] h w = refl
operators_plain (p ∷ ps) h w = by (bytes_eq w p.0) (operators_plain ps h.1 w)
  where
    by : (b : Bool) → term_kind (operator_term (named_in ps w)) ≡ [] → term_kind (operator_term (if b then Some p.1 else named_in ps w)) ≡ []
    by true later = h.0
    by false later = later

operator_plain : (w : Text) → term_kind (operator_term (named_in operator_names w)) ≡ []
unfolding operator_names
operator_plain w = operators_plain operator_names (refl, (refl, (refl, (refl, tt)))) w

axis_plain : (o : Option Axis) → term_kind (axis_term o) ≡ []
axis_plain (Some a) = refl
axis_plain None = refl

number_plain : (w : Text) → term_kind (number_term w) ≡ []
number_plain w = by (list_any (λ b. b == 46) w) (nat_le (digits_value w) largest_whole)
  where
    by : (p q : Bool) → term_kind (if p then t.Fraction else if q then t.Number (pos (digits_value w)) else t.TooLarge) ≡ []
    by true q = refl
    by false true = refl
    by false false = refl

module _ (tests : Known) where
  abbrev Stored : Kinds → Type 0
  Stored ks = All (λ kind. HasKind kind tests) ks

  plain : (ks : Kinds) → ks ≡ [] → Stored ks
  plain ks h = subst Stored (sym h) (All-nil (λ kind. HasKind kind tests))

found_or_stored : (tests : Known) (w : Text) (o : Option Func) (kind : Option TestKind) → term_kind (function_term o) ≡ [] → named_in tests w ≡ kind → Stored tests (term_kind (function_term (or_stored o kind)))
found_or_stored tests w (Some f) kind h is = plain tests (func_kinds f) h
found_or_stored tests w None (Some kind) h is = All-cons (λ kind. HasKind kind tests) kind [] (found_stored (Some kind) tests w (sym is)) (All-nil (λ kind. HasKind kind tests))
found_or_stored tests w None None h is = All-nil (λ kind. HasKind kind tests)

function_stored : (tests : Known) (w : Text) → Stored tests (term_kind (function_term (function_of tests w)))
function_stored [] w = plain [] _ (function_plain w)
function_stored (p ∷ ps) w = found_or_stored (p ∷ ps) w (named_in function_names w) (named_in (p ∷ ps) w) (function_plain w) refl

module _ (tests : Known) where
  called_stored : (n : Option NodeType) (w : Text) → Stored tests (term_kind (called_term_over tests n w))
  called_stored (Some n) w = All-nil (λ kind. HasKind kind tests)
  called_stored None w = function_stored tests w

  name_stored : (next : Option XKind) (w : Text) → Stored tests (term_kind (name_term_over tests next w))
  name_stored (Some k.DoubleColon) w = plain tests _ (axis_plain (named_in axis_names w))
  name_stored (Some k.OpenRound) w = called_stored (named_in node_type_names w) w
  name_stored (Some _) w = All-nil (λ kind. HasKind kind tests)
  name_stored None w = All-nil (λ kind. HasKind kind tests)

  term_stored : (after : Bool) (kind : XKind) (w : Text) (next : Option XKind) → Stored tests (term_kind (term_of_over tests after kind w next))
  term_stored true k.Name w next = plain tests _ (operator_plain w)
  term_stored false k.Name w next = name_stored next w
  term_stored true k.Number w next = plain tests _ (number_plain w)
  term_stored false k.Number w next = plain tests _ (number_plain w)
  term_stored true _ w next = All-nil (λ kind. HasKind kind tests)
  term_stored false _ w next = All-nil (λ kind. HasKind kind tests)

  after_stored : (after : Bool) (ws : List Lexeme) → Stored tests (term_kinds (terms_after_over tests after ws))
  after_stored after [] = All-nil (λ kind. HasKind kind tests)
  after_stored after (w ∷ ws) =
      let found = term_of_over tests after w.kind w.text (next_kind ws) in
      All-append (λ kind. HasKind kind tests) (term_kind found) (term_kinds (terms_after_over tests (is_operand found) ws)) (term_stored after w.kind w.text (next_kind ws)) (after_stored (is_operand found) ws)

pub asks_only : (tests : Known) (text : Text) (x : Expr) → ReadsOver tests text x → AsksOnly tests x
asks_only tests text x r = record { stored = subst (Stored tests) (sym (asked r.reads)) (after_stored tests false r.lexemes) }
