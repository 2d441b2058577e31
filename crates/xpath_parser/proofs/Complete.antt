-- What the rules read, the parser reads.
use Rattle.std.proofs.lemmas.Bool.Decides.{nat_tests}
use Rattle.std.proofs.Common.{◌≡◌, eqb, refl, sym, ◌∙◌, ap, subst, ℕ, zero, suc, ◌+◌, ◌<◌, ◌≤◌, Bool, true, false, List, [], ◌∷◌, ◌++◌, length, Some, arith, append_assoc, append-nil, length-append, inl, inr}
use Rattle.xpath_parser.specs.declared.expression.Expr.{Expr}
use Rattle.xpath_parser.specs.declared.expression.Expr.TheVariants as e
use Rattle.xpath_parser.specs.declared.expression.Func.{Func}
use Rattle.xpath_parser.specs.declared.expression.Func.TheVariants as func
use Rattle.xpath_parser.specs.declared.term.NodeType.{NodeType}
use Rattle.xpath_parser.specs.declared.term.NodeType.TheVariants as node_type
use Rattle.xpath_parser.specs.declared.expression.Start.TheVariants.{Here, Root}
use Rattle.xpath_parser.specs.declared.expression.Step.{Step}
use Rattle.doc_model.specs.declared.NodeTest.{NodeTest}
use Rattle.doc_model.specs.declared.Axis.{Axis}
use Rattle.doc_model.specs.declared.Axis.TheVariants.{Child, Attribute}
use Rattle.xpath_parser.specs.declared.term.Term.{Term}
use Rattle.xpath_parser.specs.declared.term.Term.TheVariants as t
use Rattle.xpath_parser.specs.Grammar as g
use Rattle.xpath_parser.specs.Grammar.{tier_of, Node, Reads}
use Rattle.test_registry.specs.Names.{Known}
use Rattle.xpath_lexer.specs.Tokens.{Text, Lexeme}
use Rattle.xpath_lexer.proofs.Spelling.{one_spelling}
use Rattle.xpath_parser.specs.Terms.{terms_over}
use Rattle.xpath_parser.specs.Reading.{ReadsAs, ReadsOver}
use Rattle.xpath_parser.specs.Reader as p
use Rattle.xpath_parser.specs.Reader.{◌>>=◌}
use Rattle.xpath_parser.proofs.Starting.{Starts, First, begins}

-- the token after what was read ends this tier
abbrev Stop : ℕ → List Term → Type 0
Stop k [] = Unit {0}
Stop k (w ∷ ws) = k < tier_of w

stop_down : (k : ℕ) (more : List Term) → Stop (suc k) more → Stop k more
stop_down k [] h = tt
stop_down k (w ∷ ws) h = omega arith

-- after operators of the tier above, this tier has ended
stop_rest : {b : List Term} {k : ℕ} {ps : g.Operands} (more : List Term) → Reads b (g.rest k ps) → Stop (suc k) more → Stop k (b ++ more)
stop_rest {k = k} more g.rest_end h = stop_down k more h
stop_rest more (g.rest_more o r q is) h = omega (arith, o)

abbrev is_open_square : Term → Bool
is_open_square t.OpenSquare = true
is_open_square _ = false

abbrev NoSquare : List Term → Type 0
NoSquare [] = Unit {0}
NoSquare (w ∷ ws) = is_open_square w ≡ false

abbrev Complete : List Term → Node → Type 0
Complete ts (g.at k x) = (d : ℕ) (more : List Term) → length ts ≤ d → Stop k more → p.tier (p.expr d) k (ts ++ more) ≡ Some (x, more)
Complete ts (g.rest k ps) = (d n : ℕ) (more : List Term) → length ts ≤ d → length ts ≤ n → Stop (suc k) more → p.operators k (p.tier (p.expr d) k) n (ts ++ more) ≡ Some (ps, more)
Complete ts (g.signed n x) = (d m : ℕ) (more : List Term) → length ts ≤ d → length ts ≤ m → Stop 2 more → p.signed (p.tier (p.expr d) 1) m (ts ++ more) ≡ Some ((n, x), more)
Complete ts (g.primary x) = (d : ℕ) (more : List Term) → length ts ≤ d → p.primary (p.expr d) (ts ++ more) ≡ Some (x, more)
Complete ts (g.args xs) = (d n : ℕ) (more : List Term) → length ts < d → length ts ≤ n → p.args (p.expr d) n (ts ++ t.CloseRound ∷ more) ≡ Some (xs, t.CloseRound ∷ more)
Complete ts (g.preds xs) = (d n : ℕ) (more : List Term) → length ts ≤ d → length ts ≤ n → NoSquare more → p.preds (p.expr d) n (ts ++ more) ≡ Some (xs, more)
Complete ts (g.test n) = (more : List Term) → p.test (ts ++ more) ≡ Some (n, more)
Complete ts (g.step s) = (d : ℕ) (more : List Term) → length ts ≤ d → NoSquare more → p.step (p.expr d) (ts ++ more) ≡ Some (s, more)
Complete ts (g.steps ss) = (d n : ℕ) (more : List Term) → length ts ≤ d → length ts ≤ n → Stop 0 more → p.steps (p.expr d) n (ts ++ more) ≡ Some (ss, more)

-- ---- one token of lookahead

module _ (inner : p.Parser Expr) where
  preds_stop : (n : ℕ) (more : List Term) → NoSquare more → p.preds inner n more ≡ Some ([], more)
  preds_stop zero more h = refl
  preds_stop (suc n) [] h = refl
  preds_stop (suc n) (t.OpenSquare ∷ ws) h = cc
  preds_stop (suc n) (_ ∷ ws) h = refl

  root_stop : (more : List Term) → Stop 0 more → p.after_root inner more ≡ Some (e.Path Root [], more)
  root_stop [] h = refl
  root_stop (t.Dot ∷ ws) h = absurd (omega arith)
  root_stop (t.DotDot ∷ ws) h = absurd (omega arith)
  root_stop (t.At ∷ ws) h = absurd (omega arith)
  root_stop (t.Axis a ∷ ws) h = absurd (omega arith)
  root_stop (t.AnyName ∷ ws) h = absurd (omega arith)
  root_stop (t.Name n ∷ ws) h = absurd (omega arith)
  root_stop (t.Prefixed ∷ ws) h = absurd (omega arith)
  root_stop (t.NodeType n ∷ ws) h = absurd (omega arith)
  root_stop (_ ∷ ws) h = refl

  filter_stop : (x : Expr) (more : List Term) → Stop 0 more → p.after_filter inner x more ≡ Some (x, more)
  filter_stop x [] h = refl
  filter_stop x (t.Slash ∷ ws) h = absurd (omega arith)
  filter_stop x (t.DoubleSlash ∷ ws) h = absurd (omega arith)
  filter_stop x (_ ∷ ws) h = refl

  path_step : (w : Term) (ws : List Term) → p.begins_step w ≡ true → p.path inner (w ∷ ws) ≡ p.relative inner Here [] (w ∷ ws)
  path_step t.Dot ws h = refl
  path_step t.DotDot ws h = refl
  path_step t.At ws h = refl
  path_step (t.Axis a) ws h = refl
  path_step t.AnyName ws h = refl
  path_step (t.Name n) ws h = refl
  path_step t.Prefixed ws h = refl
  path_step (t.NodeType n) ws h = refl
  path_step _ ws h = cc

  root_step : (w : Term) (ws : List Term) → p.begins_step w ≡ true → p.after_root inner (w ∷ ws) ≡ p.relative inner Root [] (w ∷ ws)
  root_step t.Dot ws h = refl
  root_step t.DotDot ws h = refl
  root_step t.At ws h = refl
  root_step (t.Axis a) ws h = refl
  root_step t.AnyName ws h = refl
  root_step (t.Name n) ws h = refl
  root_step t.Prefixed ws h = refl
  root_step (t.NodeType n) ws h = refl
  root_step _ ws h = cc

  path_primary : (w : Term) (ws : List Term) → p.begins_primary w ≡ true → p.path inner (w ∷ ws) ≡ p.filtered_path inner (w ∷ ws)
  path_primary t.OpenRound ws h = refl
  path_primary (t.Function f) ws h = refl
  path_primary t.UnknownFunction ws h = refl
  path_primary (t.Literal s) ws h = refl
  path_primary (t.Number n) ws h = refl
  path_primary t.Fraction ws h = refl
  path_primary t.TooLarge ws h = refl
  path_primary t.Variable ws h = refl
  path_primary _ ws h = cc

  call_some : (f : Func) (w : Term) (ws : List Term) → Starts 8 w → p.call inner f (w ∷ ws) ≡ p.some_args inner f (w ∷ ws)
  call_some f t.CloseRound ws (inl h) = cc
  call_some f t.CloseRound ws (inr h) = let no : t.CloseRound ≡ t.Minus = h.0 in cc
  call_some f _ ws h = refl

  -- the terms of a node test begin no abbreviated step
  step_plain : (n : NodeTest) (a b : List Term) → Reads a (g.test n) → p.step inner (a ++ b) ≡ p.tested inner Child (a ++ b)
  step_plain n a b r = plain r
    where
      plain : {ts : List Term} {test : NodeTest} → Reads ts (g.test test) → p.step inner (ts ++ b) ≡ p.tested inner Child (ts ++ b)
      plain g.any_name = refl
      plain g.name = refl
      plain g.prefixed = refl
      plain g.of_type = refl
      plain g.instruction_named = refl

after_step_stop : (m : p.Parser (List Step)) (s : Step) (more : List Term) → Stop 0 more → p.after_step m s more ≡ Some (s ∷ [], more)
after_step_stop m s [] h = refl
after_step_stop m s (t.Slash ∷ ws) h = absurd (omega arith)
after_step_stop m s (t.DoubleSlash ∷ ws) h = absurd (omega arith)
after_step_stop m s (_ ∷ ws) h = refl

no_minus : (sub : p.Parser Expr) (n : ℕ) (w : Term) (ws : List Term) → Starts 1 w → p.signed sub (suc n) (w ∷ ws) ≡ (sub (w ∷ ws) >>= (λ r. Some ((0, r.0), r.1)))
no_minus sub n t.Minus ws (inl h) = cc
no_minus sub n t.Minus ws (inr h) = absurd (omega (arith, h.1))
no_minus sub n _ ws h = refl

operators_stop : (k : ℕ) (sub : p.Parser Expr) (n : ℕ) (more : List Term) → Stop (suc k) more → p.operators k sub n more ≡ Some ([], more)
operators_stop k sub zero more h = refl
operators_stop k sub (suc n) [] h = refl
operators_stop k sub (suc n) (w ∷ ws) h = let differs : eqb (tier_of w) (suc k) ≡ false = grind (arith, nat_tests) in rw differs refl

no_square : (more : List Term) → Stop 0 more → NoSquare more
no_square [] h = tt
no_square (t.OpenSquare ∷ ws) h = absurd (omega arith)
no_square (_ ∷ ws) h = refl

-- ---- each rule

expr_suc : (d : ℕ) (ts : List Term) → p.expr (suc d) ts ≡ p.tier (p.expr d) 8 ts
unfolding p.expr
expr_suc d ts = refl

path_by_step : (inner : p.Parser Expr) (ts more : List Term) → First (λ w. p.begins_step w ≡ true) ts → p.path inner (ts ++ more) ≡ p.relative inner Here [] (ts ++ more)
path_by_step inner ts more f = rw f.is (path_step inner f.head (f.tail ++ more) f.fits)

root_by_step : (inner : p.Parser Expr) (ts more : List Term) → First (λ w. p.begins_step w ≡ true) ts → p.after_root inner (ts ++ more) ≡ p.relative inner Root [] (ts ++ more)
root_by_step inner ts more f = rw f.is (root_step inner f.head (f.tail ++ more) f.fits)

path_by_primary : (inner : p.Parser Expr) (ts more : List Term) → First (λ w. p.begins_primary w ≡ true) ts → p.path inner (ts ++ more) ≡ p.filtered_path inner (ts ++ more)
path_by_primary inner ts more f = rw f.is (path_primary inner f.head (f.tail ++ more) f.fits)

call_by_some : (inner : p.Parser Expr) (f : Func) (ts more : List Term) → First (Starts 8) ts → p.call inner f (ts ++ more) ≡ p.some_args inner f (ts ++ more)
call_by_some inner f ts more s = rw s.is (call_some inner f s.head (s.tail ++ more) s.fits)

-- a node that begins with a token is not empty
not_empty : {P : Term → Type 0} (ts : List Term) → First P ts → 0 < length ts
not_empty ts f = rw f.is (omega arith)

signed_by_none : (sub : p.Parser Expr) (n : ℕ) (ts more : List Term) → First (Starts 1) ts → length ts ≤ n → p.signed sub n (ts ++ more) ≡ (sub (ts ++ more) >>= (λ r. Some ((0, r.0), r.1)))
signed_by_none sub zero ts more s le = absurd (omega (arith, not_empty ts s))
signed_by_none sub (suc n) ts more s le = rw s.is (no_minus sub n s.head (s.tail ++ more) s.fits)

sign_complete : (sub : p.Parser Expr) (n : ℕ) (x : Expr) (m : ℕ) (ts more : List Term) → suc (length ts) ≤ m → ((k : ℕ) → length ts ≤ k → p.signed sub k (ts ++ more) ≡ Some ((n, x), more)) → p.signed sub m (t.Minus ∷ (ts ++ more)) ≡ Some ((suc n, x), more)
sign_complete sub n x zero ts more le ih = absurd (omega arith)
sign_complete sub n x (suc m) ts more le ih = rw (ih m (omega arith)) refl

module _ (ts a b : List Term) (k : ℕ) (x : Expr) (ps : g.Operands) (d : ℕ) (more : List Term) where
  tier_complete : g.is_joined (suc k) ≡ true → ts ≡ a ++ b → p.tier (p.expr d) k (a ++ (b ++ more)) ≡ Some (x, b ++ more)
      → p.operators k (p.tier (p.expr d) k) (length (b ++ more)) (b ++ more) ≡ Some (ps, more) → p.tier (p.expr d) (suc k) (ts ++ more) ≡ Some (g.made (suc k) x ps, more)
  tier_complete j is left right = ap (λ v. p.tier_by (p.expr d) v k (p.tier (p.expr d) k) (ts ++ more)) j ∙ rw (is, append_assoc, left, right) refl

rest_complete : (ts a b : List Term) (k : ℕ) (op : Term) (x : Expr) (ps : g.Operands) (d n : ℕ) (more : List Term) → tier_of op ≡ suc k → ts ≡ a ++ b → suc (length ts) ≤ n
    → p.tier (p.expr d) k (a ++ (b ++ more)) ≡ Some (x, b ++ more)
    → ((m : ℕ) → length b ≤ m → p.operators k (p.tier (p.expr d) k) m (b ++ more) ≡ Some (ps, more))
    → p.operators k (p.tier (p.expr d) k) n (op ∷ (ts ++ more)) ≡ Some ((op, x) ∷ ps, more)
rest_complete ts a b k op x ps d zero more o is fuel left right = absurd (omega arith)
rest_complete ts a b k op x ps d (suc n) more o is fuel left right =
    let lens : length ts ≡ length a + length b = ap length is ∙ length-append a b in
    let same : eqb (tier_of op) (suc k) ≡ true = grind (arith, nat_tests) in
    rw (same, is, append_assoc, left, right n (omega arith)) refl

round_complete : (ts : List Term) (x : Expr) (d : ℕ) (more : List Term) → ((below : ℕ) → length ts ≤ below → 8 < 9 → p.tier (p.expr below) 8 (ts ++ t.CloseRound ∷ more) ≡ Some (x, t.CloseRound ∷ more))
    → length ts < d → p.primary (p.expr d) (t.OpenRound ∷ ((ts ++ t.CloseRound ∷ []) ++ more)) ≡ Some (x, more)
round_complete ts x zero more ih le = absurd (omega arith)
round_complete ts x (suc d) more ih le =
    rw (append_assoc, expr_suc d (ts ++ t.CloseRound ∷ more)) (rw (ih d (omega arith) (omega arith)) refl)

arg_one_complete : (ts : List Term) (x : Expr) (d n : ℕ) (more : List Term) → ((below : ℕ) → length ts ≤ below → 8 < 9 → p.tier (p.expr below) 8 (ts ++ t.CloseRound ∷ more) ≡ Some (x, t.CloseRound ∷ more))
    → length ts < d → 0 < n → p.args (p.expr d) n (ts ++ t.CloseRound ∷ more) ≡ Some (x ∷ [], t.CloseRound ∷ more)
arg_one_complete ts x zero n more ih le fuel = absurd (omega arith)
arg_one_complete ts x (suc d) zero more ih le fuel = absurd (omega arith)
arg_one_complete ts x (suc d) (suc n) more ih le fuel = rw (expr_suc d (ts ++ t.CloseRound ∷ more)) (rw (ih d (omega arith) (omega arith)) refl)

arg_more_complete : (ts a b : List Term) (x : Expr) (xs : List Expr) (d n : ℕ) (more : List Term) → ts ≡ a ++ t.Comma ∷ b
    → ((below : ℕ) → length a ≤ below → 8 < 9 → p.tier (p.expr below) 8 (a ++ t.Comma ∷ (b ++ t.CloseRound ∷ more)) ≡ Some (x, t.Comma ∷ (b ++ t.CloseRound ∷ more)))
    → ((m : ℕ) → length b < d → length b ≤ m → p.args (p.expr d) m (b ++ t.CloseRound ∷ more) ≡ Some (xs, t.CloseRound ∷ more))
    → length ts ≡ length a + suc (length b) → length ts < d → length ts ≤ n → p.args (p.expr d) n (ts ++ t.CloseRound ∷ more) ≡ Some (x ∷ xs, t.CloseRound ∷ more)
arg_more_complete ts a b x xs zero n more is ih iq lens le fuel = absurd (omega arith)
arg_more_complete ts a b x xs (suc d) zero more is ih iq lens le fuel = absurd (omega arith)
arg_more_complete ts a b x xs (suc d) (suc n) more is ih iq lens le fuel =
    ap (λ v. p.args (p.expr (suc d)) (suc n) (v ++ t.CloseRound ∷ more)) is ∙ rw (append_assoc a (t.Comma ∷ b) (t.CloseRound ∷ more), expr_suc d (a ++ t.Comma ∷ (b ++ t.CloseRound ∷ more))) (rw (ih d (omega arith) (omega arith)) (rw (iq n (omega arith) (omega arith)) refl))

pred_more_complete : (ts a b : List Term) (x : Expr) (xs : List Expr) (d n : ℕ) (more : List Term) → ts ≡ a ++ t.CloseSquare ∷ b
    → ((below : ℕ) → length a ≤ below → 8 < 9 → p.tier (p.expr below) 8 (a ++ t.CloseSquare ∷ (b ++ more)) ≡ Some (x, t.CloseSquare ∷ (b ++ more)))
    → ((m : ℕ) → length b ≤ d → length b ≤ m → p.preds (p.expr d) m (b ++ more) ≡ Some (xs, more))
    → length ts ≡ length a + suc (length b) → suc (length ts) ≤ d → suc (length ts) ≤ n → p.preds (p.expr d) n (t.OpenSquare ∷ (ts ++ more)) ≡ Some (x ∷ xs, more)
pred_more_complete ts a b x xs zero n more is ih iq lens le fuel = absurd (omega arith)
pred_more_complete ts a b x xs (suc d) zero more is ih iq lens le fuel = absurd (omega arith)
pred_more_complete ts a b x xs (suc d) (suc n) more is ih iq lens le fuel =
    ap (λ v. p.preds (p.expr (suc d)) (suc n) (t.OpenSquare ∷ (v ++ more))) is ∙ rw (append_assoc a (t.CloseSquare ∷ b) more, expr_suc d (a ++ t.CloseSquare ∷ (b ++ more))) (rw (ih d (omega arith) (omega arith)) (rw (iq n (omega arith) (omega arith)) refl))

step_one_complete : (ts : List Term) (s : Step) (d n : ℕ) (more : List Term) → p.step (p.expr d) (ts ++ more) ≡ Some (s, more) → Stop 0 more → 0 < n → p.steps (p.expr d) n (ts ++ more) ≡ Some (s ∷ [], more)
step_one_complete ts s d zero more left stop fuel = absurd (omega arith)
step_one_complete ts s d (suc n) more left stop fuel = rw left (after_step_stop (p.steps (p.expr d) n) s more stop)

step_more_complete : (ts a b : List Term) (s : Step) (ss : List Step) (d n : ℕ) (more : List Term) → ts ≡ a ++ t.Slash ∷ b → p.step (p.expr d) (a ++ t.Slash ∷ (b ++ more)) ≡ Some (s, t.Slash ∷ (b ++ more))
    → ((m : ℕ) → length b ≤ m → p.steps (p.expr d) m (b ++ more) ≡ Some (ss, more)) → length ts ≡ length a + suc (length b) → length ts ≤ n → p.steps (p.expr d) n (ts ++ more) ≡ Some (s ∷ ss, more)
step_more_complete ts a b s ss d zero more is left right lens fuel = absurd (omega arith)
step_more_complete ts a b s ss d (suc n) more is left right lens fuel =
    ap (λ v. p.steps (p.expr d) (suc n) (v ++ more)) is ∙ rw (append_assoc a (t.Slash ∷ b) more, left, right n (omega arith)) refl

step_below_complete : (ts a b : List Term) (s : Step) (ss : List Step) (d n : ℕ) (more : List Term) → ts ≡ a ++ t.DoubleSlash ∷ b → p.step (p.expr d) (a ++ t.DoubleSlash ∷ (b ++ more)) ≡ Some (s, t.DoubleSlash ∷ (b ++ more))
    → ((m : ℕ) → length b ≤ m → p.steps (p.expr d) m (b ++ more) ≡ Some (ss, more)) → length ts ≡ length a + suc (length b) → length ts ≤ n → p.steps (p.expr d) n (ts ++ more) ≡ Some (s ∷ g.any_below ∷ ss, more)
step_below_complete ts a b s ss d zero more is left right lens fuel = absurd (omega arith)
step_below_complete ts a b s ss d (suc n) more is left right lens fuel =
    ap (λ v. p.steps (p.expr d) (suc n) (v ++ more)) is ∙ rw (append_assoc a (t.DoubleSlash ∷ b) more, left, right n (omega arith)) refl

typed_complete : (n : NodeType) (more : List Term) → p.test (t.NodeType n ∷ t.OpenRound ∷ t.CloseRound ∷ more) ≡ Some (g.test_of_type n, more)
typed_complete node_type.Node more = refl
typed_complete node_type.Text more = refl
typed_complete node_type.Comment more = refl
typed_complete node_type.Instruction more = refl

tested_complete : (axis : Axis) (n : NodeTest) (a b : List Term) (ps : List Expr) (d : ℕ) (more : List Term) → p.test (a ++ (b ++ more)) ≡ Some (n, b ++ more)
    → p.preds (p.expr d) (length (b ++ more)) (b ++ more) ≡ Some (ps, more) → p.tested (p.expr d) axis (a ++ (b ++ more)) ≡ Some (g.step_of axis n ps, more)
tested_complete axis n a b ps d more left right = rw (left, right) refl

complete : {ts : List Term} {node : Node} → Reads ts node → Complete ts node
complete (g.path_here {ts = ts} r) = λ d more le stop.
    path_by_step (p.expr d) ts more (begins r) ∙ rw (complete r d (length (ts ++ more)) more le (omega (arith, length-append ts more)) stop) refl
complete g.path_root = λ d more le stop. root_stop (p.expr d) more stop
complete (g.path_from_root {ts = ts} r) = λ d more le stop.
    root_by_step (p.expr d) ts more (begins r) ∙ rw (complete r d (length (ts ++ more)) more (omega arith) (omega (arith, length-append ts more)) stop) refl
complete (g.path_below_root {ts = ts} r) = λ d more le stop.
    rw (complete r d (length (ts ++ more)) more (omega arith) (omega (arith, length-append ts more)) stop) refl
complete (g.filter {ts = ts} {a = a} {b = b} {x = x} {ps = ps} r q is) = λ d more le stop.
    let lens : length ts ≡ length a + length b = ap length is ∙ length-append a b in
    ap (λ v. p.path (p.expr d) (v ++ more)) is ∙ ap (p.path (p.expr d)) (append_assoc a b more)
    ∙ path_by_primary (p.expr d) a (b ++ more) (begins r)
    ∙ rw (complete r d (b ++ more) (omega arith), complete q d (length (b ++ more)) more (omega arith) (omega (arith, length-append b more)) (no_square more stop)) (filter_stop (p.expr d) (g.filtered x ps) more stop)
complete (g.filter_path {ts = ts} {a = a} {b = b} {c = c} {x = x} {ps = ps} r q u is) = λ d more le stop.
    let lens : length ts ≡ length a + (length b + suc (length c)) = ap length is ∙ length-append a (b ++ t.Slash ∷ c) ∙ ap (λ n. length a + n) (length-append b (t.Slash ∷ c)) in
    let rest : List Term = t.Slash ∷ (c ++ more) in
    ap (λ v. p.path (p.expr d) (v ++ more)) is ∙ ap (p.path (p.expr d)) (append_assoc a (b ++ t.Slash ∷ c) more ∙ ap (λ v. a ++ v) (append_assoc b (t.Slash ∷ c) more))
    ∙ path_by_primary (p.expr d) a (b ++ rest) (begins r)
    ∙ rw (complete r d (b ++ rest) (omega arith), complete q d (length (b ++ rest)) rest (omega arith) (omega (arith, length-append b rest)) refl)
    (rw (complete u d (length (c ++ more)) more (omega arith) (omega (arith, length-append c more)) stop) refl)
complete (g.filter_below {ts = ts} {a = a} {b = b} {c = c} {x = x} {ps = ps} r q u is) = λ d more le stop.
    let lens : length ts ≡ length a + (length b + suc (length c)) = ap length is ∙ length-append a (b ++ t.DoubleSlash ∷ c) ∙ ap (λ n. length a + n) (length-append b (t.DoubleSlash ∷ c)) in
    let rest : List Term = t.DoubleSlash ∷ (c ++ more) in
    ap (λ v. p.path (p.expr d) (v ++ more)) is ∙ ap (p.path (p.expr d)) (append_assoc a (b ++ t.DoubleSlash ∷ c) more ∙ ap (λ v. a ++ v) (append_assoc b (t.DoubleSlash ∷ c) more))
    ∙ path_by_primary (p.expr d) a (b ++ rest) (begins r)
    ∙ rw (complete r d (b ++ rest) (omega arith), complete q d (length (b ++ rest)) rest (omega arith) (omega (arith, length-append b rest)) refl)
    (rw (complete u d (length (c ++ more)) more (omega arith) (omega (arith, length-append c more)) stop) refl)
complete (g.signs {ts = ts} r) = λ d more le stop. rw (complete r d (length (ts ++ more)) more le (omega (arith, length-append ts more)) stop) refl
complete (g.no_sign {ts = ts} r) = λ d m more le fuel stop.
    signed_by_none (p.tier (p.expr d) 1) m ts more (begins r) fuel ∙ rw (complete r d more le (stop_down 1 more stop)) refl
complete (g.sign {ts = ts} {n = n} {x = x} r) = λ d m more le fuel stop. sign_complete (p.tier (p.expr d) 1) n x m ts more fuel (λ k low. complete r d k more (omega arith) low stop)
complete (g.tier {ts = ts} {a = a} {b = b} {k = k} {x = x} {ps = ps} j r q is) = λ d more le stop.
    let lens : length ts ≡ length a + length b = ap length is ∙ length-append a b in
    tier_complete ts a b k x ps d more j is (complete r d (b ++ more) (omega arith) (stop_rest more q stop))
    (complete q d (length (b ++ more)) more (omega arith) (omega (arith, length-append b more)) stop)
complete (g.rest_end {k = k}) = λ d n more le fuel stop. operators_stop k (p.tier (p.expr d) k) n more stop
complete (g.rest_more {ts = ts} {a = a} {b = b} {k = k} {op = op} {x = x} {ps = ps} o r q is) = λ d n more le fuel stop.
    let lens : length ts ≡ length a + length b = ap length is ∙ length-append a b in
    rest_complete ts a b k op x ps d n more o is fuel (complete r d (b ++ more) (omega arith) (stop_rest more q stop))
    (λ m low. complete q d m more (omega arith) low stop)
complete g.literal = λ d more le. refl
complete g.number = λ d more le. refl
complete g.fraction = λ d more le. refl
complete g.too_large = λ d more le. refl
complete g.variable = λ d more le. refl
complete (g.round {ts = ts} {x = x} r) = λ d more le.
    let lens : length (ts ++ t.CloseRound ∷ []) ≡ length ts + 1 = length-append ts (t.CloseRound ∷ []) in
    round_complete ts x d more (λ below. complete r below (t.CloseRound ∷ more)) (omega arith)
complete g.call_none = λ d more le. refl
complete (g.call {ts = ts} {g = f} {xs = xs} r) = λ d more le.
    let lens : length (ts ++ t.CloseRound ∷ []) ≡ length ts + 1 = length-append ts (t.CloseRound ∷ []) in
    ap (p.call (p.expr d) f) (append_assoc ts (t.CloseRound ∷ []) more) ∙ call_by_some (p.expr d) f ts (t.CloseRound ∷ more) (begins r)
    ∙ rw (complete r d (length (ts ++ t.CloseRound ∷ more)) more (omega arith) (omega (arith, length-append ts (t.CloseRound ∷ more)))) refl
complete g.unknown_none = λ d more le. refl
complete (g.unknown {ts = ts} {xs = xs} r) = λ d more le.
    let lens : length (ts ++ t.CloseRound ∷ []) ≡ length ts + 1 = length-append ts (t.CloseRound ∷ []) in
    ap (p.call (p.expr d) func.Last) (append_assoc ts (t.CloseRound ∷ []) more) ∙ call_by_some (p.expr d) func.Last ts (t.CloseRound ∷ more) (begins r)
    ∙ rw (complete r d (length (ts ++ t.CloseRound ∷ more)) more (omega arith) (omega (arith, length-append ts (t.CloseRound ∷ more)))) refl
complete (g.args_one {ts = ts} {x = x} r) = λ d n more le fuel.
    arg_one_complete ts x d n more (λ below. complete r below (t.CloseRound ∷ more)) le (omega (arith, not_empty ts (begins r)))
complete (g.args_more {ts = ts} {a = a} {b = b} {x = x} {xs = xs} r q is) = λ d n more le fuel.
    let lens : length ts ≡ length a + suc (length b) = ap length is ∙ length-append a (t.Comma ∷ b) in
    arg_more_complete ts a b x xs d n more is (λ below. complete r below (t.Comma ∷ (b ++ t.CloseRound ∷ more))) (λ m. complete q d m more) lens le fuel
complete g.preds_end = λ d n more le fuel stop. preds_stop (p.expr d) n more stop
complete (g.preds_more {ts = ts} {a = a} {b = b} {x = x} {xs = xs} r q is) = λ d n more le fuel stop.
    let lens : length ts ≡ length a + suc (length b) = ap length is ∙ length-append a (t.CloseSquare ∷ b) in
    pred_more_complete ts a b x xs d n more is (λ below. complete r below (t.CloseSquare ∷ (b ++ more))) (λ m low fits. complete q d m more low fits stop) lens le fuel
complete g.any_name = λ more. refl
complete g.name = λ more. refl
complete g.prefixed = λ more. refl
complete (g.of_type {n = n}) = λ more. typed_complete n more
complete g.instruction_named = λ more. refl
complete (g.step_child {ts = ts} {a = a} {b = b} {n = n} {ps = ps} r q is) = λ d more le stop.
    let lens : length ts ≡ length a + length b = ap length is ∙ length-append a b in
    ap (λ v. p.step (p.expr d) (v ++ more)) is ∙ ap (p.step (p.expr d)) (append_assoc a b more)
    ∙ step_plain (p.expr d) n a (b ++ more) r
    ∙ tested_complete Child n a b ps d more (complete r (b ++ more)) (complete q d (length (b ++ more)) more (omega arith) (omega (arith, length-append b more)) stop)
complete (g.step_attribute {ts = ts} {a = a} {b = b} {n = n} {ps = ps} r q is) = λ d more le stop.
    let lens : length ts ≡ length a + length b = ap length is ∙ length-append a b in
    ap (λ v. p.tested (p.expr d) Attribute (v ++ more)) is ∙ ap (p.tested (p.expr d) Attribute) (append_assoc a b more)
    ∙ tested_complete Attribute n a b ps d more (complete r (b ++ more)) (complete q d (length (b ++ more)) more (omega arith) (omega (arith, length-append b more)) stop)
complete (g.step_axis {ts = ts} {a = a} {b = b} {axis = axis} {n = n} {ps = ps} r q is) = λ d more le stop.
    let lens : length ts ≡ length a + length b = ap length is ∙ length-append a b in
    ap (λ v. p.tested (p.expr d) axis (v ++ more)) is ∙ ap (p.tested (p.expr d) axis) (append_assoc a b more)
    ∙ tested_complete axis n a b ps d more (complete r (b ++ more)) (complete q d (length (b ++ more)) more (omega arith) (omega (arith, length-append b more)) stop)
complete g.step_self = λ d more le stop. refl
complete g.step_parent = λ d more le stop. refl
complete (g.steps_one {ts = ts} {s = s} r) = λ d n more le fuel stop.
    step_one_complete ts s d n more (complete r d more le (no_square more stop)) stop (omega (arith, not_empty ts (begins r)))
complete (g.steps_more {ts = ts} {a = a} {b = b} {s = s} {ss = ss} r q is) = λ d n more le fuel stop.
    let lens : length ts ≡ length a + suc (length b) = ap length is ∙ length-append a (t.Slash ∷ b) in
    step_more_complete ts a b s ss d n more is (complete r d (t.Slash ∷ (b ++ more)) (omega arith) refl) (λ m low. complete q d m more (omega arith) low stop) lens fuel
complete (g.steps_below {ts = ts} {a = a} {b = b} {s = s} {ss = ss} r q is) = λ d n more le fuel stop.
    let lens : length ts ≡ length a + suc (length b) = ap length is ∙ length-append a (t.DoubleSlash ∷ b) in
    step_below_complete ts a b s ss d n more is (complete r d (t.DoubleSlash ∷ (b ++ more)) (omega arith) refl) (λ m low. complete q d m more (omega arith) low stop) lens fuel

-- what the tokens read as is what the parser finds in them, with nothing left
pub found : (ts : List Term) (x : Expr) → g.ReadsWhole ts x → (d : ℕ) → length ts < d → p.expr d ts ≡ Some (x, [])
found ts x r zero le = absurd (omega arith)
found ts x r (suc d) le = expr_suc d ts ∙ ap (p.tier (p.expr d) 8) (sym (append-nil ts)) ∙ complete r d [] (omega arith) tt

some_first : {A : Type 0} {x y : A} {a b : List Term} → ◌≡◌ {A = p.Outcome A} (Some (x, a)) (Some (y, b)) → x ≡ y
some_first {A} {x} {y} {a} {b} h = let pairs : ◌≡◌ {A = A × List Term} (x, a) (y, b) = cc in ap (λ (q : A × List Term). q.0) pairs

pub one_reading : (ts : List Term) (x y : Expr) → g.ReadsWhole ts x → g.ReadsWhole ts y → x ≡ y
one_reading ts x y r q =
    let left : p.expr (suc (length ts)) ts ≡ Some (x, []) = found ts x r (suc (length ts)) (omega arith) in
    let right : p.expr (suc (length ts)) ts ≡ Some (y, []) = found ts y q (suc (length ts)) (omega arith) in
    some_first (sym left ∙ right)

pub one_expression_over : (tests : Known) (text : Text) (x y : Expr) → ReadsOver tests text x → ReadsOver tests text y → x ≡ y
one_expression_over tests text x y r q =
    let same : r.lexemes ≡ q.lexemes = one_spelling q.lexemes r.spelled q.spelled in
    one_reading (terms_over tests q.lexemes) x y (subst (λ (ws : List Lexeme). g.ReadsWhole (terms_over tests ws) x) same r.reads) q.reads

pub one_expression : (text : Text) (x y : Expr) → ReadsAs text x → ReadsAs text y → x ≡ y
one_expression text x y r q = one_expression_over [] text x y r q
