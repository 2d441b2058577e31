-- What the tokens of each node of the grammar begin with.
use Rattle.std.proofs.Common.{◌≡◌, refl, ◌∙◌, ap, ℕ, suc, ◌≤◌, Bool, true, ◌||◌, List, [], ◌∷◌, ◌++◌, arith, inl, inr, ◌⊎◌}
use Rattle.xpath_parser.specs.declared.term.Term.{Term}
use Rattle.xpath_parser.specs.declared.term.Term.TheVariants as t
use Rattle.xpath_parser.specs.Grammar as g
use Rattle.xpath_parser.specs.Grammar.{Node, Reads}
use Rattle.xpath_parser.specs.Reader as p

abbrev pub begins_path : Term → Bool
begins_path t.Slash = true
begins_path t.DoubleSlash = true
begins_path w = p.begins_primary w || p.begins_step w

abbrev pub Starts : ℕ → Term → Type 0
Starts k w = (begins_path w ≡ true) ⊎ ((w ≡ t.Minus) × (2 ≤ k))

pub record First (P : Term → Type 0) (ts : List Term) : Type 0 where
  pub head : Term
  pub tail : List Term
  pub is : ts ≡ head ∷ tail
  pub fits : P head

-- what the tokens of a node begin with
abbrev pub Begins : List Term → Node → Type 0
Begins ts (g.at k x) = First (Starts k) ts
Begins ts (g.signed n x) = First (Starts 2) ts
Begins ts (g.primary x) = First (λ w. p.begins_primary w ≡ true) ts
Begins ts (g.args xs) = First (Starts 8) ts
Begins ts (g.test n) = First (λ w. p.begins_step w ≡ true) ts
Begins ts (g.step s) = First (λ w. p.begins_step w ≡ true) ts
Begins ts (g.steps ss) = First (λ w. p.begins_step w ≡ true) ts
Begins ts _ = Unit {0}

pub weaker : {P Q : Term → Type 0} {ts : List Term} → ((w : Term) → P w → Q w) → First P ts → First Q ts
weaker f s = record { head = s.head; tail = s.tail; is = s.is; fits = f s.head s.fits }

pub further : {P : Term → Type 0} {a ts : List Term} (b : List Term) → ts ≡ a ++ b → First P a → First P ts
further b is s = record { head = s.head; tail = s.tail ++ b; is = is ∙ ap (λ x. x ++ b) s.is; fits = s.fits }

pub step_path : (w : Term) → p.begins_step w ≡ true → begins_path w ≡ true
step_path t.Dot h = refl
step_path t.DotDot h = refl
step_path t.At h = refl
step_path (t.Axis a) h = refl
step_path t.AnyName h = refl
step_path (t.Name n) h = refl
step_path t.Prefixed h = refl
step_path (t.NodeType n) h = refl
step_path _ h = cc

pub primary_path : (w : Term) → p.begins_primary w ≡ true → begins_path w ≡ true
primary_path t.OpenRound h = refl
primary_path (t.Function f) h = refl
primary_path t.UnknownFunction h = refl
primary_path (t.Literal s) h = refl
primary_path (t.Number n) h = refl
primary_path t.Fraction h = refl
primary_path t.TooLarge h = refl
primary_path t.Variable h = refl
primary_path _ h = cc

pub starts_up : (k j : ℕ) → k ≤ j → (w : Term) → Starts k w → Starts j w
starts_up k j le w (inl h) = inl h
starts_up k j le w (inr h) = inr (h.0, omega (arith, h.1))

pub begins : {ts : List Term} {node : Node} → Reads ts node → Begins ts node
begins (g.path_here r) = weaker (λ w h. inl (step_path w h)) (begins r)
begins g.path_root = record { head = t.Slash; tail = []; is = refl; fits = inl refl }
begins (g.path_from_root r) = record { head = t.Slash; tail = _; is = refl; fits = inl refl }
begins (g.path_below_root r) = record { head = t.DoubleSlash; tail = _; is = refl; fits = inl refl }
begins (g.filter r q is) = further _ is (weaker (λ w h. inl (primary_path w h)) (begins r))
begins (g.filter_path r q u is) = further _ is (weaker (λ w h. inl (primary_path w h)) (begins r))
begins (g.filter_below r q u is) = further _ is (weaker (λ w h. inl (primary_path w h)) (begins r))
begins (g.signs r) = begins r
begins (g.no_sign r) = weaker (starts_up 1 2 (omega arith)) (begins r)
begins (g.sign r) = record { head = t.Minus; tail = _; is = refl; fits = inr (refl, omega arith) }
begins (g.tier {k = k} j r q is) = further _ is (weaker (starts_up k (suc k) (omega arith)) (begins r))
begins g.rest_end = tt
begins (g.rest_more o r q is) = tt
begins g.literal = record { head = _; tail = []; is = refl; fits = refl }
begins g.number = record { head = _; tail = []; is = refl; fits = refl }
begins g.fraction = record { head = _; tail = []; is = refl; fits = refl }
begins g.too_large = record { head = _; tail = []; is = refl; fits = refl }
begins g.variable = record { head = _; tail = []; is = refl; fits = refl }
begins (g.round r) = record { head = _; tail = _; is = refl; fits = refl }
begins g.call_none = record { head = _; tail = _; is = refl; fits = refl }
begins (g.call r) = record { head = _; tail = _; is = refl; fits = refl }
begins g.unknown_none = record { head = _; tail = _; is = refl; fits = refl }
begins (g.unknown r) = record { head = _; tail = _; is = refl; fits = refl }
begins (g.args_one r) = begins r
begins (g.args_more r q is) = further _ is (begins r)
begins g.preds_end = tt
begins (g.preds_more r q is) = tt
begins g.any_name = record { head = _; tail = _; is = refl; fits = refl }
begins g.name = record { head = _; tail = _; is = refl; fits = refl }
begins g.prefixed = record { head = _; tail = _; is = refl; fits = refl }
begins g.of_type = record { head = _; tail = _; is = refl; fits = refl }
begins g.instruction_named = record { head = _; tail = _; is = refl; fits = refl }
begins (g.step_child r q is) = further _ is (begins r)
begins (g.step_attribute r q is) = record { head = t.At; tail = _; is = refl; fits = refl }
begins (g.step_axis {axis = a} r q is) = record { head = t.Axis a; tail = _; is = refl; fits = refl }
begins g.step_self = record { head = _; tail = _; is = refl; fits = refl }
begins g.step_parent = record { head = _; tail = _; is = refl; fits = refl }
begins (g.steps_one r) = begins r
begins (g.steps_more r q is) = further _ is (begins r)
begins (g.steps_below r q is) = further _ is (begins r)
