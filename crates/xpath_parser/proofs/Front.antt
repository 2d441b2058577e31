-- A loop that gathers a list, beside the rule that reads it.
use Rattle.std.proofs.Common.{◌≡◌, refl, sym, ◌∙◌, ap, ℕ, suc, ◌+◌, ◌-◌, ◌<◌, ◌≤◌, zero, eqb, map, true, false, List, [], ◌∷◌, ◌++◌, Some, None, append_assoc, append-nil, arith, length, ◌⊎◌, inl, inr}
use Rattle.std.proofs.lemmas.Bool.Decides.{nat_tests}
use Rattle.xpath_parser.specs.declared.expression.Expr.{Expr}
use Rattle.xpath_parser.specs.declared.expression.Step.{Step}
use Rattle.xpath_parser.specs.declared.expression.Expr.TheVariants as e
use Rattle.xpath_parser.specs.declared.expression.Operand.{Operand}
use Rattle.xpath_parser.specs.Grammar.{any_below, tier_of, Operands, operand, made, joined, is_joined}
use Rattle.xpath_parser.specs.declared.term.Term.{Term}
use Rattle.xpath_parser.specs.inner.Parsing.{with_front, mapped, joins_at, made_of, listed}
use Rattle.xpath_parser.specs.Reader
use Rattle.xpath_parser.specs.Reader.{Outcome, Parser, ◌>>=◌, sees, rest, expect, preds, args, steps, operators, after_arg, after_step}

pub front_push : {A : Type 0} (front : List A) (x : A) (r : Outcome (List A)) → with_front front (r >>= (λ q. Some (x ∷ q.0, q.1))) ≡ with_front (front ++ x ∷ []) r
front_push front x None = refl
front_push front x (Some q) = ap (λ xs. Some (xs, q.1)) (sym (append_assoc front (x ∷ []) q.0))

pub front_two : {A : Type 0} (front : List A) (x y : A) (r : Outcome (List A)) → with_front front (r >>= (λ q. Some (x ∷ y ∷ q.0, q.1))) ≡ with_front ((front ++ x ∷ []) ++ y ∷ []) r
front_two front x y None = refl
front_two front x y (Some q) = ap (λ xs. Some (xs, q.1)) (sym (append_assoc (front ++ x ∷ []) (y ∷ []) q.0 ∙ append_assoc front (x ∷ []) (y ∷ q.0)))

pub one_more : {X : Type 0} {x : X} (f : ℕ → X) (n at : ℕ) → at < n → f (n - at) ≡ x → f (suc (n - (at + 1))) ≡ x
one_more f n at below e = let turn : suc (n - (at + 1)) ≡ n - at = omega arith in ap f turn ∙ e

pub no_more : {X : Type 0} {x : X} (f : ℕ → X) (n at : ℕ) → n ≤ at → f (n - at) ≡ x → f 0 ≡ x
no_more f n at done e = let none : 0 ≡ n - at = omega arith in ap f none ∙ e

module _ (inner : Parser Expr) (n : ℕ) (ts : List Term) where
  pub pred_stops : sees 3 ts ≡ false → preds inner (suc n) ts ≡ Some ([], ts)
  pred_stops h = rw h refl

  pub pred_refused : sees 3 ts ≡ true → inner (rest ts) ≡ None → preds inner (suc n) ts ≡ None
  pred_refused h e = rw (h, e) refl

  pub pred_open : (next : Expr) (ts2 : List Term) → sees 3 ts ≡ true → inner (rest ts) ≡ Some (next, ts2) → expect 4 ts2 ≡ None → preds inner (suc n) ts ≡ None
  pred_open next ts2 h e k = rw (h, e) (ap (λ o. o >>= (λ c. preds inner n c.1 >>= (λ q. Some (next ∷ q.0, q.1)))) k)

  pub pred_turn : (found : List Expr) (next : Expr) (ts2 ts3 : List Term) → sees 3 ts ≡ true → inner (rest ts) ≡ Some (next, ts2) → expect 4 ts2 ≡ Some (tt, ts3)
      → with_front found (preds inner (suc n) ts) ≡ with_front (found ++ next ∷ []) (preds inner n ts3)
  pred_turn found next ts2 ts3 h e k =
      ap (with_front found) (rw (h, e) (ap (λ o. o >>= (λ c. preds inner n c.1 >>= (λ q. Some (next ∷ q.0, q.1)))) k)) ∙ front_push found next (preds inner n ts3)

  pub arg_turn : (found : List Expr) (next : Expr) (ts2 : List Term) → inner ts ≡ Some (next, ts2) → sees 5 ts2 ≡ true
      → with_front found (args inner (suc n) ts) ≡ with_front (found ++ next ∷ []) (args inner n (rest ts2))
  arg_turn found next ts2 e h =
      ap (λ o. with_front found (o >>= (λ r. after_arg (args inner n) r.0 r.1))) e
      ∙ ap (with_front found) (rw h refl) ∙ front_push found next (args inner n (rest ts2))

  pub arg_last : (found : List Expr) (next : Expr) (ts2 : List Term) → inner ts ≡ Some (next, ts2) → sees 5 ts2 ≡ false
      → with_front found (args inner (suc n) ts) ≡ Some (found ++ next ∷ [], ts2)
  arg_last found next ts2 e h = rw (e, h) refl

  pub step_turn : (found : List Step) (next : Step) (ts2 : List Term) → Reader.step inner ts ≡ Some (next, ts2) → sees 6 ts2 ≡ true
      → with_front found (steps inner (suc n) ts) ≡ with_front (found ++ next ∷ []) (steps inner n (rest ts2))
  step_turn found next ts2 e h =
      ap (λ o. with_front found (o >>= (λ r. after_step (steps inner n) r.0 r.1))) e
      ∙ ap (with_front found) (rw h refl) ∙ front_push found next (steps inner n (rest ts2))

  pub step_below : (found : List Step) (next : Step) (ts2 : List Term) → Reader.step inner ts ≡ Some (next, ts2) → sees 6 ts2 ≡ false → sees 7 ts2 ≡ true
      → with_front found (steps inner (suc n) ts) ≡ with_front ((found ++ next ∷ []) ++ any_below ∷ []) (steps inner n (rest ts2))
  step_below found next ts2 e h k =
      ap (λ o. with_front found (o >>= (λ r. after_step (steps inner n) r.0 r.1))) e
      ∙ ap (with_front found) (rw (h, k) refl) ∙ front_two found next any_below (steps inner n (rest ts2))

  pub step_last : (found : List Step) (next : Step) (ts2 : List Term) → Reader.step inner ts ≡ Some (next, ts2) → sees 6 ts2 ≡ false → sees 7 ts2 ≡ false
      → with_front found (steps inner (suc n) ts) ≡ Some (found ++ next ∷ [], ts2)
  step_last found next ts2 e h k = rw (e, h, k) refl

-- signs that were read already
abbrev pub with_count : ℕ → Outcome (ℕ × Expr) → Outcome (ℕ × Expr)
with_count n r = r >>= (λ v. Some ((n + v.0.0, v.0.1), v.1))

-- ---- operators of a tier

abbrev Read : Type 0
Read = Outcome Operands

module _ {B : Type 0} (f : Term × Expr → B) (k : ℕ) (sub : Parser Expr) (n : ℕ) where
  mapped_push : (found : List B) (p : Term × Expr) (o : Read) → with_front found (mapped f (o >>= (λ q. Some (p ∷ q.0, q.1)))) ≡ with_front (found ++ f p ∷ []) (mapped f o)
  mapped_push found p None = refl
  mapped_push found p (Some q) = ap (λ xs. Some (xs, q.1)) (sym (append_assoc found (f p ∷ []) (map f q.0)))

  mapped_more : (found : List B) (op : Term) (o : Outcome Expr)
      → with_front found (mapped f (o >>= (λ r. operators k sub n r.1 >>= (λ q. Some ((op, r.0) ∷ q.0, q.1))))) ≡ (o >>= (λ r. with_front (found ++ f (op, r.0) ∷ []) (mapped f (operators k sub n r.1))))
  mapped_more found op None = refl
  mapped_more found op (Some r) = mapped_push found (op, r.0) (operators k sub n r.1)

  pub no_operator : (ts : List Term) (found : List B) → joins_at (k + 1) (Reader.peek ts) ≡ false → with_front found (mapped f (operators k sub (suc n) ts)) ≡ Some (found, ts)
  no_operator [] found h = ap (λ xs. Some (xs, [])) (append-nil found)
  no_operator (w ∷ ws) found h =
      let differs : eqb (tier_of w) (suc k) ≡ false = ap (λ m. eqb (tier_of w) m) (omega arith) ∙ h in rw differs (ap (λ xs. Some (xs, w ∷ ws)) (append-nil found))

  pub operator_step : (op : Term) (ts : List Term) (found : List B) → Reader.peek ts ≡ Some op → joins_at (k + 1) (Some op) ≡ true
      → with_front found (mapped f (operators k sub (suc n) ts)) ≡ (sub (rest ts) >>= (λ r. with_front (found ++ f (op, r.0) ∷ []) (mapped f (operators k sub n r.1))))
  operator_step op ts found e h =
      let same : eqb (tier_of op) (suc k) ≡ true = ap (λ m. eqb (tier_of op) m) (omega arith) ∙ h in
      ap (λ o. with_front found (mapped f (Reader.with_operator k sub (operators k sub n) o ts))) e ∙ rw same (mapped_more found op (sub (rest ts)))

  pub operator_turn : (op : Term) (ts : List Term) (found : List B) (x : Expr) (ts2 : List Term) → Reader.peek ts ≡ Some op → joins_at (k + 1) (Some op) ≡ true → sub (rest ts) ≡ Some (x, ts2)
      → with_front found (mapped f (operators k sub (suc n) ts)) ≡ with_front (found ++ f (op, x) ∷ []) (mapped f (operators k sub n ts2))
  operator_turn op ts found x ts2 e h r =
      operator_step op ts found e h ∙ ap (λ o. o >>= (λ r. with_front (found ++ f (op, r.0) ∷ []) (mapped f (operators k sub n r.1)))) r

-- the same of the operands alone
abbrev pub value : Term × Expr → Expr
value p = p.1

module _ (k : ℕ) (sub : Parser Expr) (n : ℕ) where
  pub value_step : (ts : List Term) (found : List Expr) → joins_at (k + 1) (Reader.peek ts) ≡ true
      → with_front found (mapped value (operators k sub (suc n) ts)) ≡ (sub (rest ts) >>= (λ r. with_front (found ++ r.0 ∷ []) (mapped value (operators k sub n r.1))))
  value_step [] found h = cc
  value_step (w ∷ ws) found h = operator_step value k sub n w (w ∷ ws) found refl h

  pub value_turn : (ts : List Term) (found : List Expr) (x : Expr) (ts2 : List Term) → joins_at (k + 1) (Reader.peek ts) ≡ true → sub (rest ts) ≡ Some (x, ts2)
      → with_front found (mapped value (operators k sub (suc n) ts)) ≡ with_front (found ++ x ∷ []) (mapped value (operators k sub n ts2))
  value_turn ts found x ts2 h r = value_step ts found h ∙ ap (λ o. o >>= (λ r. with_front (found ++ r.0 ∷ []) (mapped value (operators k sub n r.1)))) r

-- ---- a tier by its number

pub tier_above : (inner : Parser Expr) (level : ℕ) (ts : List Term) → 0 < level → eqb level 2 ≡ false → Reader.tier inner level ts ≡ Reader.joins (level - 1) (Reader.tier inner (level - 1)) ts
tier_above inner zero ts some h = absurd (omega arith)
tier_above inner (suc k) ts some h =
    let j : is_joined (suc k) ≡ true = rw h refl in
    let same : suc k - 1 ≡ k = omega arith in
    ap (λ b. Reader.tier_by inner b k (Reader.tier inner k) ts) j ∙ ap (λ n. Reader.joins n (Reader.tier inner n) ts) (sym same)

pub tier_more : (inner : Parser Expr) (level : ℕ) (ts : List Term) (x : Expr) (left : List Term) → 0 < level → eqb level 2 ≡ false → Reader.tier inner (level - 1) ts ≡ Some (x, left)
    → Reader.tier inner level ts ≡ made_of (level - 1) x (operators (level - 1) (Reader.tier inner (level - 1)) (length left) left)
tier_more inner level ts x left some h e =
    let sub = Reader.tier inner (level - 1) in
    let same : suc (level - 1) ≡ level - 1 + 1 = omega arith in
    tier_above inner level ts some h ∙ ap (λ o. o >>= (λ r. operators (level - 1) sub (length r.1) r.1 >>= (λ q. Some (made (suc (level - 1)) r.0 q.0, q.1)))) e
    ∙ ap (λ m. operators (level - 1) sub (length left) left >>= (λ q. Some (made m x q.0, q.1))) same

-- an operator comes next, so there are operands
abbrev pub Some_of : Read → Type 0
Some_of o = (left : List Term) → o ≡ Some ([], left) → ⊥

pub some_operands : (k : ℕ) (sub : Parser Expr) (ts : List Term) → joins_at (k + 1) (Reader.peek ts) ≡ true → Some_of (operators k sub (length ts) ts)
some_operands k sub [] h left e = cc
some_operands k sub (w ∷ ws) h left e =
    let same : eqb (tier_of w) (suc k) ≡ true = ap (λ m. eqb (tier_of w) m) (omega arith) ∙ h in
    by_first (sub ws) (let found : (sub ws >>= (λ r. operators k sub (length ws) r.1 >>= (λ q. Some ((w, r.0) ∷ q.0, q.1)))) ≡ Some ([], left) = rw same at e in found)
  where
    by_rest : (x : Expr) (o : Read) → (o >>= (λ q. Some ((w, x) ∷ q.0, q.1))) ≡ Some ([], left) → ⊥
    by_rest x None e = cc
    by_rest x (Some q) e =
        let same : ◌≡◌ {A = Operands × List Term} ((w, x) ∷ q.0, q.1) ([], left) = cc in
        let no : (w, x) ∷ q.0 ≡ [] = ap (λ (q : Operands × List Term). q.0) same in cc

    by_first : (o : Outcome Expr) → (o >>= (λ r. operators k sub (length ws) r.1 >>= (λ q. Some ((w, r.0) ∷ q.0, q.1)))) ≡ Some ([], left) → ⊥
    by_first None e = cc
    by_first (Some r) e = by_rest r.0 (operators k sub (length ws) r.1) e

parts : {A : Type 0} (x y : A) (a b : List Term) → ◌≡◌ {A = Outcome A} (Some (x, a)) (Some (y, b)) → (x ≡ y) × (a ≡ b)
parts {A} x y a b h =
    let same : ◌≡◌ {A = A × List Term} (x, a) (y, b) = cc in (ap (λ (q : A × List Term). q.0) same, ap (λ (q : A × List Term). q.1) same)

pub joined_made : (k : ℕ) (x : Expr) (o : Read) (more : List Operand) (left : List Term) → 2 ≤ k → k ≤ 5 → Some_of o → mapped operand o ≡ Some (more, left)
    → made_of k x o ≡ Some (e.Joined x more, left)
unfolding joined
joined_made k x None more left l h some m = cc
joined_made k x (Some ([], us)) more left l h some m = absurd (some us refl)
joined_made k x (Some (p ∷ ps, us)) more left l h some m =
    let one : eqb (k + 1) 1 ≡ false = grind (arith, nat_tests) in
    let seven : eqb (k + 1) 7 ≡ false = grind (arith, nat_tests) in
    let eight : eqb (k + 1) 8 ≡ false = grind (arith, nat_tests) in
    let same = parts (map operand (p ∷ ps)) more us left m in
    rw (one, seven, eight) (ap (λ xs. Some (e.Joined x xs, us)) same.0 ∙ ap (λ us. Some (e.Joined x more, us)) same.1)

pub listed_made : (k : ℕ) (x : Expr) (o : Read) (all : List Expr) (left : List Term) → k ≡ 0 ⊎ (k ≡ 6 ⊎ k ≡ 7) → Some_of o → with_front (x ∷ []) (mapped (λ p. p.1) o) ≡ Some (all, left)
    → made_of k x o ≡ Some (listed (k + 1) all, left)
unfolding joined
listed_made k x None all left tier some m = cc
listed_made k x (Some ([], us)) all left tier some m = absurd (some us refl)
listed_made k x (Some (p ∷ ps, us)) all left tier some m =
    let same = parts (x ∷ map (λ q. q.1) (p ∷ ps)) all us left m in
    ap (λ e. Some (e, us)) (by_tier tier) ∙ ap (λ xs. Some (listed (k + 1) xs, us)) same.0 ∙ ap (λ us. Some (listed (k + 1) all, us)) same.1
  where
    by_tier : k ≡ 0 ⊎ (k ≡ 6 ⊎ k ≡ 7) → made (k + 1) x (p ∷ ps) ≡ listed (k + 1) (x ∷ map (λ q. q.1) (p ∷ ps))
    by_tier (inl h) = rw h refl
    by_tier (inr (inl h)) = rw h refl
    by_tier (inr (inr h)) = rw h refl

pub expr_at : (d : ℕ) (ts : List Term) → 0 < d → Reader.expr d ts ≡ Reader.tier (Reader.expr (d - 1)) 8 ts
unfolding Reader.expr
expr_at zero ts h = absurd (omega arith)
expr_at (suc d) ts h = let same : d ≡ suc d - 1 = omega arith in ap (λ n. Reader.tier (Reader.expr n) 8 ts) same

-- ---- signs

with_more : (c : ℕ) (o : Outcome (ℕ × Expr)) → with_count c (o >>= (λ r. Some ((suc r.0.0, r.0.1), r.1))) ≡ with_count (c + 1) o
with_more c None = refl
with_more c (Some r) = let same : c + suc r.0.0 ≡ c + 1 + r.0.0 = omega arith in ap (λ n. Some ((n, r.0.1), r.1)) same

with_none : (c : ℕ) (o : Outcome Expr) → with_count c (o >>= (λ r. Some ((0, r.0), r.1))) ≡ (o >>= (λ r. Some ((c, r.0), r.1)))
with_none c None = refl
with_none c (Some r) = let same : c + 0 ≡ c = omega arith in ap (λ n. Some ((n, r.0), r.1)) same

module _ (sub : Parser Expr) (n : ℕ) (ts : List Term) (c : ℕ) where
  pub sign_turn : Reader.is_sign (Reader.peek ts) ≡ true → with_count c (Reader.signed sub (suc n) ts) ≡ with_count (c + 1) (Reader.signed sub n (rest ts))
  sign_turn h = ap (with_count c) (rw h refl) ∙ with_more c (Reader.signed sub n (rest ts))

  pub sign_end : Reader.is_sign (Reader.peek ts) ≡ false → with_count c (Reader.signed sub (suc n) ts) ≡ (sub ts >>= (λ r. Some ((c, r.0), r.1)))
  sign_end h = ap (with_count c) (rw h refl) ∙ with_none c (sub ts)
