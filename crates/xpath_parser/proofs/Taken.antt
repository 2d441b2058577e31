-- What a step of the parser took from the tokens.
use Rattle.std.proofs.Common.{◌≡◌, refl, ◌∙◌, ap, subst, ℕ, ◌<◌, Bool, true, false, List, [], ◌∷◌, ◌++◌, Option, Some, None, arith, ◌⊎◌, inl, inr, cond}
use Rattle.std.proofs.lemmas.Bool.Decides.{nat_tests}
use Rattle.xpath_parser.specs.declared.term.Term.{Term}
use Rattle.xpath_parser.specs.declared.term.Term.TheVariants as t
use Rattle.xpath_parser.specs.Grammar.{Node, Reads}
use Rattle.xpath_parser.specs.Reader as p
use Rattle.xpath_parser.specs.Reader.{◌>>=◌, Outcome, peek, rest, sees, mark}

-- a front of the tokens reads as the node, and the rest is left
pub record Took (ts : List Term) (node : Node) (left : List Term) : Type 0 where
  pub front : List Term
  pub reads : Reads front node
  pub is : ts ≡ front ++ left

pub record Bound {A B : Type 0} (r : Outcome A) (f : A × List Term → Outcome B) (y : B × List Term) : Type 0 where
  pub x : A × List Term
  pub first : r ≡ Some x
  pub then : f x ≡ Some y

pub bound : {A B : Type 0} (r : Outcome A) (f : A × List Term → Outcome B) (y : B × List Term) → (r >>= f) ≡ Some y → Bound r f y
bound None f y h = cc
bound (Some x) f y h = record { x = x; first = refl; then = h }

-- what a rule's last step answers
pub same_of : {A : Type 0} (x y : A × List Term) → ◌≡◌ {A = Outcome A} (Some x) (Some y) → x ≡ y
same_of x y h = cc

pub took_at : {A : Type 0} (node : A → Node) (ts : List Term) (x y : A × List Term) → ◌≡◌ {A = Outcome A} (Some x) (Some y) → Took ts (node x.0) x.1 → Took ts (node y.0) y.1
took_at node ts x y h k = subst (λ z. Took ts (node z.0) z.1) (same_of x y h) k

-- a token that is seen
pub tail_of : (w : Term) (ts : List Term) → peek ts ≡ Some w → ts ≡ w ∷ rest ts
tail_of w [] h = cc
tail_of w (v ∷ vs) h = let same : v ≡ w = cc in ap (λ u. u ∷ vs) same

pub marked : (k : ℕ) (w : Term) → mark (Some w) ≡ k → (o : Option Term) → ((v : Term) → mark (Some v) ≡ k → v ≡ w) → mark o ≡ k → 0 < k → o ≡ Some w
marked k w m None only h some = absurd (omega arith)
marked k w m (Some v) only h some = ap Some (only v h)

pub only_1 : (v : Term) → mark (Some v) ≡ 1 → v ≡ t.OpenRound
only_1 t.OpenRound h = refl
only_1 _ h = absurd (omega arith)

pub only_2 : (v : Term) → mark (Some v) ≡ 2 → v ≡ t.CloseRound
only_2 t.CloseRound h = refl
only_2 t.OpenRound h = absurd (omega arith)
only_2 t.OpenSquare h = absurd (omega arith)
only_2 t.CloseSquare h = absurd (omega arith)
only_2 t.Comma h = absurd (omega arith)
only_2 t.Slash h = absurd (omega arith)
only_2 t.DoubleSlash h = absurd (omega arith)
only_2 _ h = absurd (omega arith)

pub only_3 : (v : Term) → mark (Some v) ≡ 3 → v ≡ t.OpenSquare
only_3 t.OpenSquare h = refl
only_3 _ h = absurd (omega arith)

pub only_4 : (v : Term) → mark (Some v) ≡ 4 → v ≡ t.CloseSquare
only_4 t.CloseSquare h = refl
only_4 _ h = absurd (omega arith)

pub only_5 : (v : Term) → mark (Some v) ≡ 5 → v ≡ t.Comma
only_5 t.Comma h = refl
only_5 _ h = absurd (omega arith)

pub only_6 : (v : Term) → mark (Some v) ≡ 6 → v ≡ t.Slash
only_6 t.Slash h = refl
only_6 _ h = absurd (omega arith)

pub only_7 : (v : Term) → mark (Some v) ≡ 7 → v ≡ t.DoubleSlash
only_7 t.DoubleSlash h = refl
only_7 _ h = absurd (omega arith)

pub only_8 : (v : Term) → mark (Some v) ≡ 8 → v ≡ t.DoubleColon
only_8 t.DoubleColon h = refl
only_8 _ h = absurd (omega arith)

pub seen : (k : ℕ) (ts : List Term) → sees k ts ≡ true → mark (peek ts) ≡ k
seen k ts h = grind (arith, nat_tests)

-- a test, by its outcome
pub chosen : {B : Type 0} (b : Bool) (x y : Outcome B) (z : B × List Term) → cond b x y ≡ Some z → ((b ≡ true) × (x ≡ Some z)) ⊎ ((b ≡ false) × (y ≡ Some z))
chosen true x y z h = inl (refl, h)
chosen false x y z h = inr (refl, h)

pub expected : (k : ℕ) (w : Term) (ts : List Term) (r : Unit {0} × List Term) → mark (Some w) ≡ k → ((v : Term) → mark (Some v) ≡ k → v ≡ w) → 0 < k → p.expect k ts ≡ Some r → ts ≡ w ∷ r.1
expected k w ts r m only some h = elim (chosen (sees k ts) (Some (tt, rest ts)) None r h) [
  | inl hit ↦ tail_of w ts (marked k w m (peek ts) only (seen k ts hit.0) some) ∙ ap (λ v. w ∷ v) (ap (λ (q : Unit {0} × List Term). q.1) (same_of (tt, rest ts) r hit.1))
  | inr miss ↦ let bad : ◌≡◌ {A = Outcome (Unit {0})} None (Some r) = miss.1 in cc
]

pub shown : (k : ℕ) (w : Term) (ts : List Term) → mark (Some w) ≡ k → ((v : Term) → mark (Some v) ≡ k → v ≡ w) → 0 < k → sees k ts ≡ true → ts ≡ w ∷ rest ts
shown k w ts m only some h = tail_of w ts (marked k w m (peek ts) only (seen k ts h) some)
