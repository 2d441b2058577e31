-- What the parser reads, the rules read.
use Rattle.std.proofs.Common.{◌≡◌, refl, sym, ◌∙◌, ap, subst, ℕ, zero, suc, Bool, true, false, eqb, List, [], ◌∷◌, ◌++◌, length, Option, Some, arith, append_assoc, append-nil, inl, inr, cond, pos}
use Rattle.std.proofs.lemmas.Bool.Decides.{nat_tests}
use Rattle.xpath_parser.specs.declared.expression.Expr.{Expr}
use Rattle.xpath_parser.specs.declared.expression.Expr.TheVariants as e
use Rattle.xpath_parser.specs.declared.expression.Func.{Func}
use Rattle.xpath_parser.specs.declared.expression.Func.TheVariants as func
use Rattle.xpath_parser.specs.declared.term.NodeType.{NodeType}
use Rattle.xpath_parser.specs.declared.term.NodeType.TheVariants as node_type
use Rattle.xpath_parser.specs.declared.expression.Start.{Start}
use Rattle.xpath_parser.specs.declared.expression.Start.TheVariants.{Here, Root, From}
use Rattle.xpath_parser.specs.declared.expression.Step.{Step}
use Rattle.doc_model.specs.declared.NodeTest.{NodeTest}
use Rattle.doc_model.specs.declared.NodeTest.TheVariants as nt
use Rattle.doc_model.specs.declared.Axis.{Axis}
use Rattle.doc_model.specs.declared.Axis.TheVariants.{Child, Parent, OwnSelf, Attribute}
use Rattle.xpath_parser.specs.declared.term.Term.{Term}
use Rattle.xpath_parser.specs.declared.term.Term.TheVariants as t
use Rattle.xpath_parser.specs.Grammar as g
use Rattle.xpath_parser.specs.Grammar.{tier_of, Node, Reads}
use Rattle.xpath_parser.specs.Reader as p
use Rattle.xpath_parser.specs.Reader.{◌>>=◌, Parser, peek, rest, sees}
use Rattle.xpath_parser.proofs.Taken.{Took, bound, same_of, took_at, tail_of, marked, only_1, only_2, only_3, only_4, only_5, only_6, only_7, only_8, seen, chosen, expected, shown}

-- the parser of a nested expression reads only what the rules read
abbrev Sound : {A : Type 0} → Parser A → (A → Node) → Type 0
Sound {A} q node = (ts : List Term) (r : A × List Term) → q ts ≡ Some r → Took ts (node r.0) r.1

-- ---- brackets

pred_sound : (inner : Parser Expr) → Sound inner (g.at 8) → (n : ℕ) (ts : List Term) (r : List Expr × List Term) → Sound (p.preds inner n) g.preds → ts ≡ t.OpenSquare ∷ rest ts
    → (inner (rest ts) >>= (λ v. p.expect 4 v.1 >>= (λ c. p.preds inner n c.1 >>= (λ q. Some (v.0 ∷ q.0, q.1))))) ≡ Some r → Took ts (g.preds r.0) r.1
pred_sound inner ok n ts r more opens h =
    let one = bound (inner (rest ts)) (λ v. p.expect 4 v.1 >>= (λ c. p.preds inner n c.1 >>= (λ q. Some (v.0 ∷ q.0, q.1)))) r h in
    let two = bound (p.expect 4 one.x.1) (λ c. p.preds inner n c.1 >>= (λ q. Some (one.x.0 ∷ q.0, q.1))) r one.then in
    let three = bound (p.preds inner n two.x.1) (λ q. Some (one.x.0 ∷ q.0, q.1)) r two.then in
    let a = ok (rest ts) one.x one.first in
    let b = more two.x.1 three.x three.first in
    let shut = expected 4 t.CloseSquare one.x.1 two.x refl only_4 (omega arith) two.first in
    took_at g.preds ts (one.x.0 ∷ three.x.0, three.x.1) r three.then (record {
      front = t.OpenSquare ∷ (a.front ++ t.CloseSquare ∷ b.front);
      reads = g.preds_more a.reads b.reads refl;
      is = opens ∙ ap (λ v. t.OpenSquare ∷ v) (a.is ∙ ap (λ v. a.front ++ v) (shut ∙ ap (λ v. t.CloseSquare ∷ v) b.is) ∙ sym (append_assoc a.front (t.CloseSquare ∷ b.front) three.x.1));
    })

preds_sound : (inner : Parser Expr) → Sound inner (g.at 8) → (n : ℕ) → Sound (p.preds inner n) g.preds
preds_sound inner ok zero ts r h = took_at g.preds ts ([], ts) r h (record { front = []; reads = g.preds_end; is = refl })
preds_sound inner ok (suc n) ts r h = elim (chosen (sees 3 ts) _ _ r h) [
  | inl hit ↦ pred_sound inner ok n ts r (preds_sound inner ok n) (tail_of t.OpenSquare ts (marked 3 t.OpenSquare refl (peek ts) only_3 (seen 3 ts hit.0) (omega arith))) hit.1
  | inr miss ↦ took_at g.preds ts ([], ts) r miss.1 (record { front = []; reads = g.preds_end; is = refl })
]

-- ---- arguments

args_sound : (inner : Parser Expr) → Sound inner (g.at 8) → (n : ℕ) → Sound (p.args inner n) g.args
args_sound inner ok zero ts r h = cc
args_sound inner ok (suc n) ts r h =
    let one = bound (inner ts) (λ v. p.after_arg (p.args inner n) v.0 v.1) r h in
    let a = ok ts one.x one.first in
    elim (chosen (sees 5 one.x.1) (p.args inner n (rest one.x.1) >>= (λ q. Some (one.x.0 ∷ q.0, q.1))) (Some (one.x.0 ∷ [], one.x.1)) r one.then) [
      | inl hit ↦ (let two = bound (p.args inner n (rest one.x.1)) (λ q. Some (one.x.0 ∷ q.0, q.1)) r hit.1 in
          let b = args_sound inner ok n (rest one.x.1) two.x two.first in
          let comma = shown 5 t.Comma one.x.1 refl only_5 (omega arith) hit.0 in
          took_at g.args ts (one.x.0 ∷ two.x.0, two.x.1) r two.then (record {
            front = a.front ++ t.Comma ∷ b.front;
            reads = g.args_more a.reads b.reads refl;
            is = a.is ∙ ap (λ v. a.front ++ v) (comma ∙ ap (λ v. t.Comma ∷ v) b.is) ∙ sym (append_assoc a.front (t.Comma ∷ b.front) two.x.1);
          }))
      | inr miss ↦ took_at g.args ts (one.x.0 ∷ [], one.x.1) r miss.1 (record { front = a.front; reads = g.args_one a.reads; is = a.is })
    ]

-- ---- steps

-- the literal that a node type takes, where it stands
record Instruction (n : NodeType) (ts : List Term) : Type 0 where
  text : List ℕ
  is : ts ≡ t.Literal text ∷ rest ts
  type : n ≡ node_type.Instruction

taken : (n : NodeType) (o : Option Term) (ts : List Term) → peek ts ≡ o → p.takes_literal n o ≡ true → Instruction n ts
taken node_type.Instruction (Some (t.Literal s)) ts w h = record { text = s; is = tail_of (t.Literal s) ts w; type = refl }
taken _ _ ts w h = cc

-- without a literal, or with one
typed_sound : (n : NodeType) (ts : List Term) (b : Bool) (r : Unit {0} × List Term) → p.takes_literal n (peek ts) ≡ b → p.expect 2 (cond b (rest ts) ts) ≡ Some r
    → Took (t.NodeType n ∷ t.OpenRound ∷ ts) (g.test (g.test_of_type n)) r.1
typed_sound n ts false r w h = record {
  front = t.NodeType n ∷ t.OpenRound ∷ t.CloseRound ∷ [];
  reads = g.of_type;
  is = ap (λ v. t.NodeType n ∷ t.OpenRound ∷ v) (expected 2 t.CloseRound ts r refl only_2 (omega arith) h);
}
typed_sound n ts true r w h =
    let a = taken n (peek ts) ts refl w in
    let shut = expected 2 t.CloseRound (rest ts) r refl only_2 (omega arith) h in
    record {
      front = t.NodeType n ∷ t.OpenRound ∷ t.Literal a.text ∷ t.CloseRound ∷ [];
      reads = subst (λ (m : NodeType). Reads (t.NodeType m ∷ t.OpenRound ∷ t.Literal a.text ∷ t.CloseRound ∷ []) (g.test (g.test_of_type m))) (sym a.type) g.instruction_named;
      is = ap (λ v. t.NodeType n ∷ t.OpenRound ∷ v) (a.is ∙ ap (λ v. t.Literal a.text ∷ v) shut);
    }

test_at : (o : Option Term) (ts : List Term) (r : NodeTest × List Term) → peek ts ≡ o → p.test_by o ts ≡ Some r → Took ts (g.test r.0) r.1
test_at (Some t.AnyName) ts r w h = took_at g.test ts (nt.AnyName, rest ts) r h (record { front = t.AnyName ∷ []; reads = g.any_name; is = tail_of t.AnyName ts w })
test_at (Some (t.Name n)) ts r w h = took_at g.test ts (nt.Name n, rest ts) r h (record { front = t.Name n ∷ []; reads = g.name; is = tail_of (t.Name n) ts w })
test_at (Some t.Prefixed) ts r w h = took_at g.test ts (nt.AnyName, rest ts) r h (record { front = t.Prefixed ∷ []; reads = g.prefixed; is = tail_of t.Prefixed ts w })
test_at (Some (t.NodeType n)) ts r w h =
    let one = bound (p.expect 1 (rest ts)) (λ c. p.expect 2 (p.after_literal n c.1) >>= (λ d. Some (g.test_of_type n, d.1))) r h in
    let two = bound (p.expect 2 (p.after_literal n one.x.1)) (λ d. Some (g.test_of_type n, d.1)) r one.then in
    let open_round = expected 1 t.OpenRound (rest ts) one.x refl only_1 (omega arith) one.first in
    let a = typed_sound n one.x.1 (p.takes_literal n (peek one.x.1)) two.x refl two.first in
    took_at g.test ts (g.test_of_type n, two.x.1) r two.then
    (record { front = a.front; reads = a.reads; is = tail_of (t.NodeType n) ts w ∙ ap (λ v. t.NodeType n ∷ v) open_round ∙ a.is })
test_at _ ts r w h = cc

-- a node test and its predicates, which make the step
record Tested (axis : Axis) (ts : List Term) (r : Step × List Term) : Type 0 where
  test : NodeTest
  predicates : List Expr
  a : List Term
  b : List Term
  tests : Reads a (g.test test)
  filters : Reads b (g.preds predicates)
  is : ts ≡ (a ++ b) ++ r.1
  made : g.step_of axis test predicates ≡ r.0

record Relative (start : Start) (before : List Step) (ts : List Term) (r : Expr × List Term) : Type 0 where
  steps : List Step
  took : Took ts (g.steps steps) r.1
  made : e.Path start (before ++ steps) ≡ r.0

module _ (inner : Parser Expr) (ok : Sound inner (g.at 8)) where
  tested_sound : (axis : Axis) (ts : List Term) (r : Step × List Term) → p.tested inner axis ts ≡ Some r → Tested axis ts r
  tested_sound axis ts r h =
      let one = bound (p.test ts) (λ v. p.preds inner (length v.1) v.1 >>= (λ q. Some (g.step_of axis v.0 q.0, q.1))) r h in
      let two = bound (p.preds inner (length one.x.1) one.x.1) (λ q. Some (g.step_of axis one.x.0 q.0, q.1)) r one.then in
      let same = same_of (g.step_of axis one.x.0 two.x.0, two.x.1) r two.then in
      let a = test_at (peek ts) ts one.x refl one.first in
      let b = preds_sound inner ok (length one.x.1) one.x.1 two.x two.first in
      record {
        test = one.x.0;
        predicates = two.x.0;
        a = a.front;
        b = b.front;
        tests = a.reads;
        filters = b.reads;
        is = a.is ∙ ap (λ v. a.front ++ v) b.is ∙ sym (append_assoc a.front b.front two.x.1) ∙ ap (λ (q : Step × List Term). (a.front ++ b.front) ++ q.1) same;
        made = ap (λ (q : Step × List Term). q.0) same;
      }

  step_sound_at : (o : Option Term) (ts : List Term) (r : Step × List Term) → peek ts ≡ o → p.step_by inner o ts ≡ Some r → Took ts (g.step r.0) r.1
  step_sound_at (Some t.Dot) ts r e h = took_at g.step ts (g.step_of OwnSelf nt.Node [], rest ts) r h (record { front = t.Dot ∷ []; reads = g.step_self; is = tail_of t.Dot ts e })
  step_sound_at (Some t.DotDot) ts r e h = took_at g.step ts (g.step_of Parent nt.Node [], rest ts) r h (record { front = t.DotDot ∷ []; reads = g.step_parent; is = tail_of t.DotDot ts e })
  step_sound_at (Some t.At) ts r e h =
      let n = tested_sound Attribute (rest ts) r h in
      record { front = t.At ∷ (n.a ++ n.b); reads = subst (λ s. Reads (t.At ∷ (n.a ++ n.b)) (g.step s)) n.made (g.step_attribute n.tests n.filters refl); is = tail_of t.At ts e ∙ ap (λ v. t.At ∷ v) n.is }
  step_sound_at (Some (t.Axis axis)) ts r e h =
      let one = bound (p.expect 8 (rest ts)) (λ c. p.tested inner axis c.1) r h in
      let colons = expected 8 t.DoubleColon (rest ts) one.x refl only_8 (omega arith) one.first in
      let n = tested_sound axis one.x.1 r one.then in
      record {
        front = t.Axis axis ∷ t.DoubleColon ∷ (n.a ++ n.b);
        reads = subst (λ s. Reads (t.Axis axis ∷ t.DoubleColon ∷ (n.a ++ n.b)) (g.step s)) n.made (g.step_axis n.tests n.filters refl);
        is = tail_of (t.Axis axis) ts e ∙ ap (λ v. t.Axis axis ∷ v) (colons ∙ ap (λ v. t.DoubleColon ∷ v) n.is);
      }
  step_sound_at _ ts r e h =
      let n = tested_sound Child ts r h in
      record { front = n.a ++ n.b; reads = subst (λ s. Reads (n.a ++ n.b) (g.step s)) n.made (g.step_child n.tests n.filters refl); is = n.is }

  step_sound : Sound (p.step inner) g.step
  step_sound ts r h = step_sound_at (peek ts) ts r refl h

  steps_sound : (n : ℕ) → Sound (p.steps inner n) g.steps
  steps_sound zero ts r h = cc
  steps_sound (suc n) ts r h =
      let one = bound (p.step inner ts) (λ v. p.after_step (p.steps inner n) v.0 v.1) r h in
      let a = step_sound ts one.x one.first in
      elim (chosen (sees 6 one.x.1) (p.steps inner n (rest one.x.1) >>= (λ q. Some (one.x.0 ∷ q.0, q.1))) _ r one.then) [
        | inl hit ↦ (let two = bound (p.steps inner n (rest one.x.1)) (λ q. Some (one.x.0 ∷ q.0, q.1)) r hit.1 in
            let b = steps_sound n (rest one.x.1) two.x two.first in
            let slash = shown 6 t.Slash one.x.1 refl only_6 (omega arith) hit.0 in
            took_at g.steps ts (one.x.0 ∷ two.x.0, two.x.1) r two.then (record {
              front = a.front ++ t.Slash ∷ b.front;
              reads = g.steps_more a.reads b.reads refl;
              is = a.is ∙ ap (λ v. a.front ++ v) (slash ∙ ap (λ v. t.Slash ∷ v) b.is) ∙ sym (append_assoc a.front (t.Slash ∷ b.front) two.x.1);
            }))
        | inr miss ↦ elim (chosen (sees 7 one.x.1) (p.steps inner n (rest one.x.1) >>= (λ q. Some (one.x.0 ∷ g.any_below ∷ q.0, q.1))) (Some (one.x.0 ∷ [], one.x.1)) r miss.1) [
          | inl hit ↦ (let two = bound (p.steps inner n (rest one.x.1)) (λ q. Some (one.x.0 ∷ g.any_below ∷ q.0, q.1)) r hit.1 in
              let b = steps_sound n (rest one.x.1) two.x two.first in
              let slash = shown 7 t.DoubleSlash one.x.1 refl only_7 (omega arith) hit.0 in
              took_at g.steps ts (one.x.0 ∷ g.any_below ∷ two.x.0, two.x.1) r two.then (record {
                front = a.front ++ t.DoubleSlash ∷ b.front;
                reads = g.steps_below a.reads b.reads refl;
                is = a.is ∙ ap (λ v. a.front ++ v) (slash ∙ ap (λ v. t.DoubleSlash ∷ v) b.is) ∙ sym (append_assoc a.front (t.DoubleSlash ∷ b.front) two.x.1);
              }))
          | inr miss2 ↦ took_at g.steps ts (one.x.0 ∷ [], one.x.1) r miss2.1 (record { front = a.front; reads = g.steps_one a.reads; is = a.is })
        ]
      ]

  -- ---- primaries and paths

  round_sound : (ts : List Term) (r : Expr × List Term) → ts ≡ t.OpenRound ∷ rest ts → p.round inner (rest ts) ≡ Some r → Took ts (g.primary r.0) r.1
  round_sound ts r opens h =
      let one = bound (inner (rest ts)) (λ v. p.expect 2 v.1 >>= (λ c. Some (v.0, c.1))) r h in
      let two = bound (p.expect 2 one.x.1) (λ c. Some (one.x.0, c.1)) r one.then in
      let a = ok (rest ts) one.x one.first in
      let shut = expected 2 t.CloseRound one.x.1 two.x refl only_2 (omega arith) two.first in
      took_at g.primary ts (one.x.0, two.x.1) r two.then (record {
        front = t.OpenRound ∷ (a.front ++ t.CloseRound ∷ []);
        reads = g.round a.reads;
        is = opens ∙ ap (λ v. t.OpenRound ∷ v) (a.is ∙ ap (λ v. a.front ++ v) shut ∙ sym (append_assoc a.front (t.CloseRound ∷ []) two.x.1));
      })

  -- a call by a term that the rules read so
  call_sound : (w : Term) (f : Func) → Reads (w ∷ t.OpenRound ∷ t.CloseRound ∷ []) (g.primary (e.Call f []))
      → ((front : List Term) (xs : List Expr) → Reads front (g.args xs) → Reads (w ∷ t.OpenRound ∷ (front ++ t.CloseRound ∷ [])) (g.primary (e.Call f xs)))
      → (ts : List Term) (r : Expr × List Term) (ws : List Term) → ts ≡ w ∷ t.OpenRound ∷ ws → p.call inner f ws ≡ Some r → Took ts (g.primary r.0) r.1
  call_sound w f none some ts r ws opens h = elim (chosen (sees 2 ws) (Some (e.Call f [], rest ws)) (p.some_args inner f ws) r h) [
    | inl hit ↦ took_at g.primary ts (e.Call f [], rest ws) r hit.1 (record { front = w ∷ t.OpenRound ∷ t.CloseRound ∷ []; reads = none; is = opens ∙ ap (λ v. w ∷ t.OpenRound ∷ v) (shown 2 t.CloseRound ws refl only_2 (omega arith) hit.0) })
    | inr miss ↦ (let one = bound (p.args inner (length ws) ws) (λ v. p.expect 2 v.1 >>= (λ c. Some (e.Call f v.0, c.1))) r miss.1 in
        let two = bound (p.expect 2 one.x.1) (λ c. Some (e.Call f one.x.0, c.1)) r one.then in
        let a = args_sound inner ok (length ws) ws one.x one.first in
        let shut = expected 2 t.CloseRound one.x.1 two.x refl only_2 (omega arith) two.first in
        took_at g.primary ts (e.Call f one.x.0, two.x.1) r two.then (record {
          front = w ∷ t.OpenRound ∷ (a.front ++ t.CloseRound ∷ []);
          reads = some a.front one.x.0 a.reads;
          is = opens ∙ ap (λ v. w ∷ t.OpenRound ∷ v) (a.is ∙ ap (λ v. a.front ++ v) shut ∙ sym (append_assoc a.front (t.CloseRound ∷ []) two.x.1));
        }))
  ]

  function_sound : (w : Term) (f : Func) → Reads (w ∷ t.OpenRound ∷ t.CloseRound ∷ []) (g.primary (e.Call f []))
      → ((front : List Term) (xs : List Expr) → Reads front (g.args xs) → Reads (w ∷ t.OpenRound ∷ (front ++ t.CloseRound ∷ [])) (g.primary (e.Call f xs)))
      → (ts : List Term) (r : Expr × List Term) → ts ≡ w ∷ rest ts → p.function inner f (rest ts) ≡ Some r → Took ts (g.primary r.0) r.1
  function_sound w f none some ts r is h =
      let one = bound (p.expect 1 (rest ts)) (λ c. p.call inner f c.1) r h in
      let open_round = expected 1 t.OpenRound (rest ts) one.x refl only_1 (omega arith) one.first in
      call_sound w f none some ts r one.x.1 (is ∙ ap (λ v. w ∷ v) open_round) one.then

  primary_at : (o : Option Term) (ts : List Term) (r : Expr × List Term) → peek ts ≡ o → p.primary_by inner o ts ≡ Some r → Took ts (g.primary r.0) r.1
  primary_at (Some (t.Literal n)) ts r w h = took_at g.primary ts (e.Literal n, rest ts) r h (record { front = t.Literal n ∷ []; reads = g.literal; is = tail_of (t.Literal n) ts w })
  primary_at (Some (t.Number n)) ts r w h = took_at g.primary ts (e.Number n, rest ts) r h (record { front = t.Number n ∷ []; reads = g.number; is = tail_of (t.Number n) ts w })
  primary_at (Some t.Fraction) ts r w h = took_at g.primary ts (e.Number (pos 0), rest ts) r h (record { front = t.Fraction ∷ []; reads = g.fraction; is = tail_of t.Fraction ts w })
  primary_at (Some t.TooLarge) ts r w h = took_at g.primary ts (e.Number (pos 0), rest ts) r h (record { front = t.TooLarge ∷ []; reads = g.too_large; is = tail_of t.TooLarge ts w })
  primary_at (Some t.Variable) ts r w h = took_at g.primary ts (e.Literal [], rest ts) r h (record { front = t.Variable ∷ []; reads = g.variable; is = tail_of t.Variable ts w })
  primary_at (Some t.OpenRound) ts r w h = round_sound ts r (tail_of t.OpenRound ts w) h
  primary_at (Some (t.Function f)) ts r w h = function_sound (t.Function f) f g.call_none (λ front xs. g.call) ts r (tail_of (t.Function f) ts w) h
  primary_at (Some t.UnknownFunction) ts r w h = function_sound t.UnknownFunction func.Last g.unknown_none (λ front xs. g.unknown) ts r (tail_of t.UnknownFunction ts w) h
  primary_at _ ts r w h = cc

  relative_sound : (start : Start) (before : List Step) (ts : List Term) (r : Expr × List Term) → p.relative inner start before ts ≡ Some r → Relative start before ts r
  relative_sound start before ts r h =
      let one = bound (p.steps inner (length ts) ts) (λ v. Some (e.Path start (before ++ v.0), v.1)) r h in
      let a = steps_sound (length ts) ts one.x one.first in
      let same = same_of (e.Path start (before ++ one.x.0), one.x.1) r one.then in
      record { steps = one.x.0; took = subst (λ v. Took ts (g.steps one.x.0) v) (ap (λ (q : Expr × List Term). q.1) same) a; made = ap (λ (q : Expr × List Term). q.0) same }

  root_sound : (ts : List Term) (r : Expr × List Term) → ts ≡ t.Slash ∷ rest ts → p.after_root inner (rest ts) ≡ Some r → Took ts (g.at 0 r.0) r.1
  root_sound ts r opens h = elim (chosen (p.begins_step_at (peek (rest ts))) (p.relative inner Root [] (rest ts)) (Some (e.Path Root [], rest ts)) r h) [
    | inl hit ↦ (let a = relative_sound Root [] (rest ts) r hit.1 in
        record { front = t.Slash ∷ a.took.front; reads = subst (λ v. Reads (t.Slash ∷ a.took.front) (g.at 0 v)) a.made (g.path_from_root a.took.reads); is = opens ∙ ap (λ v. t.Slash ∷ v) a.took.is })
    | inr miss ↦ took_at (g.at 0) ts (e.Path Root [], rest ts) r miss.1 (record { front = t.Slash ∷ []; reads = g.path_root; is = opens })
  ]

  filter_sound : (ts : List Term) (r : Expr × List Term) → p.filtered_path inner ts ≡ Some r → Took ts (g.at 0 r.0) r.1
  filter_sound ts r h =
      let one = bound (p.primary inner ts) (λ v. p.preds inner (length v.1) v.1 >>= (λ q. p.after_filter inner (g.filtered v.0 q.0) q.1)) r h in
      let two = bound (p.preds inner (length one.x.1) one.x.1) (λ q. p.after_filter inner (g.filtered one.x.0 q.0) q.1) r one.then in
      let a = primary_at (peek ts) ts one.x refl one.first in
      let b = preds_sound inner ok (length one.x.1) one.x.1 two.x two.first in
      let x = g.filtered one.x.0 two.x.0 in
      let left = two.x.1 in
      elim (chosen (sees 6 left) (p.relative inner (From x) [] (rest left)) _ r two.then) [
        | inl hit ↦ (let c = relative_sound (From x) [] (rest left) r hit.1 in
            let slash = shown 6 t.Slash left refl only_6 (omega arith) hit.0 in
            record {
              front = a.front ++ (b.front ++ t.Slash ∷ c.took.front);
              reads = subst (λ v. Reads (a.front ++ (b.front ++ t.Slash ∷ c.took.front)) (g.at 0 v)) c.made (g.filter_path a.reads b.reads c.took.reads refl);
              is = a.is ∙ ap (λ v. a.front ++ v) (b.is ∙ ap (λ v. b.front ++ v) (slash ∙ ap (λ v. t.Slash ∷ v) c.took.is) ∙ sym (append_assoc b.front (t.Slash ∷ c.took.front) r.1)) ∙ sym (append_assoc a.front (b.front ++ t.Slash ∷ c.took.front) r.1);
            })
        | inr miss ↦ elim (chosen (sees 7 left) (p.relative inner (From x) (g.any_below ∷ []) (rest left)) (Some (x, left)) r miss.1) [
          | inl hit ↦ (let c = relative_sound (From x) (g.any_below ∷ []) (rest left) r hit.1 in
              let slash = shown 7 t.DoubleSlash left refl only_7 (omega arith) hit.0 in
              record {
                front = a.front ++ (b.front ++ t.DoubleSlash ∷ c.took.front);
                reads = subst (λ v. Reads (a.front ++ (b.front ++ t.DoubleSlash ∷ c.took.front)) (g.at 0 v)) c.made (g.filter_below a.reads b.reads c.took.reads refl);
                is = a.is ∙ ap (λ v. a.front ++ v) (b.is ∙ ap (λ v. b.front ++ v) (slash ∙ ap (λ v. t.DoubleSlash ∷ v) c.took.is) ∙ sym (append_assoc b.front (t.DoubleSlash ∷ c.took.front) r.1)) ∙ sym (append_assoc a.front (b.front ++ t.DoubleSlash ∷ c.took.front) r.1);
              })
          | inr miss2 ↦ took_at (g.at 0) ts (x, left) r miss2.1 (record { front = a.front ++ b.front; reads = g.filter a.reads b.reads refl; is = a.is ∙ ap (λ v. a.front ++ v) b.is ∙ sym (append_assoc a.front b.front left) })
        ]
      ]

  path_sound : Sound (p.path inner) (g.at 0)
  path_sound ts r h = elim (chosen (sees 6 ts) (p.after_root inner (rest ts)) _ r h) [
    | inl hit ↦ root_sound ts r (shown 6 t.Slash ts refl only_6 (omega arith) hit.0) hit.1
    | inr miss ↦ elim (chosen (sees 7 ts) (p.relative inner Root (g.any_below ∷ []) (rest ts)) _ r miss.1) [
      | inl hit ↦ (let a = relative_sound Root (g.any_below ∷ []) (rest ts) r hit.1 in
          let opens = shown 7 t.DoubleSlash ts refl only_7 (omega arith) hit.0 in
          record { front = t.DoubleSlash ∷ a.took.front; reads = subst (λ v. Reads (t.DoubleSlash ∷ a.took.front) (g.at 0 v)) a.made (g.path_below_root a.took.reads); is = opens ∙ ap (λ v. t.DoubleSlash ∷ v) a.took.is })
      | inr miss2 ↦ elim (chosen (p.begins_primary_at (peek ts)) (p.filtered_path inner ts) (p.relative inner Here [] ts) r miss2.1) [
        | inl hit ↦ filter_sound ts r hit.1
        | inr miss3 ↦ (let a = relative_sound Here [] ts r miss3.1 in
            record { front = a.took.front; reads = subst (λ v. Reads a.took.front (g.at 0 v)) a.made (g.path_here a.took.reads); is = a.took.is })
      ]
    ]
  ]

-- ---- tiers

operators_sound : (k : ℕ) (sub : Parser Expr) → Sound sub (g.at k) → (n : ℕ) → Sound (p.operators k sub n) (g.rest k)
operators_sound k sub ok zero ts r h = took_at (g.rest k) ts ([], ts) r h (record { front = []; reads = g.rest_end; is = refl })
operators_sound k sub ok (suc n) [] r h = took_at (g.rest k) [] ([], []) r h (record { front = []; reads = g.rest_end; is = refl })
operators_sound k sub ok (suc n) (op ∷ ts) r h = elim (chosen (eqb (tier_of op) (suc k)) (sub ts >>= (λ v. p.operators k sub n v.1 >>= (λ q. Some ((op, v.0) ∷ q.0, q.1)))) (Some ([], op ∷ ts)) r h) [
  | inl hit ↦ (let one = bound (sub ts) (λ v. p.operators k sub n v.1 >>= (λ q. Some ((op, v.0) ∷ q.0, q.1))) r hit.1 in
      let two = bound (p.operators k sub n one.x.1) (λ q. Some ((op, one.x.0) ∷ q.0, q.1)) r one.then in
      let a = ok ts one.x one.first in
      let b = operators_sound k sub ok n one.x.1 two.x two.first in
      let fits : tier_of op ≡ suc k = grind (arith, nat_tests, hit.0) in
      took_at (g.rest k) (op ∷ ts) ((op, one.x.0) ∷ two.x.0, two.x.1) r two.then (record {
        front = op ∷ (a.front ++ b.front);
        reads = g.rest_more fits a.reads b.reads refl;
        is = ap (λ v. op ∷ v) (a.is ∙ ap (λ v. a.front ++ v) b.is ∙ sym (append_assoc a.front b.front two.x.1));
      }))
  | inr miss ↦ took_at (g.rest k) (op ∷ ts) ([], op ∷ ts) r miss.1 (record { front = []; reads = g.rest_end; is = refl })
]

joins_sound : (k : ℕ) (sub : Parser Expr) → Sound sub (g.at k) → g.is_joined (suc k) ≡ true → Sound (p.joins k sub) (g.at (suc k))
joins_sound k sub ok j ts r h =
    let one = bound (sub ts) (λ v. p.operators k sub (length v.1) v.1 >>= (λ q. Some (g.made (suc k) v.0 q.0, q.1))) r h in
    let two = bound (p.operators k sub (length one.x.1) one.x.1) (λ q. Some (g.made (suc k) one.x.0 q.0, q.1)) r one.then in
    let a = ok ts one.x one.first in
    let b = operators_sound k sub ok (length one.x.1) one.x.1 two.x two.first in
    took_at (g.at (suc k)) ts (g.made (suc k) one.x.0 two.x.0, two.x.1) r two.then (record {
      front = a.front ++ b.front;
      reads = g.tier j a.reads b.reads refl;
      is = a.is ∙ ap (λ v. a.front ++ v) b.is ∙ sym (append_assoc a.front b.front two.x.1);
    })

sign_of : (ts : List Term) → p.is_sign (peek ts) ≡ true → ts ≡ t.Minus ∷ rest ts
sign_of [] h = cc
sign_of (t.Minus ∷ ws) h = refl
sign_of (_ ∷ ws) h = cc

-- the signs of a tier
signed_sound : (sub : Parser Expr) → Sound sub (g.at 1) → (n : ℕ) (ts : List Term) (r : (ℕ × Expr) × List Term) → p.signed sub n ts ≡ Some r → Took ts (g.signed r.0.0 r.0.1) r.1
signed_sound sub ok zero ts r h = cc
signed_sound sub ok (suc n) ts r h = elim (chosen (p.is_sign (peek ts)) (p.signed sub n (rest ts) >>= (λ v. Some ((suc v.0.0, v.0.1), v.1))) (sub ts >>= (λ v. Some ((0, v.0), v.1))) r h) [
  | inl hit ↦ (let one = bound (p.signed sub n (rest ts)) (λ v. Some ((suc v.0.0, v.0.1), v.1)) r hit.1 in
      let a = signed_sound sub ok n (rest ts) one.x one.first in
      took_at (λ (q : ℕ × Expr). g.signed q.0 q.1) ts ((suc one.x.0.0, one.x.0.1), one.x.1) r one.then (record { front = t.Minus ∷ a.front; reads = g.sign a.reads; is = sign_of ts hit.0 ∙ ap (λ v. t.Minus ∷ v) a.is }))
  | inr miss ↦ (let one = bound (sub ts) (λ v. Some ((0, v.0), v.1)) r miss.1 in
      let a = ok ts one.x one.first in
      took_at (λ (q : ℕ × Expr). g.signed q.0 q.1) ts ((0, one.x.0), one.x.1) r one.then (record { front = a.front; reads = g.no_sign a.reads; is = a.is }))
]

signs_sound : (sub : Parser Expr) → Sound sub (g.at 1) → Sound (p.signs sub) (g.at 2)
signs_sound sub ok ts r h =
    let one = bound (p.signed sub (length ts) ts) (λ v. Some (g.negated v.0.0 v.0.1, v.1)) r h in
    let a = signed_sound sub ok (length ts) ts one.x one.first in
    took_at (g.at 2) ts (g.negated one.x.0.0 one.x.0.1, one.x.1) r one.then (record { front = a.front; reads = g.signs a.reads; is = a.is })

tier_sound : (inner : Parser Expr) → Sound inner (g.at 8) → (k : ℕ) → Sound (p.tier inner k) (g.at k)
tier_sound inner ok zero = path_sound inner ok
tier_sound inner ok (suc zero) = joins_sound 0 (p.tier inner 0) (tier_sound inner ok zero) refl
tier_sound inner ok (suc (suc zero)) = signs_sound (p.tier inner 1) (tier_sound inner ok (suc zero))
tier_sound inner ok (suc (suc (suc k))) = λ ts r h.
    let j : g.is_joined (suc (suc (suc k))) ≡ true = grind (arith, nat_tests) in
    joins_sound (suc (suc k)) (p.tier inner (suc (suc k))) (tier_sound inner ok (suc (suc k))) j ts r (sym (ap (λ b. p.tier_by inner b (suc (suc k)) (p.tier inner (suc (suc k))) ts) j) ∙ h)

expr_sound : (d : ℕ) → Sound (p.expr d) (g.at 8)
unfolding p.expr
expr_sound zero ts r h = cc
expr_sound (suc d) ts r h = tier_sound (p.expr d) (expr_sound d) 8 ts r h

-- what the parser finds with nothing left is what the tokens read as
pub reads : (d : ℕ) (ts : List Term) (x : Expr) → p.expr d ts ≡ Some (x, []) → g.ReadsWhole ts x
reads d ts x h = let a = expr_sound d ts (x, []) h in subst (λ v. Reads v (g.at 8 x)) (sym (a.is ∙ append-nil a.front)) a.reads
