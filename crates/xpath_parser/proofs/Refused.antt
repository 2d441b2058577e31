-- Each text reads as an expression, or is refused for one reason.
use Rattle.std.proofs.Common.{◌≡◌, refl, sym, ◌∙◌, ap, subst, ℕ, zero, suc, ◌+◌, ◌≤◌, Bool, true, false, List, [], ◌∷◌, length, take, count_by, Option, Some, None, arith, append-nil, ◌⊎◌, inl, inr}
use Rattle.std.specs.List.{list_any}
use Rattle.std.proofs.lemmas.Bool.{cases_lt}
use Rattle.text_base.specs.declared.reasons.XPathFault.{XPathFault}
use Rattle.text_base.specs.declared.reasons.XPathFault.TheVariants as fault
use Rattle.test_registry.specs.Names.{Known}
use Rattle.xpath_lexer.specs.Tokens.{Text, Lexeme, Spells}
use Rattle.xpath_lexer.proofs.Spelling.{one_spelling}
use Rattle.xpath_lexer.proofs.Spellable.{spelled_or_not}
use Rattle.xpath_parser.specs.declared.expression.Expr.{Expr}
use Rattle.xpath_parser.specs.declared.term.Term.{Term}
use Rattle.xpath_parser.specs.declared.term.Term.TheVariants as t
use Rattle.xpath_parser.specs.Terms.{terms_over, is_open, is_close, is_refused, most_open, IsShallow}
use Rattle.xpath_parser.specs.Grammar.{ReadsWhole}
use Rattle.xpath_parser.specs.Reader as reader
use Rattle.xpath_parser.specs.Shapes.{takes, is_well_typed}
use Rattle.xpath_lexer.specs.Places.{most_xpath}
use Rattle.xpath_parser.specs.Faults as f
use Rattle.xpath_parser.specs.Faults.{IsFit, IsFaultOver, IsXPathFault, first_fault, fault_at, argument_count}
use Rattle.xpath_parser.specs.Laws.{IsRead, IsRefused, IsReadOver, IsRefusedOver}
use Rattle.xpath_parser.specs.Reading.{ReadsAs, ReadsOver}
use Rattle.xpath_parser.proofs.Arguments.{calls_fit, calls}
use Rattle.xpath_parser.proofs.Complete.{found, one_reading}
use Rattle.xpath_parser.proofs.Sound.{reads}

-- ---- each question has an answer

shallow_below : (ws : List Lexeme) (n : ℕ) → ((i : ℕ) → i ≤ n → count_by is_open (take i ws) ≤ count_by is_close (take i ws) + most_open)
    ⊎ (((i : ℕ) → i ≤ n → count_by is_open (take i ws) ≤ count_by is_close (take i ws) + most_open) → ⊥)
shallow_below ws zero = elim (cases_lt (count_by is_close (take 0 ws) + most_open) (count_by is_open (take 0 ws))) [
  | inl more ↦ inr (λ all. (let l = all 0 (omega arith) in omega arith))
  | inr fine ↦ inl (λ i l. subst (λ (j : ℕ). count_by is_open (take j ws) ≤ count_by is_close (take j ws) + most_open) (let e : 0 ≡ i = omega arith in e) fine)
]
shallow_below ws (suc n) = elim (shallow_below ws n) [
  | inr deep ↦ inr (λ all. deep (λ i l. all i (omega arith)))
  | inl below ↦ elim (cases_lt (count_by is_close (take (suc n) ws) + most_open) (count_by is_open (take (suc n) ws))) [
    | inl more ↦ inr (λ all. (let l = all (suc n) (omega arith) in omega arith))
    | inr fine ↦ inl (λ i l. elim (cases_lt i (suc n)) [
      | inl low ↦ below i (omega arith)
      | inr high ↦ subst (λ (j : ℕ). count_by is_open (take j ws) ≤ count_by is_close (take j ws) + most_open) (let e : suc n ≡ i = omega arith in e) fine
    ])
  ]
]

record Whole (ts : List Term) : Type 0 where
  x : Expr
  reads : ReadsWhole ts x

read_by : (ts : List Term) (o : reader.Outcome Expr) → reader.expr (suc (length ts)) ts ≡ o → Whole ts ⊎ ((x : Expr) → ReadsWhole ts x → ⊥)
read_by ts None e = inr (λ x r. (let h = found ts x r (suc (length ts)) (omega arith) in cc))
read_by ts (Some (x, [])) e = inl (record { x = x; reads = reads (suc (length ts)) ts x e })
read_by ts (Some (x, w ∷ ws)) e = inr (λ y r. (let h : reader.expr (suc (length ts)) ts ≡ Some (y, []) = found ts y r (suc (length ts)) (omega arith) in
    let same : ◌≡◌ {A = Expr × List Term} (x, w ∷ ws) (y, []) = cc in
    let no : w ∷ ws ≡ [] = ap (λ (q : Expr × List Term). q.1) same in cc))

-- a list without a fault has no term that is refused
pub accepted : (ts : List Term) → first_fault ts ≡ None → list_any is_refused ts ≡ false
accepted [] h = refl
accepted (t.Fraction ∷ ts) h = cc
accepted (t.TooLarge ∷ ts) h = cc
accepted (t.Div ∷ ts) h = cc
accepted (t.Variable ∷ ts) h = cc
accepted (t.Prefixed ∷ ts) h = cc
accepted (t.UnknownFunction ∷ ts) h = cc
accepted (t.Function g ∷ ts) h = by_count (takes g (argument_count ts)) refl (accepted ts)
  where
    by_count : (v : Bool) → takes g (argument_count ts) ≡ v → (first_fault ts ≡ None → list_any is_refused ts ≡ false) → list_any is_refused ts ≡ false
    by_count true e ih = ih (let later = rw e at h in later)
    by_count false e ih = let no : Some fault.Arguments ≡ None = rw e at h in cc
accepted (_ ∷ ts) h = accepted ts h

module _ (tests : Known) where
  typed_or_not : (text : Text) (ws : List Lexeme) (x : Expr) (v : Bool) → IsFit text ws → ReadsWhole (terms_over tests ws) x → first_fault (terms_over tests ws) ≡ None → is_well_typed x ≡ v → IsReadOver tests text ⊎ IsRefusedOver tests text
  typed_or_not text ws x true fit r none e = inl (record {
    expression = x;
    reads = record { short = fit.short; lexemes = ws; spelled = fit.spelled; shallow = fit.shallow; reads = r; accepted = accepted (terms_over tests ws) none; typed = e };
  })
  typed_or_not text ws x false fit r none e = inr (record { fault = fault.WrongType; stands = f.wrong_type fit r none e })

  fault_or_not : (text : Text) (ws : List Lexeme) (x : Expr) (o : Option XPathFault) → IsFit text ws → ReadsWhole (terms_over tests ws) x → first_fault (terms_over tests ws) ≡ o → IsReadOver tests text ⊎ IsRefusedOver tests text
  fault_or_not text ws x None fit r e = typed_or_not text ws x (is_well_typed x) fit r e refl
  fault_or_not text ws x (Some v) fit r e = inr (record { fault = v; stands = f.at_token fit r e })

  fit_or_not : (text : Text) (ws : List Lexeme) → IsFit text ws → IsReadOver tests text ⊎ IsRefusedOver tests text
  fit_or_not text ws fit = elim (read_by (terms_over tests ws) (reader.expr (suc (length (terms_over tests ws))) (terms_over tests ws)) refl) [
    | inl r ↦ fault_or_not text ws r.x (first_fault (terms_over tests ws)) fit r.reads refl
    | inr none ↦ inr (record { fault = fault.Syntax; stands = f.unread fit none })
  ]

  pub read_or_refused_over : (text : Text) → IsReadOver tests text ⊎ IsRefusedOver tests text
  read_or_refused_over text = elim (cases_lt most_xpath (length text)) [
    | inl long ↦ inr (record { fault = fault.Long; stands = f.too_long long })
    | inr short ↦ elim (spelled_or_not (length text) text (omega arith)) [
      | inr none ↦ inr (record { fault = fault.Text; stands = f.unspelled short none })
      | inl s ↦ elim (shallow_below s.lexemes (length s.lexemes)) [
        | inl fine ↦ fit_or_not text s.lexemes (record { short = short; spelled = s.spells; shallow = fine })
        | inr deep ↦ inr (record { fault = fault.Deep; stands = f.too_deep short s.spells deep })
      ]
    ]
  ]

-- ---- and one answer

same_terms : {text : Text} {a b : List Lexeme} → Spells text a → Spells text b → a ≡ b
same_terms {b = b} r q = one_spelling b r q

some_same : (p q : XPathFault) → ◌≡◌ {A = Option XPathFault} (Some p) (Some q) → p ≡ q
some_same p q h = cc

module _ (tests : Known) where
  pub one_fault_over : (text : Text) (p q : XPathFault) → IsFaultOver tests text p → IsFaultOver tests text q → p ≡ q
  one_fault_over text p q (f.too_long l) (f.too_long m) = refl
  one_fault_over text p q (f.too_long l) (f.unspelled m n) = absurd (omega arith)
  one_fault_over text p q (f.too_long l) (f.too_deep m r n) = absurd (omega arith)
  one_fault_over text p q (f.too_long l) (f.unread m n) = absurd (omega (arith, m.short))
  one_fault_over text p q (f.too_long l) (f.at_token m r e) = absurd (omega (arith, m.short))
  one_fault_over text p q (f.too_long l) (f.wrong_type m r e v) = absurd (omega (arith, m.short))
  one_fault_over text p q (f.unspelled l n) (f.too_long m) = absurd (omega arith)
  one_fault_over text p q (f.unspelled l n) (f.unspelled m k) = refl
  one_fault_over text p q (f.unspelled l n) (f.too_deep {ws = b} m r k) = absurd (n b r)
  one_fault_over text p q (f.unspelled l n) (f.unread {ws = b} m k) = absurd (n b m.spelled)
  one_fault_over text p q (f.unspelled l n) (f.at_token {ws = b} m r e) = absurd (n b m.spelled)
  one_fault_over text p q (f.unspelled l n) (f.wrong_type {ws = b} m r e v) = absurd (n b m.spelled)
  one_fault_over text p q (f.too_deep l s n) (f.too_long m) = absurd (omega arith)
  one_fault_over text p q (f.too_deep {ws = a} l s n) (f.unspelled m k) = absurd (k a s)
  one_fault_over text p q (f.too_deep l s n) (f.too_deep m r k) = refl
  one_fault_over text p q (f.too_deep {ws = a} l s n) (f.unread {ws = b} m k) = absurd (n (subst IsShallow (same_terms m.spelled s) m.shallow))
  one_fault_over text p q (f.too_deep {ws = a} l s n) (f.at_token {ws = b} m r e) = absurd (n (subst IsShallow (same_terms m.spelled s) m.shallow))
  one_fault_over text p q (f.too_deep {ws = a} l s n) (f.wrong_type {ws = b} m r e v) = absurd (n (subst IsShallow (same_terms m.spelled s) m.shallow))
  one_fault_over text p q (f.unread l n) (f.too_long m) = absurd (omega (arith, l.short))
  one_fault_over text p q (f.unread {ws = a} l n) (f.unspelled m k) = absurd (k a l.spelled)
  one_fault_over text p q (f.unread l n) (f.too_deep m r k) = absurd (k (subst IsShallow (same_terms l.spelled r) l.shallow))
  one_fault_over text p q (f.unread l n) (f.unread m k) = refl
  one_fault_over text p q (f.unread l n) (f.at_token {x = x} m r e) = absurd (n x (subst (λ (ws : List Lexeme). ReadsWhole (terms_over tests ws) x) (same_terms m.spelled l.spelled) r))
  one_fault_over text p q (f.unread l n) (f.wrong_type {x = x} m r e v) = absurd (n x (subst (λ (ws : List Lexeme). ReadsWhole (terms_over tests ws) x) (same_terms m.spelled l.spelled) r))
  one_fault_over text p q (f.at_token l s d) (f.too_long m) = absurd (omega (arith, l.short))
  one_fault_over text p q (f.at_token {ws = a} l s d) (f.unspelled m k) = absurd (k a l.spelled)
  one_fault_over text p q (f.at_token l s d) (f.too_deep m r k) = absurd (k (subst IsShallow (same_terms l.spelled r) l.shallow))
  one_fault_over text p q (f.at_token {x = x} l s d) (f.unread m k) = absurd (k x (subst (λ (ws : List Lexeme). ReadsWhole (terms_over tests ws) x) (same_terms l.spelled m.spelled) s))
  one_fault_over text p q (f.at_token l s d) (f.at_token m r e) = some_same p q (sym d ∙ ap (λ (ws : List Lexeme). first_fault (terms_over tests ws)) (same_terms l.spelled m.spelled) ∙ e)
  one_fault_over text p q (f.at_token l s d) (f.wrong_type m r e v) = let no : Some p ≡ None = sym d ∙ ap (λ (ws : List Lexeme). first_fault (terms_over tests ws)) (same_terms l.spelled m.spelled) ∙ e in cc
  one_fault_over text p q (f.wrong_type l s d u) (f.too_long m) = absurd (omega (arith, l.short))
  one_fault_over text p q (f.wrong_type {ws = a} l s d u) (f.unspelled m k) = absurd (k a l.spelled)
  one_fault_over text p q (f.wrong_type l s d u) (f.too_deep m r k) = absurd (k (subst IsShallow (same_terms l.spelled r) l.shallow))
  one_fault_over text p q (f.wrong_type {x = x} l s d u) (f.unread m k) = absurd (k x (subst (λ (ws : List Lexeme). ReadsWhole (terms_over tests ws) x) (same_terms l.spelled m.spelled) s))
  one_fault_over text p q (f.wrong_type l s d u) (f.at_token m r e) = let no : None ≡ Some q = sym d ∙ ap (λ (ws : List Lexeme). first_fault (terms_over tests ws)) (same_terms l.spelled m.spelled) ∙ e in cc
  one_fault_over text p q (f.wrong_type l s d u) (f.wrong_type m r e v) = refl

-- ---- and never both

-- a list whose functions have their numbers of arguments, and none of whose terms is refused, has no fault
no_fault : (ts : List Term) → calls_fit ts ≡ true → list_any is_refused ts ≡ false → first_fault ts ≡ None
no_fault [] c h = refl
no_fault (t.Fraction ∷ ts) c h = cc
no_fault (t.TooLarge ∷ ts) c h = cc
no_fault (t.Div ∷ ts) c h = cc
no_fault (t.Variable ∷ ts) c h = cc
no_fault (t.Prefixed ∷ ts) c h = cc
no_fault (t.UnknownFunction ∷ ts) c h = cc
no_fault (t.Function g ∷ ts) c h = by_count (takes g (argument_count ts)) refl (no_fault ts)
  where
    by_count : (v : Bool) → takes g (argument_count ts) ≡ v → (calls_fit ts ≡ true → list_any is_refused ts ≡ false → first_fault ts ≡ None) → first_fault (t.Function g ∷ ts) ≡ None
    by_count true e ih = let rest : calls_fit ts ≡ true = rw e at c in rw e (ih rest h)
    by_count false e ih = let no : false ≡ true = rw e at c in cc
no_fault (_ ∷ ts) c h = no_fault ts c h

fault_free : (ts : List Term) (x : Expr) → ReadsWhole ts x → is_well_typed x ≡ true → list_any is_refused ts ≡ false → first_fault ts ≡ None
fault_free ts x r typed h = no_fault ts (ap calls_fit (sym (append-nil ts)) ∙ calls r typed []) h

module _ (tests : Known) where
  pub never_both_over : (text : Text) (x : Expr) (p : XPathFault) → ReadsOver tests text x → IsFaultOver tests text p → ⊥
  never_both_over text x p r (f.too_long l) = absurd (omega (arith, r.short))
  never_both_over text x p r (f.unspelled l n) = n r.lexemes r.spelled
  never_both_over text x p r (f.too_deep l s n) = n (subst IsShallow (same_terms r.spelled s) r.shallow)
  never_both_over text x p r (f.unread l n) = n x (subst (λ (ws : List Lexeme). ReadsWhole (terms_over tests ws) x) (same_terms r.spelled l.spelled) r.reads)
  never_both_over text x p r (f.at_token l s d) =
      let none = fault_free (terms_over tests r.lexemes) x r.reads r.typed r.accepted in
      let no : None ≡ Some p = sym none ∙ ap (λ (ws : List Lexeme). first_fault (terms_over tests ws)) (same_terms r.spelled l.spelled) ∙ d in cc
  never_both_over text x p r (f.wrong_type {ws = ws} {x = y} l s d v) =
      let same : x ≡ y = one_reading (terms_over tests ws) x y (subst (λ (ws : List Lexeme). ReadsWhole (terms_over tests ws) x) (same_terms r.spelled l.spelled) r.reads) s in
      let no : true ≡ false = sym r.typed ∙ ap is_well_typed same ∙ v in cc

-- ---- where no tests are stored

pub read_or_refused : (text : Text) → IsRead text ⊎ IsRefused text
read_or_refused text = read_or_refused_over [] text

pub one_fault : (text : Text) (p q : XPathFault) → IsXPathFault text p → IsXPathFault text q → p ≡ q
one_fault text p q h k = one_fault_over [] text p q h k

pub never_both : (text : Text) (x : Expr) (p : XPathFault) → ReadsAs text x → IsXPathFault text p → ⊥
never_both text x p r h = never_both_over [] text x p r h
