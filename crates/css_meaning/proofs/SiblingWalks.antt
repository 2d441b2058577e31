-- The walks from sibling to sibling.
use Rattle.std.proofs.Common.{◌≡◌, refl, ℕ, zero, suc, ◌+◌, ◌<◌, ◌≤◌, List, length, Bool, true, false, ◌&&◌, ◌||◌, cond, ltb, eqb, sym, ◌∙◌, ap, subst, arith, inl, inr, lt-ltb, ◌⊎◌}
use Rattle.std.specs.Prelude.{filter, not}
use Rattle.std.specs.List.{list_any, range_with_len}
use Rattle.std.proofs.lemmas.Bool.{and_left, and_right, cases_lt, le-ltb, false_from_ne_true, both_ways}
use Rattle.doc_model.specs.Document.{Row, Document, row, rows, is_element, is_text, is_parent, IsDocument}
use Rattle.doc_model.specs.Ends.{IsEnd}
use Rattle.doc_model.proofs.Below.{small, past_end, below_parent}
use Rattle.doc_model.proofs.AxisWalks.{not_parent, parent_from, and_true, positive}
use Rattle.doc_model.proofs.Filters.{upto_more, upto_none, upto_all}
use Rattle.doc_model.proofs.WalkSteps.{one_if}
use Rattle.css_selectors.specs.declared.selector.Nth.{Nth}
use Rattle.css_selectors.specs.declared.selector.Nth.TheVariants as nth
use Rattle.css_meaning.specs.Siblings.{is_sibling, position}
use Rattle.css_meaning.specs.inner.SiblingWalks.{is_like, is_by_name, is_on_side, is_counted, IsSpan, IsBehind}
use Rattle.css_meaning.proofs.Finding.{found, finds}

-- ---- who is no child

-- a row below y is no child of what stands before y
pub skipped : (doc : Document) (x y r z : ℕ) → IsDocument doc → IsEnd doc y r → x < y → y < z → z < r → is_parent doc x z ≡ false
skipped doc x y r z d end h l k =
    not_parent doc x z (λ some s. let up : y ≤ (row doc z).parent = parent_from doc y z (small doc d) (end.inside z l k) in omega arith)

-- no row from the end on is a child
pub past : (doc : Document) (x r z : ℕ) → IsDocument doc → IsEnd doc x r → r ≤ z → z < length doc → is_parent doc x z ≡ false
past doc x r z d end h l = not_parent doc x z (λ some s. both_ways _ (past_end doc x r z d end h l) (below_parent doc x z (small doc d) some s))

-- and none up to the row itself
pub before : (doc : Document) (x z : ℕ) → IsDocument doc → z ≤ x → is_parent doc x z ≡ false
before doc x z d h = not_parent doc x z (λ some s. let up : (row doc z).parent < z = small doc d z some in omega arith)

-- ---- who is no sibling

unlike : (doc : Document) (by_name : Bool) (e y : ℕ) → is_sibling doc e y ≡ false → is_like doc by_name e y ≡ false
unlike doc false e y h = h
unlike doc true e y h = and_left _ _ h

no_child : (doc : Document) (e y : ℕ) → is_parent doc (row doc e).parent y ≡ false → is_sibling doc e y ≡ false
no_child doc e y h = and_right _ _ h

pub not_like : (doc : Document) (by_name : Bool) (e y : ℕ) → is_parent doc (row doc e).parent y ≡ false → is_like doc by_name e y ≡ false
not_like doc by_name e y h = unlike doc by_name e y (no_child doc e y h)

not_counted : (doc : Document) (kind : Nth) (e y : ℕ) → is_sibling doc e y ≡ false → is_counted doc kind e y ≡ false
not_counted doc kind e y h = and_left _ _ (unlike doc (is_by_name kind) e y h)

pub end_behind : (doc : Document) (e r : ℕ) → IsDocument doc → (e ≡ 0 → ⊥) → IsEnd doc e r → IsBehind doc e r
end_behind doc e r d some end =
    let up : (row doc e).parent < e = small doc d e (positive e some) in
    record {
      behind = end.after;
      within = end.within;
      between = λ y l k. no_child doc e y (skipped doc (row doc e).parent e r y d end up l k);
    }

-- ---- where the siblings stand

pub parent_within : (doc : Document) (e : ℕ) → IsDocument doc → (row doc e).parent ≤ e
parent_within doc zero d = omega (arith, ap (λ (r : Row). r.parent) d.root)
parent_within doc (suc e) d = let up : (row doc (suc e)).parent < suc e = small doc d (suc e) (omega arith) in omega arith

before_side : (kind : Nth) (e y : ℕ) → (kind ≡ nth.Child) ⊎ (kind ≡ nth.OfType) → is_on_side kind e y ≡ ltb y e
before_side kind e y (inl h) = ap (λ k. is_on_side k e y) h
before_side kind e y (inr h) = ap (λ k. is_on_side k e y) h

after_side : (kind : Nth) (e y : ℕ) → (kind ≡ nth.LastChild) ⊎ (kind ≡ nth.LastOfType) → is_on_side kind e y ≡ ltb e y
after_side kind e y (inl h) = ap (λ k. is_on_side k e y) h
after_side kind e y (inr h) = ap (λ k. is_on_side k e y) h

pub first_span : (doc : Document) (kind : Nth) (e p : ℕ) → IsDocument doc → e < length doc → (kind ≡ nth.Child) ⊎ (kind ≡ nth.OfType) → p ≡ (row doc e).parent → IsSpan doc kind e (p + 1) e
first_span doc kind e p d h side same =
    let up : (row doc e).parent ≤ e = parent_within doc e d in
    record {
      behind = omega arith;
      starts = omega arith;
      ends = omega arith;
      before = λ y l. not_counted doc kind e y (no_child doc e y (before doc (row doc e).parent y d (omega arith)));
      after = λ y l k. and_right _ _ (before_side kind e y side ∙ le-ltb y e l);
      within = λ y l k. and_true _ _ (before_side kind e y side ∙ lt-ltb y e k);
    }

pub last_span : (doc : Document) (kind : Nth) (e p from to : ℕ) → IsDocument doc → (kind ≡ nth.LastChild) ⊎ (kind ≡ nth.LastOfType) → p ≡ (row doc e).parent
    → IsBehind doc e from → IsEnd doc p to → IsSpan doc kind e from to
last_span doc kind e p from to d side same here end =
    let up : (row doc e).parent ≤ e = parent_within doc e d in
    let whole : IsEnd doc (row doc e).parent to = subst (λ v. IsEnd doc v to) same end in
    let first : e < from = here.behind in
    record {
      behind = omega arith;
      starts = here.within;
      ends = whole.within;
      before = λ y l. elim (cases_lt e y) [
        | inl k ↦ not_counted doc kind e y (here.between y k l)
        | inr k ↦ and_right _ _ (after_side kind e y side ∙ le-ltb e y k)
      ];
      after = λ y l k. not_counted doc kind e y (no_child doc e y (past doc (row doc e).parent to y d whole l k));
      within = λ y l k. and_true _ _ (after_side kind e y side ∙ lt-ltb e y (omega arith));
    }

-- ---- what is counted so far

abbrev pub count_to : Document → Nth → ℕ → ℕ → ℕ
count_to doc kind e y = length (filter (is_counted doc kind e) (range_with_len 0 y))

pub count_start : (doc : Document) (kind : Nth) (e from to : ℕ) → IsSpan doc kind e from to → count_to doc kind e from ≡ 0
count_start doc kind e from to s = ap (λ (v : List ℕ). length v) (upto_none (is_counted doc kind e) from s.before)

pub count_more : (doc : Document) (kind : Nth) (e from to y r : ℕ) (b : Bool) (k : ℕ) → IsDocument doc → IsSpan doc kind e from to → from ≤ y → y < to → IsEnd doc y r
    → b ≡ is_like doc (is_by_name kind) e y → k ≡ cond b 1 0 → count_to doc kind e r ≡ count_to doc kind e y + k
count_more doc kind e from to y r b k d s h l end like one =
    let behind : (row doc e).parent < y = omega (arith, s.behind) in
    ap (λ (v : List ℕ). length v) (upto_more (is_counted doc kind e) y r end.after (λ z p q. not_counted doc kind e z (no_child doc e z (skipped doc (row doc e).parent y r z d end behind p q))))
    ∙ one_if (is_counted doc kind e y) (filter (is_counted doc kind e) (range_with_len 0 y)) y
    ∙ ap (λ v. count_to doc kind e y + v) (ap (λ v. cond v 1 0) (s.within y h l ∙ sym like) ∙ sym one)

pub count_all : (doc : Document) (kind : Nth) (e from to y : ℕ) → IsSpan doc kind e from to → to ≤ y → y ≤ length doc → suc (count_to doc kind e y) ≡ position doc kind e
count_all doc kind e from to y s h l = ap (λ (v : List ℕ). suc (length v)) (upto_all (is_counted doc kind e) y (length doc) l (λ z p q. s.after z (omega arith) q)) ∙ whole kind
  where
    whole : (k : Nth) → suc (length (filter (is_counted doc k e) (rows doc))) ≡ position doc k e
    whole nth.Child = refl
    whole nth.LastChild = refl
    whole nth.OfType = refl
    whole nth.LastOfType = refl

-- ---- that none passes a test

pub none_any : (p : ℕ → Bool) (n : ℕ) → ((z : ℕ) → z < n → p z ≡ false) → list_any p (range_with_len 0 n) ≡ false
none_any p n none = false_from_ne_true _ (λ h. let w = found p 0 n h in both_ways _ (none w.0 (omega (arith, w.2))) w.3)

pub none_passes : (p : ℕ → Bool) (n : ℕ) → ((z : ℕ) → z < n → p z ≡ false) → not (list_any p (range_with_len 0 n)) ≡ true
none_passes p n none = ap not (none_any p n none)

pub one_passes : (p : ℕ → Bool) (n y : ℕ) → y < n → p y ≡ true → not (list_any p (range_with_len 0 n)) ≡ false
one_passes p n y l h = ap not (finds p 0 n y (omega arith) (omega arith) h)

-- no row before y passes the test
abbrev pub NoneTo : (ℕ → Bool) → ℕ → Type 0
NoneTo p y = (z : ℕ) → z < y → p z ≡ false

pub none_more : (p : ℕ → Bool) (y r : ℕ) → NoneTo p y → p y ≡ false → ((z : ℕ) → y < z → z < r → p z ≡ false) → NoneTo p r
none_more p y r none here later z l = elim (cases_lt z y) [
  | inl k ↦ none z k
  | inr k ↦ elim (cases_lt y z) [ inl j ↦ later z j l | inr j ↦ (let e : z ≡ y = omega arith in ap p e ∙ here) ]
]

pub none_past : (p : ℕ → Bool) (y n : ℕ) → NoneTo p y → ((z : ℕ) → y ≤ z → z < n → p z ≡ false) → NoneTo p n
none_past p y n none later z l = elim (cases_lt z y) [ inl k ↦ none z k | inr k ↦ later z k l ]

-- a row is like e and is another
abbrev pub is_other : Document → Bool → ℕ → ℕ → Bool
is_other doc by_name e z = is_like doc by_name e z && not (eqb z e)

-- a row is an element or a text in e
abbrev pub is_content : Document → ℕ → ℕ → Bool
is_content doc e z = is_parent doc e z && (is_element doc z || is_text doc z)
