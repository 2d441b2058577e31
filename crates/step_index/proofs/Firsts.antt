-- The first element whose attribute `id` has a value.
use Rattle.std.proofs.Common.{◌≡◌, ℕ, zero, suc, ◌+◌, ◌-◌, ◌<◌, ◌≤◌, length, Bool, true, false, ◌&&◌, cond, eqb, ltb, codes, List, refl, sym, ◌∙◌, ap, arith, inl, inr, ◌⊎◌, Option, Some, None}
use Rattle.std.specs.List.{range_with_len, find, list_any}
use Rattle.std.specs.Str.{bytes_eq}
use Rattle.std.specs.Option.{option_map}
use Rattle.std.proofs.lemmas.Bool.{and_parts, and_from, lt-ltb, or_cases, or_left, or_right, cases_lt, cases_eq, eqb-true, eq-eqb, false_from_ne_true, both_ways}
use Rattle.doc_model.specs.declared.Kind.{Kind}
use Rattle.doc_model.specs.declared.Kind.TheVariants.{Element, Attribute}
use Rattle.doc_model.specs.Document.{Document, row, rows, is_element, is_element_kind, is_attribute, is_attribute_kind, is_parent, IsDocument}
use Rattle.doc_model.specs.Attributes.{is_attribute_of, has_id}
use Rattle.doc_model.proofs.Below.{small}
use Rattle.doc_model.proofs.AxisWalks.{attribute_kind}
use Rattle.step_index.specs.inner.Tables.{gives_id}

-- ---- the first number of a range that passes

-- what is found in a range: nothing passes, or this is the first that does
pub data Found (p : ℕ → Bool) (low n : ℕ) : Option ℕ → Type 0 where
  none : ((z : ℕ) → low ≤ z → z < low + n → p z ≡ false) → Found p low n None
  first : (y : ℕ) → low ≤ y → y < low + n → p y ≡ true → ((z : ℕ) → low ≤ z → z < y → p z ≡ false) → Found p low n (Some y)

found_at : (p : ℕ → Bool) (low n : ℕ) (b : Bool) (r : Option ℕ) → p low ≡ b → Found p (low + 1) n r → Found p low (suc n) (cond b (Some low) r)
found_at p low n true r e f = first low (omega arith) (omega arith) e (λ z l k. absurd (omega (arith, l, k)))
found_at p low n false r e (none never) = none (λ z l k. elim (cases_eq z low) [ inl s ↦ ap p s ∙ e | inr s ↦ never z (omega (arith, l, s)) (omega (arith, k)) ])
found_at p low n false r e (first y l k h before) =
    first y (omega (arith, l)) (omega (arith, k)) h (λ z m o. elim (cases_eq z low) [ inl s ↦ ap p s ∙ e | inr s ↦ before z (omega (arith, m, s)) o ])

pub found : (p : ℕ → Bool) (n low : ℕ) → Found p low n (find p (range_with_len low n))
found p zero low = none (λ z l k. absurd (omega (arith, l, k)))
found p (suc n) low = found_at p low n (p low) (find p (range_with_len (low + 1) n)) refl (found p n (low + 1))

-- where that holds of nothing else
pub found_is : (p : ℕ → Bool) (n y : ℕ) (r : Option ℕ) → Found p 0 n r → y < n → p y ≡ true → ((z : ℕ) → z < y → p z ≡ false) → r ≡ Some y
found_is p n y r (none never) l h before = absurd (both_ways _ (never y (omega arith) (omega (arith, l))) h)
found_is p n y r (first x a b k earlier) l h before =
    elim (cases_lt x y) [
      | inl s ↦ absurd (both_ways _ (before x s) k)
      | inr s ↦ elim (cases_lt y x) [ inl t ↦ absurd (both_ways _ (earlier y (omega arith) t) h) | inr t ↦ ap Some (omega (arith, s, t)) ]
    ]

pub found_none : (p : ℕ → Bool) (n : ℕ) (r : Option ℕ) → Found p 0 n r → ((z : ℕ) → z < n → p z ≡ false) → r ≡ None
found_none p n r (none never) no_row = refl
found_none p n r (first x a b k earlier) no_row = absurd (both_ways _ (no_row x (omega (arith, b))) k)

-- ---- some number of a range passes

pub any_in : (p : ℕ → Bool) (n low z : ℕ) → low ≤ z → z < low + n → p z ≡ true → list_any p (range_with_len low n) ≡ true
any_in p zero low z l k h = absurd (omega (arith, l, k))
any_in p (suc n) low z l k h =
    elim (cases_eq z low) [ inl s ↦ or_left _ _ (sym (ap p s) ∙ h) | inr s ↦ or_right _ _ (any_in p n (low + 1) z (omega (arith, l, s)) (omega (arith, k)) h) ]

pub any_out : (p : ℕ → Bool) (n low : ℕ) → list_any p (range_with_len low n) ≡ true → (z : ℕ) × ((low ≤ z) × (z < low + n) × (p z ≡ true))
any_out p zero low h = cc
any_out p (suc n) low h =
    elim (or_cases _ _ h) [ inl e ↦ (low, (omega arith, omega arith, e)) | inr e ↦ (let r = any_out p n (low + 1) e in (r.0, (omega (arith, r.1.0), omega (arith, r.1.1), r.1.2))) ]

-- ---- attributes stand after their element

-- what stands between an attribute's element and the attribute is an attribute of it
between : (k : ℕ) (doc : Document) (z : ℕ) → IsDocument doc → z < length doc → is_attribute doc z ≡ true → (row doc z).parent < z - k
    → (is_attribute doc (z - k) ≡ true) × ((row doc (z - k)).parent ≡ (row doc z).parent)
between zero doc z d l a h = let e : z - 0 ≡ z = omega arith in (ap (is_attribute doc) e ∙ a, ap (λ v. (row doc v).parent) e)
between (suc k) doc z d l a h =
    let last = between k doc z d l a (omega arith) in
    let one : z - suc k ≡ z - k - 1 = omega arith in
    split one (or_cases _ _ ((d.rest (z - k) (omega arith) (omega arith)).attribute (attribute_kind _ last.0)).2) last.1
  where
    split : z - suc k ≡ z - k - 1 → (eqb (row doc (z - k)).parent (z - k - 1) ≡ true) ⊎ ((is_attribute doc (z - k - 1) && eqb (row doc (z - k - 1)).parent (row doc (z - k)).parent) ≡ true)
        → (row doc (z - k)).parent ≡ (row doc z).parent → (is_attribute doc (z - suc k) ≡ true) × ((row doc (z - suc k)).parent ≡ (row doc z).parent)
    split one (inl s) up = let t : (row doc (z - k)).parent ≡ z - k - 1 = eqb-true _ _ s in absurd (omega (arith, h, t, up, one))
    split one (inr s) up = let two = and_parts _ _ s in (ap (is_attribute doc) one ∙ two.0, ap (λ v. (row doc v).parent) one ∙ eqb-true _ _ two.1 ∙ up)

attribute_between : (doc : Document) (z y : ℕ) → IsDocument doc → z < length doc → is_attribute doc z ≡ true → (row doc z).parent < y → y ≤ z → is_attribute doc y ≡ true
attribute_between doc z y d l a h k = let e : z - (z - y) ≡ y = omega arith in sym (ap (is_attribute doc) e) ∙ (between (z - y) doc z d l a (omega arith)).0

not_both : (k : Kind) → is_element_kind k ≡ true → is_attribute_kind k ≡ true → ⊥
not_both Element e a = cc
not_both Attribute e a = cc
not_both _ e a = cc

-- no attribute is the root node
some : (doc : Document) (z : ℕ) → IsDocument doc → is_attribute doc z ≡ true → 0 < z
some doc zero d a = absurd (both_ways _ (ap (λ r. is_attribute_kind r.kind) d.root) a)
some doc (suc z) d a = omega arith

-- the parent of an attribute `id` has it
has_it : (doc : Document) (w : List ℕ) (a : ℕ) → IsDocument doc → a < length doc → gives_id doc w a ≡ true → has_id doc w (row doc a).parent ≡ true
has_it doc w a d l h =
    let att = and_parts _ _ h in
    let value = and_parts _ _ att.1 in
    let first : 0 < a = some doc a d att.0 in
    let owner = ((d.rest a first l).attribute (attribute_kind _ att.0)).1 in
    let own : is_parent doc (row doc a).parent a ≡ true = and_from _ _ (lt-ltb 0 a first) (eq-eqb _ _ refl) in
    and_from _ _ (ap is_element_kind owner)
    (any_in (λ z. is_attribute_of doc (row doc a).parent (codes "id") z && bytes_eq (row doc z).text w) (length doc) 0 a (omega arith) (omega arith) (and_from _ _ (and_from _ _ att.0 (and_from _ _ own value.0)) value.1))

-- a row that has an attribute `id` of this value is the parent of one
owner_of : (doc : Document) (w : List ℕ) (y : ℕ) → has_id doc w y ≡ true → (z : ℕ) × ((z < length doc) × (gives_id doc w z ≡ true) × ((row doc z).parent ≡ y))
owner_of doc w y h =
    let p : ℕ → Bool = λ z. is_attribute_of doc y (codes "id") z && bytes_eq (row doc z).text w in
    let r = any_out p (length doc) 0 (and_parts (is_element doc y) (list_any p (rows doc)) h).1 in
    let two = and_parts (is_attribute_of doc y (codes "id") r.0) (bytes_eq (row doc r.0).text w) r.1.2 in
    let att = and_parts (is_attribute doc r.0) (is_parent doc y r.0 && bytes_eq (row doc r.0).name (codes "id")) two.0 in
    let own = and_parts (is_parent doc y r.0) (bytes_eq (row doc r.0).name (codes "id")) att.1 in
    let above = and_parts (ltb 0 r.0) (eqb (row doc r.0).parent y) own.0 in
    (r.0, (omega (arith, r.1.1), and_from _ _ att.0 (and_from _ _ own.1 two.1), eqb-true (row doc r.0).parent y above.1))

first_from : (doc : Document) (w : List ℕ) (r : Option ℕ) → IsDocument doc → Found (gives_id doc w) 0 (length doc) r → option_map (λ z. (row doc z).parent) r ≡ find (has_id doc w) (rows doc)
first_from doc w r d (none never) =
    sym (found_none (has_id doc w) (length doc) _ (found (has_id doc w) (length doc) 0)
    (λ y l. false_from_ne_true _ (λ h. let o = owner_of doc w y h in both_ways _ (never o.0 (omega arith) (omega (arith, o.1.0))) o.1.1)))
first_from doc w r d (first a low l h before) =
    let here : a < length doc = omega (arith, l) in
    let att = (and_parts _ _ h).0 in
    let up : (row doc a).parent < a = small doc d a (some doc a d att) in
    sym (found_is (has_id doc w) (length doc) (row doc a).parent _ (found (has_id doc w) (length doc) 0) (omega arith) (has_it doc w a d here h)
    (λ y k. false_from_ne_true _ (λ b. against here up k (owner_of doc w y b))))
  where
    against : a < length doc → (row doc a).parent < a → {y : ℕ} → y < (row doc a).parent → (z : ℕ) × ((z < length doc) × (gives_id doc w z ≡ true) × ((row doc z).parent ≡ y)) → ⊥
    against here up k o =
        elim (cases_lt o.0 a) [
          | inl s ↦ both_ways _ (before o.0 (omega arith) s) o.1.1
          | inr s ↦ not_both (row doc (row doc a).parent).kind (and_parts _ _ (has_it doc w a d here h)).0
              (attribute_between doc o.0 (row doc a).parent d o.1.0 (and_parts _ _ o.1.1).0 (omega (arith, o.1.2, k)) (omega (arith, up, s)))
        ]

-- the element of the first attribute `id` of a value is the first element that has it
pub first_of : (doc : Document) (w : List ℕ) → IsDocument doc → option_map (λ z. (row doc z).parent) (find (gives_id doc w) (rows doc)) ≡ find (has_id doc w) (rows doc)
first_of doc w d = first_from doc w (find (gives_id doc w) (rows doc)) d (found (gives_id doc w) (length doc) 0)
