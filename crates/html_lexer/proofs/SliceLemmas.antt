-- What stands in a start tag reads alone as it does in its page.
use Rattle.std.proofs.Common.{◌≡◌, ℕ, ◌+◌, ◌-◌, ◌<◌, ◌≤◌, ◌⊎◌, inl, inr, Bool, true, false, cond, ◌&&◌, List, [], ◌∷◌, length, get_or, take, drop, map, sym, refl, ◌∙◌, ap, subst, arith, ltb, leb, eqb-true, ne_eqb, length-take, length-drop, get_or-take, get_or-drop, drop-drop}
use Rattle.std.specs.Prelude.{◌==◌, slice_range}
use Rattle.std.proofs.lemmas.Bool.{cases_lt, both_ways, and_parts, ltb-true, leb-false}
use Rattle.std.proofs.lemmas.Bool.Decides.{nat_tests}
use Rattle.std.proofs.lemmas.List.{get_or_past, drop-take, take-take}
use Rattle.text_base.specs.Text.{run_end, is_not_byte, is_space5}
use Rattle.text_base.proofs.Boundaries.{in_text}
use Rattle.text_base.proofs.Runs.{run_end_is, run_end_passes, run_end_stops, run_end_from, run_end_moves}
use Rattle.text_base.specs.declared.reasons.PageReason.{PageReason}
use Rattle.text_base.specs.declared.reasons.PageReason.TheVariants.{BadTag, BadAttribute}
use Rattle.html_lexer.specs.Kinds.{is_gap, is_attr_byte, is_bare_byte}
use Rattle.html_lexer.specs.declared.tags.Attribute.{Attribute}
use Rattle.html_lexer.specs.declared.tags.AttrStep.{AttrStep}
use Rattle.html_lexer.specs.declared.tags.AttrStep.TheVariants.{Reads, Closes, Refuses}
use Rattle.html_lexer.specs.Tags.{quoted, valued, named, attr_at, TagReads}
use Rattle.html_lexer.specs.Attributes.{Writes, IsLast, pair_at}

-- which side of a choice gave this
pub cond_is : (b : Bool) (x y z : AttrStep) → cond b x y ≡ z → ((b ≡ true) × (x ≡ z)) ⊎ ((b ≡ false) × (y ≡ z))
cond_is true x y z h = inl (refl, h)
cond_is false x y z h = inr (refl, h)

pub if_true : (b : Bool) (x y z : AttrStep) → b ≡ true → x ≡ z → cond b x y ≡ z
if_true true x y z h e = e
if_true false x y z h e = cc

pub if_false : (b : Bool) (x y z : AttrStep) → b ≡ false → y ≡ z → cond b x y ≡ z
if_false true x y z h e = cc
if_false false x y z h e = e

pub same_attribute : (a b : Attribute) → Reads a ≡ Reads b → a ≡ b
same_attribute a b e = cc

pub refuses_reads : (r : PageReason) (a : Attribute) → Refuses r ≡ Reads a → ⊥
refuses_reads r a e = cc

pub closes_reads : (i j : ℕ) (s : Bool) (a : Attribute) → Closes i j s ≡ Reads a → ⊥
closes_reads i j s a e = cc

pub reads_closes : (i j : ℕ) (s : Bool) (a : Attribute) → Reads a ≡ Closes i j s → ⊥
reads_closes i j s a e = cc

pub refuses_closes : (r : PageReason) (i j : ℕ) (s : Bool) → Refuses r ≡ Closes i j s → ⊥
refuses_closes r i j s e = cc

pub lt_ltb : (a b : ℕ) → a < b → ltb a b ≡ true
lt_ltb a b l = grind (arith, nat_tests)

pub le_leb : (a b : ℕ) → a ≤ b → leb a b ≡ true
le_leb a b l = grind (arith, nat_tests)

pub lt_leb : (a b : ℕ) → b < a → leb a b ≡ false
lt_leb a b l = grind (arith, nat_tests)

-- a step goes forward
module _ (text : List ℕ) where
  quoted_from : (name name_to v : ℕ) (a : Attribute) → quoted text name name_to v ≡ Reads a → v < a.to
  quoted_from name name_to v a h =
      let q = run_end (is_not_byte (get_or text v 0)) text (v + 1) in
      let r : Attribute = record { name = name; name_to = name_to; value = v + 1; value_to = q; to = q + 1 } in
      elim (cond_is (ltb q (length text)) (Reads r) (Refuses BadTag) (Reads a) h) [
        | inl p ↦ subst (λ (b : Attribute). v < b.to) (same_attribute r a p.1) (omega (arith, run_end_from (is_not_byte (get_or text v 0)) text (v + 1)))
        | inr p ↦ absurd (refuses_reads BadTag a p.1)
      ]

  abbrev bare : ℕ → ℕ → ℕ → Attribute
  bare name name_to v = record { name = name; name_to = name_to; value = v; value_to = run_end is_bare_byte text v; to = run_end is_bare_byte text v }

  abbrev unquoted : ℕ → ℕ → ℕ → AttrStep
  unquoted name name_to v = cond (get_or text v 0 == 39) (quoted text name name_to v) (Reads (bare name name_to v))

  valued_from : (name name_to v : ℕ) (a : Attribute) → valued text name name_to v ≡ Reads a → v ≤ a.to
  valued_from name name_to v a h =
      elim (cond_is (get_or text v 0 == 34) (quoted text name name_to v) (unquoted name name_to v) (Reads a) h) [
        | inl p ↦ omega (arith, quoted_from name name_to v a p.1)
        | inr p ↦ elim (cond_is (get_or text v 0 == 39) (quoted text name name_to v) (Reads (bare name name_to v)) (Reads a) p.1) [
          | inl q ↦ omega (arith, quoted_from name name_to v a q.1)
          | inr q ↦ subst (λ (b : Attribute). v ≤ b.to) (same_attribute (bare name name_to v) a q.1) (omega (arith, run_end_from is_bare_byte text v))
        ]
      ]

  abbrev alone : ℕ → ℕ → Attribute
  alone k n = record { name = k; name_to = n; value = n; value_to = n; to = n }

  abbrev sign : ℕ → ℕ
  sign k = run_end is_space5 text (run_end is_attr_byte text k)

  named_from : (k : ℕ) (a : Attribute) → named text k ≡ Reads a → run_end is_attr_byte text k ≤ a.to
  named_from k a h =
      let n = run_end is_attr_byte text k in
      elim (cond_is (get_or text (sign k) 0 == 61) (valued text k n (run_end is_space5 text (sign k + 1))) (Reads (alone k n)) (Reads a) h) [
        | inl p ↦ omega (arith, valued_from k n (run_end is_space5 text (sign k + 1)) a p.1, run_end_from is_space5 text (sign k + 1), run_end_from is_space5 text n)
        | inr p ↦ subst (λ (b : Attribute). n ≤ b.to) (same_attribute (alone k n) a p.1) (omega arith)
      ]

  -- what a step that reads an attribute has found
  abbrev pub closing : ℕ → ℕ → AttrStep
  closing i k = cond (ltb i k && (get_or text (k - 1) 0 == 47)) (Closes (k - 1) (k + 1) true) (Closes k (k + 1) false)

  abbrev pub reading : ℕ → AttrStep
  reading k = cond (is_attr_byte (get_or text k 0)) (named text k) (Refuses BadAttribute)

  pub found : (i : ℕ) (a : Attribute) → attr_at text i ≡ Reads a → ((get_or text (run_end is_gap text i) 0 == 62) ≡ false) × (run_end is_gap text i < length text) × (is_attr_byte (get_or text (run_end is_gap text i) 0) ≡ true) × (named text (run_end is_gap text i) ≡ Reads a)
  found i a h =
      let k = run_end is_gap text i in
      elim (cond_is (get_or text k 0 == 62) (closing i k) (cond (leb (length text) k) (Refuses BadTag) (reading k)) (Reads a) h) [
        | inl p ↦ elim (cond_is (ltb i k && (get_or text (k - 1) 0 == 47)) (Closes (k - 1) (k + 1) true) (Closes k (k + 1) false) (Reads a) p.1) [ inl q ↦ absurd (closes_reads _ _ _ a q.1) | inr q ↦ absurd (closes_reads _ _ _ a q.1) ]
        | inr p ↦ elim (cond_is (leb (length text) k) (Refuses BadTag) (reading k) (Reads a) p.1) [
          | inl q ↦ absurd (refuses_reads BadTag a q.1)
          | inr q ↦ elim (cond_is (is_attr_byte (get_or text k 0)) (named text k) (Refuses BadAttribute) (Reads a) q.1) [
            | inl r ↦ (p.0, leb-false (length text) k q.0, r.0, r.1)
            | inr r ↦ absurd (refuses_reads BadAttribute a r.1)
          ]
        ]
      ]

  attr_from : (i : ℕ) (a : Attribute) → attr_at text i ≡ Reads a → i ≤ a.to
  attr_from i a h =
      let k = run_end is_gap text i in
      omega (arith, run_end_from is_gap text i, named_from k a (found i a h).3, run_end_from is_attr_byte text k)

  valued_closes : (name name_to v i j : ℕ) (s : Bool) → valued text name name_to v ≡ Closes i j s → ⊥
  valued_closes name name_to v i j s h =
      elim (cond_is (get_or text v 0 == 34) (quoted text name name_to v) (unquoted name name_to v) (Closes i j s) h) [
        | inl p ↦ quoted_closes p.1
        | inr p ↦ elim (cond_is (get_or text v 0 == 39) (quoted text name name_to v) (Reads (bare name name_to v)) (Closes i j s) p.1) [ inl q ↦ quoted_closes q.1 | inr q ↦ reads_closes i j s _ q.1 ]
      ]
    where
      quoted_closes : quoted text name name_to v ≡ Closes i j s → ⊥
      quoted_closes h =
          elim (cond_is (ltb (run_end (is_not_byte (get_or text v 0)) text (v + 1)) (length text)) (Reads (record { name = name; name_to = name_to; value = v + 1; value_to = run_end (is_not_byte (get_or text v 0)) text (v + 1); to = run_end (is_not_byte (get_or text v 0)) text (v + 1) + 1 })) (Refuses BadTag) (Closes i j s) h) [
            | inl p ↦ reads_closes i j s _ p.1
            | inr p ↦ refuses_closes BadTag i j s p.1
          ]

  pub named_closes : (k i j : ℕ) (s : Bool) → named text k ≡ Closes i j s → ⊥
  named_closes k i j s h =
      let n = run_end is_attr_byte text k in
      elim (cond_is (get_or text (sign k) 0 == 61) (valued text k n (run_end is_space5 text (sign k + 1))) (Reads (alone k n)) (Closes i j s) h) [
        | inl p ↦ valued_closes k n (run_end is_space5 text (sign k + 1)) i j s p.1
        | inr p ↦ reads_closes i j s (alone k n) p.1
      ]

  -- where a tag closes: at a slash before `>`, or at `>`
  abbrev ClosesAt : ℕ → ℕ → Type 0
  ClosesAt i m = (i ≤ m) × (m ≤ run_end is_gap text i) × ((get_or text m 0 ≡ 62) ⊎ (get_or text m 0 ≡ 47))

  pub closes_at : (i m to : ℕ) (slash : Bool) → attr_at text i ≡ Closes m to slash → ClosesAt i m
  closes_at i m to slash h =
      let k = run_end is_gap text i in
      let from = run_end_from is_gap text i in
      elim (cond_is (get_or text k 0 == 62) (closing i k) (cond (leb (length text) k) (Refuses BadTag) (reading k)) (Closes m to slash) h) [
        | inl p ↦ elim (cond_is (ltb i k && (get_or text (k - 1) 0 == 47)) (Closes (k - 1) (k + 1) true) (Closes k (k + 1) false) (Closes m to slash) p.1) [
          | inl q ↦ (let parts = and_parts (ltb i k) (get_or text (k - 1) 0 == 47) q.0 in
              let l = ltb-true i k parts.0 in
              subst (ClosesAt i) (same_place (k - 1) m (k + 1) to true slash q.1) (omega arith, omega arith, inr (eqb-true (get_or text (k - 1) 0) 47 parts.1)))
          | inr q ↦ subst (ClosesAt i) (same_place k m (k + 1) to false slash q.1) (from, omega arith, inl (eqb-true (get_or text k 0) 62 p.0))
        ]
        | inr p ↦ elim (cond_is (leb (length text) k) (Refuses BadTag) (reading k) (Closes m to slash) p.1) [
          | inl q ↦ absurd (refuses_closes BadTag m to slash q.1)
          | inr q ↦ elim (cond_is (is_attr_byte (get_or text k 0)) (named text k) (Refuses BadAttribute) (Closes m to slash) q.1) [
            | inl r ↦ absurd (named_closes k m to slash r.1)
            | inr r ↦ absurd (refuses_closes BadAttribute m to slash r.1)
          ]
        ]
      ]
    where
      same_place : (i m j to : ℕ) (s slash : Bool) → Closes i j s ≡ Closes m to slash → i ≡ m
      same_place i m j to s slash e = cc

  -- the attributes stand before the place where the tag closes
  pub reads_before : (attributes : List Attribute) (i m to : ℕ) (slash : Bool) → TagReads text i attributes (Closes m to slash) → (i ≤ m) × ((get_or text m 0 ≡ 62) ⊎ (get_or text m 0 ≡ 47))
  reads_before [] i m to slash h = let at = closes_at i m to slash h in (at.0, at.2)
  reads_before (a ∷ attributes) i m to slash h =
      let later = reads_before attributes a.to m to slash h.1 in (omega (arith, attr_from i a h.0, later.0), later.1)

-- the text between the name and the close, on its own
module _ (text : List ℕ) (n m : ℕ) (order : n ≤ m) (last : (get_or text m 0 ≡ 62) ⊎ (get_or text m 0 ≡ 47)) where
  within : m < length text
  within = in_text text m (elim last [ inl e ↦ (let l : 0 < get_or text m 0 = omega arith in l) | inr e ↦ (let l : 0 < get_or text m 0 = omega arith in l) ])

  fails_last : (p : ℕ → Bool) → p 62 ≡ false → p 47 ≡ false → p (get_or text m 0) ≡ false
  fails_last p h k = elim last [ inl e ↦ ap p e ∙ h | inr e ↦ ap p e ∙ k ]

  abbrev s : List ℕ
  s = slice_range text n m

  long : length s ≡ m - n
  long = let w = within in omega (arith, length-take (m - n) (drop n text), length-drop n text)

  byte_in : (k : ℕ) → n ≤ k → k < m → get_or s (k - n) 0 ≡ get_or text k 0
  byte_in k a b = get_or-take (m - n) (drop n text) (k - n) 0 (omega arith) ∙ get_or-drop n text (k - n) 0 ∙ ap (λ i. get_or text i 0) (omega arith)

  byte_past : (k : ℕ) → m ≤ k → get_or s (k - n) 0 ≡ 0
  byte_past k a = get_or_past s (k - n) 0 (let l = long in omega arith)

  run_in : (p : ℕ → Bool) (i : ℕ) → n ≤ i → i ≤ m → run_end p text i ≤ m → run_end p s (i - n) ≡ run_end p text i - n
  run_in p i a b c =
      let l = long in
      let w = within in
      run_end_is p s (i - n) (run_end p text i - n) (omega (arith, run_end_from p text i)) (omega arith)
      (λ k low high.
      let at : get_or s k 0 ≡ get_or text (k + n) 0 = ap (λ j. get_or s j 0) (let e : k ≡ k + n - n = omega arith in e) ∙ byte_in (k + n) (omega arith) (omega arith) in
      ap p at ∙ run_end_passes p text i (k + n) (omega arith) (omega arith))
      (λ below. ap p (byte_in (run_end p text i) (omega (arith, run_end_from p text i)) (omega arith)) ∙ run_end_stops p text i (omega arith))

  run_stays : (p : ℕ → Bool) (i : ℕ) → i ≤ m → p (get_or text m 0) ≡ false → run_end p text i ≤ m
  run_stays p i a h = elim (cases_lt m (run_end p text i)) [ inl past ↦ absurd (both_ways _ h (run_end_passes p text i m a past)) | inr ok ↦ ok ]

  -- a byte is another in the slice where it is another in the page
  other_in : (c k : ℕ) → 0 < c → n ≤ k → (get_or text k 0 == c) ≡ false → (get_or s (k - n) 0 == c) ≡ false
  other_in c k some a h =
      elim (cases_lt k m) [
        | inl l ↦ ap (λ b. b == c) (byte_in k a l) ∙ h
        | inr past ↦ ap (λ b. b == c) (byte_past k past) ∙ ne_eqb 0 c (λ e. omega arith)
      ]

  abbrev lowered : Attribute → Attribute
  lowered a = record { name = a.name - n; name_to = a.name_to - n; value = a.value - n; value_to = a.value_to - n; to = a.to - n }

  abbrev IsInside : Attribute → Type 0
  IsInside a = (n ≤ a.name) × (a.name ≤ a.name_to) × (a.name_to ≤ m) × (n ≤ a.value) × (a.value ≤ a.value_to) × (a.value_to ≤ m)

  abbrev Lowers : AttrStep → Attribute → Type 0
  Lowers step a = (step ≡ Reads (lowered a)) × IsInside a

  abbrev quote_byte : ℕ → ℕ
  quote_byte v = get_or text v 0

  abbrev quote_end : ℕ → ℕ
  quote_end v = run_end (is_not_byte (quote_byte v)) text (v + 1)

  abbrev quote_attr : ℕ → ℕ → ℕ → Attribute
  quote_attr name name_to v = record { name = name; name_to = name_to; value = v + 1; value_to = quote_end v; to = quote_end v + 1 }

  quoted_in : (name name_to v : ℕ) (a : Attribute) → n ≤ name → name ≤ name_to → name_to ≤ m → n ≤ v → v < m → quoted text name name_to v ≡ Reads a → a.to ≤ m → Lowers (quoted s (name - n) (name_to - n) (v - n)) a
  quoted_in name name_to v a low mid high from below h fits =
      elim (cond_is (ltb (quote_end v) (length text)) (Reads (quote_attr name name_to v)) (Refuses BadTag) (Reads a) h) [
        | inl p ↦ (let is : (quote_attr name name_to v) ≡ a = same_attribute (quote_attr name name_to v) a p.1 in
            subst (λ (b : Attribute). Lowers (quoted s (name - n) (name_to - n) (v - n)) b) is (whole (subst (λ (b : Attribute). b.to ≤ m) (sym is) fits)))
        | inr p ↦ absurd (refuses_reads BadTag a p.1)
      ]
    where
      whole : quote_end v + 1 ≤ m → Lowers (quoted s (name - n) (name_to - n) (v - n)) (quote_attr name name_to v)
      whole fit =
          let l = long in
          let e : run_end (is_not_byte (get_or s (v - n) 0)) s (v - n + 1) ≡ quote_end v - n =
          ap (λ b. run_end (is_not_byte b) s (v - n + 1)) (byte_in v from below)
          ∙ ap (λ k. run_end (is_not_byte (quote_byte v)) s k) (let f : v - n + 1 ≡ v + 1 - n = omega arith in f)
          ∙ run_in (is_not_byte (quote_byte v)) (v + 1) (omega arith) (omega arith) (omega arith) in (
            ap (λ k. cond (ltb k (length s)) (Reads (record { name = name - n; name_to = name_to - n; value = v - n + 1; value_to = k; to = k + 1 })) (Refuses BadTag)) e
                ∙ if_true (ltb (quote_end v - n) (length s)) _ _ _ (lt_ltb _ _ (omega (arith, run_end_from (is_not_byte (quote_byte v)) text (v + 1))))
                (ap (λ k. Reads (record { name = name - n; name_to = name_to - n; value = k; value_to = quote_end v - n; to = quote_end v - n + 1 })) (let f : v - n + 1 ≡ v + 1 - n = omega arith in f)
                ∙ ap (λ k. Reads (record { name = name - n; name_to = name_to - n; value = v + 1 - n; value_to = quote_end v - n; to = k })) (let f : quote_end v - n + 1 ≡ quote_end v + 1 - n = omega (arith, run_end_from (is_not_byte (quote_byte v)) text (v + 1)) in f)),
            (low, mid, high, omega arith, run_end_from (is_not_byte (quote_byte v)) text (v + 1), omega arith),
          )

  valued_in : (name name_to v : ℕ) (a : Attribute) → n ≤ name → name ≤ name_to → name_to ≤ m → n ≤ v → v ≤ m → valued text name name_to v ≡ Reads a → a.to ≤ m → Lowers (valued s (name - n) (name_to - n) (v - n)) a
  valued_in name name_to v a low mid high from below h fits =
      elim (cond_is (get_or text v 0 == 34) (quoted text name name_to v) (unquoted text name name_to v) (Reads a) h) [
        | inl p ↦ (let inside : v < m = omega (arith, quoted_from text name name_to v a p.1) in
            let r = quoted_in name name_to v a low mid high from inside p.1 fits in
            (if_true (get_or s (v - n) 0 == 34) _ _ _ (ap (λ b. b == 34) (byte_in v from inside) ∙ p.0) r.0, r.1))
        | inr p ↦ elim (cond_is (get_or text v 0 == 39) (quoted text name name_to v) (Reads (bare text name name_to v)) (Reads a) p.1) [
          | inl q ↦ (let inside : v < m = omega (arith, quoted_from text name name_to v a q.1) in
              let r = quoted_in name name_to v a low mid high from inside q.1 fits in
              (if_false (get_or s (v - n) 0 == 34) _ _ _ (other_in 34 v (omega arith) from p.0) (if_true (get_or s (v - n) 0 == 39) _ _ _ (ap (λ b. b == 39) (byte_in v from inside) ∙ q.0) r.0), r.1))
          | inr q ↦ (let is : bare text name name_to v ≡ a = same_attribute (bare text name name_to v) a q.1 in
              let fit : run_end is_bare_byte text v ≤ m = subst (λ (b : Attribute). b.to ≤ m) (sym is) fits in
              subst (λ (b : Attribute). Lowers (valued s (name - n) (name_to - n) (v - n)) b) is (
                if_false (get_or s (v - n) 0 == 34) _ _ _ (other_in 34 v (omega arith) from p.0)
                    (if_false (get_or s (v - n) 0 == 39) _ _ _ (other_in 39 v (omega arith) from q.0)
                    (ap (λ k. Reads (record { name = name - n; name_to = name_to - n; value = v - n; value_to = k; to = k })) (run_in is_bare_byte v from below fit))),
                (low, mid, high, from, run_end_from is_bare_byte text v, fit),
              ))
        ]
      ]

  abbrev name_end : ℕ → ℕ
  name_end k = run_end is_attr_byte text k

  abbrev sign_at : ℕ → ℕ
  sign_at k = run_end is_space5 text (name_end k)

  abbrev value_at : ℕ → ℕ
  value_at k = run_end is_space5 text (sign_at k + 1)

  named_in : (k : ℕ) (a : Attribute) → n ≤ k → k < m → named text k ≡ Reads a → a.to ≤ m → Lowers (named s (k - n)) a
  named_in k a from below h fits =
      elim (cond_is (get_or text (sign_at k) 0 == 61) (valued text k (name_end k) (value_at k)) (Reads (alone text k (name_end k))) (Reads a) h) [
        | inl p ↦ (let far : (value_at k) ≤ m = omega (arith, valued_from text k (name_end k) (value_at k) a p.1) in
            let r = valued_in k (name_end k) (value_at k) a from e_from (omega arith) (omega arith) far p.1 fits in (
              with_name
                  ∙ ap (λ x. cond (get_or s x 0 == 61) (valued s (k - n) ((name_end k) - n) (run_end is_space5 s (x + 1))) (Reads (alone s (k - n) ((name_end k) - n)))) (run_in is_space5 (name_end k) (omega arith) (omega arith) (omega arith))
                  ∙ if_true (get_or s ((sign_at k) - n) 0 == 61) _ _ _ (ap (λ b. b == 61) (byte_in (sign_at k) (omega arith) (omega arith)) ∙ p.0)
                  (ap (λ x. valued s (k - n) ((name_end k) - n) x) (ap (λ x. run_end is_space5 s x) (let f : (sign_at k) - n + 1 ≡ (sign_at k) + 1 - n = omega arith in f) ∙ run_in is_space5 ((sign_at k) + 1) (omega arith) (omega arith) far) ∙ r.0),
              r.1,
            ))
        | inr p ↦ (let is : alone text k (name_end k) ≡ a = same_attribute (alone text k (name_end k)) a p.1 in
            subst (λ (b : Attribute). Lowers (named s (k - n)) b) is (
              with_name
                  ∙ ap (λ x. cond (get_or s x 0 == 61) (valued s (k - n) ((name_end k) - n) (run_end is_space5 s (x + 1))) (Reads (alone s (k - n) ((name_end k) - n)))) (run_in is_space5 (name_end k) (omega arith) e_in (run_stays is_space5 (name_end k) e_in (fails_last is_space5 refl refl)))
                  ∙ if_false (get_or s ((sign_at k) - n) 0 == 61) _ _ _ (other_in 61 (sign_at k) (omega arith) (omega arith) p.0) refl,
              (from, e_from, e_in, omega arith, omega arith, e_in),
            ))
      ]
    where
      e_from : k ≤ name_end k
      e_from = run_end_from is_attr_byte text k

      t_from : (name_end k) ≤ (sign_at k)
      t_from = run_end_from is_space5 text (name_end k)

      v_from : (sign_at k) + 1 ≤ (value_at k)
      v_from = run_end_from is_space5 text ((sign_at k) + 1)

      e_in : (name_end k) ≤ m
      e_in = omega (arith, named_from text k a h)

      with_name : named s (k - n) ≡ cond (get_or s (run_end is_space5 s ((name_end k) - n)) 0 == 61) (valued s (k - n) ((name_end k) - n) (run_end is_space5 s (run_end is_space5 s ((name_end k) - n) + 1))) (Reads (alone s (k - n) ((name_end k) - n)))
      with_name = ap (λ x. cond (get_or s (run_end is_space5 s x) 0 == 61) (valued s (k - n) x (run_end is_space5 s (run_end is_space5 s x + 1))) (Reads (alone s (k - n) x))) (run_in is_attr_byte k from (omega arith) e_in)

  abbrev step_of : ℕ → ℕ → AttrStep
  step_of i x = cond (get_or s x 0 == 62) (closing s i x) (cond (leb (length s) x) (Refuses BadTag) (reading s x))

  attr_in : (i : ℕ) (a : Attribute) → n ≤ i → i ≤ m → attr_at text i ≡ Reads a → a.to ≤ m → Lowers (attr_at s (i - n)) a
  attr_in i a from below h fits =
      let k = run_end is_gap text i in
      let f = found text i a h in
      let l = long in
      let some : k < run_end is_attr_byte text k = run_end_moves is_attr_byte text k (run_end is_attr_byte text k) refl f.1 f.2 in
      let low = run_end_from is_gap text i in
      let inside : k < m = omega (arith, named_from text k a f.3) in
      let r = named_in k a (omega arith) inside f.3 fits in (
        ap (step_of (i - n)) (run_in is_gap i from below (omega arith))
            ∙ if_false (get_or s (k - n) 0 == 62) _ _ _ (other_in 62 k (omega arith) (omega arith) f.0)
            (if_false (leb (length s) (k - n)) _ _ _ (lt_leb (length s) (k - n) (omega arith))
            (if_true (is_attr_byte (get_or s (k - n) 0)) _ _ _ (ap is_attr_byte (byte_in k (omega arith) inside) ∙ f.2) r.0)),
        r.1,
      )

  closes_in : (i to : ℕ) (slash : Bool) → n ≤ i → attr_at text i ≡ Closes m to slash → IsLast (attr_at s (i - n))
  closes_in i to slash from h =
      let at = closes_at text i m to slash h in
      let l = long in
      let e : run_end is_gap s (i - n) ≡ m - n =
      run_end_is is_gap s (i - n) (m - n) (omega (arith, at.0)) (omega arith)
      (λ k low high.
      let b : get_or s k 0 ≡ get_or text (k + n) 0 = ap (λ j. get_or s j 0) (let f : k ≡ k + n - n = omega arith in f) ∙ byte_in (k + n) (omega arith) (omega arith) in
      ap is_gap b ∙ run_end_passes is_gap text i (k + n) (omega arith) (omega (arith, at.1)))
      (λ below. absurd (omega arith)) in
      let none : attr_at s (i - n) ≡ Refuses BadTag =
      ap (step_of (i - n)) e
      ∙ if_false (get_or s (m - n) 0 == 62) _ _ _ (ap (λ b. b == 62) (byte_past m (omega arith)))
      (if_true (leb (length s) (m - n)) _ _ _ (le_leb (length s) (m - n) (omega arith)) refl) in
      subst IsLast (sym none) tt

  slice_in : (x y : ℕ) → n ≤ x → x ≤ y → y ≤ m → slice_range text x y ≡ slice_range s (x - n) (y - n)
  slice_in x y a b c =
      sym (
      ap (λ k. take (y - n - (x - n)) (drop (x - n) (take k (drop n text)))) (let e : m - n ≡ x - n + (m - x) = omega arith in e)
      ∙ ap (take (y - n - (x - n))) (drop-take (x - n) (m - x) (drop n text) ∙ ap (take (m - x)) (drop-drop (x - n) n text ∙ ap (λ k. drop k text) (let e : _ ≡ x = omega arith in e)))
      ∙ take-take (y - n - (x - n)) (m - x) (drop x text) (omega arith)
      ∙ ap (λ k. take k (drop x text)) (let e : y - n - (x - n) ≡ y - x = omega arith in e)
      )

  writes_from : (attributes : List Attribute) (i to : ℕ) (slash : Bool) → n ≤ i → TagReads text i attributes (Closes m to slash) → Writes s (i - n) (map (pair_at text) attributes)
  writes_from [] i to slash from h = closes_in i to slash from h
  writes_from (a ∷ attributes) i to slash from h =
      let fits = (reads_before text attributes a.to m to slash h.1).0 in
      let forward = attr_from text i a h.0 in
      let r = attr_in i a from (omega arith) h.0 fits in
      let parts = r.1 in (
        lowered a,
        r.0,
        ap (λ x. (x, slice_range text a.value a.value_to)) (slice_in a.name a.name_to parts.0 parts.1 parts.2)
            ∙ ap (λ x. (slice_range s (a.name - n) (a.name_to - n), x)) (slice_in a.value a.value_to parts.3 parts.4 parts.5),
        writes_from attributes a.to to slash (omega arith) h.1,
      )

-- the attributes of a start tag of a page are those that its text writes
pub page_attributes : (text : List ℕ) (n m to : ℕ) (slash : Bool) (attributes : List Attribute) → TagReads text n attributes (Closes m to slash) → Writes (slice_range text n m) 0 (map (pair_at text) attributes)
page_attributes text n m to slash attributes h =
    let before = reads_before text attributes n m to slash h in
    subst (λ k. Writes (slice_range text n m) k (map (pair_at text) attributes)) (let e : n - n ≡ 0 = omega arith in e)
    (writes_from text n m before.0 before.1 attributes n to slash (omega arith) h)
