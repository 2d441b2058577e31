-- One part more: how the last of some parts holds, and the parts before it match where its link leads.
use Rattle.std.proofs.Common.{◌≡◌, ℕ, zero, suc, ◌+◌, ◌<◌, ◌≤◌, true, false, ◌&&◌, List, [], ◌∷◌, length, take, get_or, refl, sym, ◌∙◌, ap, subst, arith, add-one, Option}
use Rattle.std.specs.Prelude.{reverse}
use Rattle.std.specs.List.{list_any}
use Rattle.std.proofs.lemmas.List.{take_more, reverse-append, take_all}
use Rattle.std.proofs.lemmas.Bool.{and_parts, and_from, both_ways}
use Rattle.doc_model.specs.Document.{Document, Row, rows, is_element, is_element_kind, IsDocument}
use Rattle.css_selectors.specs.declared.selector.Dialect.{Dialect}
use Rattle.css_selectors.specs.declared.selector.Link.{Link}
use Rattle.css_selectors.specs.declared.selector.Part.{Part, out-Part}
use Rattle.css_meaning.proofs.Finding.{found, finds}
use Rattle.css_meaning.proofs.HoldsAt.{held_element}
use Rattle.css_meaning.specs.Holding.{holds}
use Rattle.css_meaning.specs.Links.{linked}
use Rattle.css_meaning.specs.inner.Searching.{is_end, leads_back, is_matched}

-- p stands after the first `left` parts, of which there are some, and `next` counts it too
pub record IsStep (parts : List Part) (left next : ℕ) (p : Part) : Type 0 where
  pub some : 0 < left
  pub counts : next ≡ suc left
  pub within : left < length parts
  pub is : get_or parts left p ≡ p

-- where the link leads to from x, the first `left` parts match
pub record IsLed (doc : Document) (d : Dialect) (from : Option ℕ) (parts : List Part) (left : ℕ) (link : Link) (x : ℕ) : Type 0 where
  pub at : ℕ
  pub within : at < length doc
  pub linked : linked doc link at x ≡ true
  pub matched : is_matched doc d from parts left at ≡ true

turned : (parts : List Part) (left : ℕ) (p : Part) → left < length parts → reverse (take (suc left) parts) ≡ get_or parts left p ∷ reverse (take left parts)
turned parts left p h =
    ap (λ n. reverse (take n parts)) (sym (add-one left))
    ∙ ap (λ (v : List Part). reverse v) (take_more parts left p h)
    ∙ reverse-append (take left parts) (get_or parts left p ∷ [])

module _ (doc : Document) (d : Dialect) (from : Option ℕ) (parts : List Part) where
  pub whole : (x : ℕ) → is_matched doc d from parts (length parts) x ≡ leads_back doc d from (reverse parts) x
  unfolding is_matched
  whole x = ap (λ v. leads_back doc d from (reverse v) x) (take_all (length parts) parts (omega arith))

  pub first : (p : Part) → 0 < length parts → get_or parts 0 p ≡ p → (x : ℕ) → is_matched doc d from parts 1 x ≡ (holds doc d p x && is_end doc from (out-Part p).link x)
  unfolding is_matched leads_back
  first p h e x = ap (λ v. leads_back doc d from v x) (turned parts 0 p h) ∙ ap (λ (q : Part). holds doc d q x && is_end doc from (out-Part q).link x) e

  behind : (p q : Part) (v qs : List Part) (x : ℕ) → v ≡ q ∷ qs
      → leads_back doc d from (p ∷ v) x ≡ (holds doc d p x && list_any (λ y. linked doc (out-Part p).link y x && leads_back doc d from v y) (rows doc))
  unfolding leads_back
  behind p q v qs x e =
      subst (λ u. leads_back doc d from (p ∷ u) x ≡ (holds doc d p x && list_any (λ y. linked doc (out-Part p).link y x && leads_back doc d from u y) (rows doc))) (sym e) refl

  one_more : (left : ℕ) (p : Part) → 0 < left → left < length parts → get_or parts left p ≡ p → (x : ℕ)
      → is_matched doc d from parts (suc left) x ≡ (holds doc d p x && list_any (λ y. linked doc (out-Part p).link y x && is_matched doc d from parts left y) (rows doc))
  unfolding is_matched
  one_more zero p some within e x = absurd (omega arith)
  one_more (suc left) p some within e x =
      ap (λ v. leads_back doc d from v x) (turned parts (suc left) p within ∙ ap (λ q. q ∷ reverse (take (suc left) parts)) e)
      ∙ behind p (get_or parts left p) (reverse (take (suc left) parts)) (reverse (take left parts)) x (turned parts left p (omega arith))

  step : (left next : ℕ) (p : Part) → IsStep parts left next p → (x : ℕ)
      → is_matched doc d from parts next x ≡ (holds doc d p x && list_any (λ y. linked doc (out-Part p).link y x && is_matched doc d from parts left y) (rows doc))
  step left next p s x = ap (λ n. is_matched doc d from parts n x) s.counts ∙ one_more left p s.some s.within s.is x

  pub split : (left next : ℕ) (p : Part) (link : Link) → IsStep parts left next p → (out-Part p).link ≡ link → (x : ℕ) → is_matched doc d from parts next x ≡ true → IsLed doc d from parts left link x
  split left next p link s l x h =
      let a = and_parts (holds doc d p x) _ (sym (step left next p s x) ∙ h) in
      let w = found (λ y. linked doc (out-Part p).link y x && is_matched doc d from parts left y) 0 (length doc) a.1 in
      let b = and_parts (linked doc (out-Part p).link w.0 x) (is_matched doc d from parts left w.0) w.3 in
      record { at = w.0; within = omega arith; linked = subst (λ k. linked doc k w.0 x ≡ true) l b.0; matched = b.1 }

  pub join : (left next : ℕ) (p : Part) (link : Link) → IsStep parts left next p → (out-Part p).link ≡ link → (x : ℕ) → holds doc d p x ≡ true → IsLed doc d from parts left link x → is_matched doc d from parts next x ≡ true
  join left next p link s l x h w =
      let low : 0 ≤ w.at = omega arith in
      let high : w.at < 0 + length doc = (let z = w.within in omega arith) in
      let leads : linked doc (out-Part p).link w.at x ≡ true = subst (λ k. linked doc k w.at x ≡ true) (sym l) w.linked in
      step left next p s x
      ∙ and_from _ _ h (finds (λ y. linked doc (out-Part p).link y x && is_matched doc d from parts left y) 0 (length doc) w.at low high (and_from _ _ leads w.matched))

  -- a part that does not hold
  pub unheld : (left next : ℕ) (p : Part) → IsStep parts left next p → (x : ℕ) → holds doc d p x ≡ false → is_matched doc d from parts next x ≡ false
  unheld left next p s x h = step left next p s x ∙ ap (λ b. b && list_any (λ y. linked doc (out-Part p).link y x && is_matched doc d from parts left y) (rows doc)) h

  -- parts match at elements alone
  element_at : (ps : List Part) (x : ℕ) → leads_back doc d from ps x ≡ true → is_element doc x ≡ true
  unfolding leads_back
  element_at [] x h = let e = h in cc
  element_at (p ∷ []) x h = held_element doc d p x (and_parts (holds doc d p x) _ h).0
  element_at (p ∷ q ∷ ps) x h = held_element doc d p x (and_parts (holds doc d p x) _ h).0

  pub element : (left x : ℕ) → is_matched doc d from parts left x ≡ true → is_element doc x ≡ true
  unfolding is_matched
  element left x h = element_at (reverse (take left parts)) x h

-- row 0 is no element
pub some : (doc : Document) (x : ℕ) → IsDocument doc → is_element doc x ≡ true → 0 < x
some doc zero d h = absurd (both_ways _ (ap (λ (r : Row). is_element_kind r.kind) d.root) h)
some doc (suc x) d h = omega arith
