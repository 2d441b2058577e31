-- A search goes on to what is as promising: the nearest row that a link names stands for what earlier choices left open.
use Rattle.std.proofs.Common.{◌≡◌, ℕ, suc, ◌+◌, ◌<◌, ◌≤◌, true, false, ◌&&◌, List, length, refl, sym, ◌∙◌, subst, arith, inl, inr, ◌⊎◌}
use Rattle.std.specs.Prelude.{reverse, Option}
use Rattle.std.specs.Cmp.{both_ways as same_tests}
use Rattle.std.proofs.lemmas.Bool.{and_parts, and_from, or_cases, or_left, or_right, false_from_ne_true, both_ways}
use Rattle.doc_model.specs.Document.{Document, row, is_parent, below, IsDocument}
use Rattle.doc_model.proofs.Below.{Small, small, below_root, below_less, below_parent, below_up}
use Rattle.css_selectors.specs.declared.selector.Dialect.{Dialect}
use Rattle.css_selectors.specs.declared.selector.Link.{Link}
use Rattle.css_selectors.specs.declared.selector.Link.TheVariants as link
use Rattle.css_selectors.specs.declared.selector.Part.{Part, out-Part}
use Rattle.css_meaning.specs.declared.searching.Mark.{Mark}
use Rattle.css_meaning.specs.declared.searching.Search.{Search}
use Rattle.css_meaning.proofs.Earlier.{earlier, is_earlier_from, none_of_root, nearest}
use Rattle.css_meaning.proofs.Finding.{found, finds}
use Rattle.css_meaning.proofs.Leftward.{IsStep, whole, split, join, element, some}
use Rattle.css_meaning.proofs.HoldsAt.{held_element}
use Rattle.css_meaning.proofs.Outward.{falls_left, falls_within, falls_up, above_outer, outer_same, over_outer, above_parent, is_parent_of, is_parent_from, earlier_trans, before_nearest, at_nearest, one_nearest}
use Rattle.css_meaning.specs.Holding.{holds}
use Rattle.css_meaning.specs.Links.{linked}
use Rattle.css_meaning.specs.Siblings.{is_earlier, is_nearest_earlier}
use Rattle.css_meaning.specs.inner.Searching.{is_matched, is_matched_before, is_matched_above, is_promising, leads_back, IsMark, IsFound, KeepsBefore, KeepsAbove, IsSearch, IsOnward}

abbrev pub mark : ℕ → ℕ → Mark
mark left row = record { left = left; row = row }

abbrev pub search_of : Mark → Mark → Mark → Search
search_of at sibling ancestor = record { at = at; sibling = sibling; ancestor = ancestor }

module _ (doc : Document) (d : Dialect) (from : Option ℕ) (parts : List Part) where
  -- ---- what is promising

  pub promise_at : (s : Search) → is_matched doc d from parts s.at.left s.at.row ≡ true → is_promising doc d from parts s ≡ true
  unfolding is_promising
  promise_at s h = or_left _ _ h

  promise_before : (s : Search) → s.sibling.row < length doc → IsFound doc d from parts (is_earlier doc) s.sibling.left s.sibling.row → is_promising doc d from parts s ≡ true
  unfolding is_promising
  promise_before s l f =
      let low : 0 ≤ f.0 = omega arith in
      let less : f.0 < s.sibling.row = (earlier doc f.0 s.sibling.row f.1).less in
      let high : f.0 < 0 + length doc = omega arith in
      or_right (is_matched doc d from parts s.at.left s.at.row) _
      (or_left _ (is_matched_above doc d from parts s.ancestor) (finds (λ z. is_earlier doc z s.sibling.row && is_matched doc d from parts s.sibling.left z) 0 (length doc) f.0 low high (and_from _ _ f.1 f.2)))

  promise_above : (s : Search) → Small doc → s.ancestor.row < length doc → IsFound doc d from parts (below doc) s.ancestor.left s.ancestor.row → is_promising doc d from parts s ≡ true
  unfolding is_promising
  promise_above s m l f =
      let low : 0 ≤ f.0 = omega arith in
      let less : f.0 < s.ancestor.row = below_less doc f.0 s.ancestor.row m f.1 in
      let high : f.0 < 0 + length doc = omega arith in
      or_right (is_matched doc d from parts s.at.left s.at.row) _
      (or_right (is_matched_before doc d from parts s.sibling) _ (finds (λ z. below doc z s.ancestor.row && is_matched doc d from parts s.ancestor.left z) 0 (length doc) f.0 low high (and_from _ _ f.1 f.2)))

  promises : (s : Search) → is_promising doc d from parts s ≡ true
      → (is_matched doc d from parts s.at.left s.at.row ≡ true) ⊎ (IsFound doc d from parts (is_earlier doc) s.sibling.left s.sibling.row ⊎ IsFound doc d from parts (below doc) s.ancestor.left s.ancestor.row)
  unfolding is_promising
  promises s h =
      elim (or_cases (is_matched doc d from parts s.at.left s.at.row) _ h) [
        | inl a ↦ inl a
        | inr b ↦ inr (elim (or_cases (is_matched_before doc d from parts s.sibling) (is_matched_above doc d from parts s.ancestor) b) [
          | inl e ↦ inl (let w = found (λ z. is_earlier doc z s.sibling.row && is_matched doc d from parts s.sibling.left z) 0 (length doc) e in let two = and_parts _ _ w.3 in (w.0, two.0, two.1))
          | inr e ↦ inr (let w = found (λ z. below doc z s.ancestor.row && is_matched doc d from parts s.ancestor.left z) 0 (length doc) e in let two = and_parts _ _ w.3 in (w.0, two.0, two.1))
        ])
      ]

  -- ---- a part holds, and its link leads on

  keeps_sideways : (s : Search) (left : ℕ) (p : Part) (k : Link) (y : ℕ) → ((a b : ℕ) → linked doc k a b ≡ true → (row doc a).parent ≡ (row doc b).parent) → KeepsAbove doc d from parts s.ancestor s.at
      → IsStep parts left s.at.left p → (out-Part p).link ≡ k → (row doc y).parent ≡ (row doc s.at.row).parent → KeepsAbove doc d from parts s.ancestor (mark left y)
  keeps_sideways s left p k y sideways above st l e z b h =
      let v = above z b h in
      let q = split doc d from parts left s.at.left p k st l v.0 v.2 in
      (q.at, outer_same doc v.0 q.at s.at.row y (sideways q.at v.0 q.linked) e v.1, q.matched)

  keeps_from_root : (left : ℕ) (m : Mark) → KeepsBefore doc d from parts (mark left 0) m
  keeps_from_root left m z b h = absurd (both_ways _ (none_of_root doc z) b)

  keeps_itself : IsDocument doc → (left y : ℕ) → KeepsAbove doc d from parts (mark left y) (mark left y)
  keeps_itself dd left y z b h = (z, above_outer doc z y (small doc dd) (some doc z dd (element doc d from parts left z h)) b, h)

  pub on_next : IsDocument doc → (s : Search) (left : ℕ) (p : Part) (y : ℕ) → IsSearch doc d from parts s → IsStep parts left s.at.left p → (out-Part p).link ≡ link.Next → holds doc d p s.at.row ≡ true
      → is_nearest_earlier doc y s.at.row ≡ true → IsOnward doc d from parts s (search_of (mark left y) s.sibling s.ancestor)
  on_next dd s left p y w st l held near =
      let n = nearest doc y s.at.row w.at.row near in
      let counts : s.at.left ≡ suc left = st.counts in
      let behind : y < s.at.row = n.earlier.less in
      let within : y < length doc = (let h = w.at.row in omega arith) in
      let t = search_of (mark left y) s.sibling s.ancestor in
      let before : KeepsBefore doc d from parts s.sibling (mark left y) = λ z b h.
      let v = w.before z b h in
      let q = split doc d from parts left s.at.left p link.Next st l v.0 v.2 in
      let e = earlier doc q.at v.0 (and_parts _ _ q.linked).0 in
      (q.at, is_earlier_from doc q.at y (before_nearest doc q.at v.0 y s.at.row e (earlier doc v.0 s.at.row v.1) n), q.matched) in
      let here : is_matched doc d from parts s.at.left s.at.row ≡ true → is_promising doc d from parts t ≡ true = λ h.
      let q = split doc d from parts left s.at.left p link.Next st l s.at.row h in
      let same : q.at ≡ y = one_nearest doc q.at y s.at.row (nearest doc q.at s.at.row w.at.row q.linked) n in
      promise_at t (subst (λ v. is_matched doc d from parts left v ≡ true) same q.matched) in
      record {
        search = record {
          at = record { some = st.some; within = omega (arith, st.within); row = within };
          sibling = w.sibling;
          ancestor = w.ancestor;
          before = before;
          above = keeps_sideways s left p link.Next y (λ a b h. (earlier doc a b (and_parts _ _ h).0).parent) w.above st l n.earlier.parent;
          above_sibling = w.above_sibling;
        };
        same = same_tests _ _
            (λ h. elim (promises t h) [
              | inl a ↦ promise_at s (join doc d from parts left s.at.left p link.Next st l s.at.row held (record { at = y; within = within; linked = near; matched = a }))
              | inr (inl b) ↦ promise_before s w.sibling.row b
              | inr (inr b) ↦ promise_above s (small doc dd) w.ancestor.row b
            ])
            (λ h. elim (promises s h) [
              | inl a ↦ here a
              | inr (inl b) ↦ promise_before t w.sibling.row b
              | inr (inr b) ↦ promise_above t (small doc dd) w.ancestor.row b
            ]);
        less = falls_left s.ancestor.row s.sibling.row s.at.row y (length doc) (suc (length parts)) left s.at.left (omega arith) (omega arith);
      }

  pub on_later : IsDocument doc → (s : Search) (left : ℕ) (p : Part) (y : ℕ) → IsSearch doc d from parts s → IsStep parts left s.at.left p → (out-Part p).link ≡ link.Later → holds doc d p s.at.row ≡ true
      → is_nearest_earlier doc y s.at.row ≡ true → IsOnward doc d from parts s (search_of (mark left y) (mark left y) s.ancestor)
  on_later dd s left p y w st l held near =
      let n = nearest doc y s.at.row w.at.row near in
      let counts : s.at.left ≡ suc left = st.counts in
      let behind : y < s.at.row = n.earlier.less in
      let within : y < length doc = (let h = w.at.row in omega arith) in
      let t = search_of (mark left y) (mark left y) s.ancestor in
      let marked : IsMark doc parts (mark left y) = record { some = st.some; within = omega (arith, st.within); row = within } in
      let above : KeepsAbove doc d from parts s.ancestor (mark left y) = keeps_sideways s left p link.Later y (λ a b h. (earlier doc a b h).parent) w.above st l n.earlier.parent in
      let back : (z : ℕ) → z < length doc → is_earlier doc z s.at.row ≡ true → is_matched doc d from parts left z ≡ true → is_promising doc d from parts s ≡ true = λ z h e f.
      promise_at s (join doc d from parts left s.at.left p link.Later st l s.at.row held (record { at = z; within = h; linked = e; matched = f })) in
      let here : is_matched doc d from parts s.at.left s.at.row ≡ true → is_promising doc d from parts t ≡ true = λ h.
      let q = split doc d from parts left s.at.left p link.Later st l s.at.row h in
      elim (at_nearest doc q.at y s.at.row (earlier doc q.at s.at.row q.linked) n) [
        | inl e ↦ promise_at t (subst (λ v. is_matched doc d from parts left v ≡ true) e q.matched)
        | inr e ↦ promise_before t within (q.at, is_earlier_from doc q.at y e, q.matched)
      ] in
      let there : IsFound doc d from parts (is_earlier doc) s.sibling.left s.sibling.row → is_promising doc d from parts t ≡ true = λ f.
      let v = w.before f.0 f.1 f.2 in
      let q = split doc d from parts left s.at.left p link.Later st l v.0 v.2 in
      promise_before t within (q.at, is_earlier_from doc q.at y (before_nearest doc q.at v.0 y s.at.row (earlier doc q.at v.0 q.linked) (earlier doc v.0 s.at.row v.1) n), q.matched) in
      record {
        search = record { at = marked; sibling = marked; ancestor = w.ancestor; before = λ z b h. (z, b, h); above = above; above_sibling = λ _. above };
        same = same_tests _ _
            (λ h. elim (promises t h) [
              | inl a ↦ back y within (is_earlier_from doc y s.at.row n.earlier) a
              | inr (inl b) ↦ (let e = earlier doc b.0 y b.1 in let less : b.0 < y = e.less in
                  back b.0 (omega arith) (is_earlier_from doc b.0 s.at.row (earlier_trans doc b.0 y s.at.row e n.earlier)) b.2)
              | inr (inr b) ↦ promise_above s (small doc dd) w.ancestor.row b
            ])
            (λ h. elim (promises s h) [
              | inl a ↦ here a
              | inr (inl b) ↦ there b
              | inr (inr b) ↦ promise_above t (small doc dd) w.ancestor.row b
            ]);
        less = falls_within s.ancestor.row s.sibling.row s.at.row y y (length doc) (suc (length parts)) left s.at.left (omega arith) (omega (arith, st.within));
      }

  pub on_child : IsDocument doc → (s : Search) (left : ℕ) (p : Part) (y : ℕ) → IsSearch doc d from parts s → IsStep parts left s.at.left p → (out-Part p).link ≡ link.Child → holds doc d p s.at.row ≡ true
      → (row doc s.at.row).parent ≡ y → IsOnward doc d from parts s (search_of (mark left y) (mark left 0) s.ancestor)
  on_child dd s left p y w st l held up =
      let m = small doc dd in
      let counts : s.at.left ≡ suc left = st.counts in
      let some_row : 0 < s.at.row = some doc s.at.row dd (held_element doc d p s.at.row held) in
      let less : (row doc s.at.row).parent < s.at.row = m s.at.row some_row in
      let within : y < length doc = (let h = w.at.row in omega arith) in
      let t = search_of (mark left y) (mark left 0) s.ancestor in
      let above : KeepsAbove doc d from parts s.ancestor (mark left y) = λ z b h.
      let v = w.above z b h in
      let q = split doc d from parts left s.at.left p link.Child st l v.0 v.2 in
      let over : below doc q.at y ≡ true = subst (λ u. below doc u y ≡ true) (is_parent_of doc q.at v.0 q.linked).1 (subst (λ u. below doc (row doc v.0).parent u ≡ true) up v.1) in
      (q.at, above_outer doc q.at y m (some doc q.at dd (element doc d from parts left q.at q.matched)) over, q.matched) in
      let here : (z : ℕ) → (row doc z).parent ≡ y → is_matched doc d from parts s.at.left z ≡ true → is_promising doc d from parts t ≡ true = λ z e h.
      let q = split doc d from parts left s.at.left p link.Child st l z h in
      promise_at t (subst (λ v. is_matched doc d from parts left v ≡ true) (sym (is_parent_of doc q.at z q.linked).1 ∙ e) q.matched) in
      record {
        search = record {
          at = record { some = st.some; within = omega (arith, st.within); row = within };
          sibling = record { some = st.some; within = omega (arith, st.within); row = omega arith };
          ancestor = w.ancestor;
          before = keeps_from_root left (mark left y);
          above = above;
          above_sibling = λ h. absurd (omega arith);
        };
        same = same_tests _ _
            (λ h. elim (promises t h) [
              | inl a ↦ promise_at s (join doc d from parts left s.at.left p link.Child st l s.at.row held
                  (record { at = y; within = within; linked = subst (λ v. is_parent doc v s.at.row ≡ true) up (is_parent_from doc s.at.row some_row); matched = a }))
              | inr (inl b) ↦ absurd (both_ways _ (none_of_root doc b.0) b.1)
              | inr (inr b) ↦ promise_above s m w.ancestor.row b
            ])
            (λ h. elim (promises s h) [
              | inl a ↦ here s.at.row up a
              | inr (inl b) ↦ (let v = w.before b.0 b.1 b.2 in here v.0 ((earlier doc v.0 s.at.row v.1).parent ∙ up) v.2)
              | inr (inr b) ↦ promise_above t m w.ancestor.row b
            ]);
        less = falls_within s.ancestor.row s.sibling.row s.at.row 0 y (length doc) (suc (length parts)) left s.at.left (omega arith) (omega (arith, st.within));
      }

  pub on_descendant : IsDocument doc → (s : Search) (left : ℕ) (p : Part) (y : ℕ) → IsSearch doc d from parts s → IsStep parts left s.at.left p → (out-Part p).link ≡ link.Descendant → holds doc d p s.at.row ≡ true
      → (row doc s.at.row).parent ≡ y → IsOnward doc d from parts s (search_of (mark left y) (mark left 0) (mark left y))
  on_descendant dd s left p y w st l held up =
      let m = small doc dd in
      let counts : s.at.left ≡ suc left = st.counts in
      let some_row : 0 < s.at.row = some doc s.at.row dd (held_element doc d p s.at.row held) in
      let less : (row doc s.at.row).parent < s.at.row = m s.at.row some_row in
      let within : y < length doc = (let h = w.at.row in omega arith) in
      let t = search_of (mark left y) (mark left 0) (mark left y) in
      let marked : IsMark doc parts (mark left y) = record { some = st.some; within = omega (arith, st.within); row = within } in
      let back : (z : ℕ) → z < length doc → below doc z s.at.row ≡ true → is_matched doc d from parts left z ≡ true → is_promising doc d from parts s ≡ true = λ z h e f.
      promise_at s (join doc d from parts left s.at.left p link.Descendant st l s.at.row held (record { at = z; within = h; linked = e; matched = f })) in
      let here : (z : ℕ) → (row doc z).parent ≡ y → is_matched doc d from parts s.at.left z ≡ true → is_promising doc d from parts t ≡ true = λ z e h.
      let q = split doc d from parts left s.at.left p link.Descendant st l z h in
      elim (above_parent doc q.at z m q.linked) [
        | inl f ↦ promise_at t (subst (λ v. is_matched doc d from parts left v ≡ true) (f ∙ e) q.matched)
        | inr f ↦ promise_above t m within (q.at, subst (λ v. below doc q.at v ≡ true) e f, q.matched)
      ] in
      let over : IsFound doc d from parts (below doc) s.ancestor.left s.ancestor.row → is_promising doc d from parts t ≡ true = λ f.
      let v = w.above f.0 f.1 f.2 in
      let q = split doc d from parts left s.at.left p link.Descendant st l v.0 v.2 in
      promise_above t m within (q.at, subst (λ u. below doc q.at u ≡ true) up (over_outer doc v.0 q.at s.at.row m v.1 q.linked), q.matched) in
      record {
        search = record {
          at = marked;
          sibling = record { some = st.some; within = omega (arith, st.within); row = omega arith };
          ancestor = marked;
          before = keeps_from_root left (mark left y);
          above = keeps_itself dd left y;
          above_sibling = λ h. absurd (omega arith);
        };
        same = same_tests _ _
            (λ h. elim (promises t h) [
              | inl a ↦ back y within (below_parent doc y s.at.row m some_row up) a
              | inr (inl b) ↦ absurd (both_ways _ (none_of_root doc b.0) b.1)
              | inr (inr b) ↦ (let high : b.0 < y = below_less doc b.0 y m b.1 in
                  back b.0 (omega arith) (below_up doc b.0 s.at.row m some_row (subst (λ v. below doc b.0 v ≡ true) (sym up) b.1)) b.2)
            ])
            (λ h. elim (promises s h) [
              | inl a ↦ here s.at.row up a
              | inr (inl b) ↦ (let v = w.before b.0 b.1 b.2 in here v.0 ((earlier doc v.0 s.at.row v.1).parent ∙ up) v.2)
              | inr (inr b) ↦ over b
            ]);
        less = falls_up s.ancestor.row s.sibling.row s.at.row y 0 y (length doc) (suc (length parts)) left s.at.left (omega arith) (omega arith) (omega (arith, st.within));
      }

  -- ---- no row to go on to

  pub none_first : (s : Search) (left : ℕ) (p : Part) → IsStep parts left s.at.left p → (out-Part p).link ≡ link.First → is_matched doc d from parts s.at.left s.at.row ≡ false
  none_first s left p st l = false_from_ne_true _ (λ h. let q = split doc d from parts left s.at.left p link.First st l s.at.row h in let e = q.linked in cc)

  pub none_next : (s : Search) (left : ℕ) (p : Part) → IsStep parts left s.at.left p → (out-Part p).link ≡ link.Next → ((z : ℕ) → is_earlier doc z s.at.row ≡ false) → is_matched doc d from parts s.at.left s.at.row ≡ false
  none_next s left p st l none = false_from_ne_true _ (λ h.
      let q = split doc d from parts left s.at.left p link.Next st l s.at.row h in
      both_ways _ (none q.at) (and_parts _ _ q.linked).0)

  pub none_later : (s : Search) (left : ℕ) (p : Part) → IsStep parts left s.at.left p → (out-Part p).link ≡ link.Later → ((z : ℕ) → is_earlier doc z s.at.row ≡ false) → is_matched doc d from parts s.at.left s.at.row ≡ false
  none_later s left p st l none = false_from_ne_true _ (λ h.
      let q = split doc d from parts left s.at.left p link.Later st l s.at.row h in
      both_ways _ (none q.at) q.linked)

  -- ---- the search fails at its row

  pub to_sibling : IsDocument doc → (s : Search) (y : ℕ) → IsSearch doc d from parts s → is_matched doc d from parts s.at.left s.at.row ≡ false → is_nearest_earlier doc y s.sibling.row ≡ true
      → IsOnward doc d from parts s (search_of (mark s.sibling.left y) (mark s.sibling.left y) s.ancestor)
  to_sibling dd s y w stuck near =
      let left = s.sibling.left in
      let n = nearest doc y s.sibling.row w.sibling.row near in
      let behind : y < s.sibling.row = n.earlier.less in
      let within : y < length doc = (let h = w.sibling.row in omega arith) in
      let t = search_of (mark left y) (mark left y) s.ancestor in
      let marked : IsMark doc parts (mark left y) = record { some = w.sibling.some; within = w.sibling.within; row = within } in
      let above : KeepsAbove doc d from parts s.ancestor (mark left y) = λ z b h.
      let v = w.above_sibling (omega arith) z b h in
      (v.0, outer_same doc v.0 v.0 s.sibling.row y refl n.earlier.parent v.1, v.2) in
      record {
        search = record { at = marked; sibling = marked; ancestor = w.ancestor; before = λ z b h. (z, b, h); above = above; above_sibling = λ _. above };
        same = same_tests _ _
            (λ h. elim (promises t h) [
              | inl a ↦ promise_before s w.sibling.row (y, is_earlier_from doc y s.sibling.row n.earlier, a)
              | inr (inl b) ↦ promise_before s w.sibling.row (b.0, is_earlier_from doc b.0 s.sibling.row (earlier_trans doc b.0 y s.sibling.row (earlier doc b.0 y b.1) n.earlier), b.2)
              | inr (inr b) ↦ promise_above s (small doc dd) w.ancestor.row b
            ])
            (λ h. elim (promises s h) [
              | inl a ↦ absurd (both_ways _ stuck a)
              | inr (inl b) ↦ elim (at_nearest doc b.0 y s.sibling.row (earlier doc b.0 s.sibling.row b.1) n) [
                | inl e ↦ promise_at t (subst (λ v. is_matched doc d from parts left v ≡ true) e b.2)
                | inr e ↦ promise_before t within (b.0, is_earlier_from doc b.0 y e, b.2)
              ]
              | inr (inr b) ↦ promise_above t (small doc dd) w.ancestor.row b
            ]);
        less = falls_within s.ancestor.row s.sibling.row s.at.row y y (length doc) (suc (length parts)) left s.at.left (omega arith) (let h = w.sibling.within in omega arith);
      }

  pub to_ancestor : IsDocument doc → (s : Search) (y : ℕ) → IsSearch doc d from parts s → is_matched doc d from parts s.at.left s.at.row ≡ false → ((z : ℕ) → is_earlier doc z s.sibling.row ≡ false)
      → 0 < s.ancestor.row → (row doc s.ancestor.row).parent ≡ y → IsOnward doc d from parts s (search_of (mark s.ancestor.left y) (mark s.ancestor.left 0) (mark s.ancestor.left y))
  to_ancestor dd s y w stuck none some_row up =
      let m = small doc dd in
      let left = s.ancestor.left in
      let less : (row doc s.ancestor.row).parent < s.ancestor.row = m s.ancestor.row some_row in
      let within : y < length doc = (let h = w.ancestor.row in omega arith) in
      let t = search_of (mark left y) (mark left 0) (mark left y) in
      let marked : IsMark doc parts (mark left y) = record { some = w.ancestor.some; within = w.ancestor.within; row = within } in
      record {
        search = record {
          at = marked;
          sibling = record { some = w.ancestor.some; within = w.ancestor.within; row = omega arith };
          ancestor = marked;
          before = keeps_from_root left (mark left y);
          above = keeps_itself dd left y;
          above_sibling = λ h. absurd (omega arith);
        };
        same = same_tests _ _
            (λ h. elim (promises t h) [
              | inl a ↦ promise_above s m w.ancestor.row (y, below_parent doc y s.ancestor.row m some_row up, a)
              | inr (inl b) ↦ absurd (both_ways _ (none_of_root doc b.0) b.1)
              | inr (inr b) ↦ promise_above s m w.ancestor.row (b.0, below_up doc b.0 s.ancestor.row m some_row (subst (λ v. below doc b.0 v ≡ true) (sym up) b.1), b.2)
            ])
            (λ h. elim (promises s h) [
              | inl a ↦ absurd (both_ways _ stuck a)
              | inr (inl b) ↦ absurd (both_ways _ (none b.0) b.1)
              | inr (inr b) ↦ elim (above_parent doc b.0 s.ancestor.row m b.1) [
                | inl e ↦ promise_at t (subst (λ v. is_matched doc d from parts left v ≡ true) (e ∙ up) b.2)
                | inr e ↦ promise_above t m within (b.0, subst (λ v. below doc b.0 v ≡ true) up e, b.2)
              ]
            ]);
        less = falls_up s.ancestor.row s.sibling.row s.at.row y 0 y (length doc) (suc (length parts)) left s.at.left (omega arith) (omega arith) (let h = w.ancestor.within in omega arith);
      }

  pub exhausted : (s : Search) → is_matched doc d from parts s.at.left s.at.row ≡ false → ((z : ℕ) → is_earlier doc z s.sibling.row ≡ false) → s.ancestor.row ≡ 0 → is_promising doc d from parts s ≡ false
  exhausted s stuck none root = false_from_ne_true _ (λ h.
      elim (promises s h) [
        | inl a ↦ both_ways _ stuck a
        | inr (inl b) ↦ both_ways _ (none b.0) b.1
        | inr (inr b) ↦ both_ways _ (subst (λ v. below doc b.0 v ≡ false) (sym root) (below_root doc b.0)) b.1
      ])

  -- ---- the search begins

  abbrev pub begun : ℕ → Search
  begun e = search_of (mark (length parts) e) (mark (length parts) 0) (mark (length parts) 0)

  pub begins : (e : ℕ) → 0 < length parts → e < length doc → IsSearch doc d from parts (begun e)
  begins e some_part within =
      let root : IsMark doc parts (mark (length parts) 0) = record { some = some_part; within = omega arith; row = omega arith } in
      record {
        at = record { some = some_part; within = omega arith; row = within };
        sibling = root;
        ancestor = root;
        before = keeps_from_root (length parts) (mark (length parts) e);
        above = λ z b h. absurd (both_ways _ (below_root doc z) b);
        above_sibling = λ h. absurd (omega arith);
      }

  pub promises_all : IsDocument doc → (e : ℕ) → 0 < length doc → is_promising doc d from parts (begun e) ≡ leads_back doc d from (reverse parts) e
  promises_all dd e within = same_tests _ _
      (λ h. elim (promises (begun e) h) [
        | inl a ↦ sym (whole doc d from parts e) ∙ a
        | inr (inl b) ↦ absurd (both_ways _ (none_of_root doc b.0) b.1)
        | inr (inr b) ↦ absurd (both_ways _ (below_root doc b.0) b.1)
      ])
      (λ h. promise_at (begun e) (whole doc d from parts e ∙ h))
