-- Rows that add nothing to the rows of a step.
use Rattle.std.proofs.Common.{◌≡◌, refl, sym, ◌∙◌, ap, subst, ℕ, zero, suc, ◌+◌, ◌-◌, ◌<◌, ◌≤◌, Bool, true, false, ◌||◌, ◌&&◌, eqb, ltb, cond, List, [], ◌∷◌, ◌++◌, length, map, take, leb, arith, inl, inr, ◌⊎◌, lt-ltb}
use Rattle.std.specs.Cmp as std_cmp
use Rattle.std.specs.Prelude.{filter, reverse, not, IsTrue}
use Rattle.std.specs.List.{list_any, range_with_len}
use Rattle.std.proofs.lemmas.Bool.{and_parts, cases_lt, eqb-true, eq-eqb, ltb-true, leb-true, both_ways, false_from_ne_true, or_cases}
use Rattle.std.proofs.lemmas.List.Elements.{All-take}
use Rattle.doc_model.specs.declared.Axis.{Axis}
use Rattle.doc_model.specs.declared.Axis.TheVariants as axis
use Rattle.doc_model.specs.declared.NodeTest.{NodeTest}
use Rattle.doc_model.specs.Document.{Document, row, is_attribute, below, IsDocument}
use Rattle.doc_model.specs.Axes.{on_axis, passes, is_reverse, axis_list}
use Rattle.doc_model.specs.Ends.{IsEnd}
use Rattle.doc_model.specs.RowLists.{has, AllBelow}
use Rattle.doc_model.proofs.Runs.{same_filter_below, not_below, filter_run, has_append}
use Rattle.doc_model.proofs.Below.{Small, small, below_cases, below_trans, below_by_end, past_end}
use Rattle.xpath_parser.specs.declared.expression.Step.{Step, out-Step}
use Rattle.xpath_parser.specs.Denote.{denote, walk_of, rows_in, kept}
use Rattle.xpath_parser.proofs.Equations.{at_step}
use Rattle.xpath_eval.specs.inner.Contexts.{AddsNothing, Covers, IsCovered}
use Rattle.xpath_eval.proofs.Lists.{member_of_all, all_by_members, has-reverse}

pub or_first : (a b : Bool) → a ≡ true → (a || b) ≡ true
or_first true b h = refl
or_first false b h = cc

pub or_second : (a b : Bool) → b ≡ true → (a || b) ≡ true
or_second true b h = refl
or_second false b h = h

pub both_true : (a b : Bool) → a ≡ true → b ≡ true → (a && b) ≡ true
both_true true b h k = k
both_true false b h k = h

pub not_true : (b : Bool) → b ≡ false → not b ≡ true
not_true b h = ap not h

pub was_false : (b : Bool) → not b ≡ true → b ≡ false
was_false true h = let no : false ≡ true = h in cc
was_false false h = refl

pub not_false_true : (b : Bool) → not b ≡ false → b ≡ true
not_false_true true h = refl
not_false_true false h = let no : true ≡ false = h in cc

pub told_le : (a b : ℕ) → IsTrue (leb a b) → a ≤ b
told_le a b h = leb-true a b h

pub all_take : (i n : ℕ) (xs : List ℕ) → AllBelow n xs → AllBelow n (take i xs)
all_take i n xs below = All-take (λ y. y < n) i xs below

-- ---- members

pub any_member : (p : ℕ → Bool) (xs : List ℕ) → list_any p xs ≡ true → (x : ℕ) × (has x xs ≡ true) × (p x ≡ true)
any_member p [] h = let no : false ≡ true = h in absurd (both_ways false refl no)
any_member p (x ∷ xs) h = elim (or_cases (p x) (list_any p xs) h) [
  | inl e ↦ (x, or_first _ _ (eq-eqb x x refl), e)
  | inr r ↦ (let m = any_member p xs r in (m.0, or_second (eqb x m.0) _ m.1, m.2))
]

pub member_any : (p : ℕ → Bool) (xs : List ℕ) (x : ℕ) → has x xs ≡ true → p x ≡ true → list_any p xs ≡ true
member_any p [] x h e = h
member_any p (z ∷ xs) x h e = elim (or_cases (eqb z x) (has x xs) h) [
  | inl same ↦ or_first (p z) _ (ap p (eqb-true z x same) ∙ e)
  | inr r ↦ or_second (p z) _ (member_any p xs x r e)
]

told_by : (p : ℕ → Bool) (y low : ℕ) (rest : List ℕ) (b c : Bool) → p low ≡ b → eqb low y ≡ c → (low ≡ y → has y rest ≡ false) → (low < y → has y rest ≡ p y) → low ≤ y
    → has y (cond b (low ∷ rest) rest) ≡ p y
told_by p y low rest true true e s f g h = ap (λ v. v || has y rest) s ∙ sym e ∙ ap p (eqb-true low y s)
told_by p y low rest true false e s f g h = ap (λ v. v || has y rest) s ∙ g (behind low y s h)
  where
    behind : (low y : ℕ) → eqb low y ≡ false → low ≤ y → low < y
    behind low y e h = elim (cases_lt low y) [ inl l ↦ l | inr k ↦ absurd (both_ways _ e (eq-eqb low y (omega (arith, h, k)))) ]
told_by p y low rest false true e s f g h = f (eqb-true low y s) ∙ sym e ∙ ap p (eqb-true low y s)
told_by p y low rest false false e s f g h = g (behind low y s h)
  where
    behind : (low y : ℕ) → eqb low y ≡ false → low ≤ y → low < y
    behind low y e h = elim (cases_lt low y) [ inl l ↦ l | inr k ↦ absurd (both_ways _ e (eq-eqb low y (omega (arith, h, k)))) ]

pub told_from : (p : ℕ → Bool) (n low y : ℕ) → low ≤ y → y < low + n → has y (filter p (range_with_len low n)) ≡ p y
told_from p zero low y h k = absurd (omega (arith, h, k))
told_from p (suc n) low y h k =
    told_by p y low (filter p (range_with_len (low + 1) n)) (p low) (eqb low y) refl refl
    (λ e. not_below y (low + 1) (low + 1 + n) (filter p (range_with_len (low + 1) n)) (omega (arith, e)) (filter_run p n (low + 1) (low + 1 + n) refl))
    (λ m. told_from p n (low + 1) y (omega (arith, m)) (omega (arith, k))) h

has_either : (y : ℕ) (b : Bool) (xs : List ℕ) → has y (cond b (reverse xs) xs) ≡ has y xs
has_either y true xs = has-reverse y xs
has_either y false xs = refl

module _ (doc : Document) where
  -- the members of an axis
  pub has_axis : (x : ℕ) (a : Axis) (t : NodeTest) (y : ℕ) → y < length doc → has y (axis_list doc x a t) ≡ (on_axis doc a x y && passes doc a t y)
  has_axis x a t y h = has_either y (is_reverse a) _ ∙ told_from (λ v. on_axis doc a x v && passes doc a t v) (length doc) 0 y (omega arith) (omega (arith, h))

  -- without predicates a step gives the rows of its axis
  pub plain_walk : (s : Step) (x : ℕ) → (out-Step s).predicates ≡ [] → walk_of doc s x ≡ axis_list doc x (out-Step s).axis (out-Step s).test
  plain_walk s x e = at_step doc s x ∙ ap (λ ps. kept (map (denote doc) ps) (axis_list doc x (out-Step s).axis (out-Step s).test)) e

  -- ---- what is left out adds nothing

  covered_row : (a : Axis) (t : NodeTest) (x z y : ℕ) → y < length doc → AddsNothing doc a z x → has y (axis_list doc x a t) ≡ true → has y (axis_list doc z a t) ≡ true
  covered_row a t x z y l adds h = let two = and_parts _ _ (sym (has_axis x a t y l) ∙ h) in has_axis z a t y l ∙ both_true _ _ (adds y l two.0) two.1

  pub covered_rows : (a : Axis) (t : NodeTest) (all few : List ℕ) → Covers doc a all few → rows_in doc few (λ x. axis_list doc x a t) ≡ rows_in doc all (λ x. axis_list doc x a t)
  unfolding rows_in
  covered_rows a t all few c =
      same_filter_below (λ y. list_any (λ x. has y (axis_list doc x a t)) few) (λ y. list_any (λ x. has y (axis_list doc x a t)) all) (length doc) 0 (λ y low l.
      let there : y < length doc = omega (arith, l) in
      std_cmp.both_ways _ _
      (λ h. let m = any_member (λ x. has y (axis_list doc x a t)) few h in member_any (λ x. has y (axis_list doc x a t)) all m.0 (c.some m.0 m.1) m.2)
      (λ h. let m = any_member (λ x. has y (axis_list doc x a t)) all h in
      let z = c.all m.0 m.1 in
      member_any (λ x. has y (axis_list doc x a t)) few z.0 z.1 (covered_row a t m.0 z.0 y there z.2 m.2)))

  -- ---- the loop that leaves rows out

  pub covers_none : (a : Axis) → Covers doc a [] []
  covers_none a = record { some = λ x h. h; all = λ x h. absurd (both_ways false refl h) }

  last_member : (xs : List ℕ) (x : ℕ) → has x (xs ++ x ∷ []) ≡ true
  last_member xs x = has_append x xs (x ∷ []) ∙ or_second (has x xs) _ (or_first _ _ (eq-eqb x x refl))

  earlier_member : (xs : List ℕ) (x y : ℕ) → has y xs ≡ true → has y (xs ++ x ∷ []) ≡ true
  earlier_member xs x y h = has_append y xs (x ∷ []) ∙ or_first _ _ h

  more_member : (xs : List ℕ) (x y : ℕ) → has y (xs ++ x ∷ []) ≡ true → (has y xs ≡ true) ⊎ (x ≡ y)
  more_member xs x y h = elim (or_cases _ _ (sym (has_append y xs (x ∷ [])) ∙ h)) [
    | inl e ↦ inl e
    | inr r ↦ (elim (or_cases (eqb x y) false r) [ inl e ↦ inr (eqb-true x y e) | inr never ↦ absurd (both_ways false refl never) ])
  ]

  pub covers_more : (a : Axis) (all few next : List ℕ) (x : ℕ) (wanted : Bool) → Covers doc a all few → (wanted ≡ false → IsCovered doc a few x)
      → next ≡ cond wanted (few ++ x ∷ []) few → Covers doc a (all ++ x ∷ []) next
  covers_more a all few next x true c covered is = record {
    some = λ y h. elim (more_member few x y (sym (ap (has y) is) ∙ h)) [
      | inl e ↦ earlier_member all x y (c.some y e)
      | inr e ↦ subst (λ v. has v (all ++ x ∷ []) ≡ true) e (last_member all x)
    ];
    all = λ y h. elim (more_member all x y h) [
      | inl e ↦ (let z = c.all y e in (z.0, ap (has z.0) is ∙ earlier_member few x z.0 z.1, z.2))
      | inr e ↦ (y, ap (has y) is ∙ subst (λ v. has v (few ++ x ∷ []) ≡ true) e (last_member few x), λ v l on. on)
    ];
  }
  covers_more a all few next x false c covered is = record {
    some = λ y h. earlier_member all x y (c.some y (sym (ap (has y) is) ∙ h));
    all = λ y h. elim (more_member all x y h) [
      | inl e ↦ (let z = c.all y e in (z.0, ap (has z.0) is ∙ z.1, z.2))
      | inr e ↦ (let z = covered refl in (z.0, ap (has z.0) is ∙ z.1, subst (λ v. AddsNothing doc a z.0 v) e z.2))
    ];
  }

  pub covers_below : (a : Axis) (n : ℕ) (all few : List ℕ) → Covers doc a all few → AllBelow n all → AllBelow n few
  covers_below a n all few c below = all_by_members (λ y. y < n) few (λ y h. member_of_all (λ v. v < n) all y below (c.some y h))

  -- turned round, the rows are the same
  pub covers_turned : (a : Axis) (all turned few : List ℕ) → turned ≡ reverse all → Covers doc a turned few → Covers doc a all few
  covers_turned a all turned few is c =
      let same : (x : ℕ) → has x turned ≡ has x all = λ x. ap (has x) is ∙ has-reverse x all in
      record { some = λ x h. sym (same x) ∙ c.some x h; all = λ x h. c.all x (same x ∙ h) }

  -- ---- axis by axis

  pub down : (x z : ℕ) → IsDocument doc → below doc z x ≡ true → AddsNothing doc axis.Descendant z x
  down x z d b y l h = let two = and_parts _ _ h in both_true _ _ two.0 (below_trans doc z x y (small doc d) b two.1)

  pub down_or_self : (x z : ℕ) → IsDocument doc → below doc z x ≡ true → is_attribute doc x ≡ false → AddsNothing doc axis.DescendantOrSelf z x
  down_or_self x z d b plain y l h = elim (or_cases _ _ h) [
    | inl e ↦ (let same : y ≡ x = eqb-true y x e in or_second (eqb y z) _ (both_true _ _ (not_true _ (ap (is_attribute doc) same ∙ plain)) (ap (below doc z) same ∙ b)))
    | inr r ↦ or_second (eqb y z) _ (down x z d b y l r)
  ]

  pub follows : (x z ex ez : ℕ) → IsDocument doc → IsEnd doc x ex → IsEnd doc z ez → ez ≤ ex → AddsNothing doc axis.Following z x
  follows x z ex ez d endx endz le y l h =
      let two = and_parts _ _ h in
      let three = and_parts _ _ two.1 in
      let behind : x < y = ltb-true x y two.0 in
      let over : ex ≤ y = elim (cases_lt y ex) [ inl k ↦ absurd (both_ways _ (was_false _ three.0) (sym (below_by_end doc x ex y d endx behind l) ∙ lt-ltb y ex k)) | inr k ↦ k ] in
      let after : z < ez = endz.after in
      both_true _ _ (lt-ltb z y (omega (arith, over, le, after))) (both_true _ _ (not_true _ (past_end doc z ez y d endz (omega (arith, over, le)) l)) three.1)

  -- a row before a row below y, and behind y, is below y
  one_up : (y z : ℕ) → IsDocument doc → y < z → z < length doc → below doc y (suc z) ≡ true → suc z < length doc → below doc y z ≡ true
  one_up y z d less l h k =
      let m = small doc d in
      let before : suc z - 1 ≡ z = omega arith in
      let nested : ((row doc (suc z)).parent ≡ z) ⊎ (below doc (row doc (suc z)).parent z ≡ true) = elim (or_cases _ _ (d.rest (suc z) (omega arith) k).nested) [
        | inl s ↦ inl (eqb-true _ _ s ∙ before)
        | inr b ↦ inr (subst (λ v. below doc (row doc (suc z)).parent v ≡ true) before b)
      ] in
      up m (below_cases doc y (suc z) m h) nested
    where
      up : Small doc → ((row doc (suc z)).parent ≡ y) ⊎ (below doc y (row doc (suc z)).parent ≡ true)
          → ((row doc (suc z)).parent ≡ z) ⊎ (below doc (row doc (suc z)).parent z ≡ true) → below doc y z ≡ true
      up m (inl s) (inl t) = absurd (omega (arith, less, s, t))
      up m (inl s) (inr c) = subst (λ v. below doc v z ≡ true) s c
      up m (inr b) (inl t) = subst (λ v. below doc y v ≡ true) t b
      up m (inr b) (inr c) = below_trans doc y (row doc (suc z)).parent z m b c

  between : (k y x : ℕ) → IsDocument doc → y < x → x + k < length doc → below doc y (x + k) ≡ true → below doc y x ≡ true
  between zero y x d less l h = let e : x + 0 ≡ x = omega arith in subst (λ v. below doc y v ≡ true) e h
  between (suc k) y x d less l h =
      let e : x + suc k ≡ suc (x + k) = omega arith in
      between k y x d less (omega (arith, l)) (one_up y (x + k) d (omega (arith, less)) (omega (arith, l)) (subst (λ v. below doc y v ≡ true) e h) (omega (arith, l)))

  pub precedes : (x z : ℕ) → IsDocument doc → x ≤ z → z < length doc → AddsNothing doc axis.Preceding z x
  precedes x z d le l y _ h =
      let two : (ltb y x ≡ true) × ((not (below doc y x) && not (is_attribute doc y)) ≡ true) = and_parts _ _ h in
      let three : (not (below doc y x) ≡ true) × (not (is_attribute doc y) ≡ true) = and_parts _ _ two.1 in
      let before : y < x = ltb-true y x two.0 in
      let e : x + (z - x) ≡ z = omega (arith, le) in
      both_true _ _ (lt-ltb y z (omega (arith, before, le)))
      (both_true _ _ (not_true _ (false_from_ne_true _ (λ b. both_ways _ (was_false _ three.0)
      (between (z - x) y x d before (omega (arith, le, l)) (subst (λ v. below doc y v ≡ true) (sym e) b))))) three.1)
