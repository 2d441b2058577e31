-- The nearest element sibling behind a row: the first of those that follow it.
use Rattle.std.proofs.Common.{◌≡◌, ◌≢◌, refl, ℕ, zero, suc, ◌+◌, ◌<◌, ◌≤◌, Bool, true, false, ◌&&◌, ◌||◌, not, cond, eqb, ltb, List, [], ◌∷◌, ap, sym, ◌∙◌, filter, map, length, arith, ◌⊎◌, inl, inr, lt-ltb}
use Rattle.std.specs.Prelude.{pos}
use Rattle.std.specs.List.{list_any, range_with_len}
use Rattle.std.specs.Ordering.{int_eq}
use Rattle.std.specs.Cmp.{signed_Decides}
use Rattle.std.proofs.lemmas.Bool.{and_parts, eqb-true, ltb-true, false_from_ne_true}
use Rattle.std.proofs.lemmas.Bool.Decides.{eqb_tells}
use Rattle.doc_model.specs.declared.Axis.TheVariants as axis
use Rattle.doc_model.specs.declared.NodeTest.TheVariants as node
use Rattle.doc_model.specs.Document.{Document, row, rows, is_element}
use Rattle.doc_model.specs.Axes.{on_axis}
use Rattle.css_selectors.specs.declared.selector.Link.TheVariants as link
use Rattle.css_meaning.specs.Siblings.{is_sibling, is_earlier}
use Rattle.css_meaning.specs.Matching.{linked}
use Rattle.css_meaning.proofs.ListTests as lists
use Rattle.css_meaning.proofs.Finding.{found}
use Rattle.xpath_parser.specs.declared.expression.Expr.{Expr}
use Rattle.xpath_parser.specs.Denote.{has, keeps, kept, kept_from, denote, walk_of}
use Rattle.xpath_parser.proofs.Equations as eq
use Rattle.css_printed.specs.inner.Predicates.{step, number}
use Rattle.text_base.proofs.Swaps.{flip, swap}
use Rattle.css_printed.proofs.Links.{axis_later, above_zero}
use Rattle.css_printed.proofs.PathsKept.{Keep}

-- the first of a list, if there is one
abbrev pub first_of : List ℕ → List ℕ
first_of [] = []
first_of (x ∷ xs) = x ∷ []

below_or : (a y : ℕ) → y ≤ a → ltb a y ≡ false
below_or a y h = false_from_ne_true _ (λ t. let less : a < y = ltb-true a y t in omega arith)

none_before : (p : ℕ → Bool) (a n y : ℕ) → y ≤ a → list_any (λ z. p z && ltb z y) (range_with_len a n) ≡ false
none_before p a zero y h = refl
none_before p a (suc n) y h =
    ap (λ b. (p a && b) || list_any (λ z. p z && ltb z y) (range_with_len (a + 1) n)) (below_or a y h)
    ∙ ap (λ b. b || list_any (λ z. p z && ltb z y) (range_with_len (a + 1) n)) (lists.and_false (p a))
    ∙ none_before p (a + 1) n y (omega arith)

at_first : (e py l m h : Bool) → e ≡ true → py ≡ true → l ≡ false → m ≡ false → (e || false) ≡ ((py && not ((true && l) || m)) && (e || h))
at_first e py l m h a b c d = rw (a, b, c, d) refl

dark : (py l m h : Bool) → (h ≡ true → l ≡ true) → ((py && not ((true && l) || m)) && h) ≡ false
dark py l m true k = rw (k refl) (ap (λ b. b && true) (lists.and_false py))
dark py l m false k = lists.and_false _

first_at : (p : ℕ → Bool) (a n y : ℕ) (b : Bool) → p a ≡ b → ((eqb a y ≡ true) × (a ≡ y)) ⊎ ((eqb a y ≡ false) × (a ≢ y))
    → has y (first_of (filter p (range_with_len (a + 1) n))) ≡ ((p y && not (list_any (λ z. p z && ltb z y) (range_with_len (a + 1) n))) && has y (range_with_len (a + 1) n))
    → has y (first_of (cond b (a ∷ filter p (range_with_len (a + 1) n)) (filter p (range_with_len (a + 1) n))))
    ≡ ((p y && not ((b && ltb a y) || list_any (λ z. p z && ltb z y) (range_with_len (a + 1) n))) && (eqb a y || has y (range_with_len (a + 1) n)))
first_at p a n y true h (inl same) more =
    at_first (eqb a y) (p y) (ltb a y) _ (has y (range_with_len (a + 1) n)) same.0 (ap p (sym same.1) ∙ h) (below_or a y (let e : a ≡ y = same.1 in omega arith))
    (none_before p (a + 1) n y (let e : a ≡ y = same.1 in omega arith))
first_at p a n y true h (inr other) more =
    ap (λ b. b || false) other.0
    ∙ sym (dark (p y) (ltb a y) (list_any (λ z. p z && ltb z y) (range_with_len (a + 1) n)) (has y (range_with_len (a + 1) n)) (λ i.
    let w : (z : ℕ) × (a + 1 ≤ z) × (z < a + 1 + n) × (eqb z y ≡ true) = found (λ z. eqb z y) (a + 1) n i in
    let same : w.0 ≡ y = eqb-true w.0 y w.3 in
    lt-ltb a y (omega (arith, w.1))))
    ∙ ap (λ b. (p y && not ((true && ltb a y) || list_any (λ z. p z && ltb z y) (range_with_len (a + 1) n))) && (b || has y (range_with_len (a + 1) n))) (sym other.0)
first_at p a n y false h (inl same) more =
    let no : p y ≡ false = ap p (sym same.1) ∙ h in
    more ∙ ap (λ b. (b && not (list_any (λ z. p z && ltb z y) (range_with_len (a + 1) n))) && has y (range_with_len (a + 1) n)) no
    ∙ ap (λ b. (b && not (list_any (λ z. p z && ltb z y) (range_with_len (a + 1) n))) && (eqb a y || has y (range_with_len (a + 1) n))) (sym no)
first_at p a n y false h (inr other) more =
    more ∙ ap (λ b. (p y && not (list_any (λ z. p z && ltb z y) (range_with_len (a + 1) n))) && (b || has y (range_with_len (a + 1) n))) (sym other.0)

has_first_from : (p : ℕ → Bool) (a n y : ℕ)
    → has y (first_of (filter p (range_with_len a n))) ≡ ((p y && not (list_any (λ z. p z && ltb z y) (range_with_len a n))) && has y (range_with_len a n))
has_first_from p a zero y = sym (lists.and_false (p y && true))
has_first_from p a (suc n) y = first_at p a n y (p a) refl (eqb_tells a y) (has_first_from p (a + 1) n y)

-- a row is the first that passes where it passes and none before it does
pub has_first : (doc : Document) (p : ℕ → Bool) (y : ℕ) → has y (rows doc) ≡ true
    → has y (first_of (filter p (rows doc))) ≡ (p y && not (list_any (λ z. p z && ltb z y) (rows doc)))
has_first doc p y among = has_first_from p 0 (length doc) y ∙ ap (λ b. (p y && not (list_any (λ z. p z && ltb z y) (rows doc))) && b) among ∙ lists.and_true _

module _ (doc : Document) where
  -- ---- a predicate that is the number 1 keeps the first

  one_value : (x at size : ℕ) → keeps at (denote doc (number 1) (record { row = x; position = at; size = size })) ≡ int_eq (pos 1) (pos at)
  one_value x at size = ap (keeps at) (eq.at_number doc (pos 1) (record { row = x; position = at; size = size }))

  not_one : (at : ℕ) → 1 < at → int_eq (pos 1) (pos at) ≡ false
  not_one at h = false_from_ne_true _ (λ t. let same : pos 1 ≡ pos at = (signed_Decides (pos 1) (pos at)).0 t in let one : 1 ≡ at = cc in omega arith)

  none_later : (size at : ℕ) (xs : List ℕ) → 1 < at → kept_from (denote doc (number 1)) size at xs ≡ []
  none_later size at [] h = refl
  none_later size at (x ∷ xs) h =
      ap (λ b. cond b (x ∷ kept_from (denote doc (number 1)) size (suc at) xs) (kept_from (denote doc (number 1)) size (suc at) xs)) (one_value x at size ∙ not_one at h)
      ∙ none_later size (suc at) xs (omega arith)

  pub one_kept : (size : ℕ) (xs : List ℕ) → kept_from (denote doc (number 1)) size 1 xs ≡ first_of xs
  one_kept size [] = refl
  one_kept size (x ∷ xs) =
      ap (λ b. cond b (x ∷ kept_from (denote doc (number 1)) size 2 xs) (kept_from (denote doc (number 1)) size 2 xs)) (one_value x 1 size)
      ∙ ap (λ r. x ∷ r) (none_later size 2 xs (omega arith))

  -- ---- the nearest sibling behind x, seen from it

  core : (z0 zy less lz e : Bool) → (less ≡ true → z0 ≡ true) → ((((true && (true && zy)) && less) && e) && lz) ≡ (((e && (z0 && zy)) && lz) && less)
  core z0 true false lz e c = sym (lists.and_false _)
  core z0 false false lz e c = sym (lists.and_false _)
  core z0 true true true true c = rw (c refl) refl
  core z0 true true false true c = rw (c refl) refl
  core z0 false true true true c = rw (c refl) refl
  core z0 false true false true c = rw (c refl) refl
  core z0 true true true false c = refl
  core z0 true true false false c = refl
  core z0 false true true false c = refl
  core z0 false true false false c = refl

  apart : (x0 xz z0 zy less lz e : Bool) → x0 ≡ true → xz ≡ zy → (less ≡ true → z0 ≡ true)
      → ((((true && (x0 && xz)) && less) && e) && lz) ≡ (((e && (z0 && zy)) && lz) && less)
  apart x0 xz z0 zy less lz e a b c = rw (a, b) (core z0 zy less lz e c)

  abbrev follows : ℕ → ℕ → Bool
  follows x z = on_axis doc axis.FollowingSibling x z && is_element doc z

  -- an element between, seen from before and from behind
  between : (x y z : ℕ) → is_element doc x ≡ true → is_earlier doc x y ≡ true → (follows x z && ltb z y) ≡ (is_earlier doc z y && ltb x z)
  between x y z is earlier = at (is_element doc z) refl
    where
      at : (b : Bool) → is_element doc z ≡ b → (follows x z && ltb z y) ≡ (is_earlier doc z y && ltb x z)
      at false h = ap (λ b. (on_axis doc axis.FollowingSibling x z && b) && ltb z y) h ∙ ap (λ b. b && ltb z y) (lists.and_false _)
          ∙ ap (λ b. ((b && (ltb 0 z && eqb (row doc z).parent (row doc y).parent)) && ltb z y) && ltb x z) (sym h)
      at true h =
          let sibling : (is_element doc x && (ltb 0 x && eqb (row doc x).parent (row doc y).parent)) ≡ true = (and_parts (is_sibling doc y x) _ earlier).0 in
          let parts : (ltb 0 x ≡ true) × (eqb (row doc x).parent (row doc y).parent ≡ true) = and_parts (ltb 0 x) _ (and_parts (is_element doc x) _ sibling).1 in
          let parent : (row doc x).parent ≡ (row doc y).parent = eqb-true _ _ parts.1 in
          ap (λ b. (b && is_element doc z) && ltb z y) (axis_later doc x z is h)
          ∙ ap (λ b. (((b && (ltb 0 x && eqb (row doc x).parent (row doc z).parent)) && ltb x z) && is_element doc z) && ltb z y) is
          ∙ apart (ltb 0 x) (eqb (row doc x).parent (row doc z).parent) (ltb 0 z) (eqb (row doc z).parent (row doc y).parent) (ltb x z) (ltb z y) (is_element doc z) parts.0
          (flip (row doc x).parent (row doc z).parent ∙ ap (eqb (row doc z).parent) parent) (above_zero x z)

  -- the first element sibling behind x is what x is the nearest before
  pub first_is_nearest : (x y : ℕ) → is_element doc x ≡ true → is_element doc y ≡ true
      → (follows x y && not (list_any (λ z. follows x z && ltb z y) (rows doc))) ≡ linked doc link.Next x y
  first_is_nearest x y is el = at (is_earlier doc x y) refl
    where
      same : follows x y ≡ is_earlier doc x y
      same = ap (λ b. on_axis doc axis.FollowingSibling x y && b) el ∙ lists.and_true _ ∙ axis_later doc x y is el

      at : (b : Bool) → is_earlier doc x y ≡ b → (follows x y && not (list_any (λ z. follows x z && ltb z y) (rows doc))) ≡ linked doc link.Next x y
      at false h =
          ap (λ b. b && not (list_any (λ z. follows x z && ltb z y) (rows doc))) (same ∙ h)
          ∙ ap (λ b. b && not (list_any (λ z. is_earlier doc z y && ltb x z) (rows doc))) (sym h)
      at true h =
          ap (λ b. b && not (list_any (λ z. follows x z && ltb z y) (rows doc))) same
          ∙ ap (λ b. is_earlier doc x y && not b) (lists.any_same _ _ (λ z. between x y z is h) (rows doc))

  next_regroup : (q f n link e h : Bool) → (f ≡ true → e ≡ true) → (h ≡ true → e ≡ true) → (e ≡ true → (f && n) ≡ link) → (e ≡ true → q ≡ h) → (q && (f && n)) ≡ (link && h)
  next_regroup q f n link true h a b c k = rw (c refl, k refl) (swap h link)
  next_regroup q false n link false false a b c k = lists.and_false q ∙ sym (lists.and_false link)
  next_regroup q true n link false h a b c k = let no = a refl in cc
  next_regroup q false n link false true a b c k = let no = b refl in cc

  -- the step of a nearest sibling, and its further predicates
  pub next_has : (es : List Expr) (q : ℕ → Bool) (holds : ℕ → Bool) (x y : ℕ) → Keep doc (is_element doc) es q
      → ((y : ℕ) → holds y ≡ true → is_element doc y ≡ true) → ((y : ℕ) → is_element doc y ≡ true → q y ≡ holds y)
      → is_element doc x ≡ true → has y (rows doc) ≡ true
      → has y (walk_of doc (step axis.FollowingSibling node.AnyName (number 1 ∷ es)) x) ≡ (linked doc link.Next x y && holds y)
  next_has es q holds x y keep to_element same is among =
      ap (has y) (eq.at_made doc axis.FollowingSibling node.AnyName (number 1 ∷ es) x
      ∙ ap (kept (map (denote doc) es)) (one_kept (length (filter (follows x) (rows doc))) (filter (follows x) (rows doc)))
      ∙ keep (first_of (filter (follows x) (rows doc))) (λ z i. (and_parts _ (is_element doc z) (first_follows z i)).1))
      ∙ lists.in_filter q (first_of (filter (follows x) (rows doc))) y ∙ ap (λ b. q y && b) (has_first doc (follows x) y among)
      ∙ next_regroup (q y) (follows x y) _ (linked doc link.Next x y) (is_element doc y) (holds y) (λ h. (and_parts _ (is_element doc y) h).1) (to_element y) (λ h. first_is_nearest x y is h) (same y)
    where
      first_in : (xs : List ℕ) (z : ℕ) → has z (first_of xs) ≡ true → has z xs ≡ true
      first_in [] z h = h
      first_in (w ∷ xs) z h = ap (λ b. b || has z xs) (sym (lists.or_false (eqb w z)) ∙ h)

      first_follows : (z : ℕ) → has z (first_of (filter (follows x) (rows doc))) ≡ true → follows x z ≡ true
      first_follows z i = (and_parts (follows x z) _ (sym (lists.in_filter (follows x) (rows doc) z) ∙ first_in (filter (follows x) (rows doc)) z i)).0
