-- What is known of the rows of a tree: their parents, and where its attributes and children stand.
use Rattle.std.proofs.Common.{◌≡◌, ℕ, zero, suc, ◌+◌, ◌-◌, ◌<◌, ◌≤◌, ◌⊎◌, inl, inr, List, [], ◌∷◌, ◌++◌, map, length, drop, get_or, true, ◌&&◌, sym, refl, ◌∙◌, ap, subst, arith, length-append, eqb, ltb}
use Rattle.std.specs.Prelude.{filter}
use Rattle.std.specs.List.{range_with_len}
use Rattle.std.proofs.lemmas.Bool.{cases_lt, and_parts, ltb-true, eqb-true, both_ways, false_from_ne_true}
use Rattle.std.proofs.lemmas.List.{append-nil, get_or_past}
use Rattle.doc_model.specs.Document.{Row, Document, no_row, row, is_attribute, is_attribute_kind}
use Rattle.doc_model.specs.Axes.{on_axis}
use Rattle.doc_model.specs.declared.Axis.TheVariants as axis
use Rattle.doc_model.proofs.Below.{Small}
use Rattle.html_reader.specs.Tokens.{Attr, text, comment, doctype}
use Rattle.html_reader.specs.Forest.{Forest, nothing, then_leaf, then_element}
use Rattle.html_reader.specs.Rows.{tag_rows, row_of_attribute}
use Rattle.html_reader.proofs.SegmentLemmas.{rows_at, found_in}
use Rattle.html_reader.proofs.ContentOfRows.{Parents, tree_parents, heads, children_are, row_at, drop_past}
use Rattle.markup_out.specs.Markup.{children, attributes}
use Rattle.markup_out.proofs.Levels.{child_behind}
use Rattle.markup_out.proofs.ContentRows.{child_parent, child_no_attribute}

-- each row of a list
abbrev pub Each : (Row → Type 0) → List Row → Type 0
Each P [] = Unit {0}
Each P (r ∷ rs) = P r × Each P rs

pub each_append : (P : Row → Type 0) (xs ys : List Row) → Each P xs → Each P ys → Each P (xs ++ ys)
each_append P [] ys h k = k
each_append P (x ∷ xs) ys h k = (h.0, each_append P xs ys h.1 k)

pub each_more : (P Q : Row → Type 0) → ((r : Row) → P r → Q r) → (xs : List Row) → Each P xs → Each Q xs
each_more P Q f [] h = tt
each_more P Q f (x ∷ xs) h = (f x h.0, each_more P Q f xs h.1)

each_get : (P : Row → Type 0) (xs : List Row) (k : ℕ) → Each P xs → k < length xs → P (get_or xs k no_row)
each_get P [] k h l = absurd (omega arith)
each_get P (x ∷ xs) zero h l = h.0
each_get P (x ∷ xs) (suc k) h l = each_get P xs k h.1 (omega arith)

pub each_at : (P : Row → Type 0) (doc : Document) (m : ℕ) (xs post : List Row) → drop m doc ≡ xs ++ post → Each P xs → (y : ℕ) → m ≤ y → y < m + length xs → P (row doc y)
each_at P doc m xs post h e y l k =
    let at : row doc y ≡ get_or xs (y - m) no_row = ap (row doc) (let s : y ≡ m + (y - m) = omega (arith, l) in s) ∙ row_at doc m xs post (y - m) h (omega (arith, l, k)) in
    subst P (sym at) (each_get P xs (y - m) e (omega (arith, l, k)))

-- ---- parents

abbrev pub NotIs : ℕ → Row → Type 0
NotIs n r = r.parent ≡ n → ⊥

abbrev pub NotOwn : ℕ → Row → Type 0
NotOwn n r = is_attribute_kind r.kind ≡ true → r.parent ≡ n → ⊥

abbrev pub IsAttr : Row → Type 0
IsAttr r = is_attribute_kind r.kind ≡ true

-- the parent stands before a, or at b or after it
abbrev pub Apart : ℕ → ℕ → Row → Type 0
Apart a b r = (r.parent < a) ⊎ (b ≤ r.parent)

pub apart_more : (a b c d : ℕ) (xs : List Row) → a ≤ c → d ≤ b → Each (Apart a b) xs → Each (Apart c d) xs
apart_more a b c d xs l k h = each_more (Apart a b) (Apart c d) (λ r e. either r.parent e) xs h
  where
    either : (n : ℕ) → (n < a) ⊎ (b ≤ n) → (n < c) ⊎ (d ≤ n)
    either n (inl e) = inl (omega (arith, e, l))
    either n (inr e) = inr (omega (arith, e, k))

pub apart_not : (a b n : ℕ) (xs : List Row) → a ≤ n → n < b → Each (Apart a b) xs → Each (NotIs n) xs
apart_not a b n xs l k h = each_more (Apart a b) (NotIs n) (λ r e. either r.parent e) xs h
  where
    either : (q : ℕ) → (q < a) ⊎ (b ≤ q) → q ≡ n → ⊥
    either q (inl e) same = omega (arith, e, l, same)
    either q (inr e) same = omega (arith, e, k, same)

-- the rows of a tree below p stand apart from what is between
pub parents_apart : (p a c d : ℕ) (xs : List Row) → p < c → d ≤ a → Parents p a xs → Each (Apart c d) xs
parents_apart p a c d [] l k h = tt
parents_apart p a c d (x ∷ xs) l k h = (either x.parent h.0, parents_apart p a c d xs l k h.1)
  where
    either : (n : ℕ) → (n ≡ p) ⊎ (a ≤ n) → (n < c) ⊎ (d ≤ n)
    either n (inl e) = inl (omega (arith, e, l))
    either n (inr e) = inr (omega (arith, e, k))

parents_not : (p a n : ℕ) (xs : List Row) → (p ≡ n → ⊥) → n < a → Parents p a xs → Each (NotIs n) xs
parents_not p a n [] other l h = tt
parents_not p a n (x ∷ xs) other l h = (either x.parent h.0, parents_not p a n xs other l h.1)
  where
    either : (q : ℕ) → (q ≡ p) ⊎ (a ≤ q) → q ≡ n → ⊥
    either q (inl e) same = other (sym e ∙ same)
    either q (inr e) same = omega (arith, e, l, same)

attrs_not : (p n : ℕ) (attrs : List Attr) → p < n → Each (NotOwn p) (map (row_of_attribute n) attrs)
attrs_not p n [] l = tt
attrs_not p n (a ∷ attrs) l = ((λ k e. omega (arith, l, e)), attrs_not p n attrs l)

pub each_attr : (n : ℕ) (attrs : List Attr) → Each IsAttr (map (row_of_attribute n) attrs)
each_attr n [] = tt
each_attr n (a ∷ attrs) = (refl, each_attr n attrs)

-- no attribute among them has p as its parent
pub tree_own : (p n : ℕ) (g : Forest) → p < n → Each (NotOwn p) (rows_at p n g)
tree_own p n nothing l = tt
tree_own p n (then_leaf (text s) rest) l = ((λ k e. cc), tree_own p (n + 1) rest (omega arith))
tree_own p n (then_leaf (comment s) rest) l = ((λ k e. cc), tree_own p (n + 1) rest (omega arith))
tree_own p n (then_leaf doctype rest) l = tree_own p n rest l
tree_own p n (then_element tag inside inserted rest) l =
    let m = n + length (tag_rows p n tag) in
    let i = rows_at n m inside in
    each_append (NotOwn p) (tag_rows p n tag) (i ++ rows_at p (m + length i) rest) ((λ k e. cc), attrs_not p n tag.attrs l)
    (each_append (NotOwn p) i (rows_at p (m + length i) rest) (each_more (NotIs p) (NotOwn p) (λ r h k e. h e) i (parents_not n m p i (λ e. omega (arith, e, l)) (omega arith) (tree_parents n m inside)))
    (tree_own p (m + length i) rest (omega arith)))

-- ---- parents stand before

abbrev pub Smalls : ℕ → List Row → Type 0
Smalls n [] = Unit {0}
Smalls n (r ∷ rs) = (r.parent < n) × Smalls (n + 1) rs

smalls_append : (n m : ℕ) (xs ys : List Row) → m ≡ n + length xs → Smalls n xs → Smalls m ys → Smalls n (xs ++ ys)
smalls_append n m [] ys e h k = subst (λ j. Smalls j ys) (let s : m ≡ n = omega (arith, e) in s) k
smalls_append n m (x ∷ xs) ys e h k = (h.0, smalls_append (n + 1) m xs ys (omega (arith, e)) h.1 k)

attrs_small : (n k : ℕ) (attrs : List Attr) → n < k → Smalls k (map (row_of_attribute n) attrs)
attrs_small n k [] l = tt
attrs_small n k (a ∷ attrs) l = (l, attrs_small n (k + 1) attrs (omega arith))

tree_small : (p n : ℕ) (g : Forest) → p < n → Smalls n (rows_at p n g)
tree_small p n nothing l = tt
tree_small p n (then_leaf (text s) rest) l = (l, tree_small p (n + 1) rest (omega arith))
tree_small p n (then_leaf (comment s) rest) l = (l, tree_small p (n + 1) rest (omega arith))
tree_small p n (then_leaf doctype rest) l = tree_small p n rest l
tree_small p n (then_element tag inside inserted rest) l =
    let t = tag_rows p n tag in
    let m = n + length t in
    let i = rows_at n m inside in
    smalls_append n m t (i ++ rows_at p (m + length i) rest) refl (l, attrs_small n (n + 1) tag.attrs (omega arith))
    (smalls_append m (m + length i) i (rows_at p (m + length i) rest) refl (tree_small n m inside (omega arith)) (tree_small p (m + length i) rest (omega arith)))

smalls_get : (n : ℕ) (rs : List Row) (k : ℕ) → 0 < n + k → Smalls n rs → (get_or rs k no_row).parent < n + k
smalls_get n [] k l h = omega (arith, l, ap (λ (r : Row). r.parent) (get_or_past [] k no_row (omega arith)))
smalls_get n (r ∷ rs) zero l h = omega (arith, h.0)
smalls_get n (r ∷ rs) (suc k) l h = let later : (get_or rs k no_row).parent < n + 1 + k = smalls_get (n + 1) rs k (omega arith) h.1 in omega (arith, later)

pub tree_document : (doc : Document) (g : Forest) → doc ≡ no_row ∷ rows_at 0 1 g → Small doc
tree_document doc g e i l = subst (λ (d : Document). (row d i).parent < i) (sym e) (at i l)
  where
    at : (i : ℕ) → 0 < i → (row (no_row ∷ rows_at 0 1 g) i).parent < i
    at zero l = absurd (omega (arith, l))
    at (suc k) l = let h : (get_or (rows_at 0 1 g) k no_row).parent < 1 + k = smalls_get 1 (rows_at 0 1 g) k (omega arith) (tree_small 0 1 g (omega arith)) in omega (arith, h)

-- ---- children and attributes

module _ (doc : Document) (small : Small doc) where
  -- the children of the row n, whose tree stands from m on, with nothing but attributes between
  pub children_here : (n m : ℕ) (attrs : List Attr) (inside : Forest) (post : List Row) → m ≡ n + 1 + length (map (row_of_attribute n) attrs) → drop (n + 1) doc ≡ map (row_of_attribute n) attrs ++ (rows_at n m inside ++ post)
      → Each (NotIs n) post → m + length (rows_at n m inside) + length post ≡ length doc → children doc n ≡ heads m inside
  children_here n m attrs inside post e h other long =
      let i = rows_at n m inside in
      let h1 : drop m doc ≡ i ++ post = drop_past doc (n + 1) m (map (row_of_attribute n) attrs) (i ++ post) e h in
      let h2 : drop (m + length i) doc ≡ post = drop_past doc m (m + length i) i post refl h1 in
      let h3 : drop (m + length i) doc ≡ post ++ [] = h2 ∙ sym (append-nil post) in
      found_in (on_axis doc axis.Child n) m (length i) (length doc)
      (λ y l. false_from_ne_true _ (λ c. before y l c (cases_lt n y)))
      (λ y l k. false_from_ne_true _ (λ c. each_at (NotIs n) doc (m + length i) post [] h3 other y l (omega (arith, k, long)) (child_parent doc n y c)))
      (omega (arith, long))
      ∙ children_are doc n m inside post (omega (arith, e)) h1
    where
      before : (y : ℕ) → y < m → on_axis doc axis.Child n y ≡ true → (n < y) ⊎ (y ≤ n) → ⊥
      before y l c (inl k) = both_ways _ (child_no_attribute doc n y c) (each_at IsAttr doc (n + 1) (map (row_of_attribute n) attrs) (rows_at n m inside ++ post) h (each_attr n attrs) y (omega (arith, k)) (omega (arith, l, e)))
      before y l c (inr k) = let b : n < y = child_behind doc n y small c in omega (arith, b, k)

  own_behind : (n y : ℕ) → on_axis doc axis.Attribute n y ≡ true → n < y
  own_behind n y h =
      let two = and_parts _ _ (and_parts _ _ h).1 in
      let up : (row doc y).parent < y = small y (ltb-true 0 y two.0) in
      let is : (row doc y).parent ≡ n = eqb-true _ _ two.1 in
      omega (arith, up, is)

  -- its attributes stand directly after it
  pub attributes_here : (n m : ℕ) (attrs : List Attr) (inside : Forest) (post : List Row) → m ≡ n + 1 + length (map (row_of_attribute n) attrs) → drop (n + 1) doc ≡ map (row_of_attribute n) attrs ++ (rows_at n m inside ++ post)
      → Each (NotIs n) post → m + length (rows_at n m inside) + length post ≡ length doc
      → attributes doc n ≡ filter (on_axis doc axis.Attribute n) (range_with_len (n + 1) (length (map (row_of_attribute n) attrs)))
  attributes_here n m attrs inside post e h other long =
      let i = rows_at n m inside in
      let h1 : drop m doc ≡ i ++ post = drop_past doc (n + 1) m (map (row_of_attribute n) attrs) (i ++ post) e h in
      let h2 : drop m doc ≡ (i ++ post) ++ [] = h1 ∙ sym (append-nil (i ++ post)) in
      let none : Each (NotOwn n) (i ++ post) = each_append (NotOwn n) i post (tree_own n m inside (omega (arith, e))) (each_more (NotIs n) (NotOwn n) (λ r h k s. h s) post other) in
      found_in (on_axis doc axis.Attribute n) (n + 1) (length (map (row_of_attribute n) attrs)) (length doc)
      (λ y l. false_from_ne_true _ (λ c. let b : n < y = own_behind n y c in omega (arith, b, l)))
      (λ y l k. false_from_ne_true _ (λ c. each_at (NotOwn n) doc m (i ++ post) [] h2 none y (omega (arith, l, e)) (omega (arith, k, long, length-append i post)) (own_kind n y c) (own_parent n y c)))
      (omega (arith, long, e))
    where
      own_kind : (n y : ℕ) → on_axis doc axis.Attribute n y ≡ true → is_attribute doc y ≡ true
      own_kind n y c = (and_parts (is_attribute doc y) _ c).0

      own_parent : (n y : ℕ) → on_axis doc axis.Attribute n y ≡ true → (row doc y).parent ≡ n
      own_parent n y c = eqb-true (row doc y).parent n (and_parts (ltb 0 y) (eqb (row doc y).parent n) (and_parts (is_attribute doc y) (ltb 0 y && eqb (row doc y).parent n) c).1).1
