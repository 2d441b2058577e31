-- The children of a row, among the rows of its tree, in order.
use Rattle.std.proofs.Common.{◌≡◌, ℕ, zero, suc, ◌+◌, ◌-◌, ◌<◌, ◌≤◌, ◌⊎◌, inl, inr, List, [], ◌∷◌, ◌++◌, map, length, drop, get_or, Bool, true, false, ◌&&◌, cond, sym, refl, ◌∙◌, ap, arith, append_assoc, length-append, eqb, ltb, get_or-drop, add-zero, drop-drop}
use Rattle.std.specs.Prelude.{not, filter}
use Rattle.std.specs.List.{range_with_len}
use Rattle.std.proofs.lemmas.Bool.Decides.{nat_tests}
use Rattle.std.proofs.lemmas.List.{length-map}
use Rattle.std.proofs.lemmas.List.Elements.{filter-append}
use Rattle.std.proofs.Math.ListN.{get_or-append}
use Rattle.std.proofs.Math.Seq.{drop-append_seam}
use Rattle.doc_model.specs.Document.{Row, Document, no_row, row, is_attribute, is_attribute_kind}
use Rattle.doc_model.specs.Axes.{on_axis}
use Rattle.doc_model.specs.declared.Axis.TheVariants as axis
use Rattle.doc_model.specs.declared.Kind.TheVariants.{Attribute}
use Rattle.html_reader.specs.Tokens.{Attr, text, comment, doctype}
use Rattle.html_reader.specs.Forest.{Forest, nothing, then_leaf, then_element}
use Rattle.html_reader.specs.Rows.{tag_rows, row_of_text, row_of_comment, row_of_attribute, row_of_element}
use Rattle.html_reader.proofs.SegmentLemmas.{rows_at, none_found, range_append}

-- rows whose parent is p or stands at a or after it
abbrev pub Parents : ℕ → ℕ → List Row → Type 0
Parents p a [] = Unit {0}
Parents p a (r ∷ rs) = ((r.parent ≡ p) ⊎ (a ≤ r.parent)) × Parents p a rs

parents_append : (p a : ℕ) (xs ys : List Row) → Parents p a xs → Parents p a ys → Parents p a (xs ++ ys)
parents_append p a [] ys h k = k
parents_append p a (x ∷ xs) ys h k = (h.0, parents_append p a xs ys h.1 k)

parents_from : (p q a b : ℕ) (xs : List Row) → a ≤ b → a ≤ q → Parents q b xs → Parents p a xs
parents_from p q a b [] l m h = tt
parents_from p q a b (x ∷ xs) l m h = (either x.parent h.0, parents_from p q a b xs l m h.1)
  where
    either : (n : ℕ) → (n ≡ q) ⊎ (b ≤ n) → (n ≡ p) ⊎ (a ≤ n)
    either n (inl e) = inr (omega (arith, e))
    either n (inr k) = inr (omega (arith, k))

attr_parents : (p n : ℕ) (attrs : List Attr) → Parents p n (map (row_of_attribute n) attrs)
attr_parents p n [] = tt
attr_parents p n (a ∷ attrs) = (inr (omega arith), attr_parents p n attrs)

wider : (p a b : ℕ) (xs : List Row) → a ≤ b → Parents p b xs → Parents p a xs
wider p a b [] l h = tt
wider p a b (x ∷ xs) l h = (either x.parent h.0, wider p a b xs l h.1)
  where
    either : (n : ℕ) → (n ≡ p) ⊎ (b ≤ n) → (n ≡ p) ⊎ (a ≤ n)
    either n (inl e) = inl e
    either n (inr k) = inr (omega (arith, k))

pub tree_parents : (p n : ℕ) (g : Forest) → Parents p n (rows_at p n g)
tree_parents p n nothing = tt
tree_parents p n (then_leaf (text s) rest) = (inl refl, wider p n (n + 1) (rows_at p (n + 1) rest) (omega arith) (tree_parents p (n + 1) rest))
tree_parents p n (then_leaf (comment s) rest) = (inl refl, wider p n (n + 1) (rows_at p (n + 1) rest) (omega arith) (tree_parents p (n + 1) rest))
tree_parents p n (then_leaf doctype rest) = tree_parents p n rest
tree_parents p n (then_element tag inside inserted rest) =
    let m = n + length (tag_rows p n tag) in
    let i = rows_at n m inside in
    parents_append p n (tag_rows p n tag) (i ++ rows_at p (m + length i) rest) (inl refl, attr_parents p n tag.attrs)
    (parents_append p n i (rows_at p (m + length i) rest) (parents_from p n n m i (omega arith) (omega arith) (tree_parents n m inside)) (wider p n (m + length i) (rows_at p (m + length i) rest) (omega arith) (tree_parents p (m + length i) rest)))

-- the row at a place of a part of the document
pub row_at : (doc : Document) (n : ℕ) (xs post : List Row) (k : ℕ) → drop n doc ≡ xs ++ post → k < length xs → row doc (n + k) ≡ get_or xs k no_row
row_at doc n xs post k h l = sym (get_or-drop n doc k no_row) ∙ ap (λ z. get_or z k no_row) h ∙ get_or-append xs post no_row k l

parent_at : (p a : ℕ) (xs : List Row) (k : ℕ) → Parents p a xs → k < length xs → ((get_or xs k no_row).parent ≡ p) ⊎ (a ≤ (get_or xs k no_row).parent)
parent_at p a [] k h l = absurd (omega arith)
parent_at p a (x ∷ xs) zero h l = h.0
parent_at p a (x ∷ xs) (suc k) h l = parent_at p a xs k h.1 (omega arith)

attr_at : (n : ℕ) (attrs : List Attr) (k : ℕ) → k < length attrs → (get_or (map (row_of_attribute n) attrs) k no_row).kind ≡ Attribute
attr_at n [] k l = absurd (omega arith)
attr_at n (a ∷ attrs) zero l = refl
attr_at n (a ∷ attrs) (suc k) l = attr_at n attrs k (omega arith)

-- no child: an attribute, or a row with another parent
no_child_attr : (doc : Document) (x y : ℕ) → (row doc y).kind ≡ Attribute → on_axis doc axis.Child x y ≡ false
no_child_attr doc x y e = ap (λ k. not (is_attribute_kind k) && (ltb 0 y && eqb (row doc y).parent x)) e

no_child_parent : (doc : Document) (x y : ℕ) → ((row doc y).parent ≡ x → ⊥) → on_axis doc axis.Child x y ≡ false
no_child_parent doc x y h = none (not (is_attribute doc y)) (ltb 0 y) (eqb (row doc y).parent x) (other (row doc y).parent x h)
  where
    other : (a b : ℕ) → (a ≡ b → ⊥) → eqb a b ≡ false
    other a b h = grind (arith, nat_tests)

    none : (a b c : Bool) → c ≡ false → (a && (b && c)) ≡ false
    none true true c h = h
    none true false c h = refl
    none false b c h = refl

is_child : (doc : Document) (x y : ℕ) → is_attribute doc y ≡ false → 0 < y → (row doc y).parent ≡ x → on_axis doc axis.Child x y ≡ true
is_child doc x y a l e = λ j. not (a j) && (is_below 0 y l j && same (row doc y).parent x e j)
  where
    is_below : (a b : ℕ) → a < b → ltb a b ≡ true
    is_below a b l = grind (arith, nat_tests)

    same : (a b : ℕ) → a ≡ b → eqb a b ≡ true
    same a b e = grind (arith, nat_tests)

-- the children of p among these rows, by their trees
abbrev pub heads : ℕ → Forest → List ℕ
heads n nothing = []
heads n (then_leaf (text s) rest) = n ∷ heads (n + 1) rest
heads n (then_leaf (comment s) rest) = n ∷ heads (n + 1) rest
heads n (then_leaf doctype rest) = heads n rest
heads n (then_element tag inside inserted rest) =
    let m = n + length (tag_rows 0 n tag) in
    n ∷ heads (m + length (rows_at n m inside)) rest

one_and : (f : ℕ → Bool) (n k : ℕ) → f n ≡ true → filter f (range_with_len n (suc k)) ≡ n ∷ filter f (range_with_len (n + 1) k)
one_and f n k h = ap (λ b. cond b (n ∷ filter f (range_with_len (n + 1) k)) (filter f (range_with_len (n + 1) k))) h

pub row_first : (doc : Document) (n : ℕ) (r : Row) (xs : List Row) → drop n doc ≡ r ∷ xs → row doc n ≡ r
row_first doc n r xs h = ap (row doc) (sym (add-zero n)) ∙ sym (get_or-drop n doc 0 no_row) ∙ ap (λ z. get_or z 0 no_row) h

pub drop_past : (doc : Document) (n m : ℕ) (xs ys : List Row) → m ≡ n + length xs → drop n doc ≡ xs ++ ys → drop m doc ≡ ys
drop_past doc n m xs ys at h = ap (λ k. drop k doc) (let e : m ≡ length xs + n = omega arith in e) ∙ ap (λ k. drop k doc) (let e : length xs + n ≡ n + length xs = omega arith in e) ∙ sym (drop-drop' n xs) ∙ ap (drop (length xs)) h ∙ drop-append_seam xs ys
  where
    drop-drop' : (n : ℕ) (xs : List Row) → drop (length xs) (drop n doc) ≡ drop (n + length xs) doc
    drop-drop' n xs = drop-drop (length xs) n doc ∙ ap (λ k. drop k doc) (let e : _ ≡ n + length xs = omega arith in e)

module _ (doc : Document) (p : ℕ) where
  abbrev f : ℕ → Bool
  f = on_axis doc axis.Child p

  leaf_head : (n : ℕ) (r : Row) (xs post : List Row) (hs : List ℕ) → p < n → r.parent ≡ p → is_attribute_kind r.kind ≡ false → drop n doc ≡ (r ∷ xs) ++ post → filter f (range_with_len (n + 1) (length xs)) ≡ hs → filter f (range_with_len n (length (r ∷ xs))) ≡ n ∷ hs
  leaf_head n r xs post hs l e a h later =
      let at : row doc n ≡ r = row_first doc n r (xs ++ post) h in
      one_and f n (length xs) (is_child doc p n (ap (λ (x : Row). is_attribute_kind x.kind) at ∙ a) (omega arith) (ap (λ (x : Row). x.parent) at ∙ e)) ∙ ap (λ t. n ∷ t) later

  -- the rows of a tree below another row are no children
  none_below : (m q b : ℕ) (xs post : List Row) → p < b → (q ≡ p → ⊥) → Parents q b xs → drop m doc ≡ xs ++ post → filter f (range_with_len m (length xs)) ≡ []
  none_below m q b xs post l other ps h =
      none_found f m (length xs) (λ y low high.
      let k = y - m in
      let at : row doc y ≡ get_or xs k no_row = ap (row doc) (let e : y ≡ m + k = omega (arith, low) in e) ∙ row_at doc m xs post k h (omega (arith, low, high)) in
      no_child_parent doc p y (λ e. by_parent (get_or xs k no_row).parent (parent_at q b xs k ps (omega (arith, low, high))) (sym (ap (λ (x : Row). x.parent) at) ∙ e)))
    where
      by_parent : (n : ℕ) → (n ≡ q) ⊎ (b ≤ n) → n ≡ p → ⊥
      by_parent n (inl e) k = other (sym e ∙ k)
      by_parent n (inr e) k = omega (arith, e, k)

  none_attrs : (m n : ℕ) (attrs : List Attr) (post : List Row) → drop m doc ≡ map (row_of_attribute n) attrs ++ post → filter f (range_with_len m (length (map (row_of_attribute n) attrs))) ≡ []
  none_attrs m n attrs post h =
      none_found f m (length (map (row_of_attribute n) attrs)) (λ y low high.
      let k = y - m in
      let at : row doc y ≡ get_or (map (row_of_attribute n) attrs) k no_row = ap (row doc) (let e : y ≡ m + k = omega (arith, low) in e) ∙ row_at doc m (map (row_of_attribute n) attrs) post k h (omega (arith, low, high)) in
      no_child_attr doc p y (ap (λ (x : Row). x.kind) at ∙ attr_at n attrs k (omega (arith, low, high, length-map attrs (row_of_attribute n)))))

  -- the segment below a row has the tree's rows
  pub children_are : (n : ℕ) (g : Forest) (post : List Row) → p < n → drop n doc ≡ rows_at p n g ++ post → filter f (range_with_len n (length (rows_at p n g))) ≡ heads n g
  children_are n nothing post l h = refl
  children_are n (then_leaf (text s) rest) post l h =
      leaf_head n (row_of_text p s) (rows_at p (n + 1) rest) post (heads (n + 1) rest) l refl refl h (children_are (n + 1) rest post (omega arith) (drop_past doc n (n + 1) (row_of_text p s ∷ []) (rows_at p (n + 1) rest ++ post) (omega arith) h))
  children_are n (then_leaf (comment s) rest) post l h =
      leaf_head n (row_of_comment p s) (rows_at p (n + 1) rest) post (heads (n + 1) rest) l refl refl h (children_are (n + 1) rest post (omega arith) (drop_past doc n (n + 1) (row_of_comment p s ∷ []) (rows_at p (n + 1) rest ++ post) (omega arith) h))
  children_are n (then_leaf doctype rest) post l h = children_are n rest post l h
  children_are n (then_element tag inside inserted rest) post l h =
      let attrs = map (row_of_attribute n) tag.attrs in
      let m = n + length (tag_rows p n tag) in
      let i = rows_at n m inside in
      let r = rows_at p (m + length i) rest in
      let h1 : drop n doc ≡ (row_of_element p tag.name ∷ (attrs ++ (i ++ r))) ++ post = h in
      let h2 : drop (n + 1) doc ≡ attrs ++ ((i ++ r) ++ post) = drop_past doc n (n + 1) (row_of_element p tag.name ∷ []) ((attrs ++ (i ++ r)) ++ post) (omega arith) h1 ∙ append_assoc attrs (i ++ r) post in
      let h3 : drop m doc ≡ i ++ (r ++ post) = drop_past doc (n + 1) m attrs ((i ++ r) ++ post) (omega arith) h2 ∙ append_assoc i r post in
      let h4 : drop (m + length i) doc ≡ r ++ post = drop_past doc m (m + length i) i (r ++ post) refl h3 in
      leaf_head n (row_of_element p tag.name) (attrs ++ (i ++ r)) post (heads (m + length i) rest) l refl refl h1
      (ap (λ k. filter f (range_with_len (n + 1) k)) (let e : length (attrs ++ (i ++ r)) ≡ length attrs + (length i + length r) = omega (arith, length-append attrs (i ++ r), length-append i r) in e)
      ∙ ap (filter f) (range_append (n + 1) (length attrs) (length i + length r)) ∙ filter-append f (range_with_len (n + 1) (length attrs)) (range_with_len (n + 1 + length attrs) (length i + length r))
      ∙ ap (λ x. x ++ filter f (range_with_len (n + 1 + length attrs) (length i + length r))) (none_attrs (n + 1) n tag.attrs ((i ++ r) ++ post) h2)
      ∙ ap (λ k. filter f (range_with_len k (length i + length r))) (let e : n + 1 + length attrs ≡ m = omega arith in e)
      ∙ ap (filter f) (range_append m (length i) (length r)) ∙ filter-append f (range_with_len m (length i)) (range_with_len (m + length i) (length r))
      ∙ ap (λ x. x ++ filter f (range_with_len (m + length i) (length r))) (none_below m n m i (r ++ post) (omega arith) (λ e. omega (arith, e)) (tree_parents n m inside) h3)
      ∙ children_are (m + length i) rest post (omega arith) h4)
