-- No text row comes next to a text row.
use Rattle.std.proofs.Common.{◌≡◌, ℕ, zero, suc, ◌≤◌, ◌<◌, List, [], ◌∷◌, ◌++◌, map, length, Bool, true, false, ◌&&◌, cond, refl, ◌∙◌, ap, arith, length-append, eqb, ne_eqb}
use Rattle.std.specs.Prelude.{not}
use Rattle.html_reader.specs.Tokens.{Attr, Tag, text, comment, doctype}
use Rattle.html_reader.specs.Forest.{Forest, nothing, then_leaf, then_element}
use Rattle.doc_model.specs.Document.{Row, is_text_kind, is_attribute_kind}
use Rattle.html_reader.specs.Rows.{Sofar, sofar, flushed, entered, with_leaf, grown, row_of_attribute, row_of_comment, text_rows, tag_rows}
use Rattle.html_reader.specs.Places.{Place, outside, within, base, place_grown, Grown, below}
use Rattle.doc_model.specs.Growing.{innermost}
use Rattle.html_reader.specs.inner.Parents.{Small, Within}
use Rattle.doc_model.specs.inner.LastChild.{ends_in_text, is_child}

pub ends_in_text-append : (p : ℕ) (b : Bool) (xs ys : List Row) → ends_in_text p b (xs ++ ys) ≡ ends_in_text p (ends_in_text p b xs) ys
ends_in_text-append p b [] ys = refl
ends_in_text-append p b (x ∷ xs) ys = ends_in_text-append p (cond (is_child p x) (is_text_kind x.kind) b) xs ys

apart : (a b : ℕ) → (a ≡ b → ⊥) → eqb a b ≡ false
apart a b h = ne_eqb a b h

same_eq : (a : ℕ) → eqb a a ≡ true
same_eq a = grind arith

-- rows that are no children
attrs_pass : (p n : ℕ) (b : Bool) (attrs : List Attr) → ends_in_text p b (map (row_of_attribute n) attrs) ≡ b
attrs_pass p n b [] = refl
attrs_pass p n b (a ∷ attrs) = ap (λ t. ends_in_text p t (map (row_of_attribute n) attrs)) (no_child (eqb n p)) ∙ attrs_pass p n b attrs
  where
    no_child : (e : Bool) → cond (e && false) false b ≡ b
    no_child true = refl
    no_child false = refl

texts_pass : (p n : ℕ) (b : Bool) (waits : List ℕ) → (n ≡ p → ⊥) → ends_in_text p b (text_rows n waits) ≡ b
texts_pass p zero b waits h = refl
texts_pass p (suc n) b [] h = refl
texts_pass p (suc n) b (c ∷ cs) h = ap (λ e. cond (e && true) true b) (apart (suc n) p h)

-- the text that waits makes one row at most
pub text_few : (p : ℕ) (waits : List ℕ) → length (text_rows p waits) ≤ 1
text_few zero waits = omega arith
text_few (suc p) [] = omega arith
text_few (suc p) (c ∷ cs) = omega arith

pub length-flushed : (p : ℕ) (s : Sofar) → length s.rows ≤ length (flushed p s)
length-flushed p s = omega (arith, length-append s.rows (text_rows p s.waits))

flush_passes : (q p : ℕ) (s : Sofar) → (p ≡ q → ⊥) → ends_in_text q false (flushed p s) ≡ ends_in_text q false s.rows
flush_passes q p s h = ends_in_text-append q false s.rows (text_rows p s.waits) ∙ texts_pass q p _ s.waits h

comment_passes : (q p : ℕ) (b : Bool) (content : List ℕ) → (p ≡ q → ⊥) → ends_in_text q b (row_of_comment p content ∷ []) ≡ b
comment_passes q p b content h = ap (λ e. cond (e && true) false b) (apart p q h)

comment_ends : (p : ℕ) (b : Bool) (content : List ℕ) → ends_in_text p b (row_of_comment p content ∷ []) ≡ false
comment_ends p b content = ap (λ e. cond (e && true) false b) (same_eq p)

tag_passes : (q p n : ℕ) (b : Bool) (tag : Tag) → (p ≡ q → ⊥) → ends_in_text q b (tag_rows p n tag) ≡ b
tag_passes q p n b tag h = ap (λ e. ends_in_text q (cond (e && true) false b) (map (row_of_attribute n) tag.attrs)) (apart p q h) ∙ attrs_pass q n b tag.attrs

tag_ends : (p n : ℕ) (b : Bool) (tag : Tag) → ends_in_text p b (tag_rows p n tag) ≡ false
tag_ends p n b tag = ap (λ e. ends_in_text p (cond (e && true) false b) (map (row_of_attribute n) tag.attrs)) (same_eq p) ∙ attrs_pass p n false tag.attrs

pub length-entered : (p : ℕ) (s : Sofar) (tag : Tag) → length (flushed p s) < length (entered p s tag).rows
length-entered p s tag = omega (arith, length-append (flushed p s) (tag_rows p (length (flushed p s)) tag))

pub length-grown : (p : ℕ) (s : Sofar) (f : Forest) → length s.rows ≤ length (grown p s f).rows
length-grown p s nothing = omega arith
length-grown p s (then_leaf (text content) rest) = length-grown p _ rest
length-grown p s (then_leaf (comment content) rest) =
    omega (arith, length-grown p (with_leaf p s (comment content)) rest, length-flushed p s, length-append (flushed p s) (row_of_comment p content ∷ []))
length-grown p s (then_leaf doctype rest) = length-grown p _ rest
length-grown p s (then_element tag inside inserted rest) =
    let n = length (flushed p s) in
    let t = grown n (entered p s tag) inside in
    omega (arith, length-flushed p s, length-entered p s tag, length-grown n (entered p s tag) inside, length-flushed n t, length-grown p (sofar (flushed n t) []) rest)

-- what grows below an open element gives those around it no children
pub around : (q p : ℕ) (s : Sofar) (f : Forest) → q < p → p < length s.rows → ends_in_text q false (grown p s f).rows ≡ ends_in_text q false s.rows
around q p s nothing l m = refl
around q p s (then_leaf (text content) rest) l m = around q p (with_leaf p s (text content)) rest l m
around q p s (then_leaf (comment content) rest) l m =
    around q p (with_leaf p s (comment content)) rest l (omega (arith, length-flushed p s, length-append (flushed p s) (row_of_comment p content ∷ [])))
    ∙ ends_in_text-append q false (flushed p s) (row_of_comment p content ∷ [])
    ∙ comment_passes q p _ content (λ e. omega arith)
    ∙ flush_passes q p s (λ e. omega arith)
around q p s (then_leaf doctype rest) l m = around q p s rest l m
around q p s (then_element tag inside inserted rest) l m =
    let n = length (flushed p s) in
    let t = grown n (entered p s tag) inside in
    let up : p < n = omega (arith, length-flushed p s) in
    let long = length-entered p s tag in
    let on : q < n = omega (arith, l, up) in
    around q p (sofar (flushed n t) []) rest l (omega (arith, up, long, length-grown n (entered p s tag) inside, length-flushed n t))
    ∙ flush_passes q n t (λ e. omega (arith, on, e))
    ∙ around q n (entered p s tag) inside on long
    ∙ ends_in_text-append q false (flushed p s) (tag_rows p n tag)
    ∙ tag_passes q p n _ tag (λ e. omega arith)
    ∙ flush_passes q p s (λ e. omega arith)

-- before a text waits or comes, the last child is no text
pub calm : (p : ℕ) (s : Sofar) (f : Forest) → p < length s.rows → ends_in_text p false s.rows ≡ false → ends_in_text p false (grown p s f).rows ≡ false
calm p s nothing m h = h
calm p s (then_leaf (text content) rest) m h = calm p (with_leaf p s (text content)) rest m h
calm p s (then_leaf (comment content) rest) m h =
    calm p (with_leaf p s (comment content)) rest (omega (arith, length-flushed p s, length-append (flushed p s) (row_of_comment p content ∷ [])))
    (ends_in_text-append p false (flushed p s) (row_of_comment p content ∷ []) ∙ comment_ends p _ content)
calm p s (then_leaf doctype rest) m h = calm p s rest m h
calm p s (then_element tag inside inserted rest) m h =
    let n = length (flushed p s) in
    let t = grown n (entered p s tag) inside in
    let up : p < n = omega (arith, length-flushed p s) in
    let long = length-entered p s tag in
    calm p (sofar (flushed n t) []) rest (omega (arith, up, long, length-grown n (entered p s tag) inside, length-flushed n t))
    (flush_passes p n t (λ e. omega (arith, up, e))
    ∙ around p n (entered p s tag) inside up long
    ∙ ends_in_text-append p false (flushed p s) (tag_rows p n tag)
    ∙ tag_ends p n _ tag)

-- rows whose parents are small
small_pass : (m n : ℕ) (b : Bool) (rows : List Row) → m ≤ n → Small m rows → ends_in_text n b rows ≡ b
small_pass m n b [] l h = refl
small_pass m n b (r ∷ rs) l h =
    ap (λ e. ends_in_text n (cond (e && not (is_attribute_kind r.kind)) (is_text_kind r.kind) b) rs) (apart r.parent n (λ e. omega (arith, h.0))) ∙ small_pass m n b rs l h.1

small_more : (m n : ℕ) (rows : List Row) → m ≤ n → Small m rows → Small n rows
small_more m n [] l h = tt
small_more m n (r ∷ rs) l h = (omega (arith, h.0), small_more m n rs l h.1)

small-append : (m : ℕ) (xs ys : List Row) → Small m xs → Small m ys → Small m (xs ++ ys)
small-append m [] ys h k = k
small-append m (x ∷ xs) ys h k = (h.0, small-append m xs ys h.1 k)

small_text : (m p : ℕ) (waits : List ℕ) → p < m → Small m (text_rows p waits)
small_text m zero waits l = tt
small_text m (suc p) [] l = tt
small_text m (suc p) (c ∷ cs) l = (l, tt)

small_attrs : (m n : ℕ) (attrs : List Attr) → n < m → Small m (map (row_of_attribute n) attrs)
small_attrs m n [] l = tt
small_attrs m n (a ∷ attrs) l = (l, small_attrs m n attrs l)

pub within_flushed : (p : ℕ) (s : Sofar) → p < length s.rows → Within s.rows → Within (flushed p s)
within_flushed p s l h =
    let m = length (flushed p s) in
    small-append m s.rows (text_rows p s.waits) (small_more (length s.rows) m s.rows (length-flushed p s) h) (small_text m p s.waits (omega (arith, l, length-flushed p s)))

within_entered : (p : ℕ) (s : Sofar) (tag : Tag) → p < length s.rows → Within s.rows → Within (entered p s tag).rows
within_entered p s tag l h =
    let n = length (flushed p s) in
    let m = length (entered p s tag).rows in
    let long = length-entered p s tag in
    small-append m (flushed p s) (tag_rows p n tag) (small_more n m (flushed p s) (omega (arith, long)) (within_flushed p s l h))
    (omega (arith, l, length-flushed p s, long), small_attrs m n tag.attrs long)

within_comment : (p : ℕ) (s : Sofar) (content : List ℕ) → p < length s.rows → Within s.rows → Within (flushed p s ++ row_of_comment p content ∷ [])
within_comment p s content l h =
    let n = length (flushed p s) in
    let long = length-append (flushed p s) (row_of_comment p content ∷ []) in
    small-append _ (flushed p s) (row_of_comment p content ∷ []) (small_more n _ (flushed p s) (omega (arith, long)) (within_flushed p s l h)) (omega (arith, l, length-flushed p s, long), tt)

pub within_grown : (p : ℕ) (s : Sofar) (f : Forest) → p < length s.rows → Within s.rows → Within (grown p s f).rows
within_grown p s nothing l h = h
within_grown p s (then_leaf (text content) rest) l h = within_grown p (with_leaf p s (text content)) rest l h
within_grown p s (then_leaf (comment content) rest) l h =
    within_grown p (with_leaf p s (comment content)) rest (omega (arith, l, length-flushed p s, length-append (flushed p s) (row_of_comment p content ∷ []))) (within_comment p s content l h)
within_grown p s (then_leaf doctype rest) l h = within_grown p s rest l h
within_grown p s (then_element tag inside inserted rest) l h =
    let n = length (flushed p s) in
    let t = grown n (entered p s tag) inside in
    let long = length-entered p s tag in
    let in_t : n < length t.rows = omega (arith, long, length-grown n (entered p s tag) inside) in
    within_grown p (sofar (flushed n t) []) rest (omega (arith, l, in_t, length-flushed p s, length-flushed n t))
    (within_flushed n t in_t (within_grown n (entered p s tag) inside long (within_entered p s tag l h)))

-- at each place the innermost open element is there, and its last child is no text
pub record IsCalm (g : Grown) : Type 0 where
  pub there : innermost g.open_rows < length g.sofar.rows
  pub inside : Within g.sofar.rows
  pub calm : ends_in_text (innermost g.open_rows) false g.sofar.rows ≡ false

pub calm_piece : (open_rows : List ℕ) (s : Sofar) (piece : Forest) → IsCalm (below open_rows s) → IsCalm (below open_rows (grown (innermost open_rows) s piece))
calm_piece open_rows s piece h =
    record {
      there = omega (arith, h.there, length-grown (innermost open_rows) s piece);
      inside = within_grown (innermost open_rows) s piece h.there h.inside;
      calm = calm (innermost open_rows) s piece h.there h.calm;
    }

-- after a start tag
pub calm_entered : (open_rows : List ℕ) (s : Sofar) (tag : Tag) → IsCalm (below open_rows s) → IsCalm (below (length (flushed (innermost open_rows) s) ∷ open_rows) (entered (innermost open_rows) s tag))
calm_entered open_rows s tag h =
    let p = innermost open_rows in
    let n = length (flushed p s) in
    record {
      there = length-entered p s tag;
      inside = within_entered p s tag h.there h.inside;
      calm =
          ends_in_text-append n false (flushed p s) (tag_rows p n tag)
          ∙ ap (λ b. ends_in_text n b (tag_rows p n tag)) (small_pass n n false (flushed p s) (omega arith) (within_flushed p s h.there h.inside))
          ∙ tag_passes n p n false tag (λ e. omega (arith, e, h.there, length-flushed p s));
    }

pub base_calm : (made : Bool) → IsCalm (base made)
base_calm false = record { there = omega arith; inside = (omega arith, tt); calm = refl }
base_calm true = record { there = omega arith; inside = (omega arith, (omega arith, tt)); calm = refl }

pub place_calm : (made : Bool) (p : Place) → IsCalm (place_grown made p)
place_calm made (outside piece) = calm_piece (base made).open_rows (base made).sofar piece (base_calm made)
place_calm made (within before tag piece) =
    let g = place_grown made before in
    calm_piece (length (flushed (innermost g.open_rows) g.sofar) ∷ g.open_rows) (entered (innermost g.open_rows) g.sofar tag) piece (calm_entered g.open_rows g.sofar tag (place_calm made before))
