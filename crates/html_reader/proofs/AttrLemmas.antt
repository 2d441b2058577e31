-- The attributes of a start tag, and the text that waits, as the reader makes their rows.
use Rattle.std.proofs.lemmas.Bool.{or_left, or_right, eq-eqb}
use Rattle.std.proofs.Common.{IsTrue, ◌||◌, ◌&&◌, eqb, ◌≡◌, ℕ, zero, suc, ◌+◌, ◌≤◌, ◌<◌, List, [], ◌∷◌, ◌++◌, map, length, take, get_or, false, sym, refl, ◌∙◌, ap, subst, arith, append_assoc, length-append, length-take}
use Rattle.std.proofs.Common.{◌-◌, Option, Some, None, option_to_list, IsSome, ◌↔◌}
use Rattle.html_reader.specs.inner.Parents.{Small, Within}
use Rattle.html_reader.proofs.CalmLemmas.{text_few, within_flushed}
use Rattle.std.proofs.lemmas.List.{get_or_append_left, length-map}
use Rattle.html_reader.specs.declared.token.Attr as code
use Rattle.doc_model.specs.declared.Kind.{Kind}
use Rattle.doc_model.specs.declared.Kind.TheVariants.{Element, Attribute}
use Rattle.doc_model.specs.Document.{Row, Document, row, is_attribute, is_attribute_kind, no_row}
use Rattle.html_reader.specs.Tokens.{Attr, Tag, comment}
use Rattle.html_reader.specs.Rows.{sofar, flushed, text_rows, row_of_text, row_of_element, row_of_attribute, row_of_comment, tag_rows}
use Rattle.html_reader.specs.Places.{Grown, below}
use Rattle.doc_model.specs.Growing.{innermost}
use Rattle.html_reader.specs.inner.Machine.{held, settled, state, with_some, opened, closed, without_first}
use Rattle.html_reader.specs.declared.reader.Root.{Root}
use Rattle.doc_model.specs.Growing.{Growing, growing, with_text, with_comment, with_element, with_close, rest_of, AwaitsAttr}
use Rattle.html_reader.specs.inner.Kept.{IsNew, AreKept, EndsInElement}
use Rattle.html_reader.specs.inner.Pieces.{owned_bytes}
use Rattle.std.specs.Str.{chars}
use Rattle.html_reader.specs.inner.States.{attr_of, tag_of, tags_onto, grown_of, the_state}
use Rattle.html_reader.specs.declared.token.StartTag.{StartTag}

new_at : (name : List ℕ) (attrs : List code.Attr) (k : ℕ) (d : code.Attr) → IsNew name (map attr_of attrs) → k < length attrs → chars (owned_bytes (get_or attrs k d).name) ≡ chars name → ⊥
new_at name [] k d h l = absurd (omega arith)
new_at name (a ∷ attrs) zero d h l = h.0
new_at name (a ∷ attrs) (suc k) d h l = new_at name attrs k d h.1 (omega arith)

pub kept_name : (attrs : List code.Attr) (k : ℕ) (d : code.Attr) → AreKept (map attr_of attrs) → k < length attrs → chars (owned_bytes (get_or attrs k d).name) ≡ [] → ⊥
kept_name [] k d h l = absurd (omega arith)
kept_name (a ∷ attrs) zero d h l = h.0
kept_name (a ∷ attrs) (suc k) d h l = kept_name attrs k d h.2 (omega arith)

kept_new : (attrs : List code.Attr) (k : ℕ) (d : code.Attr) → AreKept (map attr_of attrs) → k < length attrs → IsNew (owned_bytes (get_or attrs k d).name) (map attr_of (take k attrs))
kept_new [] k d h l = absurd (omega arith)
kept_new (a ∷ attrs) zero d h l = tt
kept_new (a ∷ attrs) (suc k) d h l = ((λ e. new_at (owned_bytes a.name) attrs k d h.1 (omega arith) (sym e)), kept_new attrs k d h.2 (omega arith))

-- rows after others
row_behind : (xs ys : Document) (j : ℕ) → row (xs ++ ys) (length xs + j) ≡ row ys j
row_behind [] ys j = let e : 0 + j ≡ j = omega arith in ap (row ys) e
row_behind (x ∷ xs) ys j = let e : length (x ∷ xs) + j ≡ suc (length xs + j) = omega arith in ap (row ((x ∷ xs) ++ ys)) e ∙ row_behind xs ys j

-- the rows of attributes are attributes of the element
attr_at : (n : ℕ) (attrs : List Attr) (j : ℕ) → j < length attrs → ((row (map (row_of_attribute n) attrs) j).kind ≡ Attribute) × ((row (map (row_of_attribute n) attrs) j).parent ≡ n)
attr_at n [] j l = absurd (omega arith)
attr_at n (a ∷ attrs) zero l = (refl, refl)
attr_at n (a ∷ attrs) (suc j) l = attr_at n attrs j (omega arith)

new_row : (n : ℕ) (name : List ℕ) (attrs : List Attr) (j : ℕ) → IsNew name attrs → j < length attrs → (row (map (row_of_attribute n) attrs) j).name ≡ chars name → ⊥
new_row n name [] j h l = absurd (omega arith)
new_row n name (a ∷ attrs) zero h l = h.0
new_row n name (a ∷ attrs) (suc j) h l = new_row n name attrs j h.1 (omega arith)

small_at : (m : ℕ) (rows : Document) (k : ℕ) → Small m rows → k < length rows → (row rows k).parent < m
small_at m [] k h l = absurd (omega arith)
small_at m (r ∷ rows) zero h l = h.0
small_at m (r ∷ rows) (suc k) h l = small_at m rows k h.1 (omega arith)

-- the rows of an element and its attributes, after others
new_behind : (front : Document) (parent n : ℕ) (tag : Tag) (name : List ℕ) (doc : Document) (k : ℕ) → Within front → doc ≡ front ++ tag_rows parent n tag → n ≡ length front → IsNew name tag.attrs
    → k < length doc → (row doc k).kind ≡ Attribute → (row doc k).parent ≡ n → (row doc k).name ≡ chars name → ⊥
new_behind front parent n tag name doc k small e at new l kind par =
    by_place (k - n) refl
  where
    same : (j : ℕ) → k ≡ n + j → row doc k ≡ row (tag_rows parent n tag) j
    same j h = ap (row doc) (h ∙ ap (λ m. m + j) at) ∙ ap (λ d. row d (length front + j)) e ∙ row_behind front (tag_rows parent n tag) j

    size : length doc ≡ length front + (1 + length tag.attrs)
    size = omega (arith, ap length e, length-append front (tag_rows parent n tag), length-map tag.attrs (row_of_attribute n))

    not_element : (kind : Kind) → kind ≡ Attribute → kind ≡ Element → ⊥
    not_element kind h g = cc

    before : k < n → ⊥
    before l =
        let inside : k < length front = omega (arith, l, at) in
        let is_front : row doc k ≡ row front k = ap (λ d. row d k) e ∙ get_or_append_left front (tag_rows parent n tag) no_row k inside in
        omega (arith, small_at (length front) front k small inside, ap (λ (r : Row). r.parent) is_front, par, at)

    by_place : (j : ℕ) → k - n ≡ j → (row doc k).name ≡ chars name → ⊥
    by_place zero h same_name = at_or_before (omega (arith, h))
      where
        at_or_before : k ≤ n → ⊥
        at_or_before le =
            let not_at : (k ≡ n → ⊥) = (λ z. not_element _ kind (ap (λ (r : Row). r.kind) (same 0 (omega (arith, z))))) in
            before (omega (arith, le, not_at))
    by_place (suc j) h same_name =
        new_row n name tag.attrs j new (omega (arith, h, l, size, at)) (sym (ap (λ (r : Row). r.name) (same (suc j) (omega (arith, h)))) ∙ same_name)

-- the rows so far in the loop over the attributes
abbrev pub attrs_grown : Growing → List code.Attr → Growing
attrs_grown g attrs = growing (g.rows ++ map (row_of_attribute (innermost g.open_rows)) (map attr_of attrs)) g.open_rows

-- the last row is the element or an attribute of it
follows_at : (front : Document) (parent n : ℕ) (tag : Tag) (doc : Document) → doc ≡ front ++ tag_rows parent n tag → n ≡ length front
    → IsTrue (eqb n (length doc - 1) || (is_attribute doc (length doc - 1) && eqb (row doc (length doc - 1)).parent n))
follows_at front parent n tag doc e at = by_attrs (length tag.attrs) refl
  where
    size : length doc ≡ length front + (1 + length tag.attrs)
    size = omega (arith, ap length e, length-append front (tag_rows parent n tag), length-map tag.attrs (row_of_attribute n))

    by_attrs : (m : ℕ) → length tag.attrs ≡ m → IsTrue (eqb n (length doc - 1) || (is_attribute doc (length doc - 1) && eqb (row doc (length doc - 1)).parent n))
    by_attrs zero h = or_left _ _ (eq-eqb n (length doc - 1) (omega (arith, size, h, at)))
    by_attrs (suc m) h =
        let last : row doc (length doc - 1) ≡ row (map (row_of_attribute n) tag.attrs) m =
        ap (row doc) (omega (arith, size, h)) ∙ ap (λ d. row d (length front + suc m)) e ∙ row_behind front (tag_rows parent n tag) (suc m) in
        let attr = attr_at n tag.attrs m (omega (arith, h)) in
        or_right _ _ (λ i. (ap (λ (r : Row). is_attribute_kind r.kind) last ∙ ap is_attribute_kind attr.0) i && (ap (λ (r : Row). eqb r.parent n) last ∙ eq-eqb _ n attr.1) i)

pub awaits : (g h : Growing) (attrs : List code.Attr) (k : ℕ) (d : code.Attr) (name : List ℕ) → EndsInElement g → AreKept (map attr_of attrs) → h ≡ attrs_grown g (take k attrs) → k < length attrs
    → name ≡ chars (owned_bytes (get_or attrs k d).name) → AwaitsAttr h name
awaits g h attrs k d name e kept is l named =
    let front = e.front in
    let el = row_of_element e.parent e.name ∷ [] in
    let tag : Tag = record { name = e.name; attrs = map attr_of (take k attrs); slash = false } in
    let ends : h.rows ≡ front ++ tag_rows e.parent (length front) tag =
    ap (λ (x : Growing). x.rows) is
    ∙ (λ i. e.ends i ++ map (row_of_attribute (e.at i)) (map attr_of (take k attrs)))
    ∙ append_assoc front el (map (row_of_attribute (length front)) (map attr_of (take k attrs))) in
    let opens : h.open_rows ≡ g.open_rows = ap (λ (x : Growing). x.open_rows) is in
    let at : innermost h.open_rows ≡ length front = ap innermost opens ∙ e.at in
    record {
      opened = λ none. e.opened (sym opens ∙ none);
      follows = subst (λ n. IsTrue (eqb n (length h.rows - 1) || (is_attribute h.rows (length h.rows - 1) && eqb (row h.rows (length h.rows - 1)).parent n))) (sym at) (follows_at front e.parent (length front) tag h.rows ends refl);
      new = λ j lj kind par same. new_behind front e.parent (length front) tag (owned_bytes (get_or attrs k d).name) h.rows j e.small ends refl (kept_new attrs k d kept l) lj kind (par ∙ at) (same ∙ named);
    }

pub attr_room : (g h : Growing) (attrs : List code.Attr) (k : ℕ) → h ≡ attrs_grown g (take k attrs) → k ≤ length attrs → length h.rows ≡ length g.rows + k
attr_room g h attrs k is l =
    let f = row_of_attribute (innermost g.open_rows) in
    let rows = ap (λ (x : Growing). length x.rows) is in
    omega (arith, rows, length-append g.rows (map f (map attr_of (take k attrs))), length-map (map attr_of (take k attrs)) f, length-map (take k attrs) attr_of, length-take k attrs)

-- the text that waits
some_rows : (p : ℕ) (waits : List ℕ) → 0 < p → (waits ≡ [] → ⊥) → text_rows p waits ≡ row_of_text p waits ∷ []
some_rows zero waits l h = absurd (omega arith)
some_rows (suc p) [] l h = absurd (h refl)
some_rows (suc p) (c ∷ cs) l h = refl

pub settle_text : (g : Growing) (waits : List ℕ) → 0 < innermost g.open_rows → (waits ≡ [] → ⊥) → (text : List ℕ) → text ≡ chars waits → grown_of (with_text g text) [] ≡ settled (grown_of g waits)
settle_text g waits l h text is = ap (λ t. grown_of (with_text g t) []) is ∙ ap (λ r. below g.open_rows (sofar (g.rows ++ r) [])) (sym (some_rows (innermost g.open_rows) waits l h))

pub length-tags : (tags : List Tag) (ts : List StartTag) → length (tags_onto tags ts) ≡ length tags + length ts
length-tags tags [] = omega arith
length-tags tags (t ∷ ts) = omega (arith, length-tags (tag_of t ∷ tags) ts)

pub tags_push : (tags : List Tag) (ts : List StartTag) (t : StartTag) → tags_onto tags (ts ++ t ∷ []) ≡ tag_of t ∷ tags_onto tags ts
tags_push tags [] t = refl
tags_push tags (x ∷ ts) t = tags_push (tag_of x ∷ tags) ts t

-- a start tag: the text that waits, the element, its attributes
pub starts_tag : (g f e a : Growing) (waits left : List ℕ) (items new : List StartTag) (rooted : Root) (t : StartTag) → grown_of f left ≡ settled (grown_of g waits) → (name : List ℕ) → name ≡ chars (owned_bytes t.name) → e ≡ with_element f name
    → (attrs : List code.Attr) → attrs ≡ t.attrs.items → a ≡ attrs_grown e attrs → new ≡ items ++ t ∷ [] → the_state new (with_some rooted) a left ≡ opened (the_state items rooted g waits) (tag_of t)
starts_tag g f e a waits left items new rooted t settles name named began taken_attrs same_attrs took pushed =
    let begun : e ≡ with_element f (chars (owned_bytes t.name)) = began ∙ ap (with_element f) named in
    let filled : a ≡ attrs_grown e t.attrs.items = took ∙ ap (attrs_grown e) same_attrs in
    let rows : f.rows ≡ flushed (innermost g.open_rows) (sofar g.rows waits) = ap (λ (x : Grown). x.sofar.rows) settles in
    let opens : f.open_rows ≡ g.open_rows = ap (λ (x : Grown). x.open_rows) settles in
    let none : left ≡ [] = ap (λ (x : Grown). x.sofar.waits) settles in
    let attrs = map attr_of t.attrs.items in
    (λ i. state ((ap (tags_onto []) pushed ∙ tags_push [] items t) i) (with_some rooted) (grown_of ((filled ∙ ap (λ x. attrs_grown x t.attrs.items) begun) i) (none i)))
    ∙ ap (λ r. state (tag_of t ∷ tags_onto [] items) (with_some rooted) (below (length f.rows ∷ f.open_rows) (sofar r [])))
    (append_assoc f.rows (row_of_element (innermost f.open_rows) (owned_bytes t.name) ∷ []) (map (row_of_attribute (length f.rows)) attrs))
    ∙ (λ i. state (tag_of t ∷ tags_onto [] items) (with_some rooted) (below (length (rows i) ∷ opens i) (sofar (rows i ++ tag_rows (innermost (opens i)) (length (rows i)) (tag_of t)) [])))

-- the rows end in the element that was begun
pub ends_in : (g f e : Growing) (waits left : List ℕ) (name text : List ℕ) → grown_of f left ≡ settled (grown_of g waits) → innermost g.open_rows < length g.rows → Within g.rows → text ≡ chars name → e ≡ with_element f text → EndsInElement e
ends_in g f e waits left name text settles there inside named began =
    let rows : f.rows ≡ flushed (innermost g.open_rows) (sofar g.rows waits) = ap (λ (x : Grown). x.sofar.rows) settles in
    let is : e ≡ with_element f (chars name) = began ∙ ap (with_element f) named in
    record { small = subst Within (sym rows) (within_flushed (innermost g.open_rows) (sofar g.rows waits) there inside); opened = λ none. no_cons (sym (ap (λ (x : Growing). x.open_rows) is) ∙ none); front = f.rows; parent = innermost f.open_rows; name = name; ends = ap (λ (x : Growing). x.rows) is; at = ap (λ (x : Growing). innermost x.open_rows) is }
  where
    no_cons : {n : ℕ} {ns : List ℕ} → n ∷ ns ≡ [] → ⊥
    no_cons h = cc

-- a text makes one row at most
pub settled_room : (g f : Growing) (waits left : List ℕ) → grown_of f left ≡ settled (grown_of g waits) → length f.rows ≤ length g.rows + 1
settled_room g f waits left settles =
    omega (arith, ap (λ (x : Grown). length x.sofar.rows) settles, length-append g.rows (text_rows (innermost g.open_rows) waits), text_few (innermost g.open_rows) waits)

-- an end: the text that waits, then the close
pub ends_tag : (g f c : Growing) (waits left : List ℕ) (items new : List StartTag) (rooted : Root) (t : StartTag) → grown_of f left ≡ settled (grown_of g waits) → c ≡ with_close f
    → items ≡ new ++ t ∷ [] → the_state new rooted c left ≡ closed (the_state items rooted g waits)
ends_tag g f c waits left items new rooted t settles shuts popped =
    let rows : f.rows ≡ flushed (innermost g.open_rows) (sofar g.rows waits) = ap (λ (x : Grown). x.sofar.rows) settles in
    let opens : f.open_rows ≡ g.open_rows = ap (λ (x : Grown). x.open_rows) settles in
    let none : left ≡ [] = ap (λ (x : Grown). x.sofar.waits) settles in
    let tags : without_first (tags_onto [] items) ≡ tags_onto [] new = ap without_first (ap (tags_onto []) popped ∙ tags_push [] new t) in
    (λ i. state (sym tags i) rooted (grown_of (shuts i) (none i)))
    ∙ (λ i. state (without_first (tags_onto [] items)) rooted (below (rest_of (opens i)) (sofar (rows i) [])))
    ∙ ap (λ ns. state (without_first (tags_onto [] items)) rooted (below ns (sofar (flushed (innermost g.open_rows) (sofar g.rows waits)) []))) (same_rest g.open_rows)
  where
    same_rest : (ns : List ℕ) → rest_of ns ≡ without_first ns
    same_rest [] = refl
    same_rest (n ∷ ns) = refl

pub ends_pop : (g f c : Growing) (waits left : List ℕ) (items mid new : List StartTag) (rooted flag : Root) (r : Option StartTag) (n : ℕ) → grown_of f left ≡ settled (grown_of g waits) → c ≡ with_close f
    → mid ≡ items → flag ≡ rooted → mid ≡ new ++ option_to_list r → (IsSome r ↔ (0 < n)) → 0 < n → the_state new flag c left ≡ closed (the_state items rooted g waits)
ends_pop g f c waits left items mid new rooted flag (Some t) n settles shuts same kept popped rest some =
    ap (λ b. the_state new b c left) kept ∙ ends_tag g f c waits left items new rooted t settles shuts (sym same ∙ popped)
ends_pop g f c waits left items mid new rooted flag None n settles shuts same kept popped rest some = let no : IsSome {T = StartTag} None = rest.1 some in cc

pub stays_open : (g f : Growing) (waits left : List ℕ) (items : List StartTag) (m : ℕ) → grown_of f left ≡ settled (grown_of g waits) → length g.open_rows ≡ m + length (tags_onto [] items) → 0 < length items → f.open_rows ≡ [] → ⊥
stays_open g f waits left items m settles level some none = omega (arith, ap (λ (x : Grown). length x.open_rows) settles, ap length none, level, length-tags [] items)

-- a comment: the text that waits, then its row
pub comments : (g f c : Growing) (waits left : List ℕ) (items new : List StartTag) (rooted flag : Root) (content : List ℕ) → grown_of f left ≡ settled (grown_of g waits) → c ≡ with_comment f (chars content)
    → new ≡ items → flag ≡ rooted → the_state new flag c left ≡ held (the_state items rooted g waits) (comment content)
comments g f c waits left items new rooted flag content settles told same kept =
    let rows : f.rows ≡ flushed (innermost g.open_rows) (sofar g.rows waits) = ap (λ (x : Grown). x.sofar.rows) settles in
    let opens : f.open_rows ≡ g.open_rows = ap (λ (x : Grown). x.open_rows) settles in
    let none : left ≡ [] = ap (λ (x : Grown). x.sofar.waits) settles in
    (λ i. state (tags_onto [] (same i)) (kept i) (grown_of (told i) (none i)))
    ∙ (λ i. state (tags_onto [] items) rooted (below (opens i) (sofar (rows i ++ row_of_comment (innermost (opens i)) content ∷ []) [])))
