-- A document with one row more is a document.
use Rattle.std.proofs.Common.{◌≡◌, ℕ, zero, suc, ◌-◌, ◌<◌, ◌≤◌, List, [], ◌∷◌, ◌++◌, length, true, ◌&&◌, ◌||◌, eqb, ltb, refl, sym, ◌∙◌, ap, subst, arith, inl, inr, ◌⊎◌}
use Rattle.std.specs.Prelude.{◌≢◌}
use Rattle.std.proofs.lemmas.Bool.{or_cases, or_left, or_right, cases_lt, eqb-true, eq-eqb}
use Rattle.std.proofs.lemmas.List.{get_or_past, get_or_push, get_or_append_left, length_push}
use Rattle.doc_model.specs.declared.Kind.TheVariants.{Root, Element, Attribute, Text, Comment}
use Rattle.doc_model.specs.Document.{Row, Document, no_row, row, is_attribute_kind, below, IsLastChildBefore, IsRow, IsDocument}
use Rattle.doc_model.specs.Growing.{Growing, growing, fresh, innermost, element_row, attr_row, text_row, comment_row, with_row, with_element, with_attr, with_text, with_comment, with_close, rest_of, AwaitsAttr, AwaitsText, IsChain, IsGrowing}
use Rattle.doc_model.proofs.Below.{Small, SameBelow, small, below_same, below_parent, below_trans}

pub pushed_same : (doc : Document) (r : Row) → SameBelow (length doc) doc (doc ++ r ∷ [])
pushed_same doc r k l = get_or_append_left doc (r ∷ []) no_row k l

pub pushed_row : (doc : Document) (r : Row) → row (doc ++ r ∷ []) (length doc) ≡ r
pushed_row doc r = get_or_push doc r no_row (length doc) refl

last_same : (n : ℕ) (doc other : Document) (q i y : ℕ) → SameBelow n doc other → i ≤ n → IsLastChildBefore other q i y → IsLastChildBefore doc q i y
last_same n doc other q i y same le last = (
  ap (λ (r : Row). ltb 0 y && eqb r.parent q) (sym (same y (omega (arith, last.2)))) ∙ last.0,
  ap (λ (r : Row). is_attribute_kind r.kind) (sym (same y (omega (arith, last.2)))) ∙ last.1,
  last.2,
  λ z p a l. last.3 z (ap (λ (r : Row). ltb 0 z && eqb r.parent q) (same z (omega (arith, l))) ∙ p) (ap (λ (r : Row). is_attribute_kind r.kind) (same z (omega (arith, l))) ∙ a) l,
)

-- what holds of a row depends on the rows up to it alone
pub row_same : (n : ℕ) (doc other : Document) (i : ℕ) → Small doc → SameBelow n doc other → 0 < i → i < n → IsRow doc i → IsRow other i
row_same n doc other i m same some l r =
    let up : (row doc i).parent < i = r.parent in
    let e : row other i ≡ row doc i = same i l in
    let p : row other (row doc i).parent ≡ row doc (row doc i).parent = same (row doc i).parent (omega arith) in
    let b : row other (i - 1) ≡ row doc (i - 1) = same (i - 1) (omega arith) in
    let kind : (row other i).kind ≡ (row doc i).kind = ap (λ (r : Row). r.kind) e in
    record {
      kind = rw e r.kind;
      parent = rw e r.parent;
      owner = rw (e, p) r.owner;
      nested = rw (e, below_same n doc other (row doc i).parent (i - 1) m same (omega arith)) r.nested;
      element = rw e r.element;
      attribute = rw (e, p, b) r.attribute;
      distinct = λ h k lk a q s. r.distinct (sym kind ∙ h) k lk (sym (ap (λ (r : Row). r.kind) (same k (omega (arith, lk)))) ∙ a)
          (sym (ap (λ (r : Row). r.parent) (same k (omega (arith, lk)))) ∙ q ∙ ap (λ (r : Row). r.parent) e) (sym (ap (λ (r : Row). r.name) (same k (omega (arith, lk)))) ∙ s ∙ ap (λ (r : Row). r.name) e);
      words = λ h. let w = r.words (sym kind ∙ h) in (
        rw e w.0,
        rw e w.1,
        rw (e, p) w.2,
        λ y last t. w.3 y (last_same n doc other (row doc i).parent i y same (omega arith) (rw e at last)) (sym (ap (λ (r : Row). r.kind) (same y (omega (arith, last.2)))) ∙ t),
      );
      comment = rw e r.comment;
    }

pub document_push : (doc : Document) (r : Row) → IsDocument doc → IsRow (doc ++ r ∷ []) (length doc) → IsDocument (doc ++ r ∷ [])
document_push doc r d new = record {
  some = omega (arith, length_push doc r);
  root = pushed_same doc r 0 d.some ∙ d.root;
  rest = λ i p l. elim (cases_lt i (length doc)) [
    | inl h ↦ row_same (length doc) doc (doc ++ r ∷ []) i (small doc d) (pushed_same doc r) p h (d.rest i p h)
    | inr h ↦ (let e : length doc ≡ i = omega (arith, length_push doc r) in subst (IsRow (doc ++ r ∷ [])) e new)
  ];
}

-- ---- the open elements

pub element_within : (doc : Document) (n : ℕ) → (row doc n).kind ≡ Element → n < length doc
element_within doc n h = elim (cases_lt n (length doc)) [ inl l ↦ l | inr l ↦ absurd (let e : (row doc n).kind ≡ Root = ap (λ (r : Row). r.kind) (get_or_past doc n no_row l) in cc) ]

pub element_some : (doc : Document) (n : ℕ) → IsDocument doc → (row doc n).kind ≡ Element → 0 < n
element_some doc zero d h = absurd (let e : (row doc 0).kind ≡ Root = ap (λ (r : Row). r.kind) d.root in cc)
element_some doc (suc n) d h = omega arith

-- the innermost open element, or the root node, is a row that may have children
pub innermost_owner : (doc : Document) (ns : List ℕ) → IsDocument doc → IsChain doc ns → (innermost ns < length doc) × (((row doc (innermost ns)).kind ≡ Root) ⊎ ((row doc (innermost ns)).kind ≡ Element))
innermost_owner doc [] d h = (d.some, inl (ap (λ (r : Row). r.kind) d.root))
innermost_owner doc (n ∷ ns) d h = (element_within doc n h.0, inr h.0)

pub innermost_element : (doc : Document) (ns : List ℕ) → IsChain doc ns → ns ≢ [] → (row doc (innermost ns)).kind ≡ Element
innermost_element doc [] h some = absurd (some refl)
innermost_element doc (n ∷ ns) h some = h.0

chain_same : (doc other : Document) (ns : List ℕ) → SameBelow (length doc) doc other → IsChain doc ns → IsChain other ns
chain_same doc other [] same h = tt
chain_same doc other (n ∷ ns) same h =
    let e : row other n ≡ row doc n = same n (element_within doc n h.0) in
    (ap (λ (r : Row). r.kind) e ∙ h.0, ap (λ (r : Row). r.parent) e ∙ h.1, chain_same doc other ns same h.2)

-- ---- one row more below the innermost open element

made_at : (g : Growing) (other : Document) (r : Row) → SameBelow (length g.rows) g.rows other → row other (length g.rows) ≡ r → IsGrowing g → r.parent ≡ innermost g.open_rows → r.kind ≢ Root
    → (r.kind ≡ Element → (r.name ≢ []) × (r.text ≡ [])) → (r.kind ≡ Attribute → (r.name ≢ []) × AwaitsAttr g r.name)
    → (r.kind ≡ Text → (r.name ≡ []) × (r.text ≢ []) × AwaitsText g) → (r.kind ≡ Comment → r.name ≡ []) → IsRow other (length g.rows)
made_at g other r same e w parent kind element attribute words comment =
    let doc = g.rows in
    let n = length g.rows in
    let p = innermost g.open_rows in
    let m : Small doc = small doc w.document in
    let some : 0 < n = w.document.some in
    let within : p < n = (innermost_owner doc g.open_rows w.document w.chain).0 in
    let q : row other p ≡ row doc p = same p within in
    let b : row other (n - 1) ≡ row doc (n - 1) = same (n - 1) (omega arith) in
    record {
      kind = rw e kind;
      parent = rw (e, parent) within;
      owner = rw (e, parent, q) (innermost_owner doc g.open_rows w.document w.chain).1;
      nested = rw (e, parent, below_same n doc other p (n - 1) m same (omega arith)) w.last;
      element = rw e element;
      attribute = rw (e, parent, q, b) (λ h. let a = attribute h in (a.0, innermost_element doc g.open_rows w.chain a.1.opened, a.1.follows));
      distinct = rw (e, parent) (λ h k l a s. let o = same k l in rw o ((attribute h).1.new k l (sym (ap (λ (r : Row). r.kind) o) ∙ a) (sym (ap (λ (r : Row). r.parent) o) ∙ s)));
      words = rw (e, parent, q) (λ h. let t = words h in (
        t.0,
        t.1,
        innermost_element doc g.open_rows w.chain t.2.opened,
        λ y last k. t.2.calm y (last_same n doc other p n y same (omega arith) last) (sym (ap (λ (r : Row). r.kind) (same y last.2)) ∙ k),
      ));
      comment = rw e comment;
    }

grown_row : (g : Growing) (r : Row) → IsGrowing g → r.parent ≡ innermost g.open_rows → IsRow (g.rows ++ r ∷ []) (length g.rows) → IsGrowing (with_row g r)
grown_row g r w parent new =
    let d : IsDocument (g.rows ++ r ∷ []) = document_push g.rows r w.document new in
    let n : length (g.rows ++ r ∷ []) - 1 ≡ length g.rows = omega (arith, length_push g.rows r) in
    record {
      document = d;
      chain = chain_same g.rows (g.rows ++ r ∷ []) g.open_rows (pushed_same g.rows r) w.chain;
      last = or_right _ _ (subst (λ k. below (g.rows ++ r ∷ []) (innermost g.open_rows) k ≡ true) (sym n)
          (below_parent _ _ (length g.rows) (small _ d) w.document.some (ap (λ (s : Row). s.parent) (pushed_row g.rows r) ∙ parent)));
    }

pub grown_element : (g : Growing) (name : List ℕ) → IsGrowing g → name ≢ [] → IsGrowing (with_element g name)
grown_element g name w some =
    let r = element_row (innermost g.open_rows) name in
    let n : length (g.rows ++ r ∷ []) - 1 ≡ length g.rows = omega (arith, length_push g.rows r) in
    let new = made_at g (g.rows ++ r ∷ []) r (pushed_same g.rows r) (pushed_row g.rows r) w refl (λ h. cc) (λ h. (some, refl)) (λ h. cc) (λ h. cc) (λ h. cc) in
    let k = grown_row g r w refl new in
    record {
      document = k.document;
      chain = (ap (λ (s : Row). s.kind) (pushed_row g.rows r), ap (λ (s : Row). s.parent) (pushed_row g.rows r), k.chain);
      last = or_left _ _ (eq-eqb _ _ (sym n));
    }

pub grown_attr : (g : Growing) (name value : List ℕ) → IsGrowing g → name ≢ [] → AwaitsAttr g name → IsGrowing (with_attr g name value)
grown_attr g name value w some awaits =
    let r = attr_row (innermost g.open_rows) name value in
    grown_row g r w refl (made_at g (g.rows ++ r ∷ []) r (pushed_same g.rows r) (pushed_row g.rows r) w refl (λ h. cc) (λ h. cc) (λ h. (some, awaits)) (λ h. cc) (λ h. cc))

pub grown_text : (g : Growing) (text : List ℕ) → IsGrowing g → text ≢ [] → AwaitsText g → IsGrowing (with_text g text)
grown_text g text w some awaits =
    let r = text_row (innermost g.open_rows) text in
    grown_row g r w refl (made_at g (g.rows ++ r ∷ []) r (pushed_same g.rows r) (pushed_row g.rows r) w refl (λ h. cc) (λ h. cc) (λ h. cc) (λ h. (refl, some, awaits)) (λ h. cc))

pub grown_comment : (g : Growing) (text : List ℕ) → IsGrowing g → IsGrowing (with_comment g text)
grown_comment g text w =
    let r = comment_row (innermost g.open_rows) text in
    grown_row g r w refl (made_at g (g.rows ++ r ∷ []) r (pushed_same g.rows r) (pushed_row g.rows r) w refl (λ h. cc) (λ h. cc) (λ h. cc) (λ h. cc) (λ h. refl))

-- what is at a row or below it is below the row's parent
pub above_last : (doc : Document) (n e : ℕ) → Small doc → 0 < n → ((eqb n e) || below doc n e) ≡ true → below doc (row doc n).parent e ≡ true
above_last doc n e m some h = elim (or_cases _ _ h) [
  | inl s ↦ subst (λ v. below doc (row doc n).parent v ≡ true) (eqb-true _ _ s) (below_parent doc _ n m some refl)
  | inr b ↦ below_trans doc (row doc n).parent n e m (below_parent doc _ n m some refl) b
]

closed : (rows : Document) (ns : List ℕ) → ns ≢ [] → IsGrowing (growing rows ns) → IsGrowing (growing rows (rest_of ns))
closed rows [] some w = absurd (some refl)
closed rows (n ∷ ns) some w = record {
  document = w.document;
  chain = w.chain.2;
  last = or_right _ _ (subst (λ v. below rows v (length rows - 1) ≡ true) w.chain.1 (above_last rows n (length rows - 1) (small rows w.document) (element_some rows n w.document w.chain.0) w.last));
}

pub grown_close : (g : Growing) → IsGrowing g → g.open_rows ≢ [] → IsGrowing (with_close g)
grown_close g w some = closed g.rows g.open_rows some w

pub grown_fresh : IsGrowing fresh
grown_fresh = record {
  document = record { some = omega arith; root = refl; rest = λ i p l. absurd (omega arith) };
  chain = tt;
  last = refl;
}
