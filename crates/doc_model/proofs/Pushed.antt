-- Rows that are kept: one more, or one closed.
use Rattle.std.proofs.Common.{◌≡◌, ℕ, zero, suc, ◌+◌, ◌-◌, ◌^◌, ◌<◌, List, [], ◌∷◌, ◌++◌, length, Bool, true, false, map, get_or, set, take, refl, sym, ◌∙◌, ap, subst, arith, if◌then◌else◌}
use Rattle.std.specs.Prelude.{◌≢◌, reverse}
use Rattle.std.proofs.lemmas.List.{map_push, length-map, length_push, reverse-append, take_at, length-set}
use Rattle.doc_model.specs.declared.Kind.{Kind}
use Rattle.doc_model.specs.declared.Kind.TheVariants.{Element}
use Rattle.doc_model.specs.Document.{Row, no_row, IsDocument}
use Rattle.doc_model.specs.Growing.{Growing, growing, innermost, rest_of, element_row, text_row, comment_row, with_row, with_element, with_close, AwaitsText, IsGrowing}
use Rattle.doc_model.specs.KeptRows.{Kept, rows_of, ends_of, growing_of, AreEnds}
use Rattle.doc_model.proofs.Grown.{grown_element, grown_text, grown_comment}
use Rattle.doc_model.proofs.Ending.{leaf_ends, element_ends, close_ends}

rows_pushed : (old : List Kept) (r : Kept) → rows_of (old ++ r ∷ []) ≡ rows_of old ++ r.row ∷ []
rows_pushed old r = ap (λ rows. no_row ∷ rows) (map_push (λ (r : Kept). r.row) old r)

ends_pushed : (old : List Kept) (r : Kept) → ends_of (old ++ r ∷ []) ≡ ends_of old ++ r.end ∷ []
ends_pushed old r = map_push (λ (r : Kept). r.end) old r

long : (rows : List Kept) → length (rows_of rows) ≡ length (ends_of rows) + 1
long rows = omega (arith, length-map rows (λ (r : Kept). r.row), length-map rows (λ (r : Kept). r.end))

-- the parent, as it is asked and as it is kept
pub same_leaf : (g : Growing) (kind : Kind) (name text : List ℕ) (parent p : ℕ) → parent ≡ p → IsGrowing (with_row g (record { kind = kind; name = name; text = text; parent = p }))
    → IsGrowing (with_row g (record { kind = kind; name = name; text = text; parent = parent }))
same_leaf g kind name text parent p q w = rw q w

pub leaf_growing : (old new : List Kept) (r : Kept) (b : Bool) (unclosed : List ℕ) → new ≡ (if b then old ++ r ∷ [] else old) → IsGrowing (growing_of old unclosed)
    → IsGrowing (with_row (growing_of old unclosed) (r.row)) → IsGrowing (growing_of new unclosed)
leaf_growing old new r true unclosed e w more = subst (λ rows. IsGrowing (growing_of rows unclosed)) (sym e) (subst (λ doc. IsGrowing (growing doc (reverse unclosed))) (sym (rows_pushed old r)) more)
leaf_growing old new r false unclosed e w more = subst (λ rows. IsGrowing (growing_of rows unclosed)) (sym e) w

pub leaf_keeps : (old new : List Kept) (r : Kept) (b : Bool) (unclosed : List ℕ) → new ≡ (if b then old ++ r ∷ [] else old) → IsGrowing (growing_of old unclosed)
    → IsGrowing (with_row (growing_of old unclosed) (r.row)) → r.row.parent ≡ innermost (reverse unclosed) → r.end ≡ length old + 1 + 1
    → AreEnds (rows_of old) (reverse unclosed) (ends_of old) → AreEnds (rows_of new) (reverse unclosed) (ends_of new)
leaf_keeps old new r true unclosed e w more parent end are =
    let after : r.end ≡ length (rows_of old) + 1 = omega (arith, end, length-map old (λ (r : Kept). r.row)) in
    subst (λ rows. AreEnds (rows_of rows) (reverse unclosed) (ends_of rows)) (sym e) (
    subst (λ doc. AreEnds doc (reverse unclosed) (ends_of (old ++ r ∷ []))) (sym (rows_pushed old r)) (
    subst (λ ends. AreEnds (rows_of old ++ r.row ∷ []) (reverse unclosed) ends) (sym (ends_pushed old r))
    (leaf_ends (rows_of old) (r.row) (reverse unclosed) (ends_of old) r.end w.document more.document w.chain parent (long old) after are)
    )
    )
leaf_keeps old new r false unclosed e w more parent end are = subst (λ rows. AreEnds (rows_of rows) (reverse unclosed) (ends_of rows)) (sym e) are

-- an element more, which is open
opened : (unclosed : List ℕ) (at : ℕ) → reverse (unclosed ++ at ∷ []) ≡ at ∷ reverse unclosed
opened unclosed at = reverse-append unclosed (at ∷ [])

pub same_element : (name text : List ℕ) (parent p : ℕ) → parent ≡ p → text ≡ [] → record (element_row parent name) { text = text } ≡ element_row p name
same_element name text parent p q t = λ i. record { kind = Element; name = name; text = t i; parent = q i }

element_growing : (old : List Kept) (r : Kept) (unclosed : List ℕ) (at : ℕ) (wanted : List ℕ) → r.row ≡ element_row (innermost (reverse unclosed)) wanted → at ≡ length old + 1
    → growing_of (old ++ r ∷ []) (unclosed ++ at ∷ []) ≡ with_element (growing_of old unclosed) wanted
element_growing old r unclosed at wanted q a =
    let n : at ≡ length (rows_of old) = omega (arith, a, length-map old (λ (r : Kept). r.row)) in
    (λ i. growing (rows_pushed old r i) (opened unclosed at i)) ∙ (λ i. growing (rows_of old ++ q i ∷ []) (n i ∷ reverse unclosed))

pub element_made : (old new : List Kept) (r : Kept) (unclosed next : List ℕ) (at : ℕ) (wanted : List ℕ) → new ≡ old ++ r ∷ [] → next ≡ unclosed ++ at ∷ [] → r.row ≡ element_row (innermost (reverse unclosed)) wanted
    → at ≡ length old + 1 → wanted ≢ [] → IsGrowing (growing_of old unclosed) → IsGrowing (growing_of new next)
element_made old new r unclosed next at wanted e f q a some w =
    subst IsGrowing (sym ((λ i. growing_of (e i) (f i)) ∙ element_growing old r unclosed at wanted q a)) (grown_element (growing_of old unclosed) wanted w some)

pub element_keeps : (old new : List Kept) (r : Kept) (unclosed next : List ℕ) (at : ℕ) (wanted : List ℕ) → new ≡ old ++ r ∷ [] → next ≡ unclosed ++ at ∷ [] → r.row ≡ element_row (innermost (reverse unclosed)) wanted
    → at ≡ length old + 1 → wanted ≢ [] → IsGrowing (growing_of old unclosed) → AreEnds (rows_of old) (reverse unclosed) (ends_of old) → AreEnds (rows_of new) (reverse next) (ends_of new)
element_keeps old new r unclosed next at wanted e f q a some w are =
    let n : length (rows_of old) ≡ at = omega (arith, a, length-map old (λ (r : Kept). r.row)) in
    let more : IsDocument (rows_of old ++ r.row ∷ []) = subst (λ s. IsDocument (rows_of old ++ s ∷ [])) (sym q) (grown_element (growing_of old unclosed) wanted w some).document in
    let all : AreEnds (rows_of old ++ r.row ∷ []) (length (rows_of old) ∷ reverse unclosed) (ends_of old ++ r.end ∷ []) =
    element_ends (rows_of old) (r.row) (reverse unclosed) (ends_of old) r.end w.document more w.chain (ap (λ (s : Row). s.parent) q) (long old) are in
    let doc : rows_of old ++ r.row ∷ [] ≡ rows_of new = sym (ap rows_of e ∙ rows_pushed old r) in
    let opens : length (rows_of old) ∷ reverse unclosed ≡ reverse next = ap (λ k. k ∷ reverse unclosed) n ∙ sym (ap (λ (v : List ℕ). reverse v) f ∙ opened unclosed at) in
    let ends : ends_of old ++ r.end ∷ [] ≡ ends_of new = sym (ap ends_of e ∙ ends_pushed old r) in
    subst (λ d. AreEnds d (reverse next) (ends_of new)) doc (subst (λ o. AreEnds (rows_of old ++ r.row ∷ []) o (ends_of new)) opens (subst (λ v. AreEnds (rows_of old ++ r.row ∷ []) (length (rows_of old) ∷ reverse unclosed) v) ends all))

-- an element that was pushed, and taken back
pub taken_back : (unclosed pushed popped : List ℕ) (at n : ℕ) → pushed ≡ unclosed ++ at ∷ [] → popped ≡ take (n - 1) pushed → n ≡ length pushed → popped ≡ unclosed
taken_back unclosed pushed popped at n e f l =
    let m : length unclosed ≡ n - 1 = omega (arith, l, ap (λ (v : List ℕ). length v) e, length_push unclosed at) in
    f ∙ ap (take (n - 1)) e ∙ take_at unclosed (at ∷ []) (n - 1) m

-- rows with the empty name
pub text_kept : (g : Growing) (name text : List ℕ) → name ≡ [] → text ≢ [] → AwaitsText g → IsGrowing g → IsGrowing (with_row g (record (text_row (innermost g.open_rows) text) { name = name }))
text_kept g name text n some awaits w = rw n (grown_text g text w some awaits)

pub comment_kept : (g : Growing) (name text : List ℕ) → name ≡ [] → IsGrowing g → IsGrowing (with_row g (record (comment_row (innermost g.open_rows) text) { name = name }))
comment_kept g name text n w = rw n (grown_comment g text w)

-- the innermost element closed

-- a row that was read, as it is kept
pub same_row : (rows : List Kept) (k : ℕ) (read r : Kept) → r ≡ read → read ≡ get_or rows k read → r ≡ get_or rows k r
same_row rows k read r e same = subst (λ v. v ≡ get_or rows k v) (sym e) same

pub rows_closed : (rows : List Kept) (k e : ℕ) (r : Kept) → r ≡ get_or rows k r → map (λ (r : Kept). r.row) (set rows k (record r { end = e })) ≡ map (λ (r : Kept). r.row) rows
rows_closed [] k e r same = refl
rows_closed (x ∷ xs) zero e r same = ap (λ q. q.row ∷ map (λ (r : Kept). r.row) xs) same
rows_closed (x ∷ xs) (suc k) e r same = ap (λ q. x.row ∷ q) (rows_closed xs k e r same)

ends_closed : (rows : List Kept) (k e : ℕ) (r : Kept) → ends_of (set rows k (record r { end = e })) ≡ set (ends_of rows) k e
ends_closed [] k e r = refl
ends_closed (x ∷ xs) zero e r = refl
ends_closed (x ∷ xs) (suc k) e r = ap (λ q. x.end ∷ q) (ends_closed xs k e r)

pub closed_growing : (rows : List Kept) (old new : List ℕ) (n e : ℕ) (r : Kept) → old ≡ new ++ n ∷ [] → r ≡ get_or rows (n - 1) r → growing_of (set rows (n - 1) (record r { end = e })) new ≡ with_close (growing_of rows old)
closed_growing rows old new n e r o same =
    ap (λ q. growing (no_row ∷ q) (reverse new)) (rows_closed rows (n - 1) e r same)
    ∙ ap (λ ns. growing (rows_of rows) (rest_of ns)) (sym (ap (λ (v : List ℕ). reverse v) o ∙ opened new n))

pub closed_keeps : (rows : List Kept) (old new : List ℕ) (n e : ℕ) (r : Kept) → old ≡ new ++ n ∷ [] → r ≡ get_or rows (n - 1) r → e ≡ length rows + 1 → IsGrowing (growing_of rows old)
    → AreEnds (rows_of rows) (reverse old) (ends_of rows) → AreEnds (rows_of (set rows (n - 1) (record r { end = e }))) (reverse new) (ends_of (set rows (n - 1) (record r { end = e })))
closed_keeps rows old new n e r o same here w are =
    let ns : reverse old ≡ n ∷ reverse new = ap (λ (v : List ℕ). reverse v) o ∙ opened new n in
    let len : length (rows_of rows) ≡ e = omega (arith, here, length-map rows (λ (r : Kept). r.row)) in
    subst (λ q. AreEnds (no_row ∷ q) (reverse new) (ends_of (set rows (n - 1) (record r { end = e })))) (sym (rows_closed rows (n - 1) e r same)) (
    subst (λ ends. AreEnds (rows_of rows) (reverse new) ends) (sym (ends_closed rows (n - 1) e r)) (
    subst (λ v. AreEnds (rows_of rows) (reverse new) (set (ends_of rows) (n - 1) v)) len
    (close_ends (rows_of rows) n (reverse new) (ends_of rows) (subst (λ v. IsGrowing (growing (rows_of rows) v)) ns w) (long rows) (subst (λ v. AreEnds (rows_of rows) v (ends_of rows)) ns are))
    )
    )

pub closed_small : (rows : List Kept) (k : ℕ) (r : Kept) → length rows + 1 < 2 ^ 32 → length (set rows k r) + 1 < 2 ^ 32
closed_small rows k r h = omega (arith, h, length-set rows k r)
