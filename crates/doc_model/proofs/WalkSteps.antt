-- What a walk has found so far.
use Rattle.std.proofs.Common.{◌≡◌, ℕ, ◌+◌, ◌-◌, ◌<◌, ◌≤◌, List, [], ◌∷◌, ◌++◌, length, Bool, true, false, ◌&&◌, cond, refl, sym, ◌∙◌, ap, subst, arith, inl, inr, ◌⊎◌}
use Rattle.std.specs.Prelude.{filter, reverse}
use Rattle.std.specs.List.{range_with_len}
use Rattle.std.proofs.lemmas.List.{length-append, length-reverse}
use Rattle.std.proofs.lemmas.Bool.{and_left, or_left, or_right, or_from, eq-eqb, ne_eqb, false_from_ne_true}
use Rattle.doc_model.specs.declared.Axis.{Axis}
use Rattle.doc_model.specs.declared.Axis.TheVariants as axis
use Rattle.doc_model.specs.declared.NodeTest.{NodeTest}
use Rattle.doc_model.specs.Document.{Document, row, rows, below, IsDocument}
use Rattle.doc_model.specs.Axes.{on_axis, passes}
use Rattle.doc_model.specs.RowLists.{IsFront}
use Rattle.doc_model.specs.inner.Walks.{is_kept, is_upward, has_self, chosen, IsWalk, IsNext}
use Rattle.doc_model.proofs.Below.{Small, small, below_cases, below_less, below_parent, below_trans, below_line, not_up}
use Rattle.doc_model.proofs.Filters.{upto_more, upto_none, upto_all, upto_front, down_more, down_none, down_front}

-- ---- in document order

unwanted : (doc : Document) (a : Axis) (x : ℕ) (t : NodeTest) (y : ℕ) → on_axis doc a x y ≡ false → chosen doc a x t y ≡ false
unwanted doc a x t y h = and_left _ _ h

pub across_start : (doc : Document) (a : Axis) (x : ℕ) (t : NodeTest) (from to : ℕ) (hops : Bool) → IsWalk doc a x from to hops → filter (chosen doc a x t) (range_with_len 0 from) ≡ []
across_start doc a x t from to hops w = upto_none (chosen doc a x t) from (λ z l. unwanted doc a x t z (w.before z l))

pub across_more : (doc : Document) (a : Axis) (x : ℕ) (t : NodeTest) (from to : ℕ) (hops : Bool) (y r : ℕ) (wanted : Bool) → IsWalk doc a x from to hops → from ≤ y → y < to → IsNext doc hops y r
    → wanted ≡ (is_kept doc a x y && passes doc a t y) → filter (chosen doc a x t) (range_with_len 0 r) ≡ filter (chosen doc a x t) (range_with_len 0 y) ++ cond wanted (y ∷ []) []
across_more doc a x t from to hops y r wanted w h k next e =
    upto_more (chosen doc a x t) y r next.after (λ z l m. let between = next.between z l m in unwanted doc a x t z (w.over between.0 y z h k between.1))
    ∙ ap (λ b. filter (chosen doc a x t) (range_with_len 0 y) ++ cond b (y ∷ []) []) (ap (λ b. b && passes doc a t y) (w.within y h k) ∙ sym e)

pub across_all : (doc : Document) (a : Axis) (x : ℕ) (t : NodeTest) (from to : ℕ) (hops : Bool) (y : ℕ) → IsWalk doc a x from to hops → to ≤ y → y ≤ length doc
    → filter (chosen doc a x t) (range_with_len 0 y) ≡ filter (chosen doc a x t) (rows doc)
across_all doc a x t from to hops y w h k = upto_all (chosen doc a x t) y (length doc) k (λ z l m. unwanted doc a x t z (w.after z (omega (arith, l)) m))

pub across_front : (doc : Document) (a : Axis) (x : ℕ) (t : NodeTest) (y : ℕ) (out : List ℕ) → y ≤ length doc → out ≡ filter (chosen doc a x t) (range_with_len 0 y) → IsFront out (filter (chosen doc a x t) (rows doc))
across_front doc a x t y out k e = subst (λ v. IsFront v (filter (chosen doc a x t) (rows doc))) (sym e) (upto_front (chosen doc a x t) y (length doc) k)

pub one_if : (b : Bool) (xs : List ℕ) (y : ℕ) → length (xs ++ cond b (y ∷ []) []) ≡ length xs + cond b 1 0
one_if true xs y = length-append xs (y ∷ [])
one_if false xs y = length-append xs []

pub some_if : (b : Bool) → cond b 1 0 ≤ 1
some_if true = omega arith
some_if false = omega arith

-- ---- from row to parent

-- the row itself or one above it
abbrev pub IsOver : Document → ℕ → ℕ → Type 0
IsOver doc y x = (y ≡ x) ⊎ (below doc y x ≡ true)

over_parent : (doc : Document) (y x : ℕ) → Small doc → 0 < y → IsOver doc y x → below doc (row doc y).parent x ≡ true
over_parent doc y x m some (inl e) = subst (λ v. below doc (row doc y).parent v ≡ true) e (below_parent doc _ y m some refl)
over_parent doc y x m some (inr b) = below_trans doc (row doc y).parent y x m (below_parent doc _ y m some refl) b

upward_above : (doc : Document) (a : Axis) (x y : ℕ) → is_upward a ≡ true → below doc y x ≡ true → on_axis doc a x y ≡ true
upward_above doc axis.Ancestor x y u b = b
upward_above doc axis.AncestorOrSelf x y u b = or_right _ _ b
upward_above doc _ x y u b = cc

upward_self : (doc : Document) (a : Axis) (x : ℕ) → Small doc → is_upward a ≡ true → on_axis doc a x x ≡ has_self a
upward_self doc axis.Ancestor x m u = not_up doc x x m (omega arith)
upward_self doc axis.AncestorOrSelf x m u = or_left _ _ (eq-eqb x x refl)
upward_self doc _ x m u = cc

upward_other : (doc : Document) (a : Axis) (x y : ℕ) → is_upward a ≡ true → (y ≡ x → ⊥) → below doc y x ≡ false → on_axis doc a x y ≡ false
upward_other doc axis.Ancestor x y u n b = b
upward_other doc axis.AncestorOrSelf x y u n b = or_from _ _ (ne_eqb y x n) b
upward_other doc _ x y u n b = cc

pub up_start : (doc : Document) (a : Axis) (x : ℕ) (t : NodeTest) (own : Bool) → IsDocument doc → is_upward a ≡ true → x < length doc → own ≡ (has_self a && passes doc a t x)
    → reverse (filter (chosen doc a x t) (range_with_len x (length doc - x))) ≡ cond own (x ∷ []) []
up_start doc a x t own d u h e =
    let m = small doc d in
    down_none (chosen doc a x t) x (length doc) h (λ z l k. unwanted doc a x t z (upward_other doc a x z u (λ s. omega (arith, l, s)) (not_up doc z x m (omega (arith, l)))))
    ∙ ap (λ b. cond b (x ∷ []) []) (ap (λ b. b && passes doc a t x) (upward_self doc a x m u) ∙ sym e)

-- no row between a row above x and its parent is above x
pub none_above : (doc : Document) (x y z : ℕ) → Small doc → IsOver doc y x → (row doc y).parent < z → z < y → below doc z x ≡ false
none_above doc x y z m over l k = false_from_ne_true _ (λ b. against (below_cases doc z y m (up over b)))
  where
    up : IsOver doc y x → below doc z x ≡ true → below doc z y ≡ true
    up (inl e) b = subst (λ v. below doc z v ≡ true) (sym e) b
    up (inr c) b = below_line doc z y x m k b c

    against : ((row doc y).parent ≡ z) ⊎ (below doc z (row doc y).parent ≡ true) → ⊥
    against (inl e) = omega arith
    against (inr b) = let less : z < (row doc y).parent = below_less doc z (row doc y).parent m b in omega arith

pub over_within : (doc : Document) (y x : ℕ) → Small doc → IsOver doc y x → y ≤ x
over_within doc y x m (inl e) = omega arith
over_within doc y x m (inr b) = let l : y < x = below_less doc y x m b in omega arith

pub up_more : (doc : Document) (a : Axis) (x : ℕ) (t : NodeTest) (y q : ℕ) (wanted : Bool) → IsDocument doc → is_upward a ≡ true → x < length doc → IsOver doc y x → 0 < y → q ≡ (row doc y).parent
    → wanted ≡ passes doc a t q
    → reverse (filter (chosen doc a x t) (range_with_len q (length doc - q))) ≡ reverse (filter (chosen doc a x t) (range_with_len y (length doc - y))) ++ cond wanted (q ∷ []) []
up_more doc a x t y q wanted d u h over some e w =
    let m = small doc d in
    let up : (row doc y).parent < y = m y some in
    let le : y ≤ x = over_within doc y x m over in
    down_more (chosen doc a x t) q y (length doc) (omega arith) (omega arith)
    (λ z l k. unwanted doc a x t z (upward_other doc a x z u (λ s. omega (arith, l, k, s)) (none_above doc x y z m over (omega (arith, l)) k)))
    ∙ ap (λ b. reverse (filter (chosen doc a x t) (range_with_len y (length doc - y))) ++ cond b (q ∷ []) [])
    (ap (λ b. b && passes doc a t q) (upward_above doc a x q u (subst (λ v. below doc v x ≡ true) (sym e) (over_parent doc y x m some over))) ∙ sym w)

pub up_over : (doc : Document) (x y q : ℕ) → IsDocument doc → IsOver doc y x → 0 < y → q ≡ (row doc y).parent → IsOver doc q x
up_over doc x y q d over some e = inr (subst (λ v. below doc v x ≡ true) (sym e) (over_parent doc y x (small doc d) some over))

pub up_front : (doc : Document) (a : Axis) (x : ℕ) (t : NodeTest) (y : ℕ) (out : List ℕ) → y ≤ length doc → out ≡ reverse (filter (chosen doc a x t) (range_with_len y (length doc - y)))
    → IsFront out (reverse (filter (chosen doc a x t) (rows doc)))
up_front doc a x t y out k e = subst (λ v. IsFront v (reverse (filter (chosen doc a x t) (rows doc)))) (sym e) (down_front (chosen doc a x t) y (length doc) k)

pub empty_front : (xs ys : List ℕ) → xs ≡ [] → IsFront xs ys
empty_front xs ys e = (ys, ap (λ v. v ++ ys) (sym e))

-- ---- the same, counted

pub counted : (xs ys : List ℕ) (b : Bool) (y n k : ℕ) → xs ≡ ys ++ cond b (y ∷ []) [] → n ≡ length ys → k ≡ cond b 1 0 → n + k ≡ length xs
counted xs ys b y n k e h c =
    let long : length xs ≡ length ys + cond b 1 0 = ap (λ (v : List ℕ). length v) e ∙ one_if b ys y in
    omega arith

pub counted_back : (xs ys : List ℕ) (b : Bool) (y n k : ℕ) → reverse xs ≡ reverse ys ++ cond b (y ∷ []) [] → n ≡ length ys → k ≡ cond b 1 0 → n + k ≡ length xs
counted_back xs ys b y n k e h c =
    let long : length (reverse xs) ≡ length (reverse ys) + cond b 1 0 = ap (λ (v : List ℕ). length v) e ∙ one_if b (reverse ys) y in
    omega (arith, length-reverse xs, length-reverse ys)

pub counted_start : (xs : List ℕ) (b : Bool) (y k : ℕ) → reverse xs ≡ cond b (y ∷ []) [] → k ≡ cond b 1 0 → k ≡ length xs
counted_start xs b y k e c =
    let long : length (reverse xs) ≡ 0 + cond b 1 0 = ap (λ (v : List ℕ). length v) e ∙ one_if b [] y in
    omega (arith, length-reverse xs)

pub some_of : (b : Bool) (k : ℕ) → k ≡ cond b 1 0 → k ≤ 1
some_of b k e = omega (arith, some_if b)
