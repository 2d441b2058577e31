-- The last row that passes a test: the first of the rows turned round.
use Rattle.std.proofs.Common.{◌≡◌, ◌≢◌, refl, ℕ, zero, suc, ◌+◌, ◌<◌, ◌≤◌, Bool, true, false, ◌&&◌, ◌||◌, not, cond, eqb, ltb, List, [], ◌∷◌, ◌++◌, length, ap, sym, ◌∙◌, filter, reverse, arith, ◌⊎◌, inl, inr, lt-ltb}
use Rattle.std.specs.List.{list_any, range_with_len}
use Rattle.std.proofs.lemmas.List.{reverse-append}
use Rattle.std.proofs.lemmas.Bool.{or_parts, eqb-true, le-ltb, false_from_ne_true}
use Rattle.std.proofs.lemmas.Bool.Decides.{eqb_tells}
use Rattle.doc_model.specs.Document.{Document, rows}
use Rattle.css_meaning.proofs.ListTests as lists
use Rattle.css_meaning.proofs.Finding.{found as found_among}
use Rattle.xpath_parser.specs.Conversions.{is_any}
use Rattle.xpath_parser.specs.Denote.{has}
use Rattle.css_printed.proofs.MeansValues.{any_kept}
use Rattle.css_printed.proofs.LinksNext.{first_of}

-- ---- the last of a list

abbrev pub last_of : List ℕ → List ℕ
last_of [] = []
last_of (x ∷ xs) = cond (is_any xs) (last_of xs) (x ∷ [])

any_append : (ys : List ℕ) (x : ℕ) → is_any (ys ++ x ∷ []) ≡ true
any_append [] x = refl
any_append (y ∷ ys) x = refl

any_reversed : (xs : List ℕ) → is_any (reverse xs) ≡ is_any xs
any_reversed [] = refl
any_reversed (x ∷ xs) = ap is_any (reverse-append (x ∷ []) xs) ∙ any_append (reverse xs) x

first_append : (ys : List ℕ) (x : ℕ) → first_of (ys ++ x ∷ []) ≡ cond (is_any ys) (first_of ys) (x ∷ [])
first_append [] x = refl
first_append (y ∷ ys) x = refl

-- the first of the turned list
pub first_reversed : (xs : List ℕ) → first_of (reverse xs) ≡ last_of xs
first_reversed [] = refl
first_reversed (x ∷ xs) =
    ap first_of (reverse-append (x ∷ []) xs) ∙ first_append (reverse xs) x
    ∙ ap (λ b. cond b (first_of (reverse xs)) (x ∷ [])) (any_reversed xs) ∙ ap (λ r. cond (is_any xs) r (x ∷ [])) (first_reversed xs)

none_below : (a n y : ℕ) → y ≤ a → has y (range_with_len (a + 1) n) ≡ false
none_below a n y h = false_from_ne_true _ (λ t.
    let w : (z : ℕ) × (a + 1 ≤ z) × (z < a + 1 + n) × (eqb z y ≡ true) = found_among (λ z. eqb z y) (a + 1) n t in
    let same : w.0 ≡ y = eqb-true w.0 y w.3 in omega (arith, w.1))

above : (a n y : ℕ) → has y (range_with_len (a + 1) n) ≡ true → a < y
above a n y t =
    let w : (z : ℕ) × (a + 1 ≤ z) × (z < a + 1 + n) × (eqb z y ≡ true) = found_among (λ z. eqb z y) (a + 1) n t in
    let same : w.0 ≡ y = eqb-true w.0 y w.3 in omega (arith, w.1)

-- all of them are above
all_above : (p : ℕ → Bool) (a n y : ℕ) → y < a → list_any (λ z. p z && ltb y z) (range_with_len a n) ≡ list_any p (range_with_len a n)
all_above p a zero y h = refl
all_above p a (suc n) y h =
    ap (λ b. (p a && b) || list_any (λ z. p z && ltb y z) (range_with_len (a + 1) n)) (lt-ltb y a h)
    ∙ ap (λ b. b || list_any (λ z. p z && ltb y z) (range_with_len (a + 1) n)) (lists.and_true (p a))
    ∙ ap (λ b. p a || b) (all_above p (a + 1) n y (omega arith))

-- fewer pass two tests
fewer : (p q : ℕ → Bool) (xs : List ℕ) → list_any p xs ≡ false → list_any (λ z. p z && q z) xs ≡ false
fewer p q [] h = refl
fewer p q (x ∷ xs) h =
    let parts : (p x ≡ false) × (list_any p xs ≡ false) = or_parts (p x) (list_any p xs) h in
    ap (λ b. (b && q x) || list_any (λ z. p z && q z) xs) parts.0 ∙ fewer p q xs parts.1

one_passes : (p : ℕ → Bool) (xs : List ℕ) (y : ℕ) → list_any p xs ≡ false → (p y && has y xs) ≡ false
one_passes p xs y h = sym (lists.any_one p xs y) ∙ fewer p (λ x. eqb x y) xs h

-- a at the front, which passes
here_last : (py m h : Bool) → m ≡ true → h ≡ false → ((py && not m) && h) ≡ ((true && not (false || m)) && (true || h))
here_last py m h a b = rw (a, b) (lists.and_false (py && false))

behind : (py l m h : Bool) → (h ≡ true → l ≡ false) → ((py && not m) && h) ≡ ((py && not ((true && l) || m)) && (false || h))
behind py l m true k = rw (k refl) refl
behind py l m false k = lists.and_false (py && not m) ∙ sym (lists.and_false _)

alone_here : (m h : Bool) → m ≡ false → (true || false) ≡ ((true && not (false || m)) && (true || h))
alone_here m h a = rw a refl

alone_behind : (py l m h : Bool) → (py && h) ≡ false → (false || false) ≡ ((py && not ((true && l) || m)) && (false || h))
alone_behind true l m h a = rw a (sym (lists.and_false _))
alone_behind false l m h a = refl

le_same : (a y : ℕ) → a ≡ y → ltb y a ≡ false
le_same a y e = le-ltb y a (omega arith)

last_true : (p : ℕ → Bool) (a n y : ℕ) (k : Bool) → p a ≡ true → list_any p (range_with_len (a + 1) n) ≡ k → ((eqb a y ≡ true) × (a ≡ y)) ⊎ ((eqb a y ≡ false) × (a ≢ y))
    → has y (last_of (filter p (range_with_len (a + 1) n))) ≡ ((p y && not (list_any (λ z. p z && ltb y z) (range_with_len (a + 1) n))) && has y (range_with_len (a + 1) n))
    → has y (cond k (last_of (filter p (range_with_len (a + 1) n))) (a ∷ []))
    ≡ ((p y && not ((true && ltb y a) || list_any (λ z. p z && ltb y z) (range_with_len (a + 1) n))) && (eqb a y || has y (range_with_len (a + 1) n)))
last_true p a n y true h any (inl same) more =
    let py : p y ≡ true = ap p (sym same.1) ∙ h in
    let e : a ≡ y = same.1 in
    more ∙ here_last (p y) _ (has y (range_with_len (a + 1) n)) (all_above p (a + 1) n y (omega arith) ∙ any) (none_below a n y (omega arith))
    ∙ ap (λ b. (b && not (false || list_any (λ z. p z && ltb y z) (range_with_len (a + 1) n))) && (true || has y (range_with_len (a + 1) n))) (sym py)
    ∙ ap (λ b. (p y && not ((true && b) || list_any (λ z. p z && ltb y z) (range_with_len (a + 1) n))) && (true || has y (range_with_len (a + 1) n))) (sym (le_same a y e))
    ∙ ap (λ b. (p y && not ((true && ltb y a) || list_any (λ z. p z && ltb y z) (range_with_len (a + 1) n))) && (b || has y (range_with_len (a + 1) n))) (sym same.0)
last_true p a n y true h any (inr other) more =
    more ∙ behind (p y) (ltb y a) _ (has y (range_with_len (a + 1) n)) (λ t. le-ltb y a (let l : a < y = above a n y t in omega arith))
    ∙ ap (λ b. (p y && not ((true && ltb y a) || list_any (λ z. p z && ltb y z) (range_with_len (a + 1) n))) && (b || has y (range_with_len (a + 1) n))) (sym other.0)
last_true p a n y false h none (inl same) more =
    let py : p y ≡ true = ap p (sym same.1) ∙ h in
    let e : a ≡ y = same.1 in
    ap (λ b. b || false) same.0 ∙ alone_here _ (has y (range_with_len (a + 1) n)) (fewer p (λ z. ltb y z) (range_with_len (a + 1) n) none)
    ∙ ap (λ b. (b && not (false || list_any (λ z. p z && ltb y z) (range_with_len (a + 1) n))) && (true || has y (range_with_len (a + 1) n))) (sym py)
    ∙ ap (λ b. (p y && not ((true && b) || list_any (λ z. p z && ltb y z) (range_with_len (a + 1) n))) && (true || has y (range_with_len (a + 1) n))) (sym (le_same a y e))
    ∙ ap (λ b. (p y && not ((true && ltb y a) || list_any (λ z. p z && ltb y z) (range_with_len (a + 1) n))) && (b || has y (range_with_len (a + 1) n))) (sym same.0)
last_true p a n y false h none (inr other) more =
    ap (λ b. b || false) other.0 ∙ alone_behind (p y) (ltb y a) _ (has y (range_with_len (a + 1) n)) (one_passes p (range_with_len (a + 1) n) y none)
    ∙ ap (λ b. (p y && not ((true && ltb y a) || list_any (λ z. p z && ltb y z) (range_with_len (a + 1) n))) && (b || has y (range_with_len (a + 1) n))) (sym other.0)

last_at : (p : ℕ → Bool) (a n y : ℕ) (b : Bool) → p a ≡ b → ((eqb a y ≡ true) × (a ≡ y)) ⊎ ((eqb a y ≡ false) × (a ≢ y))
    → has y (last_of (filter p (range_with_len (a + 1) n))) ≡ ((p y && not (list_any (λ z. p z && ltb y z) (range_with_len (a + 1) n))) && has y (range_with_len (a + 1) n))
    → has y (last_of (cond b (a ∷ filter p (range_with_len (a + 1) n)) (filter p (range_with_len (a + 1) n))))
    ≡ ((p y && not ((b && ltb y a) || list_any (λ z. p z && ltb y z) (range_with_len (a + 1) n))) && (eqb a y || has y (range_with_len (a + 1) n)))
last_at p a n y true h side more =
    ap (λ k. has y (cond k (last_of (filter p (range_with_len (a + 1) n))) (a ∷ []))) (any_kept p (range_with_len (a + 1) n))
    ∙ last_true p a n y (list_any p (range_with_len (a + 1) n)) h refl side more
last_at p a n y false h (inl same) more =
    let no : p y ≡ false = ap p (sym same.1) ∙ h in
    more ∙ ap (λ b. (b && not (list_any (λ z. p z && ltb y z) (range_with_len (a + 1) n))) && has y (range_with_len (a + 1) n)) no
    ∙ ap (λ b. (b && not (list_any (λ z. p z && ltb y z) (range_with_len (a + 1) n))) && (eqb a y || has y (range_with_len (a + 1) n))) (sym no)
last_at p a n y false h (inr other) more =
    more ∙ ap (λ b. (p y && not (list_any (λ z. p z && ltb y z) (range_with_len (a + 1) n))) && (b || has y (range_with_len (a + 1) n))) (sym other.0)

has_last_from : (p : ℕ → Bool) (a n y : ℕ)
    → has y (last_of (filter p (range_with_len a n))) ≡ ((p y && not (list_any (λ z. p z && ltb y z) (range_with_len a n))) && has y (range_with_len a n))
has_last_from p a zero y = sym (lists.and_false (p y && true))
has_last_from p a (suc n) y = last_at p a n y (p a) refl (eqb_tells a y) (has_last_from p (a + 1) n y)

-- a row is the last that passes where it passes and none behind it does
pub has_last : (doc : Document) (p : ℕ → Bool) (y : ℕ) → has y (rows doc) ≡ true
    → has y (last_of (filter p (rows doc))) ≡ (p y && not (list_any (λ z. p z && ltb y z) (rows doc)))
has_last doc p y among = has_last_from p 0 (length doc) y ∙ ap (λ b. (p y && not (list_any (λ z. p z && ltb y z) (rows doc))) && b) among ∙ lists.and_true _
