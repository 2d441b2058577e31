-- An ascending list is the filter of all rows by its members.
use Rattle.std.proofs.Common.{◌≡◌, refl, sym, ◌∙◌, ap, subst, ℕ, zero, suc, ◌+◌, ◌-◌, ◌<◌, ◌≤◌, Bool, true, false, ◌||◌, ◌==◌, eqb, cond, List, [], ◌∷◌, ◌++◌, arith}
use Rattle.std.specs.List.{list_any, range_with_len}
use Rattle.std.specs.Prelude.{filter}
use Rattle.std.proofs.lemmas.Bool.Decides.{nat_tests}
use Rattle.std.proofs.lemmas.List.Folds.{list_any-append}
use Rattle.std.proofs.lemmas.List.Elements.{filter-append}
use Rattle.std.proofs.Common.{◌⊎◌, inl, inr, length, take, drop, get_or, nat_lt}
use Rattle.std.proofs.Common.{length-drop, append_assoc, Result, Ok, Err}
use Rattle.std.specs.Prelude.{OnErr, ◌≢◌, IsTrue}
use Rattle.std.proofs.Math.Seq.{drop-cons, drop-length, take-length}
use Rattle.std.proofs.Math.Bool.{or-false}
use Rattle.std.proofs.lemmas.List.{append-nil, take_more}
use Rattle.doc_model.specs.RowLists.{has, Run, in_either, in_any, IsFront, EachIsRun}
use Rattle.doc_model.specs.inner.Merging.{Follows, taken, taken_by}

pub run_le : (low high : ℕ) (xs : List ℕ) → Run low high xs → low ≤ high
run_le low high [] r = r
run_le low high (x ∷ xs) r = let i = run_le (suc x) high xs r.1 in omega (arith, r.0, i)

pub run_lower : (low lower high : ℕ) (xs : List ℕ) → lower ≤ low → Run low high xs → Run lower high xs
run_lower low lower high [] h r = omega (arith, h, r)
run_lower low lower high (x ∷ xs) h r = (omega (arith, h, r.0), r.1)

pub run_higher : (low high higher : ℕ) (xs : List ℕ) → high ≤ higher → Run low high xs → Run low higher xs
run_higher low high higher [] h r = omega (arith, h, r)
run_higher low high higher (x ∷ xs) h r = (r.0, run_higher (suc x) high higher xs h r.1)

pub run_append : (low mid high : ℕ) (xs ys : List ℕ) → Run low mid xs → Run mid high ys → Run low high (xs ++ ys)
run_append low mid high [] ys r q = run_lower mid low high ys r q
run_append low mid high (x ∷ xs) ys r q = (r.0, run_append (suc x) mid high xs ys r.1 q)

differs : (x y : ℕ) → y < x → eqb x y ≡ false
differs x y h = grind (arith, nat_tests)

same : (x y : ℕ) → eqb x y ≡ true → x ≡ y
same x y h = grind (arith, nat_tests)

before : (x y : ℕ) → eqb x y ≡ false → y ≤ x → y < x
before x y h le = grind (arith, nat_tests)

pub not_below : (y low high : ℕ) (xs : List ℕ) → y < low → Run low high xs → has y xs ≡ false
not_below y low high [] h r = refl
not_below y low high (x ∷ xs) h r =
    ap (λ b. b || has y xs) (differs x y (omega (arith, h, r.0))) ∙ not_below y (suc x) high xs (omega (arith, h, r.0)) r.1

pub same_filter : (p q : ℕ → Bool) (n low : ℕ) → ((y : ℕ) → low ≤ y → p y ≡ q y) → filter p (range_with_len low n) ≡ filter q (range_with_len low n)
same_filter p q zero low h = refl
same_filter p q (suc n) low h =
    ap (λ b. cond b (low ∷ filter p (range_with_len (low + 1) n)) (filter p (range_with_len (low + 1) n))) (h low (omega arith))
    ∙ ap (λ r. cond (q low) (low ∷ r) r) (same_filter p q n (low + 1) (λ y i. h y (omega (arith, i))))

differs_after : (x y : ℕ) → x < y → eqb x y ≡ false
differs_after x y h = grind (arith, nat_tests)

canonical_at : (x low : ℕ) (xs rest : List ℕ) (b : Bool) → eqb x low ≡ b → (b ≡ true → rest ≡ xs) → (b ≡ false → (has low xs ≡ false) × (rest ≡ x ∷ xs)) → cond (b || has low xs) (low ∷ rest) rest ≡ x ∷ xs
canonical_at x low xs rest true e f g = ap (λ r. low ∷ r) (f refl) ∙ ap (λ v. v ∷ xs) (sym (same x low e))
canonical_at x low xs rest false e f g = ap (λ b. cond b (low ∷ rest) rest) (g refl).0 ∙ (g refl).1

-- an ascending list is the filter of the rows by its members
pub canonical : (n low high : ℕ) (xs : List ℕ) → high ≡ low + n → Run low high xs → filter (λ y. has y xs) (range_with_len low n) ≡ xs
canonical zero low high [] i r = refl
canonical zero low high (x ∷ xs) i r = absurd (omega (arith, i, r.0, run_le (suc x) high xs r.1))
canonical (suc n) low high [] i r = canonical n (low + 1) (low + 1 + n) [] refl (omega arith)
canonical (suc n) low high (x ∷ xs) i r =
    canonical_at x low xs (filter (λ y. has y (x ∷ xs)) (range_with_len (low + 1) n)) (eqb x low) refl
    (λ e. same_filter (λ y. has y (x ∷ xs)) (λ y. has y xs) n (low + 1) (λ y l. ap (λ b. b || has y xs) (differs_after x y (omega (arith, l, same x low e))))
    ∙ canonical n (low + 1) high xs (omega (arith, i)) (run_lower (suc x) (low + 1) high xs (omega (arith, r.0)) r.1))
    (λ e. let up : low < x = before x low e r.0 in
    (not_below low (suc x) high xs (omega (arith, up)) r.1, canonical n (low + 1) high (x ∷ xs) (omega (arith, i)) ((omega (arith, up), r.1))))

-- an ascending list with these members is the filter of all rows
pub gathered : (n : ℕ) (xs : List ℕ) (p : ℕ → Bool) → Run 0 n xs → ((y : ℕ) → has y xs ≡ p y) → xs ≡ filter p (range_with_len 0 n)
gathered n xs p r h = sym (canonical n 0 n xs (omega arith) r) ∙ same_filter (λ y. has y xs) p n 0 (λ y _. h y)

pub has_append : (y : ℕ) (xs ys : List ℕ) → has y (xs ++ ys) ≡ (has y xs || has y ys)
has_append y xs ys = list_any-append (λ x. x == y) xs ys

-- ---- merging

-- what stands in `out` ends before what is left of both lists
abbrev pub Merging : ℕ → List ℕ → List ℕ → List ℕ → Type 0
Merging n out ra rb = (m : ℕ) × Run 0 m out × Run m n ra × Run m n rb

abbrev pub SameRows : List ℕ → List ℕ → List ℕ → List ℕ → List ℕ → Type 0
SameRows a b out ra rb = (y : ℕ) → (has y out || (has y ra || has y rb)) ≡ (has y a || has y b)

pub record Merged (a b out ra rb : List ℕ) : Type 0 where
  pub rows : SameRows a b out ra rb
  pub order : (n : ℕ) → Run 0 n a → Run 0 n b → Merging n out ra rb

from_left : (o e p q : Bool) → ((o || (e || false)) || (p || q)) ≡ (o || ((e || p) || q))
from_left true e p q = refl
from_left false true p q = refl
from_left false false p q = refl

from_right : (o e p q : Bool) → ((o || (e || false)) || (p || q)) ≡ (o || (p || (e || q)))
from_right true e p q = refl
from_right false true true q = refl
from_right false true false q = refl
from_right false false p q = refl

from_both : (o e p q : Bool) → ((o || (e || false)) || (p || q)) ≡ (o || ((e || p) || (e || q)))
from_both true e p q = refl
from_both false true p q = refl
from_both false false p q = refl

pub take_left : (a b out ra rb : List ℕ) (x y : ℕ) → x < y → Merged a b out (x ∷ ra) (y ∷ rb) → Merged a b (out ++ x ∷ []) ra (y ∷ rb)
take_left a b out ra rb x y less m = record {
  rows = λ z. ap (λ o. o || (has z ra || has z (y ∷ rb))) (has_append z out (x ∷ [])) ∙ from_left (has z out) (eqb x z) (has z ra) (has z (y ∷ rb)) ∙ m.rows z;
  order = λ n r q. let k = m.order n r q in
      (suc x, run_append 0 k.0 (suc x) out (x ∷ []) k.1 ((k.2.0, omega arith)), k.2.1, ((omega (arith, less), k.3.1)));
}

pub take_right : (a b out ra rb : List ℕ) (x y : ℕ) → y < x → Merged a b out (x ∷ ra) (y ∷ rb) → Merged a b (out ++ y ∷ []) (x ∷ ra) rb
take_right a b out ra rb x y less m = record {
  rows = λ z. ap (λ o. o || (has z (x ∷ ra) || has z rb)) (has_append z out (y ∷ [])) ∙ from_right (has z out) (eqb y z) (has z (x ∷ ra)) (has z rb) ∙ m.rows z;
  order = λ n r q. let k = m.order n r q in
      (suc y, run_append 0 k.0 (suc y) out (y ∷ []) k.1 ((k.3.0, omega arith)), ((omega (arith, less), k.2.1)), k.3.1);
}

pub take_both : (a b out ra rb : List ℕ) (x y : ℕ) → x ≡ y → Merged a b out (x ∷ ra) (y ∷ rb) → Merged a b (out ++ x ∷ []) ra rb
take_both a b out ra rb x y equal m = record {
  rows = λ z. ap (λ o. o || (has z ra || has z rb)) (has_append z out (x ∷ [])) ∙ from_both (has z out) (eqb x z) (has z ra) (has z rb)
      ∙ ap (λ v. has z out || ((eqb x z || has z ra) || (eqb v z || has z rb))) equal ∙ m.rows z;
  order = λ n r q. let k = m.order n r q in
      (suc x, run_append 0 k.0 (suc x) out (x ∷ []) k.1 ((k.2.0, omega arith)), k.2.1, run_lower (suc y) (suc x) n rb (omega (arith, equal)) k.3.1);
}

-- where one list is at its end, the rest of the other follows
pub merged_rows : (a b out ra rb : List ℕ) → Merged a b out ra rb → (y : ℕ) → has y (out ++ (ra ++ rb)) ≡ (has y a || has y b)
merged_rows a b out ra rb m y = has_append y out (ra ++ rb) ∙ ap (λ v. has y out || v) (has_append y ra rb) ∙ m.rows y

pub merged_left : (a b out ra : List ℕ) → Merged a b out ra [] → (n : ℕ) → Run 0 n a → Run 0 n b → Run 0 n (out ++ (ra ++ []))
merged_left a b out ra m n r q = let k = m.order n r q in run_append 0 k.0 n out (ra ++ []) k.1 (run_append k.0 n n ra [] k.2 (omega arith))

pub merged_right : (a b out rb : List ℕ) → Merged a b out [] rb → (n : ℕ) → Run 0 n a → Run 0 n b → Run 0 n (out ++ ([] ++ rb))
merged_right a b out rb m n r q = let k = m.order n r q in run_append 0 k.0 n out rb k.1 k.3

pub merged_done : (a b out ra rb : List ℕ) → ((ra ≡ []) ⊎ (rb ≡ [])) → Merged a b out ra rb → (n : ℕ) → Run 0 n a → Run 0 n b → out ++ (ra ++ rb) ≡ in_either n a b
merged_done a b out [] rb e m n r q = gathered n (out ++ rb) (λ y. has y a || has y b) (merged_right a b out rb m n r q) (merged_rows a b out [] rb m)
merged_done a b out ra [] e m n r q = gathered n (out ++ (ra ++ [])) (λ y. has y a || has y b) (merged_left a b out ra m n r q) (merged_rows a b out ra [] m)
merged_done a b out (x ∷ ra) (y ∷ rb) (inl e) m n r q = cc
merged_done a b out (x ∷ ra) (y ∷ rb) (inr e) m n r q = cc

-- ---- one turn of the loop, by places

less_than : (x y : ℕ) → nat_lt x y ≡ true → x < y
less_than x y h = grind (arith, nat_tests)

neither : (x y : ℕ) → nat_lt x y ≡ false → nat_lt y x ≡ false → x ≡ y
neither x y h k = grind (arith, nat_tests)

turn_by : (less greater : Bool) (a b out : List ℕ) (x y i j : ℕ) → nat_lt x y ≡ less → nat_lt y x ≡ greater
    → drop i a ≡ x ∷ drop (i + 1) a → drop j b ≡ y ∷ drop (j + 1) b → Merged a b out (x ∷ drop (i + 1) a) (y ∷ drop (j + 1) b)
    → Merged a b (out ++ (taken_by less greater x y i j).row ∷ []) (drop (taken_by less greater x y i j).i a) (drop (taken_by less greater x y i j).j b)
turn_by true greater a b out x y i j e f da db m =
    subst (λ r. Merged a b (out ++ x ∷ []) (drop (i + 1) a) r) (sym db) (take_left a b out (drop (i + 1) a) (drop (j + 1) b) x y (less_than x y e) m)
turn_by false true a b out x y i j e f da db m =
    subst (λ r. Merged a b (out ++ y ∷ []) r (drop (j + 1) b)) (sym da) (take_right a b out (drop (i + 1) a) (drop (j + 1) b) x y (less_than y x f) m)
turn_by false false a b out x y i j e f da db m = take_both a b out (drop (i + 1) a) (drop (j + 1) b) x y (neither x y e f) m

cons_at : (a : List ℕ) (i : ℕ) → i < length a → drop i a ≡ get_or a i 0 ∷ drop (i + 1) a
cons_at a i h = let e : suc i ≡ i + 1 = omega arith in drop-cons a i 0 h ∙ ap (λ k. get_or a i 0 ∷ drop k a) e

pub turn : (a b out : List ℕ) (i j : ℕ) → i < length a → j < length b → Merged a b out (drop i a) (drop j b)
    → Merged a b (out ++ (taken a b i j).row ∷ []) (drop (taken a b i j).i a) (drop (taken a b i j).j b)
turn a b out i j h k m =
    let da : drop i a ≡ get_or a i 0 ∷ drop (i + 1) a = cons_at a i h in
    let db : drop j b ≡ get_or b j 0 ∷ drop (j + 1) b = cons_at b j k in
    turn_by (nat_lt (get_or a i 0) (get_or b j 0)) (nat_lt (get_or b j 0) (get_or a i 0)) a b out (get_or a i 0) (get_or b j 0) i j refl refl da db
    (subst (λ r. Merged a b out r (get_or b j 0 ∷ drop (j + 1) b)) da (subst (λ r. Merged a b out (drop i a) r) db m))

-- places only go on
further_by : (less greater : Bool) (x y i j n m : ℕ) → i < n → j < m → ((taken_by less greater x y i j).i ≤ n) × ((taken_by less greater x y i j).j ≤ m)
    × ((n - (taken_by less greater x y i j).i) + (m - (taken_by less greater x y i j).j) < (n - i) + (m - j))
further_by true greater x y i j n m h k = (omega (arith, h), omega (arith, k), omega (arith, h, k))
further_by false true x y i j n m h k = (omega (arith, h), omega (arith, k), omega (arith, h, k))
further_by false false x y i j n m h k = (omega (arith, h), omega (arith, k), omega (arith, h, k))

pub further : (a b : List ℕ) (i j : ℕ) → i < length a → j < length b → ((taken a b i j).i ≤ length a) × ((taken a b i j).j ≤ length b)
    × ((length a - (taken a b i j).i) + (length b - (taken a b i j).j) < (length a - i) + (length b - j))
further a b i j h k = further_by _ _ _ _ i j (length a) (length b) h k

pub turned : (a b out next : List ℕ) (i j row p q : ℕ) → i < length a → j < length b → Merged a b out (drop i a) (drop j b)
    → next ≡ out ++ row ∷ [] → row ≡ (taken a b i j).row → p ≡ (taken a b i j).i → q ≡ (taken a b i j).j
    → (p ≤ length a) × (q ≤ length b) × Merged a b next (drop p a) (drop q b)
turned a b out next i j row p q h k m en er ep eq =
    let f = further a b i j h k in (
      subst (λ v. v ≤ length a) (sym ep) f.0,
      subst (λ v. v ≤ length b) (sym eq) f.1,
      subst (λ v. Merged a b v (drop p a) (drop q b)) (sym (en ∙ ap (λ v. out ++ v ∷ []) er))
          (subst (λ v. Merged a b (out ++ (taken a b i j).row ∷ []) (drop v a) (drop q b)) (sym ep)
          (subst (λ v. Merged a b (out ++ (taken a b i j).row ∷ []) (drop (taken a b i j).i a) (drop v b)) (sym eq) (turn a b out i j h k m))),
    )

pub none_left : (xs : List ℕ) (i : ℕ) → i ≤ length xs → length xs ≤ i → drop i xs ≡ []
none_left xs i h k = let e : i ≡ length xs = omega (arith, h, k) in ap (λ n. drop n xs) e ∙ drop-length xs

pub finished : (a b out out1 out2 ra rb : List ℕ) → Merged a b out ra rb → ((ra ≡ []) ⊎ (rb ≡ [])) → out1 ≡ out ++ ra → out2 ≡ out1 ++ rb → (n : ℕ) → Run 0 n a → Run 0 n b → out2 ≡ in_either n a b
finished a b out out1 out2 ra rb m e e1 e2 n p q = e2 ∙ ap (λ v. v ++ rb) e1 ∙ append_assoc out ra rb ∙ merged_done a b out ra rb e m n p q

-- the slice from i on
pub rest_from : (xs : List ℕ) (i : ℕ) → take (length xs - i) (drop i xs) ≡ drop i xs
rest_from xs i = ap (λ n. take n (drop i xs)) (sym (length-drop i xs)) ∙ take-length (drop i xs)

-- ---- appending in place of merging

run_last : (low high : ℕ) (xs : List ℕ) → 0 < length xs → Run low high xs → Run low (suc (get_or xs (length xs - 1) 0)) xs
run_last low high [] h r = absurd (omega (arith, h))
run_last low high (x ∷ []) h r = (r.0, omega arith)
run_last low high (x ∷ y ∷ ys) h r =
    let e : length (x ∷ y ∷ ys) - 1 ≡ suc (length (y ∷ ys) - 1) = omega arith in
    (r.0, subst (λ k. Run (suc x) (suc (get_or (x ∷ y ∷ ys) k 0)) (y ∷ ys)) (sym e) (run_last (suc x) high (y ∷ ys) (omega arith) r.1))

run_first : (low high : ℕ) (xs : List ℕ) → 0 < length xs → Run low high xs → Run (get_or xs 0 0) high xs
run_first low high [] h r = absurd (omega (arith, h))
run_first low high (x ∷ xs) h r = (omega arith, r.1)

pub follows_none : (a b : List ℕ) → length a ≡ 0 → Follows a b
follows_none [] b h = λ n r q. q
follows_none (x ∷ xs) b h = absurd (omega (arith, h))

pub follows_end : (a b : List ℕ) → length b ≡ 0 → Follows a b
follows_end a [] h = λ n r q. subst (λ v. Run 0 n v) (sym (append-nil a)) r
follows_end a (x ∷ xs) h = absurd (omega (arith, h))

pub follows_last : (a b : List ℕ) → 0 < length a → 0 < length b → get_or a (length a - 1) 0 < get_or b 0 0 → Follows a b
follows_last a b h k less = λ n r q. run_append 0 (suc (get_or a (length a - 1) 0)) n a b (run_last 0 n a h r)
    (run_lower (get_or b 0 0) (suc (get_or a (length a - 1) 0)) n b (omega (arith, less)) (run_first 0 n b k q))

pub appended : (a b : List ℕ) → Follows a b → (n : ℕ) → Run 0 n a → Run 0 n b → a ++ b ≡ in_either n a b
appended a b f n r q = gathered n (a ++ b) (λ y. has y a || has y b) (f n r q) (λ y. has_append y a b)

-- ---- a filter of the rows goes upwards

filter_run_at : (p : ℕ → Bool) (low high : ℕ) (rest : List ℕ) (b : Bool) → Run (low + 1) high rest → Run low high (cond b (low ∷ rest) rest)
filter_run_at p low high rest true r = (omega arith, run_lower (low + 1) (suc low) high rest (omega arith) r)
filter_run_at p low high rest false r = run_lower (low + 1) low high rest (omega arith) r

pub filter_run : (p : ℕ → Bool) (n low high : ℕ) → high ≡ low + n → Run low high (filter p (range_with_len low n))
filter_run p zero low high e = omega (arith, e)
filter_run p (suc n) low high e = filter_run_at p low high (filter p (range_with_len (low + 1) n)) (p low) (filter_run p n (low + 1) high (omega (arith, e)))

pub same_filter_below : (p q : ℕ → Bool) (n low : ℕ) → ((y : ℕ) → low ≤ y → y < low + n → p y ≡ q y) → filter p (range_with_len low n) ≡ filter q (range_with_len low n)
same_filter_below p q zero low h = refl
same_filter_below p q (suc n) low h =
    ap (λ b. cond b (low ∷ filter p (range_with_len (low + 1) n)) (filter p (range_with_len (low + 1) n))) (h low (omega arith) (omega arith))
    ∙ ap (λ r. cond (q low) (low ∷ r) r) (same_filter_below p q n (low + 1) (λ y i k. h y (omega (arith, i)) (omega (arith, k))))

-- the members of a filter of the rows, below their end
not_same : (x y : ℕ) → eqb x y ≡ false → x ≤ y → x < y
not_same x y h le = grind (arith, nat_tests)

told_by : (p : ℕ → Bool) (y low : ℕ) (rest : List ℕ) (b c : Bool) → p low ≡ b → eqb low y ≡ c → (low ≡ y → has y rest ≡ false) → (low < y → has y rest ≡ p y) → low ≤ y → has y (cond b (low ∷ rest) rest) ≡ p y
told_by p y low rest true true e s f g h = ap (λ v. v || has y rest) s ∙ sym e ∙ ap p (same low y s)
told_by p y low rest true false e s f g h = ap (λ v. v || has y rest) s ∙ g (not_same low y s h)
told_by p y low rest false true e s f g h = f (same low y s) ∙ sym e ∙ ap p (same low y s)
told_by p y low rest false false e s f g h = g (not_same low y s h)

told_at : (p : ℕ → Bool) (y low : ℕ) (rest : List ℕ) (b : Bool) → p low ≡ b → (low ≡ y → has y rest ≡ false) → (low < y → has y rest ≡ p y) → low ≤ y → has y (cond b (low ∷ rest) rest) ≡ p y
told_at p y low rest b e f g h = told_by p y low rest b (eqb low y) e refl f g h

told_from : (p : ℕ → Bool) (n low y : ℕ) → low ≤ y → y < low + n → has y (filter p (range_with_len low n)) ≡ p y
told_from p zero low y h k = absurd (omega (arith, h, k))
told_from p (suc n) low y h k =
    told_at p y low (filter p (range_with_len (low + 1) n)) (p low) refl
    (λ e. not_below y (low + 1) (low + 1 + n) (filter p (range_with_len (low + 1) n)) (omega (arith, e)) (filter_run p n (low + 1) (low + 1 + n) refl))
    (λ m. told_from p n (low + 1) y (omega (arith, m)) (omega (arith, k))) h

told : (n : ℕ) (p : ℕ → Bool) (y : ℕ) → y < n → has y (filter p (range_with_len 0 n)) ≡ p y
told n p y h = told_from p n 0 y (omega arith) (omega (arith, h))

-- the lists so far, and one more
pub one_more_list : (n : ℕ) (lists : List (List ℕ)) (xs : List ℕ) → Run 0 n xs → in_either n (in_any n lists) xs ≡ in_any n (lists ++ xs ∷ [])
one_more_list n lists xs r =
    same_filter_below (λ y. has y (in_any n lists) || has y xs) (λ y. list_any (has y) (lists ++ xs ∷ [])) n 0 (λ y l h.
    ap (λ b. b || has y xs) (told n (λ y. list_any (has y) lists) y (omega (arith, h)))
    ∙ sym (list_any-append (has y) lists (xs ∷ []) ∙ ap (λ b. list_any (has y) lists || b) (or-false (has y xs))))

pub some : (xs : List ℕ) → length xs ≢ 0 → 0 < length xs
some [] h = absurd (h refl)
some (x ∷ xs) h = omega arith

pub less_is : {x y : ℕ} → IsTrue (nat_lt x y) → x < y
less_is {x = x} {y = y} h = grind (arith, nat_tests)

pub collected : (n : ℕ) (lists : List (List ℕ)) (found next list part : List ℕ) (i : ℕ) → EachIsRun n lists → i < length lists → found ≡ in_any n (take i lists)
    → list ≡ get_or lists i list → part ≡ list → (Run 0 n found → Run 0 n part → next ≡ in_either n found part) → next ≡ in_any n (take (i + 1) lists)
collected n lists found next list part i each h so_far is same step =
    let run : Run 0 n list = subst (λ v. Run 0 n v) (sym is) (each i list h) in
    step (subst (λ v. Run 0 n v) (sym so_far) (filter_run _ n 0 n (omega arith))) (subst (λ v. Run 0 n v) (sym same) run)
    ∙ ap (λ p. in_either n found p) same ∙ ap (λ f. in_either n f list) so_far ∙ one_more_list n (take i lists) list run
    ∙ ap (in_any n) (ap (λ v. take i lists ++ v ∷ []) is ∙ sym (take_more lists i list h))

none_kept : (n low : ℕ) → filter (λ y. list_any (has y) []) (range_with_len low n) ≡ []
none_kept zero low = refl
none_kept (suc n) low = none_kept n (low + 1)

pub nothing_collected : (n : ℕ) → [] ≡ in_any n []
nothing_collected n = sym (none_kept n 0)

-- ---- what a refusal leaves

pub range_split : (m k low : ℕ) → range_with_len low (m + k) ≡ range_with_len low m ++ range_with_len (low + m) k
range_split zero k low = let e : low ≡ low + 0 = omega arith in let z : 0 + k ≡ k = omega arith in ap (range_with_len low) z ∙ ap (λ v. range_with_len v k) e
range_split (suc m) k low =
    let z : suc m + k ≡ suc (m + k) = omega arith in let e : low + 1 + m ≡ low + suc m = omega arith in
    ap (range_with_len low) z ∙ ap (λ r. low ∷ r) (range_split m k (low + 1)) ∙ ap (λ v. low ∷ (range_with_len (low + 1) m ++ range_with_len v k)) e

pub front : (a b out ra rb : List ℕ) → Merged a b out ra rb → (n : ℕ) → Run 0 n a → Run 0 n b → IsFront out (in_either n a b)
front a b out ra rb m n r q =
    let k = m.order n r q in
    let p : ℕ → Bool = λ y. has y a || has y b in
    let before : k.0 ≤ n = run_le k.0 n ra k.2 in
    let all : n ≡ k.0 + (n - k.0) = omega (arith, before) in
    let own : filter p (range_with_len 0 k.0) ≡ out =
    same_filter_below p (λ y. has y out) k.0 0 (λ y l h. sym (m.rows y)
    ∙ ap (λ v. has y out || (v || has y rb)) (not_below y k.0 n ra (omega (arith, h)) k.2)
    ∙ ap (λ v. has y out || v) (not_below y k.0 n rb (omega (arith, h)) k.3) ∙ or-false (has y out))
    ∙ canonical k.0 0 k.0 out (omega arith) k.1 in (
      filter p (range_with_len (0 + k.0) (n - k.0)),
      ap (λ v. filter p (range_with_len 0 v)) all ∙ ap (filter p) (range_split k.0 (n - k.0) 0) ∙ filter-append p (range_with_len 0 k.0) (range_with_len (0 + k.0) (n - k.0))
          ∙ ap (λ v. v ++ filter p (range_with_len (0 + k.0) (n - k.0))) own,
    )

pub front_same : (a b out next ra rb : List ℕ) → Merged a b out ra rb → next ≡ out → (n : ℕ) → Run 0 n a → Run 0 n b → IsFront next (in_either n a b)
front_same a b out next ra rb m e n r q = subst (λ v. IsFront v (in_either n a b)) (sym e) (front a b out ra rb m n r q)

front_rest : (a b out ra rb : List ℕ) → ((ra ≡ []) ⊎ (rb ≡ [])) → Merged a b out ra rb → (n : ℕ) → Run 0 n a → Run 0 n b → IsFront (out ++ ra) (in_either n a b)
front_rest a b out [] rb e m n r q = subst (λ v. IsFront v (in_either n a b)) (sym (append-nil out)) (front a b out [] rb m n r q)
front_rest a b out ra [] e m n r q = ([], sym (merged_done a b out ra [] (inr refl) m n r q) ∙ sym (append_assoc out ra []))
front_rest a b out (x ∷ ra) (y ∷ rb) (inl e) m n r q = cc
front_rest a b out (x ∷ ra) (y ∷ rb) (inr e) m n r q = cc

pub stopped : (a b out out1 out2 ra rb : List ℕ) → Merged a b out ra rb → ((ra ≡ []) ⊎ (rb ≡ [])) → out1 ≡ out ++ ra → out2 ≡ out1 → (n : ℕ) → Run 0 n a → Run 0 n b → IsFront out2 (in_either n a b)
stopped a b out out1 out2 ra rb m e e1 e2 n p q = subst (λ v. IsFront v (in_either n a b)) (sym (e2 ∙ e1)) (front_rest a b out ra rb e m n p q)

pub on_err : {A E P : Type 0} (r : Result A E) → P → OnErr r P
on_err (Ok a) p = tt
on_err (Err e) p = p
