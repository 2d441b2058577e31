-- Elements of one name that are counted up and down below each parent.
use Rattle.std.proofs.Common.{◌≡◌, ℕ, zero, suc, ◌+◌, ◌-◌, ◌<◌, ◌≤◌, length, Bool, true, false, ◌&&◌, cond, List, [], ◌∷◌, ◌++◌, map, take, drop, get_or, refl, sym, ◌∙◌, ap, arith, inl, inr, subst, Option, Some, lt-ltb, replicate}
use Rattle.std.specs.Prelude.{filter, slice_get, string_bytes, ◌^◌}
use Rattle.std.specs.Option.{option_map_or}
use Rattle.std.specs.Map.{lookup}
use Rattle.std.specs.List.{range_with_len}
use Rattle.std.specs.Str.{bytes_eq, chars}
use Rattle.std.proofs.Math.ListN.{set}
use Rattle.std.proofs.Math.Seq.{drop-cons}
use Rattle.std.proofs.lemmas.Bool.{and_parts, cases_eq, cases_lt, eq-eqb, ne_eqb, and_right}
use Rattle.std.proofs.lemmas.List.{length-append, length-set, get_or-set_same, get_or-set_other, get_or-replicate, length-replicate, take_more, take-append-drop, length-take}
use Rattle.std.proofs.lemmas.List.Elements.{filter-append}
use Rattle.std.proofs.lemmas.Option.{slice_get-get_or}
use Rattle.std.proofs.lemmas.Slice.Eq.{bytes_eq-Decides}
use Rattle.text_base.proofs.Lists.{filter_twice}
use Rattle.doc_model.specs.Document.{Document, row, rows, is_element, is_parent, IsDocument}
use Rattle.doc_model.proofs.Below.{small}
use Rattle.doc_model.proofs.Filters.{upto}
use Rattle.step_index.specs.Named.{is_named, named, named_before}
use Rattle.step_index.specs.Siblings.{children_before}
use Rattle.step_index.specs.declared.names.Names.{Names}
use Rattle.step_index.specs.inner.Alike.{rank, rest, among, Counts, IsNamedList, Gains, HasCounted, HasAlike}
use Rattle.step_index.specs.inner.Tables.{rows_under, lists_of, HasNames, HaveTexts}
use Rattle.step_index.proofs.Counted.{some_element, one_and_more}
use Rattle.step_index.proofs.Places.{in_front, behind, member, filter_le}

-- ---- a list of rows by its places

passes_at : (p : ℕ → Bool) (x : ℕ) (b : Bool) (r : List ℕ) (k y : ℕ) → p x ≡ b → ((j : ℕ) → slice_get r j ≡ Some y → p y ≡ true) → slice_get (cond b (x ∷ r) r) k ≡ Some y → p y ≡ true
passes_at p x true r zero y h next e = let s : x ≡ y = cc in sym (ap p s) ∙ h
passes_at p x true r (suc k) y h next e = next k e
passes_at p x false r k y h next e = next k e

-- what stands in a filter passes
passes : (p : ℕ → Bool) (xs : List ℕ) (k y : ℕ) → slice_get (filter p xs) k ≡ Some y → p y ≡ true
passes p [] k y e = cc
passes p (x ∷ xs) k y e = passes_at p x (p x) (filter p xs) k y refl (λ j. passes p xs j y) e

take_front : (xs ys : List ℕ) (k : ℕ) → k ≡ length xs → take k (xs ++ ys) ≡ xs
take_front xs ys k e = ap (λ n. take n (xs ++ ys)) e ∙ all xs
  where
    all : (xs : List ℕ) → take (length xs) (xs ++ ys) ≡ xs
    all [] = refl
    all (x ∷ xs) = ap (λ v. x ∷ v) (all xs)

-- before the k-th of the rows that pass stand those that pass before its number
pub front_is : (p : ℕ → Bool) (n k y : ℕ) → slice_get (filter p (range_with_len 0 n)) k ≡ Some y → take k (filter p (range_with_len 0 n)) ≡ filter p (range_with_len 0 y)
front_is p n k y e =
    let m = member p n 0 k y e in
    let a = filter p (range_with_len 0 y) in
    let split : filter p (range_with_len 0 n) ≡ a ++ filter p (range_with_len y (n - y)) = upto p y n (omega (arith, m.1)) in
    let at : slice_get (a ++ filter p (range_with_len y (n - y))) k ≡ Some y = sym (ap (λ v. slice_get v k) split) ∙ e in
    ap (take k) split
    ∙ take_front a (filter p (range_with_len y (n - y))) k
    (elim (cases_lt k (length a)) [
      | inl l ↦ absurd (omega (arith, (member p y 0 k y (sym (in_front a (filter p (range_with_len y (n - y))) k l) ∙ at)).1))
      | inr l ↦ first (n - y) (k - length a) (omega (arith, m.1)) (omega (arith, l)) (sym (behind a (filter p (range_with_len y (n - y))) k l) ∙ at)
    ])
  where
    at_first : (m j : ℕ) (b : Bool) → p y ≡ b → p y ≡ true → slice_get (cond b (y ∷ filter p (range_with_len (y + 1) m)) (filter p (range_with_len (y + 1) m))) j ≡ Some y → j ≡ 0
    at_first m zero b is h e = refl
    at_first m (suc j) true is h e = absurd (omega (arith, (member p m (y + 1) j y e).0))
    at_first m (suc j) false is h e = cc

    first : (m j : ℕ) → 0 < m → k ≡ length (filter p (range_with_len 0 y)) + j → slice_get (filter p (range_with_len y m)) j ≡ Some y → k ≡ length (filter p (range_with_len 0 y))
    first zero j some is e = absurd (omega arith)
    first (suc m) j some is e =
        let none : j ≡ 0 = at_first m j (p y) refl (passes p (range_with_len y (suc m)) j y e) e in
        omega (arith, is, none)

-- ---- children of a row among others

one_if : (b : Bool) (y : ℕ) (r : List ℕ) → length (cond b (y ∷ r) r) ≡ cond b 1 0 + length r
one_if true y r = omega arith
one_if false y r = omega arith

pub among_first : (doc : Document) (p y : ℕ) (ys : List ℕ) → among doc p (y ∷ ys) ≡ cond (is_parent doc p y) 1 0 + among doc p ys
among_first doc p y ys = one_if (is_parent doc p y) y (filter (is_parent doc p) ys)

pub among-append : (doc : Document) (p : ℕ) (xs ys : List ℕ) → among doc p (xs ++ ys) ≡ among doc p xs + among doc p ys
among-append doc p xs ys = ap (λ (v : List ℕ). length v) (filter-append (is_parent doc p) xs ys) ∙ length-append (filter (is_parent doc p) xs) (filter (is_parent doc p) ys)

among_named : (doc : Document) (name : List ℕ) (p b : ℕ) → among doc p (named_before doc name b) ≡ children_before doc (is_named doc name) p b
among_named doc name p b = ap (λ (v : List ℕ). length v) (filter_twice (is_named doc name) (is_parent doc p) (range_with_len 0 b))

-- ---- an element in the list of its name

-- it is one, its parent stands before it, and so many of its name stand before it below its parent, and after it
pub record Stands (doc : Document) (list : List ℕ) (k y : ℕ) : Type 0 where
  pub within : y < length doc
  pub parent : (row doc y).parent < length doc
  pub own : is_parent doc (row doc y).parent y ≡ true
  pub ranked : among doc (row doc y).parent (take k list) ≡ rank doc y
  pub rested : among doc (row doc y).parent (drop k list) ≡ 1 + rest doc y

stands_in : (doc : Document) (name : List ℕ) (k y : ℕ) → IsDocument doc → slice_get (named doc name) k ≡ Some y → Stands doc (named doc name) k y
stands_in doc name k y d e =
    let n = length doc in
    let list = named doc name in
    let p = (row doc y).parent in
    let inside : y < n = omega (arith, (member (is_named doc name) n 0 k y e).1) in
    let two = and_parts (is_element doc y) (bytes_eq (row doc y).name name) (passes (is_named doc name) (rows doc) k y e) in
    let own : (row doc y).name ≡ name = (bytes_eq-Decides (row doc y).name name).0 two.1 in
    let some : 0 < y = some_element doc y d two.0 in
    let up : p < y = small doc d y some in
    let before : among doc p (take k list) ≡ rank doc y =
    ap (among doc p) (front_is (is_named doc name) n k y e) ∙ among_named doc name p y ∙ ap (λ m. children_before doc (is_named doc m) p y) (sym own) in
    let all : among doc p (take k list) + among doc p (drop k list) ≡ children_before doc (is_named doc (row doc y).name) p n =
    sym (among-append doc p (take k list) (drop k list)) ∙ ap (among doc p) (take-append-drop k list) ∙ among_named doc name p n ∙ ap (λ m. children_before doc (is_named doc m) p n) (sym own) in
    let more : rank doc y + 1 ≤ children_before doc (is_named doc (row doc y).name) p n =
    one_and_more doc (is_named doc (row doc y).name) y n some inside (λ i. two.0 i && (bytes_eq-Decides (row doc y).name (row doc y).name).1 refl i) in
    record {
      within = inside;
      parent = omega (arith, up, inside);
      own = λ i. lt-ltb 0 y some i && eq-eqb p p refl i;
      ranked = before;
      rested = omega (arith, before, all, more);
    }

pub stands : (doc : Document) (list : List ℕ) (k y : ℕ) → IsDocument doc → IsNamedList doc list → slice_get list k ≡ Some y → Stands doc list k y
stands doc list k y d named e = subst (λ v. Stands doc v k y) (sym named.1) (stands_in doc named.0 k y d (sym (ap (λ v. slice_get v k) named.1) ∙ e))

-- ---- counts

pub counts_few : (doc : Document) (ys counts : List ℕ) (p : ℕ) → Counts doc ys counts → p < length doc → get_or counts p 0 ≤ length ys
counts_few doc ys counts p c l = omega (arith, c.each p l, filter_few ys)
  where
    filter_few : (ys : List ℕ) → length (filter (is_parent doc p) ys) ≤ length ys
    filter_few [] = omega arith
    filter_few (y ∷ ys) = by_first (is_parent doc p y) (filter_few ys)
      where
        by_first : (b : Bool) → length (filter (is_parent doc p) ys) ≤ length ys → length (cond b (y ∷ filter (is_parent doc p) ys) (filter (is_parent doc p) ys)) ≤ suc (length ys)
        by_first true h = omega (arith, h)
        by_first false h = omega (arith, h)

other_parent : (doc : Document) (p q y : ℕ) → (row doc y).parent ≡ p → (q ≡ p → ⊥) → is_parent doc q y ≡ false
other_parent doc p q y is differs = and_right _ _ (ne_eqb (row doc y).parent q (λ e. differs (sym e ∙ is)))

-- with one number written, where the others stay
counts_set : (doc : Document) (old new counts : List ℕ) (p y n : ℕ) → (row doc y).parent ≡ p → p < length doc → Counts doc old counts → n ≡ among doc p new
    → ((q : ℕ) → (q ≡ p → ⊥) → among doc q new ≡ among doc q old) → Counts doc new (set counts p n)
counts_set doc old new counts p y n is l c here others = record {
  long = length-set counts p n ∙ c.long;
  each = λ q m. elim (cases_eq q p) [
    | inl e ↦ ap (λ v. get_or (set counts p n) v 0) e ∙ get_or-set_same counts p n 0 (omega (arith, l, c.long)) ∙ here ∙ ap (λ v. among doc v new) (sym e)
    | inr e ↦ get_or-set_other counts p q n 0 e ∙ c.each q m ∙ sym (others q e)
  ];
}

pub one_up : (doc : Document) (list counts : List ℕ) (k p y d : ℕ) → k < length list → y ≡ get_or list k d → p ≡ (row doc y).parent → Stands doc list k y → Counts doc (take k list) counts → Counts doc (take (k + 1) list) (set counts p (get_or counts p 0 + 1))
one_up doc list counts k p y d l is e s c =
    let inside : p < length doc = omega (arith, e, s.parent) in
    let more : take (k + 1) list ≡ take k list ++ y ∷ [] = take_more list k d l ∙ ap (λ v. take k list ++ v ∷ []) (sym is) in
    let count : (q : ℕ) → among doc q (take (k + 1) list) ≡ among doc q (take k list) + cond (is_parent doc q y) 1 0 = λ q. ap (among doc q) more ∙ among-append doc q (take k list) (y ∷ []) ∙ ap (λ n. among doc q (take k list) + n) (among_first doc q y [] ∙ (let z : cond (is_parent doc q y) 1 0 + 0 ≡ cond (is_parent doc q y) 1 0 = omega arith in z)) in
    let own : is_parent doc p y ≡ true = ap (λ q. is_parent doc q y) e ∙ s.own in
    let here : get_or counts p 0 + 1 ≡ among doc p (take (k + 1) list) = ap (λ n. n + 1) (c.each p inside) ∙ sym (count p ∙ ap (λ b. among doc p (take k list) + cond b 1 0) own) in
    counts_set doc (take k list) (take (k + 1) list) counts p y (get_or counts p 0 + 1) (sym e) inside c here
    (λ q differs. count q ∙ ap (λ b. among doc q (take k list) + cond b 1 0) (other_parent doc p q y (sym e) differs) ∙ (let z : among doc q (take k list) + 0 ≡ among doc q (take k list) = omega arith in z))

pub one_down : (doc : Document) (list counts : List ℕ) (k p y d : ℕ) → k < length list → y ≡ get_or list k d → p ≡ (row doc y).parent → Stands doc list k y → Counts doc (drop k list) counts → Counts doc (drop (k + 1) list) (set counts p (get_or counts p 0 - 1))
one_down doc list counts k p y d l is e s c =
    let inside : p < length doc = omega (arith, e, s.parent) in
    let next : suc k ≡ k + 1 = omega arith in
    let less : drop k list ≡ y ∷ drop (k + 1) list = drop-cons list k d l ∙ (λ i. sym is i ∷ drop (next i) list) in
    let count : (q : ℕ) → among doc q (drop k list) ≡ cond (is_parent doc q y) 1 0 + among doc q (drop (k + 1) list) = λ q. ap (among doc q) less ∙ among_first doc q y (drop (k + 1) list) in
    let own : is_parent doc p y ≡ true = ap (λ q. is_parent doc q y) e ∙ s.own in
    let here : get_or counts p 0 - 1 ≡ among doc p (drop (k + 1) list) = omega (arith, c.each p inside, count p ∙ ap (λ b. cond b 1 0 + among doc p (drop (k + 1) list)) own) in
    counts_set doc (drop k list) (drop (k + 1) list) counts p y (get_or counts p 0 - 1) (sym e) inside c here
    (λ q differs. omega (arith, count q ∙ ap (λ b. cond b 1 0 + among doc q (drop (k + 1) list)) (other_parent doc p q y (sym e) differs)))

pub no_counts : (doc : Document) (counts : List ℕ) (n : ℕ) → n ≡ length doc → counts ≡ replicate n 0 → Counts doc [] counts
no_counts doc counts n is e = record {
  long = ap (λ (v : List ℕ). length v) e ∙ length-replicate n 0 ∙ is;
  each = λ p l. ap (λ v. get_or v p 0) e ∙ get_or-replicate n p 0 0 (omega (arith, l, is));
}

-- ---- numbers of rows

pub no_gains : (f : ℕ → ℕ) (ys : List ℕ) → Gains f [] ys ys
no_gains f ys = record { long = refl; kept = λ y h. h; given = λ k y e. cc }

split_get : (xs : List ℕ) (y k z : ℕ) → slice_get (xs ++ y ∷ []) k ≡ Some z → ((z ≡ y → ⊥) → slice_get xs k ≡ Some z)
split_get [] y zero z e other = absurd (other cc)
split_get [] y (suc k) z e other = cc
split_get (x ∷ xs) y zero z e other = e
split_get (x ∷ xs) y (suc k) z e other = split_get xs y k z e other

pub more_gains : (f : ℕ → ℕ) (list old now new : List ℕ) (k y n d : ℕ) → k < length list → y ≡ get_or list k d → y < length old → n ≡ f y → new ≡ set now y n → Gains f (take k list) old now → Gains f (take (k + 1) list) old new
more_gains f list old now new k y n d l is inside here e g =
    subst (λ v. Gains f (take (k + 1) list) old v) (sym e)
    (record {
      long = length-set now y n ∙ g.long;
      kept = λ z h. at z (λ differs. g.kept z h);
      given = λ j z h. at z (λ differs. g.given j z (split_get (take k list) y j z (sym (ap (λ v. slice_get v j) (take_more list k d l ∙ ap (λ v. take k list ++ v ∷ []) (sym is))) ∙ h) differs));
    })
  where
    at : (z : ℕ) → ((z ≡ y → ⊥) → get_or now z 0 ≡ f z) → get_or (set now y n) z 0 ≡ f z
    at z other = elim (cases_eq z y) [
      | inl s ↦ ap (λ v. get_or (set now y n) v 0) s ∙ get_or-set_same now y n 0 (omega (arith, inside, g.long)) ∙ here ∙ ap f (sym s)
      | inr s ↦ get_or-set_other now y z n 0 s ∙ other s
    ]

-- ---- the steps of the loops

list_few : (doc : Document) (list : List ℕ) → IsNamedList doc list → length list ≤ length doc
list_few doc list named = omega (arith, ap (λ (v : List ℕ). length v) named.1, filter_le (is_named doc named.0) (length doc) 0)

module _ (doc : Document) (list counts start now : List ℕ) (k p y d : ℕ) (is : IsDocument doc) (named : IsNamedList doc list) (l : k < length list) (at : y ≡ get_or list k d) (above : p ≡ (row doc y).parent) (long : length start ≡ length doc) where
  standing : Stands doc list k y
  standing = stands doc list k y is named (slice_get-get_or list k d l ∙ ap Some (sym at))

  pub row_within : y < length doc
  row_within = standing.within

  pub up_ready : length doc < 2 ^ 32 → Counts doc (take k list) counts → Gains (rank doc) (take k list) start now → (p < length counts) × (y < length now) × (get_or counts p 0 + 1 < 2 ^ 32)
  up_ready small c g =
      let s = standing in
      let inside : p < length doc = omega (arith, above, s.parent) in
      (omega (arith, inside, c.long), omega (arith, s.within, g.long, long), omega (arith, counts_few doc (take k list) counts p c inside, length-take k list, l, list_few doc list named, small))

  pub up_counts : (new : List ℕ) → new ≡ set counts p (get_or counts p 0 + 1) → Counts doc (take k list) counts → Counts doc (take (k + 1) list) new
  up_counts new e c = subst (Counts doc (take (k + 1) list)) (sym e) (one_up doc list counts k p y d l at above standing c)

  pub up_gains : (new : List ℕ) → new ≡ set now y (get_or counts p 0) → Counts doc (take k list) counts → Gains (rank doc) (take k list) start now → Gains (rank doc) (take (k + 1) list) start new
  up_gains new e c g =
      let s = standing in
      let inside : p < length doc = omega (arith, above, s.parent) in
      let n : get_or counts p 0 ≡ rank doc y = c.each p inside ∙ ap (λ q. among doc q (take k list)) above ∙ s.ranked in
      more_gains (rank doc) list start now new k y (get_or counts p 0) d l at (omega (arith, s.within, long)) n e g

  pub down_ready : Counts doc (drop k list) counts → Gains (rest doc) (take k list) start now → (p < length counts) × (y < length now) × (0 < get_or counts p 0)
  down_ready c g =
      let s = standing in
      let inside : p < length doc = omega (arith, above, s.parent) in
      (omega (arith, inside, c.long), omega (arith, s.within, g.long, long), omega (arith, c.each p inside, ap (λ q. among doc q (drop k list)) above, s.rested))

  pub down_counts : (new : List ℕ) → new ≡ set counts p (get_or counts p 0 - 1) → Counts doc (drop k list) counts → Counts doc (drop (k + 1) list) new
  down_counts new e c = subst (Counts doc (drop (k + 1) list)) (sym e) (one_down doc list counts k p y d l at above standing c)

  pub down_gains : (new : List ℕ) → new ≡ set now y (get_or counts p 0 - 1) → Counts doc (drop k list) counts → Gains (rest doc) (take k list) start now → Gains (rest doc) (take (k + 1) list) start new
  down_gains new e c g =
      let s = standing in
      let inside : p < length doc = omega (arith, above, s.parent) in
      let n : get_or counts p 0 - 1 ≡ rest doc y = omega (arith, c.each p inside, ap (λ q. among doc q (drop k list)) above, s.rested) in
      more_gains (rest doc) list start now new k y (get_or counts p 0 - 1) d l at (omega (arith, s.within, long)) n e g

-- ---- the lists of a table

-- one list more
pub none_counted : (doc : Document) (t : Names) (before after : List ℕ) → length before ≡ length doc → length after ≡ length doc → HasCounted doc t before after 0
none_counted doc t before after b a = record { long_before = b; long_after = a; ranks = λ j k y list l. absurd (omega arith); rests = λ j k y list l. absurd (omega arith) }

same_list : (a b : List ℕ) → ◌≡◌ {A = Option (List ℕ)} (Some a) (Some b) → a ≡ b
same_list a b e = cc

pub more_counted : (doc : Document) (t : Names) (before after before' after' list : List ℕ) (i : ℕ) → slice_get (lists_of t) i ≡ Some list → Gains (rank doc) list before before' → Gains (rest doc) list after after' → HasCounted doc t before after i → HasCounted doc t before' after' (i + 1)
more_counted doc t before after before' after' list i at up down h = record {
  long_before = up.long ∙ h.long_before;
  long_after = down.long ∙ h.long_after;
  ranks = λ j k y other l e f. elim (cases_lt j i) [
    | inl m ↦ up.kept y (h.ranks j k y other m e f)
    | inr m ↦ up.given k y (ap (λ v. slice_get v k) (the_list j other (omega (arith, l, m)) e) ∙ f)
  ];
  rests = λ j k y other l e f. elim (cases_lt j i) [
    | inl m ↦ down.kept y (h.rests j k y other m e f)
    | inr m ↦ down.given k y (ap (λ v. slice_get v k) (the_list j other (omega (arith, l, m)) e) ∙ f)
  ];
}
  where
    the_list : (j : ℕ) (other : List ℕ) → j ≡ i → slice_get (lists_of t) j ≡ Some other → list ≡ other
    the_list j other is e = same_list list other (sym at ∙ ap (slice_get (lists_of t)) (sym is) ∙ e)

-- what is found under a key is one of the lists
listed_in : {K X : Type 0} (test : K → Bool) (items : X → List ℕ) (entries : List (K × X)) (k y : ℕ) → slice_get (option_map_or items (lookup test entries) []) k ≡ Some y
    → (j : ℕ) × (slice_get (map (λ e. items e.1) entries) j ≡ Some (option_map_or items (lookup test entries) [])) × (j < length (map (λ e. items e.1) entries))
listed_in test items [] k y h = cc
listed_in test items (e ∷ entries) k y h = by_test (test e.0) h (listed_in test items entries k y)
  where
    by_test : (b : Bool) → slice_get (option_map_or items (cond b (Some e.1) (lookup test entries)) []) k ≡ Some y
        → (slice_get (option_map_or items (lookup test entries) []) k ≡ Some y → (j : ℕ) × (slice_get (map (λ e. items e.1) entries) j ≡ Some (option_map_or items (lookup test entries) [])) × (j < length (map (λ e. items e.1) entries)))
        → (j : ℕ) × (slice_get (items e.1 ∷ map (λ e. items e.1) entries) j ≡ Some (option_map_or items (cond b (Some e.1) (lookup test entries)) [])) × (j < suc (length (map (λ e. items e.1) entries)))
    by_test true h later = (0, refl, omega arith)
    by_test false h later = let r = later h in (suc r.0, r.1, omega (arith, r.2))

-- a row that passes stands in the filter
stands_at : (p : ℕ → Bool) (n y : ℕ) → y < n → p y ≡ true → slice_get (filter p (range_with_len 0 n)) (length (filter p (range_with_len 0 y))) ≡ Some y
stands_at p n y l h =
    let a = filter p (range_with_len 0 y) in
    ap (λ v. slice_get v (length a)) (upto p y n (omega (arith, l)))
    ∙ behind a (filter p (range_with_len y (n - y))) (length a) (omega arith)
    ∙ at_first (n - y) (length a - length a) (omega (arith, l)) (omega arith)
  where
    at_first : (m j : ℕ) → 0 < m → j ≡ 0 → slice_get (filter p (range_with_len y m)) j ≡ Some y
    at_first zero j some is = absurd (omega arith)
    at_first (suc m) zero some is = ap (λ b. slice_get (cond b (y ∷ filter p (range_with_len (y + 1) m)) (filter p (range_with_len (y + 1) m))) 0) h
    at_first (suc m) (suc j) some is = absurd (omega (arith, is))

-- where an element stands in the lists
pub record Place (t : Names) (y : ℕ) : Type 0 where
  pub list : ℕ
  pub at : ℕ
  pub rows : List ℕ
  pub within : list < length (lists_of t)
  pub listed : slice_get (lists_of t) list ≡ Some rows
  pub found : slice_get rows at ≡ Some y

place : (doc : Document) (t : Names) (y : ℕ) → HasNames doc t (length doc) → HaveTexts doc (length doc) → y < length doc → is_element doc y ≡ true → Place t y
place doc t y names texts l e =
    let text = texts y l e in
    let q = text.0 in
    let name = chars q in
    let own : is_named doc name y ≡ true = λ i. e i && (bytes_eq-Decides (row doc y).name name).1 (sym text.1.1) i in
    let at = length (named_before doc name y) in
    let found : slice_get (rows_under t q) at ≡ Some y = ap (λ v. slice_get v at) (names q text.1.0) ∙ stands_at (is_named doc name) (length doc) y l own in
    let r = listed_in (λ k. bytes_eq q (string_bytes k)) (λ v. v.items) t.lists.entries at y found in
    record { list = r.0; at = at; rows = rows_under t q; within = r.2; listed = r.1; found = found }

-- where all lists are counted, all elements are
pub all_counted : (doc : Document) (t : Names) (before after : List ℕ) (n : ℕ) → n ≡ length (lists_of t) → HasNames doc t (length doc) → HaveTexts doc (length doc) → HasCounted doc t before after n → HasAlike doc before after
all_counted doc t before after n is names texts h = record {
  long_before = h.long_before;
  long_after = h.long_after;
  ranks = λ y l e. let s = place doc t y names texts l e in h.ranks s.list s.at y s.rows (omega (arith, s.within, is)) s.listed s.found;
  rests = λ y l e. let s = place doc t y names texts l e in h.rests s.list s.at y s.rows (omega (arith, s.within, is)) s.listed s.found;
}

-- how many stand after an element
pub all_alike : (doc : Document) (before after : List ℕ) (x n : ℕ) → IsDocument doc → x < length doc → is_element doc x ≡ true → HasAlike doc before after → n ≡ get_or after x 0
    → children_before doc (is_named doc (row doc x).name) (row doc x).parent (length doc) ≡ children_before doc (is_named doc (row doc x).name) (row doc x).parent x + 1 + n
all_alike doc before after x n d l e h is =
    omega (arith, is, h.rests x l e, one_and_more doc (is_named doc (row doc x).name) x (length doc) (some_element doc x d e) l (λ i. e i && (bytes_eq-Decides (row doc x).name (row doc x).name).1 refl i))
