-- Steps and positions that are counted.
use Rattle.std.proofs.Common.{◌≡◌, refl, sym, ◌∙◌, ap, ℕ, suc, ◌+◌, ◌-◌, ◌<◌, ◌≤◌, Bool, true, false, ◌||◌, eqb, cond, List, [], ◌∷◌, length, map, get_or, take, set, ◌^◌, arith, ℤ, pos, inl, inr}
use Rattle.std.specs.Prelude.{filter, reverse, ◌≢◌, unsigned_abs, nat_lt, Some, None, slice_get}
use Rattle.std.specs.List.{range_with_len}
use Rattle.std.specs.Ordering.{int_eq}
use Rattle.std.proofs.lemmas.Bool.{lt-ltb, cases_eq, eq-eqb, ne_eqb, eqb-true, both_ways, false_from_ne_true, le-leb}
use Rattle.std.proofs.lemmas.Bool.Decides.{Decides-int_eq}
use Rattle.std.proofs.lemmas.List.{length-reverse}
use Rattle.doc_model.specs.Document.{Document, rows}
use Rattle.doc_model.specs.Axes.{is_reverse, axis_list}
use Rattle.doc_model.specs.RowLists.{has, Run, AllBelow}
use Rattle.doc_model.proofs.Runs.{canonical, filter_run, same_filter}
use Rattle.xpath_values.specs.declared.value.XNum.TheVariants.{Whole, NaN}
use Rattle.xpath_values.specs.declared.value.Value.TheVariants.{Nodes, Num}
use Rattle.xpath_values.specs.Numbers.{whole, in_range}
use Rattle.xpath_parser.specs.declared.expression.Func.TheVariants as f
use Rattle.xpath_parser.specs.declared.expression.Expr.{Expr}
use Rattle.xpath_parser.specs.declared.expression.Expr.TheVariants.{Path, Number}
use Rattle.xpath_parser.specs.declared.expression.Start.TheVariants.{Here}
use Rattle.xpath_parser.specs.declared.expression.Step.{Step, out-Step}
use Rattle.xpath_parser.specs.Conversions.{rows_of, is_any, truth_of}
use Rattle.xpath_parser.specs.Functions.{Context, called}
use Rattle.xpath_parser.specs.Denote.{Meaning, denote, walk_of, rows_in, kept, kept_from, keeps}
use Rattle.xpath_parser.proofs.Equations.{at_path, at_here, at_step}
use Rattle.xpath_parser.proofs.Equations.{at_number as at_number_eq}
use Rattle.xpath_eval.specs.inner.Steps.{IsLoneStep, IsLonePath, BeginsWithOne}
use Rattle.xpath_eval.proofs.Covering.{plain_walk}
use Rattle.std.proofs.lemmas.List.Elements.{All-nil, All-cons, All-head}
use Rattle.xpath_eval.proofs.Kept.{kept_from_same}
use Rattle.xpath_eval.proofs.Lists.{has-reverse}

pub or_none : (a : Bool) → (a || false) ≡ a
or_none true = refl
or_none false = refl

has_either : (y : ℕ) (b : Bool) (xs : List ℕ) → has y (cond b (reverse xs) xs) ≡ has y xs
has_either y true xs = has-reverse y xs
has_either y false xs = refl

length_either : (b : Bool) (xs : List ℕ) → length xs ≡ length (cond b (reverse xs) xs)
length_either true xs = sym (length-reverse xs)
length_either false xs = refl

module _ (doc : Document) where
  -- the rows of a list that goes upwards or downwards are as many as the list
  lone_length : (n : ℕ) (b : Bool) (xs : List ℕ) → Run 0 n xs → length (filter (λ y. has y (cond b (reverse xs) xs) || false) (range_with_len 0 n)) ≡ length (cond b (reverse xs) xs)
  lone_length n b xs r =
      ap length (same_filter _ (λ y. has y xs) n 0 (λ y _. or_none (has y (cond b (reverse xs) xs)) ∙ has_either y b xs) ∙ canonical n 0 n xs (omega arith) r) ∙ length_either b xs

  lone_rows : (s : Step) (x : ℕ) → (out-Step s).predicates ≡ [] → length (rows_in doc (x ∷ []) (walk_of doc s)) ≡ length (axis_list doc x (out-Step s).axis (out-Step s).test)
  unfolding rows_in
  lone_rows s x e =
      ap (λ v. length (filter (λ y. has y v || false) (rows doc))) (plain_walk doc s x e)
      ∙ lone_length (length doc) (is_reverse (out-Step s).axis) _ (filter_run _ (length doc) 0 (length doc) (omega arith))

  pub lone_path : (s : Step) (c : Context) → denote doc (Path Here (s ∷ [])) c ≡ Nodes (rows_in doc (c.row ∷ []) (walk_of doc s))
  lone_path s c = at_path doc Here (s ∷ []) c ∙ ap (λ v. Nodes (rows_in doc v (walk_of doc s))) (at_here doc c)

  -- the number of rows that a step gives
  pub counted : (es : List Expr) (s : Step) (c : Context) → IsLoneStep es s
      → called doc f.Count (map (λ x. denote doc x c) es) c ≡ Num (whole (pos (length (axis_list doc c.row (out-Step s).axis (out-Step s).test))))
  counted es s c l =
      ap (λ v. called doc f.Count (map (λ x. denote doc x c) v) c) l.path
      ∙ ap (λ v. Num (whole (pos (length (rows_of v))))) (lone_path s c)
      ∙ ap (λ k. Num (whole (pos k))) (lone_rows s c.row l.plain)

  pub any_length : (xs : List ℕ) → is_any xs ≡ nat_lt 0 (length xs)
  any_length [] = refl
  any_length (x ∷ xs) = sym (lt-ltb 0 (suc (length xs)) (omega arith))

  -- whether a step gives a row
  pub held : (e : Expr) (s : Step) (c : Context) → IsLonePath e s → nat_lt 0 (length (axis_list doc c.row (out-Step s).axis (out-Step s).test)) ≡ truth_of (denote doc e c)
  held e s c l =
      ap (nat_lt 0) (sym (lone_rows s c.row l.plain)) ∙ sym (any_length (rows_in doc (c.row ∷ []) (walk_of doc s)))
      ∙ ap truth_of (sym (lone_path s c)) ∙ ap (λ v. truth_of (denote doc v c)) (sym l.path)

-- ---- a number as a predicate

abbrev pub at_number : ℤ → Meaning
at_number z c = Num (whole z)

none_kept : (z : ℤ) (size at : ℕ) (xs : List ℕ) → ((j : ℕ) → at ≤ j → j < at + length xs → keeps j (Num (whole z)) ≡ false) → kept_from (at_number z) size at xs ≡ []
none_kept z size at [] h = refl
none_kept z size at (x ∷ xs) h =
    let long : length (x ∷ xs) ≡ suc (length xs) = refl in
    ap (λ b. cond b (x ∷ kept_from (at_number z) size (suc at) xs) (kept_from (at_number z) size (suc at) xs)) (h at (omega arith) (omega (arith, long)))
    ∙ none_kept z size (suc at) xs (λ j l k. h j (omega (arith, l)) (omega (arith, k, long)))

one_kept_at : (z : ℤ) (size at k x : ℕ) (xs : List ℕ) (b : Bool) → eqb at k ≡ b → ((j : ℕ) → keeps j (Num (whole z)) ≡ eqb j k) → at ≤ k → k < at + length (x ∷ xs)
    → (at < k → kept_from (at_number z) size (suc at) xs ≡ get_or xs (k - suc at) 0 ∷ [])
    → kept_from (at_number z) size at (x ∷ xs) ≡ get_or (x ∷ xs) (k - at) 0 ∷ []
one_kept_at z size at k x xs true e is l h next =
    let same : at ≡ k = eqb-true at k e in
    ap (λ b. cond b (x ∷ kept_from (at_number z) size (suc at) xs) (kept_from (at_number z) size (suc at) xs)) (is at ∙ e)
    ∙ ap (λ r. x ∷ r) (none_kept z size (suc at) xs (λ j low high. is j ∙ ne_eqb j k (λ s. omega (arith, s, low, same))))
    ∙ ap (λ i. get_or (x ∷ xs) i 0 ∷ []) (let zero_is : 0 ≡ k - at = omega (arith, same) in zero_is)
one_kept_at z size at k x xs false e is l h next =
    let less : at < k = behind e in
    let place : suc (k - suc at) ≡ k - at = omega (arith, less) in
    ap (λ b. cond b (x ∷ kept_from (at_number z) size (suc at) xs) (kept_from (at_number z) size (suc at) xs)) (is at ∙ e)
    ∙ next less ∙ ap (λ i. get_or (x ∷ xs) i 0 ∷ []) place
  where
    behind : eqb at k ≡ false → at < k
    behind never = elim (cases_eq at k) [ inl s ↦ absurd (both_ways _ never (eq-eqb at k s)) | inr ne ↦ omega (arith, l, ne) ]

one_kept : (z : ℤ) (size at k : ℕ) (xs : List ℕ) → ((j : ℕ) → keeps j (Num (whole z)) ≡ eqb j k) → at ≤ k → k < at + length xs → kept_from (at_number z) size at xs ≡ get_or xs (k - at) 0 ∷ []
one_kept z size at k [] is l h = absurd (let none : length {A = ℕ} [] ≡ 0 = refl in omega (arith, l, h, none))
one_kept z size at k (x ∷ xs) is l h =
    let long : length (x ∷ xs) ≡ suc (length xs) = refl in
    one_kept_at z size at k x xs (eqb at k) refl is l h (λ less. one_kept z size (suc at) k xs is (omega (arith, less)) (omega (arith, h, long)))

-- ---- a number that is written out

as_position : (b : Bool) (z : ℤ) (j : ℕ) → in_range z ≡ b → keeps j (Num (whole z)) ≡ cond b (int_eq z (pos j)) false
as_position true z j e = ap (λ b. keeps j (Num (cond b (Whole z) NaN))) e
as_position false z j e = ap (λ b. keeps j (Num (cond b (Whole z) NaN))) e

cond_false : (b c : Bool) → c ≡ false → cond b c false ≡ false
cond_false true c h = h
cond_false false c h = refl

int_differs : (z : ℤ) (j : ℕ) → z ≢ pos j → int_eq z (pos j) ≡ false
int_differs z j ne = false_from_ne_true _ (λ h. ne ((Decides-int_eq z (pos j)).0 h))

pub only_none : (z : ℤ) (size : ℕ) (xs : List ℕ) → ((j : ℕ) → 1 ≤ j → j ≤ length xs → z ≢ pos j) → kept_from (at_number z) size 1 xs ≡ []
only_none z size xs h =
    none_kept z size 1 xs (λ j low high. as_position (in_range z) z j refl ∙ cond_false (in_range z) _ (int_differs z j (h j (omega (arith, low)) (omega (arith, high)))))

same_position : (k j : ℕ) → int_eq (pos k) (pos j) ≡ eqb j k
same_position k j = elim (cases_eq j k) [
  | inl e ↦ (Decides-int_eq (pos k) (pos j)).1 (ap pos (sym e)) ∙ sym (eq-eqb j k e)
  | inr ne ↦ int_differs (pos k) j (λ e. ne (sym (ap unsigned_abs e))) ∙ sym (ne_eqb j k ne)
]

small_range : (k : ℕ) → k ≤ 2 ^ 32 → in_range (pos k) ≡ true
small_range k h = le-leb k 9007199254740991 (omega (arith, h))

pub only_one : (z : ℤ) (size i : ℕ) (xs : List ℕ) → i < length xs → length xs < 2 ^ 32 → z ≡ pos (i + 1) → take 1 (set xs 0 (get_or xs i 0)) ≡ kept_from (at_number z) size 1 xs
only_one z size i [] h few is = absurd (let none : length {A = ℕ} [] ≡ 0 = refl in omega (arith, h, none))
only_one z size i (x ∷ xs) h few is =
    let place : i ≡ i + 1 - 1 = omega arith in
    ap (λ k. get_or (x ∷ xs) k 0 ∷ []) place
    ∙ sym (one_kept (pos (i + 1)) size 1 (i + 1) (x ∷ xs) (λ j. as_position true (pos (i + 1)) j (small_range (i + 1) (omega (arith, h, few))) ∙ same_position (i + 1) j) (omega arith) (omega (arith, h)))
    ∙ ap (λ v. kept_from (at_number v) size 1 (x ∷ xs)) (sym is)

-- ---- the number 1 as the first predicate

-- it keeps the first row, whatever the size is said to be
one_first : (size : ℕ) (xs : List ℕ) → kept_from (at_number (pos 1)) size 1 xs ≡ take 1 xs
one_first size [] = refl
one_first size (x ∷ xs) =
    let is : (j : ℕ) → keeps j (Num (whole (pos 1))) ≡ eqb j 1 = λ j. as_position true (pos 1) j (small_range 1 (omega arith)) ∙ same_position 1 j in
    one_kept (pos 1) size 1 1 (x ∷ xs) is (omega arith) (let long : length (x ∷ xs) ≡ suc (length xs) = refl in omega (arith, long))

one_twice : (n m : ℕ) (xs : List ℕ) → kept_from (at_number (pos 1)) n 1 (take 1 xs) ≡ kept_from (at_number (pos 1)) m 1 xs
one_twice n m [] = refl
one_twice n m (x ∷ xs) = one_first n (x ∷ []) ∙ sym (one_first m (x ∷ xs))

-- so the other rows need not be there
pub kept_first : (doc : Document) (ps : List Expr) (xs : List ℕ) → BeginsWithOne ps → kept (map (denote doc) ps) (take 1 xs) ≡ kept (map (denote doc) ps) xs
kept_first doc ps xs b =
    let number : (size : ℕ) (ys : List ℕ) → kept_from (denote doc (Number (pos 1))) size 1 ys ≡ kept_from (at_number (pos 1)) size 1 ys
    = λ size ys. kept_from_same (denote doc (Number (pos 1))) (at_number (pos 1)) (λ c. at_number_of c) size 1 ys in
    ap (λ v. kept (map (denote doc) v) (take 1 xs)) b.1
    ∙ ap (kept (map (denote doc) b.0)) (number (length (take 1 xs)) (take 1 xs) ∙ one_twice (length (take 1 xs)) (length xs) xs ∙ sym (number (length xs) xs))
    ∙ sym (ap (λ v. kept (map (denote doc) v) xs) b.1)
  where
    at_number_of : (c : Context) → denote doc (Number (pos 1)) c ≡ Num (whole (pos 1))
    at_number_of c = at_number_eq doc (pos 1) c

pub step_first : (doc : Document) (s : Step) (x : ℕ) (xs : List ℕ) → BeginsWithOne (out-Step s).predicates → xs ≡ take 1 (axis_list doc x (out-Step s).axis (out-Step s).test)
    → kept (map (denote doc) (out-Step s).predicates) xs ≡ walk_of doc s x
step_first doc s x xs b e =
    ap (kept (map (denote doc) (out-Step s).predicates)) e ∙ kept_first doc (out-Step s).predicates (axis_list doc x (out-Step s).axis (out-Step s).test) b ∙ sym (at_step doc s x)

-- the first row of a list
pub take_first : (xs : List ℕ) (y : ℕ) → Some y ≡ slice_get xs 0 → y ∷ [] ≡ take 1 xs
take_first [] y e = cc
take_first (x ∷ xs) y e = cc

pub take_none : (xs : List ℕ) → None ≡ slice_get xs 0 → [] ≡ take 1 xs
take_none [] e = refl
take_none (x ∷ xs) e = cc

pub take_below : (n : ℕ) (xs : List ℕ) → AllBelow n xs → AllBelow n (take 1 xs)
take_below n [] a = All-nil (λ y. y < n)
take_below n (x ∷ xs) a = All-cons (λ y. y < n) x [] (All-head (λ y. y < n) x xs a) (All-nil (λ y. y < n))
