-- What stands between a Function and its `)`.
use Rattle.std.proofs.Common.{◌≡◌, ℕ, ◌+◌, ◌-◌, ◌<◌, ◌≤◌, Bool, true, false, not, List, [], ◌∷◌, ◌++◌, length, drop, take, get_or, flat_map, refl, sym, ◌∙◌, ap, subst, arith, cond, eqb-true}
use Rattle.std.specs.Prelude.{◌==◌, Some, None, slice_range, count_by, nat_lt}
use Rattle.std.specs.List.{prefix_len, range_with_len}
use Rattle.std.proofs.lemmas.Bool.Decides.{nat_tests}
use Rattle.std.proofs.lemmas.List.Edits.{between_more}
use Rattle.std.proofs.lemmas.List.Sums.{prefix_len_is}
use Rattle.css_lexer.specs.declared.tokens.CssKind.TheVariants as kind
use Rattle.css_lexer.specs.declared.tokens.CssToken.{CssToken}
use Rattle.std.proofs.lemmas.List.{append-nil}
use Rattle.std.proofs.lemmas.Grind.{flat_map-append}
use Rattle.std.proofs.lemmas.List.Elements.{All-get_or}
use Rattle.std.proofs.lemmas.List.Sums.{count_by_more_yes, count_by_more_no}
use Rattle.std.proofs.lemmas.List.FromFn.{get_or-range_with_len, length-range_with_len}
use Rattle.std.proofs.Common.{length-drop, get_or-drop}
use borrow.Author.Count.{below_more}
use Rattle.css_parser.specs.Places.{code, code_at, stands}
use Rattle.css_parser.proofs.PlaceLemmas.{shown}
use Rattle.css_parser.specs.Simples.{written, written_up_to, is_opening, is_closing, is_more_closed, balanced_close}
use Rattle.css_parser.specs.inner.Reading.{AreInside, IsOpen, depth_by, depth_behind}

none_between : {A : Type 0} (s : List A) (i : ℕ) → slice_range s i i ≡ []
none_between s i = ap (λ n. take n (drop i s)) (let e : i - i ≡ 0 = omega arith in e)

pub written_none : (text : List ℕ) (ts : List CssToken) (i : ℕ) → written_up_to text ts i i ≡ []
unfolding written_up_to
written_none text ts i = ap (flat_map (written text)) (none_between ts i)

pub written_more : (text : List ℕ) (ts : List CssToken) (i j : ℕ) (t : CssToken) → i ≤ j → j < length ts → t ≡ get_or ts j t → written_up_to text ts i (j + 1) ≡ written_up_to text ts i j ++ written text t
unfolding written_up_to
written_more text ts i j t low l e =
    ap (flat_map (written text)) (between_more ts i j t low l ∙ ap (λ x. slice_range ts i j ++ x ∷ []) (sym e))
    ∙ flat_map-append (written text) (slice_range ts i j) (t ∷ [])
    ∙ ap (λ x. flat_map (written text) (slice_range ts i j) ++ x) (append-nil (written text t))

pub inside_at : (text : List ℕ) (ts : List CssToken) (i : ℕ) (t : CssToken) → AreInside text ts → i < length ts → t ≡ get_or ts i t → (t.from ≤ t.to) × (t.to ≤ length text)
inside_at text ts i t h l e =
    let P : CssToken → Type 0 = λ x. (x.from ≤ x.to) × (x.to ≤ length text) in
    subst P (sym e) (All-get_or P ts i t l h)

-- how many of a kind stand from i up to j
abbrev number : (CssToken → Bool) → List CssToken → ℕ → ℕ → ℕ
number p ts i j = count_by p (slice_range ts i j)

module _ (p : CssToken → Bool) (ts : List CssToken) (i j : ℕ) (t : CssToken) (low : i ≤ j) (l : j < length ts) (g : get_or ts j t ≡ t) where
  there : get_or (drop i ts) (j - i) t ≡ t
  there = get_or-drop i ts (j - i) t ∙ ap (λ n. get_or ts n t) (let e : i + (j - i) ≡ j = omega arith in e) ∙ g

  longer : number p ts i (j + 1) ≡ count_by p (take (j - i + 1) (drop i ts))
  longer = ap (λ n. count_by p (take n (drop i ts))) (let e : j + 1 - i ≡ j - i + 1 = omega arith in e)

  one_more : p t ≡ true → number p ts i (j + 1) ≡ number p ts i j + 1
  one_more h = longer ∙ count_by_more_yes p (drop i ts) (j - i) t (omega (arith, length-drop i ts)) (ap p there ∙ h)

  no_more : p t ≡ false → number p ts i (j + 1) ≡ number p ts i j
  no_more h = longer ∙ count_by_more_no p (drop i ts) (j - i) t (omega (arith, length-drop i ts)) (ap p there ∙ h)

none_counted : (p : CssToken → Bool) (ts : List CssToken) (i : ℕ) → number p ts i i ≡ 0
none_counted p ts i = ap (count_by p) (none_between ts i)

pub no_counts : (ts : List CssToken) (i : ℕ) → IsOpen ts i i 0
no_counts ts i = record {
  counts = ap (λ n. 0 + n) (none_counted is_closing ts i) ∙ sym (none_counted is_opening ts i);
  before = λ k low high. absurd (omega arith);
}

not_more : (d c o : ℕ) → d + c ≡ o → nat_lt o c ≡ false
not_more d c o e = grind (arith, nat_tests)

is_more : (c o m n : ℕ) → c ≡ o → m ≡ c + 1 → n ≡ o → nat_lt n m ≡ true
is_more c o m n e f g = grind (arith, nat_tests)

grown : (ts : List CssToken) (i j depth more : ℕ) → IsOpen ts i j depth → more + number is_closing ts i (j + 1) ≡ number is_opening ts i (j + 1) → IsOpen ts i (j + 1) more
grown ts i j depth more o e = record {
  counts = e;
  before = λ k low high. below_more (λ n. i ≤ n → is_more_closed ts i n ≡ false) j (λ n h m. o.before n m h) (λ m. not_more more _ _ e) k high low;
}

pub opened : (ts : List CssToken) (i j depth : ℕ) → i ≤ j → j < length ts → stands kind.Function ts j ≡ true → IsOpen ts i j depth → IsOpen ts i (j + 1) (depth + 1)
opened ts i j depth low l h o = go (shown ts j l)
  where
    other : (n : ℕ) → (n == 2) ≡ true → (n == 18) ≡ false
    other n e = grind (arith, nat_tests)

    go : ((t : CssToken) × (get_or ts j t ≡ t) × (code_at ts j ≡ code t.kind)) → IsOpen ts i (j + 1) (depth + 1)
    go (t, g, e) =
        let is : (code t.kind == 2) ≡ true = subst (λ n. (n == 2) ≡ true) e h in
        let a = one_more is_opening ts i j t low l g is in
        let b = no_more is_closing ts i j t low l g (other (code t.kind) is) in
        grown ts i j depth (depth + 1) o (let c = o.counts in omega arith)

pub shut : (ts : List CssToken) (i j depth : ℕ) → i ≤ j → j < length ts → stands kind.CloseRound ts j ≡ true → 0 < depth → IsOpen ts i j depth → IsOpen ts i (j + 1) (depth - 1)
shut ts i j depth low l h some o = go (shown ts j l)
  where
    other : (n : ℕ) → (n == 18) ≡ true → (n == 2) ≡ false
    other n e = grind (arith, nat_tests)

    go : ((t : CssToken) × (get_or ts j t ≡ t) × (code_at ts j ≡ code t.kind)) → IsOpen ts i (j + 1) (depth - 1)
    go (t, g, e) =
        let is : (code t.kind == 18) ≡ true = subst (λ n. (n == 18) ≡ true) e h in
        let a = no_more is_opening ts i j t low l g (other (code t.kind) is) in
        let b = one_more is_closing ts i j t low l g is in
        grown ts i j depth (depth - 1) o (let c = o.counts in omega arith)

pub passed : (ts : List CssToken) (i j depth : ℕ) → i ≤ j → j < length ts → stands kind.Function ts j ≡ false → stands kind.CloseRound ts j ≡ false → IsOpen ts i j depth → IsOpen ts i (j + 1) depth
passed ts i j depth low l h k o = go (shown ts j l)
  where
    go : ((t : CssToken) × (get_or ts j t ≡ t) × (code_at ts j ≡ code t.kind)) → IsOpen ts i (j + 1) depth
    go (t, g, e) =
        let a = no_more is_opening ts i j t low l g (subst (λ n. (n == 2) ≡ false) e h) in
        let b = no_more is_closing ts i j t low l g (subst (λ n. (n == 18) ≡ false) e k) in
        grown ts i j depth depth o (let c = o.counts in omega arith)

-- there more are closed than opened
one_too_many : (ts : List CssToken) (i j : ℕ) → i ≤ j → j < length ts → stands kind.CloseRound ts j ≡ true → IsOpen ts i j 0 → is_more_closed ts i j ≡ true
one_too_many ts i j low l h o = go (shown ts j l)
  where
    other : (n : ℕ) → (n == 18) ≡ true → (n == 2) ≡ false
    other n e = grind (arith, nat_tests)

    go : ((t : CssToken) × (get_or ts j t ≡ t) × (code_at ts j ≡ code t.kind)) → is_more_closed ts i j ≡ true
    go (t, g, e) =
        let is : (code t.kind == 18) ≡ true = subst (λ n. (n == 18) ≡ true) e h in
        is_more (number is_closing ts i j) (number is_opening ts i j) (number is_closing ts i (j + 1)) (number is_opening ts i (j + 1))
        (let c = o.counts in omega arith)
        (one_more is_closing ts i j t low l g is)
        (no_more is_opening ts i j t low l g (other (code t.kind) is))

abbrev is_before : List CssToken → ℕ → ℕ → Bool
is_before ts i k = not (is_more_closed ts i k)

at_range : (ts : List CssToken) (i k n : ℕ) → k < n → is_before ts i (get_or (range_with_len i n) k 0) ≡ is_before ts i (i + k)
at_range ts i k n h = ap (is_before ts i) (get_or-range_with_len i n k 0 h)

-- up to j no `)` is one too many, and at j one is, or the tokens end
closes_at : (ts : List CssToken) (i j depth : ℕ) → i ≤ j → j ≤ length ts → IsOpen ts i j depth → (j < length ts → is_more_closed ts i j ≡ true) → balanced_close ts i ≡ j
unfolding balanced_close
closes_at ts i j depth low fits o more =
    let n = length ts - i in
    let e : prefix_len (is_before ts i) (range_with_len i n) ≡ j - i =
    prefix_len_is (is_before ts i) (range_with_len i n) (j - i) 0 (omega (arith, length-range_with_len i n))
    (λ k h. at_range ts i k n (omega arith) ∙ ap not (o.before (i + k) (omega arith) (omega arith)))
    (λ h. at_range ts i (j - i) n (omega (arith, length-range_with_len i n)) ∙ ap (is_before ts i) (let f : i + (j - i) ≡ j = omega arith in f) ∙ ap not (more (omega (arith, length-range_with_len i n))))
    in
    omega arith

-- the first `)` more than the Functions
pub balanced_at : (ts : List CssToken) (i j depth : ℕ) → i ≤ j → j < length ts → depth_behind ts j depth ≡ None → IsOpen ts i j depth → balanced_close ts i ≡ j
balanced_at ts i j depth low l none o = by_kind (stands kind.Function ts j) (stands kind.CloseRound ts j) refl refl
  where
    by_depth : (b : Bool) → (depth == 0) ≡ b → stands kind.CloseRound ts j ≡ true → depth_by false true depth ≡ None → balanced_close ts i ≡ j
    by_depth true e c _ = closes_at ts i j depth low (omega arith) o (λ _. one_too_many ts i j low l c (subst (IsOpen ts i j) (eqb-true depth 0 e) o))
    by_depth false e c d = let x : Some (depth - 1) ≡ None = sym (ap (λ b. cond b None (Some (depth - 1))) e) ∙ d in cc

    by_kind : (a b : Bool) → stands kind.Function ts j ≡ a → stands kind.CloseRound ts j ≡ b → balanced_close ts i ≡ j
    by_kind true b e f = let x : Some (depth + 1) ≡ None = sym (ap (λ v. depth_by v (stands kind.CloseRound ts j) depth) e) ∙ none in cc
    by_kind false true e f = by_depth (depth == 0) refl f (sym (ap (λ v. depth_by v (stands kind.CloseRound ts j) depth) e ∙ ap (λ v. depth_by false v depth) f) ∙ none)
    by_kind false false e f = let x : Some depth ≡ None = sym (ap (λ v. depth_by v (stands kind.CloseRound ts j) depth) e ∙ ap (λ v. depth_by false v depth) f) ∙ none in cc

inside_some : (m n : ℕ) → Some m ≡ Some n → m ≡ n
inside_some m n e = cc

pub balanced_on : (ts : List CssToken) (i j depth more : ℕ) → i ≤ j → j < length ts → depth_behind ts j depth ≡ Some more → IsOpen ts i j depth → IsOpen ts i (j + 1) more
balanced_on ts i j depth more low l some o = by_kind (stands kind.Function ts j) (stands kind.CloseRound ts j) refl refl
  where
    by_depth : (b : Bool) → (depth == 0) ≡ b → stands kind.CloseRound ts j ≡ true → depth_by false true depth ≡ Some more → IsOpen ts i (j + 1) more
    by_depth true e c d = let x : None ≡ Some more = sym (ap (λ b. cond b None (Some (depth - 1))) e) ∙ d in cc
    by_depth false e c d =
        let x : Some (depth - 1) ≡ Some more = sym (ap (λ b. cond b None (Some (depth - 1))) e) ∙ d in
        let positive : 0 < depth = grind (arith, nat_tests) in
        subst (IsOpen ts i (j + 1)) (inside_some (depth - 1) more x) (shut ts i j depth low l c positive o)

    by_kind : (a b : Bool) → stands kind.Function ts j ≡ a → stands kind.CloseRound ts j ≡ b → IsOpen ts i (j + 1) more
    by_kind true b e f = subst (IsOpen ts i (j + 1)) (inside_some (depth + 1) more (sym (ap (λ v. depth_by v (stands kind.CloseRound ts j) depth) e) ∙ some)) (opened ts i j depth low l e o)
    by_kind false true e f = by_depth (depth == 0) refl f (sym (ap (λ v. depth_by v (stands kind.CloseRound ts j) depth) e ∙ ap (λ v. depth_by false v depth) f) ∙ some)
    by_kind false false e f = subst (IsOpen ts i (j + 1)) (inside_some depth more (sym (ap (λ v. depth_by v (stands kind.CloseRound ts j) depth) e ∙ ap (λ v. depth_by false v depth) f) ∙ some)) (passed ts i j depth low l e f o)

-- none
pub balanced_end : (ts : List CssToken) (i j depth : ℕ) → i ≤ j → length ts ≤ j → j ≤ length ts → IsOpen ts i j depth → balanced_close ts i ≡ j
balanced_end ts i j depth low past fits o = closes_at ts i j depth low fits o (λ h. absurd (omega arith))
