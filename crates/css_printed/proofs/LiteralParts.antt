-- What the quoted runs of a literal hold.
use Rattle.std.proofs.Common.{◌≡◌, ℕ, ◌≤◌, Bool, true, false, cond, List, [], ◌∷◌, length, ◌++◌, refl, sym, ◌∙◌, ap, arith, inl, inr}
use Rattle.std.specs.Prelude.{◌==◌, ◌||◌, ◌&&◌, not}
use Rattle.std.specs.List.{list_any}
use Rattle.std.proofs.lemmas.Bool.{and_parts, and_from, or_from, or_cases, or_left, or_right, eqb-true, eq-eqb, cond_both, not-true, not_from_false}
use Rattle.std.proofs.lemmas.List.{append-nil}
use Rattle.css_printed.specs.Literals.{is_apostrophe, is_double, Quoted, quote_of, add, quoted_runs, literal_parts}

abbrev Text : Type 0
Text = List ℕ

-- what the parts stand for together
abbrev pub value : List Quoted → Text
value [] = []
value (q ∷ qs) = q.content ++ value qs

abbrev pub has_quote : ℕ → Text → Bool
has_quote q x = list_any (λ c. c == q) x

-- each is written between `'` or `"`, which it does not hold
abbrev pub are_closed : List Quoted → Bool
are_closed [] = true
are_closed (q ∷ qs) = (((q.quote == 39) || (q.quote == 34)) && not (has_quote q.quote q.content)) && are_closed qs

-- the value
add_value : (c : ℕ) (qs : List Quoted) → value (add c qs) ≡ c ∷ value qs
add_value c [] = refl
add_value c (q ∷ qs) = cond_both (quote_of c == q.quote) (record { quote = q.quote; content = c ∷ q.content } ∷ qs) (record { quote = quote_of c; content = c ∷ [] } ∷ (q ∷ qs)) (λ ps. value ps ≡ c ∷ value (q ∷ qs)) (λ e. refl) (λ e. refl)

runs_value : (x : Text) → value (quoted_runs x) ≡ x
runs_value [] = refl
runs_value (c ∷ x) = add_value c (quoted_runs x) ∙ ap (λ t. c ∷ t) (runs_value x)

by_quotes : (x : Text) (a d : Bool) (P : List Quoted → Type 0) → (d ≡ true → a ≡ true → P (quoted_runs x)) → (d ≡ false → P (record { quote = 34; content = x } ∷ [])) → (a ≡ false → P (record { quote = 39; content = x } ∷ [])) → P (cond a (cond d (quoted_runs x) (record { quote = 34; content = x } ∷ [])) (record { quote = 39; content = x } ∷ []))
by_quotes x true true P f g h = f refl refl
by_quotes x true false P f g h = g refl
by_quotes x false d P f g h = h refl

pub literal_value : (x : Text) → value (literal_parts x) ≡ x
literal_value x = by_quotes x (list_any is_apostrophe x) (list_any is_double x) (λ qs. value qs ≡ x) (λ d a. runs_value x) (λ d. append-nil x) (λ a. append-nil x)

-- each part is closed by its quote
quote_is : (c : ℕ) → ((quote_of c == 39) || (quote_of c == 34)) ≡ true
quote_is c = cond_both (is_apostrophe c) 34 39 (λ q. ((q == 39) || (q == 34)) ≡ true) (λ e. refl) (λ e. refl)

not_quote : (c : ℕ) → (c == quote_of c) ≡ false
not_quote c = cond_both (is_apostrophe c) 34 39 (λ q. (c == q) ≡ false) (λ e. ap (λ k. k == 34) (eqb-true c 39 e)) (λ e. e)

closed_one : (c : ℕ) → (((quote_of c == 39) || (quote_of c == 34)) && not (has_quote (quote_of c) (c ∷ []))) ≡ true
closed_one c = and_from _ _ (quote_is c) (not_from_false _ (or_from _ _ (not_quote c) refl))

add_closed : (c : ℕ) (qs : List Quoted) → are_closed qs ≡ true → are_closed (add c qs) ≡ true
add_closed c [] h = and_from _ _ (closed_one c) refl
add_closed c (q ∷ qs) h =
    cond_both (quote_of c == q.quote) (record { quote = q.quote; content = c ∷ q.content } ∷ qs) (record { quote = quote_of c; content = c ∷ [] } ∷ (q ∷ qs)) (λ ps. are_closed ps ≡ true)
    (λ e. let parts = and_parts _ (are_closed qs) h in
    let one = and_parts ((q.quote == 39) || (q.quote == 34)) _ parts.0 in
    and_from _ _ (and_from _ _ one.0 (not_from_false _ (or_from _ _ (ap (λ k. c == k) (sym (eqb-true (quote_of c) q.quote e)) ∙ not_quote c) (not-true _ one.1)))) parts.1)
    (λ e. and_from _ _ (closed_one c) h)

runs_closed : (x : Text) → are_closed (quoted_runs x) ≡ true
runs_closed [] = refl
runs_closed (c ∷ x) = add_closed c (quoted_runs x) (runs_closed x)

pub literal_closed : (x : Text) → are_closed (literal_parts x) ≡ true
literal_closed x = by_quotes x (list_any is_apostrophe x) (list_any is_double x) (λ qs. are_closed qs ≡ true) (λ d a. runs_closed x) (λ d. and_from _ _ (not_from_false (has_quote 34 x) d) refl) (λ a. and_from _ _ (not_from_false (has_quote 39 x) a) refl)

-- with both quotes in x there are two parts at least
abbrev some_quote : ℕ → List Quoted → Bool
some_quote k [] = false
some_quote k (q ∷ qs) = (q.quote == k) || some_quote k qs

add_keeps : (k c : ℕ) (qs : List Quoted) → some_quote k qs ≡ true → some_quote k (add c qs) ≡ true
add_keeps k c [] h = cc
add_keeps k c (q ∷ qs) h = cond_both (quote_of c == q.quote) (record { quote = q.quote; content = c ∷ q.content } ∷ qs) (record { quote = quote_of c; content = c ∷ [] } ∷ (q ∷ qs)) (λ ps. some_quote k ps ≡ true) (λ e. h) (λ e. or_right _ _ h)

add_has : (k c : ℕ) (qs : List Quoted) → quote_of c ≡ k → some_quote k (add c qs) ≡ true
add_has k c [] h = or_left _ _ (eq-eqb _ _ h)
add_has k c (q ∷ qs) h = cond_both (quote_of c == q.quote) (record { quote = q.quote; content = c ∷ q.content } ∷ qs) (record { quote = quote_of c; content = c ∷ [] } ∷ (q ∷ qs)) (λ ps. some_quote k ps ≡ true) (λ e. or_left _ _ (eq-eqb _ _ (sym (eqb-true _ _ e) ∙ h))) (λ e. or_left _ _ (eq-eqb _ _ h))

runs_have : (k : ℕ) (p : ℕ → Bool) → ((c : ℕ) → p c ≡ true → quote_of c ≡ k) → (x : Text) → list_any p x ≡ true → some_quote k (quoted_runs x) ≡ true
runs_have k p f [] h = cc
runs_have k p f (c ∷ x) h = elim (or_cases _ _ h) [
  | inl e ↦ add_has k c (quoted_runs x) (f c e)
  | inr e ↦ add_keeps k c (quoted_runs x) (runs_have k p f x e)
]

apostrophe_quote : (c : ℕ) → is_apostrophe c ≡ true → quote_of c ≡ 34
apostrophe_quote c h = rw h refl

double_quote : (c : ℕ) → is_double c ≡ true → quote_of c ≡ 39
double_quote c h = rw (eqb-true c 34 h) refl

two_quotes : (qs : List Quoted) → some_quote 34 qs ≡ true → some_quote 39 qs ≡ true → 2 ≤ length qs
two_quotes [] h k = cc
two_quotes (q ∷ []) h k = absurd (one_quote q.quote h k)
  where
    one_quote : (n : ℕ) → ((n == 34) || false) ≡ true → ((n == 39) || false) ≡ true → ⊥
    one_quote n h k = grind arith
two_quotes (q ∷ (q' ∷ qs)) h k = omega arith

pub two_parts : (x : Text) → list_any is_apostrophe x ≡ true → list_any is_double x ≡ true → 2 ≤ length (quoted_runs x)
two_parts x a d = two_quotes (quoted_runs x) (runs_have 34 is_apostrophe apostrophe_quote x a) (runs_have 39 is_double double_quote x d)
