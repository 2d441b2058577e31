-- What goes on after a name or digits, and where tokens end.
use Rattle.std.proofs.Common.{◌≡◌, eqb, refl, sym, ◌∙◌, ap, subst, ℕ, suc, ◌+◌, ◌-◌, ◌<◌, ◌≤◌, Bool, true, false, ◌&&◌, [], ◌∷◌, ◌++◌, length, get_or, take, drop, Option, Some, None, arith, ◌⊎◌, inl, inr, append-nil, get_or-drop, length-drop}
use Rattle.std.specs.List.{prefix_len}
use Rattle.std.proofs.lemmas.Bool.{cases_lt}
use Rattle.std.proofs.lemmas.List.{get_or_past}
use Rattle.std.proofs.lemmas.Bool.Decides.{nat_tests}
use Rattle.text_base.proofs.Runs.{run_end_from, run_end_le, run_end_passes, run_end_stops}
use Rattle.text_base.specs.Names.{is_name_start, is_name_byte}
use Rattle.text_base.specs.Text.{run_end, is_digit}
use Rattle.xpath_lexer.specs.declared.token.XKind.{XKind}
use Rattle.xpath_lexer.specs.declared.token.XKind.TheVariants as k
use Rattle.xpath_lexer.specs.Tokens as t
use Rattle.xpath_lexer.specs.Tokens.{Text, lexeme, Begun, span}
use Rattle.xpath_lexer.specs.inner.Sizes as s
use Rattle.xpath_lexer.specs.inner.Sizes.{Size}

pub one_more : (n : ℕ) → suc n ≡ 1 + n
one_more n = omega arith

-- a run is the longest front whose bytes pass
pub span_is : (p : ℕ → Bool) (bs : Text) → span p bs ≡ (take (prefix_len p bs) bs, drop (prefix_len p bs) bs)
span_is p [] = refl
span_is p (b ∷ bs) = by_test (p b) refl (span_is p bs)
  where
    by_test : (v : Bool) → p b ≡ v → span p bs ≡ (take (prefix_len p bs) bs, drop (prefix_len p bs) bs)
        → span p (b ∷ bs) ≡ (take (prefix_len p (b ∷ bs)) (b ∷ bs), drop (prefix_len p (b ∷ bs)) (b ∷ bs))
    by_test true e ih = rw (e, ih) (ap (λ (m : ℕ). (take m (b ∷ bs), drop m (b ∷ bs))) (one_more (prefix_len p bs)))
    by_test false e ih = rw e refl

abbrev pub is_literal : XKind → Bool
is_literal k.Literal = true
is_literal _ = false

-- the bytes of the value of a token of so many bytes
abbrev pub written : XKind → ℕ → Text → Text
written k.Literal n x = take (n - 2) (drop 1 x)
written _ n x = take n x

abbrev pub cut : Text → Option Size → Begun
cut x None = None
cut x (Some z) = Some (lexeme z.0 (written z.0 z.1 x), drop z.1 x)

pub plain_written : (kind : XKind) (n : ℕ) (x : Text) → is_literal kind ≡ false → written kind n x ≡ take n x
plain_written k.Literal n x h = cc
plain_written _ n x h = refl

-- what goes on after a name or digits, as bytes more
abbrev pub grown : Text → Text → Size → Begun
grown n u z = Some (lexeme z.0 (n ++ take z.1 u), drop z.1 u)

pub prefix_is : (kind joined : XKind) (n u : Text) → t.with_prefix kind joined n u ≡ grown n u (s.prefix_size kind joined u)
prefix_is kind joined n [] = ap (λ (v : Text). t.ends_with kind v []) (sym (append-nil n))
prefix_is kind joined n (b ∷ []) = by_test (eqb b 58) refl
  where
    by_test : (v : Bool) → eqb b 58 ≡ v → t.with_prefix kind joined n (b ∷ []) ≡ grown n (b ∷ []) (s.prefix_size kind joined (b ∷ []))
    by_test true e = rw e (ap (λ (v : Text). t.ends_with kind v (b ∷ [])) (sym (append-nil n)))
    by_test false e = rw e (ap (λ (v : Text). t.ends_with kind v (b ∷ [])) (sym (append-nil n)))
prefix_is kind joined n (b ∷ c ∷ bs) = by_test (eqb b 58 && is_name_start c) refl
  where
    by_test : (v : Bool) → (eqb b 58 && is_name_start c) ≡ v → t.with_prefix kind joined n (b ∷ c ∷ bs) ≡ grown n (b ∷ c ∷ bs) (s.prefix_size kind joined (b ∷ c ∷ bs))
    by_test true e = rw (e, span_is is_name_byte (c ∷ bs)) (ap (λ m. grown n (b ∷ c ∷ bs) (joined, m)) (one_more (prefix_len is_name_byte (c ∷ bs))))
    by_test false e = rw e (ap (λ (v : Text). t.ends_with kind v (b ∷ c ∷ bs)) (sym (append-nil n)))

pub star_is : (n u : Text) → t.with_star n u ≡ grown n u (s.star_size u)
star_is n [] = prefix_is k.Name k.Prefixed n []
star_is n (b ∷ []) = by_test (eqb b 58) refl
  where
    by_test : (v : Bool) → eqb b 58 ≡ v → t.with_star n (b ∷ []) ≡ grown n (b ∷ []) (s.star_size (b ∷ []))
    by_test true e = prefix_is k.Name k.Prefixed n (b ∷ []) ∙ rw e refl
    by_test false e = prefix_is k.Name k.Prefixed n (b ∷ []) ∙ rw e refl
star_is n (b ∷ c ∷ bs) = by_test (eqb b 58 && eqb c 42) refl
  where
    by_test : (v : Bool) → (eqb b 58 && eqb c 42) ≡ v → t.with_star n (b ∷ c ∷ bs) ≡ grown n (b ∷ c ∷ bs) (s.star_size (b ∷ c ∷ bs))
    by_test true e = rw e refl
    by_test false e = rw e (prefix_is k.Name k.Prefixed n (b ∷ c ∷ bs))

pub fraction_is : (n u : Text) → t.with_fraction n u ≡ grown n u (k.Number, s.fraction_size u)
fraction_is n [] = ap (λ (v : Text). t.ends_with k.Number v []) (sym (append-nil n))
fraction_is n (b ∷ bs) = by_test (eqb b 46) refl
  where
    by_test : (v : Bool) → eqb b 46 ≡ v → t.with_fraction n (b ∷ bs) ≡ grown n (b ∷ bs) (k.Number, s.fraction_size (b ∷ bs))
    by_test true e =
        let same : b ≡ 46 = grind (arith, nat_tests) in
        rw (e, same, span_is is_digit bs) (ap (λ m. grown n (46 ∷ bs) (k.Number, m)) (one_more (prefix_len is_digit bs)))
    by_test false e = rw e (ap (λ (v : Text). t.ends_with k.Number v (b ∷ bs)) (sym (append-nil n)))

-- ---- where tokens end: within the text, and beside an ASCII byte

abbrev pub Ends : Text → ℕ → Type 0
Ends x n = (get_or x n 0 < 128) ⊎ ((0 < n) × (get_or x (n - 1) 0 < 128))

pub record Fits (x : Text) (n : ℕ) : Type 0 where
  pub within : n ≤ length x
  pub ends : Ends x n

pub inside : (x : Text) (i : ℕ) → 0 < get_or x i 0 → i < length x
inside x i h = elim (cases_lt i (length x)) [ inl l ↦ l | inr past ↦ absurd (let e = get_or_past x i 0 past in omega arith) ]

-- after a name stands no byte past ASCII
pub name_stops : (x : Text) (i : ℕ) → i ≤ length x → get_or x (run_end is_name_byte x i) 0 < 128
name_stops x i l = elim (cases_lt (run_end is_name_byte x i) (length x)) [
  | inl low ↦ (let no : is_name_byte (get_or x (run_end is_name_byte x i) 0) ≡ false = run_end_stops is_name_byte x i low in grind (arith, nat_tests))
  | inr past ↦ let e = get_or_past x (run_end is_name_byte x i) 0 past in omega arith
]

-- digits go on with digits
pub digits_last : (x : Text) (i : ℕ) → 0 < i → get_or x (i - 1) 0 < 128 → get_or x (run_end is_digit x i - 1) 0 < 128
digits_last x i some h = elim (cases_lt i (run_end is_digit x i)) [
  | inl more ↦ (let yes : is_digit (get_or x (run_end is_digit x i - 1) 0) ≡ true = run_end_passes is_digit x i (run_end is_digit x i - 1) (omega arith) (omega arith) in grind (arith, nat_tests))
  | inr none ↦ subst (λ (m : ℕ). get_or x (m - 1) 0 < 128) (let e : i ≡ run_end is_digit x i = omega (arith, run_end_from is_digit x i) in e) h
]

pub fits_later : (x : Text) (n m : ℕ) → n ≤ length x → 0 < n → Fits (drop n x) m → Fits x (n + m)
fits_later x n m l some f = record {
  within = omega (arith, f.within, length-drop n x);
  ends = elim f.ends [
    | inl h ↦ inl (subst (λ (v : ℕ). v < 128) (get_or-drop n x m 0) h)
    | inr h ↦ inr (omega arith, subst (λ (v : ℕ). v < 128) (get_or-drop n x (m - 1) 0 ∙ ap (λ (i : ℕ). get_or x i 0) (let e : n + (m - 1) ≡ n + m - 1 = omega (arith, h.0) in e)) h.1)
  ];
}

pub prefix_fits : (kind joined : XKind) (u : Text) → get_or u 0 0 < 128 → Fits u (s.prefix_size kind joined u).1
prefix_fits kind joined u h = by_test (eqb (get_or u 0 0) 58 && is_name_start (get_or u 1 0)) refl
  where
    by_test : (v : Bool) → (eqb (get_or u 0 0) 58 && is_name_start (get_or u 1 0)) ≡ v → Fits u (s.prefix_size kind joined u).1
    by_test true e =
        let here : get_or u 0 0 ≡ 58 = grind (arith, nat_tests) in
        let some : 1 ≤ length u = omega (arith, inside u 0 (omega arith)) in
        rw e (record { within = run_end_le is_name_byte u 1 some; ends = inl (name_stops u 1 some) })
    by_test false e = rw e (record { within = omega arith; ends = inl h })

pub star_fits : (u : Text) → get_or u 0 0 < 128 → Fits u (s.star_size u).1
star_fits u h = by_test (eqb (get_or u 0 0) 58 && eqb (get_or u 1 0) 42) refl
  where
    by_test : (v : Bool) → (eqb (get_or u 0 0) 58 && eqb (get_or u 1 0) 42) ≡ v → Fits u (s.star_size u).1
    by_test true e =
        let next : get_or u 1 0 ≡ 42 = grind (arith, nat_tests) in
        rw e (record { within = omega (arith, inside u 1 (omega arith)); ends = inr (omega arith, omega arith) })
    by_test false e = rw e (prefix_fits k.Name k.Prefixed u h)

-- the digits of a number, and those after its point
pub fraction_fits : (x : Text) (n : ℕ) → n ≤ length x → 0 < n → get_or x (n - 1) 0 < 128 → Fits x (n + s.fraction_size (drop n x))
fraction_fits x n l some h = by_test (eqb (get_or (drop n x) 0 0) 46) refl
  where
    by_test : (v : Bool) → eqb (get_or (drop n x) 0 0) 46 ≡ v → Fits x (n + s.fraction_size (drop n x))
    by_test true e =
        let here : get_or (drop n x) 0 0 ≡ 46 = grind (arith, nat_tests) in
        let more : 1 ≤ length (drop n x) = omega (arith, inside (drop n x) 0 (omega arith)) in
        let last : get_or (drop n x) (run_end is_digit (drop n x) 1 - 1) 0 < 128 = digits_last (drop n x) 1 (omega arith) (omega arith) in
        rw e (fits_later x n (run_end is_digit (drop n x) 1) l some (record { within = run_end_le is_digit (drop n x) 1 more; ends = inr (omega arith, last) }))
    by_test false e = rw e (record { within = omega arith; ends = inr (omega arith, subst (λ (i : ℕ). get_or x (i - 1) 0 < 128) (let same : n ≡ n + 0 = omega arith in same) h) })
