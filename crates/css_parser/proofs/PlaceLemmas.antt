-- Tokens at places.
use Rattle.std.proofs.Common.{◌≡◌, ℕ, ◌+◌, ◌<◌, ◌≤◌, Bool, true, false, not, List, length, drop, get_or, sym, ◌∙◌, ap, arith, length-drop, inl, inr}
use Rattle.std.specs.Prelude.{◌==◌, Some, slice_get}
use Rattle.std.proofs.lemmas.Bool.Decides.{nat_tests}
use Rattle.std.proofs.lemmas.List.Sums.{prefix_len-drop_yes, prefix_len-drop_no, prefix_len-drop_all, prefix_len-le-length}
use Rattle.std.proofs.lemmas.Option.{slice_get_cases, slice_get_past, get_or_from_slice_get}
use Rattle.css_lexer.specs.declared.tokens.CssKind.TheVariants as kind
use Rattle.css_lexer.specs.declared.tokens.CssToken.{CssToken}
use Rattle.css_parser.specs.Places.{code, code_in, code_at, stands, is_space, skip}
use Rattle.css_parser.specs.Simples.{round_close}

pub code_within : (ts : List CssToken) (i : ℕ) → 0 < code_at ts i → i < length ts
unfolding code_at
code_within ts i h = elim (slice_get_cases ts i).1 [ inl (x, l, _, _) ↦ l | inr (_, e) ↦ let z : code_in (slice_get ts i) ≡ 0 = ap code_in e in absurd (omega arith) ]

-- a place inside the list has a token, whose kind it shows
pub code_of : (ts : List CssToken) (i : ℕ) (t : CssToken) → slice_get ts i ≡ Some t → code_at ts i ≡ code t.kind
unfolding code_at
code_of ts i t e = ap code_in e

-- one Space more
pub skip_step : (ts : List CssToken) (i : ℕ) → stands kind.Space ts i ≡ true → skip ts i ≡ skip ts (i + 1)
unfolding code_at skip
skip_step ts i h = elim (slice_get_cases ts i).1 [
  | inl (x, l, e, _) ↦ omega (arith, prefix_len-drop_yes is_space ts i x l (ap is_space (get_or_from_slice_get ts i x x e) ∙ sym (ap (λ o. code_in o == 1) e) ∙ h))
  | inr (_, e) ↦ let z : (0 == 1) ≡ true = sym (ap (λ o. code_in o == 1) e) ∙ h in cc
]

-- no Space
pub skip_stop : (ts : List CssToken) (i : ℕ) → stands kind.Space ts i ≡ false → skip ts i ≡ i
unfolding code_at skip
skip_stop ts i h = elim (slice_get_cases ts i).1 [
  | inl (x, l, e, _) ↦ omega (arith, prefix_len-drop_no is_space ts i x l (ap is_space (get_or_from_slice_get ts i x x e) ∙ sym (ap (λ o. code_in o == 1) e) ∙ h))
  | inr (l, _) ↦ omega (arith, prefix_len-drop_all is_space ts i l)
]

pub skip_order : (ts : List CssToken) (i : ℕ) → i ≤ skip ts i
unfolding skip
skip_order ts i = omega arith

-- the next `)`
module _ (ts : List CssToken) (i : ℕ) where
  abbrev is_other : CssToken → Bool
  is_other t = not (code t.kind == 18)

  pub close_step : i < length ts → stands kind.CloseRound ts i ≡ false → round_close ts i ≡ round_close ts (i + 1)
  unfolding code_at round_close
  close_step l h = elim (slice_get_cases ts i).1 [
    | inl (x, _, e, _) ↦ omega (arith, prefix_len-drop_yes is_other ts i x l (ap is_other (get_or_from_slice_get ts i x x e) ∙ sym (ap (λ o. not (code_in o == 18)) e) ∙ ap not h))
    | inr (past, _) ↦ absurd (omega arith)
  ]

  pub close_stop : stands kind.CloseRound ts i ≡ true → round_close ts i ≡ i
  unfolding code_at round_close
  close_stop h = elim (slice_get_cases ts i).1 [
    | inl (x, l, e, _) ↦ omega (arith, prefix_len-drop_no is_other ts i x l (ap is_other (get_or_from_slice_get ts i x x e) ∙ sym (ap (λ o. not (code_in o == 18)) e) ∙ ap not h))
    | inr (l, _) ↦ omega (arith, prefix_len-drop_all is_other ts i l)
  ]

  pub close_end : length ts ≤ i → round_close ts i ≡ i
  unfolding round_close
  close_end l = omega (arith, prefix_len-drop_all is_other ts i l)

-- the token at a place inside the list
pub shown : (ts : List CssToken) (i : ℕ) → i < length ts → (t : CssToken) × (get_or ts i t ≡ t) × (code_at ts i ≡ code t.kind)
unfolding code_at
shown ts i l = elim (slice_get_cases ts i).1 [
  | inl (x, _, e, g) ↦ (x, g, ap code_in e)
  | inr (past, _) ↦ absurd (omega arith)
]

pub code_end : (ts : List CssToken) (i : ℕ) → length ts ≤ i → code_at ts i ≡ 0
unfolding code_at
code_end ts i l = ap code_in (slice_get_past ts i l)

pub skip_within : (ts : List CssToken) (i : ℕ) → i ≤ length ts → skip ts i ≤ length ts
unfolding skip
skip_within ts i l = omega (arith, prefix_len-le-length is_space (drop i ts), length-drop i ts)

pub stands_within : (ts : List CssToken) (i n : ℕ) → 0 < n → (code_at ts i == n) ≡ true → i < length ts
stands_within ts i n some h = code_within ts i (let e : 0 < code_at ts i = grind (arith, nat_tests) in e)
