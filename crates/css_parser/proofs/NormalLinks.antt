-- Elements and combinators are read of their signs.
use Rattle.std.proofs.Common.{◌≡◌, ◌≢◌, ℕ, ◌+◌, ◌<◌, true, false, cond, List, ◌++◌, length, refl, sym, ◌∙◌, ap, subst, arith, inl, inr, ◌⊎◌}
use Rattle.std.specs.Prelude.{◌==◌, Option, Some, None, nat_lt}
use Rattle.std.proofs.lemmas.Bool.Decides.{nat_tests}
use Rattle.css_lexer.specs.declared.tokens.CssKind.TheVariants as kind
use Rattle.css_lexer.specs.declared.tokens.CssToken.{CssToken}
use Rattle.css_lexer.specs.Spelled.{Sign, Name, Blank, Mark}
use Rattle.css_selectors.specs.declared.selector.Link.{Link}
use Rattle.css_selectors.specs.declared.selector.Link.TheVariants as link
use Rattle.css_parser.specs.declared.pieces.LinkRead.{LinkRead}
use Rattle.css_parser.specs.Places.{code_at, stands, skip}
use Rattle.css_parser.specs.Links.{linked, combinator, sign}
use Rattle.css_parser.specs.Normal.{element_signs, link_signs, first_signs}
use Rattle.css_parser.proofs.NormalForms.{Around, IsStop}
use Rattle.css_parser.proofs.NormalPlaces.{AreAt, code_is, halves, no_skip}
use Rattle.css_parser.proofs.PlaceLemmas.{skip_step, skip_stop}

not_below : (i : ℕ) → nat_lt i i ≡ false
not_below i = grind (arith, nat_tests)

next_above : (i : ℕ) → nat_lt i (i + 1) ≡ true
next_above i = grind (arith, nat_tests)

-- a link, and the place behind it
abbrev pub link_read : Link → ℕ → LinkRead
link_read l j = record { link = l; end = j }

pub element_length : (e : Around) → length (element_signs e) ≡ 1
element_length None = refl
element_length (Some n) = refl

module _ (text : List ℕ) (ts : List CssToken) (no_bar : (i : ℕ) → stands kind.Bar ts i ≡ false) where
  -- a comma or `)`
  abbrev pub IsNext : ℕ → Type 0
  IsNext j = (code_at ts j ≡ 18) ⊎ (code_at ts j ≡ 19)

  pub stop_by : (j n : ℕ) → code_at ts j ≡ n → 0 < n → (n == 4) ≡ false → (n == 14) ≡ false → (n == 16) ≡ false → (n == 15) ≡ false → (n == 12) ≡ false → IsStop text ts no_bar j
  stop_by j n is some a b c d e = record { number = n; is = is; some = some; no_hash = a; no_dot = b; no_square = c; no_colon = d; no_tail = e }

  pub next_stops : (j : ℕ) → IsNext j → IsStop text ts no_bar j
  next_stops j (inl c) = stop_by j 18 c (omega arith) refl refl refl refl refl
  next_stops j (inr c) = stop_by j 19 c (omega arith) refl refl refl refl refl

  pub next_skip : (j : ℕ) → IsNext j → skip ts j ≡ j
  next_skip j (inl c) = skip_stop ts j (ap (λ n. n == 1) c)
  next_skip j (inr c) = skip_stop ts j (ap (λ n. n == 1) c)

  link_by : ℕ → ℕ → Option LinkRead
  link_by i j = cond (stands kind.Greater ts j) (Some (linked ts link.Child (j + 1)))
      (cond (stands kind.Plus ts j) (Some (linked ts link.Next (j + 1)))
      (cond (stands kind.Tilde ts j) (Some (linked ts link.Later (j + 1)))
      (cond (nat_lt i j) (Some (linked ts link.Descendant i)) None)))

  combinator_by : (i j : ℕ) → skip ts i ≡ j → combinator ts i ≡ link_by i j
  unfolding combinator link_by
  combinator_by i j e = ap (link_by i) e

  pub next_no_link : (j : ℕ) → IsNext j → combinator ts j ≡ None
  unfolding link_by
  next_no_link j (inl c) = combinator_by j j (next_skip j (inl c)) ∙ rw (c, not_below j) refl
  next_no_link j (inr c) = combinator_by j j (next_skip j (inr c)) ∙ rw (c, not_below j) refl

  -- ---- elements and combinators

  abbrev pub IsElement : ℕ → Type 0
  IsElement k = (code_at ts k ≡ 13) ⊎ (code_at ts k ≡ 3)

  pub element_code : (k : ℕ) (e : Around) → AreAt text ts k (element_signs e) → IsElement k
  element_code k None h = inl (code_is text ts k (Mark kind.Star) h.0)
  element_code k (Some n) h = inr (code_is text ts k (Name n) h.0)

  pub element_skip : (k : ℕ) → IsElement k → skip ts k ≡ k
  element_skip k (inl c) = skip_stop ts k (ap (λ n. n == 1) c)
  element_skip k (inr c) = skip_stop ts k (ap (λ n. n == 1) c)

  no_sign : (i : ℕ) → IsElement i → sign ts i ≡ link_read link.Descendant i
  unfolding sign
  no_sign i (inl c) = rw c refl
  no_sign i (inr c) = rw c refl

  pub sign_reads : (l : Link) (i : ℕ) → l ≢ link.First → AreAt text ts i (first_signs l) → IsElement (i + length (first_signs l)) → sign ts i ≡ link_read l (i + length (first_signs l))
  unfolding sign
  sign_reads link.First i other h e = absurd (other refl)
  sign_reads link.Descendant i other h e = let z : i + 0 ≡ i = omega arith in no_sign i (subst IsElement z e) ∙ ap (link_read link.Descendant) (sym z)
  sign_reads link.Child i other h e = let c : code_at ts i ≡ 21 = code_is text ts i (Mark kind.Greater) h.0 in rw c (ap (link_read link.Child) (element_skip (i + 1) e))
  sign_reads link.Next i other h e = let c : code_at ts i ≡ 20 = code_is text ts i (Mark kind.Plus) h.0 in rw c (ap (link_read link.Next) (element_skip (i + 1) e))
  sign_reads link.Later i other h e = let c : code_at ts i ≡ 22 = code_is text ts i (Mark kind.Tilde) h.0 in rw c (ap (link_read link.Later) (element_skip (i + 1) e))

  space_link : (i : ℕ) → IsElement (i + 1) → link_by i (i + 1) ≡ Some (linked ts link.Descendant i)
  unfolding link_by
  space_link i (inl c) = rw (c, next_above i) refl
  space_link i (inr c) = rw (c, next_above i) refl

  pub combinator_reads : (l : Link) (i : ℕ) → l ≢ link.First → AreAt text ts i (link_signs l) → IsElement (i + length (link_signs l)) → combinator ts i ≡ Some (link_read l (i + length (link_signs l)))
  unfolding link_by
  combinator_reads link.First i other h e = absurd (other refl)
  combinator_reads link.Descendant i other h e =
      let past : skip ts i ≡ i + 1 = skip_step ts i (ap (λ n. n == 1) (code_is text ts i Blank h.0)) ∙ element_skip (i + 1) e in
      combinator_by i (i + 1) past ∙ space_link i e ∙ ap (λ j. Some (link_read link.Descendant j)) past
  combinator_reads link.Child i other h e =
      let c : code_at ts i ≡ 21 = code_is text ts i (Mark kind.Greater) h.0 in
      combinator_by i i (no_skip text ts i (Mark kind.Greater) h.0 refl) ∙ rw c (ap (λ j. Some (link_read link.Child j)) (element_skip (i + 1) e))
  combinator_reads link.Next i other h e =
      let c : code_at ts i ≡ 20 = code_is text ts i (Mark kind.Plus) h.0 in
      combinator_by i i (no_skip text ts i (Mark kind.Plus) h.0 refl) ∙ rw c (ap (λ j. Some (link_read link.Next j)) (element_skip (i + 1) e))
  combinator_reads link.Later i other h e =
      let c : code_at ts i ≡ 22 = code_is text ts i (Mark kind.Tilde) h.0 in
      combinator_by i i (no_skip text ts i (Mark kind.Tilde) h.0 refl) ∙ rw c (ap (λ j. Some (link_read link.Later j)) (element_skip (i + 1) e))

  -- no simple selector begins with a combinator
  pub link_stops : (l : Link) (i : ℕ) → l ≢ link.First → AreAt text ts i (link_signs l) → IsStop text ts no_bar i
  link_stops link.First i other h = absurd (other refl)
  link_stops link.Descendant i other h = stop_by i 1 (code_is text ts i Blank h.0) (omega arith) refl refl refl refl refl
  link_stops link.Child i other h = stop_by i 21 (code_is text ts i (Mark kind.Greater) h.0) (omega arith) refl refl refl refl refl
  link_stops link.Next i other h = stop_by i 20 (code_is text ts i (Mark kind.Plus) h.0) (omega arith) refl refl refl refl refl
  link_stops link.Later i other h = stop_by i 22 (code_is text ts i (Mark kind.Tilde) h.0) (omega arith) refl refl refl refl refl

  -- a relative begins with no white space
  pub first_skip : (l : Link) (k : ℕ) (e : Around) (more : List Sign) → AreAt text ts k (first_signs l ++ (element_signs e ++ more)) → skip ts k ≡ k
  first_skip link.First k e more h = element_skip k (element_code k e (halves text ts k (element_signs e) more h).0)
  first_skip link.Descendant k e more h = element_skip k (element_code k e (halves text ts k (element_signs e) more h).0)
  first_skip link.Child k e more h = no_skip text ts k (Mark kind.Greater) h.0 refl
  first_skip link.Next k e more h = no_skip text ts k (Mark kind.Plus) h.0 refl
  first_skip link.Later k e more h = no_skip text ts k (Mark kind.Tilde) h.0 refl
