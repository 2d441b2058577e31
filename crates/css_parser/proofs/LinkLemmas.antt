-- Combinators, and the signs of relatives.
use Rattle.std.proofs.Common.{◌≡◌, ℕ, ◌+◌, ◌<◌, ◌≤◌, Bool, true, false, cond, List, length, subst, arith}
use Rattle.std.specs.Prelude.{◌==◌, ◌≢◌, Option, Some, None, nat_lt}
use Rattle.css_lexer.proofs.EscapeLemmas.{cases_if}
use Rattle.css_lexer.specs.declared.tokens.CssKind.TheVariants as kind
use Rattle.css_lexer.specs.declared.tokens.CssToken.{CssToken}
use Rattle.css_selectors.specs.declared.selector.Link.TheVariants as link
use Rattle.css_parser.specs.declared.pieces.LinkRead.{LinkRead}
use Rattle.css_parser.specs.Places.{code_at, stands, skip}
use Rattle.css_parser.specs.Links.{linked, combinator, sign}
use Rattle.css_parser.proofs.PlaceLemmas.{skip_order, skip_within, stands_within}

module _ (ts : List CssToken) where
  -- a combinator leads on, and is not First
  pub record IsJoined (i : ℕ) (r : LinkRead) : Type 0 where
    pub other : r.link ≢ link.First
    pub order : i ≤ r.end
    pub within : i ≤ length ts → r.end ≤ length ts

  some_link : (r l : LinkRead) → Some r ≡ Some l → r ≡ l
  some_link r l e = cc

  abbrev Joins : ℕ → LinkRead → Option LinkRead → Type 0
  Joins i r o = o ≡ Some r → IsJoined i r

  pub joined : (i : ℕ) (r : LinkRead) → combinator ts i ≡ Some r → IsJoined i r
  unfolding combinator
  joined i r =
      let j = skip ts i in
      let low = skip_order ts i in let more = skip_order ts (j + 1) in
      let behind : (n : ℕ) → 0 < n → (code_at ts j == n) ≡ true → skip ts (j + 1) ≤ length ts = λ n some h. skip_within ts (j + 1) (let k = stands_within ts j n some h in omega arith) in
      cases_if (stands kind.Greater ts j) (Some (linked ts link.Child (j + 1))) _ (Joins i r)
      (λ h e. subst (IsJoined i) (some_link (linked ts link.Child (j + 1)) r e) (record { other = λ f. cc; order = omega arith; within = λ _. behind 21 (omega arith) h }))
      (λ _. cases_if (stands kind.Plus ts j) (Some (linked ts link.Next (j + 1))) _ (Joins i r)
      (λ h e. subst (IsJoined i) (some_link (linked ts link.Next (j + 1)) r e) (record { other = λ f. cc; order = omega arith; within = λ _. behind 20 (omega arith) h }))
      (λ _. cases_if (stands kind.Tilde ts j) (Some (linked ts link.Later (j + 1))) _ (Joins i r)
      (λ h e. subst (IsJoined i) (some_link (linked ts link.Later (j + 1)) r e) (record { other = λ f. cc; order = omega arith; within = λ _. behind 22 (omega arith) h }))
      (λ _. cases_if (nat_lt i j) (Some (linked ts link.Descendant i)) None (Joins i r)
      (λ _ e. subst (IsJoined i) (some_link (linked ts link.Descendant i) r e) (record { other = λ f. cc; order = omega arith; within = λ l. skip_within ts i l }))
      (λ _ e. cc))))

  other_if : (b : Bool) (x y : LinkRead) → x.link ≢ link.First → y.link ≢ link.First → (cond b x y).link ≢ link.First
  other_if true x y h k = h
  other_if false x y h k = k

  pub sign_link : (i : ℕ) → (sign ts i).link ≢ link.First
  unfolding sign
  sign_link i =
      other_if (stands kind.Greater ts i) _ _ (λ e. cc)
      (other_if (stands kind.Plus ts i) _ _ (λ e. cc)
      (other_if (stands kind.Tilde ts i) _ _ (λ e. cc) (λ e. cc)))
