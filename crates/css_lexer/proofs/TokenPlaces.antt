-- Tokens stand in their text, and there are no more of them than bytes.
use Rattle.std.proofs.Common.{◌≡◌, ℕ, ◌+◌, ◌<◌, ◌≤◌, Bool, true, false, cond, List, [], ◌∷◌, length, get_or, refl, sym, ◌∙◌, subst, arith, inl, inr}
use Rattle.std.specs.Prelude.{◌==◌, Option, Some, None, All}
use Rattle.std.specs.Str.{chars}
use Rattle.std.proofs.lemmas.Bool.{cases_lt}
use Rattle.std.proofs.lemmas.List.{get_or_past}
use Rattle.std.proofs.lemmas.List.Elements.{All-nil, All-cons}
use Rattle.text_base.specs.Text.{run_end, is_space5}
use Rattle.text_base.proofs.Runs.{run_end_moves}
use Rattle.css_lexer.specs.declared.tokens.CssKind.{CssKind}
use Rattle.css_lexer.specs.declared.tokens.CssKind.TheVariants as kind
use Rattle.css_lexer.specs.declared.tokens.CssToken.{CssToken}
use Rattle.css_lexer.specs.declared.rules.Rule.{Rule}
use Rattle.css_lexer.specs.declared.rules.Rule.TheVariants as rule
use Rattle.css_lexer.specs.declared.contents.Content.{Content}
use Rattle.css_lexer.specs.Steps.{Steps}
use Rattle.css_lexer.specs.Contents.{unit_len, Reads}
use Rattle.css_lexer.specs.Comments.{comment_len}
use Rattle.text_base.specs.Text.{is_digit}
use Rattle.css_lexer.specs.Tokens.{token, starts_ident, short_token, symbol_at, rule_at, NameAt, HashAt, QuotedAt, ReadsBy, TokenAt, Spell, Lexes, most_selector}
use Rattle.css_lexer.proofs.EscapeLemmas.{cases_if}
use Rattle.css_lexer.proofs.SpellLemmas.{ident_moves}

steps_order : (len : ℕ → ℕ) (i j : ℕ) (places : List ℕ) → Steps len i places j → i ≤ j
steps_order len i j [] h = let e = h.0 in omega arith
steps_order len i j (k ∷ places) h = omega (arith, steps_order len (i + len i) j places h.2)

read_order : (content : Content) (text : List ℕ) (i j : ℕ) (v : List ℕ) → Reads content text i j v → i ≤ j
read_order content text i j v h = steps_order (unit_len content text) i j h.places h.steps

same : (t u : CssToken) → Some t ≡ Some u → t ≡ u
same t u e = cc

no_token : {A : Type 0} (t : CssToken) → Some t ≡ None → A
no_token t e = cc

by_end : (i : ℕ) (t u : CssToken) → t ≡ u → i < u.to → i < t.to
by_end i t u e h = subst (λ x. i < x.to) (sym e) h

none_or : (b : Bool) (i : ℕ) (t u : CssToken) → (b ≡ false → i < u.to) → Some t ≡ cond b None (Some u) → i < t.to
none_or true i t u h e = no_token t e
none_or false i t u h e = by_end i t u (same t u e) (h refl)

or_none : (b : Bool) (i : ℕ) (t u : CssToken) → i < u.to → Some t ≡ cond b (Some u) None → i < t.to
or_none true i t u h e = by_end i t u (same t u e) h
or_none false i t u h e = no_token t e

if_to : (b : Bool) (i : ℕ) (t u : CssToken) → i < t.to → i < u.to → i < (cond b t u).to
if_to true i t u h g = h
if_to false i t u h g = g

short_moves : (i : ℕ) (t : CssToken) (two one : Option CssKind) → Some t ≡ short_token i two one → i < t.to
short_moves i t (Some two) one e = by_end i t _ (same t _ e) (omega arith)
short_moves i t None (Some one) e = by_end i t _ (same t _ e) (omega arith)
short_moves i t None None e = no_token t e

module _ (text : List ℕ) (i : ℕ) (t : CssToken) (l : i < length text) where
  run_moves : (p : ℕ → Bool) (k : CssKind) → p (get_or text i 0) ≡ true → Some t ≡ Some (token k i (run_end p text i) []) → i < t.to
  run_moves p k h e = by_end i t _ (same t _ e) (run_end_moves p text i (run_end p text i) refl l h)

  name_moves : starts_ident text i ≡ true → ((u : CssToken) × NameAt text i u × (Some t ≡ Some u)) → i < t.to
  name_moves h (u, (j, v, g, e), f) =
      let moves = ident_moves text i j v l h g in
      by_end i t u (same t u f) (by_end i u _ e (if_to (get_or text j 0 == 40) i (token kind.Function i (j + 1) (chars v)) (token kind.Ident i j (chars v)) (omega arith) moves))

  hash_moves : HashAt text i (Some t) → i < t.to
  hash_moves (j, v, g, e) =
      let low = read_order _ text (i + 1) j v g in
      none_or (j == i + 1) i t (token kind.Hash i j (chars v)) (λ _. omega arith) e

  quoted_moves : (content : Content) (quote : ℕ) → QuotedAt content quote text i (Some t) → i < t.to
  quoted_moves content quote (j, v, g, e) =
      let low = read_order content text (i + 1) j v g in
      or_none (get_or text j 0 == quote) i t (token kind.Quoted i (j + 1) (chars v)) (omega arith) e

  abbrev Moves : Rule → Type 0
  Moves r = ReadsBy r text i (Some t) → i < t.to

  moves : TokenAt text i (Some t) → i < t.to
  moves =
      let b = get_or text i 0 in
      cases_if (is_space5 b) rule.Space _ Moves (λ h g. run_moves is_space5 kind.Space h g)
      (λ _. cases_if (starts_ident text i) rule.Name _ Moves (λ h g. name_moves h g)
      (λ _. cases_if (b == 35) rule.Hash _ Moves (λ _ g. hash_moves g)
      (λ _. cases_if (b == 34) rule.Double _ Moves (λ _ g. quoted_moves _ 34 g)
      (λ _. cases_if (b == 39) rule.Single _ Moves (λ _ g. quoted_moves _ 39 g)
      (λ _. cases_if (is_digit b) rule.Digits rule.Symbol Moves (λ h g. run_moves is_digit kind.Digits h g)
      (λ _ g. short_moves i t _ _ g))))))

-- none begins at the end of the text
rule_end : (text : List ℕ) (i : ℕ) → get_or text i 0 ≡ 0 → rule_at text i ≡ rule.Symbol
rule_end text i e = rw e refl

symbol_end : (text : List ℕ) (i : ℕ) → get_or text i 0 ≡ 0 → symbol_at text i ≡ None
symbol_end text i e = rw e refl

not_at_end : {A : Type 0} (text : List ℕ) (i : ℕ) (t : CssToken) → length text ≤ i → TokenAt text i (Some t) → A
not_at_end text i t past h =
    let zero = get_or_past text i 0 past in
    let read : ReadsBy rule.Symbol text i (Some t) = subst (λ r. ReadsBy r text i (Some t)) (rule_end text i zero) h in
    no_token t (read ∙ symbol_end text i zero)

token_moves : (text : List ℕ) (i : ℕ) (t : CssToken) → TokenAt text i (Some t) → i < t.to
token_moves text i t h = elim (cases_lt i (length text)) [ inl l ↦ moves text i t l h | inr past ↦ not_at_end text i t past h ]

abbrev IsInside : List ℕ → CssToken → Type 0
IsInside text t = (t.from ≤ t.to) × (t.to ≤ length text)

abbrev AreInside : List ℕ → List CssToken → Type 0
AreInside text ts = All (IsInside text) ts

record Fit (text : List ℕ) (i : ℕ) (ts : List CssToken) : Type 0 where
  inside : AreInside text ts
  few : length ts + i ≤ length text

fit : (text : List ℕ) (i : ℕ) (ts : List CssToken) → Spell text i ts (length text) → Fit text i ts
fit text i [] h = let low = steps_order (comment_len text) i (length text) h.0 h.1 in record { inside = All-nil (IsInside text); few = omega arith }
fit text i (t ∷ ts) h =
    let rest = fit text t.to ts h.2 in
    let low = steps_order (comment_len text) i t.from h.0.0 h.0.1 in
    let forth = token_moves text t.from t h.1 in
    let few = rest.few in
    record { inside = All-cons (IsInside text) t ts (omega arith, omega arith) rest.inside; few = omega arith }

pub all_inside : (text : List ℕ) (ts : List CssToken) → Lexes text ts → All (λ t. (t.from ≤ t.to) × (t.to ≤ length text)) ts
all_inside text ts h = (fit text 0 ts h.spelled).inside

pub few_tokens : (text : List ℕ) (ts : List CssToken) → Lexes text ts → length ts ≤ most_selector
few_tokens text ts h = let few = (fit text 0 ts h.spelled).few in let fits = h.fits in omega arith
