-- Tokens spell every short text, or after some tokens none begins.
use Rattle.std.proofs.Common.{◌≡◌, ℕ, zero, suc, ◌+◌, ◌-◌, ◌<◌, ◌≤◌, Bool, true, false, cond, List, [], ◌∷◌, length, get_or, take, drop, flat_map, refl, sym, subst, arith, inl, inr, ◌⊎◌, Option, Some, None, eqb-true}
use borrow.Author.Tests.{ltb-true}
use Rattle.std.specs.Prelude.{◌==◌, ◌&&◌, nat_lt, IfSome}
use Rattle.std.proofs.lemmas.Slice.Eq.{bytes_eq-Decides}
use Rattle.std.proofs.lemmas.Bool.{cases_lt}
use Rattle.std.proofs.lemmas.Bool.Decides.{nat_tests}
use Rattle.text_base.specs.Text.{is_space5, begins_with}
use Rattle.text_base.proofs.Boundaries.{in_text}
use Rattle.text_base.proofs.Places.{find_in}
use Rattle.text_base.proofs.Runs.{run_end_le, run_end_moves}
use Rattle.css_lexer.specs.declared.tokens.CssKind.{CssKind}
use Rattle.css_lexer.specs.declared.tokens.CssToken.{CssToken}
use Rattle.css_lexer.specs.declared.rules.Rule.{Rule}
use Rattle.css_lexer.specs.declared.rules.Rule.TheVariants as rule
use Rattle.css_lexer.specs.declared.contents.Content.{Content}
use Rattle.css_lexer.specs.declared.contents.Content.TheVariants as content
use Rattle.css_lexer.specs.Steps.{Steps}
use Rattle.css_lexer.specs.Comments.{opens_comment, closing_at, comment_len, Comments}
use Rattle.css_lexer.specs.Contents.{unit_len, unit_value, Reads}
use Rattle.text_base.specs.Text.{is_digit}
use Rattle.css_lexer.specs.Tokens.{starts_ident, rule_at, kind_of_two, kind_of_one, short_token, symbol_at, name_token, hash_token, quoted_token, ReadsBy, TokenAt, Spell, Lexes, Stops, most_selector}
use Rattle.css_lexer.proofs.ContentLemmas.{unit_fits}
use Rattle.css_lexer.proofs.EscapeLemmas.{fits_if, both_true, cases_if}
use Rattle.css_lexer.proofs.SpellLemmas.{ident_moves}
use Rattle.css_lexer.proofs.TokenLemmas.{token_from}

-- steps from i on that end no later than the top
record Walk (len : ℕ → ℕ) (i top : ℕ) : Type 0 where
  places : List ℕ
  end : ℕ
  steps : Steps len i places end
  order : i ≤ end
  within : end ≤ top

walk : (len : ℕ → ℕ) (top : ℕ) → ((i : ℕ) → i ≤ top → i + len i ≤ top) → (more i : ℕ) → i ≤ top → top ≤ i + more → Walk len i top
walk len top fits zero i low near = record { places = []; end = i; steps = (refl, omega (arith, fits i low)); order = omega arith; within = low }
walk len top fits (suc more) i low near = by_len (λ k inside far. walk len top fits more k inside far) (len i) refl
  where
    by_len : ((k : ℕ) → k ≤ top → top ≤ k + more → Walk len k top) → (n : ℕ) → len i ≡ n → Walk len i top
    by_len go zero e = record { places = []; end = i; steps = (refl, e); order = omega arith; within = low }
    by_len go (suc n) e =
        let rest = go (i + len i) (fits i low) (omega arith) in
        record { places = i ∷ rest.places; end = rest.end; steps = (refl, omega arith, rest.steps); order = omega (arith, rest.order); within = rest.within }

two_bytes : (text : List ℕ) (n : ℕ) → take {A = ℕ} 2 (drop n text) ≡ 42 ∷ 47 ∷ [] → n + 2 ≤ length text
two_bytes [] n h = absurd (none n h)
  where
    none : (n : ℕ) → take {A = ℕ} 2 (drop {A = ℕ} n []) ≡ 42 ∷ 47 ∷ [] → ⊥
    none zero h = let x = h in cc
    none (suc n) h = let x = h in cc
two_bytes (a ∷ []) zero h = let x : a ∷ [] ≡ 42 ∷ 47 ∷ [] = h in absurd (cc)
two_bytes (a ∷ b ∷ text) zero h = omega arith
two_bytes (a ∷ text) (suc n) h = omega (arith, two_bytes text n h)

closing_fits : (text : List ℕ) (i : ℕ) → i ≤ length text → closing_at text i < length text → closing_at text i + 2 ≤ length text
closing_fits text i low inside =
    by_order (cases_lt (length text) (i + 2))
  where
    by_order : (length text < i + 2) ⊎ (i + 2 ≤ length text) → closing_at text i + 2 ≤ length text
    by_order (inl past) = absurd (omega arith)
    by_order (inr fits) =
        two_bytes text (closing_at text i) ((bytes_eq-Decides (take 2 (drop (closing_at text i) text)) (42 ∷ 47 ∷ [])).0 ((find_in (begins_with (42 ∷ 47 ∷ [])) text (i + 2) fits).2 inside))

comment_fits : (text : List ℕ) (i : ℕ) → i ≤ length text → i + comment_len text i ≤ length text
comment_fits text i low =
    fits_if (opens_comment text i && nat_lt (closing_at text i) (length text)) i (closing_at text i + 2 - i) 0 (length text)
    (λ h. let inside = ltb-true (closing_at text i) (length text) (both_true (opens_comment text i) (nat_lt (closing_at text i) (length text)) h).1 in omega (arith, closing_fits text i low inside))
    (λ _. omega arith)

comments_from : (text : List ℕ) (i : ℕ) → i ≤ length text → Walk (comment_len text) i (length text)
comments_from text i low = walk (comment_len text) (length text) (comment_fits text) (length text) i low (omega arith)

content_from : (content : Content) (text : List ℕ) (i : ℕ) → i ≤ length text → Walk (unit_len content text) i (length text)
content_from content text i low = walk (unit_len content text) (length text) (unit_fits content text) (length text) i low (omega arith)

read_of : (content : Content) (text : List ℕ) (i : ℕ) (w : Walk (unit_len content text) i (length text)) → Reads content text i w.end (flat_map (unit_value content text) w.places)
read_of content text i w = record { places = w.places; steps = w.steps; spelled = refl }

-- what stands at a place where the text does not end: a token that ends after the place, or none
abbrev Moves : List ℕ → ℕ → Option CssToken → Type 0
Moves text i read = IfSome read (λ t. (i < t.to) × (t.to ≤ length text))

record Begun (text : List ℕ) (i : ℕ) : Type 0 where
  read : Option CssToken
  is : TokenAt text i read
  moves : Moves text i read

name_rule : (text : List ℕ) (i : ℕ) → rule_at text i ≡ rule.Name → starts_ident text i ≡ true
name_rule text i h = by_tests (is_space5 b) (starts_ident text i) (b == 35) (b == 34) (b == 39) (is_digit b) h
  where
    b : ℕ
    b = get_or text i 0

    by_tests : (a s h d q n : Bool) → cond a rule.Space (cond s rule.Name (cond h rule.Hash (cond d rule.Double (cond q rule.Single (cond n rule.Digits rule.Symbol))))) ≡ rule.Name → s ≡ true
    by_tests true s h d q n e = cc
    by_tests false true h d q n e = refl
    by_tests false false true d q n e = cc
    by_tests false false false true q n e = cc
    by_tests false false false false true n e = cc
    by_tests false false false false false true e = cc
    by_tests false false false false false false e = cc

space_rule : (text : List ℕ) (i : ℕ) → rule_at text i ≡ rule.Space → is_space5 (get_or text i 0) ≡ true
space_rule text i h = by_tests (is_space5 b) (starts_ident text i) (b == 35) (b == 34) (b == 39) (is_digit b) h
  where
    b : ℕ
    b = get_or text i 0

    by_tests : (a s h d q n : Bool) → cond a rule.Space (cond s rule.Name (cond h rule.Hash (cond d rule.Double (cond q rule.Single (cond n rule.Digits rule.Symbol))))) ≡ rule.Space → a ≡ true
    by_tests true s h d q n e = refl
    by_tests false true h d q n e = cc
    by_tests false false true d q n e = cc
    by_tests false false false true q n e = cc
    by_tests false false false false true n e = cc
    by_tests false false false false false true e = cc
    by_tests false false false false false false e = cc

digit_rule : (text : List ℕ) (i : ℕ) → rule_at text i ≡ rule.Digits → is_digit (get_or text i 0) ≡ true
digit_rule text i h = by_tests (is_space5 b) (starts_ident text i) (b == 35) (b == 34) (b == 39) (is_digit b) h
  where
    b : ℕ
    b = get_or text i 0

    by_tests : (a s h d q n : Bool) → cond a rule.Space (cond s rule.Name (cond h rule.Hash (cond d rule.Double (cond q rule.Single (cond n rule.Digits rule.Symbol))))) ≡ rule.Digits → n ≡ true
    by_tests true s h d q n e = cc
    by_tests false true h d q n e = cc
    by_tests false false true d q n e = cc
    by_tests false false false true q n e = cc
    by_tests false false false false true n e = cc
    by_tests false false false false false true e = refl
    by_tests false false false false false false e = cc

name_moves : (text : List ℕ) (i j : ℕ) (value : List ℕ) → i < j → j ≤ length text → Moves text i (Some (name_token text i j value))
name_moves text i j value moves within =
    cases_if (get_or text j 0 == 40) _ _ (λ (t : CssToken). (i < t.to) × (t.to ≤ length text))
    (λ h. let inside = in_text text j (omega (arith, eqb-true (get_or text j 0) 40 h)) in (omega arith, omega arith))
    (λ _. (moves, within))

hash_moves : (text : List ℕ) (i j : ℕ) (value : List ℕ) → i < j → j ≤ length text → Moves text i (hash_token i j value)
hash_moves text i j value moves within = cases_if (j == i + 1) None _ (Moves text i) (λ _. tt) (λ _. (moves, within))

quoted_moves : (text : List ℕ) (quote i j : ℕ) (value : List ℕ) → 0 < quote → i < j → Moves text i (quoted_token text quote i j value)
quoted_moves text quote i j value some moves =
    cases_if (get_or text j 0 == quote) _ None (Moves text i)
    (λ h. let inside = in_text text j (omega (arith, eqb-true (get_or text j 0) quote h)) in (omega arith, omega arith))
    (λ _. tt)

second_some : (b c : ℕ) (k : CssKind) → kind_of_two b c ≡ Some k → 0 < c
second_some b c k h = grind (arith, nat_tests)

symbol_moves : (text : List ℕ) (i : ℕ) → i < length text → Moves text i (symbol_at text i)
symbol_moves text i inside = by_kinds (kind_of_two (get_or text i 0) (get_or text (i + 1) 0)) (kind_of_one (get_or text i 0)) refl
  where
    by_kinds : (two one : Option CssKind) → kind_of_two (get_or text i 0) (get_or text (i + 1) 0) ≡ two → Moves text i (short_token i two one)
    by_kinds (Some k) one e = let more = in_text text (i + 1) (second_some (get_or text i 0) (get_or text (i + 1) 0) k e) in (omega arith, omega arith)
    by_kinds None (Some k) e = (omega arith, omega arith)
    by_kinds None None e = tt

token_some : (text : List ℕ) (i : ℕ) → i < length text → Begun text i
token_some text i inside = by_rule (rule_at text i) refl
  where
    begun : (r : Rule) → rule_at text i ≡ r → (read : Option CssToken) → ReadsBy r text i read → Moves text i read → Begun text i
    begun r e read is moves = record { read = read; is = subst (λ x. ReadsBy x text i read) (sym e) is; moves = moves }

    by_rule : (r : Rule) → rule_at text i ≡ r → Begun text i
    by_rule rule.Space e = begun rule.Space e _ refl (run_end_moves is_space5 text i _ refl inside (space_rule text i e), run_end_le is_space5 text i (omega arith))
    by_rule rule.Digits e = begun rule.Digits e _ refl (run_end_moves is_digit text i _ refl inside (digit_rule text i e), run_end_le is_digit text i (omega arith))
    by_rule rule.Name e =
        let w = content_from content.Name text i (omega arith) in
        let reads = read_of content.Name text i w in
        begun rule.Name e _ (_, (w.end, _, reads, refl), refl) (name_moves text i w.end _ (ident_moves text i w.end _ inside (name_rule text i e) reads) w.within)
    by_rule rule.Hash e =
        let w = content_from content.Name text (i + 1) (omega arith) in
        let order = w.order in
        begun rule.Hash e _ (w.end, _, read_of content.Name text (i + 1) w, refl) (hash_moves text i w.end _ (omega arith) w.within)
    by_rule rule.Double e =
        let w = content_from content.Double text (i + 1) (omega arith) in
        let order = w.order in
        begun rule.Double e _ (w.end, _, read_of content.Double text (i + 1) w, refl) (quoted_moves text 34 i w.end _ (omega arith) (omega arith))
    by_rule rule.Single e =
        let w = content_from content.Single text (i + 1) (omega arith) in
        let order = w.order in
        begun rule.Single e _ (w.end, _, read_of content.Single text (i + 1) w, refl) (quoted_moves text 39 i w.end _ (omega arith) (omega arith))
    by_rule rule.Symbol e = begun rule.Symbol e _ refl (symbol_moves text i inside)

-- the tokens from a place on reach the end of the text, or none begins after some of them
record Reach (text : List ℕ) (i : ℕ) : Type 0 where
  tokens : List CssToken
  spelled : Spell text i tokens (length text)

record Stuck (text : List ℕ) (i : ℕ) : Type 0 where
  before : List CssToken
  place : ℕ
  spelled : Spell text i before place
  inside : place < length text
  none : TokenAt text place None

reach_end : (text : List ℕ) (i : ℕ) (w : Walk (comment_len text) i (length text)) → length text ≤ w.end → Reach text i ⊎ Stuck text i
reach_end text i w far =
    let at : w.end ≡ length text = (let within = w.within in omega arith) in
    inl (record { tokens = []; spelled = subst (Comments text i) at (w.places, w.steps) })

abbrev Goes : List ℕ → ℕ → Type 0
Goes text more = (k : ℕ) → k ≤ length text → length text ≤ k + more → Reach text k ⊎ Stuck text k

tokens_from : (text : List ℕ) (more i : ℕ) → i ≤ length text → length text ≤ i + more → Reach text i ⊎ Stuck text i
tokens_from text zero i low near = let w = comments_from text i low in let order = w.order in reach_end text i w (omega arith)
tokens_from text (suc more) i low near = by_end (λ k fits far. tokens_from text more k fits far) (cases_lt w.end (length text))
  where
    w : Walk (comment_len text) i (length text)
    w = comments_from text i low

    comments : Comments text i w.end
    comments = (w.places, w.steps)

    joined : (t : CssToken) → TokenAt text w.end (Some t) → Reach text t.to ⊎ Stuck text t.to → Reach text i ⊎ Stuck text i
    joined t is (inl r) =
        let from : t.from ≡ w.end = token_from text w.end t is in
        inl (record { tokens = t ∷ r.tokens; spelled = (subst (Comments text i) (sym from) comments, subst (λ n. TokenAt text n (Some t)) (sym from) is, r.spelled) })
    joined t is (inr r) =
        let from : t.from ≡ w.end = token_from text w.end t is in
        inr (record { before = t ∷ r.before; place = r.place; spelled = (subst (Comments text i) (sym from) comments, subst (λ n. TokenAt text n (Some t)) (sym from) is, r.spelled); inside = r.inside; none = r.none })

    by_read : Goes text more → w.end < length text → (read : Option CssToken) → TokenAt text w.end read → Moves text w.end read → Reach text i ⊎ Stuck text i
    by_read go inside None is moves = inr (record { before = []; place = w.end; spelled = comments; inside = inside; none = is })
    by_read go inside (Some t) is moves = let order = w.order in joined t is (go t.to moves.1 (omega (arith, moves.0)))

    by_end : Goes text more → (w.end < length text) ⊎ (length text ≤ w.end) → Reach text i ⊎ Stuck text i
    by_end go (inl inside) = let b = token_some text w.end inside in by_read go inside b.read b.is b.moves
    by_end go (inr far) = reach_end text i w far

-- tokens spell a text that is not too long, or it stops
pub lexes_or_stops : (text : List ℕ) → length text ≤ most_selector → ((tokens : List CssToken) × Lexes text tokens) ⊎ Stops text
lexes_or_stops text fits = elim (tokens_from text (length text) 0 (omega arith) (omega arith)) [
  | inl r ↦ inl (r.tokens, record { fits = fits; spelled = r.spelled })
  | inr r ↦ inr (record { fits = fits; before = r.before; place = r.place; spelled = r.spelled; inside = r.inside; none = r.none })
]
