-- Tokens, one after the other.
use Rattle.std.proofs.Common.{◌≡◌, ℕ, ◌+◌, ◌-◌, ◌<◌, ◌≤◌, Bool, true, false, cond, List, [], ◌∷◌, ◌++◌, length, get_or, sym, subst, arith, ltb, leb}
use borrow.Author.Tests.{ltb-true}
use Rattle.std.specs.Prelude.{◌==◌, ◌||◌, Some, Result, Ok, Err, OnOk}
use Rattle.std.specs.Result.{is_ok}
use Rattle.std.proofs.lemmas.Bool.Decides.{nat_tests}
use Rattle.text_base.specs.Text.{run_end, is_letter}
use Rattle.text_base.proofs.Runs.{run_end_step, run_end_from}
use Rattle.css_lexer.specs.declared.tokens.CssToken.{CssToken}
use Rattle.css_lexer.specs.declared.contents.Content.TheVariants.{Name}
use Rattle.css_lexer.specs.Steps.{Steps}
use Rattle.css_lexer.specs.Escapes.{escape_len}
use Rattle.css_lexer.specs.Contents.{is_plain, slashed_len, unit_len, Reads}
use Rattle.css_lexer.specs.Comments.{Comments}
use Rattle.css_lexer.specs.Tokens.{starts_name, starts_ident, TokenAt, Spell}
use Rattle.css_lexer.proofs.EscapeLemmas.{cases_if}

-- one token more, and the comments after it
pub spell_push : (text : List ℕ) (i j k : ℕ) (tokens : List CssToken) (t : CssToken) → Spell text i tokens j → t.from ≡ j → TokenAt text j (Some t) → Comments text t.to k → Spell text i (tokens ++ t ∷ []) k
spell_push text i j k [] t before from is later =
    (subst (Comments text i) (sym from) before, subst (λ n. TokenAt text n (Some t)) (sym from) is, later)
spell_push text i j k (u ∷ tokens) t before from is later =
    (before.0, before.1, spell_push text u.to j k tokens t before.2 from is later)

steps_order : (len : ℕ → ℕ) (i j : ℕ) (places : List ℕ) → Steps len i places j → i ≤ j
steps_order len i j [] h = let e = h.0 in omega arith
steps_order len i j (k ∷ places) h = omega (arith, steps_order len (i + len i) j places h.2)

steps_move : (len : ℕ → ℕ) (i j : ℕ) (places : List ℕ) → 0 < len i → Steps len i places j → i < j
steps_move len i j [] some h = let none = h.1 in absurd (omega arith)
steps_move len i j (k ∷ places) some h = omega (arith, steps_order len (i + len i) j places h.2)

-- a run that begins moves on
run_some : (p : ℕ → Bool) (text : List ℕ) (i : ℕ) → i < length text → p (get_or text i 0) ≡ true → 0 < run_end p text i - i
run_some p text i inside h = omega (arith, run_end_step p text i inside h, run_end_from p text (i + 1))

start_plain : (b : ℕ) → (is_letter b || (b == 95) || leb 128 b) ≡ true → is_plain Name b ≡ true
start_plain b h = grind (arith, nat_tests)

dash_plain : (b : ℕ) → (b == 45) ≡ true → is_plain Name b ≡ true
dash_plain b h = grind (arith, nat_tests)

plain_unit : (text : List ℕ) (i : ℕ) → i < length text → (get_or text i 0 == 92) ≡ false → is_plain Name (get_or text i 0) ≡ true → 0 < unit_len Name text i
plain_unit text i inside other h =
    subst (λ b. 0 < cond b (slashed_len Name text i) (run_end (is_plain Name) text i - i)) (sym other) (run_some (is_plain Name) text i inside h)

slash_unit : (text : List ℕ) (i : ℕ) → (get_or text i 0 == 92) ≡ true → 0 < escape_len text i → 0 < unit_len Name text i
slash_unit text i slash h =
    subst (λ b. 0 < cond b (slashed_len Name text i) (run_end (is_plain Name) text i - i)) (sym slash) h

dash_no_slash : (b : ℕ) → (b == 45) ≡ true → (b == 92) ≡ false
dash_no_slash b h = grind (arith, nat_tests)

-- where an ident begins a name character stands
ident_unit : (text : List ℕ) (i : ℕ) → i < length text → starts_ident text i ≡ true → 0 < unit_len Name text i
ident_unit text i inside h =
    let b = get_or text i 0 in
    cases_if (b == 45) (starts_name text (i + 1)) (starts_name text i) (λ x. x ≡ true → 0 < unit_len Name text i)
    (λ dash _. plain_unit text i inside (dash_no_slash b dash) (dash_plain b dash))
    (λ _. cases_if (b == 92) (ltb 0 (escape_len text i)) (is_letter b || (b == 95) || leb 128 b) (λ x. x ≡ true → 0 < unit_len Name text i)
    (λ slash k. slash_unit text i slash (ltb-true 0 (escape_len text i) k))
    (λ other k. plain_unit text i inside other (start_plain b k)))
    h

pub ident_moves : (text : List ℕ) (i j : ℕ) (value : List ℕ) → i < length text → starts_ident text i ≡ true → Reads Name text i j value → i < j
ident_moves text i j value inside h reads = steps_move (unit_len Name text) i j reads.places (ident_unit text i inside h) reads.steps

pub on_ok : {A E : Type 0} (r : Result A E) (P : Type 0) → OnOk r P → is_ok r ≡ true → P
on_ok (Ok x) P h e = h
on_ok (Err x) P h e = cc
