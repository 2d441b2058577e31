-- A page builds a document or has a fault: which of the two, and what it is.
use Rattle.std.proofs.Common.{◌≡◌, ℕ, zero, suc, ◌-◌, ◌≤◌, inl, inr, Bool, true, false, List, [], ◌∷◌, ◌++◌, length, sym, refl, ◌∙◌, subst, arith, Some, None, Ok, Err}
use Rattle.std.specs.Prelude.{Result}
use Rattle.std.proofs.lemmas.Bool.{cases_lt}
use Rattle.text_base.specs.declared.reasons.PageReason.{PageReason}
use Rattle.doc_model.specs.Document.{Document}
use Rattle.html_lexer.specs.declared.steps.Step.{Step}
use Rattle.html_lexer.specs.declared.steps.Step.TheVariants.{Gives, Fails}
use Rattle.html_lexer.specs.Steps.{StepAt}
use Rattle.html_lexer.specs.Tokens.{Tok as Lexed, tok_at, end_of, last_name}
use Rattle.html_lexer.specs.Lexing.{Begins}
use Rattle.html_reader.specs.Tokens.{Tok}
use Rattle.html_reader.specs.Forest.{nothing}
use Rattle.html_reader.specs.Places.{outside}
use Rattle.html_reader.specs.inner.Machine.{State, step, shuts, is_empty}
use Rattle.html_reader.specs.inner.Reached.{state_at}
use Rattle.html_reader.specs.Reading.{Builds, is_fragment}
use Rattle.html_reader.specs.inner.Taking.{LeadsTo}
use Rattle.html_reader.specs.Pages.{Means, Spells, Whole, IsMade, BuildsPage}
use Rattle.html_reader.specs.PageLaws.{PageAnswer}
use Rattle.html_reader.proofs.MoveLemmas.{some_step}
use Rattle.html_reader.proofs.ReadLemmas.{starts_led, takes_token, refuses_token, refuses_open, refuses_rootless, builds}
use Rattle.html_reader.proofs.SpellLemmas.{moves, some_meaning, spells_none, spells_push}
use Rattle.html_reader.proofs.FaultLemmas.{tree_fault, markup_fault, one_made}
use Rattle.html_reader.proofs.StepLemmas.{shuts_made}
use Rattle.html_reader.proofs.RoomLemmas.{step_made}

-- the tokens that spell the whole page build it
pub page_builds : {made : Bool} (page : List ℕ) (at : ℕ) (ts : List Tok) (doc : Document) → IsMade page made → Spells page at ts → at ≡ length page → Builds made ts doc → BuildsPage page doc
page_builds {made} page at ts doc gets s e b =
    let whole : Whole page = record { tokens = ts; at = at; spelled = s; stops = inl e } in
    let own : IsMade page (is_fragment ts) = record { whole = whole; is = refl } in
    record { tokens = ts; spelled = subst (λ n. Spells page n ts) e s; builds = subst (λ m. Builds m ts doc) (one_made page made (is_fragment ts) gets own) b }

-- what the end of the page gives
at_end : (page : List ℕ) (at : ℕ) (ts : List Tok) (s : Spells page at ts) (state : State) → IsMade page state.rooted.made → LeadsTo ts state → at ≡ length page → PageAnswer page
at_end page at ts s state gets led e = by_open (is_empty last.tags) refl last.rooted.some refl
  where
    last : State
    last = shuts None state

    by_open : (none : Bool) → is_empty (shuts None state).tags ≡ none → (rooted : Bool) → (shuts None state).rooted.some ≡ rooted → PageAnswer page
    by_open false some rooted is = inr (_, at, tree_fault page at ts s None _ gets e (refuses_open state (shuts None state) refl some ts led))
    by_open true none false is = inr (_, at, tree_fault page at ts s None _ gets e (refuses_rootless state (shuts None state) refl none is ts led))
    by_open true none true is = inl (_, page_builds page at ts _ gets s e (builds state (shuts None state) _ refl none is refl ts led))

-- what a token gives, where the rest of the page is read already
at_token : (page : List ℕ) (at : ℕ) (ts : List Tok) (s : Spells page at ts) (state : State) → IsMade page state.rooted.made → LeadsTo ts state → (x : Lexed) (t : Tok) → Begins page (last_name [] s.read) at x → Means (last_name [] s.read) x t
    → ((new : State) → IsMade page new.rooted.made → LeadsTo (ts ++ t ∷ []) new → PageAnswer page) → PageAnswer page
at_token page at ts s state gets led x t begins means more = by_step (step (shuts (Some t) state) t) refl
  where
    by_step : (r : Result State PageReason) → step (shuts (Some t) state) t ≡ r → PageAnswer page
    by_step (Ok new) is = more new (subst (IsMade page) (sym (step_made (shuts (Some t) state) t new is ∙ shuts_made (Some t) state.tags state.rooted state.grown)) gets) (takes_token state (shuts (Some t) state) new t refl is ts led)
    by_step (Err reason) is = inr (reason, at, tree_fault page at ts s (Some t) reason gets (x, begins, means) (refuses_token state (shuts (Some t) state) t reason refl is ts led))

from_place : (fuel : ℕ) (page : List ℕ) (at : ℕ) (ts : List Tok) (s : Spells page at ts) (state : State) → IsMade page state.rooted.made → LeadsTo ts state → at ≤ length page → length page - at ≤ fuel → PageAnswer page
from_place zero page at ts s state gets led within few = at_end page at ts s state gets led (omega (arith, within, few))
from_place (suc fuel) page at ts s state gets led within few =
    elim (cases_lt at (length page)) [
      | inl before ↦ by_step (some_step page (last_name [] s.read) at before).0 (some_step page (last_name [] s.read) at before).1 (λ x t begins means new got leads. from_place fuel page (end_of x) (ts ++ t ∷ []) (spells_push page at ts s x t begins means) new got leads (moves page (last_name [] s.read) at x begins).1 (let m = (moves page (last_name [] s.read) at x begins) in omega (arith, m, few)))
      | inr past ↦ at_end page at ts s state gets led (omega (arith, within, past))
    ]
  where
    by_step : (r : Step) → StepAt page (last_name [] s.read) at r
        → ((x : Lexed) (t : Tok) → Begins page (last_name [] s.read) at x → Means (last_name [] s.read) x t → (new : State) → IsMade page new.rooted.made → LeadsTo (ts ++ t ∷ []) new → PageAnswer page) → PageAnswer page
    by_step (Fails reason) h more = inr (reason, at, markup_fault page at ts s state reason gets led h)
    by_step (Gives parts) h more =
        let x : Lexed = tok_at page at parts in
        let begins : Begins page (last_name [] s.read) at x = (parts, h, refl) in
        let t = some_meaning page (last_name [] s.read) at x begins in
        at_token page at ts s state gets led x t.0 begins t.1 (more x t.0 begins t.1)

-- each page has all of its tokens, or those before its markup is refused
whole_from : (fuel : ℕ) (page : List ℕ) (at : ℕ) (ts : List Tok) (s : Spells page at ts) → at ≤ length page → length page - at ≤ fuel → Whole page
whole_from zero page at ts s within few = record { tokens = ts; at = at; spelled = s; stops = inl (omega (arith, within, few)) }
whole_from (suc fuel) page at ts s within few =
    elim (cases_lt at (length page)) [
      | inl before ↦ by_step (some_step page (last_name [] s.read) at before).0 (some_step page (last_name [] s.read) at before).1 (λ x t begins means. whole_from fuel page (end_of x) (ts ++ t ∷ []) (spells_push page at ts s x t begins means) (moves page (last_name [] s.read) at x begins).1 (let m = (moves page (last_name [] s.read) at x begins) in omega (arith, m, few)))
      | inr past ↦ record { tokens = ts; at = at; spelled = s; stops = inl (omega (arith, within, past)) }
    ]
  where
    by_step : (r : Step) → StepAt page (last_name [] s.read) at r → ((x : Lexed) (t : Tok) → Begins page (last_name [] s.read) at x → Means (last_name [] s.read) x t → Whole page) → Whole page
    by_step (Fails reason) h more = record { tokens = ts; at = at; spelled = s; stops = inr (reason, h) }
    by_step (Gives parts) h more =
        let x : Lexed = tok_at page at parts in
        let begins : Begins page (last_name [] s.read) at x = (parts, h, refl) in
        let t = some_meaning page (last_name [] s.read) at x begins in
        more x t.0 begins t.1

pub some_whole : (page : List ℕ) → Whole page
some_whole page = whole_from (length page) page 0 [] (spells_none page) (omega arith) (omega arith)

pub a_reading : (page : List ℕ) → PageAnswer page
a_reading page =
    let whole = some_whole page in
    let made = is_fragment whole.tokens in
    let first = state_at made (outside nothing) in
    from_place (length page) page 0 [] (spells_none page) first (record { whole = whole; is = refl }) (starts_led made first refl) (omega arith) (omega arith)
