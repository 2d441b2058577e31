-- Tokens read one by one.
use Rattle.std.proofs.Common.{◌≡◌, ℕ, ◌+◌, ◌≤◌, List, [], ◌∷◌, ◌++◌, length, Bool, true, false, cond, sym, refl, ◌∙◌, ap, subst, arith, Option, Some, None, Ok, Err, length-append, append-nil, ◌&&◌, inl, inr}
use Rattle.std.specs.Prelude.{Result, not}
use Rattle.text_base.specs.declared.reasons.PageReason.{PageReason}
use Rattle.text_base.specs.declared.reasons.PageReason.TheVariants.{Unclosed, NoRoot}
use Rattle.doc_model.specs.Document.{Document}
use Rattle.doc_model.specs.Growing.{innermost, rest_of}
use Rattle.html_reader.specs.Tokens.{Tag, Tok, Mark}
use Rattle.html_reader.specs.Forest.{nothing}
use Rattle.html_reader.specs.Places.{outside, place_marks, all_rows, Fits, Grown}
use Rattle.html_reader.specs.declared.reader.Root.{Root}
use Rattle.html_reader.specs.Rows.{text_rows}
use Rattle.html_reader.specs.Words.{is_shut}
use Rattle.html_reader.specs.inner.Machine.{State, state, step, shuts, after_shuts, closing, is_empty}
use Rattle.html_reader.specs.Reading.{Builds, Refuses}
use Rattle.html_reader.specs.inner.Reached.{IsSome, state_at}
use Rattle.html_reader.specs.inner.States.{IsSound, made_count, tok_of, Steps}
use Rattle.html_reader.specs.inner.Taking.{LeadsTo, IsLed, size, Takes}
use Rattle.html_reader.specs.declared.token.Token.{Token}
use Rattle.text_base.specs.declared.reasons.PageFault.{PageFault}
use Rattle.html_reader.proofs.RoomLemmas.{step_room, step_made}
use Rattle.html_reader.proofs.StepLemmas.{reach_shuts, reach_token, reach_refused, reach_leads, shuts_made}
use Rattle.html_reader.proofs.SoundLemmas.{reached_sound}
use Rattle.html_reader.proofs.CalmLemmas.{text_few}

pub mid_sound : (next : Option Tok) (old mid : State) → mid ≡ shuts next old → IsLed old → IsSound mid
mid_sound next old mid is h = subst IsSound (sym is) (reached_sound next (shuts next old) (record { tokens = h.tokens; reached = (reach_shuts h.tokens next old.tags old.rooted old.grown (h.led next)).0 }))

pub takes_token : (old mid new : State) (t : Tok) → mid ≡ shuts (Some t) old → step mid t ≡ Ok new → (tokens : List Tok) → LeadsTo tokens old → LeadsTo (tokens ++ t ∷ []) new
takes_token old mid new t is taken tokens led after =
    let r = reach_shuts tokens (Some t) old.tags old.rooted old.grown (led (Some t)) in
    reach_token tokens t (shuts (Some t) old) new r.0 r.1 (ap (λ s. step s t) (sym is) ∙ taken) after

pub refuses_token : (old mid : State) (t : Tok) (reason : PageReason) → mid ≡ shuts (Some t) old → step mid t ≡ Err reason → (tokens : List Tok) → LeadsTo tokens old → Refuses old.rooted.made tokens (Some t) reason
refuses_token old mid t reason is refused tokens led =
    let r = reach_shuts tokens (Some t) old.tags old.rooted old.grown (led (Some t)) in
    subst (λ m. Refuses m tokens (Some t) reason) (shuts_made (Some t) old.tags old.rooted old.grown) (reach_refused tokens t (shuts (Some t) old) reason r.0 r.1 (ap (λ s. step s t) (sym is) ∙ refused))

closing_rows : (g : Grown) → length (closing g).sofar.rows ≤ length g.sofar.rows + 1
closing_rows g = omega (arith, length-append g.sofar.rows (text_rows (innermost g.open_rows) g.sofar.waits), text_few (innermost g.open_rows) g.sofar.waits)

after_size : (next : Option Tok) (tags : List Tag) (rooted : Root) (g : Grown) → size (after_shuts next tags rooted g) ≤ length g.sofar.rows + length tags
after_size next [] rooted g = omega arith
after_size next (tag ∷ before) rooted g = by_test (is_shut (tag ∷ before) next) (after_size next before rooted (closing g))
  where
    by_test : (b : Bool) → size (after_shuts next before rooted (closing g)) ≤ length (closing g).sofar.rows + length before
        → size (cond b (after_shuts next before rooted (closing g)) (state (tag ∷ before) rooted g)) ≤ length g.sofar.rows + length (tag ∷ before)
    by_test true h = omega (arith, h, closing_rows g)
    by_test false h = omega arith

-- inserted ends make no more rows than they close elements
pub mid_size : (next : Option Tok) (old mid : State) → mid ≡ shuts next old → size mid ≤ size old
mid_size next old mid is = subst (λ s. size s ≤ size old) (sym is) (after_size next old.tags old.rooted old.grown)

-- before the first token
root_fits : (made : Bool) → Fits made (outside nothing)
root_fits true = (tt, omega arith)
root_fits false = ((refl, omega arith), omega arith)

pub starts_led : (made : Bool) (s : State) → s ≡ state_at made (outside nothing) → LeadsTo [] s
starts_led made s is after = record {
  place = outside nothing;
  spelled = refl;
  part = λ u v e some. absurd (no_marks (place_marks u) v e some);
  fits = root_fits s.rooted.made;
  state = ap (λ m. state_at m (outside nothing)) (ap (λ (x : State). x.rooted.made) is) ∙ sym is;
}
  where
    no_marks : (w v : List Mark) → w ++ v ≡ [] → IsSome v → ⊥
    no_marks [] v e some = subst IsSome e some
    no_marks (m ∷ w) v e some = cc

no_tags : (tags : List Tag) → is_empty tags ≡ true → tags ≡ []
no_tags [] h = refl
no_tags (t ∷ ts) h = cc

some_tags : (tags : List Tag) → is_empty tags ≡ false → tags ≡ [] → ⊥
some_tags [] h e = cc
some_tags (t ∷ ts) h e = cc

pub refuses_open : (old mid : State) → mid ≡ shuts None old → is_empty mid.tags ≡ false → (tokens : List Tok) → LeadsTo tokens old → Refuses old.rooted.made tokens None Unclosed
refuses_open old mid is some tokens led =
    let r = reach_shuts tokens None old.tags old.rooted old.grown (led None) in
    let last = shuts None old in
    let h : Refuses last.rooted.made tokens None Unclosed = record {
      place = r.0.place;
      leads = reach_leads tokens None last r.0 r.1;
      refused = λ e. some_tags last.tags (ap (λ (s : State). is_empty s.tags) (sym is) ∙ some) (sym (ap (λ (s : State). s.tags) r.0.state) ∙ e);
    } in
    subst (λ m. Refuses m tokens None Unclosed) (shuts_made None old.tags old.rooted old.grown) h

pub refuses_rootless : (old mid : State) → mid ≡ shuts None old → is_empty mid.tags ≡ true → mid.rooted.some ≡ false → (tokens : List Tok) → LeadsTo tokens old → Refuses old.rooted.made tokens None NoRoot
refuses_rootless old mid is none rootless tokens led =
    let r = reach_shuts tokens None old.tags old.rooted old.grown (led None) in
    let last = shuts None old in
    let h : Refuses last.rooted.made tokens None NoRoot = record {
      place = r.0.place;
      leads = reach_leads tokens None last r.0 r.1;
      refused = (
        ap (λ (s : State). s.tags) r.0.state ∙ no_tags last.tags (ap (λ (s : State). is_empty s.tags) (sym is) ∙ none),
        ap (λ (s : State). s.rooted.some) r.0.state ∙ ap (λ (s : State). s.rooted.some) (sym is) ∙ rootless,
      );
    } in
    subst (λ m. Refuses m tokens None NoRoot) (shuts_made None old.tags old.rooted old.grown) h

pub builds : (old mid : State) (doc : Document) → mid ≡ shuts None old → is_empty mid.tags ≡ true → mid.rooted.some ≡ true → doc ≡ all_rows mid.grown → (tokens : List Tok) → LeadsTo tokens old → Builds old.rooted.made tokens doc
builds old mid doc is none rooted made tokens led =
    let r = reach_shuts tokens None old.tags old.rooted old.grown (led None) in
    let last = shuts None old in
    let h : Builds last.rooted.made tokens doc = record {
      place = r.0.place;
      leads = reach_leads tokens None last r.0 r.1;
      closed = ap (λ (s : State). s.tags) r.0.state ∙ no_tags last.tags (ap (λ (s : State). is_empty s.tags) (sym is) ∙ none);
      rooted = ap (λ (s : State). s.rooted.some) r.0.state ∙ ap (λ (s : State). s.rooted.some) (sym is) ∙ rooted;
      rows_are = ap (λ (s : State). all_rows s.grown) r.0.state ∙ ap (λ (s : State). all_rows s.grown) (sym is) ∙ sym made;
    } in
    subst (λ m. Builds m tokens doc) (shuts_made None old.tags old.rooted old.grown) h

-- a step after the ends that the token inserts
pub takes : (old mid new : State) (t : Token) (r : Result (Unit {0}) PageFault) → mid ≡ shuts (Some (tok_of t)) old → Steps mid t r new → Takes old t r new
takes old mid new t (Ok u) is h = (takes_token old mid new (tok_of t) is h, step_made mid (tok_of t) new h ∙ ap (λ (s : State). s.rooted.made) is ∙ shuts_made (Some (tok_of t)) old.tags old.rooted old.grown, omega (arith, step_room mid (tok_of t) new h, mid_size (Some (tok_of t)) old mid is))
takes old mid new t (Err fault) is (inl memory) = inl memory
takes old mid new t (Err fault) is (inr refused) = inr (refused.1, refuses_token old mid (tok_of t) fault.reason is refused.0)

-- where an element is open, a made root counted, a row is
pub still_open : (s : State) → length s.grown.open_rows ≡ made_count s.rooted.made + length s.tags → (not s.rooted.made && is_empty s.tags) ≡ false → s.grown.open_rows ≡ [] → ⊥
still_open s level h e = by_made s.rooted.made s.tags h (sym (ap length e) ∙ level)
  where
    by_made : (made : Bool) (tags : List Tag) → (not made && is_empty tags) ≡ false → 0 ≡ made_count made + length tags → ⊥
    by_made true tags h e = omega (arith, e)
    by_made false [] h e = cc
    by_made false (t ∷ tags) h e = omega (arith, e)

-- where no root is made and no element is open, the text that waits has no row
pub outer_rows : (s : State) → s.grown.open_rows ≡ [] → s.grown.sofar.rows ≡ all_rows s.grown
outer_rows s e = sym (append-nil s.grown.sofar.rows) ∙ ap (λ (ns : List ℕ). s.grown.sofar.rows ++ text_rows (innermost ns) s.grown.sofar.waits) (sym e)

pub rest_none : (s : State) → length s.grown.open_rows ≡ made_count s.rooted.made + length s.tags → s.rooted.made ≡ true → is_empty s.tags ≡ true → rest_of s.grown.open_rows ≡ []
rest_none s level made none = nil_of s.grown.open_rows (level ∙ (λ i. made_count (made i) + length (no_tags s.tags none i)))
  where
    nil_of : (ns : List ℕ) → length ns ≡ 1 → rest_of ns ≡ []
    nil_of [] e = refl
    nil_of (n ∷ []) e = refl
    nil_of (n ∷ (m ∷ ns)) e = absurd (omega (arith, e))
