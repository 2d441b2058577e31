-- A place's state is one that the reader keeps.
use Rattle.std.proofs.Common.{◌≡◌, ℕ, ◌+◌, ◌<◌, List, [], ◌∷◌, length, Bool, true, false, sym, refl, ◌∙◌, ap, subst, arith, length-append}
use Rattle.html_reader.specs.Tokens.{Tok}
use Rattle.html_reader.specs.Rows.{text_rows}
use Rattle.html_reader.specs.Places.{Place, outside, within, open_tags, place_grown, Grown}
use Rattle.doc_model.specs.Growing.{innermost}
use Rattle.html_reader.specs.inner.Machine.{State, shuts}
use Rattle.html_reader.specs.inner.States.{IsSound, made_count}
use Rattle.html_reader.specs.declared.reader.Root.{Root}
use Rattle.html_reader.proofs.CalmLemmas.{text_few, place_calm, length-flushed}
use Rattle.html_reader.specs.inner.Reached.{state_at, IsReached}
use Rattle.html_reader.specs.Words.{is_shut}
use Rattle.html_reader.specs.inner.Machine.{closed, after_shuts, state, without_first}
use Rattle.html_reader.specs.Tokens.{Tag}
use Rattle.std.proofs.Common.{Option}
use Rattle.html_reader.proofs.StepLemmas.{reach_shut}

level_at : (made : Bool) (p : Place) → length (place_grown made p).open_rows ≡ made_count made + length (open_tags p)
level_at true (outside piece) = refl
level_at false (outside piece) = refl
level_at made (within before tag piece) = omega (arith, level_at made before)

below_at : (made : Bool) (p : Place) → ((place_grown made p).open_rows ≡ [] → ⊥) → 0 < innermost (place_grown made p).open_rows
below_at true (outside piece) some = omega arith
below_at false (outside piece) some = absurd (some refl)
below_at made (within before tag piece) some =
    let g = place_grown made before in
    omega (arith, (place_calm made before).there, length-flushed (innermost g.open_rows) g.sofar)

pub place_sound : (made : Bool) (p : Place) → IsSound (state_at made p)
place_sound made p = let calm = place_calm made p in record { there = calm.there; inside = calm.inside; level = level_at made p; below_root = below_at made p; calm = (place_calm made p).calm }

pub reached_sound : (next : Option Tok) (s : State) → IsReached next s → IsSound s
reached_sound next s h = subst IsSound h.reached.state (place_sound s.rooted.made h.reached.place)

pub reached_shut : (next : Option Tok) (s : State) → IsReached next s → is_shut s.tags next ≡ true → IsReached next (closed s)
reached_shut next s h must = record { tokens = h.tokens; reached = reach_shut h.tokens next s h.reached must }

pub shuts_tags : (next : Option Tok) (tags : List Tag) (rooted : Root) (g : Grown) → is_shut tags next ≡ true → after_shuts next tags rooted g ≡ shuts next (closed (state tags rooted g))
shuts_tags next [] rooted g h = cc
shuts_tags next (tag ∷ before) rooted g h = rw h refl

pub shuts_more : (next : Option Tok) (s t first : State) → shuts next s ≡ shuts next first → is_shut s.tags next ≡ true → t ≡ closed s → shuts next t ≡ shuts next first
shuts_more next s t first e h is = ap (shuts next) is ∙ sym (shuts_tags next s.tags s.rooted s.grown h) ∙ e

pub none_tags : (next : Option Tok) (tags : List Tag) (rooted : Root) (g : Grown) → is_shut tags next ≡ false → after_shuts next tags rooted g ≡ state tags rooted g
none_tags next [] rooted g h = refl
none_tags next (tag ∷ before) rooted g h = rw h refl

closed_tags : (next : Option Tok) (s : State) → is_shut s.tags next ≡ true → length (closed s).tags + 1 ≡ length s.tags
closed_tags next s h = by_tags s.tags h
  where
    by_tags : (tags : List Tag) → is_shut tags next ≡ true → length (without_first tags) + 1 ≡ length tags
    by_tags [] h = cc
    by_tags (tag ∷ before) h = omega arith

pub closed_room : (next : Option Tok) (s t : State) (most : ℕ) → t ≡ closed s → is_shut s.tags next ≡ true → length s.grown.sofar.rows + length s.tags + 1 < most → length t.grown.sofar.rows + length t.tags + 1 < most
closed_room next s t most is h room =
    omega (arith, room, ap (λ (x : State). length x.tags) is, closed_tags next s h, ap (λ (x : State). length x.grown.sofar.rows) is, length-append s.grown.sofar.rows (text_rows (innermost s.grown.open_rows) s.grown.sofar.waits), text_few (innermost s.grown.open_rows) s.grown.sofar.waits)

pub shut_some : (next : Option Tok) (tags : List Tag) → is_shut tags next ≡ true → 0 < length tags
shut_some next [] h = cc
shut_some next (tag ∷ before) h = omega arith
