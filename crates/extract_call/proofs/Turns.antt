-- Pages in turn: what was written when so many of them were begun.
use Rattle.std.proofs.Common.{◌≡◌, ℕ, zero, suc, ◌+◌, ◌<◌, ◌≤◌, List, [], ◌∷◌, Option, Some, None, length, take, drop, refl, ◌∙◌, ap, arith, inl, inr, add-one}
use Rattle.std.specs.Prelude.{IfSome, ◌⊎◌, slice_index_or}
use Rattle.std.proofs.lemmas.List.{append-nil}
use Rattle.io_edges.specs.Counts.{Grows}
use Rattle.io_edges.specs.Laws.{TakingLaw}
use Rattle.io_edges.specs.Pages.{page}
use Rattle.io_edges.specs.Sink.{grown, TakesPart}
use Rattle.extract_call.specs.Answers.{Answer, bytes_of, line_bytes}
use Rattle.extract_call.specs.inner.OnePage.{TakesLinePart}
use Rattle.extract_call.specs.Output.{page_answers, HasAll, InTurn}
use Rattle.extract_call.specs.Plans.{Plan, alone, over}
use Rattle.extract_call.proofs.OutputLemmas.{part_of_nothing}

-- the one page behind the first ones
open_page : (names : List (List ℕ)) (i : ℕ) (name : List ℕ) → i < length names → slice_index_or names i [] ≡ name → drop i (take (suc i) names) ≡ name ∷ []
open_page [] i name w n = absurd (omega arith)
open_page (x ∷ names) zero name w n = ap (λ y. y ∷ []) n
open_page (x ∷ names) (suc i) name w n = open_page names i name (omega arith) n

-- its line
open_line : (line : List ℕ → List ℕ → Answer) (told : List (List ℕ × List ℕ)) (names : List (List ℕ)) (i : ℕ) (name bytes : List ℕ) →
    i < length names → slice_index_or names i [] ≡ name → page told name ≡ Some bytes →
    bytes_of (page_answers line told (drop i (take (i + 1) names))) ≡ line_bytes (line name bytes)
open_line line told names i name bytes w n e = rw (add-one, open_page names i name w n, e) (append-nil (line_bytes (line name bytes)))

-- the lines of the first pages were written
abbrev pub AreWritten : (List ℕ → List ℕ → Answer) → Option (List (List ℕ × List ℕ)) → List (List ℕ) → ℕ → Option (List ℕ) → Option (List ℕ) → Type 0
AreWritten line told names i old mid = IfSome told (λ t. mid ≡ grown old (bytes_of (page_answers line t (take i names))))

written_in_turn : (law : TakingLaw) (line : List ℕ → List ℕ → Answer) (told : Option (List (List ℕ × List ℕ))) (names : List (List ℕ)) (i : ℕ) (old mid new : Option (List ℕ)) (name : List ℕ) →
    AreWritten line told names i old mid → i < length names → slice_index_or names i [] ≡ name → (new ≡ mid) ⊎ TakesLinePart line told name mid new →
    IfSome told (λ t. TakesPart (grown old (bytes_of (page_answers line t (take i names)))) (bytes_of (page_answers line t (drop i (take (i + 1) names)))) new)
written_in_turn law line None names i old mid new name h w n t = tt
written_in_turn law line (Some told) names i old mid new name h w n (inl e) = rw (e ∙ h) (part_of_nothing law _ _)
written_in_turn law line (Some told) names i old mid new name h w n (inr t) = rw (← h, open_line line told names i name t.0 w n t.1.0) t.1.1

-- the run ended at a page that was begun
pub turn_at : (law : TakingLaw) (line : List ℕ → List ℕ → Answer) (told : Option (List (List ℕ × List ℕ))) (names : List (List ℕ)) (i : ℕ) (old mid new : Option (List ℕ)) (name : List ℕ) (b bi b' : ℕ) →
    AreWritten line told names i old mid → IfSome told (λ t. HasAll t (take i names)) → i < length names → slice_index_or names i [] ≡ name →
    Grows b i bi → Grows bi 1 b' → (new ≡ mid) ⊎ TakesLinePart line told name mid new → InTurn (over line names) told b b' old new
turn_at law line told names i old mid new name b bi b' h there w n gb gb' t = record {
  before = i;
  begins = i + 1;
  next = inr refl;
  within = omega arith;
  count = omega (arith, gb, gb');
  there = there;
  written = written_in_turn law line told names i old mid new name h w n t;
}

nothing_behind : (law : TakingLaw) (line : List ℕ → List ℕ → Answer) (told : Option (List (List ℕ × List ℕ))) (names : List (List ℕ)) (i : ℕ) (old new : Option (List ℕ)) → AreWritten line told names i old new →
    IfSome told (λ t. TakesPart (grown old (bytes_of (page_answers line t (take i names)))) (bytes_of (page_answers line t (drop i (take i names)))) new)
nothing_behind law line None names i old new h = tt
nothing_behind law line (Some told) names i old new h = rw h (part_of_nothing law _ _)

-- the run ended behind a page
pub turn_behind : (law : TakingLaw) (line : List ℕ → List ℕ → Answer) (told : Option (List (List ℕ × List ℕ))) (names : List (List ℕ)) (i : ℕ) (old new : Option (List ℕ)) (b b' : ℕ) →
    AreWritten line told names i old new → IfSome told (λ t. HasAll t (take i names)) → i ≤ length names → Grows b i b' → InTurn (over line names) told b b' old new
turn_behind law line told names i old new b b' h there w gb = record {
  before = i;
  begins = i;
  next = inl refl;
  within = w;
  count = gb;
  there = there;
  written = nothing_behind law line told names i old new h;
}

-- the line of a run without pages
pub turn_alone : (law : TakingLaw) (a : Answer) (told : Option (List (List ℕ × List ℕ))) (old new : Option (List ℕ)) (b : ℕ) → TakesPart old (line_bytes a) new → InTurn (alone a) told b b old new
turn_alone law a told old new b t = record {
  before = 0;
  begins = 0;
  next = inl refl;
  within = omega arith;
  count = omega arith;
  there = tt;
  written = rw (← law.nothing old, append-nil (line_bytes a)) t;
}

-- nothing was written, and no page begun
pub turn_of_nothing : (law : TakingLaw) (plan : Plan) (told : Option (List (List ℕ × List ℕ))) (old : Option (List ℕ)) (b : ℕ) → InTurn plan told b b old old
turn_of_nothing law (alone a) told old b = turn_alone law a told old old b (part_of_nothing law old (line_bytes a))
turn_of_nothing law (over line names) told old b = turn_behind law line told names 0 old old b b (none_written told) (none_there told) (omega arith) (omega arith)
  where
    none_written : (told : Option (List (List ℕ × List ℕ))) → AreWritten line told names 0 old old
    none_written None = tt
    none_written (Some t) = law.nothing old

    none_there : (told : Option (List (List ℕ × List ℕ))) → IfSome told (λ t. HasAll t (take 0 names))
    none_there None = tt
    none_there (Some t) = tt
