-- Lists of lines, and the lines of the first pages of a run.
use Rattle.std.proofs.Common.{◌≡◌, ◌≢◌, ℕ, zero, suc, ◌<◌, ◌++◌, List, [], ◌∷◌, Option, Some, None, length, take, drop, refl, sym, ◌∙◌, ap, append_assoc, arith}
use Rattle.std.specs.Prelude.{Bool, true, false, ◌||◌, slice_index_or}
use Rattle.std.specs.Option.{option_map_or}
use Rattle.std.proofs.lemmas.List.{append-nil}
use Rattle.io_edges.specs.Laws.{TakingLaw}
use Rattle.io_edges.specs.Pages.{page}
use Rattle.io_edges.specs.Sink.{grown, TakesPart}
use Rattle.extract_call.specs.Answers.{Answer, bytes_of, refuses, line_bytes}
use Rattle.extract_call.specs.Output.{page_answers, HasAll}

pub part_of_nothing : (law : TakingLaw) (old : Option (List ℕ)) (bytes : List ℕ) → TakesPart old bytes old
part_of_nothing law old bytes = (bytes, law.none_taken old bytes)

-- a part of what stands at the front is a part of the whole
pub part_of_front : (old new : Option (List ℕ)) (bytes more : List ℕ) → TakesPart old bytes new → TakesPart old (bytes ++ more) new
part_of_front old new bytes more t = (
  t.0 ++ more,
  record {
    front = t.1.front;
    whole = ap (λ x. x ++ more) t.1.whole ∙ append_assoc t.1.front t.0 more;
    taken = t.1.taken;
  },
)

-- a part behind a front that was taken whole
pub part_behind : (law : TakingLaw) (old mid new : Option (List ℕ)) (front bytes : List ℕ) → mid ≡ grown old front → TakesPart mid bytes new → TakesPart old (front ++ bytes) new
part_behind law old mid new front bytes e t = (
  t.0,
  record {
    front = front ++ t.1.front;
    whole = ap (λ x. front ++ x) t.1.whole ∙ sym (append_assoc front t.1.front t.0);
    taken = t.1.taken ∙ (ap (λ m. grown m t.1.front) e ∙ law.in_turn old front t.1.front);
  },
)

-- the whole is a part of itself
pub part_whole : (old new : Option (List ℕ)) (bytes : List ℕ) → new ≡ grown old bytes → TakesPart old bytes new
part_whole old new bytes e = ([], record { front = bytes; whole = sym (append-nil bytes); taken = e })

pub bytes_of-append : (a b : List Answer) → bytes_of (a ++ b) ≡ bytes_of a ++ bytes_of b
bytes_of-append [] b = refl
bytes_of-append (x ∷ a) b = ap (λ y. line_bytes x ++ y) (bytes_of-append a b) ∙ sym (append_assoc (line_bytes x) (bytes_of a) (bytes_of b))

or_assoc : (a b c : Bool) → (a || (b || c)) ≡ ((a || b) || c)
or_assoc true b c = refl
or_assoc false b c = refl

pub refuses-append : (a b : List Answer) → refuses (a ++ b) ≡ (refuses a || refuses b)
refuses-append [] b = refl
refuses-append (x ∷ a) b = ap (λ y. x.refused || y) (refuses-append a b) ∙ or_assoc x.refused (refuses a) (refuses b)

-- where the first pages are there, the lines are theirs and those of the rest
pub answers_cut : (line : List ℕ → List ℕ → Answer) (told : List (List ℕ × List ℕ)) (names : List (List ℕ)) (i : ℕ) → HasAll told (take i names) →
    page_answers line told names ≡ page_answers line told (take i names) ++ page_answers line told (drop i names)
answers_cut line told names zero h = refl
answers_cut line told [] (suc i) h = refl
answers_cut line told (name ∷ names) (suc i) h = here (answers_cut line told names i h.1) (page told name) h.0
  where
    here : page_answers line told names ≡ page_answers line told (take i names) ++ page_answers line told (drop i names) → (found : Option (List ℕ)) → found ≢ None →
        option_map_or (λ bytes. line name bytes ∷ page_answers line told names) found []
        ≡ option_map_or (λ bytes. line name bytes ∷ page_answers line told (take i names)) found [] ++ page_answers line told (drop i names)
    here ih None n = absurd (n refl)
    here ih (Some bytes) n = ap (λ x. line name bytes ∷ x) ih

-- the lines of one page more
pub answers_next : (line : List ℕ → List ℕ → Answer) (told : List (List ℕ × List ℕ)) (names : List (List ℕ)) (i : ℕ) (name bytes : List ℕ) → HasAll told (take i names) →
    i < length names → slice_index_or names i [] ≡ name → page told name ≡ Some bytes →
    page_answers line told (drop i names) ≡ line name bytes ∷ page_answers line told (drop (suc i) names)
answers_next line told [] i name bytes h w n e = absurd (omega arith)
answers_next line told (x ∷ names) zero name bytes h w n e = let q : page told x ≡ Some bytes = (ap (page told) n ∙ e) in rw q (rw n refl)
answers_next line told (x ∷ names) (suc i) name bytes h w n e = answers_next line told names i name bytes h.1 (omega arith) n e

pub there_next : (told : List (List ℕ × List ℕ)) (names : List (List ℕ)) (i : ℕ) (name bytes : List ℕ) → HasAll told (take i names) →
    i < length names → slice_index_or names i [] ≡ name → page told name ≡ Some bytes → HasAll told (take (suc i) names)
there_next told [] i name bytes h w n e = absurd (omega arith)
there_next told (x ∷ names) zero name bytes h w n e = ((λ z. let q : page told x ≡ Some bytes = (ap (page told) n ∙ e) in cc), tt)
there_next told (x ∷ names) (suc i) name bytes h w n e = (h.0, there_next told names i name bytes h.1 (omega arith) n e)

-- the first lines and that of one page more
pub answers_more : (line : List ℕ → List ℕ → Answer) (told : List (List ℕ × List ℕ)) (names : List (List ℕ)) (i : ℕ) (name bytes : List ℕ) → HasAll told (take i names) →
    i < length names → slice_index_or names i [] ≡ name → page told name ≡ Some bytes →
    page_answers line told (take (suc i) names) ≡ page_answers line told (take i names) ++ (line name bytes ∷ [])
answers_more line told [] i name bytes h w n e = absurd (omega arith)
answers_more line told (x ∷ names) zero name bytes h w n e = let q : page told x ≡ Some bytes = (ap (page told) n ∙ e) in rw q (rw n refl)
answers_more line told (x ∷ names) (suc i) name bytes h w n e = here (answers_more line told names i name bytes h.1 (omega arith) n e) (page told x) h.0
  where
    here : page_answers line told (take (suc i) names) ≡ page_answers line told (take i names) ++ (line name bytes ∷ []) → (found : Option (List ℕ)) → found ≢ None →
        option_map_or (λ b. line x b ∷ page_answers line told (take (suc i) names)) found []
        ≡ option_map_or (λ b. line x b ∷ page_answers line told (take i names)) found [] ++ (line name bytes ∷ [])
    here ih None z = absurd (z refl)
    here ih (Some b) z = ap (λ y. line x b ∷ y) ih

-- where a page is lacking, the lines end before it
pub answers_lacking : (line : List ℕ → List ℕ → Answer) (told : List (List ℕ × List ℕ)) (names : List (List ℕ)) (i : ℕ) → HasAll told (take i names) →
    i < length names → page told (slice_index_or names i []) ≡ None → page_answers line told names ≡ page_answers line told (take i names)
answers_lacking line told [] i h w e = absurd (omega arith)
answers_lacking line told (x ∷ names) zero h w e = rw e refl
answers_lacking line told (x ∷ names) (suc i) h w e = here (answers_lacking line told names i h.1 (omega arith) e) (page told x) h.0
  where
    here : page_answers line told names ≡ page_answers line told (take i names) → (found : Option (List ℕ)) → found ≢ None →
        option_map_or (λ b. line x b ∷ page_answers line told names) found []
        ≡ option_map_or (λ b. line x b ∷ page_answers line told (take i names)) found []
    here ih None z = absurd (z refl)
    here ih (Some b) z = ap (λ y. line x b ∷ y) ih

pub not_all : (told : List (List ℕ × List ℕ)) (names : List (List ℕ)) (i : ℕ) → i < length names → page told (slice_index_or names i []) ≡ None → HasAll told names → ⊥
not_all told [] i w e h = absurd (omega arith)
not_all told (x ∷ names) zero w e h = h.0 e
not_all told (x ∷ names) (suc i) w e h = not_all told names i (omega arith) e h.1
