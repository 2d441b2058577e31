-- A run over pages, up to one of them.
use Rattle.std.proofs.Common.{◌≡◌, ◌≢◌, ℕ, zero, suc, ◌+◌, ◌<◌, ◌≤◌, ◌++◌, List, [], ◌∷◌, Option, Some, None, length, take, drop, refl, sym, ◌∙◌, ap, arith, inl, inr, add-one, string_bytes, map, get_or}
use Rattle.std.specs.Prelude.{IfSome, Bool, true, false, ◌||◌, ◌⊎◌, String, slice_index_or}
use Rattle.std.specs.declared.alloc.Global.{Global}
use Rattle.std.proofs.lemmas.List.{append-nil}
use Rattle.io_edges.specs.Counts.{Rose, Grows}
use Rattle.io_edges.specs.Laws.{TakingLaw}
use Rattle.io_edges.specs.Pages.{page, Lacks}
use Rattle.io_edges.specs.Sink.{grown, TakesPart}
use Rattle.extract_call.specs.Answers.{Answer, bytes_of, refuses, line_bytes}
use Rattle.extract_call.specs.Output.{page_answers, HasAll, Written}
use Rattle.extract_call.specs.Plans.{over}
use Rattle.extract_call.proofs.Ended.{Ended}
use Rattle.extract_call.specs.inner.OnePage.{TakesLine, TakesLinePart}
use Rattle.extract_call.specs.declared.status.Status.{Status}
use Rattle.extract_call.specs.declared.status.Status.TheVariants.{Done, Refused, Usage, ReadFault, WriteFault}
use Rattle.extract_call.proofs.OutputLemmas.{part_of_front, part_behind, part_whole, bytes_of-append, refuses-append, answers_cut, answers_next, answers_more, there_next}
use Rattle.extract_call.proofs.Turns.{turn_at, turn_behind}

-- the lines of the first pages were written
pub record SoFar (line : List ℕ → List ℕ → Answer) (told : List (List ℕ × List ℕ)) (names : List (List ℕ)) (i : ℕ) (old taken : Option (List ℕ)) (refused : Bool) : Type 0 where
  pub there : HasAll told (take i names)
  pub are : taken ≡ grown old (bytes_of (page_answers line told (take i names)))
  pub truth : refuses (page_answers line told (take i names)) ≡ refused

or_false : (r : Bool) → (r || false) ≡ r
or_false true = refl
or_false false = refl

last_bytes : (a : Answer) → bytes_of (a ∷ []) ≡ line_bytes a
last_bytes a = append-nil (line_bytes a)

one_more : (law : TakingLaw) (line : List ℕ → List ℕ → Answer) (told : List (List ℕ × List ℕ)) (names : List (List ℕ)) (i : ℕ) (old mid new : Option (List ℕ)) (refused one : Bool) (name bytes : List ℕ) →
    SoFar line told names i old mid refused → i < length names → slice_index_or names i [] ≡ name → page told name ≡ Some bytes →
    (line name bytes).refused ≡ one → new ≡ grown mid (line_bytes (line name bytes)) → SoFar line told names (suc i) old new (refused || one)
one_more law line told names i old mid new refused one name bytes h w n e r t =
    let more = answers_more line told names i name bytes h.there w n e in
    let first : List Answer = page_answers line told (take i names) in
    record {
      there = there_next told names i name bytes h.there w n e;
      are = t ∙ (ap (λ m. grown m (line_bytes (line name bytes))) h.are ∙ (law.in_turn old (bytes_of first) (line_bytes (line name bytes)) ∙ ap (grown old) (ap (λ x. bytes_of first ++ x) (sym (last_bytes (line name bytes))) ∙ (sym (bytes_of-append first (line name bytes ∷ [])) ∙ ap bytes_of (sym more)))));
      truth = ap refuses more ∙ (refuses-append first (line name bytes ∷ []) ∙ (ap (λ x. refuses first || x) (or_false (line name bytes).refused ∙ r) ∙ ap (λ x. x || one) h.truth));
    }

-- one more page
pub next_page : (law : TakingLaw) (line : List ℕ → List ℕ → Answer) (told : Option (List (List ℕ × List ℕ))) (names : List (List ℕ)) (i : ℕ) (old mid new : Option (List ℕ)) (refused one : Bool) (name : List ℕ) →
    IfSome told (λ t. SoFar line t names i old mid refused) → i < length names → slice_index_or names i [] ≡ name → TakesLine line told name mid new one →
    IfSome told (λ t. SoFar line t names (i + 1) old new (refused || one))
next_page law line None names i old mid new refused one name h w n t = tt
next_page law line (Some told) names i old mid new refused one name h w n t = rw add-one (one_more law line told names i old mid new refused one name t.0 h w n t.1.0 t.1.1.0 t.1.1.1)

pub rose_from : (a b c : ℕ) → a ≤ b → Rose b c → Rose a c
rose_from a b c h (inl l) = inl (omega arith)
rose_from a b c h (inr e) = inr e

-- what was written is a front of all lines
pub prefix_so_far : (line : List ℕ → List ℕ → Answer) (told : List (List ℕ × List ℕ)) (names : List (List ℕ)) (i : ℕ) (old taken : Option (List ℕ)) (refused : Bool) →
    SoFar line told names i old taken refused → TakesPart old (bytes_of (page_answers line told names)) taken
prefix_so_far line told names i old taken refused h =
    rw (answers_cut line told names i h.there, bytes_of-append (page_answers line told (take i names)) (page_answers line told (drop i names)))
    (part_of_front old taken (bytes_of (page_answers line told (take i names))) (bytes_of (page_answers line told (drop i names))) (part_whole old taken (bytes_of (page_answers line told (take i names))) h.are))

prefix_in_line : (law : TakingLaw) (line : List ℕ → List ℕ → Answer) (told : List (List ℕ × List ℕ)) (names : List (List ℕ)) (i : ℕ) (old mid new : Option (List ℕ)) (refused : Bool) (name bytes : List ℕ) →
    SoFar line told names i old mid refused → i < length names → slice_index_or names i [] ≡ name → page told name ≡ Some bytes →
    TakesPart mid (line_bytes (line name bytes)) new → TakesPart old (bytes_of (page_answers line told names)) new
prefix_in_line law line told names i old mid new refused name bytes h w n e t =
    rw (answers_cut line told names i h.there, bytes_of-append (page_answers line told (take i names)) (page_answers line told (drop i names)), answers_next line told names i name bytes h.there w n e)
    (part_behind law old mid new (bytes_of (page_answers line told (take i names))) (line_bytes (line name bytes) ++ bytes_of (page_answers line told (drop (suc i) names))) h.are
    (part_of_front mid new (line_bytes (line name bytes)) (bytes_of (page_answers line told (drop (suc i) names))) t))

prefix_stopped : (law : TakingLaw) (line : List ℕ → List ℕ → Answer) (told : Option (List (List ℕ × List ℕ))) (names : List (List ℕ)) (i : ℕ) (old mid new : Option (List ℕ)) (refused : Bool) (name : List ℕ) →
    IfSome told (λ t. SoFar line t names i old mid refused) → i < length names → slice_index_or names i [] ≡ name →
    (new ≡ mid) ⊎ TakesLinePart line told name mid new → IfSome told (λ t. TakesPart old (bytes_of (page_answers line t names)) new)
prefix_stopped law line None names i old mid new refused name h w n t = tt
prefix_stopped law line (Some told) names i old mid new refused name h w n (inl e) = rw e (prefix_so_far line told names i old mid refused h)
prefix_stopped law line (Some told) names i old mid new refused name h w n (inr t) = prefix_in_line law line told names i old mid new refused name t.0 h w n t.1.0 t.1.1

there_so_far : (line : List ℕ → List ℕ → Answer) (told : Option (List (List ℕ × List ℕ))) (names : List (List ℕ)) (i : ℕ) (old mid : Option (List ℕ)) (refused : Bool) →
    IfSome told (λ t. SoFar line t names i old mid refused) → IfSome told (λ t. HasAll t (take i names))
there_so_far line None names i old mid refused h = tt
there_so_far line (Some told) names i old mid refused h = h.there

are_so_far : (line : List ℕ → List ℕ → Answer) (told : Option (List (List ℕ × List ℕ))) (names : List (List ℕ)) (i : ℕ) (old mid new : Option (List ℕ)) (refused : Bool) →
    IfSome told (λ t. SoFar line t names i old mid refused) → new ≡ mid → IfSome told (λ t. new ≡ grown old (bytes_of (page_answers line t (take i names))))
are_so_far line None names i old mid new refused h e = tt
are_so_far line (Some told) names i old mid new refused h e = e ∙ h.are

-- the walk ended at a page
pub ended_at : (law : TakingLaw) (line : List ℕ → List ℕ → Answer) (told : Option (List (List ℕ × List ℕ))) (names : List (List ℕ)) (i : ℕ) (old mid new : Option (List ℕ)) (refused : Bool) (name : List ℕ)
    (b bi b' f fi f' s si s' : ℕ) (status : Status) →
    IfSome told (λ t. SoFar line t names i old mid refused) → i < length names → slice_index_or names i [] ≡ name →
    Grows b i bi → Grows bi 1 b' → f ≤ fi → s ≤ si → (new ≡ mid) ⊎ TakesLinePart line told name mid new →
    (status ≡ ReadFault → (Rose fi f' ⊎ Lacks told name) × (new ≡ mid)) → (status ≡ WriteFault → Rose si s') →
    status ≢ Done → status ≢ Refused → status ≢ Usage →
    Ended (over line names) told b b' f f' old new s s' status
ended_at law line told names i old mid new refused name b bi b' f fi f' s si s' status h w n gb gb' lf ls t rf wf nd nr nu = record {
  prefix = prefix_stopped law line told names i old mid new refused name h w n t;
  done = λ e. absurd (nd e);
  refused = λ e. absurd (nr e);
  begun_all = neither;
  read_fault = λ e. record {
    before = i;
    within = w;
    count = omega (arith, gb, gb');
    cause = cause_of (rf e).0;
    there = there_so_far line told names i old mid refused h;
    written = are_so_far line told names i old mid new refused h (rf e).1;
  };
  in_turn = turn_at law line told names i old mid new name b bi b' (are_so_far line told names i old mid mid refused h refl) (there_so_far line told names i old mid refused h) w n gb gb' t;
  write_fault = λ e. rose_from s si s' ls (wf e);
  used = nu;
}
  where
    neither : (status ≡ Done) ⊎ (status ≡ Refused) → Grows b (length names) b'
    neither (inl e) = absurd (nd e)
    neither (inr e) = absurd (nr e)

    cause_of : Rose fi f' ⊎ Lacks told name → Rose f f' ⊎ Lacks told (slice_index_or names i [])
    cause_of (inl r) = inl (rose_from f fi f' lf r)
    cause_of (inr l) = inr (rw n l)

take_all : (names : List (List ℕ)) → take (length names) names ≡ names
take_all [] = refl
take_all (x ∷ names) = ap (λ y. x ∷ y) (take_all names)

written_all : (line : List ℕ → List ℕ → Answer) (told : Option (List (List ℕ × List ℕ))) (names : List (List ℕ)) (old new : Option (List ℕ)) (refused : Bool) →
    IfSome told (λ t. SoFar line t names (length names) old new refused) → IfSome told (λ t. Written (over line names) t old new refused)
written_all line None names old new refused h = tt
written_all line (Some told) names old new refused h = record { there = rw (take_all names) at h.there; truth = rw (take_all names) at h.truth; all = rw (take_all names) at h.are }

prefix_all : (line : List ℕ → List ℕ → Answer) (told : Option (List (List ℕ × List ℕ))) (names : List (List ℕ)) (i : ℕ) (old new : Option (List ℕ)) (refused : Bool) →
    IfSome told (λ t. SoFar line t names i old new refused) → IfSome told (λ t. TakesPart old (bytes_of (page_answers line t names)) new)
prefix_all line None names i old new refused h = tt
prefix_all line (Some told) names i old new refused h = prefix_so_far line told names i old new refused h

-- the walk came to the end
pub ended_done : (law : TakingLaw) (line : List ℕ → List ℕ → Answer) (told : Option (List (List ℕ × List ℕ))) (names : List (List ℕ)) (i : ℕ) (old new : Option (List ℕ)) (b b' f f' s s' : ℕ) →
    IfSome told (λ t. SoFar line t names i old new false) → i ≡ length names → Grows b i b' → Ended (over line names) told b b' f f' old new s s' Done
ended_done law line told names i old new b b' f f' s s' h e gb = record {
  prefix = prefix_all line told names i old new false h;
  done = λ z. written_all line told names old new false (rw e at h);
  refused = λ z. absurd (cc);
  begun_all = λ z. rw (← e) gb;
  read_fault = λ z. absurd (cc);
  in_turn = turn_behind law line told names i old new b b' (are_so_far line told names i old new new false h refl) (there_so_far line told names i old new false h) (omega arith) gb;
  write_fault = λ z. absurd (cc);
  used = λ z. cc;
}

pub ended_refused : (law : TakingLaw) (line : List ℕ → List ℕ → Answer) (told : Option (List (List ℕ × List ℕ))) (names : List (List ℕ)) (i : ℕ) (old new : Option (List ℕ)) (b b' f f' s s' : ℕ) →
    IfSome told (λ t. SoFar line t names i old new true) → i ≡ length names → Grows b i b' → Ended (over line names) told b b' f f' old new s s' Refused
ended_refused law line told names i old new b b' f f' s s' h e gb = record {
  prefix = prefix_all line told names i old new true h;
  done = λ z. absurd (cc);
  refused = λ z. written_all line told names old new true (rw e at h);
  begun_all = λ z. rw (← e) gb;
  read_fault = λ z. absurd (cc);
  in_turn = turn_behind law line told names i old new b b' (are_so_far line told names i old new new true h refl) (there_so_far line told names i old new true h) (omega arith) gb;
  write_fault = λ z. absurd (cc);
  used = λ z. cc;
}

-- the name at a place
pub name_at : (names : List (String Global)) (i : ℕ) (name : String Global) → name ≡ get_or names i name → i < length names → slice_index_or (map string_bytes names) i [] ≡ string_bytes name
name_at [] i name e h = absurd (omega arith)
name_at (x ∷ names) zero name e h = ap (λ (y : String Global). string_bytes y) (sym e)
name_at (x ∷ names) (suc i) name e h = name_at names i name e (omega arith)

pub place_within : (names : List (String Global)) (i : ℕ) → i < length names → i < length (map string_bytes names)
place_within [] i h = h
place_within (x ∷ names) zero h = omega arith
place_within (x ∷ names) (suc i) h = let p = place_within names i (omega arith) in omega arith

-- as many names as words
pub places : (names : List (String Global)) → length (map string_bytes names) ≡ length names
places [] = refl
places (x ∷ names) = let p = places names in omega arith
