-- What a run writes, and how it ends.
use Rattle.std.specs.Prelude.{◌≡◌, ◌≢◌, ◌<◌, ◌≤◌, ℕ, ◌+◌, ◌⊎◌, Bool, true, false, List, [], ◌∷◌, length, take, drop, Option, Some, None, IfSome, slice_index_or}
use Rattle.std.specs.Option.{option_map_or}
use Rattle.io_edges.specs.Counts.{Rose, Grows}
use Rattle.io_edges.specs.Pages.{page, Lacks}
use Rattle.io_edges.specs.Sink.{grown, TakesPart}
use Rattle.extract_call.specs.Answers.{Answer, bytes_of, refuses}
use Rattle.extract_call.specs.Plans.{Plan, alone, over}
use Rattle.extract_call.specs.declared.status.Status.{Status}
use Rattle.extract_call.specs.declared.status.Status.TheVariants.{Done, Refused, Memory, ReadFault}

-- the pages of a run
abbrev pub names_of : Plan → List (List ℕ)
names_of (alone a) = []
names_of (over line names) = names

-- the lines of pages, up to the first name that is not there
abbrev pub page_answers : (List ℕ → List ℕ → Answer) → List (List ℕ × List ℕ) → List (List ℕ) → List Answer
page_answers line told [] = []
page_answers line told (name ∷ names) = option_map_or (λ bytes. line name bytes ∷ page_answers line told names) (page told name) []

-- the lines of a run: its output is their bytes, and the truth whether one of them holds a refusal
abbrev pub answers : Plan → List (List ℕ × List ℕ) → List Answer
answers (alone a) told = a ∷ []
answers (over line names) told = page_answers line told names

-- what is told of the pages: a run without pages needs nothing told
abbrev pub known : Plan → Option (List (List ℕ × List ℕ)) → Option (List (List ℕ × List ℕ))
known (alone a) told = Some []
known (over line names) told = told

-- each of the pages is there
abbrev pub HasAll : List (List ℕ × List ℕ) → List (List ℕ) → Type 0
HasAll told [] = Unit {0}
HasAll told (name ∷ names) = (page told name ≢ None) × HasAll told names

-- the lines of the first pages of a run
abbrev pub first_answers : Plan → List (List ℕ × List ℕ) → ℕ → List Answer
first_answers (alone a) told i = []
first_answers (over line names) told i = page_answers line told (take i names)

-- The run ended at a page that was not read whole, after so many pages before it.
pub record Stopped (plan : Plan) (told : Option (List (List ℕ × List ℕ))) (begun begun' faults faults' : ℕ) (taken taken' : Option (List ℕ)) : Type 0 where
  pub before : ℕ
  pub within : before < length (names_of plan)
  pub count : Grows begun (before + 1) begun'
  pub cause : Rose faults faults' ⊎ Lacks told (slice_index_or (names_of plan) before [])
  pub there : IfSome told (λ pages. HasAll pages (take before (names_of plan)))
  pub written : IfSome told (λ pages. taken' ≡ grown taken (bytes_of (first_answers plan pages before)))

-- the lines that stand open where so many pages were written and so many begun: that of the page in turn, and that of a run without pages
abbrev pub open_answers : Plan → List (List ℕ × List ℕ) → ℕ → ℕ → List Answer
open_answers (alone a) told i j = a ∷ []
open_answers (over line names) told i j = page_answers line told (drop i (take j names))

-- The pages come in turn: a page is begun when the lines of all pages before it are written and not earlier, and no other is begun
-- while its own line is not written whole.
pub record InTurn (plan : Plan) (told : Option (List (List ℕ × List ℕ))) (begun begun' : ℕ) (taken taken' : Option (List ℕ)) : Type 0 where
  pub before : ℕ
  pub begins : ℕ
  pub next : (begins ≡ before) ⊎ (begins ≡ before + 1)
  pub within : begins ≤ length (names_of plan)
  pub count : Grows begun begins begun'
  pub there : IfSome (known plan told) (λ pages. HasAll pages (take before (names_of plan)))
  pub written : IfSome (known plan told) (λ pages.
      TakesPart (grown taken (bytes_of (first_answers plan pages before))) (bytes_of (open_answers plan pages before begins)) taken')

-- each page is there, all lines were written, and the truth of the output is this
pub record Written (plan : Plan) (told : List (List ℕ × List ℕ)) (taken taken' : Option (List ℕ)) (refused : Bool) : Type 0 where
  pub there : HasAll told (names_of plan)
  pub truth : refuses (answers plan told) ≡ refused
  pub all : taken' ≡ grown taken (bytes_of (answers plan told))

-- All was written and the status is by its truth, or no memory was found.
abbrev pub Completes : Plan → List (List ℕ × List ℕ) → Option (List ℕ) → Option (List ℕ) → Status → Type 0
Completes plan told taken taken' status =
    (status ≡ Memory) ⊎ (((status ≡ Done) × Written plan told taken taken' false) ⊎ ((status ≡ Refused) × Written plan told taken taken' true))

-- All up to the page that is lacking was written, or no memory was found.
abbrev pub Lacking : Plan → List (List ℕ × List ℕ) → Option (List ℕ) → Option (List ℕ) → Status → Type 0
Lacking plan told taken taken' status =
    (status ≡ Memory) ⊎ ((status ≡ ReadFault) × (taken' ≡ grown taken (bytes_of (answers plan told))))
