-- One page of a run.
use Rattle.std.specs.Prelude.{◌≡◌, ◌≢◌, ◌≤◌, ◌⊎◌, ℕ, Bool, true, List, Option, Some, IfSome, Result, Ok, Err}
use Rattle.text_base.specs.declared.reasons.PageFault.{PageFault}
use Rattle.doc_model.specs.Document.{Document}
use Rattle.html_reader.specs.Pages.{BuildsPage, IsPageFault}
use Rattle.json_lines.specs.Pages.{refused_text}
use Rattle.io_edges.specs.Counts.{Rose}
use Rattle.io_edges.specs.Pages.{page}
use Rattle.io_edges.specs.Sink.{grown, TakesPart}
use Rattle.extract_call.specs.Answers.{Answer, line_bytes}
use Rattle.extract_call.specs.Runs.{PagesAt, SinkAt}
use Rattle.extract_call.specs.declared.status.Status.{Status}
use Rattle.extract_call.specs.declared.status.Status.TheVariants.{Done, ReadFault, WriteFault}

-- the text has a fault, and the line has it
pub record IsFaultLine (name text : List ℕ) (a : Answer) : Type 0 where
  pub fault : PageFault
  pub is : IsPageFault text fault.reason fault.at
  pub line : a ≡ record { text = refused_text name fault; refused = true }

-- the text builds a document, and this is its line
pub record IsBuiltLine (shows : List ℕ → Document → Answer → Type 0) (name text : List ℕ) (a : Answer) : Type 0 where
  pub doc : Document
  pub builds : BuildsPage text doc
  pub shown : shows name doc a

-- the line of a text within the limit
abbrev pub IsTextLine : (List ℕ → Document → Answer → Type 0) → List ℕ → List ℕ → Answer → Type 0
IsTextLine shows name text a = IsFaultLine name text a ⊎ IsBuiltLine shows name text a

-- where the pages are told, this one is there and its line was taken
abbrev pub TakesLine : (List ℕ → List ℕ → Answer) → Option (List (List ℕ × List ℕ)) → List ℕ → Option (List ℕ) → Option (List ℕ) → Bool → Type 0
TakesLine line told name taken taken' refused = IfSome told (λ pages. (bytes : List ℕ) × ((page pages name ≡ Some bytes) × (((line name bytes).refused ≡ refused) × (taken' ≡ grown taken (line_bytes (line name bytes))))))

-- where the pages are told, this one is there and a part of its line was taken
abbrev pub TakesLinePart : (List ℕ → List ℕ → Answer) → Option (List (List ℕ × List ℕ)) → List ℕ → Option (List ℕ) → Option (List ℕ) → Type 0
TakesLinePart line told name taken taken' = IfSome told (λ pages. (bytes : List ℕ) × ((page pages name ≡ Some bytes) × TakesPart taken (line_bytes (line name bytes)) taken'))

-- the status that one page of a run stands for: a page that was written does not end the run
abbrev pub status_of : {A : Type 0} → Result A Status → Status
status_of (Ok x) = Done
status_of (Err status) = status

-- what the counts say of how one page of a run ended
pub record Counted {P : Type 0} (pages pages' : PagesAt P) (sink sink' : SinkAt) (status : Status) : Type 0 where
  pub told : pages'.told ≡ pages.told
  pub write_fault : status ≡ WriteFault → Rose sink.faults sink'.faults
  pub page_faults : pages.faults ≤ pages'.faults
  pub sink_faults : sink.faults ≤ sink'.faults
  pub pages_uncounted : status ≢ ReadFault → pages'.faults ≡ pages.faults
  pub sink_uncounted : status ≢ WriteFault → sink'.faults ≡ sink.faults
