-- What is written about a page, which is told by its bytes alone.
use Rattle.std.specs.Prelude.{◌≡◌, ◌≤◌, ℕ, ◌⊎◌, true, nat_lt, List, [], ◌++◌, length, codes, decimal, Result, Ok, Err, Some, None, if◌then◌else◌}
use Rattle.text_base.specs.declared.reasons.PageFault.{PageFault}
use Rattle.text_base.specs.Decoding.{decoded}
use Rattle.doc_model.specs.Document.{Document}
use Rattle.html_reader.specs.Pages.{BuildsPage}
use Rattle.extract_call.specs.Answers.{Answer}
use Rattle.extract_call.specs.PageLines.{most_page, IsPageRefused}
use Rattle.refusal_texts.specs.declared.refusal.Refusal.TheVariants as refusal
use Rattle.refusal_texts.specs.Written.{refusal_text}
use Rattle.why_call.specs.Answers.{nothing}

-- where the bytes are too many or no text, the place is the number of a byte
abbrev pub byte_text : PageFault → List ℕ
byte_text fault = codes "byte " ++ (decimal fault.at ++ (codes ": " ++ refusal_text (refusal.Page fault.reason) [] None))

abbrev pub decoded_fault_text : Result (List ℕ) PageFault → PageFault → List ℕ
decoded_fault_text (Ok text) fault = refusal_text (refusal.Page fault.reason) text (Some fault.at)
decoded_fault_text (Err other) fault = byte_text fault

-- what is written of a refused page: where its bytes are a text that is not too long, the place is one of that text
abbrev pub fault_text : List ℕ → PageFault → List ℕ
fault_text bytes fault = if nat_lt most_page (length bytes) then byte_text fault else decoded_fault_text (decoded bytes) fault

-- the page is refused
pub record IsPageAnswerRefused (bytes : List ℕ) (a : Answer) : Type 0 where
  pub fault : PageFault
  pub cause : IsPageRefused bytes fault
  pub line : a ≡ record { text = fault_text bytes fault; refused = true }

-- the text of the bytes builds a document
pub record IsPageKept (bytes : List ℕ) (a : Answer) : Type 0 where
  pub short : length bytes ≤ most_page
  pub text : List ℕ
  pub decodes : decoded bytes ≡ Ok text
  pub doc : Document
  pub builds : BuildsPage text doc
  pub line : a ≡ nothing

abbrev pub IsPageAnswer : List ℕ → Answer → Type 0
IsPageAnswer bytes a = IsPageAnswerRefused bytes a ⊎ IsPageKept bytes a

-- what makes the answer of each page, whatever its name is
abbrev pub MakesAnswers : (List ℕ → List ℕ → Answer) → Type 0
MakesAnswers line = (name bytes : List ℕ) → IsPageAnswer bytes (line name bytes)
