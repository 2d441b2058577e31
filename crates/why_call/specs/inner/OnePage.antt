-- What is written of a page within the limit, by its text.
use Rattle.std.specs.Prelude.{◌≡◌, ℕ, ◌⊎◌, List, Some}
use Rattle.text_base.specs.declared.reasons.PageFault.{PageFault}
use Rattle.doc_model.specs.Document.{Document}
use Rattle.html_reader.specs.Pages.{BuildsPage, IsPageFault}
use Rattle.extract_call.specs.Answers.{Answer}
use Rattle.refusal_texts.specs.declared.refusal.Refusal.TheVariants as refusal
use Rattle.why_call.specs.Answers.{nothing, refused_at}

-- the text has a fault, and the answer has it
pub record IsTextRefused (text : List ℕ) (a : Answer) : Type 0 where
  pub fault : PageFault
  pub is : IsPageFault text fault.reason fault.at
  pub line : a ≡ refused_at (refusal.Page fault.reason) text (Some fault.at)

-- the text builds a document
pub record IsTextKept (text : List ℕ) (a : Answer) : Type 0 where
  pub doc : Document
  pub builds : BuildsPage text doc
  pub line : a ≡ nothing

abbrev pub IsTextAnswer : List ℕ → Answer → Type 0
IsTextAnswer text a = IsTextRefused text a ⊎ IsTextKept text a
