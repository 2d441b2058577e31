-- The line of a page, which is made of what is asked of its document, of its name and its bytes, and of nothing else.
use Rattle.std.specs.Prelude.{◌≡◌, ◌≤◌, ◌<◌, ℕ, ◌⊎◌, true, false, List, [], ◌∷◌, length, Ok, Err, encode_utf8_all}
use Rattle.std.specs.List.{list_any}
use Rattle.text_base.specs.declared.reasons.PageFault.{PageFault}
use Rattle.text_base.specs.declared.reasons.PageReason.TheVariants.{TooLong}
use Rattle.text_base.specs.Decoding.{decoded}
use Rattle.doc_model.specs.Document.{Document}
use Rattle.html_reader.specs.Pages.{BuildsPage, IsPageFault}
use Rattle.test_registry.specs.Names.{Known}
use Rattle.markup_out.specs.Markup.{canonical}
use Rattle.json_lines.specs.Pages.{refused_text}
use Rattle.page_records.specs.declared.script.Entry.{Entry}
use Rattle.page_records.specs.declared.script.EntryValue.{EntryValue}
use Rattle.page_records.specs.Lines.{line_text, holds_refusal}
use Rattle.page_records.specs.Records.{IsEntryValue}
use Rattle.extract_call.specs.Answers.{Answer}
pub use Rattle.io_edges.specs.Pages.{most_page}

-- why a page with more bytes is refused: the place is that of the first byte too many
abbrev pub too_long : PageFault
too_long = record { reason = TooLong; at = most_page }

pub record IsTooLong (bytes : List ℕ) (fault : PageFault) : Type 0 where
  pub long : most_page < length bytes
  pub is : fault ≡ too_long

-- the bytes are no text, and the place is in the bytes as they were read
pub record IsNoText (bytes : List ℕ) (fault : PageFault) : Type 0 where
  pub short : length bytes ≤ most_page
  pub is : decoded bytes ≡ Err fault

-- the text of the bytes builds no tree, and the place is in that text
pub record IsNoTree (bytes : List ℕ) (fault : PageFault) : Type 0 where
  pub short : length bytes ≤ most_page
  pub text : List ℕ
  pub decodes : decoded bytes ≡ Ok text
  pub is : IsPageFault text fault.reason fault.at

-- why the page of these bytes is refused
abbrev pub IsPageRefused : List ℕ → PageFault → Type 0
IsPageRefused bytes fault = IsTooLong bytes fault ⊎ (IsNoText bytes fault ⊎ IsNoTree bytes fault)

-- the page is refused: the line has the place, the name and the reason
pub record IsRefusedPageLine (name bytes : List ℕ) (a : Answer) : Type 0 where
  pub fault : PageFault
  pub cause : IsPageRefused bytes fault
  pub line : a ≡ record { text = refused_text name fault; refused = true }

-- ---- the line of a page, where `shows` says what a document shows: by the page's name, its line, with the truth whether it
-- ---- holds a refusal

-- the text of the bytes builds a document, and this is its line
pub record IsShownLine (shows : List ℕ → Document → Answer → Type 0) (name bytes : List ℕ) (a : Answer) : Type 0 where
  pub short : length bytes ≤ most_page
  pub text : List ℕ
  pub decodes : decoded bytes ≡ Ok text
  pub doc : Document
  pub builds : BuildsPage text doc
  pub shown : shows name doc a

-- the line of a page, by what its document shows
abbrev pub IsPageLine : (List ℕ → Document → Answer → Type 0) → List ℕ → List ℕ → Answer → Type 0
IsPageLine shows name bytes a = IsRefusedPageLine name bytes a ⊎ IsShownLine shows name bytes a

-- what makes the line of each page
abbrev pub MakesLines : (List ℕ → Document → Answer → Type 0) → (List ℕ → List ℕ → Answer) → Type 0
MakesLines shows line = (name bytes : List ℕ) → IsPageLine shows name bytes (line name bytes)

-- ---- what a document shows by the entries of a script, where some tests are stored

-- each entry has the value at its place: a field its own, and a block its records or its reason
abbrev pub AreValues : Known → Document → List Entry → List EntryValue → Type 0
AreValues tests doc [] [] = Unit {0}
AreValues tests doc [] (v ∷ values) = ⊥
AreValues tests doc (e ∷ entries) [] = ⊥
AreValues tests doc (e ∷ entries) (v ∷ values) = IsEntryValue tests doc e v × AreValues tests doc entries values

-- The line of a page has the entries of the script in their order, each with its value on the document, and the page's name. It
-- holds a refusal where an entry is refused or a field of a record is.
pub record IsValuesLine (tests : Known) (entries : List Entry) (name : List ℕ) (doc : Document) (a : Answer) : Type 0 where
  pub values : List EntryValue
  pub are : AreValues tests doc entries values
  pub line : a ≡ record { text = line_text name entries values; refused = list_any holds_refusal values }

-- ---- what a document shows as it is to be kept

-- its canonical markup, whatever the page's name is
abbrev pub IsMarkupLine : List ℕ → Document → Answer → Type 0
IsMarkupLine name doc a = a ≡ record { text = encode_utf8_all (canonical doc); refused = false }
