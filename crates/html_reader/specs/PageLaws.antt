-- What holds of all pages, and of all words.
use Rattle.std.specs.Prelude.{◌≡◌, ℕ, ◌≤◌, List, length, Option, ◌⊎◌}
use Rattle.std.specs.Str.{IsUtf8}
use Rattle.text_base.specs.Limits.{most_page}
use Rattle.text_base.specs.declared.reasons.PageReason.{PageReason}
use Rattle.text_base.specs.declared.reasons.PageReason.TheVariants.{TooLong, NotUtf8, Nul, BadTag, BadAttribute, BadComment, BadMarkup, StrayEnd, Unclosed, TextOutside, SecondRoot, NoRoot, Deep, Memory}
use Rattle.doc_model.specs.Document.{Document, IsDocument}
use Rattle.doc_model.specs.Limits.{Countable}
use Rattle.html_reader.specs.Tokens.{Tok}
use Rattle.html_reader.specs.Places.{Place, place_marks}
use Rattle.html_reader.specs.Words.{tokens_of, IsFull}
use Rattle.html_reader.specs.Pages.{BuildsPage, IsPageFault}

-- a page builds one document at most
abbrev pub OnePageDocument : Type 0
OnePageDocument = (page : List ℕ) (doc other : Document) → BuildsPage page doc → BuildsPage page other → doc ≡ other

-- and has one fault at most
abbrev pub OnePageFault : Type 0
OnePageFault =
    (page : List ℕ) (a b : PageReason) (at place : ℕ) → IsPageFault page a at → IsPageFault page b place → (a ≡ b) × (at ≡ place)

abbrev pub NeverBothOfPage : Type 0
NeverBothOfPage = (page : List ℕ) (doc : Document) (reason : PageReason) (at : ℕ) → BuildsPage page doc → IsPageFault page reason at → ⊥

-- and has one or the other
abbrev pub PageAnswer : List ℕ → Type 0
PageAnswer page = ((doc : Document) × BuildsPage page doc) ⊎ ((reason : PageReason) × (at : ℕ) × IsPageFault page reason at)

-- a reason that a page's text can give
abbrev pub IsPageReason : PageReason → Type 0
IsPageReason TooLong = ⊥
IsPageReason NotUtf8 = ⊥
IsPageReason Nul = ⊥
IsPageReason BadTag = Unit {0}
IsPageReason BadAttribute = Unit {0}
IsPageReason BadComment = Unit {0}
IsPageReason BadMarkup = Unit {0}
IsPageReason StrayEnd = Unit {0}
IsPageReason Unclosed = Unit {0}
IsPageReason TextOutside = Unit {0}
IsPageReason SecondRoot = Unit {0}
IsPageReason NoRoot = Unit {0}
IsPageReason Deep = Unit {0}
IsPageReason Memory = ⊥

-- a page is refused for one of these reasons, none of which is want of memory
abbrev pub PageReasons : Type 0
PageReasons = (page : List ℕ) (reason : PageReason) (at : ℕ) → IsPageFault page reason at → IsPageReason reason

-- What a page within the limit builds, if the page is UTF-8, is a document, and XPath's numbers count its rows and the
-- characters of its attributes' values.
abbrev pub PageDocuments : Type 0
PageDocuments =
    (page : List ℕ) (doc : Document) → IsUtf8 page → length page ≤ most_page → BuildsPage page doc → IsDocument doc × Countable doc

-- tokens have one full word at most
abbrev pub OneWord : Type 0
OneWord =
    (tokens : List Tok) (next : Option Tok) (p q : Place) → tokens_of (place_marks p) ≡ tokens → tokens_of (place_marks q) ≡ tokens
    → IsFull (place_marks p) next → IsFull (place_marks q) next → place_marks p ≡ place_marks q
