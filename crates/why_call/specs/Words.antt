-- The forms that the words of `why` may have.
use Rattle.std.specs.Prelude.{◌≡◌, ℕ, List, [], ◌∷◌, Option, Some, None, option_map, codes, string_bytes, if◌then◌else◌}
use Rattle.std.specs.Str.{bytes_eq}
use Rattle.css_selectors.specs.declared.selector.Dialect.{Dialect}
use Rattle.extract_call.specs.Words.{dialect_of, dialect_word}
use Rattle.why_call.specs.declared.words.Form.{Form}
use Rattle.why_call.specs.declared.words.Form.TheVariants.{Css, XPath, Script, Page, Other}

-- what the words ask for: why a selector, an expression, a script or a page is refused
pub data Question : Type 0 where
  css : Dialect → List ℕ → Question
  xpath : List ℕ → Question
  script : Dialect → List ℕ → Question
  page : List ℕ → Question

abbrev pub question_of : Form → Option Question
question_of (Css d s) = Some (css d s.now)
question_of (XPath s) = Some (xpath s.now)
question_of (Script d s) = Some (script d s.now)
question_of (Page name) = Some (page (string_bytes name.now))
question_of Other = None

-- these are the words of the question
abbrev pub IsWords : Question → List (List ℕ) → Type 0
IsWords (css d s) words = words ≡ codes "css" ∷ dialect_word d ∷ s ∷ []
IsWords (xpath s) words = words ≡ codes "xpath" ∷ s ∷ []
IsWords (script d s) words = words ≡ codes "script" ∷ dialect_word d ∷ s ∷ []
IsWords (page name) words = words ≡ codes "page" ∷ name ∷ []

abbrev pub of_dialect : List ℕ → Dialect → List ℕ → Option Question
of_dialect w d s = if bytes_eq w (codes "css") then Some (css d s) else (if bytes_eq w (codes "script") then Some (script d s) else None)

abbrev pub read_three : List ℕ → Option Dialect → List ℕ → Option Question
read_three w None s = None
read_three w (Some d) s = of_dialect w d s

-- what the words say, where they have one of the forms
abbrev pub read : List (List ℕ) → Option Question
read [] = None
read (w ∷ []) = None
read (w ∷ n ∷ []) = if bytes_eq w (codes "xpath") then Some (xpath n) else (if bytes_eq w (codes "page") then Some (page n) else None)
read (w ∷ d ∷ s ∷ []) = read_three w (dialect_of d) s
read (w ∷ d ∷ s ∷ n ∷ ns) = None
