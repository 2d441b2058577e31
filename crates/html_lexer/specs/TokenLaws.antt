-- What the tokens of a page are, by what stands in the page and not by how they are found.
use Rattle.std.specs.Prelude.{◌≡◌, ℕ, ◌+◌, ◌<◌, ◌≤◌, Bool, true, false, List, [], ◌∷◌, ◌++◌, length, All, slice_index, slice_range, codes, ◌⊎◌}
use Rattle.std.specs.Str.{str_eq_ignore_ascii_case}
use Rattle.std.specs.List.{AllPass}
use Rattle.text_base.specs.Text.{is_letter, is_space5, is_not_byte}
use Rattle.html_lexer.specs.Kinds.{is_name_byte, is_attr_byte}
use Rattle.html_lexer.specs.Names.{is_raw, is_escapable, is_plaintext}
use Rattle.html_lexer.specs.declared.steps.Step.{Step}
use Rattle.html_lexer.specs.Steps.{StepAt}
use Rattle.html_lexer.specs.Tokens.{start_tok, text_tok, comment_tok}
use Rattle.html_lexer.specs.Attributes.{Writes}
use Rattle.html_lexer.specs.Lexing.{Begins}

-- at k stands `<` and an ASCII letter, `/`, `!` or `?` (HTML, section 13.2.5.6, "tag open state")
abbrev pub MarkupBegins : List ℕ → ℕ → Type 0
MarkupBegins text k =
    (slice_index text k ≡ 60)
    × ((is_letter (slice_index text (k + 1)) ≡ true) ⊎ (slice_index text (k + 1) ≡ 47) ⊎ (slice_index text (k + 1) ≡ 33) ⊎ (slice_index text (k + 1) ≡ 63))

-- at k stands `</`, the name in any letter case, and white space, `/` or `>`
abbrev pub EndTagBegins : List ℕ → List ℕ → ℕ → Type 0
EndTagBegins name text k =
    (slice_index text k ≡ 60)
    × (slice_index text (k + 1) ≡ 47)
    × (str_eq_ignore_ascii_case (slice_range text (k + 2) (k + 2 + length name)) name ≡ true)
    × ((is_space5 (slice_index text (k + 2 + length name)) ≡ true) ⊎ (slice_index text (k + 2 + length name) ≡ 47) ⊎ (slice_index text (k + 2 + length name) ≡ 62))

-- what stands from one place to another goes as far as it can: up to the first place at which something begins, or to
-- the end of the text
pub record GoesUpTo (Stop : ℕ → Type 0) (text : List ℕ) (from to : ℕ) : Type 0 where
  pub some : from < to
  pub within : to ≤ length text
  pub before : (k : ℕ) → from ≤ k → k < to → Stop k → ⊥
  pub end : (to ≡ length text) ⊎ Stop to

-- a text outside raw text
abbrev pub PlainText : Type 0
PlainText = (text name raw : List ℕ) (i from to : ℕ) (refs : Bool) → is_raw name ≡ false → Begins text name i (text_tok from to raw refs) → (from ≡ i) × (raw ≡ slice_range text i to) × (refs ≡ true) × GoesUpTo (MarkupBegins text) text i to

-- raw text, after a start tag of this name
abbrev pub RawText : Type 0
RawText = (text name raw : List ℕ) (i from to : ℕ) (refs : Bool) → is_raw name ≡ true → Begins text name i (text_tok from to raw refs) → (from ≡ i) × (raw ≡ slice_range text i to) × (refs ≡ is_escapable name) × GoesUpTo (EndTagBegins name text) text i to

-- one list stands in another
abbrev pub Holds : List ℕ → List ℕ → Type 0
Holds s part = (before after : List ℕ) × (s ≡ before ++ (part ++ after))

abbrev pub BeginsWith : List ℕ → List ℕ → Type 0
BeginsWith s part = (after : List ℕ) × (s ≡ part ++ after)

-- a comment in its marks (HTML, section 13.1.6)
pub record IsMarked (raw s : List ℕ) : Type 0 where
  pub whole : raw ≡ codes "<!--" ++ (s ++ codes "-->")
  pub no_end : Holds s (codes "-->") → ⊥
  pub no_bang : Holds s (codes "--!>") → ⊥
  pub no_bracket : BeginsWith s (codes ">") → ⊥
  pub no_arrow : BeginsWith s (codes "->") → ⊥

-- what `<?` begins, up to the first `>`, whose text has the `?`
pub record IsQuery (raw s : List ℕ) : Type 0 where
  pub whole : raw ≡ codes "<" ++ (s ++ codes ">")
  pub query : BeginsWith s (codes "?")
  pub no_bracket : Holds s (codes ">") → ⊥

abbrev pub CommentText : Type 0
CommentText = (text name s : List ℕ) (i from to : ℕ) → Begins text name i (comment_tok from to s) → (from ≡ i) × (IsMarked (slice_range text i to) s ⊎ IsQuery (slice_range text i to) s)

-- at a place, after a start tag of a name, a text has one step
abbrev pub OneStep : Type 0
OneStep = (text name : List ℕ) (i : ℕ) (a b : Step) → StepAt text name i a → StepAt text name i b → a ≡ b

-- a name that a start tag may have: a letter and bytes of names, and not `plaintext`
pub record IsTagName (name : List ℕ) : Type 0 where
  pub first : is_letter (slice_index name 0) ≡ true
  pub bytes : AllPass is_name_byte name
  pub no_plaintext : is_plaintext name ≡ false

-- an attribute that can be written in double quotes
pub record IsQuotable (a : List ℕ × List ℕ) : Type 0 where
  pub some : 0 < length a.0
  pub name : AllPass is_attr_byte a.0
  pub value : AllPass (is_not_byte 34) a.1

-- attributes, each after a space and with its value in double quotes
abbrev pub written : List (List ℕ × List ℕ) → List ℕ
written [] = []
written (a ∷ attributes) = codes " " ++ (a.0 ++ (codes "=\"" ++ (a.1 ++ (codes "\"" ++ written attributes))))

abbrev pub written_tag : List ℕ → List (List ℕ × List ℕ) → List ℕ
written_tag name attributes = codes "<" ++ (name ++ (written attributes ++ codes ">"))

-- A start tag that is written so, wherever it stands outside raw text, is a start tag of this name, and its attributes
-- are these.
abbrev pub WrittenTag : Type 0
WrittenTag = (before after previous name : List ℕ) (attributes : List (List ℕ × List ℕ)) → is_raw previous ≡ false → IsTagName name → All IsQuotable attributes → Begins (before ++ (written_tag name attributes ++ after)) previous (length before) (start_tok (length before) (length before + length (written_tag name attributes)) name (written attributes) false)

abbrev pub WrittenAttributes : Type 0
WrittenAttributes = (attributes : List (List ℕ × List ℕ)) → All IsQuotable attributes → Writes (written attributes) 0 attributes
