-- Attributes as they are kept one by one: for the clauses of the reader's own functions.
use Rattle.std.specs.Prelude.{◌≡◌, ℕ, ◌≤◌, Bool, true, false, List, [], ◌∷◌, ◌++◌, map, length, take, ◌≢◌}
use Rattle.std.specs.List.{list_any}
use Rattle.std.specs.Str.{IsUtf8, bytes_eq}
use Rattle.html_lexer.specs.Tokens.{Tok as Lexed, start_tok, end_tok, text_tok, comment_tok, doctype_tok}
use Rattle.html_lexer.specs.Attributes.{Writes, IsAttrs}
use Rattle.html_reader.specs.declared.token.Attr as code
use Rattle.html_reader.specs.Tokens.{Attr}
use Rattle.html_reader.specs.Contents.{kept}
use Rattle.html_reader.specs.inner.States.{attr_of}

-- an attribute has the name
abbrev pub has_name : List Attr → List ℕ → Bool
has_name attrs name = list_any (λ (a : Attr). bytes_eq a.name name) attrs

-- the names are texts
abbrev pub HaveTexts : List Attr → Type 0
HaveTexts [] = Unit {0}
HaveTexts (a ∷ attrs) = IsUtf8 a.name × HaveTexts attrs

-- the first of the attributes are those whose names the set has
pub record Knows (has : List ℕ → Bool) (attrs : List code.Attr) (known : ℕ) : Type 0 where
  pub within : known ≤ length attrs
  pub same : (name : List ℕ) → has name ≡ has_name (map attr_of (take known attrs)) name

-- these attributes are kept of those that stand in the start tag up to a place
pub record HasKept (raw : List ℕ) (at : ℕ) (attrs : List Attr) : Type 0 where
  pub written : List (List ℕ × List ℕ)
  pub more : (ps : List (List ℕ × List ℕ)) → Writes raw at ps → Writes raw 0 (written ++ ps)
  pub is : attrs ≡ kept written
  pub texts : HaveTexts attrs

-- these attributes are kept of all that stand in the start tag
pub record Keeps (raw : List ℕ) (attrs : List Attr) : Type 0 where
  pub written : List (List ℕ × List ℕ)
  pub writes : Writes raw 0 written
  pub is : attrs ≡ kept written

-- a start tag has a name, and what stands after it are attributes
abbrev pub IsReadable : Lexed → Type 0
IsReadable (start_tok from to name attrs slash) = (name ≢ []) × IsAttrs attrs
IsReadable (end_tok from to name) = Unit {0}
IsReadable (text_tok from to raw refs) = Unit {0}
IsReadable (comment_tok from to body) = Unit {0}
IsReadable (doctype_tok from to) = Unit {0}

-- where a token begins
abbrev pub begin_of : Lexed → ℕ
begin_of (start_tok from to name attrs slash) = from
begin_of (end_tok from to name) = from
begin_of (text_tok from to raw refs) = from
begin_of (comment_tok from to body) = from
begin_of (doctype_tok from to) = from

abbrev pub is_start : Lexed → Bool
is_start (start_tok from to name attrs slash) = true
is_start (end_tok from to name) = false
is_start (text_tok from to raw refs) = false
is_start (comment_tok from to body) = false
is_start (doctype_tok from to) = false
