-- What the tree takes of a token as it is written: names in ASCII lower case, the attributes that are kept, contents.
use Rattle.std.specs.Prelude.{ℕ, ◌==◌, Bool, List, [], ◌∷◌, if◌then◌else◌}
use Rattle.std.specs.Str.{bytes_eq, str_to_ascii_lowercase}
use Rattle.text_base.specs.Strings.{is_among}
unfoldable pub use Rattle.html_lexer.specs.Names.{newline_names}
use Rattle.char_refs.specs.References.{decoded}
use Rattle.html_reader.specs.Tokens.{Attr}

-- the attributes of other names
abbrev pub without : List ℕ → List Attr → List Attr
without name [] = []
without name (a ∷ attrs) = if bytes_eq a.name name then without name attrs else a ∷ without name attrs

-- The attributes that are kept of those written, each a name and a value: names in ASCII lower case, of two of one
-- name the first, and references in values decoded (HTML, section 13.2.5.33).
abbrev pub kept : List (List ℕ × List ℕ) → List Attr
kept [] = []
kept (p ∷ written) =
    record { name = str_to_ascii_lowercase p.0; value = decoded p.1 } ∷ without (str_to_ascii_lowercase p.0) (kept written)

-- a start tag of this name takes a first newline; a token that is no start tag has the name []
abbrev pub takes_newline : List ℕ → Bool
takes_newline name = is_among (str_to_ascii_lowercase name) newline_names

abbrev pub without_newline : List ℕ → List ℕ
without_newline [] = []
without_newline (c ∷ cs) = if c == 10 then cs else c ∷ cs

-- the text with its references decoded, where they count
abbrev pub meant : List ℕ → Bool → List ℕ
meant raw refs = if refs then decoded raw else raw

-- the content of a text, which comes directly after a start tag of this name, or after another token and the name is []
abbrev pub content : List ℕ → List ℕ → Bool → List ℕ
content name raw refs = if takes_newline name then without_newline (meant raw refs) else meant raw refs
