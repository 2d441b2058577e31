-- Tokens as clauses see them: their places, and their texts as bytes.
use Rattle.std.specs.Prelude.{ℕ, ◌+◌, Bool, List, [], ◌∷◌, slice_range}
use Rattle.html_lexer.specs.declared.steps.TokenAt.{TokenAt}
use Rattle.html_lexer.specs.declared.steps.TokenAt.TheVariants.{Start, End, Text, Comment, Doctype}
use Rattle.html_lexer.specs.declared.lexer.Token.{Token}
use Rattle.html_lexer.specs.declared.lexer.Token.TheVariants as token

-- a token without where its texts lie in memory
pub data Tok : Type 0 where
  start_tok : (from to : ℕ) (name attrs : List ℕ) (slash : Bool) → Tok
  end_tok : (from to : ℕ) (name : List ℕ) → Tok
  text_tok : (from to : ℕ) (raw : List ℕ) (refs : Bool) → Tok
  comment_tok : (from to : ℕ) (text : List ℕ) → Tok
  doctype_tok : (from to : ℕ) → Tok

abbrev pub view : Token → Tok
view (token.Start from to name attrs slash) = start_tok from to name.now attrs.now slash
view (token.End from to name) = end_tok from to name.now
view (token.Text from to raw refs) = text_tok from to raw.now refs
view (token.Comment from to text) = comment_tok from to text.now
view (token.Doctype from to) = doctype_tok from to

-- the token at i whose parts stand at these places
abbrev pub tok_at : List ℕ → ℕ → TokenAt → Tok
tok_at text i (Start name_to attrs_to to slash) = start_tok i to (slice_range text (i + 1) name_to) (slice_range text name_to attrs_to) slash
tok_at text i (End name_to to) = end_tok i to (slice_range text (i + 2) name_to)
tok_at text i (Text to refs) = text_tok i to (slice_range text i to) refs
tok_at text i (Comment text_from text_to to) = comment_tok i to (slice_range text text_from text_to)
tok_at text i (Doctype to) = doctype_tok i to

-- where a token ends
abbrev pub end_of : Tok → ℕ
end_of (start_tok from to name attrs slash) = to
end_of (end_tok from to name) = to
end_of (text_tok from to raw refs) = to
end_of (comment_tok from to text) = to
end_of (doctype_tok from to) = to

-- the name of a start tag, as it is written, and nothing for other tokens
abbrev pub name_after : Tok → List ℕ
name_after (start_tok from to name attrs slash) = name
name_after (end_tok from to name) = []
name_after (text_tok from to raw refs) = []
name_after (comment_tok from to text) = []
name_after (doctype_tok from to) = []

-- the name after tokens, where this one stands before them
abbrev pub last_name : List ℕ → List Tok → List ℕ
last_name name [] = name
last_name name (t ∷ ts) = last_name (name_after t) ts
