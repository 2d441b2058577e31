-- Names of elements, and of those whose content is raw text, in any letter case (HTML, section 13.2.5, "RAWTEXT",
-- "RCDATA" and "script data" states).
use Rattle.std.specs.Prelude.{ℕ, ◌+◌, ◌==◌, ◌&&◌, ◌||◌, nat_le, Bool, List, [], ◌∷◌, length, slice_index, slice_range, codes}
use Rattle.std.specs.List.{list_any}
use Rattle.std.specs.Str.{str_eq_ignore_ascii_case}
use Rattle.html_lexer.specs.Kinds.{is_gap}
pub use Rattle.text_base.specs.Names.{texts}

abbrev pub is_one_of : List (List ℕ) → List ℕ → Bool
is_one_of names name = list_any (λ n. str_eq_ignore_ascii_case n name) names

-- elements with no content and no end tag (HTML, section 13.1.2)
unfoldable pub void_names : List (List ℕ)
void_names =
    codes "area" ∷ codes "base" ∷ codes "br" ∷ codes "col" ∷ codes "embed" ∷ codes "hr" ∷ codes "img" ∷ codes "input" ∷ codes "link" ∷ codes "meta"
    ∷ codes "param" ∷ codes "source" ∷ codes "track" ∷ codes "wbr" ∷ []

-- elements whose content may begin with a newline that does not count (HTML, section 13.1.2.5)
unfoldable pub newline_names : List (List ℕ)
newline_names = codes "pre" ∷ codes "textarea" ∷ codes "listing" ∷ []

-- raw text in which references do not count
unfoldable pub literal_names : List (List ℕ)
literal_names = codes "script" ∷ codes "style" ∷ codes "iframe" ∷ codes "xmp" ∷ codes "noembed" ∷ codes "noframes" ∷ []

-- raw text in which they do
unfoldable pub escapable_names : List (List ℕ)
escapable_names = codes "title" ∷ codes "textarea" ∷ []

abbrev pub is_escapable : List ℕ → Bool
is_escapable name = is_one_of escapable_names name

abbrev pub is_raw : List ℕ → Bool
is_raw name = is_one_of literal_names name || is_one_of escapable_names name

abbrev pub is_plaintext : List ℕ → Bool
is_plaintext name = str_eq_ignore_ascii_case name (codes "plaintext")

-- a text has these letters at i, in any case
abbrev pub has_letters : List ℕ → ℕ → List ℕ → Bool
has_letters text i name = nat_le (i + length name) (length text) && str_eq_ignore_ascii_case (slice_range text i (i + length name)) name

-- a text begins with the end tag that ends raw text of this name: `</`, the name, and white space, `/` or `>`
abbrev pub closes : List ℕ → List ℕ → Bool
closes name s =
    (slice_index s 0 == 60) && (slice_index s 1 == 47) && has_letters s 2 name
    && (is_gap (slice_index s (2 + length name)) || (slice_index s (2 + length name) == 62))
