-- Tables over a document, as far as they are filled. A text is its bytes in them, and its characters in a document.
use Rattle.std.specs.Prelude.{◌≡◌, ℕ, ◌<◌, ◌≤◌, Bool, true, ◌&&◌, List, [], map, Option, filter, codes}
use Rattle.std.specs.List.{range_with_len, find}
use Rattle.std.specs.Option.{option_map, option_map_or}
use Rattle.std.specs.Str.{bytes_eq, chars, IsUtf8}
use Rattle.indexmap.specs.IndexMap.{get_by_text}
use Rattle.doc_model.specs.Document.{Document, row, is_element, is_attribute}
use Rattle.step_index.specs.declared.names.Names.{Names}
use Rattle.step_index.specs.declared.ids.Ids.{Ids}
use Rattle.step_index.specs.Named.{named_before}

-- the rows under a name
abbrev pub rows_under : Names → List ℕ → List ℕ
rows_under t q = option_map_or (λ g. g.items) (get_by_text t.lists q) []

-- the lists of rows, name by name
abbrev pub lists_of : Names → List (List ℕ)
lists_of t = map (λ e. e.1.items) t.lists.entries

-- under each name stand the elements of that name among the rows before b
abbrev pub HasNames : Document → Names → ℕ → Type 0
HasNames doc t b = (q : List ℕ) → IsUtf8 q → rows_under t q ≡ named_before doc (chars q) b

-- the name of an element is the characters of a text
abbrev pub HasText : Document → ℕ → Type 0
HasText doc y = is_element doc y ≡ true → (q : List ℕ) × (IsUtf8 q × (chars q ≡ (row doc y).name))

abbrev pub HaveTexts : Document → ℕ → Type 0
HaveTexts doc b = (y : ℕ) → y < b → HasText doc y

-- z is an attribute `id` of this value
abbrev pub gives_id : Document → List ℕ → ℕ → Bool
gives_id doc word z = is_attribute doc z && (bytes_eq (row doc z).name (codes "id") && bytes_eq (row doc z).text word)

-- the row under a word
abbrev pub row_under : Ids → List ℕ → Option ℕ
row_under t q = get_by_text t.rows q

-- under each word stands the element of the first attribute `id` of that value among the rows before b
abbrev pub HasIds : Document → Ids → ℕ → Type 0
HasIds doc t b = (q : List ℕ) → IsUtf8 q → row_under t q ≡ option_map (λ z. (row doc z).parent) (find (gives_id doc (chars q)) (range_with_len 0 b))

-- It holds of the rows before b for which a test holds, whatever the test by which the list has those before n.
abbrev pub Before : List ℕ → ℕ → (List ℕ → Type 0) → Type 0
Before list b Holds = (p : ℕ → Bool) (n : ℕ) → b ≤ n → list ≡ filter p (range_with_len 0 n) → Holds (filter p (range_with_len 0 b))
