-- The forms that the program's words may have.
use Rattle.std.specs.Prelude.{◌≡◌, ◌≢◌, ℕ, ◌≤◌, ◌&&◌, true, nat_le, List, [], ◌∷◌, length, map, Option, Some, None, option_map, codes, string_bytes, if◌then◌else◌}
use Rattle.std.specs.List.{list_all}
use Rattle.std.specs.Str.{bytes_eq}
use Rattle.text_base.specs.Text.{is_digit, digits_value}
use Rattle.css_selectors.specs.declared.selector.Dialect.{Dialect}
use Rattle.css_selectors.specs.declared.selector.Dialect.TheVariants.{Generic, Html}
use Rattle.extract_call.specs.declared.words.Form.{Form}
use Rattle.extract_call.specs.declared.words.Form.TheVariants.{Css, Run, Bulk, Clean, Other}

-- what the words ask for: the line of a selector, the lines of pages by a script, the line of the bulk page of so many items, or
-- the canonical markup of a page
pub data Command : Type 0 where
  css : Dialect → List ℕ → Command
  run : Dialect → List ℕ → List (List ℕ) → Command
  bulk : ℕ → Command
  clean : List ℕ → Command

abbrev pub command_of : Form → Option Command
command_of (Css d s) = Some (css d s.now)
command_of (Run d s names) = Some (run d s.now (map string_bytes names.now))
command_of (Bulk n) = Some (bulk n)
command_of (Clean page) = Some (clean (string_bytes page.now))
command_of Other = None

abbrev pub dialect_word : Dialect → List ℕ
dialect_word Generic = codes "generic"
dialect_word Html = codes "html"

-- one to five digits that spell the number, which is from 1 to 20,000
pub record IsCount (word : List ℕ) (n : ℕ) : Type 0 where
  pub some : 1 ≤ length word
  pub few : length word ≤ 5
  pub digits : list_all is_digit word ≡ true
  pub value : digits_value word ≡ n
  pub least : 1 ≤ n
  pub most : n ≤ 20000

-- these are the words of the command
abbrev pub IsWords : Command → List (List ℕ) → Type 0
IsWords (css d s) words = words ≡ codes "css" ∷ dialect_word d ∷ s ∷ []
IsWords (run d s names) words = (words ≡ codes "run" ∷ dialect_word d ∷ s ∷ names) × (names ≢ [])
IsWords (bulk n) words = (word : List ℕ) × (words ≡ codes "bulk" ∷ word ∷ []) × IsCount word n
IsWords (clean page) words = words ≡ codes "clean" ∷ page ∷ []

unfoldable pub dialect_of : List ℕ → Option Dialect
dialect_of word = if bytes_eq word (codes "generic") then Some Generic else (if bytes_eq word (codes "html") then Some Html else None)

unfoldable pub count_of : List ℕ → Option ℕ
count_of word =
    if nat_le 1 (length word) && (nat_le (length word) 5 && (list_all is_digit word && (nat_le 1 (digits_value word) && nat_le (digits_value word) 20000)))
    then Some (digits_value word) else None

-- what the words say, where they have one of the forms
abbrev pub read : List (List ℕ) → Option Command
read [] = None
read (w ∷ []) = None
read (w ∷ n ∷ []) = if bytes_eq w (codes "bulk") then option_map bulk (count_of n) else (if bytes_eq w (codes "clean") then Some (clean n) else None)
read (w ∷ d ∷ s ∷ []) = if bytes_eq w (codes "css") then option_map (λ x. css x s) (dialect_of d) else None
read (w ∷ d ∷ s ∷ n ∷ ns) = if bytes_eq w (codes "run") then option_map (λ x. run x s (n ∷ ns)) (dialect_of d) else None
