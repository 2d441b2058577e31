-- Words that are texts.
use Rattle.std.proofs.Common.{◌≡◌, refl, ℕ, zero, suc, ◌<◌, List, [], ◌∷◌, map, subst, codes, string_bytes, arith}
use Rattle.std.specs.Prelude.{Bool, true, false, ◌&&◌, nat_lt, slice_index, String}
use Rattle.std.specs.List.{AllByRecursion, list_all}
use Rattle.std.specs.Str.{IsUtf8}
use Rattle.std.specs.declared.alloc.Global.{Global}
use Rattle.std.proofs.lemmas.Bool.Decides.{nat_tests}
use Rattle.std.proofs.lemmas.Str.{IsUtf8-string_bytes, IsUtf8-from_ascii}
use Rattle.css_selectors.specs.declared.selector.Dialect.{Dialect}
use Rattle.extract_call.specs.Bulk.{bulk_script}
use Rattle.extract_call.specs.Words.{dialect_word}

-- the words of a call
pub words_utf8 : (words : List (String Global)) → AllByRecursion IsUtf8 (map string_bytes words)
words_utf8 [] = tt
words_utf8 (w ∷ words) = (IsUtf8-string_bytes w, words_utf8 words)

-- the third word
pub third_word : (words : List (List ℕ)) (a b c : List ℕ) (more : List (List ℕ)) → AllByRecursion IsUtf8 words → words ≡ a ∷ b ∷ c ∷ more → IsUtf8 c
third_word words a b c more utf8 is = (subst (λ (x : List (List ℕ)). AllByRecursion IsUtf8 x) is utf8).1.1.0

pub script_word_is : (words : List (List ℕ)) (d : Dialect) (s : List ℕ) (names : List (List ℕ)) → AllByRecursion IsUtf8 words → words ≡ codes "run" ∷ dialect_word d ∷ s ∷ names → IsUtf8 s
script_word_is words d s names utf8 is = third_word words (codes "run") (dialect_word d) s names utf8 is

abbrev is_small : ℕ → Bool
is_small b = nat_lt b 128

small : (b : ℕ) → is_small b ≡ true → b < 128
small b h = grind (arith, nat_tests)

parts : (a b : Bool) → (a && b) ≡ true → (a ≡ true) × (b ≡ true)
parts true b e = (refl, e)
parts false b e = cc

all_small : (x : List ℕ) → list_all is_small x ≡ true → (i : ℕ) → slice_index x i < 128
all_small [] h i = omega arith
all_small (b ∷ x) h zero = small b (parts (is_small b) (list_all is_small x) h).0
all_small (b ∷ x) h (suc i) = all_small x (parts (is_small b) (list_all is_small x) h).1 i

-- the script of the bulk page is ASCII
pub bulk_script_is : IsUtf8 bulk_script
bulk_script_is = IsUtf8-from_ascii bulk_script (all_small bulk_script refl)
