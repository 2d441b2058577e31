-- What holds of all names of a table.
use Rattle.std.proofs.Common.{◌≡◌, ℕ, List, [], ◌∷◌, Bool, true, false, ◌&&◌, ◌||◌, refl, subst}
use Rattle.std.specs.Prelude.{not}
use Rattle.std.specs.List.{list_all}
use Rattle.std.specs.Str.{bytes_eq}
use Rattle.std.proofs.lemmas.Slice.Eq.{bytes_eq-Decides}
use Rattle.std.proofs.lemmas.Bool.{not-true, and_parts}
use Rattle.html_lexer.specs.Names.{is_raw, literal_names, escapable_names}
use Rattle.text_base.specs.Strings.{is_among}
use Rattle.html_reader.specs.Tables.{is_void, void_names}
use Rattle.html_reader.specs.Contents.{takes_newline, newline_names}

-- a test that all names of a table pass is passed by each
pub each_passes : (p : List ℕ → Bool) (names : List (List ℕ)) (name : List ℕ) → list_all p names ≡ true → is_among name names ≡ true → p name ≡ true
each_passes p [] name all h = cc
each_passes p (n ∷ names) name all h =
    let two = and_parts (p n) (list_all p names) all in
    by_first (bytes_eq n name) refl two.0 h (λ k. each_passes p names name two.1 k)
  where
    by_first : (b : Bool) → bytes_eq n name ≡ b → p n ≡ true → (b || is_among name names) ≡ true → (is_among name names ≡ true → p name ≡ true) → p name ≡ true
    by_first true is ok k later = subst (λ x. p x ≡ true) ((bytes_eq-Decides n name).0 is) ok
    by_first false is ok k later = later k

abbrev is_plain : List ℕ → Bool
is_plain name = not (is_raw name) && not (takes_newline name)

void_table : list_all is_plain void_names ≡ true
unfolding void_names literal_names escapable_names newline_names
void_table = refl

-- void elements have no raw text and take no newline
pub void_plain : (name : List ℕ) → is_void name ≡ true → (is_raw name ≡ false) × (takes_newline name ≡ false)
void_plain name h =
    let two = and_parts (not (is_raw name)) (not (takes_newline name)) (each_passes is_plain void_names name void_table h) in
    (not-true (is_raw name) two.0, not-true (takes_newline name) two.1)
