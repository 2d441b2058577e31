-- What the tests on attribute values say, by parts of the value.
use Rattle.std.specs.Prelude.{◌≡◌, ◌≢◌, ℕ, Bool, true, false, List, [], ◌∷◌, ◌++◌, ◌↔◌}
use Rattle.std.specs.List.{list_any}
use Rattle.text_base.specs.Strings.{starts_with, ends_with, contains}
use Rattle.text_base.specs.Parts.{Begins, Ends, Occurs}
use Rattle.text_base.specs.Text.{is_space5}
use Rattle.css_meaning.specs.Attributes.{word_test}

-- the last character passes the test, or there is none
abbrev pub last_passes : (ℕ → Bool) → Bool → List ℕ → Bool
last_passes p none [] = none
last_passes p none (c ∷ a) = last_passes p (p c) a

-- the first character passes the test, or there is none
abbrev pub first_passes : (ℕ → Bool) → List ℕ → Bool
first_passes p [] = true
first_passes p (c ∷ r) = p c

-- v is a part of x that is not empty and has no character that passes the test, and no longer such part of x goes
-- round it: before it stands nothing or a character that passes, and after it too
pub record IsRun (p : ℕ → Bool) (x v : List ℕ) : Type 0 where
  pub ahead : List ℕ
  pub after : List ℕ
  pub is : x ≡ ahead ++ (v ++ after)
  pub some : v ≢ []
  pub clear : list_any p v ≡ false
  pub starts : last_passes p true ahead ≡ true
  pub ends : first_passes p after ≡ true

-- the tests say what their names say, and the words of a value are its maximal runs without white space
pub record ValueLaws : Type 0 where
  pub begins : (x v : List ℕ) → (starts_with x v ≡ true) ↔ Begins x v
  pub ends : (x v : List ℕ) → (ends_with x v ≡ true) ↔ Ends x v
  pub occurs : (x v : List ℕ) → (contains x v ≡ true) ↔ Occurs x v
  pub words : (x v : List ℕ) → (word_test x v ≡ true) ↔ IsRun is_space5 x v
