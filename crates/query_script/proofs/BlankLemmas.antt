-- Bytes that neither blanks nor names hold.
use Rattle.std.proofs.Common.{◌≡◌, ℕ, Bool, true, false, List, [], ◌∷◌, refl, arith}
use Rattle.std.specs.Prelude.{◌&&◌, ◌||◌, if◌then◌else◌}
use Rattle.std.specs.List.{list_all, list_any}
use Rattle.std.proofs.lemmas.Bool.Decides.{nat_tests}
use Rattle.query_script.specs.Cuts.{is_blank, skip_front, skip_back, trimmed}
use Rattle.query_script.specs.Names.{is_test_byte, is_test_name, is_name_start}
use Rattle.query_script.specs.inner.Reader.{is_open, is_comma}

neither : (a b : Bool) → (a || b) ≡ false → (a ≡ false) × (b ≡ false)
neither true b e = cc
neither false b e = (refl, e)

none_of : (a b : Bool) → a ≡ false → b ≡ false → (a || b) ≡ false
none_of true b e f = cc
none_of false b e f = f

both : (a b : Bool) → (a && b) ≡ true → (a ≡ true) × (b ≡ true)
both true b e = (refl, e)
both false b e = cc

-- no byte passes both tests
module _ (p q : ℕ → Bool) (apart : (c : ℕ) → q c ≡ true → p c ≡ false) where
  none_in : (xs : List ℕ) → list_all q xs ≡ true → list_any p xs ≡ false
  none_in [] h = refl
  none_in (c ∷ xs) h = let all = both (q c) (list_all q xs) h in none_of (p c) (list_any p xs) (apart c all.0) (none_in xs all.1)

-- a test that no blank passes is passed by a byte of a text exactly where one without the blanks at the ends does
module _ (p : ℕ → Bool) (apart : (c : ℕ) → is_blank c ≡ true → p c ≡ false) where
  none_front : (text : List ℕ) → list_any p (skip_front text) ≡ false → list_any p text ≡ false
  none_front [] h = refl
  none_front (c ∷ text) h = by_test (is_blank c) refl (none_front text) h
    where
      by_test : (b : Bool) → is_blank c ≡ b → (list_any p (skip_front text) ≡ false → list_any p text ≡ false) → list_any p (if b then skip_front text else c ∷ text) ≡ false → list_any p (c ∷ text) ≡ false
      by_test true e go g = none_of (p c) (list_any p text) (apart c e) (go g)
      by_test false e go g = g

  none_back : (text : List ℕ) → list_any p (skip_back text) ≡ false → list_any p text ≡ false
  none_back [] h = refl
  none_back (c ∷ text) h = by_test (is_blank c && list_all is_blank text) refl (none_back text) h
    where
      by_test : (b : Bool) → (is_blank c && list_all is_blank text) ≡ b → (list_any p (skip_back text) ≡ false → list_any p text ≡ false) → list_any p (if b then [] else c ∷ skip_back text) ≡ false → list_any p (c ∷ text) ≡ false
      by_test true e go g = none_in p is_blank apart (c ∷ text) e
      by_test false e go g = let two = neither (p c) (list_any p (skip_back text)) g in none_of (p c) (list_any p text) two.0 (go two.1)

  none_trimmed : (text : List ℕ) → list_any p (trimmed text) ≡ false → list_any p text ≡ false
  none_trimmed text h = none_front text (none_back (skip_front text) h)

blank_or_open : (c : ℕ) → is_blank c ≡ true → is_open c ≡ false
blank_or_open c h = grind (arith, nat_tests)

blank_or_comma : (c : ℕ) → is_blank c ≡ true → is_comma c ≡ false
blank_or_comma c h = grind (arith, nat_tests)

name_or_comma : (c : ℕ) → is_test_byte c ≡ true → is_comma c ≡ false
name_or_comma c h = grind (arith, nat_tests)

start_or_comma : (c : ℕ) → is_name_start c ≡ true → is_comma c ≡ false
start_or_comma c h = grind (arith, nat_tests)

name_alone : (name : List ℕ) → is_test_name name ≡ true → list_any is_comma name ≡ false
name_alone [] h = refl
name_alone (c ∷ rest) h =
    let two = both (is_name_start c) (list_all is_test_byte rest) h in
    none_of (is_comma c) (list_any is_comma rest) (start_or_comma c two.0) (none_in is_comma is_test_byte name_or_comma rest two.1)

-- no comma stands beside a name
pub no_comma : (text : List ℕ) → is_test_name (trimmed text) ≡ true → list_any is_comma text ≡ false
no_comma text h = none_trimmed is_comma blank_or_comma text (name_alone (trimmed text) h)

-- no bracket stands beside a word that has none
pub no_open : (text : List ℕ) → list_any is_open (trimmed text) ≡ false → list_any is_open text ≡ false
no_open text h = none_trimmed is_open blank_or_open text h
