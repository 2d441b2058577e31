-- Entries of which one at most has an element.
use Rattle.std.proofs.Common.{◌≡◌, ℕ, Bool, true, false, not, ◌||◌, ◌&&◌, List, [], ◌∷◌, refl, sym, ◌∙◌, ap}
use Rattle.std.specs.List.{list_any}
use Rattle.std.specs.Str.{bytes_eq}
use Rattle.std.proofs.lemmas.Bool.{and_parts, or_parts}
use Rattle.std.proofs.lemmas.Slice.Eq.{bytes_eq-Decides}
use Rattle.text_base.specs.Strings.{is_among}
use Rattle.html_reader.specs.Tables.{is_listed, are_apart, Ending}

-- a disjunction that is true, by its first part
either : (P : Type 0) (a b : Bool) → (a || b) ≡ true → (a ≡ true → P) → (b ≡ true → P) → P
either P true b h f g = f refl
either P false b h f g = g h

no_from_not : (a : Bool) → not a ≡ true → a ≡ false
no_from_not true h = sym h
no_from_not false h = refl

-- what holds of no name of a list does not hold of one that is in it
not_among : (q : List ℕ → Bool) (names : List (List ℕ)) (name : List ℕ) → is_among name names ≡ true → list_any q names ≡ false → q name ≡ false
not_among q [] name e h = cc
not_among q (n ∷ ns) name e h =
    let two = or_parts (q n) (list_any q ns) h in
    either (q name ≡ false) (bytes_eq n name) (is_among name ns) e (λ s. ap q (sym ((bytes_eq-Decides n name).0 s)) ∙ two.0) (λ r. not_among q ns name r two.1)

none_listed : (opens : List (List ℕ)) (es : List Ending) (element name : List ℕ) → is_among element opens ≡ true
    → list_any (λ (f : Ending). list_any (λ n. is_among n f.opens) opens) es ≡ false → is_listed es element name ≡ false
none_listed opens [] element name e h = refl
none_listed opens (f ∷ fs) element name e h =
    let two = or_parts (list_any (λ n. is_among n f.opens) opens) _ h in
    ap (λ b. (b && is_among name f.tags) || is_listed fs element name) (not_among (λ n. is_among n f.opens) opens element e two.0)
    ∙ none_listed opens fs element name e two.1

-- the first entry that has the element decides
pub first_decides : (e : Ending) (es : List Ending) (element name : List ℕ) → are_apart (e ∷ es) ≡ true → is_among element e.opens ≡ true
    → is_among name e.tags ≡ is_listed (e ∷ es) element name
first_decides e es element name h o =
    let two = and_parts _ _ h in
    sym (ap (λ b. (b && is_among name e.tags) || is_listed es element name) o
    ∙ ap (λ b. is_among name e.tags || b) (none_listed e.opens es element name o (no_from_not _ two.0))
    ∙ or_false (is_among name e.tags))
  where
    or_false : (a : Bool) → (a || false) ≡ a
    or_false true = refl
    or_false false = refl
