-- Names that are plain and others, which lower case does not change.
use Rattle.std.proofs.Common.{◌≡◌, refl, ℕ, true, false, List, [], ◌∷◌, ◌++◌, ap, ◌∙◌, map, arith, cond, Some, codes}
use Rattle.std.specs.List.{list_all}
use Rattle.std.specs.Char.{to_ascii_lowercase}
use Rattle.std.specs.Prelude.{◌&&◌}
use Rattle.std.proofs.lemmas.Bool.Decides.{nat_tests}
use Rattle.css_selectors.specs.declared.selector.Dialect.{Dialect}
use Rattle.css_selectors.specs.declared.selector.Dialect.TheVariants.{Generic, Html}
use Rattle.css_meaning.specs.Names.{folded}
use Rattle.css_printed.proofs.PlainNames.{plain_bytes}
use Rattle.css_printed.specs.Names.{is_plain_start, is_plain_char, is_plain, name_bytes, name_bracket, element_text, attribute_text}

start_lower : (c : ℕ) → is_plain_start (to_ascii_lowercase c) ≡ is_plain_start c
start_lower c = grind (arith, nat_tests)

char_lower : (c : ℕ) → is_plain_char (to_ascii_lowercase c) ≡ is_plain_char c
char_lower c = grind (arith, nat_tests)

chars_lower : (cs : List ℕ) → list_all is_plain_char (map to_ascii_lowercase cs) ≡ list_all is_plain_char cs
chars_lower [] = refl
chars_lower (c ∷ cs) = ap (λ b. b && list_all is_plain_char (map to_ascii_lowercase cs)) (char_lower c) ∙ ap (λ b. is_plain_char c && b) (chars_lower cs)

-- a name is plain as the dialect has it exactly where it is plain as it stands
pub same_plain : (d : Dialect) (n : List ℕ) → is_plain (folded d n) ≡ is_plain n
same_plain Generic n = refl
same_plain Html [] = refl
same_plain Html (c ∷ cs) = ap (λ b. b && list_all is_plain_char (map to_ascii_lowercase cs)) (start_lower c) ∙ ap (λ b. is_plain_start c && b) (chars_lower cs)

pub plain_element : (d : Dialect) (n : List ℕ) → is_plain n ≡ true → element_text d (Some n) ≡ name_bytes d n
plain_element d n h = ap (λ b. cond b (name_bytes d n) (codes "*" ++ name_bracket d n)) (same_plain d n ∙ h)

pub odd_element : (d : Dialect) (n : List ℕ) → is_plain n ≡ false → element_text d (Some n) ≡ codes "*" ++ name_bracket d n
odd_element d n h = ap (λ b. cond b (name_bytes d n) (codes "*" ++ name_bracket d n)) (same_plain d n ∙ h)

pub plain_attribute : (d : Dialect) (n : List ℕ) → is_plain n ≡ true → attribute_text d n ≡ codes "@" ++ name_bytes d n
plain_attribute d n h = ap (λ b. cond b (codes "@" ++ name_bytes d n) (codes "attribute::*" ++ name_bracket d n)) (same_plain d n ∙ h)

pub odd_attribute : (d : Dialect) (n : List ℕ) → is_plain n ≡ false → attribute_text d n ≡ codes "attribute::*" ++ name_bracket d n
odd_attribute d n h = ap (λ b. cond b (codes "@" ++ name_bytes d n) (codes "attribute::*" ++ name_bracket d n)) (same_plain d n ∙ h)

pub class_attribute : (d : Dialect) → attribute_text d (codes "class") ≡ codes "@class"
class_attribute Generic = plain_attribute Generic (codes "class") refl ∙ ap (λ t. codes "@" ++ t) (plain_bytes Generic (codes "class") refl)
class_attribute Html = plain_attribute Html (codes "class") refl ∙ ap (λ t. codes "@" ++ t) (plain_bytes Html (codes "class") refl)
