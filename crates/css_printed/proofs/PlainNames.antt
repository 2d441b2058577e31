-- Plain names are ASCII, and names of XPath.
use Rattle.std.proofs.Common.{◌≡◌, refl, ℕ, ◌<◌, true, List, [], ◌∷◌, ap, ◌∙◌, arith}
use Rattle.std.specs.List.{list_all}
use Rattle.std.specs.Str.{chars, IsAscii}
use Rattle.std.proofs.lemmas.Bool.{and_parts, and_from}
use Rattle.std.proofs.lemmas.Bool.Decides.{nat_tests}
use Rattle.std.proofs.lemmas.Str.{chars-IsAscii, encodes-IsAscii}
use Rattle.std.proofs.lemmas.Str.Ascii.{IsAscii-nil, IsAscii-cons}
use Rattle.css_selectors.specs.declared.selector.Dialect.{Dialect}
use Rattle.css_meaning.specs.Names.{folded}
use Rattle.text_base.specs.Names.{is_name_start, is_name_byte}
use Rattle.css_printed.specs.Names.{is_plain_start, is_plain_char, is_plain, name_bytes}

start_name : (c : ℕ) → is_plain_start c ≡ true → is_name_start c ≡ true
start_name c h = grind (arith, nat_tests)

char_name : (c : ℕ) → is_plain_char c ≡ true → is_name_byte c ≡ true
char_name c h = grind (arith, nat_tests)

start_char : (c : ℕ) → is_plain_start c ≡ true → is_plain_char c ≡ true
start_char c h = grind (arith, nat_tests)

pub name_chars : (cs : List ℕ) → list_all is_plain_char cs ≡ true → list_all is_name_byte cs ≡ true
name_chars [] h = refl
name_chars (c ∷ cs) h = let b = and_parts (is_plain_char c) (list_all is_plain_char cs) h in and_from _ _ (char_name c b.0) (name_chars cs b.1)

pub plain_start : (c : ℕ) (cs : List ℕ) → is_plain (c ∷ cs) ≡ true → is_name_start c ≡ true
plain_start c cs h = start_name c (and_parts (is_plain_start c) (list_all is_plain_char cs) h).0

pub plain_rest : (c : ℕ) (cs : List ℕ) → is_plain (c ∷ cs) ≡ true → list_all is_name_byte cs ≡ true
plain_rest c cs h = name_chars cs (and_parts (is_plain_start c) (list_all is_plain_char cs) h).1

-- plain names are ASCII
char_ascii : (c : ℕ) → is_plain_char c ≡ true → c < 128
char_ascii c h = grind (arith, nat_tests)

chars_ascii : (cs : List ℕ) → list_all is_plain_char cs ≡ true → IsAscii cs
chars_ascii [] h = IsAscii-nil
chars_ascii (c ∷ cs) h = let b = and_parts (is_plain_char c) (list_all is_plain_char cs) h in IsAscii-cons c cs (char_ascii c b.0) (chars_ascii cs b.1)

pub plain_ascii : (n : List ℕ) → is_plain n ≡ true → IsAscii n
plain_ascii [] h = IsAscii-nil
plain_ascii (c ∷ cs) h =
    let b = and_parts (is_plain_start c) (list_all is_plain_char cs) h in IsAscii-cons c cs (char_ascii c (start_char c b.0)) (chars_ascii cs b.1)

pub plain_bytes : (d : Dialect) (n : List ℕ) → is_plain (folded d n) ≡ true → name_bytes d n ≡ folded d n
plain_bytes d n h = encodes-IsAscii (folded d n) (plain_ascii (folded d n) h)

pub plain_chars : (d : Dialect) (n : List ℕ) → is_plain (folded d n) ≡ true → chars (name_bytes d n) ≡ folded d n
plain_chars d n h = ap chars (plain_bytes d n h) ∙ chars-IsAscii (folded d n) (plain_ascii (folded d n) h)
