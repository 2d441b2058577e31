-- Names in ASCII lower case.
use Rattle.std.proofs.Common.{◌≡◌, ℕ, zero, suc, ◌+◌, ◌<◌, ◌≤◌, Bool, true, false, ◌&&◌, ◌||◌, List, [], ◌∷◌, length, get_or, sym, refl, ◌∙◌, ap, subst, arith, leb, inl, inr, IsUtf8, encode_utf8, encode_utf8_all, append-nil}
use Rattle.std.specs.Prelude.{◌==◌, not, slice_range, codes}
use Rattle.std.specs.List.{AllPass, list_all, list_any}
use Rattle.std.specs.Char.{to_ascii_lowercase}
use Rattle.std.specs.Str.{bytes_eq, str_to_ascii_lowercase, all_scalars}
use lib.Utf8.{scalar}
use Rattle.std.proofs.lemmas.Bool.{cases_lt, not-true, and_parts}
use Rattle.std.proofs.lemmas.Str.{IsUtf8-nil, IsUtf8-append, IsUtf8-encode, encode_ascii, inside_one}
use Rattle.std.proofs.lemmas.Str.Ascii.{lowercase_ascii}
use Rattle.std.proofs.lemmas.List.{length-map, map-append}
use Rattle.std.proofs.lemmas.Slice.Eq.{bytes_eq-Decides}
use Rattle.std.proofs.lemmas.Bool.Decides.{nat_tests}
use Rattle.text_base.specs.Text.{is_letter}
use Rattle.html_lexer.specs.Kinds.{is_name_byte, is_gap, is_attr_byte}
use Rattle.html_lexer.specs.Names.{is_one_of, is_raw, is_escapable, is_plaintext, closes, literal_names, escapable_names}
use Rattle.html_lexer.specs.TokenLaws.{IsTagName}
use Rattle.html_lexer.proofs.BackLemmas.{NoEnd}
use Rattle.html_reader.specs.Contents.{takes_newline, newline_names}
use Rattle.html_reader.specs.Tables.{is_void, may_omit_end, void_names, omitting_names}

pub lower_twice : (s : List ℕ) → str_to_ascii_lowercase (str_to_ascii_lowercase s) ≡ str_to_ascii_lowercase s
lower_twice [] = refl
lower_twice (c ∷ s) = λ j. one c j ∷ lower_twice s j
  where
    one : (c : ℕ) → to_ascii_lowercase (to_ascii_lowercase c) ≡ to_ascii_lowercase c
    one c = grind (arith, nat_tests)

pub lower_length : (s : List ℕ) → length (str_to_ascii_lowercase s) ≡ length s
lower_length s = length-map s to_ascii_lowercase

-- a test that lower case keeps
pub lower_passes : (p : ℕ → Bool) → ((c : ℕ) → p c ≡ true → p (to_ascii_lowercase c) ≡ true) → (s : List ℕ) → AllPass p s → AllPass p (str_to_ascii_lowercase s)
lower_passes p keeps [] h k d l = absurd (omega arith)
lower_passes p keeps (c ∷ s) h zero d l = keeps c (h zero d (omega arith))
lower_passes p keeps (c ∷ s) h (suc k) d l = lower_passes p keeps s (λ m e q. h (suc m) e (omega arith)) k d (omega arith)

pub attr_lower : (s : List ℕ) → AllPass is_attr_byte s → AllPass is_attr_byte (str_to_ascii_lowercase s)
attr_lower s h = lower_passes is_attr_byte (λ c q. one c q) s h
  where
    one : (c : ℕ) → is_attr_byte c ≡ true → is_attr_byte (to_ascii_lowercase c) ≡ true
    one c q = grind (arith, nat_tests)

-- the tables ask for names in any case
pub raw_lower : (name : List ℕ) → is_raw (str_to_ascii_lowercase name) ≡ is_raw name
raw_lower name = ap (λ z. list_any (λ n. bytes_eq (str_to_ascii_lowercase n) z) literal_names || list_any (λ n. bytes_eq (str_to_ascii_lowercase n) z) escapable_names) (lower_twice name)

pub escapable_lower : (name : List ℕ) → is_escapable (str_to_ascii_lowercase name) ≡ is_escapable name
escapable_lower name = ap (λ z. list_any (λ n. bytes_eq (str_to_ascii_lowercase n) z) escapable_names) (lower_twice name)

pub takes_lower : (name : List ℕ) → takes_newline (str_to_ascii_lowercase name) ≡ takes_newline name
takes_lower name = ap (λ z. list_any (λ n. bytes_eq n z) newline_names) (lower_twice name)

pub plaintext_lower : (name : List ℕ) → is_plaintext (str_to_ascii_lowercase name) ≡ is_plaintext name
plaintext_lower name = ap (λ z. bytes_eq z (str_to_ascii_lowercase (codes "plaintext"))) (lower_twice name)

pub closes_lower : (name s : List ℕ) → closes (str_to_ascii_lowercase name) s ≡ closes name s
closes_lower name s =
    λ j. ((get_or s 0 0 == 60) && (get_or s 1 0 == 47) && (leb (2 + lower_length name j) (length s) && bytes_eq (str_to_ascii_lowercase (slice_range s 2 (2 + lower_length name j))) (lower_twice name j)) && (is_gap (get_or s (2 + lower_length name j) 0) || (get_or s (2 + lower_length name j) 0 == 62)))

pub end_lower : (name s : List ℕ) → NoEnd name s → NoEnd (str_to_ascii_lowercase name) s
end_lower name [] h = tt
end_lower name (c ∷ s) h = (closes_lower name (c ∷ s) ∙ h.0, end_lower name s h.1)

pub tag_lower : (name : List ℕ) → IsTagName name → IsTagName (str_to_ascii_lowercase name)
tag_lower name h =
    record {
      first = first_of name h.first;
      bytes = lower_passes is_name_byte (λ c q. byte c q) name h.bytes;
      no_plaintext = plaintext_lower name ∙ h.no_plaintext;
    }
  where
    byte : (c : ℕ) → is_name_byte c ≡ true → is_name_byte (to_ascii_lowercase c) ≡ true
    byte c q = grind (arith, nat_tests)

    letter : (c : ℕ) → is_letter c ≡ true → is_letter (to_ascii_lowercase c) ≡ true
    letter c q = grind (arith, nat_tests)

    first_of : (s : List ℕ) → is_letter (get_or s 0 0) ≡ true → is_letter (get_or (str_to_ascii_lowercase s) 0 0) ≡ true
    first_of [] q = cc
    first_of (c ∷ s) q = letter c q

-- what holds of all names of a table of the lexer
pub each_lower : (p : List ℕ → Bool) (names : List (List ℕ)) (name : List ℕ) → list_all (λ n. p (str_to_ascii_lowercase n)) names ≡ true → is_one_of names name ≡ true → p (str_to_ascii_lowercase name) ≡ true
each_lower p [] name all h = cc
each_lower p (n ∷ names) name all h =
    let two = and_parts (p (str_to_ascii_lowercase n)) (list_all (λ m. p (str_to_ascii_lowercase m)) names) all in
    by_first (bytes_eq (str_to_ascii_lowercase n) (str_to_ascii_lowercase name)) refl two.0 h (λ k. each_lower p names name two.1 k)
  where
    by_first : (b : Bool) → bytes_eq (str_to_ascii_lowercase n) (str_to_ascii_lowercase name) ≡ b → p (str_to_ascii_lowercase n) ≡ true → (b || is_one_of names name) ≡ true → (is_one_of names name ≡ true → p (str_to_ascii_lowercase name) ≡ true) → p (str_to_ascii_lowercase name) ≡ true
    by_first true is ok k later = subst (λ x. p x ≡ true) ((bytes_eq-Decides (str_to_ascii_lowercase n) (str_to_ascii_lowercase name)).0 is) ok
    by_first false is ok k later = later k

-- elements with raw text: their names are letters, they are not void, and their ends are not omitted
abbrev is_raw_name : List ℕ → Bool
is_raw_name name = list_all is_letter name && (not (is_void name) && not (may_omit_end name))

literal_table : list_all (λ n. is_raw_name (str_to_ascii_lowercase n)) literal_names ≡ true
unfolding literal_names void_names omitting_names
literal_table = refl

escapable_table : list_all (λ n. is_raw_name (str_to_ascii_lowercase n)) escapable_names ≡ true
unfolding escapable_names void_names omitting_names
escapable_table = refl

no_newline_table : list_all (λ n. not (takes_newline (str_to_ascii_lowercase n))) literal_names ≡ true
unfolding literal_names newline_names
no_newline_table = refl

pub all_pass : (p : ℕ → Bool) (s : List ℕ) → list_all p s ≡ true → AllPass p s
all_pass p [] h k d l = absurd (omega arith)
all_pass p (c ∷ s) h zero d l = (and_parts (p c) (list_all p s) h).0
all_pass p (c ∷ s) h (suc k) d l = all_pass p s (and_parts (p c) (list_all p s) h).1 k d (omega arith)

abbrev pub RawName : List ℕ → Type 0
RawName name = AllPass is_letter name × (is_void name ≡ false) × (may_omit_end name ≡ false)

raw_parts : (name : List ℕ) → is_raw_name name ≡ true → RawName name
raw_parts name h =
    let a = and_parts (list_all is_letter name) (not (is_void name) && not (may_omit_end name)) h in
    let b = and_parts (not (is_void name)) (not (may_omit_end name)) a.1 in
    (all_pass is_letter name a.0, not-true (is_void name) b.0, not-true (may_omit_end name) b.1)

pub raw_name : (name : List ℕ) → is_raw name ≡ true → RawName (str_to_ascii_lowercase name)
raw_name name h = raw_parts (str_to_ascii_lowercase name) (by_table (is_one_of literal_names name) refl h)
  where
    by_table : (b : Bool) → is_one_of literal_names name ≡ b → (b || is_one_of escapable_names name) ≡ true → is_raw_name (str_to_ascii_lowercase name) ≡ true
    by_table true is k = each_lower is_raw_name literal_names name literal_table is
    by_table false is k = each_lower is_raw_name escapable_names name escapable_table k

-- raw text that is taken as it is takes no newline
pub literal_newline : (name : List ℕ) → is_raw name ≡ true → is_escapable name ≡ false → takes_newline (str_to_ascii_lowercase name) ≡ false
literal_newline name h e = not-true (takes_newline (str_to_ascii_lowercase name)) (each_lower (λ n. not (takes_newline n)) literal_names name no_newline_table (first (is_one_of literal_names name) (is_escapable name) h e))
  where
    first : (a b : Bool) → (a || b) ≡ true → b ≡ false → a ≡ true
    first true b h e = refl
    first false b h e = cc

-- a text in lower case is UTF-8
high_same : (xs : List ℕ) → ((k : ℕ) → k < length xs → 128 ≤ get_or xs k 0) → str_to_ascii_lowercase xs ≡ xs
high_same [] h = refl
high_same (c ∷ xs) h = λ j. one c (h 0 (omega arith)) j ∷ high_same xs (λ k l. h (suc k) (omega arith)) j
  where
    one : (c : ℕ) → 128 ≤ c → to_ascii_lowercase c ≡ c
    one c l = grind (arith, nat_tests)

high_bytes : (c : ℕ) → 128 ≤ c → (k : ℕ) → k < length (encode_utf8 c) → 128 ≤ get_or (encode_utf8 c) k 0
high_bytes c high k l =
    elim (cases_lt (get_or (encode_utf8 c) k 0) 128) [
      | inl low ↦ absurd (omega (arith, inside_one c [] (encode_utf8 c) k (sym (append-nil (encode_utf8 c))) l low))
      | inr past ↦ past
    ]

lower_encodes : (cs : List ℕ) → all_scalars cs ≡ true → IsUtf8 (str_to_ascii_lowercase (encode_utf8_all cs))
lower_encodes [] h = IsUtf8-nil
lower_encodes (c ∷ cs) h =
    let parts = and_parts (scalar c) (all_scalars cs) h in
    let rest = lower_encodes cs parts.1 in
    subst IsUtf8 (sym (map-append to_ascii_lowercase (encode_utf8 c) (encode_utf8_all cs)))
    (IsUtf8-append (str_to_ascii_lowercase (encode_utf8 c)) (str_to_ascii_lowercase (encode_utf8_all cs))
    (elim (cases_lt c 128) [
      | inl low ↦ subst IsUtf8 (encode_ascii (to_ascii_lowercase c) (lowercase_ascii c low) ∙ sym (ap str_to_ascii_lowercase (encode_ascii c low))) (IsUtf8-encode (to_ascii_lowercase c) (small (to_ascii_lowercase c) (lowercase_ascii c low)))
      | inr high ↦ subst IsUtf8 (sym (high_same (encode_utf8 c) (high_bytes c high))) (IsUtf8-encode c parts.0)
    ])
    rest)
  where
    small : (c : ℕ) → c < 128 → scalar c ≡ true
    small c l = grind (arith, nat_tests)

pub lower_utf8 : (s : List ℕ) → IsUtf8 s → IsUtf8 (str_to_ascii_lowercase s)
lower_utf8 s u = subst (λ x. IsUtf8 (str_to_ascii_lowercase x)) u.1.1 (lower_encodes u.0 u.1.0)
