-- An escape that is written is one unit of content, and stands for its character.
use Rattle.std.proofs.Common.{◌≡◌, ℕ, ◌+◌, ◌-◌, ◌*◌, ◌/◌, ◌%◌, ◌<◌, ◌≤◌, Bool, true, false, not, cond, List, [], ◌∷◌, ◌++◌, length, get_or, take, drop, flat_map, refl, sym, ◌∙◌, ap, subst, arith, leb, ltb, append_assoc, drop-drop, get_or-drop, length-append, length-drop}
use Rattle.std.proofs.Math.Seq.{drop-append_seam, take-append_seam}
use Rattle.std.specs.Prelude.{◌==◌, ◌&&◌, fold, slice_range, encode_utf8}
use Rattle.std.specs.List.{list_all}
use Rattle.std.specs.Char.{digit_char, digit_value}
use Rattle.std.proofs.lemmas.Bool.{and_parts, and_from, lt-ltb}
use Rattle.std.proofs.lemmas.Bool.Decides.{nat_tests}
use Rattle.std.proofs.lemmas.Str.{encode_ascii, digit_value-digit_char}
use lib.Utf8.{scalar, scalars, encodes}
use Rattle.text_base.specs.Text.{run_end, is_space5}
use Rattle.text_base.proofs.Runs.{run_end_step, run_end_stop}
use Rattle.css_lexer.specs.declared.contents.Content.{Content}
use Rattle.css_lexer.specs.declared.contents.Content.TheVariants as content
use Rattle.css_lexer.specs.Steps.{Steps}
use Rattle.css_lexer.specs.Escapes.{is_hex, is_break, hex_len, hex_value, blank_len, char_of, is_escapable, escape_len, escape_value}
use Rattle.css_lexer.specs.Contents.{is_plain, newline_len, lost_len, slashed_len, slashed_value, unit_len, unit_value, Reads}
use Rattle.css_lexer.specs.Spelled.{six_digits, escaped, escapes}

-- ---- numbers of six digits

hex_digit : (d : ℕ) → d < 16 → is_hex (digit_char d) ≡ true
hex_digit d h = grind (arith, nat_tests)

no_break : (d : ℕ) → d < 16 → is_break (digit_char d) ≡ false
no_break d h = grind (arith, nat_tests)

digit_low : (n : ℕ) → n % 16 < 16
digit_low n = omega arith

digit_is : (n : ℕ) → digit_value (digit_char (n % 16)) ≡ n % 16
digit_is n = digit_value-digit_char (n % 16) (omega arith)

hex_there : (n : ℕ) → is_hex (digit_char (n % 16)) ≡ true
hex_there n = hex_digit (n % 16) (digit_low n)

all_hex : (c : ℕ) → list_all is_hex (six_digits c) ≡ true
all_hex c =
    and_from _ _ (hex_there (c / 1048576))
    (and_from _ _ (hex_there (c / 65536)) (and_from _ _ (hex_there (c / 4096)) (and_from _ _ (hex_there (c / 256)) (and_from _ _ (hex_there (c / 16)) (and_from _ _ (hex_there c) refl)))))

abbrev more : ℕ → ℕ → ℕ
more n d = 16 * n + digit_value d

one_more : (n k d : ℕ) → n ≡ k / 16 → 16 * n + digit_value (digit_char (k % 16)) ≡ k
one_more n k d e = omega (arith, digit_is k)

six_value : (c : ℕ) → c < 16777216 → fold more 0 (six_digits c) ≡ c
six_value c h =
    let a : more 0 (digit_char (c / 1048576 % 16)) ≡ c / 1048576 = omega (arith, digit_is (c / 1048576)) in
    let b = one_more (more 0 (digit_char (c / 1048576 % 16))) (c / 65536) 0 (a ∙ (let e : c / 1048576 ≡ c / 65536 / 16 = omega arith in e)) in
    let d = one_more (more (more 0 (digit_char (c / 1048576 % 16))) (digit_char (c / 65536 % 16))) (c / 4096) 0 (b ∙ (let e : c / 65536 ≡ c / 4096 / 16 = omega arith in e)) in
    let f = one_more (more (more (more 0 (digit_char (c / 1048576 % 16))) (digit_char (c / 65536 % 16))) (digit_char (c / 4096 % 16))) (c / 256) 0 (d ∙ (let e : c / 4096 ≡ c / 256 / 16 = omega arith in e)) in
    let g = one_more (more (more (more (more 0 (digit_char (c / 1048576 % 16))) (digit_char (c / 65536 % 16))) (digit_char (c / 4096 % 16))) (digit_char (c / 256 % 16))) (c / 16) 0 (f ∙ (let e : c / 256 ≡ c / 16 / 16 = omega arith in e)) in
    one_more (more (more (more (more (more 0 (digit_char (c / 1048576 % 16))) (digit_char (c / 65536 % 16))) (digit_char (c / 4096 % 16))) (digit_char (c / 256 % 16))) (digit_char (c / 16 % 16))) c 0 g

scalar_low : (c : ℕ) → scalar c ≡ true → c < 16777216
scalar_low c h = grind (arith, nat_tests)

scalar_itself : (c : ℕ) → scalar c ≡ true → (c == 0) ≡ false → char_of c ≡ c
scalar_itself c h some = grind (arith, nat_tests)

-- ---- bytes at places

module _ (text : List ℕ) where
  pub first_byte : (p b : ℕ) (rest : List ℕ) → drop p text ≡ b ∷ rest → get_or text p 0 ≡ b
  first_byte p b rest e = ap (λ n. get_or text n 0) (let z : p ≡ p + 0 = omega arith in z) ∙ sym (get_or-drop p text 0 0) ∙ ap (λ (bs : List ℕ). get_or bs 0 0) e

  pub byte_after : (p k : ℕ) (bs : List ℕ) → drop p text ≡ bs → get_or text (p + k) 0 ≡ get_or bs k 0
  byte_after p k bs e = sym (get_or-drop p text k 0) ∙ ap (λ (xs : List ℕ). get_or xs k 0) e

  pub rest_after : (p : ℕ) (xs ys : List ℕ) → drop p text ≡ xs ++ ys → drop (p + length xs) text ≡ ys
  rest_after p xs ys e = sym (drop-drop (length xs) p text) ∙ ap (drop (length xs)) e ∙ drop-append_seam xs ys

  pub byte_inside : (p b : ℕ) (rest : List ℕ) → drop p text ≡ b ∷ rest → p < length text
  byte_inside p b rest e = omega (arith, length-drop p text, ap length e)

  pub end_there : (p : ℕ) (xs ys : List ℕ) → p ≤ length text → drop p text ≡ xs ++ ys → p + (length xs + length ys) ≡ length text
  end_there p xs ys low e = omega (arith, length-drop p text, ap length e, length-append xs ys)

  -- a run of bytes that pass, and a byte that does not
  pub run_is : (test : ℕ → Bool) (p b : ℕ) (xs rest : List ℕ) → list_all test xs ≡ true → test b ≡ false → drop p text ≡ xs ++ b ∷ rest → run_end test text p ≡ p + length xs
  run_is test p b [] rest h stop e = run_end_stop test text p (byte_inside p b rest e) (ap test (first_byte p b rest e) ∙ stop) ∙ (let z : p ≡ p + 0 = omega arith in z)
  run_is test p b (x ∷ xs) rest h stop e =
      let both = and_parts (test x) (list_all test xs) h in
      run_end_step test text p (byte_inside p x (xs ++ b ∷ rest) e) (ap test (first_byte p x (xs ++ b ∷ rest) e) ∙ both.0)
      ∙ run_is test (p + 1) b xs rest both.1 stop (rest_after p (x ∷ []) (xs ++ b ∷ rest) e)
      ∙ (let z : p + 1 + length xs ≡ p + length (x ∷ xs) = omega arith in z)

  -- ---- one escape

  record IsUnit (content : Content) (p c : ℕ) : Type 0 where
    len : unit_len content text p ≡ length (escaped c)
    value : unit_value content text p ≡ encode_utf8 c

  slash_len : (content : Content) (p : ℕ) → get_or text p 0 ≡ 92 → lost_len content text (p + 1) ≡ 0 → unit_len content text p ≡ escape_len text p
  slash_len content p e none =
      ap (λ b. cond (b == 92) (slashed_len content text p) (run_end (is_plain content) text p - p)) e
      ∙ ap (λ n. cond (ltb 0 n) (1 + n) (escape_len text p)) none

  slash_value : (content : Content) (p : ℕ) → get_or text p 0 ≡ 92 → lost_len content text (p + 1) ≡ 0 → unit_value content text p ≡ escape_value text p
  slash_value content p e none =
      ap (λ b. cond (b == 92) (slashed_value content text p) (slice_range text p (run_end (is_plain content) text p))) e
      ∙ ap (λ n. cond (ltb 0 n) [] (escape_value text p)) none

  no_newline : (p : ℕ) → is_break (get_or text p 0) ≡ false → newline_len text p ≡ 0
  no_newline p h = grind (arith, nat_tests)

  nothing_lost : (content : Content) (p : ℕ) → is_break (get_or text p 0) ≡ false → lost_len content text p ≡ 0
  nothing_lost content.Name p h = refl
  nothing_lost content.Double p h = no_newline p h
  nothing_lost content.Single p h = no_newline p h

  -- of the character 0
  zero_unit : (content : Content) (p : ℕ) (rest : List ℕ) → drop p text ≡ 92 ∷ 0 ∷ rest → (unit_len content text p ≡ 2) × (unit_value content text p ≡ 0 ∷ [])
  zero_unit content p rest e =
      let slash = first_byte p 92 (0 ∷ rest) e in
      let next : get_or text (p + 1) 0 ≡ 0 = byte_after p 1 (92 ∷ 0 ∷ rest) e in
      let within : ltb (p + 1) (length text) ≡ true = lt-ltb (p + 1) (length text) (byte_inside (p + 1) 0 rest (rest_after p (92 ∷ []) (0 ∷ rest) e)) in
      let may : is_escapable text (p + 1) ≡ true = and_from _ _ within (ap (λ b. not (is_break b)) next) in
      let none = nothing_lost content (p + 1) (ap is_break next) in (
        slash_len content p slash none
            ∙ ap (λ b. cond (is_hex b) (1 + hex_len text p + blank_len text (p + 1 + hex_len text p)) (cond (leb 128 b) 1 (cond (is_escapable text (p + 1)) 2 0))) next
            ∙ ap (λ t. cond t 2 0) may,
        slash_value content p slash none
            ∙ ap (λ b. cond (is_hex b) (encode_utf8 (char_of (hex_value text (p + 1) (p + 1 + hex_len text p)))) (cond (leb 128 b) [] (cond (is_escapable text (p + 1)) (b ∷ []) []))) next
            ∙ ap (λ t. cond t (0 ∷ []) []) may,
      )

  -- of a character by its number
  module _ (content : Content) (p c : ℕ) (rest : List ℕ) (is : scalar c ≡ true) (some : (c == 0) ≡ false) (e : drop p text ≡ 92 ∷ (six_digits c ++ 32 ∷ rest)) where
    digits_at : drop (p + 1) text ≡ six_digits c ++ 32 ∷ rest
    digits_at = rest_after p (92 ∷ []) (six_digits c ++ 32 ∷ rest) e

    first_digit : get_or text (p + 1) 0 ≡ digit_char (c / 1048576 % 16)
    first_digit = byte_after p 1 (92 ∷ (six_digits c ++ 32 ∷ rest)) e

    is_first : is_hex (get_or text (p + 1) 0) ≡ true
    is_first = ap is_hex first_digit ∙ hex_digit (c / 1048576 % 16) (digit_low (c / 1048576))

    run_there : run_end is_hex text (p + 1) ≡ p + 1 + 6
    run_there = run_is is_hex (p + 1) 32 (six_digits c) rest
        (all_hex c)
        refl digits_at

    six_there : hex_len text p ≡ 6
    six_there = omega (arith, run_there)

    blank_there : blank_len text (p + 1 + 6) ≡ 1
    blank_there = ap (λ b. cond ((b == 13) && (get_or text (p + 1 + 6 + 1) 0 == 10)) 2 (cond (is_space5 b) 1 0)) (first_byte (p + 1 + 6) 32 rest (rest_after (p + 1) (six_digits c) (32 ∷ rest) digits_at))

    value_there : hex_value text (p + 1) (p + 1 + 6) ≡ c
    value_there =
        ap (fold more 0)
        (ap (λ n. take n (drop (p + 1) text)) (let z : p + 1 + 6 - (p + 1) ≡ 6 = omega arith in z)
        ∙ ap (take 6) digits_at ∙ take-append_seam (six_digits c) (32 ∷ rest))
        ∙ six_value c (scalar_low c is)

    none_lost : lost_len content text (p + 1) ≡ 0
    none_lost = nothing_lost content (p + 1) (ap is_break first_digit ∙ no_break (c / 1048576 % 16) (digit_low (c / 1048576)))

    slash : get_or text p 0 ≡ 92
    slash = first_byte p 92 (six_digits c ++ 32 ∷ rest) e

    number_len : unit_len content text p ≡ 8
    number_len =
        slash_len content p slash none_lost
        ∙ ap (λ t. cond t (1 + hex_len text p + blank_len text (p + 1 + hex_len text p)) (cond (leb 128 (get_or text (p + 1) 0)) 1 (cond (is_escapable text (p + 1)) 2 0))) is_first
        ∙ ap (λ n. 1 + n + blank_len text (p + 1 + n)) six_there ∙ ap (λ n. 1 + 6 + n) blank_there

    number_value : unit_value content text p ≡ encode_utf8 c
    number_value =
        slash_value content p slash none_lost
        ∙ ap (λ t. cond t (encode_utf8 (char_of (hex_value text (p + 1) (p + 1 + hex_len text p)))) (cond (leb 128 (get_or text (p + 1) 0)) [] (cond (is_escapable text (p + 1)) (get_or text (p + 1) 0 ∷ []) []))) is_first
        ∙ ap (λ n. encode_utf8 (char_of (hex_value text (p + 1) (p + 1 + n)))) six_there
        ∙ ap (λ n. encode_utf8 (char_of n)) value_there
        ∙ ap encode_utf8 (scalar_itself c is some)

  unit_by : (content : Content) (p c : ℕ) (rest : List ℕ) → scalar c ≡ true → (b : Bool) → (c == 0) ≡ b → drop p text ≡ cond b (92 ∷ 0 ∷ []) (92 ∷ (six_digits c ++ 32 ∷ [])) ++ rest
      → (unit_len content text p ≡ length (cond b (92 ∷ 0 ∷ []) (92 ∷ (six_digits c ++ 32 ∷ [])))) × (unit_value content text p ≡ encode_utf8 c)
  unit_by content p c rest is true zero e =
      let at = zero_unit content p rest e in
      let none : 0 ≡ c = grind (arith, nat_tests) in
      (at.0, at.1 ∙ sym (encode_ascii 0 (omega arith)) ∙ ap encode_utf8 none)
  unit_by content p c rest is false some e = (number_len content p c rest is some e, number_value content p c rest is some e)

  unit_at : (content : Content) (p c : ℕ) (rest : List ℕ) → scalar c ≡ true → drop p text ≡ escaped c ++ rest → IsUnit content p c
  unit_at content p c rest is e = let at = unit_by content p c rest is (c == 0) refl e in record { len = at.0; value = at.1 }

  -- ---- content

  record AreUnits (content : Content) (p : ℕ) (xs : List ℕ) : Type 0 where
    places : List ℕ
    steps : Steps (unit_len content text) p places (p + length (escapes xs))
    value : flat_map (unit_value content text) places ≡ encodes xs

  some_escape : (b : Bool) (xs : List ℕ) → 0 < length (cond b (92 ∷ 0 ∷ []) (92 ∷ (xs ++ 32 ∷ [])))
  some_escape true xs = omega arith
  some_escape false xs = omega arith

  pub some_bytes : (c : ℕ) → 0 < length (escaped c)
  some_bytes c = some_escape (c == 0) (six_digits c)

  units_at : (content : Content) (p : ℕ) (xs rest : List ℕ) → scalars xs ≡ true → drop p text ≡ escapes xs ++ rest → unit_len content text (p + length (escapes xs)) ≡ 0 → AreUnits content p xs
  units_at content p [] rest are e stop =
      let here : p ≡ p + 0 = omega arith in
      record { places = []; steps = (here, ap (unit_len content text) here ∙ stop); value = refl }
  units_at content p (c ∷ xs) rest are e stop =
      let both = and_parts (scalar c) (scalars xs) are in
      let cut : drop p text ≡ escaped c ++ (escapes xs ++ rest) = e ∙ append_assoc (escaped c) (escapes xs) rest in
      let unit = unit_at content p c (escapes xs ++ rest) both.0 cut in
      let ends : p + length (escaped c) + length (escapes xs) ≡ p + length (escapes (c ∷ xs)) = omega (arith, length-append (escaped c) (escapes xs)) in
      let later = units_at content (p + length (escaped c)) xs rest both.1 (rest_after p (escaped c) (escapes xs ++ rest) cut) (ap (unit_len content text) ends ∙ stop) in
      record {
        places = p ∷ later.places;
        steps = (
          refl,
          subst (λ n. 0 < n) (sym unit.len) (some_bytes c),
          subst (λ n. Steps (unit_len content text) (p + n) later.places (p + length (escapes (c ∷ xs)))) (sym unit.len)
              (subst (λ n. Steps (unit_len content text) (p + length (escaped c)) later.places n) ends later.steps),
        );
        value = ap (λ v. v ++ flat_map (unit_value content text) later.places) unit.value ∙ ap (λ v. encode_utf8 c ++ v) later.value;
      }

  pub reads_escapes : (content : Content) (p : ℕ) (xs rest : List ℕ) → scalars xs ≡ true → drop p text ≡ escapes xs ++ rest → unit_len content text (p + length (escapes xs)) ≡ 0 → Reads content text p (p + length (escapes xs)) (encodes xs)
  reads_escapes content p xs rest are e stop = let units = units_at content p xs rest are e stop in record { places = units.places; steps = units.steps; spelled = units.value }

  -- an escape that stands there has bytes
  pub escape_starts : (p c : ℕ) (rest : List ℕ) → scalar c ≡ true → drop p text ≡ escaped c ++ rest → (get_or text p 0 ≡ 92) × (ltb 0 (escape_len text p) ≡ true)
  escape_starts p c rest is e = by_zero (c == 0) refl e
    where
      by_zero : (b : Bool) → (c == 0) ≡ b → drop p text ≡ cond b (92 ∷ 0 ∷ []) (92 ∷ (six_digits c ++ 32 ∷ [])) ++ rest → (get_or text p 0 ≡ 92) × (ltb 0 (escape_len text p) ≡ true)
      by_zero true zero f =
          let slash = first_byte p 92 (0 ∷ rest) f in
          let next : get_or text (p + 1) 0 ≡ 0 = byte_after p 1 (92 ∷ 0 ∷ rest) f in
          let none = nothing_lost content.Name (p + 1) (ap is_break next) in
          (slash, ap (ltb 0) (sym (slash_len content.Name p slash none) ∙ (zero_unit content.Name p rest f).0))
      by_zero false some f =
          let begins = slash content.Name p c rest is some f in
          (begins, ap (ltb 0) (sym (slash_len content.Name p begins (none_lost content.Name p c rest is some f)) ∙ number_len content.Name p c rest is some f))
