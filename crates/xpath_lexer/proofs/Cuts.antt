-- The sizes are those of the tokens.
use Rattle.std.proofs.Common.{◌≡◌, eqb, refl, sym, ◌∙◌, ap, subst, ℕ, suc, ◌+◌, ◌-◌, ◌<◌, ◌≤◌, Bool, true, false, ◌&&◌, ◌||◌, cond, [], ◌∷◌, ◌++◌, length, get_or, take, drop, Option, Some, None, arith, inr, get_or-drop}
use Rattle.std.proofs.Math.Seq.{take-append-add, drop-append-add}
use Rattle.std.specs.Prelude.{nat_lt}
use Rattle.std.specs.List.{prefix_len}
use Rattle.std.proofs.lemmas.List.{take-append-drop}
use Rattle.std.proofs.lemmas.List.Folds.{length-prefix_len}
use Rattle.std.proofs.lemmas.Bool.Decides.{nat_tests}
use Rattle.text_base.proofs.Runs.{run_end_le, run_end_stops}
use Rattle.text_base.specs.Names.{is_name_start, is_name_byte}
use Rattle.text_base.specs.Text.{run_end, is_digit, is_not_byte}
use Rattle.xpath_lexer.specs.declared.token.XKind.{XKind}
use Rattle.xpath_lexer.specs.declared.token.XKind.TheVariants as k
use Rattle.xpath_lexer.specs.Tokens as t
use Rattle.xpath_lexer.specs.Tokens.{Text, Begun, token, span}
use Rattle.xpath_lexer.specs.inner.Sizes as s
use Rattle.xpath_lexer.specs.inner.Sizes.{Size}
use Rattle.xpath_lexer.proofs.Extents.{one_more, span_is, is_literal, cut, plain_written, grown, prefix_is, star_is, fraction_is, Fits, name_stops, digits_last, fits_later, prefix_fits, star_fits, fraction_fits}

-- ---- each kind of token, by its first byte

-- more bytes of the same value
more_written : (kind : XKind) (a x u : Text) (z : Size) → x ≡ a ++ u → is_literal z.0 ≡ false → grown a u z ≡ cut x (Some (s.after (length a) z))
more_written kind a x u z is h =
    rw (plain_written z.0 (length a + z.1) x h, is, take-append-add a u z.1, drop-append-add a u z.1) refl

prefix_kind : (kind joined : XKind) (u : Text) → is_literal kind ≡ false → is_literal joined ≡ false → is_literal (s.prefix_size kind joined u).0 ≡ false
prefix_kind kind joined u h j = by_test (eqb (get_or u 0 0) 58 && is_name_start (get_or u 1 0)) refl
  where
    by_test : (v : Bool) → (eqb (get_or u 0 0) 58 && is_name_start (get_or u 1 0)) ≡ v → is_literal (s.prefix_size kind joined u).0 ≡ false
    by_test true e = rw e j
    by_test false e = rw e h

star_kind : (u : Text) → is_literal (s.star_size u).0 ≡ false
star_kind u = by_test (eqb (get_or u 0 0) 58 && eqb (get_or u 1 0) 42) refl
  where
    by_test : (v : Bool) → (eqb (get_or u 0 0) 58 && eqb (get_or u 1 0) 42) ≡ v → is_literal (s.star_size u).0 ≡ false
    by_test true e = rw e refl
    by_test false e = rw e (prefix_kind k.Name k.Prefixed u refl refl)

-- the two quotes of a literal
pub record Quotes (x : Text) (n : ℕ) : Type 0 where
  pub two : 2 ≤ n
  pub first : get_or x 0 0 < 128
  pub last : get_or x (n - 1) 0 < 128

-- the size is that of what begins the text, at least 1, and fits
abbrev pub Sound : Text → Option Size → Type 0
Sound x None = Unit {0}
Sound x (Some z) = (0 < z.1) × Fits x z.1 × (is_literal z.0 ≡ true → Quotes x z.1)

no_literal : (kind : XKind) (x : Text) (n : ℕ) → is_literal kind ≡ false → is_literal kind ≡ true → Quotes x n
no_literal kind x n h lit = cc

pub record Right (x : Text) (found : Begun) (size : Option Size) : Type 0 where
  pub is : found ≡ cut x size
  pub fits : Sound x size

none_right : (x : Text) → Right x None None
none_right x = record { is = refl; fits = tt }

right_if : (x : Text) (b : Bool) (f g : Begun) (z y : Option Size) → (b ≡ true → Right x f z) → (b ≡ false → Right x g y) → Right x (cond b f g) (cond b z y)
right_if x true f g z y holds fails = holds refl
right_if x false f g z y holds fails = fails refl

-- a token of one byte
one_right : (kind : XKind) (b : ℕ) (bs : Text) → is_literal kind ≡ false → b < 128 → Right (b ∷ bs) (t.ends_with kind (b ∷ []) bs) (Some (kind, 1))
one_right kind b bs h ascii = record {
  is = ap (λ (v : Text). t.ends_with kind v bs) (sym (plain_written kind 1 (b ∷ bs) h));
  fits = (omega arith, record { within = omega arith; ends = inr (omega arith, ascii) }, no_literal kind _ _ h);
}

-- a token of two bytes
two_right : (kind : XKind) (b c : ℕ) (bs : Text) → is_literal kind ≡ false → c < 128 → Right (b ∷ c ∷ bs) (t.ends_with kind (b ∷ c ∷ []) bs) (Some (kind, 2))
two_right kind b c bs h ascii = record {
  is = ap (λ (v : Text). t.ends_with kind v bs) (sym (plain_written kind 2 (b ∷ c ∷ bs) h));
  fits = (omega arith, record { within = omega arith; ends = inr (omega arith, ascii) }, no_literal kind _ _ h);
}

pair_right : (one both : XKind) (b c : ℕ) (bs : Text) → is_literal one ≡ false → is_literal both ≡ false → b < 128 → c < 128 → 0 < c
    → Right (b ∷ bs) (t.pair one b both c bs) (Some (s.pair_size one both c (b ∷ bs)))
pair_right one both b c [] h j ascii low some =
    let no : eqb 0 c ≡ false = grind (arith, nat_tests) in rw no (one_right one b [] h ascii)
pair_right one both b c (d ∷ ds) h j ascii low some = by_test (eqb d c) refl
  where
    by_test : (v : Bool) → eqb d c ≡ v → Right (b ∷ d ∷ ds) (t.pair one b both c (d ∷ ds)) (Some (s.pair_size one both c (b ∷ d ∷ ds)))
    by_test true e =
        let same : d ≡ c = grind (arith, nat_tests) in
        rw e (subst (λ (v : ℕ). Right (b ∷ d ∷ ds) (t.ends_with both (b ∷ v ∷ []) ds) (Some (both, 2))) same (two_right both b d ds j (omega arith)))
    by_test false e = rw e (one_right one b (d ∷ ds) h ascii)

only_pair_right : (both : XKind) (b c : ℕ) (bs : Text) → is_literal both ≡ false → c < 128 → 0 < c → Right (b ∷ bs) (t.only_pair b both c bs) (s.only_pair_size both c (b ∷ bs))
only_pair_right both b c [] j low some = let no : eqb 0 c ≡ false = grind (arith, nat_tests) in rw no (none_right (b ∷ []))
only_pair_right both b c (d ∷ ds) j low some = by_test (eqb d c) refl
  where
    by_test : (v : Bool) → eqb d c ≡ v → Right (b ∷ d ∷ ds) (t.only_pair b both c (d ∷ ds)) (s.only_pair_size both c (b ∷ d ∷ ds))
    by_test true e =
        let same : d ≡ c = grind (arith, nat_tests) in
        rw e (subst (λ (v : ℕ). Right (b ∷ d ∷ ds) (t.ends_with both (b ∷ v ∷ []) ds) (Some (both, 2))) same (two_right both b d ds j (omega arith)))
    by_test false e = rw e (none_right (b ∷ d ∷ ds))

-- a token that goes on from a name or digits in front
grown_right : (x a u : Text) (found : Begun) (z : Size) → x ≡ a ++ u → 0 < length a → is_literal z.0 ≡ false → found ≡ grown a u z → Fits x (length a + z.1)
    → Right x found (Some (s.after (length a) z))
grown_right x a u found z is some h e fits = record { is = e ∙ more_written z.0 a x u z is h; fits = (omega arith, fits, no_literal z.0 _ _ h) }

-- with the front's length as it is computed
counted_right : (x a u : Text) (found : Begun) (z : Size) (n : ℕ) → n ≡ length a → x ≡ a ++ u → 0 < n → is_literal z.0 ≡ false → found ≡ grown a u z → Fits x (n + z.1)
    → Right x found (Some (s.after n z))
counted_right x a u found z n count is some h e fits =
    subst (λ (m : ℕ). Right x found (Some (s.after m z))) (sym count) (grown_right x a u found z is (omega arith) h e (subst (λ (m : ℕ). Fits x (m + z.1)) count fits))

front_is : (p : ℕ → Bool) (b : ℕ) (bs : Text) → b ∷ bs ≡ (b ∷ take (prefix_len p bs) bs) ++ drop (prefix_len p bs) bs
front_is p b bs = ap (λ (v : Text). b ∷ v) (sym (take-append-drop (prefix_len p bs) bs))

front_count : (p : ℕ → Bool) (b : ℕ) (bs : Text) → run_end p (b ∷ bs) 1 ≡ length (b ∷ take (prefix_len p bs) bs)
front_count p b bs = omega (arith, length-prefix_len p bs)

front_drop : (p : ℕ → Bool) (b : ℕ) (bs : Text) → drop (run_end p (b ∷ bs) 1) (b ∷ bs) ≡ drop (prefix_len p bs) bs
front_drop p b bs = ap (λ (m : ℕ). drop m (b ∷ bs)) (sym (one_more (prefix_len p bs)))

name_right : (b : ℕ) (bs : Text) → Right (b ∷ bs) (t.named b bs) (Some (s.name_size (b ∷ bs)))
name_right b bs =
    let p = is_name_byte in
    let n : ℕ = run_end is_name_byte (b ∷ bs) 1 in
    let u : Text = drop (prefix_len is_name_byte bs) bs in
    let low : n ≤ length (b ∷ bs) = run_end_le is_name_byte (b ∷ bs) 1 (omega arith) in
    let stop : get_or (drop n (b ∷ bs)) 0 0 < 128 = subst (λ (v : ℕ). v < 128) (sym (get_or-drop n (b ∷ bs) 0 0) ∙ refl) (subst (λ (i : ℕ). get_or (b ∷ bs) i 0 < 128) (let e : n ≡ n + 0 = omega arith in e) (name_stops (b ∷ bs) 1 (omega arith))) in
    counted_right (b ∷ bs) (b ∷ take (prefix_len is_name_byte bs) bs) u (t.named b bs) (s.star_size (drop n (b ∷ bs))) n
    (front_count is_name_byte b bs) (front_is is_name_byte b bs) (omega arith) (star_kind (drop n (b ∷ bs)))
    (rw (span_is is_name_byte bs, front_drop is_name_byte b bs) (star_is (b ∷ take (prefix_len is_name_byte bs) bs) u))
    (fits_later (b ∷ bs) n (s.star_size (drop n (b ∷ bs))).1 low (omega arith) (star_fits (drop n (b ∷ bs)) stop))

number_right : (b : ℕ) (bs : Text) → b < 128 → Right (b ∷ bs) (t.number b bs) (Some (s.number_size (b ∷ bs)))
number_right b bs ascii =
    let n : ℕ = run_end is_digit (b ∷ bs) 1 in
    let u : Text = drop (prefix_len is_digit bs) bs in
    let low : n ≤ length (b ∷ bs) = run_end_le is_digit (b ∷ bs) 1 (omega arith) in
    counted_right (b ∷ bs) (b ∷ take (prefix_len is_digit bs) bs) u (t.number b bs) (k.Number, s.fraction_size (drop n (b ∷ bs))) n
    (front_count is_digit b bs) (front_is is_digit b bs) (omega arith) refl
    (rw (span_is is_digit bs, front_drop is_digit b bs) (fraction_is (b ∷ take (prefix_len is_digit bs) bs) u))
    (fraction_fits (b ∷ bs) n low (omega arith) (digits_last (b ∷ bs) 1 (omega arith) ascii))

two_front : (p : ℕ → Bool) (b c : ℕ) (bs : Text) → run_end p (b ∷ c ∷ bs) 2 ≡ length (b ∷ c ∷ take (prefix_len p bs) bs)
two_front p b c bs = omega (arith, length-prefix_len p bs)

two_drop : (p : ℕ → Bool) (b c : ℕ) (bs : Text) → drop (run_end p (b ∷ c ∷ bs) 2) (b ∷ c ∷ bs) ≡ drop (prefix_len p bs) bs
two_drop p b c bs = ap (λ (m : ℕ). drop m (b ∷ c ∷ bs)) (let e : 2 + prefix_len p bs ≡ suc (suc (prefix_len p bs)) = omega arith in e)

variable_right : (bs : Text) → Right (36 ∷ bs) (t.variable bs) (s.variable_size (36 ∷ bs))
variable_right [] = none_right (36 ∷ [])
variable_right (b ∷ bs) = by_test (is_name_start b) refl
  where
    by_test : (v : Bool) → is_name_start b ≡ v → Right (36 ∷ b ∷ bs) (t.variable (b ∷ bs)) (s.variable_size (36 ∷ b ∷ bs))
    by_test true e =
        let x : Text = 36 ∷ b ∷ bs in
        let n : ℕ = run_end is_name_byte (36 ∷ b ∷ bs) 2 in
        let u : Text = drop (prefix_len is_name_byte bs) bs in
        let low : n ≤ length (36 ∷ b ∷ bs) = run_end_le is_name_byte (36 ∷ b ∷ bs) 2 (omega arith) in
        let stop : get_or (drop n (36 ∷ b ∷ bs)) 0 0 < 128 = subst (λ (v : ℕ). v < 128) (sym (get_or-drop n (36 ∷ b ∷ bs) 0 0)) (subst (λ (i : ℕ). get_or (36 ∷ b ∷ bs) i 0 < 128) (let e : n ≡ n + 0 = omega arith in e) (name_stops (36 ∷ b ∷ bs) 2 (omega arith))) in
        rw e (counted_right (36 ∷ b ∷ bs) (36 ∷ b ∷ take (prefix_len is_name_byte bs) bs) u _ (s.prefix_size k.Variable k.Variable (drop n (36 ∷ b ∷ bs))) n
        (two_front is_name_byte 36 b bs) (ap (λ (v : Text). 36 ∷ b ∷ v) (sym (take-append-drop (prefix_len is_name_byte bs) bs))) (omega arith) (prefix_kind k.Variable k.Variable (drop n (36 ∷ b ∷ bs)) refl refl)
        (rw (span_is is_name_byte bs, two_drop is_name_byte 36 b bs) (prefix_is k.Variable k.Variable (36 ∷ b ∷ take (prefix_len is_name_byte bs) bs) u))
        (fits_later (36 ∷ b ∷ bs) n (s.prefix_size k.Variable k.Variable (drop n (36 ∷ b ∷ bs))).1 low (omega arith) (prefix_fits k.Variable k.Variable (drop n (36 ∷ b ∷ bs)) stop)))
    by_test false e = rw e (none_right (36 ∷ b ∷ bs))

point_right : (bs : Text) → Right (46 ∷ bs) (t.point bs) (Some (s.point_size (46 ∷ bs)))
point_right [] = one_right k.Dot 46 [] refl (omega arith)
point_right (b ∷ bs) = by_point (eqb b 46) refl
  where
    by_digit : (v : Bool) → is_digit b ≡ v
        → Right (46 ∷ b ∷ bs) (cond v (let r = span is_digit (b ∷ bs) in t.ends_with k.Number (46 ∷ r.0) r.1) (t.ends_with k.Dot (46 ∷ []) (b ∷ bs)))
        (Some (cond v (k.Number, run_end is_digit (46 ∷ b ∷ bs) 1) (k.Dot, 1)))
    by_digit true e = record {
      is = rw (span_is is_digit (b ∷ bs)) (ap (λ (m : ℕ). cut (46 ∷ b ∷ bs) (Some (k.Number, m))) (one_more (prefix_len is_digit (b ∷ bs))));
      fits = (omega arith, record { within = run_end_le is_digit (46 ∷ b ∷ bs) 1 (omega arith); ends = inr (omega arith, digits_last (46 ∷ b ∷ bs) 1 (omega arith) (omega arith)) }, no_literal k.Number _ _ refl);
    }
    by_digit false e = one_right k.Dot 46 (b ∷ bs) refl (omega arith)

    by_point : (v : Bool) → eqb b 46 ≡ v → Right (46 ∷ b ∷ bs) (t.point (b ∷ bs)) (Some (s.point_size (46 ∷ b ∷ bs)))
    by_point true e =
        let same : b ≡ 46 = grind (arith, nat_tests) in
        rw e (subst (λ (v : ℕ). Right (46 ∷ b ∷ bs) (t.ends_with k.DotDot (46 ∷ v ∷ []) bs) (Some (k.DotDot, 2))) same (two_right k.DotDot 46 b bs refl (omega arith)))
    by_point false e = rw e (by_digit (is_digit b) refl)

-- what stands up to the quote
before_some : (q : ℕ) (bs : Text) → prefix_len (is_not_byte q) bs < length bs
    → t.before_quote q bs ≡ Some (take (prefix_len (is_not_byte q) bs) bs, drop (suc (prefix_len (is_not_byte q) bs)) bs)
before_some q [] h = absurd (omega arith)
before_some q (b ∷ bs) h = by_test (eqb b q) refl (before_some q bs)
  where
    by_test : (v : Bool) → eqb b q ≡ v
        → (prefix_len (is_not_byte q) bs < length bs → t.before_quote q bs ≡ Some (take (prefix_len (is_not_byte q) bs) bs, drop (suc (prefix_len (is_not_byte q) bs)) bs))
        → t.before_quote q (b ∷ bs) ≡ Some (take (prefix_len (is_not_byte q) (b ∷ bs)) (b ∷ bs), drop (suc (prefix_len (is_not_byte q) (b ∷ bs))) (b ∷ bs))
    by_test true e ih = rw e refl
    by_test false e ih =
        let more : prefix_len (is_not_byte q) (b ∷ bs) ≡ suc (prefix_len (is_not_byte q) bs) = rw e (sym (one_more (prefix_len (is_not_byte q) bs))) in
        rw (more, e, ih (omega arith)) refl

before_none : (q : ℕ) (bs : Text) → length bs ≤ prefix_len (is_not_byte q) bs → t.before_quote q bs ≡ None
before_none q [] h = refl
before_none q (b ∷ bs) h = by_test (eqb b q) refl (before_none q bs)
  where
    by_test : (v : Bool) → eqb b q ≡ v → (length bs ≤ prefix_len (is_not_byte q) bs → t.before_quote q bs ≡ None) → t.before_quote q (b ∷ bs) ≡ None
    by_test true e ih =
        let no : prefix_len (is_not_byte q) (b ∷ bs) ≡ 0 = rw e refl in absurd (omega arith)
    by_test false e ih =
        let more : prefix_len (is_not_byte q) (b ∷ bs) ≡ suc (prefix_len (is_not_byte q) bs) = rw e (sym (one_more (prefix_len (is_not_byte q) bs))) in
        rw (e, ih (omega arith)) refl

literal_cut : (q : ℕ) (bs : Text) (m n : ℕ) → n ≡ suc (suc m) → t.literal (Some (take m bs, drop (suc m) bs)) ≡ cut (q ∷ bs) (Some (k.Literal, n))
literal_cut q bs m n e =
    let less : suc (suc m) - 2 ≡ m = omega arith in
    subst (λ (i : ℕ). t.literal (Some (take m bs, drop (suc m) bs)) ≡ cut (q ∷ bs) (Some (k.Literal, i))) (sym e) (ap (λ (i : ℕ). t.ends_with k.Literal (take i bs) (drop (suc m) bs)) (sym less))

literal_right : (q : ℕ) (bs : Text) → q < 128 → Right (q ∷ bs) (t.literal (t.before_quote q bs)) (s.literal_size q (q ∷ bs))
literal_right q bs ascii = by_end (nat_lt (run_end (is_not_byte q) (q ∷ bs) 1) (length (q ∷ bs))) refl
  where
    by_end : (v : Bool) → nat_lt (run_end (is_not_byte q) (q ∷ bs) 1) (length (q ∷ bs)) ≡ v → Right (q ∷ bs) (t.literal (t.before_quote q bs)) (s.literal_size q (q ∷ bs))
    by_end true e =
        let m : ℕ = prefix_len (is_not_byte q) bs in
        let low : run_end (is_not_byte q) (q ∷ bs) 1 < length (q ∷ bs) = grind (arith, nat_tests) in
        let here : prefix_len (is_not_byte q) bs < length bs = omega arith in
        let no : is_not_byte q (get_or (q ∷ bs) (run_end (is_not_byte q) (q ∷ bs) 1) 0) ≡ false = run_end_stops (is_not_byte q) (q ∷ bs) 1 low in
        let quote : get_or (q ∷ bs) (run_end (is_not_byte q) (q ∷ bs) 1) 0 ≡ q = grind (arith, nat_tests) in
        let last : get_or (q ∷ bs) (run_end (is_not_byte q) (q ∷ bs) 1 + 1 - 1) 0 < 128 =
        subst (λ (i : ℕ). get_or (q ∷ bs) i 0 < 128) (let same : run_end (is_not_byte q) (q ∷ bs) 1 ≡ run_end (is_not_byte q) (q ∷ bs) 1 + 1 - 1 = omega arith in same) (omega arith) in
        rw (e, before_some q bs here) (record {
          is = literal_cut q bs m (run_end (is_not_byte q) (q ∷ bs) 1 + 1) (omega arith);
          fits = (omega arith, record { within = omega arith; ends = inr (omega arith, last) }, λ lit. record { two = omega arith; first = ascii; last = last });
        })
    by_end false e =
        let high : length bs ≤ prefix_len (is_not_byte q) bs = grind (arith, nat_tests) in
        rw (e, before_none q bs high) (none_right (q ∷ bs))

-- ---- the token at the front

-- the marks of token, by the first byte
abbrev marked : ℕ → Text → Begun
marked b bs =
    cond (eqb b 40) (t.ends_with k.OpenRound (b ∷ []) bs) (
    cond (eqb b 41) (t.ends_with k.CloseRound (b ∷ []) bs) (
    cond (eqb b 91) (t.ends_with k.OpenSquare (b ∷ []) bs) (
    cond (eqb b 93) (t.ends_with k.CloseSquare (b ∷ []) bs) (
    cond (eqb b 46) (t.point bs) (
    cond (eqb b 64) (t.ends_with k.At (b ∷ []) bs) (
    cond (eqb b 44) (t.ends_with k.Comma (b ∷ []) bs) (
    cond (eqb b 58) (t.only_pair 58 k.DoubleColon 58 bs) (
    cond (eqb b 36) (t.variable bs) (
    cond (eqb b 47) (t.pair k.Slash 47 k.DoubleSlash 47 bs) (
    cond (eqb b 124) (t.ends_with k.Bar (b ∷ []) bs) (
    cond (eqb b 43) (t.ends_with k.Plus (b ∷ []) bs) (
    cond (eqb b 45) (t.ends_with k.Minus (b ∷ []) bs) (
    cond (eqb b 61) (t.ends_with k.Equal (b ∷ []) bs) (
    cond (eqb b 33) (t.only_pair 33 k.Unequal 61 bs) (
    cond (eqb b 60) (t.pair k.Less 60 k.LessEqual 61 bs) (
    cond (eqb b 62) (t.pair k.Greater 62 k.GreaterEqual 61 bs) (
    cond (eqb b 42) (t.ends_with k.Star (b ∷ []) bs) (
    None))))))))))))))))))

mark_right : (b : ℕ) (bs : Text) → Right (b ∷ bs) (marked b bs) (s.mark_size b (b ∷ bs))
mark_right b bs =
    right_if (b ∷ bs) (eqb b 40) _ _ _ _ (λ h. one_right k.OpenRound b bs refl (let same : b ≡ 40 = grind (arith, nat_tests, h) in omega arith)) (λ h.
    right_if (b ∷ bs) (eqb b 41) _ _ _ _ (λ h. one_right k.CloseRound b bs refl (let same : b ≡ 41 = grind (arith, nat_tests, h) in omega arith)) (λ h.
    right_if (b ∷ bs) (eqb b 91) _ _ _ _ (λ h. one_right k.OpenSquare b bs refl (let same : b ≡ 91 = grind (arith, nat_tests, h) in omega arith)) (λ h.
    right_if (b ∷ bs) (eqb b 93) _ _ _ _ (λ h. one_right k.CloseSquare b bs refl (let same : b ≡ 93 = grind (arith, nat_tests, h) in omega arith)) (λ h.
    right_if (b ∷ bs) (eqb b 46) _ _ _ _ (λ h. subst (λ (v : ℕ). Right (v ∷ bs) (t.point bs) (Some (s.point_size (v ∷ bs)))) (let same : 46 ≡ b = grind (arith, nat_tests, h) in same) (point_right bs)) (λ h.
    right_if (b ∷ bs) (eqb b 64) _ _ _ _ (λ h. one_right k.At b bs refl (let same : b ≡ 64 = grind (arith, nat_tests, h) in omega arith)) (λ h.
    right_if (b ∷ bs) (eqb b 44) _ _ _ _ (λ h. one_right k.Comma b bs refl (let same : b ≡ 44 = grind (arith, nat_tests, h) in omega arith)) (λ h.
    right_if (b ∷ bs) (eqb b 58) _ _ _ _ (λ h. subst (λ (v : ℕ). Right (v ∷ bs) (t.only_pair 58 k.DoubleColon 58 bs) (s.only_pair_size k.DoubleColon 58 (v ∷ bs))) (let same : 58 ≡ b = grind (arith, nat_tests, h) in same) (only_pair_right k.DoubleColon 58 58 bs refl (omega arith) (omega arith))) (λ h.
    right_if (b ∷ bs) (eqb b 36) _ _ _ _ (λ h. subst (λ (v : ℕ). Right (v ∷ bs) (t.variable bs) (s.variable_size (v ∷ bs))) (let same : 36 ≡ b = grind (arith, nat_tests, h) in same) (variable_right bs)) (λ h.
    right_if (b ∷ bs) (eqb b 47) _ _ _ _ (λ h. subst (λ (v : ℕ). Right (v ∷ bs) (t.pair k.Slash 47 k.DoubleSlash 47 bs) (Some (s.pair_size k.Slash k.DoubleSlash 47 (v ∷ bs)))) (let same : 47 ≡ b = grind (arith, nat_tests, h) in same) (pair_right k.Slash k.DoubleSlash 47 47 bs refl refl (omega arith) (omega arith) (omega arith))) (λ h.
    right_if (b ∷ bs) (eqb b 124) _ _ _ _ (λ h. one_right k.Bar b bs refl (let same : b ≡ 124 = grind (arith, nat_tests, h) in omega arith)) (λ h.
    right_if (b ∷ bs) (eqb b 43) _ _ _ _ (λ h. one_right k.Plus b bs refl (let same : b ≡ 43 = grind (arith, nat_tests, h) in omega arith)) (λ h.
    right_if (b ∷ bs) (eqb b 45) _ _ _ _ (λ h. one_right k.Minus b bs refl (let same : b ≡ 45 = grind (arith, nat_tests, h) in omega arith)) (λ h.
    right_if (b ∷ bs) (eqb b 61) _ _ _ _ (λ h. one_right k.Equal b bs refl (let same : b ≡ 61 = grind (arith, nat_tests, h) in omega arith)) (λ h.
    right_if (b ∷ bs) (eqb b 33) _ _ _ _ (λ h. subst (λ (v : ℕ). Right (v ∷ bs) (t.only_pair 33 k.Unequal 61 bs) (s.only_pair_size k.Unequal 61 (v ∷ bs))) (let same : 33 ≡ b = grind (arith, nat_tests, h) in same) (only_pair_right k.Unequal 33 61 bs refl (omega arith) (omega arith))) (λ h.
    right_if (b ∷ bs) (eqb b 60) _ _ _ _ (λ h. subst (λ (v : ℕ). Right (v ∷ bs) (t.pair k.Less 60 k.LessEqual 61 bs) (Some (s.pair_size k.Less k.LessEqual 61 (v ∷ bs)))) (let same : 60 ≡ b = grind (arith, nat_tests, h) in same) (pair_right k.Less k.LessEqual 60 61 bs refl refl (omega arith) (omega arith) (omega arith))) (λ h.
    right_if (b ∷ bs) (eqb b 62) _ _ _ _ (λ h. subst (λ (v : ℕ). Right (v ∷ bs) (t.pair k.Greater 62 k.GreaterEqual 61 bs) (Some (s.pair_size k.Greater k.GreaterEqual 61 (v ∷ bs)))) (let same : 62 ≡ b = grind (arith, nat_tests, h) in same) (pair_right k.Greater k.GreaterEqual 62 61 bs refl refl (omega arith) (omega arith) (omega arith))) (λ h.
    right_if (b ∷ bs) (eqb b 42) _ _ _ _ (λ h. one_right k.Star b bs refl (let same : b ≡ 42 = grind (arith, nat_tests, h) in omega arith)) (λ h.
    none_right (b ∷ bs)))))))))))))))))))

pub token_right : (x : Text) → Right x (token x) (s.token_size x)
unfolding s.token_size
token_right [] = none_right []
token_right (b ∷ bs) =
    right_if (b ∷ bs) (is_name_start b) _ _ _ _ (λ h. name_right b bs) (λ h.
    right_if (b ∷ bs) (is_digit b) _ _ _ _ (λ h. number_right b bs (grind (arith, nat_tests, h))) (λ h.
    right_if (b ∷ bs) (eqb b 34 || eqb b 39) _ _ _ _ (λ h. literal_right b bs (grind (arith, nat_tests, h))) (λ h. mark_right b bs)))
