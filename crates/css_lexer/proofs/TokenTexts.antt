-- Where a text is UTF-8, the value of each of its tokens is a text.
use Rattle.std.proofs.Common.{◌≡◌, ℕ, ◌+◌, ◌-◌, ◌<◌, Bool, true, false, cond, List, [], ◌∷◌, length, get_or, take, drop, flat_map, IsUtf8, refl, sym, ◌∙◌, ap, subst, arith, inr, leb, ltb, leb-false, eqb-true, get_or-drop, get_or-take}
use borrow.Author.Tests.{ltb-true}
use lib.Utf8.{scalar, scalars, low_scalar}
use Rattle.std.specs.Prelude.{◌==◌, ◌&&◌, Option, Some, None, All, slice_range, encode_utf8}
use Rattle.std.specs.Str.{chars}
use Rattle.std.proofs.lemmas.Bool.Decides.{nat_tests}
use Rattle.std.proofs.lemmas.List.Elements.{All-nil, All-cons}
use Rattle.std.proofs.lemmas.Slice.Eq.{bytes_eq-Decides}
use Rattle.std.proofs.lemmas.Str.{IsUtf8-nil, IsUtf8-append, IsUtf8-between, IsUtf8-encode, encode_ascii, scalars-chars}
use Rattle.text_base.specs.Text.{run_end, begins_with, is_digit, is_space5, IsPlace, IsNarrow}
use Rattle.text_base.proofs.Boundaries.{at_start, boundary, in_text, past_byte, run_end_place}
use Rattle.text_base.proofs.Places.{find_in}
use Rattle.text_base.proofs.Runs.{run_end_from}
use Rattle.css_lexer.specs.declared.contents.Content.{Content}
use Rattle.css_lexer.specs.declared.contents.Content.TheVariants as content
use Rattle.css_lexer.specs.declared.rules.Rule.{Rule}
use Rattle.css_lexer.specs.declared.rules.Rule.TheVariants as rule
use Rattle.css_lexer.specs.declared.tokens.CssKind.{CssKind}
use Rattle.css_lexer.specs.declared.tokens.CssKind.TheVariants as kind
use Rattle.css_lexer.specs.declared.tokens.CssToken.{CssToken}
use Rattle.css_lexer.specs.Steps.{Steps}
use Rattle.css_lexer.specs.Comments.{opens_comment, closing_at, comment_len}
use Rattle.css_lexer.specs.Contents.{is_plain, lost_len, slashed_len, slashed_value, unit_len, unit_value, Reads}
use Rattle.css_lexer.specs.Escapes.{is_hex, hex_len, hex_value, char_of, is_escapable, escape_len, escape_value}
use Rattle.css_lexer.specs.Tokens.{token, starts_ident, kind_of_two, kind_of_one, short_token, symbol_at, NameAt, HashAt, QuotedAt, ReadsBy, TokenAt, Spell, Lexes}
use Rattle.css_lexer.specs.inner.Kinds.{plain_wide}
use Rattle.css_lexer.proofs.CommentLemmas.{opening_fits}
use Rattle.css_lexer.proofs.ContentLemmas.{lost_place}
use Rattle.css_lexer.proofs.EscapeLemmas.{cases_if, both_true, escape_place}

-- an escape stands for a character
char_scalar : (n : ℕ) → scalar (char_of n) ≡ true
char_scalar n = grind (arith, nat_tests)

ascii_text : (b : ℕ) → b < 128 → IsUtf8 (b ∷ [])
ascii_text b low = subst IsUtf8 (encode_ascii b low) (IsUtf8-encode b (low_scalar b (omega arith)))

second_some : (b c : ℕ) (k : CssKind) → kind_of_two b c ≡ Some k → 0 < c
second_some b c k h = grind (arith, nat_tests)

second_low : (b c : ℕ) (k : CssKind) → kind_of_two b c ≡ Some k → c < 128
second_low b c k h = grind (arith, nat_tests)

one_some : (b : ℕ) (k : CssKind) → kind_of_one b ≡ Some k → 0 < b
one_some b k h = grind (arith, nat_tests)

one_low : (b : ℕ) (k : CssKind) → kind_of_one b ≡ Some k → b < 128
one_low b k h = grind (arith, nat_tests)

some_same : (t u : CssToken) → Some t ≡ Some u → t ≡ u
some_same t u e = cc

no_some : {A : Type 0} (t : CssToken) → Some t ≡ None → A
no_some t e = cc

-- the value is a text, and the text may be cut after the token
record IsGood (text : List ℕ) (t : CssToken) : Type 0 where
  value : scalars t.value ≡ true
  place : IsPlace text t.to

module _ (text : List ℕ) (utf8 : IsUtf8 text) where
  escape_text : (i : ℕ) → IsUtf8 (escape_value text i)
  escape_text i =
      let b = get_or text (i + 1) 0 in
      cases_if (is_hex b) (encode_utf8 (char_of (hex_value text (i + 1) (i + 1 + hex_len text i)))) (cond (leb 128 b) [] (cond (is_escapable text (i + 1)) (b ∷ []) [])) IsUtf8
      (λ _. IsUtf8-encode (char_of (hex_value text (i + 1) (i + 1 + hex_len text i))) (char_scalar (hex_value text (i + 1) (i + 1 + hex_len text i))))
      (λ _. cases_if (leb 128 b) [] (cond (is_escapable text (i + 1)) (b ∷ []) []) IsUtf8 (λ _. IsUtf8-nil)
      (λ low. cases_if (is_escapable text (i + 1)) (b ∷ []) [] IsUtf8 (λ _. ascii_text b (leb-false 128 b low)) (λ _. IsUtf8-nil)))

  -- units of content
  module _ (content : Content) (i : ℕ) (at : IsPlace text i) where
    run : ℕ
    run = run_end (is_plain content) text i

    run_place : IsPlace text run
    unfolding run
    run_place = run_end_place (is_plain content) text i (run_end (is_plain content) text i) (plain_wide content) utf8 at.within refl at

    unit_text : IsUtf8 (unit_value content text i)
    unfolding run
    unit_text =
        cases_if (get_or text i 0 == 92) (slashed_value content text i) (slice_range text i run) IsUtf8
        (λ _. cases_if (ltb 0 (lost_len content text (i + 1))) [] (escape_value text i) IsUtf8 (λ _. IsUtf8-nil) (λ _. escape_text i))
        (λ _. IsUtf8-between text i run utf8 (run_end_from (is_plain content) text i) (boundary text i at) (boundary text run run_place))

    unit_place : IsPlace text (i + unit_len content text i)
    unfolding run
    unit_place =
        let lost = lost_len content text (i + 1) in
        cases_if (get_or text i 0 == 92) (slashed_len content text i) (run - i) (λ n. IsPlace text (i + n))
        (λ h.
        let slash = eqb-true (get_or text i 0) 92 h in
        cases_if (ltb 0 lost) (1 + lost) (escape_len text i) (λ n. IsPlace text (i + n))
        (λ some. lost_place content text (i + 1) (i + (1 + lost)) lost utf8 refl (ltb-true 0 lost some) (omega arith))
        (λ _. escape_place text i (escape_len text i) utf8 (in_text text i (omega arith)) slash refl))
        (λ _. subst (IsPlace text) (let from = run_end_from (is_plain content) text i in let e : run ≡ i + (run - i) = omega arith in e) run_place)

  -- content
  record IsRead (v : List ℕ) (j : ℕ) : Type 0 where
    value : IsUtf8 v
    place : IsPlace text j

  units_text : (content : Content) (i j : ℕ) (places : List ℕ) → IsPlace text i → Steps (unit_len content text) i places j → IsRead (flat_map (unit_value content text) places) j
  units_text content i j [] at h = record { value = IsUtf8-nil; place = subst (IsPlace text) h.0 at }
  units_text content i j (k ∷ places) at h =
      let rest = units_text content (i + unit_len content text i) j places (unit_place content i at) h.2 in
      record {
        value = IsUtf8-append (unit_value content text k) (flat_map (unit_value content text) places) (subst (λ n. IsUtf8 (unit_value content text n)) h.0 (unit_text content i at)) rest.value;
        place = rest.place;
      }

  read_text : (content : Content) (i j : ℕ) (value : List ℕ) → IsPlace text i → Reads content text i j value → IsRead value j
  read_text content i j value at h = subst (λ v. IsRead v j) h.spelled (units_text content i j h.places at h.steps)

  value_text : (value : List ℕ) (j : ℕ) → IsRead value j → scalars (chars value) ≡ true
  value_text value j h = scalars-chars value h.value

  -- tokens
  none_or : (b : Bool) (t u : CssToken) → IsGood text u → Some t ≡ cond b None (Some u) → IsGood text t
  none_or true t u g e = no_some t e
  none_or false t u g e = subst (IsGood text) (sym (some_same t u e)) g

  or_none : (b : Bool) (t u : CssToken) → (b ≡ true → IsGood text u) → Some t ≡ cond b (Some u) None → IsGood text t
  or_none true t u g e = subst (IsGood text) (sym (some_same t u e)) (g refl)
  or_none false t u g e = no_some t e

  module _ (i : ℕ) (t : CssToken) (at : IsPlace text i) where
    next : (n : ℕ) → 0 < n → n < 128 → get_or text i 0 ≡ n → IsPlace text (i + 1)
    next n some low e = past_byte text i (i + 1) utf8 refl (omega arith) (omega arith)

    run_good : (p : ℕ → Bool) (k : CssKind) → IsNarrow p → Some t ≡ Some (token k i (run_end p text i) []) → IsGood text t
    run_good p k narrow e =
        subst (IsGood text) (sym (some_same t (token k i (run_end p text i) []) e))
        (record { value = refl; place = run_end_place p text i (run_end p text i) (inr narrow) utf8 at.within refl at })

    name_good : ((u : CssToken) × NameAt text i u × (Some t ≡ Some u)) → IsGood text t
    name_good (u, (j, v, g, e), f) =
        let read = read_text content.Name i j v at g in
        subst (IsGood text) (sym (some_same t u f ∙ e))
        (cases_if (get_or text j 0 == 40) (token kind.Function i (j + 1) (chars v)) (token kind.Ident i j (chars v)) (IsGood text)
        (λ h. let open_ = eqb-true (get_or text j 0) 40 h in record { value = value_text v j read; place = past_byte text j (j + 1) utf8 refl (omega arith) (omega arith) })
        (λ _. record { value = value_text v j read; place = read.place }))

    hash_good : get_or text i 0 ≡ 35 → HashAt text i (Some t) → IsGood text t
    hash_good hash (j, v, g, e) =
        let read = read_text content.Name (i + 1) j v (next 35 (omega arith) (omega arith) hash) g in
        none_or (j == i + 1) t (token kind.Hash i j (chars v)) (record { value = value_text v j read; place = read.place }) e

    quoted_good : (content : Content) (quote : ℕ) → 0 < quote → quote < 128 → get_or text i 0 ≡ quote → QuotedAt content quote text i (Some t) → IsGood text t
    quoted_good content quote some low begins (j, v, g, e) =
        let read = read_text content (i + 1) j v (next quote some low begins) g in
        or_none (get_or text j 0 == quote) t (token kind.Quoted i (j + 1) (chars v))
        (λ h. let ends = eqb-true (get_or text j 0) quote h in record { value = value_text v j read; place = past_byte text j (j + 1) utf8 refl (omega arith) (omega arith) }) e

    symbol_good : Some t ≡ symbol_at text i → IsGood text t
    symbol_good e = by_kinds (kind_of_two (get_or text i 0) (get_or text (i + 1) 0)) (kind_of_one (get_or text i 0)) refl refl e
      where
        by_kinds : (two one : Option CssKind) → kind_of_two (get_or text i 0) (get_or text (i + 1) 0) ≡ two → kind_of_one (get_or text i 0) ≡ one → Some t ≡ short_token i two one → IsGood text t
        by_kinds (Some k) one is other e =
            let b = get_or text i 0 in let c = get_or text (i + 1) 0 in
            subst (IsGood text) (sym (some_same t (token k i (i + 2) []) e))
            (record { value = refl; place = past_byte text (i + 1) (i + 2) utf8 (omega arith) (second_some b c k is) (second_low b c k is) })
        by_kinds None (Some k) is other e =
            let b = get_or text i 0 in
            subst (IsGood text) (sym (some_same t (token k i (i + 1) []) e))
            (record { value = refl; place = past_byte text i (i + 1) utf8 refl (one_some b k other) (one_low b k other) })
        by_kinds None None is other e = no_some t e

    abbrev Good : Rule → Type 0
    Good r = ReadsBy r text i (Some t) → IsGood text t

    token_good : TokenAt text i (Some t) → IsGood text t
    token_good =
        let b = get_or text i 0 in
        cases_if (is_space5 b) rule.Space _ Good (λ _ g. run_good is_space5 kind.Space (λ c past. grind (arith, nat_tests)) g)
        (λ _. cases_if (starts_ident text i) rule.Name _ Good (λ _ g. name_good g)
        (λ _. cases_if (b == 35) rule.Hash _ Good (λ h g. hash_good (eqb-true b 35 h) g)
        (λ _. cases_if (b == 34) rule.Double _ Good (λ h g. quoted_good content.Double 34 (omega arith) (omega arith) (eqb-true b 34 h) g)
        (λ _. cases_if (b == 39) rule.Single _ Good (λ h g. quoted_good content.Single 39 (omega arith) (omega arith) (eqb-true b 39 h) g)
        (λ _. cases_if (is_digit b) rule.Digits rule.Symbol Good (λ _ g. run_good is_digit kind.Digits (λ c past. grind (arith, nat_tests)) g)
        (λ _ g. symbol_good g))))))

  -- comments
  comment_place : (i : ℕ) → IsPlace text i → IsPlace text (i + comment_len text i)
  comment_place i at =
      let closing = closing_at text i in
      cases_if (opens_comment text i && ltb closing (length text)) (closing + 2 - i) 0 (λ n. IsPlace text (i + n))
      (λ h.
      let both = both_true (opens_comment text i) (ltb closing (length text)) h in
      let found = find_in (begins_with (42 ∷ 47 ∷ [])) text (i + 2) (opening_fits text i both.0) in
      let low = found.0 in
      let is : take 2 (drop closing text) ≡ 42 ∷ 47 ∷ [] = (bytes_eq-Decides (take 2 (drop closing text)) (42 ∷ 47 ∷ [])).0 (found.2 (ltb-true closing (length text) both.1)) in
      let slash : get_or text (closing + 1) 0 ≡ 47 = sym (get_or-drop closing text 1 0) ∙ sym (get_or-take 2 (drop closing text) 1 0 (omega arith)) ∙ ap (λ (bs : List ℕ). get_or bs 1 0) is in
      past_byte text (closing + 1) (i + (closing + 2 - i)) utf8 (omega arith) (omega arith) (omega arith))
      (λ _. subst (IsPlace text) (let e : i ≡ i + 0 = omega arith in e) at)

  comments_place : (i j : ℕ) (places : List ℕ) → IsPlace text i → Steps (comment_len text) i places j → IsPlace text j
  comments_place i j [] at h = subst (IsPlace text) h.0 at
  comments_place i j (k ∷ places) at h = comments_place (i + comment_len text i) j places (comment_place i at) h.2

  tokens_text : (i : ℕ) (ts : List CssToken) → IsPlace text i → Spell text i ts (length text) → All (λ (t : CssToken). scalars t.value ≡ true) ts
  tokens_text i [] at h = All-nil (λ (t : CssToken). scalars t.value ≡ true)
  tokens_text i (t ∷ ts) at h =
      let good = token_good t.from t (comments_place i t.from h.0.0 at h.0.1) h.1 in
      All-cons (λ (t : CssToken). scalars t.value ≡ true) t ts good.value (tokens_text t.to ts good.place h.2)

pub all_texts : (text : List ℕ) (ts : List CssToken) → IsUtf8 text → Lexes text ts → All (λ t. scalars t.value ≡ true) ts
all_texts text ts utf8 h = tokens_text text utf8 0 ts (at_start text utf8) h.spelled
