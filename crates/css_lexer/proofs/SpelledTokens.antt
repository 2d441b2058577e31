-- What is written plainly is read as it was written.
use Rattle.std.proofs.Common.{◌≡◌, ◌≢◌, ℕ, ◌+◌, ◌-◌, ◌<◌, Bool, true, false, cond, List, [], ◌∷◌, ◌++◌, length, get_or, take, drop, refl, sym, ◌∙◌, ap, subst, arith, ltb, append_assoc, length-append, length-drop}
use Rattle.std.specs.Prelude.{◌==◌, ◌||◌, ◌&&◌, Option, Some, None, slice_range, nat_le}
use Rattle.std.specs.List.{AllByRecursion, list_all}
use Rattle.std.specs.Str.{chars}
use Rattle.std.proofs.lemmas.Bool.{and_parts, ne_eqb, lt-ltb}
use Rattle.std.proofs.lemmas.Bool.Decides.{nat_tests}
use Rattle.std.proofs.lemmas.List.{get_or_past}
use Rattle.std.proofs.lemmas.List.Elements.{recursion_from_All}
use Rattle.std.proofs.lemmas.Str.{chars-encodes}
use lib.Utf8.{scalar, scalars, encode, encodes}
use Rattle.text_base.specs.Text.{run_end, begins_with, is_digit, is_letter, is_space5}
use Rattle.text_base.proofs.Places.{find_here}
use Rattle.text_base.proofs.Runs.{run_end_stop}
use Rattle.css_lexer.specs.declared.contents.Content.TheVariants as content
use Rattle.css_lexer.specs.declared.rules.Rule.{Rule}
use Rattle.css_lexer.specs.declared.rules.Rule.TheVariants as rule
use Rattle.css_lexer.specs.declared.tokens.CssKind.{CssKind}
use Rattle.css_lexer.specs.declared.tokens.CssKind.TheVariants as kind
use Rattle.css_lexer.specs.declared.tokens.CssToken.{CssToken}
use Rattle.css_lexer.specs.Comments.{opens_comment, closing_at, comment_len, Comments}
use Rattle.css_lexer.specs.Contents.{is_plain, slashed_len, slashed_value, unit_len, unit_value, Reads}
use Rattle.css_lexer.specs.Escapes.{escape_len}
use Rattle.css_lexer.specs.Tokens.{token, starts_name, rule_at, kind_of_two, kind_of_one, short_token, ReadsBy, TokenAt, Spell}
use Rattle.css_lexer.specs.Spelled.{Sign, Name, Call, Hash, Quoted, Number, LetterN, Blank, Mark, escaped, escapes, mark, bytes_of, kind_of, value_of, IsSign, empty_comment, spelled, placed, IsReadBack}
use Rattle.css_lexer.proofs.SpelledUnits.{first_byte, byte_after, rest_after, byte_inside, run_is, some_bytes, reads_escapes, escape_starts}

-- the token of a sign at i
abbrev here : ℕ → Sign → CssToken
here i s = token (kind_of s) i (i + length (bytes_of s)) (value_of s)

zero_sum : (n : ℕ) → n ≡ n + 0
zero_sum n = omega arith

module _ (text : List ℕ) where
  -- what stands after a token
  abbrev After : ℕ → List ℕ → Type 0
  After i rest = drop i text ≡ 47 ∷ 42 ∷ 42 ∷ 47 ∷ rest

  -- ---- names

  -- content ends before the bracket and the comment
  name_stops : (p b : ℕ) (rest : List ℕ) → is_plain content.Name b ≡ false → (b == 92) ≡ false → drop p text ≡ b ∷ rest → unit_len content.Name text p ≡ 0
  name_stops p b rest odd other e =
      let first = first_byte text p b rest e in
      let ends = run_end_stop (is_plain content.Name) text p (byte_inside text p b rest e) (ap (is_plain content.Name) first ∙ odd) in
      ap (λ t. cond t (slashed_len content.Name text p) (run_end (is_plain content.Name) text p - p)) (ap (λ c. c == 92) first ∙ other)
      ∙ (let z : run_end (is_plain content.Name) text p - p ≡ 0 = omega arith in z)

  quoted_stops : (p : ℕ) (rest : List ℕ) → drop p text ≡ 34 ∷ rest → unit_len content.Double text p ≡ 0
  quoted_stops p rest e =
      let first = first_byte text p 34 rest e in
      let ends = run_end_stop (is_plain content.Double) text p (byte_inside text p 34 rest e) (ap (is_plain content.Double) first) in
      ap (λ t. cond t (slashed_len content.Double text p) (run_end (is_plain content.Double) text p - p)) (ap (λ c. c == 92) first)
      ∙ (let z : run_end (is_plain content.Double) text p - p ≡ 0 = omega arith in z)

  -- ---- rules

  -- the rule by the byte at i, by whether a name starts after it, and whether an escape does there
  rule_of : ℕ → Bool → Bool → Rule
  rule_of b after escape =
      cond (is_space5 b) rule.Space
      (cond (cond (b == 45) after (cond (b == 92) escape (is_letter b || (b == 95) || nat_le 128 b))) rule.Name
      (cond (b == 35) rule.Hash (cond (b == 34) rule.Double (cond (b == 39) rule.Single (cond (is_digit b) rule.Digits rule.Symbol)))))

  rule_is : (i b : ℕ) → get_or text i 0 ≡ b → rule_at text i ≡ rule_of b (starts_name text (i + 1)) (ltb 0 (escape_len text i))
  unfolding rule_of
  rule_is i b e = ap (λ c. rule_of c (starts_name text (i + 1)) (ltb 0 (escape_len text i))) e

  digit_rule : (d : ℕ) (after escape : Bool) → is_digit d ≡ true → rule_of d after escape ≡ rule.Digits
  unfolding rule_of
  digit_rule d after escape h = grind (arith, nat_tests)

  by_rule : (i : ℕ) (r : Rule) (read : Option CssToken) → rule_at text i ≡ r → ReadsBy r text i read → TokenAt text i read
  by_rule i r read e h = subst (λ x. ReadsBy x text i read) (sym e) h

  -- a name begins where an escape does
  name_begins : (i : ℕ) (xs rest : List ℕ) → xs ≢ [] → scalars xs ≡ true → drop i text ≡ escapes xs ++ rest → rule_at text i ≡ rule.Name
  unfolding rule_of
  name_begins i [] rest some are e = absurd (some refl)
  name_begins i (c ∷ xs) rest some are e =
      let starts = escape_starts text i c (escapes xs ++ rest) (and_parts (scalar c) (scalars xs) are).0 (e ∙ append_assoc (escaped c) (escapes xs) rest) in
      rule_is i 92 starts.0 ∙ ap (rule_of 92 (starts_name text (i + 1))) starts.1

  -- ---- tokens

  token_as : (k : CssKind) (i j l : ℕ) (v w : List ℕ) → j ≡ l → v ≡ w → token k i j v ≡ token k i l w
  token_as k i j l v w e f = cc

  some_as : (t u : CssToken) → t ≡ u → Some t ≡ Some u
  some_as t u e = cc

  name_reads : (i : ℕ) (x rest : List ℕ) → x ≢ [] → scalars x ≡ true → drop i text ≡ escapes x ++ 47 ∷ rest → TokenAt text i (Some (here i (Name x)))
  name_reads i x rest some are e =
      let j = i + length (escapes x) in
      let next = rest_after text i (escapes x) (47 ∷ rest) e in
      by_rule i rule.Name _ (name_begins i x (47 ∷ rest) some are e) (
        here i (Name x),
        (
          j,
          encodes x,
          reads_escapes text content.Name i x (47 ∷ rest) are e (name_stops j 47 rest refl refl next),
          token_as kind.Ident i j j x (chars (encodes x)) refl (sym (chars-encodes x are))
              ∙ sym (ap (λ b. cond (b == 40) (token kind.Function i (j + 1) (chars (encodes x))) (token kind.Ident i j (chars (encodes x)))) (first_byte text j 47 rest next)),
        ),
        refl,
      )

  call_reads : (i : ℕ) (x rest : List ℕ) → x ≢ [] → scalars x ≡ true → drop i text ≡ (escapes x ++ 40 ∷ []) ++ rest → TokenAt text i (Some (here i (Call x)))
  call_reads i x rest some are e =
      let j = i + length (escapes x) in
      let cut : drop i text ≡ escapes x ++ 40 ∷ rest = e ∙ append_assoc (escapes x) (40 ∷ []) rest in
      let next = rest_after text i (escapes x) (40 ∷ rest) cut in
      by_rule i rule.Name _ (name_begins i x (40 ∷ rest) some are cut) (
        here i (Call x),
        (
          j,
          encodes x,
          reads_escapes text content.Name i x (40 ∷ rest) are cut (name_stops j 40 rest refl refl next),
          token_as kind.Function i (i + length (escapes x ++ 40 ∷ [])) (j + 1) x (chars (encodes x)) (omega (arith, length-append (escapes x) (40 ∷ []))) (sym (chars-encodes x are))
              ∙ sym (ap (λ b. cond (b == 40) (token kind.Function i (j + 1) (chars (encodes x))) (token kind.Ident i j (chars (encodes x)))) (first_byte text j 40 rest next)),
        ),
        refl,
      )

  some_length : (x : List ℕ) → x ≢ [] → 0 < length (escapes x)
  some_length [] some = absurd (some refl)
  some_length (c ∷ x) some = omega (arith, some_bytes text c, length-append (escaped c) (escapes x))

  hash_reads : (i : ℕ) (x rest : List ℕ) → x ≢ [] → scalars x ≡ true → drop i text ≡ 35 ∷ (escapes x ++ 47 ∷ rest) → TokenAt text i (Some (here i (Hash x)))
  unfolding rule_of
  hash_reads i x rest some are e =
      let j = i + 1 + length (escapes x) in
      let first = first_byte text i 35 (escapes x ++ 47 ∷ rest) e in
      let inner : drop (i + 1) text ≡ escapes x ++ 47 ∷ rest = rest_after text i (35 ∷ []) (escapes x ++ 47 ∷ rest) e in
      let next = rest_after text (i + 1) (escapes x) (47 ∷ rest) inner in
      let moved : (j == i + 1) ≡ false = ne_eqb j (i + 1) (λ f. absurd (let l = some_length x some in omega arith)) in
      by_rule i rule.Hash _ (rule_is i 35 first) (
        j,
        encodes x,
        reads_escapes text content.Name (i + 1) x (47 ∷ rest) are inner (name_stops j 47 rest refl refl next),
        some_as (here i (Hash x)) (token kind.Hash i j (chars (encodes x))) (token_as kind.Hash i (i + length (35 ∷ escapes x)) j x (chars (encodes x)) (omega arith) (sym (chars-encodes x are)))
            ∙ sym (ap (λ b. cond b None (Some (token kind.Hash i j (chars (encodes x))))) moved),
      )

  quoted_reads : (i : ℕ) (x rest : List ℕ) → scalars x ≡ true → drop i text ≡ (34 ∷ (escapes x ++ 34 ∷ [])) ++ rest → TokenAt text i (Some (here i (Quoted x)))
  unfolding rule_of
  quoted_reads i x rest are e =
      let j = i + 1 + length (escapes x) in
      let cut : drop i text ≡ 34 ∷ (escapes x ++ 34 ∷ rest) = e ∙ ap (λ v. 34 ∷ v) (append_assoc (escapes x) (34 ∷ []) rest) in
      let first = first_byte text i 34 (escapes x ++ 34 ∷ rest) cut in
      let inner : drop (i + 1) text ≡ escapes x ++ 34 ∷ rest = rest_after text i (34 ∷ []) (escapes x ++ 34 ∷ rest) cut in
      let next = rest_after text (i + 1) (escapes x) (34 ∷ rest) inner in
      by_rule i rule.Double _ (rule_is i 34 first) (
        j,
        encodes x,
        reads_escapes text content.Double (i + 1) x (34 ∷ rest) are inner (quoted_stops j rest next),
        some_as (here i (Quoted x)) (token kind.Quoted i (j + 1) (chars (encodes x)))
            (token_as kind.Quoted i (i + length (34 ∷ (escapes x ++ 34 ∷ []))) (j + 1) x (chars (encodes x)) (omega (arith, length-append (escapes x) (34 ∷ []))) (sym (chars-encodes x are)))
            ∙ sym (ap (λ b. cond (b == 34) (Some (token kind.Quoted i (j + 1) (chars (encodes x)))) None) (first_byte text j 34 rest next)),
      )

  number_reads : (i : ℕ) (ds rest : List ℕ) → ds ≢ [] → list_all is_digit ds ≡ true → drop i text ≡ ds ++ 47 ∷ rest → TokenAt text i (Some (here i (Number ds)))
  number_reads i [] rest some are e = absurd (some refl)
  number_reads i (d ∷ ds) rest some are e =
      by_rule i rule.Digits _ (rule_is i d (first_byte text i d (ds ++ 47 ∷ rest) e) ∙ digit_rule d (starts_name text (i + 1)) (ltb 0 (escape_len text i)) (and_parts (is_digit d) (list_all is_digit ds) are).0)
      (some_as _ _ (token_as kind.Digits i (i + length (d ∷ ds)) (run_end is_digit text i) [] [] (sym (run_is text is_digit i 47 (d ∷ ds) rest are refl e)) refl))

  blank_reads : (i : ℕ) (rest : List ℕ) → drop i text ≡ 32 ∷ 47 ∷ rest → TokenAt text i (Some (here i Blank))
  unfolding rule_of
  blank_reads i rest e =
      by_rule i rule.Space _ (rule_is i 32 (first_byte text i 32 (47 ∷ rest) e))
      (some_as _ _ (token_as kind.Space i (i + 1) (run_end is_space5 text i) [] [] (sym (run_is text is_space5 i 47 (32 ∷ []) rest refl refl e)) refl))

  letter_reads : (i : ℕ) (rest : List ℕ) → drop i text ≡ 110 ∷ 47 ∷ rest → TokenAt text i (Some (here i LetterN))
  unfolding rule_of encode
  letter_reads i rest e =
      let first = first_byte text i 110 (47 ∷ rest) e in
      let next : drop (i + 1) text ≡ 47 ∷ rest = rest_after text i (110 ∷ []) (47 ∷ rest) e in
      let run : run_end (is_plain content.Name) text i ≡ i + 1 = run_is text (is_plain content.Name) i 47 (110 ∷ []) rest refl refl e in
      let len : unit_len content.Name text i ≡ 1 =
      ap (λ b. cond (b == 92) (slashed_len content.Name text i) (run_end (is_plain content.Name) text i - i)) first ∙ (let z : run_end (is_plain content.Name) text i - i ≡ 1 = omega arith in z) in
      let value : unit_value content.Name text i ≡ 110 ∷ [] =
      ap (λ b. cond (b == 92) (slashed_value content.Name text i) (slice_range text i (run_end (is_plain content.Name) text i))) first
      ∙ ap (λ n. take n (drop i text)) (let z : run_end (is_plain content.Name) text i - i ≡ 1 = omega arith in z)
      ∙ ap (take 1) e in
      let reads : Reads content.Name text i (i + 1) (110 ∷ []) = record {
        places = i ∷ [];
        steps = (refl, omega arith, (ap (λ n. i + n) len, ap (λ n. unit_len content.Name text (i + n)) len ∙ name_stops (i + 1) 47 rest refl refl next));
        spelled = ap (λ v. v ++ []) value;
      } in
      by_rule i rule.Name _ (rule_is i 110 first) (
        here i LetterN,
        (
          i + 1,
          110 ∷ [],
          reads,
          token_as kind.Ident i (i + 1) (i + 1) (110 ∷ []) (chars (110 ∷ [])) refl (sym (chars-encodes (110 ∷ []) refl))
              ∙ sym (ap (λ b. cond (b == 40) (token kind.Function i (i + 1 + 1) (chars (110 ∷ []))) (token kind.Ident i (i + 1) (chars (110 ∷ [])))) (first_byte text (i + 1) 47 rest next)),
        ),
        refl,
      )

  -- ---- marks

  pair_reads : (k : CssKind) (b c i : ℕ) (rest : List ℕ) → ((after escape : Bool) → rule_of b after escape ≡ rule.Symbol) → kind_of_two b c ≡ Some k → drop i text ≡ b ∷ c ∷ rest → TokenAt text i (Some (token k i (i + 2) []))
  pair_reads k b c i rest symbol two e =
      let first = first_byte text i b (c ∷ rest) e in
      by_rule i rule.Symbol _ (rule_is i b first ∙ symbol (starts_name text (i + 1)) (ltb 0 (escape_len text i)))
      (sym (ap (λ d. short_token i (kind_of_two d (get_or text (i + 1) 0)) (kind_of_one (get_or text i 0))) first
      ∙ ap (λ d. short_token i (kind_of_two b d) (kind_of_one (get_or text i 0))) (byte_after text i 1 (b ∷ c ∷ rest) e)
      ∙ ap (λ o. short_token i o (kind_of_one (get_or text i 0))) two))

  one_reads : (k : CssKind) (b i : ℕ) (rest : List ℕ) → rule_at text i ≡ rule.Symbol → kind_of_two b 47 ≡ None → kind_of_one b ≡ Some k → drop i text ≡ b ∷ 47 ∷ rest → TokenAt text i (Some (token k i (i + 1) []))
  one_reads k b i rest symbol none one e =
      let first = first_byte text i b (47 ∷ rest) e in
      by_rule i rule.Symbol _ symbol
      (sym (ap (λ d. short_token i (kind_of_two d (get_or text (i + 1) 0)) (kind_of_one d)) first
      ∙ ap (λ d. short_token i (kind_of_two b d) (kind_of_one b)) (byte_after text i 1 (b ∷ 47 ∷ rest) e)
      ∙ ap (λ o. short_token i o (kind_of_one b)) none ∙ ap (short_token i None) one))

  sign_reads : (k : CssKind) (b i : ℕ) (rest : List ℕ) → ((after escape : Bool) → rule_of b after escape ≡ rule.Symbol) → kind_of_two b 47 ≡ None → kind_of_one b ≡ Some k → drop i text ≡ b ∷ 47 ∷ rest → TokenAt text i (Some (token k i (i + 1) []))
  sign_reads k b i rest symbol none one e =
      one_reads k b i rest (rule_is i b (first_byte text i b (47 ∷ rest) e) ∙ symbol (starts_name text (i + 1)) (ltb 0 (escape_len text i))) none one e

  -- no name begins with a `-` before a comment
  minus_reads : (i : ℕ) (rest : List ℕ) → drop i text ≡ 45 ∷ 47 ∷ rest → TokenAt text i (Some (token kind.Minus i (i + 1) []))
  unfolding rule_of
  minus_reads i rest e =
      let no_name : starts_name text (i + 1) ≡ false = ap (λ b. cond (b == 92) (ltb 0 (escape_len text (i + 1))) (is_letter b || (b == 95) || nat_le 128 b)) (byte_after text i 1 (45 ∷ 47 ∷ rest) e) in
      one_reads kind.Minus 45 i rest (rule_is i 45 (first_byte text i 45 (47 ∷ rest) e) ∙ ap (λ after. rule_of 45 after (ltb 0 (escape_len text i))) no_name) refl refl e

  mark_reads : (k : CssKind) (i : ℕ) (rest : List ℕ) → mark k ≢ [] → drop i text ≡ mark k ++ 47 ∷ rest → TokenAt text i (Some (here i (Mark k)))
  unfolding rule_of
  mark_reads kind.WordMatch i rest some e = pair_reads kind.WordMatch 126 61 i (47 ∷ rest) (λ a b. refl) refl e
  mark_reads kind.DashMatch i rest some e = pair_reads kind.DashMatch 124 61 i (47 ∷ rest) (λ a b. refl) refl e
  mark_reads kind.PrefixMatch i rest some e = pair_reads kind.PrefixMatch 94 61 i (47 ∷ rest) (λ a b. refl) refl e
  mark_reads kind.SuffixMatch i rest some e = pair_reads kind.SuffixMatch 36 61 i (47 ∷ rest) (λ a b. refl) refl e
  mark_reads kind.PartMatch i rest some e = pair_reads kind.PartMatch 42 61 i (47 ∷ rest) (λ a b. refl) refl e
  mark_reads kind.DoubleColon i rest some e = pair_reads kind.DoubleColon 58 58 i (47 ∷ rest) (λ a b. refl) refl e
  mark_reads kind.Star i rest some e = sign_reads kind.Star 42 i rest (λ a b. refl) refl refl e
  mark_reads kind.Dot i rest some e = sign_reads kind.Dot 46 i rest (λ a b. refl) refl refl e
  mark_reads kind.Colon i rest some e = sign_reads kind.Colon 58 i rest (λ a b. refl) refl refl e
  mark_reads kind.OpenSquare i rest some e = sign_reads kind.OpenSquare 91 i rest (λ a b. refl) refl refl e
  mark_reads kind.CloseSquare i rest some e = sign_reads kind.CloseSquare 93 i rest (λ a b. refl) refl refl e
  mark_reads kind.CloseRound i rest some e = sign_reads kind.CloseRound 41 i rest (λ a b. refl) refl refl e
  mark_reads kind.Comma i rest some e = sign_reads kind.Comma 44 i rest (λ a b. refl) refl refl e
  mark_reads kind.Plus i rest some e = sign_reads kind.Plus 43 i rest (λ a b. refl) refl refl e
  mark_reads kind.Greater i rest some e = sign_reads kind.Greater 62 i rest (λ a b. refl) refl refl e
  mark_reads kind.Tilde i rest some e = sign_reads kind.Tilde 126 i rest (λ a b. refl) refl refl e
  mark_reads kind.Bar i rest some e = sign_reads kind.Bar 124 i rest (λ a b. refl) refl refl e
  mark_reads kind.Equal i rest some e = sign_reads kind.Equal 61 i rest (λ a b. refl) refl refl e
  mark_reads kind.Minus i rest some e = minus_reads i rest e
  mark_reads _ i rest some e = absurd (some refl)

  -- ---- signs

  sign_there : (s : Sign) (i : ℕ) (rest : List ℕ) → IsSign s → drop i text ≡ bytes_of s ++ 47 ∷ rest → TokenAt text i (Some (here i s))
  sign_there (Name x) i rest h e = name_reads i x rest h.0 h.1 e
  sign_there (Call x) i rest h e = call_reads i x (47 ∷ rest) h.0 h.1 e
  sign_there (Hash x) i rest h e = hash_reads i x rest h.0 h.1 e
  sign_there (Quoted x) i rest h e = quoted_reads i x (47 ∷ rest) h e
  sign_there (Number ds) i rest h e = number_reads i ds rest h.0 h.1 e
  sign_there LetterN i rest h e = letter_reads i rest e
  sign_there Blank i rest h e = blank_reads i rest e
  sign_there (Mark k) i rest h e = mark_reads k i rest h e

  -- ---- comments

  comment_there : (i : ℕ) (rest : List ℕ) → drop i text ≡ empty_comment ++ rest → comment_len text i ≡ 4
  comment_there i rest e =
      let opens : opens_comment text i ≡ true =
      ap (λ b. (b == 47) && (get_or text (i + 1) 0 == 42)) (first_byte text i 47 (42 ∷ 42 ∷ 47 ∷ rest) e) ∙ ap (λ b. b == 42) (byte_after text i 1 (empty_comment ++ rest) e) in
      let closing : drop (i + 2) text ≡ 42 ∷ 47 ∷ rest = rest_after text i (47 ∷ 42 ∷ []) (42 ∷ 47 ∷ rest) e in
      let inside = byte_inside text (i + 2) 42 (47 ∷ rest) closing in
      let at : closing_at text i ≡ i + 2 = find_here (begins_with (42 ∷ 47 ∷ [])) text (i + 2) inside (ap (begins_with (42 ∷ 47 ∷ [])) closing) in
      ap (λ n. cond (opens_comment text i && ltb n (length text)) (n + 2 - i) 0) at
      ∙ ap (λ b. cond (b && ltb (i + 2) (length text)) (i + 2 + 2 - i) 0) opens
      ∙ ap (λ b. cond b (i + 2 + 2 - i) 0) (lt-ltb (i + 2) (length text) inside)
      ∙ (let z : i + 2 + 2 - i ≡ 4 = omega arith in z)

  no_comment : (i : ℕ) → (get_or text i 0 == 47) ≡ false → comment_len text i ≡ 0
  no_comment i h = ap (λ b. cond ((b && (get_or text (i + 1) 0 == 42)) && ltb (closing_at text i) (length text)) (closing_at text i + 2 - i) 0) h

  digit_other : (d : ℕ) → is_digit d ≡ true → (d == 47) ≡ false
  digit_other d h = grind (arith, nat_tests)

  escape_other : (i : ℕ) (xs rest : List ℕ) → xs ≢ [] → scalars xs ≡ true → drop i text ≡ escapes xs ++ rest → (get_or text i 0 == 47) ≡ false
  escape_other i [] rest some are e = absurd (some refl)
  escape_other i (c ∷ xs) rest some are e =
      ap (λ b. b == 47) (escape_starts text i c (escapes xs ++ rest) (and_parts (scalar c) (scalars xs) are).0 (e ∙ append_assoc (escaped c) (escapes xs) rest)).0

  number_other : (i : ℕ) (ds rest : List ℕ) → ds ≢ [] → list_all is_digit ds ≡ true → drop i text ≡ ds ++ rest → (get_or text i 0 == 47) ≡ false
  number_other i [] rest some are e = absurd (some refl)
  number_other i (d ∷ ds) rest some are e = ap (λ b. b == 47) (first_byte text i d (ds ++ rest) e) ∙ digit_other d (and_parts (is_digit d) (list_all is_digit ds) are).0

  mark_first : (k : CssKind) → mark k ≢ [] → (b : ℕ) × (more : List ℕ) × (mark k ≡ b ∷ more) × ((b == 47) ≡ false)
  mark_first kind.WordMatch some = (126, 61 ∷ [], refl, refl)
  mark_first kind.DashMatch some = (124, 61 ∷ [], refl, refl)
  mark_first kind.PrefixMatch some = (94, 61 ∷ [], refl, refl)
  mark_first kind.SuffixMatch some = (36, 61 ∷ [], refl, refl)
  mark_first kind.PartMatch some = (42, 61 ∷ [], refl, refl)
  mark_first kind.DoubleColon some = (58, 58 ∷ [], refl, refl)
  mark_first kind.Star some = (42, [], refl, refl)
  mark_first kind.Dot some = (46, [], refl, refl)
  mark_first kind.Colon some = (58, [], refl, refl)
  mark_first kind.OpenSquare some = (91, [], refl, refl)
  mark_first kind.CloseSquare some = (93, [], refl, refl)
  mark_first kind.CloseRound some = (41, [], refl, refl)
  mark_first kind.Comma some = (44, [], refl, refl)
  mark_first kind.Plus some = (43, [], refl, refl)
  mark_first kind.Greater some = (62, [], refl, refl)
  mark_first kind.Tilde some = (126, [], refl, refl)
  mark_first kind.Bar some = (124, [], refl, refl)
  mark_first kind.Equal some = (61, [], refl, refl)
  mark_first kind.Minus some = (45, [], refl, refl)
  mark_first _ some = absurd (some refl)

  mark_other : (k : CssKind) (i : ℕ) (rest : List ℕ) → mark k ≢ [] → drop i text ≡ mark k ++ rest → (get_or text i 0 == 47) ≡ false
  mark_other k i rest some e =
      let m = mark_first k some in
      ap (λ b. b == 47) (first_byte text i m.0 (m.1 ++ rest) (e ∙ ap (λ v. v ++ rest) m.2)) ∙ m.3

  -- no sign begins as a comment does
  sign_other : (s : Sign) (i : ℕ) (rest : List ℕ) → IsSign s → drop i text ≡ bytes_of s ++ rest → (get_or text i 0 == 47) ≡ false
  sign_other (Name x) i rest h e = escape_other i x rest h.0 h.1 e
  sign_other (Call x) i rest h e = escape_other i x (40 ∷ rest) h.0 h.1 (e ∙ append_assoc (escapes x) (40 ∷ []) rest)
  sign_other (Hash x) i rest h e = ap (λ b. b == 47) (first_byte text i 35 (escapes x ++ rest) e)
  sign_other (Quoted x) i rest h e = ap (λ b. b == 47) (first_byte text i 34 ((escapes x ++ 34 ∷ []) ++ rest) e)
  sign_other (Number ds) i rest h e = number_other i ds rest h.0 h.1 e
  sign_other LetterN i rest h e = ap (λ b. b == 47) (first_byte text i 110 rest e)
  sign_other Blank i rest h e = ap (λ b. b == 47) (first_byte text i 32 rest e)
  sign_other (Mark k) i rest h e = mark_other k i rest h e

  -- a comment, and none after it
  comments_there : (i j : ℕ) (rest : List ℕ) → drop i text ≡ empty_comment ++ rest → j ≡ i + 4 → comment_len text j ≡ 0 → Comments text i j
  comments_there i j rest e f none =
      let four = comment_there i rest e in
      (i ∷ [], (refl, omega arith, (ap (λ n. i + n) four ∙ sym f, ap (λ n. comment_len text (i + n)) four ∙ ap (comment_len text) (sym f) ∙ none)))

  at_end : comment_len text (length text) ≡ 0
  at_end = no_comment (length text) (ap (λ b. b == 47) (get_or_past text (length text) 0 (omega arith)))

  signs_after : (i : ℕ) (ss : List Sign) → AllByRecursion IsSign ss → drop i text ≡ empty_comment ++ spelled ss → Spell text i (placed (i + 4) ss) (length text)
  signs_after i [] h e =
      let inside = byte_inside text i 47 (42 ∷ 42 ∷ 47 ∷ []) e in
      comments_there i (length text) [] e (omega (arith, length-drop i text, ap length e)) at_end
  signs_after i (s ∷ ss) h e =
      let begins : drop (i + 4) text ≡ bytes_of s ++ (empty_comment ++ spelled ss) = rest_after text i empty_comment (bytes_of s ++ (empty_comment ++ spelled ss)) e in (
        comments_there i (i + 4) (spelled (s ∷ ss)) e refl (no_comment (i + 4) (sign_other s (i + 4) (empty_comment ++ spelled ss) h.0 begins)),
        sign_there s (i + 4) (42 ∷ 42 ∷ 47 ∷ spelled ss) h.0 begins,
        signs_after (i + 4 + length (bytes_of s)) ss h.1 (rest_after text (i + 4) (bytes_of s) (empty_comment ++ spelled ss) begins),
      )

spells : (ss : List Sign) → AllByRecursion IsSign ss → Spell (spelled ss) 0 (placed 0 ss) (length (spelled ss))
spells [] h = ([], (refl, refl))
spells (s ∷ ss) h =
    let text = spelled (s ∷ ss) in (
      ([], (refl, no_comment text 0 (sign_other text s 0 (empty_comment ++ spelled ss) h.0 refl))),
      sign_there text s 0 (42 ∷ 42 ∷ 47 ∷ spelled ss) h.0 refl,
      signs_after text (0 + length (bytes_of s)) ss h.1 (rest_after text 0 (bytes_of s) (empty_comment ++ spelled ss) refl),
    )

pub read_back : IsReadBack
read_back ss h fits = record { fits = fits; spelled = spells ss (recursion_from_All IsSign ss h) }
