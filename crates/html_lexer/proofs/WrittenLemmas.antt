-- A start tag that is written with its attributes in double quotes reads as it is written.
use Rattle.std.proofs.Common.{◌≡◌, ℕ, suc, ◌+◌, ◌-◌, ◌<◌, Bool, true, false, cond, ◌&&◌, ◌||◌, List, [], ◌∷◌, ◌++◌, map, length, get_or, drop, sym, refl, ◌∙◌, ap, subst, arith, ltb, leb, eq-eqb, length-drop, get_or-drop, add-zero}
use Rattle.std.specs.Prelude.{◌==◌, slice_range, codes, All}
use Rattle.std.specs.List.{AllPass, prefix_len}
use Rattle.std.specs.Bool.{MatchBool}
use Rattle.std.proofs.lemmas.Bool.{or_from}
use Rattle.std.proofs.lemmas.Bool.Decides.{nat_tests}
use Rattle.std.proofs.lemmas.List.{length-append, append_assoc}
use Rattle.std.proofs.lemmas.List.Sums.{prefix_len_is}
use Rattle.std.proofs.Math.ListN.{get_or-append}
use Rattle.std.proofs.Math.Seq.{drop-append_seam, get_or-append_seam}
use Rattle.text_base.specs.Text.{run_end, find_where, is_not_byte, is_letter, is_space5}
use Rattle.text_base.specs.declared.reasons.PageReason.TheVariants.{BadTag}
use Rattle.html_lexer.specs.Kinds.{is_name_byte, is_gap, is_attr_byte}
use Rattle.html_lexer.specs.Names.{is_raw, is_escapable, is_plaintext, closes}
use Rattle.html_lexer.specs.declared.tags.Attribute.{Attribute}
use Rattle.html_lexer.specs.declared.tags.AttrStep.{AttrStep}
use Rattle.html_lexer.specs.declared.tags.AttrStep.TheVariants.{Reads, Closes, Refuses}
use Rattle.html_lexer.specs.Tags.{quoted, valued, named, attr_at, TagReads, TagComesTo}
use Rattle.html_lexer.specs.Attributes.{Writes, pair_at}
use Rattle.html_lexer.specs.declared.steps.TokenAt.TheVariants.{Start, Text}
use Rattle.html_lexer.specs.declared.steps.Step.TheVariants.{Gives, Fails}
use Rattle.html_lexer.specs.Steps.{StartAt, MarkupAt, StepAt, raw_end, start_of}
use Rattle.html_lexer.specs.Tokens.{start_tok}
use Rattle.html_lexer.specs.Lexing.{Begins}
use Rattle.html_lexer.specs.TokenLaws.{IsTagName, IsQuotable, written, written_tag, WrittenTag, WrittenAttributes}
use Rattle.html_lexer.proofs.RestLemmas.{rest_byte, rest_past, rest_slice}
use Rattle.html_lexer.proofs.SliceLemmas.{if_true, if_false, lt_ltb, lt_leb, closing, reading, page_attributes}
use Rattle.html_lexer.proofs.StepLemmas.{markup_start}

-- a run of bytes that pass, and one that does not
over : (p : ℕ → Bool) (xs y : List ℕ) (c : ℕ) → AllPass p xs → p c ≡ false → prefix_len p (xs ++ c ∷ y) ≡ length xs
over p xs y c all fails =
    prefix_len_is p (xs ++ c ∷ y) (length xs) 0 (omega (arith, length-append xs (c ∷ y)))
    (λ k h. ap p (get_or-append xs (c ∷ y) 0 k h) ∙ all k 0 h)
    (λ h. ap p (get_or-append_seam xs c y 0) ∙ fails)

pub run_is : (p : ℕ → Bool) (text : List ℕ) (i j : ℕ) (xs : List ℕ) (c : ℕ) (y : List ℕ) → j ≡ i + length xs → drop i text ≡ xs ++ c ∷ y → AllPass p xs → p c ≡ false → run_end p text i ≡ j
run_is p text i j xs c y at h all fails = let e : prefix_len p (drop i text) ≡ length xs = ap (prefix_len p) h ∙ over p xs y c all fails in omega arith

none : (p : ℕ → Bool) → AllPass p []
none p k d l = absurd (omega arith)

-- a run of no bytes
pub run_here : (p : ℕ → Bool) (text : List ℕ) (i c : ℕ) (y : List ℕ) → drop i text ≡ c ∷ y → p c ≡ false → run_end p text i ≡ i
run_here p text i c y h fails = run_is p text i i [] c y (omega arith) h (none p) fails

pub below : (text : List ℕ) (i c : ℕ) (y : List ℕ) → drop i text ≡ c ∷ y → i < length text
below text i c y h = omega (arith, ap length h, length-drop i text)

one_space : AllPass is_gap (codes " ")
one_space k d l = let e : k ≡ 0 = omega arith in ap (λ n. is_gap (get_or (codes " ") n d)) e

attr_not_gap : (b : ℕ) → is_attr_byte b ≡ true → is_gap b ≡ false
attr_not_gap b h = grind (arith, nat_tests)

attr_not_close : (b : ℕ) → is_attr_byte b ≡ true → (b == 62) ≡ false
attr_not_close b h = grind (arith, nat_tests)

-- where the tag closes
closes_here : (text : List ℕ) (i : ℕ) (y : List ℕ) → drop i text ≡ 62 ∷ y → attr_at text i ≡ Closes i (i + 1) false
closes_here text i y h =
    ap (λ k. cond (get_or text k 0 == 62) (closing text i k) (cond (leb (length text) k) (Refuses BadTag) (reading text k))) (run_here is_gap text i 62 y h refl)
    ∙ if_true (get_or text i 0 == 62) _ _ _ (eq-eqb (get_or text i 0) 62 (rest_byte text i 62 y h))
    (if_false (ltb i i && (get_or text (i - 1) 0 == 47)) _ _ _ (no_slash i (get_or text (i - 1) 0 == 47)) refl)
  where
    no_slash : (a : ℕ) (b : Bool) → (ltb a a && b) ≡ false
    no_slash a b = let e : ltb a a ≡ false = grind (arith, nat_tests) in ap (λ x. x && b) e

-- a space and then an attribute, whose name is b and bytes after it
module _ (text : List ℕ) (i b : ℕ) (n v r : List ℕ) (front : drop i text ≡ 32 ∷ ((b ∷ n) ++ (61 ∷ 34 ∷ (v ++ 34 ∷ r)))) (passes : AllPass is_attr_byte (b ∷ n)) (no_quote : AllPass (is_not_byte 34) v) where
  abbrev sign : ℕ
  sign = i + 1 + length (b ∷ n)

  abbrev quote : ℕ
  quote = sign + 1

  abbrev end : ℕ
  end = quote + 1 + length v

  abbrev read : Attribute
  read = record { name = i + 1; name_to = sign; value = quote + 1; value_to = end; to = end + 1 }

  at_name : drop (i + 1) text ≡ (b ∷ n) ++ (61 ∷ 34 ∷ (v ++ 34 ∷ r))
  at_name = rest_past text i (i + 1) (32 ∷ []) ((b ∷ n) ++ (61 ∷ 34 ∷ (v ++ 34 ∷ r))) refl front

  at_sign : drop sign text ≡ 61 ∷ 34 ∷ (v ++ 34 ∷ r)
  at_sign = rest_past text (i + 1) sign (b ∷ n) (61 ∷ 34 ∷ (v ++ 34 ∷ r)) refl at_name

  at_quote : drop quote text ≡ 34 ∷ (v ++ 34 ∷ r)
  at_quote = rest_past text sign quote (61 ∷ []) (34 ∷ (v ++ 34 ∷ r)) refl at_sign

  at_value : drop (quote + 1) text ≡ v ++ 34 ∷ r
  at_value = rest_past text quote (quote + 1) (34 ∷ []) (v ++ 34 ∷ r) refl at_quote

  at_end : drop end text ≡ 34 ∷ r
  at_end = rest_past text (quote + 1) end v (34 ∷ r) refl at_value

  at_rest : drop (end + 1) text ≡ r
  at_rest = rest_past text end (end + 1) (34 ∷ []) r refl at_end

  first : is_attr_byte b ≡ true
  first = passes 0 0 (omega arith)

  reads_quoted : quoted text (i + 1) sign quote ≡ Reads read
  reads_quoted =
      ap (λ c. cond (ltb (run_end (is_not_byte c) text (quote + 1)) (length text)) (Reads (record { name = i + 1; name_to = sign; value = quote + 1; value_to = run_end (is_not_byte c) text (quote + 1); to = run_end (is_not_byte c) text (quote + 1) + 1 })) (Refuses BadTag)) (rest_byte text quote 34 (v ++ 34 ∷ r) at_quote)
      ∙ ap (λ q. cond (ltb q (length text)) (Reads (record { name = i + 1; name_to = sign; value = quote + 1; value_to = q; to = q + 1 })) (Refuses BadTag)) (run_is (is_not_byte 34) text (quote + 1) end v 34 r refl at_value no_quote refl)
      ∙ if_true (ltb end (length text)) _ _ _ (lt_ltb end (length text) (below text end 34 r at_end)) refl

  reads_valued : valued text (i + 1) sign quote ≡ Reads read
  reads_valued = if_true (get_or text quote 0 == 34) _ _ _ (eq-eqb (get_or text quote 0) 34 (rest_byte text quote 34 (v ++ 34 ∷ r) at_quote)) reads_quoted

  abbrev alone : ℕ → Attribute
  alone e = record { name = i + 1; name_to = e; value = e; value_to = e; to = e }

  reads_named : named text (i + 1) ≡ Reads read
  reads_named =
      ap (λ e. cond (get_or text (run_end is_space5 text e) 0 == 61) (valued text (i + 1) e (run_end is_space5 text (run_end is_space5 text e + 1))) (Reads (alone e))) (run_is is_attr_byte text (i + 1) sign (b ∷ n) 61 (34 ∷ (v ++ 34 ∷ r)) refl at_name passes refl)
      ∙ ap (λ m. cond (get_or text m 0 == 61) (valued text (i + 1) sign (run_end is_space5 text (m + 1))) (Reads (alone sign))) (run_here is_space5 text sign 61 (34 ∷ (v ++ 34 ∷ r)) at_sign refl)
      ∙ if_true (get_or text sign 0 == 61) _ _ _ (eq-eqb (get_or text sign 0) 61 (rest_byte text sign 61 (34 ∷ (v ++ 34 ∷ r)) at_sign))
      (ap (valued text (i + 1) sign) (run_here is_space5 text quote 34 (v ++ 34 ∷ r) at_quote refl) ∙ reads_valued)

  reads : attr_at text i ≡ Reads read
  reads =
      ap (λ k. cond (get_or text k 0 == 62) (closing text i k) (cond (leb (length text) k) (Refuses BadTag) (reading text k))) (run_is is_gap text i (i + 1) (codes " ") b (n ++ (61 ∷ 34 ∷ (v ++ 34 ∷ r))) refl front one_space (attr_not_gap b first))
      ∙ if_false (get_or text (i + 1) 0 == 62) _ _ _ (ap (λ c. c == 62) byte ∙ attr_not_close b first)
      (if_false (leb (length text) (i + 1)) _ _ _ (lt_leb (length text) (i + 1) (below text (i + 1) b _ at_name))
      (if_true (is_attr_byte (get_or text (i + 1) 0)) _ _ _ (ap is_attr_byte byte ∙ first) reads_named))
    where
      byte : get_or text (i + 1) 0 ≡ b
      byte = rest_byte text (i + 1) b (n ++ (61 ∷ 34 ∷ (v ++ 34 ∷ r))) at_name

  same_pair : pair_at text read ≡ (b ∷ n, v)
  same_pair =
      ap (λ x. (x, slice_range text (quote + 1) end)) (rest_slice text (i + 1) sign (b ∷ n) (61 ∷ 34 ∷ (v ++ 34 ∷ r)) refl at_name)
      ∙ ap (λ x. (b ∷ n, x)) (rest_slice text (quote + 1) end v (34 ∷ r) refl at_value)

-- the attributes of a tag from i on
abbrev Reading : List ℕ → ℕ → ℕ → List (List ℕ × List ℕ) → Type 0
Reading text i m ps = (attributes : List Attribute) × TagReads text i attributes (Closes m (m + 1) false) × (map (pair_at text) attributes ≡ ps)

one_more : (text : List ℕ) (i m : ℕ) (p : List ℕ × List ℕ) (ps : List (List ℕ × List ℕ)) (a : Attribute) → attr_at text i ≡ Reads a → pair_at text a ≡ p → Reading text a.to m ps → Reading text i m (p ∷ ps)
one_more text i m p ps a step pair later =
    let tails : map (pair_at text) later.0 ≡ ps = later.2 in
    (a ∷ later.0, (step, later.1), ap (λ x. x ∷ map (pair_at text) later.0) pair ∙ ap (λ x. p ∷ x) tails)

piece_length : (n v w : List ℕ) → length (codes " " ++ (n ++ (codes "=\"" ++ (v ++ (codes "\"" ++ w))))) ≡ 1 + (length n + (2 + (length v + (1 + length w))))
piece_length n v w =
    omega (arith, length-append (codes " ") (n ++ (codes "=\"" ++ (v ++ (codes "\"" ++ w)))), length-append n (codes "=\"" ++ (v ++ (codes "\"" ++ w))), length-append (codes "=\"") (v ++ (codes "\"" ++ w)), length-append v (codes "\"" ++ w), length-append (codes "\"") w)

written_reads : (text : List ℕ) (ps : List (List ℕ × List ℕ)) (i m : ℕ) (y : List ℕ) → All IsQuotable ps → drop i text ≡ written ps ++ 62 ∷ y → m ≡ i + length (written ps) → Reading text i m ps
written_reads text [] i m y all h at =
    let e : i ≡ m = omega arith in
    ([], subst (λ k. attr_at text i ≡ Closes k (k + 1) false) e (closes_here text i y h), refl)
written_reads text (([], v) ∷ ps) i m y all h at =
    absurd (let some : 0 < 0 = (all 0 ([], v) (omega arith)).some in omega arith)
written_reads text ((b ∷ n, v) ∷ ps) i m y all h at =
    let own = all 0 (b ∷ n, v) (omega arith) in
    let front : drop i text ≡ 32 ∷ ((b ∷ n) ++ (61 ∷ 34 ∷ (v ++ 34 ∷ (written ps ++ 62 ∷ y)))) =
    h ∙ ap (λ q. 32 ∷ q) (append_assoc (b ∷ n) (codes "=\"" ++ (v ++ (codes "\"" ++ written ps))) (62 ∷ y))
    ∙ ap (λ q. 32 ∷ ((b ∷ n) ++ (61 ∷ 34 ∷ q))) (append_assoc v (codes "\"" ++ written ps) (62 ∷ y)) in
    let long : length (written ((b ∷ n, v) ∷ ps)) ≡ 1 + (length (b ∷ n) + (2 + (length v + (1 + length (written ps))))) = piece_length (b ∷ n) v (written ps) in
    one_more text i m (b ∷ n, v) ps (read text i b n v (written ps ++ 62 ∷ y) front own.name own.value) (reads text i b n v (written ps ++ 62 ∷ y) front own.name own.value) (same_pair text i b n v (written ps ++ 62 ∷ y) front own.name own.value)
    (written_reads text ps (end text i b n v (written ps ++ 62 ∷ y) front own.name own.value + 1) m y (λ k d l. all (suc k) d (omega arith)) (at_rest text i b n v (written ps ++ 62 ∷ y) front own.name own.value) (omega arith))

-- the token of the tag
module _ (text name : List ℕ) (ps : List (List ℕ × List ℕ)) (i n m : ℕ) (y : List ℕ) (tag : IsTagName name) (all : All IsQuotable ps) (front : drop i text ≡ codes "<" ++ (name ++ (written ps ++ 62 ∷ y))) (at_n : n ≡ i + 1 + length name) (at_m : m ≡ n + length (written ps)) where
  name_rest : drop (i + 1) text ≡ name ++ (written ps ++ 62 ∷ y)
  name_rest = rest_past text i (i + 1) (codes "<") (name ++ (written ps ++ 62 ∷ y)) refl front

  later : drop n text ≡ written ps ++ 62 ∷ y
  later = rest_past text (i + 1) n name (written ps ++ 62 ∷ y) at_n name_rest

  -- a space or `>` ends the name
  name_ends : (qs : List (List ℕ × List ℕ)) → drop n text ≡ written qs ++ 62 ∷ y → (run_end is_name_byte text (i + 1) ≡ n) × ((is_gap (get_or text n 0) || (get_or text n 0 == 62)) ≡ true)
  name_ends [] h =
      (run_is is_name_byte text (i + 1) n name 62 y at_n (ap_rest [] h) tag.bytes refl, ap (λ c. is_gap c || (c == 62)) (rest_byte text n 62 y h))
    where
      ap_rest : (qs : List (List ℕ × List ℕ)) → drop n text ≡ written qs ++ 62 ∷ y → drop (i + 1) text ≡ name ++ (written qs ++ 62 ∷ y)
      ap_rest qs h = name_rest ∙ ap (λ q. name ++ q) (sym later ∙ h)
  name_ends (q ∷ qs) h =
      (run_is is_name_byte text (i + 1) n name 32 ((q.0 ++ (codes "=\"" ++ (q.1 ++ (codes "\"" ++ written qs)))) ++ 62 ∷ y) at_n (name_rest ∙ ap (λ z. name ++ z) (sym later ∙ h)) tag.bytes refl, ap (λ c. is_gap c || (c == 62)) (rest_byte text n 32 ((q.0 ++ (codes "=\"" ++ (q.1 ++ (codes "\"" ++ written qs)))) ++ 62 ∷ y) h))

  same_name : slice_range text (i + 1) n ≡ name
  same_name = rest_slice text (i + 1) n name (written ps ++ 62 ∷ y) at_n name_rest

  tag_reads : Reading text n m ps
  tag_reads = written_reads text ps n m y all later at_m

  given : Gives (Start n m (m + 1) false) ≡ start_of (slice_range text (i + 1) n) n (Closes m (m + 1) false)
  given =
      ap (λ b. cond b (Fails BadTag) (Gives (Start n m (m + 1) false))) (sym (or_from (is_plaintext (slice_range text (i + 1) n)) (false && is_raw (slice_range text (i + 1) n)) (ap is_plaintext same_name ∙ tag.no_plaintext) refl))

  start_at : StartAt text i n (Gives (Start n m (m + 1) false))
  start_at =
      let r = tag_reads in
      subst (λ b. MatchBool b ((out : AttrStep) × TagComesTo text n out × (Gives (Start n m (m + 1) false) ≡ start_of (slice_range text (i + 1) n) n out)) (Gives (Start n m (m + 1) false) ≡ Fails BadTag))
      (sym (name_ends ps later).1) (Closes m (m + 1) false, (r.0, r.1), given)

  letter : is_letter (get_or text (i + 1) 0) ≡ true
  letter = ap is_letter (sym (ap (λ z. get_or text z 0) (add-zero (i + 1))) ∙ sym (get_or-drop (i + 1) text 0 0) ∙ ap (λ z. get_or z 0 0) name_rest ∙ get_or-append name (written ps ++ 62 ∷ y) 0 0 (some_name name tag.first)) ∙ tag.first
    where
      some_name : (s : List ℕ) → is_letter (get_or s 0 0) ≡ true → 0 < length s
      some_name [] h = cc
      some_name (c ∷ s) h = omega arith

  markup : MarkupAt text i (Gives (Start n m (m + 1) false))
  markup = markup_start text i n (Gives (Start n m (m + 1) false)) (rest_byte text i 60 (name ++ (written ps ++ 62 ∷ y)) front) letter (sym (name_ends ps later).0) start_at

  tag_step : (previous : List ℕ) → is_raw previous ≡ false → StepAt text previous i (Gives (Start n m (m + 1) false))
  tag_step previous not_raw =
      let e : raw_end text previous i ≡ i = ap (λ b. cond b (find_where (closes previous) text i) i) not_raw in
      (below text i 60 (name ++ (written ps ++ 62 ∷ y)) front, subst (λ b. MatchBool b (Gives (Start n m (m + 1) false) ≡ Gives (Text (raw_end text previous i) (is_escapable previous))) (MarkupAt text i (Gives (Start n m (m + 1) false)))) (sym (not_below i (raw_end text previous i) e)) markup)
    where
      not_below : (a b : ℕ) → b ≡ a → ltb a b ≡ false
      not_below a b e = grind (arith, nat_tests)

  same_attrs : slice_range text n m ≡ written ps
  same_attrs = rest_slice text n m (written ps) (62 ∷ y) at_m later

  pub tag_begins : (previous : List ℕ) → is_raw previous ≡ false → Begins text previous i (start_tok i (m + 1) name (written ps) false)
  tag_begins previous not_raw =
      (Start n m (m + 1) false, tag_step previous not_raw, ap (λ z. start_tok i (m + 1) z (written ps) false) (sym same_name) ∙ ap (λ z. start_tok i (m + 1) (slice_range text (i + 1) n) z false) (sym same_attrs))

pub written_tag_reads : WrittenTag
written_tag_reads before after previous name ps not_raw tag all =
    let front : drop (length before) (before ++ (written_tag name ps ++ after)) ≡ codes "<" ++ (name ++ (written ps ++ 62 ∷ after)) =
    drop-append_seam before (written_tag name ps ++ after) ∙ ap (λ q. 60 ∷ q) (append_assoc name (written ps ++ codes ">") after ∙ ap (λ q. name ++ q) (append_assoc (written ps) (codes ">") after)) in
    subst (λ k. Begins (before ++ (written_tag name ps ++ after)) previous (length before) (start_tok (length before) k name (written ps) false))
    (tag_end (length before) name (written ps))
    (tag_begins (before ++ (written_tag name ps ++ after)) name ps (length before) (length before + 1 + length name) (length before + 1 + length name + length (written ps)) after tag all front refl refl previous not_raw)
  where
    tag_end : (i : ℕ) (a b : List ℕ) → i + 1 + length a + length b + 1 ≡ i + length (codes "<" ++ (a ++ (b ++ codes ">")))
    tag_end i a b = omega (arith, length-append (codes "<") (a ++ (b ++ codes ">")), length-append a (b ++ codes ">"), length-append b (codes ">"))

pub written_attributes : WrittenAttributes
written_attributes ps all =
    let r = written_reads (written ps ++ codes ">") ps 0 (0 + length (written ps)) [] all refl refl in
    let same : slice_range (written ps ++ codes ">") 0 (0 + length (written ps)) ≡ written ps = rest_slice (written ps ++ codes ">") 0 (0 + length (written ps)) (written ps) (codes ">") refl refl in
    subst (λ s. Writes s 0 ps) same
    (subst (λ qs. Writes (slice_range (written ps ++ codes ">") 0 (0 + length (written ps))) 0 qs) r.2
    (page_attributes (written ps ++ codes ">") 0 (0 + length (written ps)) (0 + length (written ps) + 1) false r.0 r.1))
