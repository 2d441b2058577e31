-- What the tokens of a page are, for a page that is UTF-8: where they end it may be cut, and their texts are UTF-8.
use Rattle.std.proofs.Common.{◌≡◌, ℕ, zero, suc, ◌+◌, ◌-◌, ◌<◌, ◌≤◌, ◌⊎◌, inl, inr, Bool, true, false, cond, ◌&&◌, ◌||◌, List, [], ◌∷◌, length, get_or, drop, sym, refl, ◌∙◌, ap, subst, arith, ltb, leb, eqb-true, eq-eqb, IsUtf8, length-take, length-drop, get_or-take, get_or-drop}
use Rattle.std.specs.Prelude.{◌==◌, slice_range}
use Rattle.std.specs.List.{AllPass}
use Rattle.std.proofs.lemmas.Bool.Decides.{nat_tests}
use Rattle.std.proofs.lemmas.Str.{IsUtf8-between}
use Rattle.std.proofs.lemmas.Bool.{or_parts}
use Rattle.text_base.specs.Text.{run_end, find_where, is_letter, IsPlace}
use Rattle.text_base.specs.declared.reasons.PageReason.{PageReason}
use Rattle.text_base.specs.declared.reasons.PageReason.TheVariants.{BadTag, BadAttribute}
use Rattle.text_base.proofs.Boundaries.{in_text, boundary, before_ascii, after_ascii}
use Rattle.text_base.proofs.Places.{find_in}
use Rattle.text_base.proofs.Runs.{run_end_moves, run_end_passes}
use Rattle.html_lexer.specs.Kinds.{is_name_byte, is_gap, is_attr_byte}
use Rattle.html_lexer.specs.Names.{is_raw, is_escapable, is_plaintext, closes, literal_names, escapable_names}
use Rattle.html_lexer.specs.declared.tags.Attribute.{Attribute}
use Rattle.html_lexer.specs.declared.tags.AttrStep.{AttrStep}
use Rattle.html_lexer.specs.declared.tags.AttrStep.TheVariants.{Reads, Closes, Refuses}
use Rattle.html_lexer.specs.Tags.{attr_at, named, TagReads, TagComesTo}
use Rattle.html_lexer.specs.declared.steps.TokenAt.{TokenAt}
use Rattle.html_lexer.specs.declared.steps.TokenAt.TheVariants.{Start, End, Text, Comment, Doctype}
use Rattle.html_lexer.specs.declared.steps.Step.TheVariants.{Gives, Fails}
use Rattle.html_lexer.specs.Steps.{end_tag_at, other_at, starts_at, start_of, StartAt, MarkupAt, raw_end, StepAt}
use Rattle.html_lexer.specs.Tokens.{Tok, start_tok, end_tok, text_tok, comment_tok, doctype_tok, tok_at}
use Rattle.html_lexer.specs.TokenLaws.{IsTagName, EndTagBegins, GoesUpTo}
use Rattle.html_lexer.specs.Lexing.{Begins}
use Rattle.html_lexer.proofs.PlainLemmas.{letter_is_name, letter_some}
use Rattle.html_lexer.proofs.SliceLemmas.{reads_before, named_closes, closing, reading}
use Rattle.html_lexer.proofs.TextLemmas.{choice, side, end_gives, closes_end, other_gives, raw_text, Other, ends, marks, types, asks, reads, comment_gives}

raw_none : is_raw [] ≡ false
unfolding literal_names escapable_names
raw_none = refl

-- which parts a step gives
the_start : (a b c d e f : ℕ) (s t : Bool) → Gives (Start a b c s) ≡ Gives (Start d e f t) → (a ≡ d) × (b ≡ e) × (c ≡ f) × (s ≡ t)
the_start a b c d e f s t h = (cc, cc, cc, cc)

pick_yes : {A : Type 0} (b : Bool) (x y z : A) → b ≡ true → x ≡ z → cond b x y ≡ z
pick_yes true x y z h e = e
pick_yes false x y z h e = cc

gap_ascii : (b : ℕ) → (is_gap b || (b == 62)) ≡ true → (0 < b) × (b < 128)
gap_ascii b h = (grind (arith, nat_tests), grind (arith, nat_tests))

module _ (text : List ℕ) where
  -- a `>` stands before the place where a tag ends
  abbrev pub PastBracket : ℕ → Type 0
  PastBracket to = (j : ℕ) × (to ≡ j + 1) × (get_or text j 0 ≡ 62)

  closes_past : (i m to : ℕ) (slash : Bool) → attr_at text i ≡ Closes m to slash → PastBracket to
  closes_past i m to slash h =
      let k = run_end is_gap text i in
      elim (choice (get_or text k 0 == 62) (closing text i k) (cond (leb (length text) k) (Refuses BadTag) (reading text k)) (Closes m to slash) h) [
        | inl p ↦ elim (choice (ltb i k && (get_or text (k - 1) 0 == 47)) (Closes (k - 1) (k + 1) true) (Closes k (k + 1) false) (Closes m to slash) p.1) [
          | inl q ↦ (k, same_end _ _ _ _ _ _ q.1, eqb-true (get_or text k 0) 62 p.0)
          | inr q ↦ (k, same_end _ _ _ _ _ _ q.1, eqb-true (get_or text k 0) 62 p.0)
        ]
        | inr p ↦ elim (choice (leb (length text) k) (Refuses BadTag) (reading text k) (Closes m to slash) p.1) [
          | inl q ↦ absurd (refuses _ _ _ _ q.1)
          | inr q ↦ elim (choice (is_attr_byte (get_or text k 0)) (named text k) (Refuses BadAttribute) (Closes m to slash) q.1) [
            | inl r ↦ absurd (named_closes text k m to slash r.1)
            | inr r ↦ absurd (refuses _ _ _ _ r.1)
          ]
        ]
      ]
    where
      same_end : (a b c d : ℕ) (s t : Bool) → Closes a b s ≡ Closes c d t → d ≡ b
      same_end a b c d s t e = cc

      refuses : (r : PageReason) (a b : ℕ) (s : Bool) → Refuses r ≡ Closes a b s → ⊥
      refuses r a b s e = cc

  reads_past : (attributes : List Attribute) (i m to : ℕ) (slash : Bool) → TagReads text i attributes (Closes m to slash) → PastBracket to
  reads_past [] i m to slash h = closes_past i m to slash h
  reads_past (a ∷ attributes) i m to slash h = reads_past attributes a.to m to slash h.1

  past_place : IsUtf8 text → (to : ℕ) → PastBracket to → IsPlace text to
  past_place utf8 to h = after_ascii text h.0 to utf8 h.1 (in_text text h.0 (let e = h.2 in omega arith)) (let e = h.2 in omega arith)

  pub slice_utf8 : IsUtf8 text → (i j : ℕ) → i ≤ j → IsPlace text i → IsPlace text j → IsUtf8 (slice_range text i j)
  slice_utf8 utf8 i j l a b = IsUtf8-between text i j utf8 l (boundary text i a) (boundary text j b)

  -- after it the name of a start tag, up to a byte that ends it
  module _ (i n m to : ℕ) (slash : Bool) (name : n ≡ run_end is_name_byte text (i + 1)) (letter : is_letter (get_or text (i + 1) 0) ≡ true) (ended : (is_gap (get_or text n 0) || (get_or text n 0 == 62)) ≡ true) where
    abbrev word : List ℕ
    word = slice_range text (i + 1) n

    name_place : IsPlace text n
    name_place = let a = gap_ascii (get_or text n 0) ended in before_ascii text n (in_text text n a.0) a.1

    some : i + 1 < n
    some = run_end_moves is_name_byte text (i + 1) n name (in_text text (i + 1) (letter_some (get_or text (i + 1) 0) letter)) (letter_is_name (get_or text (i + 1) 0) letter)

    long : length word ≡ n - (i + 1)
    long = let p = name_place.within in omega (arith, length-take (n - (i + 1)) (drop (i + 1) text), length-drop (i + 1) text)

    byte : (k d : ℕ) → k < length word → get_or word k d ≡ get_or text (i + 1 + k) d
    byte k d l = get_or-take (n - (i + 1)) (drop (i + 1) text) k d (let q = long in omega arith) ∙ get_or-drop (i + 1) text k d

    first : is_letter (get_or word 0 0) ≡ true
    first = ap is_letter (byte 0 0 (let l = long in let s = some in omega arith) ∙ ap (λ k. get_or text k 0) (let e : i + 1 + 0 ≡ i + 1 = omega arith in e)) ∙ letter

    bytes : AllPass is_name_byte word
    bytes k d l =
        let q = long in
        ap is_name_byte (get_or_any word k d l ∙ byte k 0 l) ∙ run_end_passes is_name_byte text (i + 1) (i + 1 + k) (omega arith) (omega (arith, name))
      where
        get_or_any : (xs : List ℕ) (k d : ℕ) → k < length xs → get_or xs k d ≡ get_or xs k 0
        get_or_any [] k d l = absurd (omega arith)
        get_or_any (x ∷ xs) zero d l = refl
        get_or_any (x ∷ xs) (suc k) d l = get_or_any xs k d (omega arith)

    tag_name : is_plaintext word ≡ false → IsTagName word
    tag_name plain = record { first = first; bytes = bytes; no_plaintext = plain }

-- what a start tag is
pub record TagFacts (text name attrs : List ℕ) (slash : Bool) (to : ℕ) : Type 0 where
  pub tag : IsTagName name
  pub no_slash : (slash && is_raw name) ≡ false
  pub name_utf8 : IsUtf8 name
  pub attrs_utf8 : IsUtf8 attrs
  pub end : IsPlace text to

-- raw text, and that an end tag or nothing comes after it
abbrev IsEnd : TokenAt → Type 0
IsEnd (Start n m to slash) = ⊥
IsEnd (End n to) = Unit {0}
IsEnd (Text to refs) = ⊥
IsEnd (Comment a b to) = ⊥
IsEnd (Doctype to) = ⊥

abbrev pub IsEndTok : Tok → Type 0
IsEndTok (start_tok from to name attrs slash) = ⊥
IsEndTok (end_tok from to name) = Unit {0}
IsEndTok (text_tok from to raw refs) = ⊥
IsEndTok (comment_tok from to body) = ⊥
IsEndTok (doctype_tok from to) = ⊥

-- what comes directly after the start tag of an element with raw text
abbrev pub RawFirst : List ℕ → List ℕ → ℕ → Tok → Type 0
RawFirst text name i (start_tok from to tag attrs slash) = ⊥
RawFirst text name i (end_tok from to tag) = Unit {0}
RawFirst text name i (text_tok from to raw refs) = (raw ≡ slice_range text i to) × (refs ≡ is_escapable name) × GoesUpTo (EndTagBegins name text) text i to
RawFirst text name i (comment_tok from to body) = ⊥
RawFirst text name i (doctype_tok from to) = ⊥

-- what a token is where the page is UTF-8: it ends at a place, and its parts are UTF-8
abbrev pub IsCutTok : List ℕ → Tok → Type 0
IsCutTok text (start_tok from to name attrs slash) = TagFacts text name attrs slash to
IsCutTok text (end_tok from to name) = IsPlace text to
IsCutTok text (text_tok from to raw refs) = IsUtf8 raw × IsPlace text to
IsCutTok text (comment_tok from to body) = IsUtf8 body × IsPlace text to
IsCutTok text (doctype_tok from to) = IsPlace text to

module _ (text : List ℕ) (utf8 : IsUtf8 text) where
  -- from the step
  start_step : (i n m to : ℕ) (slash : Bool) → get_or text i 0 ≡ 60 → is_letter (get_or text (i + 1) 0) ≡ true → StartAt text i (run_end is_name_byte text (i + 1)) (Gives (Start n m to slash)) → TagFacts text (slice_range text (i + 1) n) (slice_range text n m) slash to
  start_step i n m to slash lt letter h =
      let e = run_end is_name_byte text (i + 1) in
      elim (side (is_gap (get_or text e 0) || (get_or text e 0 == 62)) ((out : AttrStep) × TagComesTo text e out × (Gives (Start n m to slash) ≡ start_of (slice_range text (i + 1) e) e out)) (Gives (Start n m to slash) ≡ Fails BadTag) h) [
        | inl p ↦ closed e refl p.0 p.1.0 p.1.1.0 p.1.1.1 p.1.2
        | inr q ↦ absurd (fails q.1)
      ]
    where
      fails : Gives (Start n m to slash) ≡ Fails BadTag → ⊥
      fails e = cc

      closed : (e : ℕ) → e ≡ run_end is_name_byte text (i + 1) → (is_gap (get_or text e 0) || (get_or text e 0 == 62)) ≡ true → (out : AttrStep) (attributes : List Attribute) → TagReads text e attributes out → Gives (Start n m to slash) ≡ start_of (slice_range text (i + 1) e) e out → TagFacts text (slice_range text (i + 1) n) (slice_range text n m) slash to
      closed e name ended (Reads a) attributes r f = cc
      closed e name ended (Closes m2 to2 slash2) attributes r f =
          elim (choice (is_plaintext (slice_range text (i + 1) e) || (slash2 && is_raw (slice_range text (i + 1) e))) (Fails BadTag) (Gives (Start e m2 to2 slash2)) (Gives (Start n m to slash)) (sym f)) [
            | inl p ↦ (let g = p.1 in cc)
            | inr q ↦ (let g = the_start e m2 to2 n m to slash2 slash q.1 in
                let apart = or_parts (is_plaintext (slice_range text (i + 1) e)) (slash2 && is_raw (slice_range text (i + 1) e)) q.0 in
                let before = reads_before text attributes e m2 to2 slash2 r in
                subst (λ a. TagFacts text (slice_range text (i + 1) a) (slice_range text a m) slash to) g.0
                (subst (λ b. TagFacts text (slice_range text (i + 1) e) (slice_range text e b) slash to) g.1
                (subst (λ s. TagFacts text (slice_range text (i + 1) e) (slice_range text e m2) s to) g.3
                (subst (λ z. TagFacts text (slice_range text (i + 1) e) (slice_range text e m2) slash2 z) g.2
                (record {
                  tag = tag_name text i e m2 to2 slash2 name letter ended apart.0;
                  no_slash = apart.1;
                  name_utf8 = slice_utf8 text utf8 (i + 1) e (let l = some text i e m2 to2 slash2 name letter ended in omega arith) (after_ascii text i (i + 1) utf8 refl (in_text text i (omega arith)) (omega arith)) (name_place text i e m2 to2 slash2 name letter ended);
                  attrs_utf8 = slice_utf8 text utf8 e m2 before.0 (name_place text i e m2 to2 slash2 name letter ended) (mark_place m2 before.1);
                  end = past_place text utf8 to2 (reads_past text attributes e m2 to2 slash2 r);
                })))))
          ]
        where
          mark_place : (k : ℕ) → (get_or text k 0 ≡ 62) ⊎ (get_or text k 0 ≡ 47) → IsPlace text k
          mark_place k (inl e) = before_ascii text k (in_text text k (omega arith)) (omega arith)
          mark_place k (inr e) = before_ascii text k (in_text text k (omega arith)) (omega arith)
      closed e name ended (Refuses reason) attributes r f = cc

  -- where the raw text before it is over, markup begins
  pub markup_step : (previous : List ℕ) (i : ℕ) (t : TokenAt) → StepAt text previous i (Gives t) → ((i < raw_end text previous i) × (t ≡ Text (raw_end text previous i) (is_escapable previous))) ⊎ ((raw_end text previous i ≤ i) × MarkupAt text i (Gives t))
  markup_step previous i t h =
      elim (side (ltb i (raw_end text previous i)) (Gives t ≡ Gives (Text (raw_end text previous i) (is_escapable previous))) (MarkupAt text i (Gives t)) h.1) [
        | inl p ↦ inl (below _ _ p.0, same _ _ p.1)
        | inr q ↦ inr (above _ _ q.0, q.1)
      ]
    where
      below : (a b : ℕ) → ltb a b ≡ true → a < b
      below a b h = grind (arith, nat_tests)

      above : (a b : ℕ) → ltb a b ≡ false → b ≤ a
      above a b h = grind (arith, nat_tests)

      same : (a b : TokenAt) → Gives a ≡ Gives b → a ≡ b
      same a b e = cc

  -- a start tag
  starts_with : (a b : ℕ) → ((a == 60) && is_letter b) ≡ true → (a ≡ 60) × (is_letter b ≡ true)
  starts_with a b h = (grind (arith, nat_tests), grind (arith, nat_tests))

  abbrev pub IsStartOf : ℕ → TokenAt → Type 0
  IsStartOf i (Start n m to slash) = TagFacts text (slice_range text (i + 1) n) (slice_range text n m) slash to
  IsStartOf i (End n to) = Unit {0}
  IsStartOf i (Text to refs) = Unit {0}
  IsStartOf i (Comment a b to) = Unit {0}
  IsStartOf i (Doctype to) = Unit {0}

  other_no_start : (i : ℕ) (t : TokenAt) → Other text i t → IsStartOf i t
  other_no_start i t (ends n m e) = subst (IsStartOf i) (sym e) tt
  other_no_start i t (marks a b m) = subst (IsStartOf i) (sym (comment_gives text (i + 4) t m.2).is) tt
  other_no_start i t (types m e) = subst (IsStartOf i) (sym e) tt
  other_no_start i t (asks a b l e) = subst (IsStartOf i) (sym e) tt
  other_no_start i t (reads a b c e) = subst (IsStartOf i) (sym e) tt

  pub start_of_step : (previous : List ℕ) (i : ℕ) (t : TokenAt) → StepAt text previous i (Gives t) → IsStartOf i t
  start_of_step previous i t h =
      elim (markup_step previous i t h) [
        | inl p ↦ subst (IsStartOf i) (sym p.1) tt
        | inr q ↦ elim (side (starts_at text i) (StartAt text i (run_end is_name_byte text (i + 1)) (Gives t)) (Gives t ≡ other_at text i) q.1) [
          | inl s ↦ by_start t (starts_with (get_or text i 0) (get_or text (i + 1) 0) s.0) s.1
          | inr o ↦ other_no_start i t (other_gives text i t (sym o.1))
        ]
      ]
    where
      by_start : (u : TokenAt) → (get_or text i 0 ≡ 60) × (is_letter (get_or text (i + 1) 0) ≡ true) → StartAt text i (run_end is_name_byte text (i + 1)) (Gives u) → IsStartOf i u
      by_start (Start n m to slash) l s = start_step i n m to slash l.0 l.1 s
      by_start (End n to) l s = tt
      by_start (Text to refs) l s = tt
      by_start (Comment a b to) l s = tt
      by_start (Doctype to) l s = tt

  -- where a `<` and a slash stand, only an end tag begins
  not_letter : (a b : ℕ) → ((a == 60) && is_letter b) ≡ true → b ≡ 47 → ⊥
  not_letter a b h e = grind (arith, nat_tests)

  pub slash_ends : (previous : List ℕ) (i : ℕ) (t : TokenAt) → raw_end text previous i ≤ i → get_or text i 0 ≡ 60 → get_or text (i + 1) 0 ≡ 47 → StepAt text previous i (Gives t) → (n to : ℕ) × (t ≡ End n to)
  slash_ends previous i t over lt slash h =
      elim (markup_step previous i t h) [
        | inl p ↦ absurd (let l = p.0 in omega arith)
        | inr q ↦ elim (side (starts_at text i) (StartAt text i (run_end is_name_byte text (i + 1)) (Gives t)) (Gives t ≡ other_at text i) q.1) [
          | inl s ↦ absurd (not_letter (get_or text i 0) (get_or text (i + 1) 0) s.0 slash)
          | inr o ↦
              let taken : other_at text i ≡ end_tag_at text i = pick_yes ((get_or text i 0 == 60) && (get_or text (i + 1) 0 == 47)) _ _ _ (λ j. eq-eqb (get_or text i 0) 60 lt j && eq-eqb (get_or text (i + 1) 0) 47 slash j) refl in
              end_gives text i t (sym (o.1 ∙ taken))
        ]
      ]

  end_is : (i : ℕ) (t : TokenAt) → IsEnd t → IsEndTok (tok_at text i t)
  end_is i (Start n m to slash) h = absurd h
  end_is i (End n to) h = tt
  end_is i (Text to refs) h = absurd h
  end_is i (Comment a b to) h = absurd h
  end_is i (Doctype to) h = absurd h

  -- directly after raw text
  pub after_raw : (name : List ℕ) (i : ℕ) (x : Tok) → EndTagBegins name text i → Begins text [] i x → IsEndTok x
  after_raw name i x e h =
      let over : raw_end text [] i ≤ i = (let f : raw_end text [] i ≡ i = ap (λ b. cond b (find_where (closes []) text i) i) raw_none in omega arith) in
      let is = slash_ends [] i h.0 over e.0 e.1 h.1 in
      subst IsEndTok (sym h.2) (end_is i h.0 (subst IsEnd (sym is.2) tt))

  raw_of : (name : List ℕ) (i : ℕ) (x : Tok) → IsEndTok x → RawFirst text name i x
  raw_of name i (start_tok from to tag attrs slash) h = absurd h
  raw_of name i (end_tok from to tag) h = tt
  raw_of name i (text_tok from to raw refs) h = absurd h
  raw_of name i (comment_tok from to body) h = absurd h
  raw_of name i (doctype_tok from to) h = absurd h

  raw_parts : (name : List ℕ) (i : ℕ) (x : Tok) (t : TokenAt) → is_raw name ≡ true → x ≡ tok_at text i t → (to : ℕ) (refs : Bool) → t ≡ Text to refs → Begins text name i x → RawFirst text name i x
  raw_parts name i x t raw is to refs e h =
      let f : x ≡ text_tok i to (slice_range text i to) refs = is ∙ ap (tok_at text i) e in
      let g = raw_text text name (slice_range text i to) i i to refs raw (subst (Begins text name i) f h) in
      subst (RawFirst text name i) (sym f) (g.1, g.2, g.3)

  pub raw_first : (name : List ℕ) (i : ℕ) (x : Tok) → is_raw name ≡ true → Begins text name i x → RawFirst text name i x
  raw_first name i x raw h =
      elim (markup_step name i h.0 h.1) [
        | inl p ↦ raw_parts name i x h.0 raw h.2 (raw_end text name i) (is_escapable name) p.1 h
        | inr q ↦
            let f : raw_end text name i ≡ find_where (closes name) text i = ap (λ b. cond b (find_where (closes name) text i) i) raw in
            let inside : i < length text = h.1.0 in
            let at = find_in (closes name) text i (omega arith) in
            let is : find_where (closes name) text i ≡ i = omega (arith, at.0, q.0, f) in
            let b = closes_end text name i (omega arith) (subst (λ n. closes name (drop n text) ≡ true) is (at.2 (omega arith))) in
            let e = slash_ends name i h.0 q.0 b.0 b.1 h.1 in
            raw_of name i x (subst IsEndTok (sym h.2) (end_is i h.0 (subst IsEnd (sym e.2) tt)))
      ]
