-- What each step is at its place, and where texts end.
use Rattle.std.proofs.Common.{◌≡◌, ℕ, ◌+◌, ◌<◌, ◌≤◌, ◌⊎◌, inl, inr, Bool, true, false, cond, ◌&&◌, ◌||◌, List, length, get_or, drop, sym, refl, ◌∙◌, ap, subst, arith, ltb, leb, eqb-true, eq-eqb}
use Rattle.std.specs.Prelude.{◌==◌, slice_range, codes}
use Rattle.std.specs.Bool.{MatchBool}
use Rattle.std.specs.Str.{str_eq_ignore_ascii_case}
use Rattle.std.proofs.lemmas.Bool.{cases_lt, and_parts}
use Rattle.std.proofs.lemmas.Bool.Decides.{nat_tests}
use Rattle.text_base.specs.Text.{run_end, find_where, begins_with, is_space5, is_letter}
use Rattle.text_base.specs.declared.reasons.PageReason.TheVariants.{BadTag, BadComment, BadMarkup}
use Rattle.text_base.proofs.Boundaries.{in_text}
use Rattle.text_base.proofs.Places.{find_in}
use Rattle.html_lexer.specs.Kinds.{is_name_byte, is_gap}
use Rattle.html_lexer.specs.Names.{is_raw, is_escapable, is_plaintext, has_letters, closes}
use Rattle.html_lexer.specs.declared.tags.AttrStep.{AttrStep}
use Rattle.html_lexer.specs.declared.tags.AttrStep.TheVariants.{Reads, Closes, Refuses}
use Rattle.html_lexer.specs.Tags.{TagComesTo}
use Rattle.html_lexer.specs.declared.steps.TokenAt.{TokenAt}
use Rattle.html_lexer.specs.declared.steps.TokenAt.TheVariants.{Start, End, Text, Comment, Doctype}
use Rattle.html_lexer.specs.declared.steps.Step.{Step}
use Rattle.html_lexer.specs.declared.steps.Step.TheVariants.{Gives, Fails}
use Rattle.html_lexer.specs.Steps.{is_opener, opens, has_bang_end, end_tag_at, comment_at, bracket, doctype_at, query_at, declaration_at, other_at, starts_at, start_of, StartAt, MarkupAt, raw_end, StepAt}
use Rattle.html_lexer.specs.Tokens.{tok_at, text_tok}
use Rattle.html_lexer.specs.TokenLaws.{MarkupBegins, EndTagBegins, GoesUpTo, PlainText, RawText}
use Rattle.html_lexer.proofs.PlainLemmas.{opens_at, other_moves, both}
use Rattle.html_lexer.proofs.RawLemmas.{closes_at}
use Rattle.html_lexer.proofs.RestLemmas.{find_first}
use Rattle.html_lexer.proofs.SliceLemmas.{le_leb}

-- which side of a choice holds
pub choice : {A : Type 0} (b : Bool) (x y z : A) → cond b x y ≡ z → ((b ≡ true) × (x ≡ z)) ⊎ ((b ≡ false) × (y ≡ z))
choice true x y z h = inl (refl, h)
choice false x y z h = inr (refl, h)

pub side : (b : Bool) (P Q : Type 0) → MatchBool b P Q → ((b ≡ true) × P) ⊎ ((b ≡ false) × Q)
side true P Q h = inl (refl, h)
side false P Q h = inr (refl, h)

both_bytes : (a b c d : ℕ) → ((a == c) && (b == d)) ≡ true → (a ≡ c) × (b ≡ d)
both_bytes a b c d h = (grind (arith, nat_tests), grind (arith, nat_tests))

not_both : (a b c d : ℕ) → ((a == c) && (b == d)) ≡ false → a ≡ c → b ≡ d → ⊥
not_both a b c d h e f = grind (arith, nat_tests)

-- a comment whose text goes from p to e
pub record IsBody (text : List ℕ) (p e : ℕ) (t : TokenAt) : Type 0 where
  pub at : e ≡ find_where (begins_with (codes "-->")) text p
  pub is : t ≡ Comment p e (e + 3)
  pub no_bracket : (get_or text p 0 == 62) ≡ false
  pub no_arrow : ((get_or text p 0 == 45) && (get_or text (p + 1) 0 == 62)) ≡ false
  pub within : e < length text
  pub no_bang : has_bang_end (slice_range text p e) ≡ false

module _ (text : List ℕ) where
  pub start_gives : (i n : ℕ) (t : TokenAt) → StartAt text i n (Gives t) → (m to : ℕ) × (slash : Bool) × (t ≡ Start n m to slash)
  start_gives i n t h =
      elim (side (is_gap (get_or text n 0) || (get_or text n 0 == 62)) ((out : AttrStep) × TagComesTo text n out × (Gives t ≡ start_of (slice_range text (i + 1) n) n out)) (Gives t ≡ Fails BadTag) h) [
        | inl p ↦ closed (slice_range text (i + 1) n) p.1.0 p.1.2
        | inr q ↦ absurd (fails q.1)
      ]
    where
      fails : Gives t ≡ Fails BadTag → ⊥
      fails e = cc

      closed : (name : List ℕ) (out : AttrStep) → Gives t ≡ start_of name n out → (m to : ℕ) × (slash : Bool) × (t ≡ Start n m to slash)
      closed name (Reads a) e = cc
      closed name (Closes m to slash) e =
          elim (choice (is_plaintext name || (slash && is_raw name)) (Fails BadTag) (Gives (Start n m to slash)) (Gives t) (sym e)) [
            | inl p ↦ (let f = p.1 in cc)
            | inr q ↦ (m, to, slash, (let f = q.1 in cc))
          ]
      closed name (Refuses reason) e = cc

  pub end_gives : (i : ℕ) (t : TokenAt) → end_tag_at text i ≡ Gives t → (n to : ℕ) × (t ≡ End n to)
  end_gives i t h =
      let n = run_end is_name_byte text (i + 2) in
      let m = run_end is_space5 text n in
      elim (choice (is_letter (get_or text (i + 2) 0) && (get_or text m 0 == 62)) (Gives (End n (m + 1))) (Fails BadTag) (Gives t) h) [
        | inl p ↦ (n, m + 1, (let f = p.1 in cc))
        | inr q ↦ (let f = q.1 in cc)
      ]

  pub query_gives : (i : ℕ) (t : TokenAt) → query_at text i ≡ Gives t → (ltb (bracket text (i + 1)) (length text) ≡ true) × (t ≡ Comment (i + 1) (bracket text (i + 1)) (bracket text (i + 1) + 1))
  query_gives i t h =
      let e = bracket text (i + 1) in
      elim (choice (ltb e (length text)) (Gives (Comment (i + 1) e (e + 1))) (Fails BadMarkup) (Gives t) h) [
        | inl p ↦ (p.0, (let f = p.1 in cc))
        | inr q ↦ (let f = q.1 in cc)
      ]

  doctype_gives : (i : ℕ) (t : TokenAt) → doctype_at text i ≡ Gives t → (to : ℕ) × (t ≡ Doctype to)
  doctype_gives i t h =
      elim (choice (ltb (bracket text i) (length text)) (Gives (Doctype (bracket text i + 1))) (Fails BadMarkup) (Gives t) h) [
        | inl p ↦ (bracket text i + 1, (let f = p.1 in cc))
        | inr q ↦ (let f = q.1 in cc)
      ]

  pub comment_gives : (p : ℕ) (t : TokenAt) → comment_at text p ≡ Gives t → IsBody text p (find_where (begins_with (codes "-->")) text p) t
  comment_gives p t h =
      let e = find_where (begins_with (codes "-->")) text p in
      let body = Gives (Comment p e (e + 3)) in
      let no_bang = cond (has_bang_end (slice_range text p e)) (Fails BadComment) body in
      let ended = cond (leb (length text) e) (Fails BadComment) no_bang in
      let no_arrow = cond ((get_or text p 0 == 45) && (get_or text (p + 1) 0 == 62)) (Fails BadComment) ended in
      elim (choice (get_or text p 0 == 62) (Fails BadComment) no_arrow (Gives t) h) [
        | inl a ↦ absurd (refused a.1)
        | inr a ↦ elim (choice ((get_or text p 0 == 45) && (get_or text (p + 1) 0 == 62)) (Fails BadComment) ended (Gives t) a.1) [
          | inl b ↦ absurd (refused b.1)
          | inr b ↦ elim (choice (leb (length text) e) (Fails BadComment) no_bang (Gives t) b.1) [
            | inl c ↦ absurd (refused c.1)
            | inr c ↦ elim (choice (has_bang_end (slice_range text p e)) (Fails BadComment) body (Gives t) c.1) [
              | inl d ↦ absurd (refused d.1)
              | inr d ↦ record { at = refl; is = given (Comment p e (e + 3)) d.1; no_bracket = a.0; no_arrow = b.0; within = inside _ _ c.0; no_bang = d.0 }
            ]
          ]
        ]
      ]
    where
      refused : Fails BadComment ≡ Gives t → ⊥
      refused e = cc

      given : (u : TokenAt) → Gives u ≡ Gives t → t ≡ u
      given u e = cc

      inside : (a b : ℕ) → leb a b ≡ false → b < a
      inside a b h = grind (arith, nat_tests)

  abbrev pub IsMark : ℕ → TokenAt → Type 0
  IsMark i t = (get_or text (i + 2) 0 ≡ 45) × (get_or text (i + 3) 0 ≡ 45) × (comment_at text (i + 4) ≡ Gives t)

  declaration_gives : (i : ℕ) (t : TokenAt) → declaration_at text i ≡ Gives t → IsMark i t ⊎ ((to : ℕ) × (t ≡ Doctype to))
  declaration_gives i t h =
      let other = cond (has_letters text (i + 2) (codes "doctype")) (doctype_at text i) (Fails BadMarkup) in
      elim (choice ((get_or text (i + 2) 0 == 45) && (get_or text (i + 3) 0 == 45)) (comment_at text (i + 4)) other (Gives t) h) [
        | inl p ↦ (let b = both_bytes _ _ 45 45 p.0 in inl (b.0, b.1, p.1))
        | inr q ↦ elim (choice (has_letters text (i + 2) (codes "doctype")) (doctype_at text i) (Fails BadMarkup) (Gives t) q.1) [
          | inl p ↦ inr (doctype_gives i t p.1)
          | inr r ↦ (let f = r.1 in cc)
        ]
      ]

  -- what stands at a place where no start tag does
  pub data Other (i : ℕ) (t : TokenAt) : Type 0 where
    ends : (n to : ℕ) → t ≡ End n to → Other i t
    marks : get_or text i 0 ≡ 60 → get_or text (i + 1) 0 ≡ 33 → IsMark i t → Other i t
    types : (to : ℕ) → t ≡ Doctype to → Other i t
    asks : get_or text i 0 ≡ 60 → get_or text (i + 1) 0 ≡ 63 → ltb (bracket text (i + 1)) (length text) ≡ true → t ≡ Comment (i + 1) (bracket text (i + 1)) (bracket text (i + 1) + 1) → Other i t
    reads : (get_or text i 0 ≡ 60 → get_or text (i + 1) 0 ≡ 47 → ⊥) → (get_or text i 0 ≡ 60 → get_or text (i + 1) 0 ≡ 33 → ⊥) → (get_or text i 0 ≡ 60 → get_or text (i + 1) 0 ≡ 63 → ⊥) → t ≡ Text (find_where opens text i) true → Other i t

  pub other_gives : (i : ℕ) (t : TokenAt) → other_at text i ≡ Gives t → Other i t
  other_gives i t h =
      elim (choice ((get_or text i 0 == 60) && (get_or text (i + 1) 0 == 47)) (end_tag_at text i) after_end (Gives t) h) [
        | inl p ↦ (let e = end_gives i t p.1 in ends e.0 e.1 e.2)
        | inr p ↦ elim (choice ((get_or text i 0 == 60) && (get_or text (i + 1) 0 == 33)) (declaration_at text i) after_bang (Gives t) p.1) [
          | inl q ↦ (let b = both_bytes _ _ 60 33 q.0 in
              elim (declaration_gives i t q.1) [ inl m ↦ marks b.0 b.1 m | inr d ↦ types d.0 d.1 ])
          | inr q ↦ elim (choice ((get_or text i 0 == 60) && (get_or text (i + 1) 0 == 63)) (query_at text i) plain (Gives t) q.1) [
            | inl r ↦ (let b = both_bytes _ _ 60 63 r.0 in
                let g = query_gives i t r.1 in asks b.0 b.1 g.0 g.1)
            | inr r ↦ reads (not_both _ _ 60 47 p.0) (not_both _ _ 60 33 q.0) (not_both _ _ 60 63 r.0) (is_plain r.1)
          ]
        ]
      ]
    where
      plain : Step
      plain = Gives (Text (find_where opens text i) true)

      after_bang : Step
      after_bang = cond ((get_or text i 0 == 60) && (get_or text (i + 1) 0 == 63)) (query_at text i) plain

      after_end : Step
      after_end = cond ((get_or text i 0 == 60) && (get_or text (i + 1) 0 == 33)) (declaration_at text i) after_bang

      is_plain : plain ≡ Gives t → t ≡ Text (find_where opens text i) true
      is_plain e = cc

  -- what a step gives: raw text, a start tag, or what stands where no start tag does
  pub data At (name : List ℕ) (i : ℕ) (t : TokenAt) : Type 0 where
    in_raw : i < raw_end text name i → t ≡ Text (raw_end text name i) (is_escapable name) → At name i t
    a_tag : (n m to : ℕ) (slash : Bool) → t ≡ Start n m to slash → At name i t
    outside : raw_end text name i ≤ i → starts_at text i ≡ false → Other i t → At name i t

  pub step_gives : (name : List ℕ) (i : ℕ) (t : TokenAt) → StepAt text name i (Gives t) → At name i t
  step_gives name i t h =
      elim (side (ltb i (raw_end text name i)) (Gives t ≡ Gives (Text (raw_end text name i) (is_escapable name))) (MarkupAt text i (Gives t)) h.1) [
        | inl p ↦ in_raw (below _ _ p.0) (same _ _ p.1)
        | inr p ↦ elim (side (starts_at text i) (StartAt text i (run_end is_name_byte text (i + 1)) (Gives t)) (Gives t ≡ other_at text i) p.1) [
          | inl q ↦ (let s = start_gives i _ t q.1 in a_tag _ s.0 s.1 s.2 s.3)
          | inr q ↦ outside (above _ _ p.0) q.0 (other_gives i t (sym q.1))
        ]
      ]
    where
      below : (a b : ℕ) → ltb a b ≡ true → a < b
      below a b h = grind (arith, nat_tests)

      above : (a b : ℕ) → ltb a b ≡ false → b ≤ a
      above a b h = grind (arith, nat_tests)

      same : (a b : TokenAt) → Gives a ≡ Gives b → a ≡ b
      same a b e = cc

-- the bytes with which markup begins
opener : (b : ℕ) → (is_letter b ≡ true) ⊎ (b ≡ 47) ⊎ (b ≡ 33) ⊎ (b ≡ 63) → is_opener b ≡ true
opener b (inl l) = ap (λ x. x || (b == 47) || (b == 33) || (b == 63)) l
opener b (inr (inl e)) = ap is_opener e
opener b (inr (inr (inl e))) = ap is_opener e
opener b (inr (inr (inr e))) = ap is_opener e

pub either_true : (a b : Bool) → (a || b) ≡ true → (a ≡ true) ⊎ (b ≡ true)
either_true true b h = inl refl
either_true false b h = inr h

opener_parts : (b : ℕ) → is_opener b ≡ true → (is_letter b ≡ true) ⊎ (b ≡ 47) ⊎ (b ≡ 33) ⊎ (b ≡ 63)
opener_parts b h =
    elim (either_true (is_letter b || (b == 47) || (b == 33)) (b == 63) h) [
      | inl x ↦ elim (either_true (is_letter b || (b == 47)) (b == 33) x) [
        | inl y ↦ elim (either_true (is_letter b) (b == 47) y) [ inl l ↦ inl l | inr e ↦ inr (inl (eqb-true b 47 e)) ]
        | inr e ↦ inr (inr (inl (eqb-true b 33 e)))
      ]
      | inr e ↦ inr (inr (inr (eqb-true b 63 e)))
    ]

-- the bytes that end a name
after_name : (b : ℕ) → (is_space5 b ≡ true) ⊎ (b ≡ 47) ⊎ (b ≡ 62) → (is_gap b || (b == 62)) ≡ true
after_name b (inl s) = ap (λ x. (x || (b == 47)) || (b == 62)) s
after_name b (inr (inl e)) = ap (λ c. is_gap c || (c == 62)) e
after_name b (inr (inr e)) = ap (λ c. is_gap c || (c == 62)) e

after_parts : (b : ℕ) → (is_gap b || (b == 62)) ≡ true → (is_space5 b ≡ true) ⊎ (b ≡ 47) ⊎ (b ≡ 62)
after_parts b h =
    elim (either_true (is_gap b) (b == 62) h) [
      | inl g ↦ elim (either_true (is_space5 b) (b == 47) g) [ inl s ↦ inl s | inr e ↦ inr (inl (eqb-true b 47 e)) ]
      | inr e ↦ inr (inr (eqb-true b 62 e))
    ]

space_some : (b : ℕ) → is_space5 b ≡ true → 0 < b
space_some b h = grind (arith, nat_tests)

after_some : (b : ℕ) → (is_space5 b ≡ true) ⊎ (b ≡ 47) ⊎ (b ≡ 62) → 0 < b
after_some b (inl s) = space_some b s
after_some b (inr (inl e)) = omega arith
after_some b (inr (inr e)) = omega arith

module _ (text : List ℕ) where
  markup_opens : (k : ℕ) → MarkupBegins text k → opens (drop k text) ≡ true
  markup_opens k h = opens_at text k ∙ both (get_or text k 0 == 60) (is_opener (get_or text (k + 1) 0)) true (eq-eqb (get_or text k 0) 60 h.0) (opener (get_or text (k + 1) 0) h.1)

  opens_markup : (k : ℕ) → opens (drop k text) ≡ true → MarkupBegins text k
  opens_markup k h =
      let b = and_parts (get_or text k 0 == 60) (is_opener (get_or text (k + 1) 0)) (sym (opens_at text k) ∙ h) in
      (eqb-true (get_or text k 0) 60 b.0, opener_parts (get_or text (k + 1) 0) b.1)

  module _ (name : List ℕ) where
    abbrev after : ℕ → ℕ
    after k = get_or text (k + 2 + length name) 0

    abbrev bracket_at : ℕ → Bool
    bracket_at k = get_or text k 0 == 60

    abbrev slash_at : ℕ → Bool
    slash_at k = get_or text (k + 1) 0 == 47

    abbrev ended_at : ℕ → Bool
    ended_at k = is_gap (after k) || (after k == 62)

    end_closes : (k : ℕ) → EndTagBegins name text k → closes name (drop k text) ≡ true
    end_closes k h =
        let first : k < length text = in_text text k (let e = h.0 in omega arith) in
        let last : k + 2 + length name < length text = in_text text (k + 2 + length name) (after_some (after k) h.3) in
        let fits : leb (k + 2 + length name) (length text) ≡ true = le_leb (k + 2 + length name) (length text) (omega arith) in
        let letters : has_letters text (k + 2) name ≡ true = both (leb (k + 2 + length name) (length text)) (str_eq_ignore_ascii_case (slice_range text (k + 2) (k + 2 + length name)) name) true fits h.2 in
        let two : (bracket_at k && slash_at k) ≡ true = both (bracket_at k) (slash_at k) true (eq-eqb (get_or text k 0) 60 h.0) (eq-eqb (get_or text (k + 1) 0) 47 h.1) in
        let three : (bracket_at k && slash_at k && has_letters text (k + 2) name) ≡ true = both (bracket_at k && slash_at k) (has_letters text (k + 2) name) true two letters in
        closes_at name text k (omega arith)
        ∙ both (bracket_at k && slash_at k && has_letters text (k + 2) name) (ended_at k) true three (after_name (after k) h.3)

    pub closes_end : (k : ℕ) → k ≤ length text → closes name (drop k text) ≡ true → EndTagBegins name text k
    closes_end k l h =
        let a = and_parts (bracket_at k && slash_at k && has_letters text (k + 2) name) (ended_at k) (sym (closes_at name text k l) ∙ h) in
        let b = and_parts (bracket_at k && slash_at k) (has_letters text (k + 2) name) a.0 in
        let c = and_parts (bracket_at k) (slash_at k) b.0 in
        let d = and_parts (leb (k + 2 + length name) (length text)) (str_eq_ignore_ascii_case (slice_range text (k + 2) (k + 2 + length name)) name) b.1 in
        (eqb-true (get_or text k 0) 60 c.0, eqb-true (get_or text (k + 1) 0) 47 c.1, d.1, after_parts (after k) a.1)

  -- a text goes up to where the test first passes
  goes : (p : List ℕ → Bool) (Stop : ℕ → Type 0) (i to : ℕ) → i < to → i < length text → to ≡ find_where p text i → ((k : ℕ) → Stop k → p (drop k text) ≡ true) → ((k : ℕ) → k ≤ length text → p (drop k text) ≡ true → Stop k) → GoesUpTo Stop text i to
  goes p Stop i to some l is passes_at stops_at =
      let at = find_in p text i (omega arith) in
      record {
        some = some;
        within = omega (arith, at.1);
        before = λ k low high stop. find_first p text i k (omega arith) low (omega arith) (passes_at k stop);
        end = elim (cases_lt to (length text)) [
          | inl below ↦ inr (stops_at to (omega arith) (subst (λ n. p (drop n text) ≡ true) (sym is) (at.2 (omega arith))))
          | inr past ↦ inl (omega (arith, at.1))
        ];
      }

  plain_other : (i to : ℕ) (refs : Bool) → i < length text → starts_at text i ≡ false → Other text i (Text to refs) → (refs ≡ true) × GoesUpTo (MarkupBegins text) text i to
  plain_other i to refs w not_start (ends n m e) = cc
  plain_other i to refs w not_start (marks a b m) = let e = (comment_gives text (i + 4) (Text to refs) m.2).is in cc
  plain_other i to refs w not_start (types m e) = cc
  plain_other i to refs w not_start (asks a b c e) = cc
  plain_other i to refs w not_start (reads no_end no_bang no_query e) =
      let is : to ≡ find_where opens text i = cc in
      let counts : refs ≡ true = cc in
      (counts, goes opens (MarkupBegins text) i to (other_moves text i to w is not_start no_end no_bang no_query) w is markup_opens (λ k l h. opens_markup k h))

  plain_goes : (name : List ℕ) (i to : ℕ) (refs : Bool) → i < length text → is_raw name ≡ false → At text name i (Text to refs) → (refs ≡ true) × GoesUpTo (MarkupBegins text) text i to
  plain_goes name i to refs w not_raw (in_raw l e) =
      absurd (let f : raw_end text name i ≡ i = ap (λ b. cond b (find_where (closes name) text i) i) not_raw in omega arith)
  plain_goes name i to refs w not_raw (a_tag n m t s e) = cc
  plain_goes name i to refs w not_raw (outside low start o) = plain_other i to refs w start o

  raw_other : (i to : ℕ) (refs : Bool) → get_or text i 0 ≡ 60 → get_or text (i + 1) 0 ≡ 47 → Other text i (Text to refs) → ⊥
  raw_other i to refs x y (ends n m e) = cc
  raw_other i to refs x y (marks a b m) = let e = (comment_gives text (i + 4) (Text to refs) m.2).is in cc
  raw_other i to refs x y (types m e) = cc
  raw_other i to refs x y (asks a b c e) = cc
  raw_other i to refs x y (reads no_end no_bang no_query e) = no_end x y

  raw_goes : (name : List ℕ) (i to : ℕ) (refs : Bool) → i < length text → is_raw name ≡ true → At text name i (Text to refs) → (refs ≡ is_escapable name) × GoesUpTo (EndTagBegins name text) text i to
  raw_goes name i to refs w is_so (in_raw l e) =
      let f : raw_end text name i ≡ find_where (closes name) text i = ap (λ b. cond b (find_where (closes name) text i) i) is_so in
      let at : to ≡ raw_end text name i = cc in
      let same : refs ≡ is_escapable name = cc in
      (same, goes (closes name) (EndTagBegins name text) i to (omega arith) w (at ∙ f) (end_closes name) (closes_end name))
  raw_goes name i to refs w is_so (a_tag n m t s e) = cc
  raw_goes name i to refs w is_so (outside low start o) =
      let f : raw_end text name i ≡ find_where (closes name) text i = ap (λ b. cond b (find_where (closes name) text i) i) is_so in
      let at = find_in (closes name) text i (omega arith) in
      let is : find_where (closes name) text i ≡ i = omega (arith, at.0) in
      let b = closes_end name i (omega arith) (subst (λ n. closes name (drop n text) ≡ true) is (at.2 (omega arith))) in
      absurd (raw_other i to refs b.0 b.1 o)

text_parts : (text : List ℕ) (i : ℕ) (parts : TokenAt) (from to : ℕ) (raw : List ℕ) (refs : Bool) → text_tok from to raw refs ≡ tok_at text i parts → (parts ≡ Text to refs) × (from ≡ i) × (raw ≡ slice_range text i to)
text_parts text i (Start a b c d) from to raw refs e = cc
text_parts text i (End a b) from to raw refs e = cc
text_parts text i (Text a b) from to raw refs e = (cc, cc, cc)
text_parts text i (Comment a b c) from to raw refs e = cc
text_parts text i (Doctype a) from to raw refs e = cc

pub plain_text : PlainText
plain_text text name raw i from to refs not_raw h =
    let b = text_parts text i h.0 from to raw refs h.2 in
    let s : StepAt text name i (Gives (Text to refs)) = subst (λ (p : TokenAt). StepAt text name i (Gives p)) b.0 h.1 in
    let g = plain_goes text name i to refs s.0 not_raw (step_gives text name i (Text to refs) s) in
    (b.1, b.2, g.0, g.1)

pub raw_text : RawText
raw_text text name raw i from to refs is_so h =
    let b = text_parts text i h.0 from to raw refs h.2 in
    let s : StepAt text name i (Gives (Text to refs)) = subst (λ (p : TokenAt). StepAt text name i (Gives p)) b.0 h.1 in
    let g = raw_goes text name i to refs s.0 is_so (step_gives text name i (Text to refs) s) in
    (b.1, b.2, g.0, g.1)
