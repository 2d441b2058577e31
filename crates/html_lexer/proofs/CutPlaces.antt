-- Where the tokens of a page end that is UTF-8: it may be cut there.
use Rattle.std.proofs.Common.{◌≡◌, ℕ, zero, suc, ◌+◌, ◌<◌, ◌≤◌, inl, inr, Bool, true, false, cond, ◌&&◌, List, length, get_or, sym, refl, subst, arith, ltb, eqb-true, IsUtf8}
use Rattle.std.specs.Prelude.{◌==◌, slice_range, codes}
use Rattle.std.specs.Str.{IsAscii}
use Rattle.std.proofs.lemmas.Bool.{and_parts, ltb-true}
use Rattle.text_base.specs.Text.{run_end, find_where, begins_with, is_not_byte, is_space5, is_letter, IsPlace}
use Rattle.text_base.specs.declared.reasons.PageReason.TheVariants.{BadTag, BadMarkup}
use Rattle.text_base.proofs.Boundaries.{in_text, before_ascii, after_ascii, find_byte_place}
use Rattle.text_base.proofs.Places.{find_in, needle_place, past_needle}
use Rattle.text_base.proofs.Runs.{run_end_from}
use Rattle.html_lexer.specs.Kinds.{is_name_byte}
use Rattle.html_lexer.specs.Names.{is_raw, has_letters}
use Rattle.html_lexer.specs.declared.steps.TokenAt.{TokenAt}
use Rattle.html_lexer.specs.declared.steps.TokenAt.TheVariants.{Start, End, Text, Comment, Doctype}
use Rattle.html_lexer.specs.declared.steps.Step.TheVariants.{Gives, Fails}
use Rattle.html_lexer.specs.Steps.{opens, end_tag_at, bracket, doctype_at, query_at, comment_at, declaration_at, other_at, starts_at, StartAt, StepAt}
use Rattle.html_lexer.specs.Tokens.{Tok, start_tok, end_tok, text_tok, comment_tok, doctype_tok, tok_at, end_of}
use Rattle.html_lexer.specs.TokenLaws.{MarkupBegins, EndTagBegins, GoesUpTo}
use Rattle.html_lexer.specs.Lexing.{Begins}
use Rattle.html_lexer.proofs.PlainLemmas.{past_bracket}
use Rattle.html_lexer.proofs.TextLemmas.{choice, side, start_gives, query_gives, raw_text, plain_text, comment_gives}
use Rattle.html_lexer.proofs.CutLemmas.{slice_utf8, markup_step, IsStartOf, start_of_step, IsCutTok}

module _ (text : List ℕ) (utf8 : IsUtf8 text) where
  -- where tokens end
  abbrev PlaceOf : TokenAt → Type 0
  PlaceOf (Start n m to slash) = Unit {0}
  PlaceOf (End n to) = IsPlace text to
  PlaceOf (Text to refs) = Unit {0}
  PlaceOf (Comment a b to) = IsUtf8 (slice_range text a b) × IsPlace text to
  PlaceOf (Doctype to) = IsPlace text to

  at_byte : (j : ℕ) → get_or text j 0 ≡ 62 → IsPlace text (j + 1)
  at_byte j e = after_ascii text j (j + 1) utf8 refl (in_text text j (omega arith)) (omega arith)

  end_place_of : (i : ℕ) (t : TokenAt) → end_tag_at text i ≡ Gives t → PlaceOf t
  end_place_of i t h =
      let n = run_end is_name_byte text (i + 2) in
      let m = run_end is_space5 text n in
      elim (choice (is_letter (get_or text (i + 2) 0) && (get_or text m 0 == 62)) (Gives (End n (m + 1))) (Fails BadTag) (Gives t) h) [
        | inl p ↦ subst PlaceOf (gives (End n (m + 1)) t p.1) (at_byte m (eqb-true (get_or text m 0) 62 (and_parts (is_letter (get_or text (i + 2) 0)) (get_or text m 0 == 62) p.0).1))
        | inr q ↦ absurd (fails q.1)
      ]
    where
      gives : (a b : TokenAt) → Gives a ≡ Gives b → a ≡ b
      gives a b e = cc

      fails : Fails BadTag ≡ Gives t → ⊥
      fails e = cc

  bracket_place : (i : ℕ) → bracket text i < length text → IsPlace text (bracket text i + 1)
  bracket_place i l = past_bracket text i (bracket text i) (bracket text i + 1) utf8 refl l refl

  doctype_place : (i : ℕ) (t : TokenAt) → doctype_at text i ≡ Gives t → PlaceOf t
  doctype_place i t h =
      elim (choice (ltb (bracket text i) (length text)) (Gives (Doctype (bracket text i + 1))) (Fails BadMarkup) (Gives t) h) [
        | inl p ↦ subst PlaceOf (gives (Doctype (bracket text i + 1)) t p.1) (bracket_place i (ltb-true (bracket text i) (length text) p.0))
        | inr q ↦ absurd (fails q.1)
      ]
    where
      gives : (a b : TokenAt) → Gives a ≡ Gives b → a ≡ b
      gives a b e = cc

      fails : Fails BadMarkup ≡ Gives t → ⊥
      fails e = cc

  query_place : (i : ℕ) (t : TokenAt) → i < length text → get_or text i 0 < 128 → query_at text i ≡ Gives t → PlaceOf t
  query_place i t l ascii h =
      let g = query_gives text i t h in
      let e = bracket text (i + 1) in
      let inside : e < length text = ltb-true e (length text) g.0 in
      subst PlaceOf (sym g.1) (
        slice_utf8 text utf8 (i + 1) e (run_end_from (is_not_byte 62) text (i + 1)) (after_ascii text i (i + 1) utf8 refl l ascii) (find_byte_place 62 text (i + 1) e utf8 (omega arith) (omega arith) refl),
        bracket_place (i + 1) inside,
      )

  comment_place : (p : ℕ) (t : TokenAt) → p ≤ length text → IsPlace text p → comment_at text p ≡ Gives t → PlaceOf t
  comment_place p t low at h =
      let b = comment_gives text p t h in
      let e = find_where (begins_with (codes "-->")) text p in
      let ascii : IsAscii (codes "-->") = mark_ascii in
      subst PlaceOf (sym b.is) (
        slice_utf8 text utf8 p e (find_in (begins_with (codes "-->")) text p low).0 at (needle_place text (codes "-->") utf8 ascii (omega arith) p e low refl),
        past_needle text (codes "-->") utf8 ascii (omega arith) p e low refl b.within,
      )
    where
      mark_ascii : IsAscii (codes "-->")
      mark_ascii zero = omega arith
      mark_ascii (suc zero) = omega arith
      mark_ascii (suc (suc zero)) = omega arith
      mark_ascii (suc (suc (suc i))) = omega arith

  declaration_place : (i : ℕ) (t : TokenAt) → declaration_at text i ≡ Gives t → PlaceOf t
  declaration_place i t h =
      let other = cond (has_letters text (i + 2) (codes "doctype")) (doctype_at text i) (Fails BadMarkup) in
      elim (choice ((get_or text (i + 2) 0 == 45) && (get_or text (i + 3) 0 == 45)) (comment_at text (i + 4)) other (Gives t) h) [
        | inl p ↦
            let three : get_or text (i + 3) 0 ≡ 45 = eqb-true (get_or text (i + 3) 0) 45 (and_parts (get_or text (i + 2) 0 == 45) (get_or text (i + 3) 0 == 45) p.0).1 in
            let inside : i + 3 < length text = in_text text (i + 3) (omega arith) in
            comment_place (i + 4) t (omega arith) (after_ascii text (i + 3) (i + 4) utf8 (omega arith) inside (omega arith)) p.1
        | inr q ↦ elim (choice (has_letters text (i + 2) (codes "doctype")) (doctype_at text i) (Fails BadMarkup) (Gives t) q.1) [
          | inl r ↦ doctype_place i t r.1
          | inr r ↦ absurd (fails r.1)
        ]
      ]
    where
      fails : Fails BadMarkup ≡ Gives t → ⊥
      fails e = cc

  other_place : (i : ℕ) (t : TokenAt) → i < length text → other_at text i ≡ Gives t → PlaceOf t
  other_place i t l h =
      let plain = Gives (Text (find_where opens text i) true) in
      let after_bang = cond ((get_or text i 0 == 60) && (get_or text (i + 1) 0 == 63)) (query_at text i) plain in
      let after_end = cond ((get_or text i 0 == 60) && (get_or text (i + 1) 0 == 33)) (declaration_at text i) after_bang in
      elim (choice ((get_or text i 0 == 60) && (get_or text (i + 1) 0 == 47)) (end_tag_at text i) after_end (Gives t) h) [
        | inl p ↦ end_place_of i t p.1
        | inr p ↦ elim (choice ((get_or text i 0 == 60) && (get_or text (i + 1) 0 == 33)) (declaration_at text i) after_bang (Gives t) p.1) [
          | inl q ↦ declaration_place i t q.1
          | inr q ↦ elim (choice ((get_or text i 0 == 60) && (get_or text (i + 1) 0 == 63)) (query_at text i) plain (Gives t) q.1) [
            | inl r ↦ (let first : get_or text i 0 ≡ 60 = eqb-true (get_or text i 0) 60 (and_parts (get_or text i 0 == 60) (get_or text (i + 1) 0 == 63) r.0).0 in query_place i t l (omega arith) r.1)
            | inr r ↦ subst PlaceOf (gives (Text (find_where opens text i) true) t r.1) tt
          ]
        ]
      ]
    where
      gives : (a b : TokenAt) → Gives a ≡ Gives b → a ≡ b
      gives a b e = cc

  start_no_place : (i n : ℕ) (t : TokenAt) → StartAt text i n (Gives t) → PlaceOf t
  start_no_place i n t h = (let s = start_gives text i n t h in subst PlaceOf (sym s.3) tt)

  place_of_step : (previous : List ℕ) (i : ℕ) (t : TokenAt) → StepAt text previous i (Gives t) → PlaceOf t
  place_of_step previous i t h =
      elim (markup_step text utf8 previous i t h) [
        | inl p ↦ subst PlaceOf (sym p.1) tt
        | inr q ↦ elim (side (starts_at text i) (StartAt text i (run_end is_name_byte text (i + 1)) (Gives t)) (Gives t ≡ other_at text i) q.1) [
          | inl s ↦ start_no_place i (run_end is_name_byte text (i + 1)) t s.1
          | inr o ↦ other_place i t h.0 (sym o.1)
        ]
      ]

  goes_place : (Stop : ℕ → Type 0) (i to : ℕ) → ((k : ℕ) → Stop k → get_or text k 0 ≡ 60) → GoesUpTo Stop text i to → IsPlace text to
  goes_place Stop i to lt g = elim g.end [
    | inl e ↦ record { within = g.within; starts = λ l. absurd (omega arith) }
    | inr s ↦ (let first = lt to s in before_ascii text to (in_text text to (omega arith)) (omega arith))
  ]

  text_cut : (name : List ℕ) (i to : ℕ) (refs : Bool) → IsPlace text i → Begins text name i (text_tok i to (slice_range text i to) refs) → IsUtf8 (slice_range text i to) × IsPlace text to
  text_cut name i to refs at h = by_raw (is_raw name) refl
    where
      both_cut : IsPlace text to → i < to → IsUtf8 (slice_range text i to) × IsPlace text to
      both_cut p l = (slice_utf8 text utf8 i to (omega arith) at p, p)

      by_raw : (b : Bool) → is_raw name ≡ b → IsUtf8 (slice_range text i to) × IsPlace text to
      by_raw true raw = (let g = (raw_text text name (slice_range text i to) i i to refs raw h).3 in both_cut (goes_place (EndTagBegins name text) i to (λ k s. s.0) g) g.some)
      by_raw false raw = (let g = (plain_text text name (slice_range text i to) i i to refs raw h).3 in both_cut (goes_place (MarkupBegins text) i to (λ k s. s.0) g) g.some)

  tok_cut : (name : List ℕ) (i : ℕ) (t : TokenAt) → IsPlace text i → StepAt text name i (Gives t) → PlaceOf t → IsStartOf text utf8 i t → IsCutTok text (tok_at text i t)
  tok_cut name i (Start n m to slash) at h p s = s
  tok_cut name i (End n to) at h p s = p
  tok_cut name i (Text to refs) at h p s = text_cut name i to refs at (Text to refs, h, refl)
  tok_cut name i (Comment a b to) at h p s = p
  tok_cut name i (Doctype to) at h p s = p

  pub cut_tok : (name : List ℕ) (i : ℕ) (x : Tok) → IsPlace text i → Begins text name i x → IsCutTok text x
  cut_tok name i x at h = subst (IsCutTok text) (sym h.2) (tok_cut name i h.0 at h.1 (place_of_step name i h.0 h.1) (start_of_step text utf8 name i h.0 h.1))

  pub cut_end : (x : Tok) → IsCutTok text x → IsPlace text (end_of x)
  cut_end (start_tok from to name attrs slash) h = h.end
  cut_end (end_tok from to name) h = h
  cut_end (text_tok from to raw refs) h = h.1
  cut_end (comment_tok from to body) h = h.1
  cut_end (doctype_tok from to) h = h
