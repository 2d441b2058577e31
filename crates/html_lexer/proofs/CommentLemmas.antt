-- What a comment is.
use Rattle.std.proofs.Common.{◌≡◌, ℕ, ◌+◌, ◌-◌, ◌<◌, ◌≤◌, ◌⊎◌, inl, inr, true, false, ◌&&◌, List, [], ◌∷◌, ◌++◌, length, get_or, take, drop, sym, refl, ◌∙◌, ap, subst, arith, length-take, length-drop}
use Rattle.std.specs.Prelude.{◌==◌, slice_range, codes}
use Rattle.std.proofs.lemmas.Bool.Decides.{nat_tests}
use Rattle.std.proofs.lemmas.List.{take-append-drop, length-append, append_assoc}
use Rattle.std.proofs.lemmas.Slice.Eq.{bytes_eq-Decides}
use Rattle.std.proofs.Math.Seq.{drop-append_seam, take-append_seam}
use Rattle.std.proofs.lemmas.Bool.{ltb-true, ltb-false}
use Rattle.text_base.specs.Text.{is_not_byte, find_where, begins_with}
use Rattle.text_base.proofs.Boundaries.{in_text}
use Rattle.text_base.proofs.Places.{find_in}
use Rattle.text_base.proofs.Runs.{run_end_moves, run_end_passes, run_end_stops}
use Rattle.html_lexer.specs.declared.steps.TokenAt.{TokenAt}
use Rattle.html_lexer.specs.declared.steps.TokenAt.TheVariants.{Start, End, Text, Comment, Doctype}
use Rattle.html_lexer.specs.Steps.{bracket}
use Rattle.html_lexer.specs.Tokens.{tok_at, comment_tok}
use Rattle.html_lexer.specs.TokenLaws.{Holds, BeginsWith, IsMarked, IsQuery, CommentText}
use Rattle.html_lexer.proofs.RestLemmas.{rest_byte, byte_rest, rest_past, rest_slice, slice_rest, find_first}
use Rattle.html_lexer.proofs.TextLemmas.{IsBody, At, in_raw, a_tag, outside, Other, ends, marks, types, asks, reads, comment_gives, step_gives}

-- a list that the rest of the text begins with, and what stands in it
module _ (text s : List ℕ) (p e : ℕ) (long : e ≡ p + length s) (r : List ℕ) (front : drop p text ≡ s ++ r) where
  held : (part before later : List ℕ) → s ≡ before ++ (part ++ later) → drop (p + length before) text ≡ part ++ (later ++ r)
  held part before later h =
      rest_past text p (p + length before) before (part ++ (later ++ r)) refl
      (front ∙ ap (λ x. x ++ r) h ∙ append_assoc before (part ++ later) r ∙ ap (λ x. before ++ x) (append_assoc part later r))

  held_length : (part before later : List ℕ) → s ≡ before ++ (part ++ later) → p + length before + length part ≤ e
  held_length part before later h = omega (arith, ap length h, length-append before (part ++ later), length-append part later)

begins_yes : (part s y : List ℕ) → s ≡ part ++ y → begins_with part s ≡ true
begins_yes part s y h = (bytes_eq-Decides _ _).1 (ap (take (length part)) h ∙ take-append_seam part y)

begins_part : (part s : List ℕ) → begins_with part s ≡ true → s ≡ part ++ drop (length part) s
begins_part part s h =
    let e : take (length part) s ≡ part = (bytes_eq-Decides _ _).0 h in
    sym (take-append-drop (length part) s) ∙ ap (λ x. x ++ drop (length part) s) e

is_not : (a b : ℕ) → a ≡ b → (a == b) ≡ false → ⊥
is_not a b e h = grind (arith, nat_tests)

not_arrow : (a b : ℕ) → a ≡ 45 → b ≡ 62 → ((a == 45) && (b == 62)) ≡ false → ⊥
not_arrow a b e f h = grind (arith, nat_tests)

is_byte : (a b : ℕ) → is_not_byte b a ≡ false → a ≡ b
is_byte a b h = grind (arith, nat_tests)

another : (a b : ℕ) → a ≡ b → is_not_byte b a ≡ true → ⊥
another a b e h = grind (arith, nat_tests)

slice_length : (text : List ℕ) (p e : ℕ) → p ≤ e → e ≤ length text → e ≡ p + length (slice_range text p e)
slice_length text p e low high = omega (arith, length-take (e - p) (drop p text), length-drop p text)

module _ (text : List ℕ) (i p e : ℕ) (t : TokenAt) (at : p ≡ i + 4) (body : IsBody text p e t) (x : get_or text i 0 ≡ 60) (y : get_or text (i + 1) 0 ≡ 33) (z : get_or text (i + 2) 0 ≡ 45) (w : get_or text (i + 3) 0 ≡ 45) where
  abbrev s : List ℕ
  s = slice_range text p e

  abbrev mark : List ℕ
  mark = codes "-->"

  abbrev r : List ℕ
  r = drop 3 (drop e text)

  inside : p ≤ length text
  inside = let l : i + 3 < length text = in_text text (i + 3) (omega arith) in omega arith

  low : p ≤ e
  low = let l = inside in omega (arith, body.at, (find_in (begins_with mark) text p l).0)

  long : e ≡ p + length s
  long = slice_length text p e low (let l = body.within in omega arith)

  ending : drop e text ≡ mark ++ r
  ending =
      begins_part mark (drop e text)
      (subst (λ n. begins_with mark (drop n text) ≡ true) (sym body.at) ((find_in (begins_with mark) text p inside).2 (let l = body.within in omega (arith, body.at))))

  front : drop p text ≡ s ++ (mark ++ r)
  front = slice_rest text p e low ∙ ap (λ q. s ++ q) ending

  opening : drop i text ≡ codes "<!--" ++ drop p text
  opening =
      byte_rest text i (i + 1) 60 refl (omega arith) x
      ∙ ap (λ q. 60 ∷ q) (byte_rest text (i + 1) (i + 2) 33 (omega arith) (omega arith) y)
      ∙ ap (λ q. 60 ∷ 33 ∷ q) (byte_rest text (i + 2) (i + 3) 45 (omega arith) (omega arith) z)
      ∙ ap (λ q. 60 ∷ 33 ∷ 45 ∷ q) (byte_rest text (i + 3) p 45 (omega arith) (omega arith) w)

  all : drop i text ≡ (codes "<!--" ++ (s ++ mark)) ++ r
  all = opening ∙ ap (λ q. codes "<!--" ++ q) (front ∙ sym (append_assoc s mark r))

  whole : slice_range text i (e + 3) ≡ codes "<!--" ++ (s ++ mark)
  whole = rest_slice text i (e + 3) (codes "<!--" ++ (s ++ mark)) r (let l = long in let k : length (codes "<!--" ++ (s ++ mark)) ≡ 4 + (length s + 3) = whole_length s in omega arith) all
    where
      whole_length : (a : List ℕ) → length (codes "<!--" ++ (a ++ codes "-->")) ≡ 4 + (length a + 3)
      whole_length a = omega (arith, length-append (codes "<!--") (a ++ codes "-->"), length-append a (codes "-->"))

  no_end : Holds s mark → ⊥
  no_end h =
      let l = held_length text s p e long (mark ++ r) front mark h.0 h.1 h.2 in
      let q = low in
      let b = body.within in
      find_first (begins_with mark) text p (p + length h.0) inside (omega arith) (omega (arith, body.at)) (begins_yes mark _ _ (held text s p e long (mark ++ r) front mark h.0 h.1 h.2))

  no_bang : Holds s (codes "--!>") → ⊥
  no_bang h =
      let far = ltb-false (find_where (begins_with (codes "--!>")) s 0) (length s) body.no_bang in
      let l : length h.0 < length s = omega (arith, ap length h.2, length-append h.0 (codes "--!>" ++ h.1), length-append (codes "--!>") h.1) in
      find_first (begins_with (codes "--!>")) s 0 (length h.0) (omega arith) (omega arith) (omega arith)
      (begins_yes (codes "--!>") _ h.1 (ap (drop (length h.0)) h.2 ∙ drop-append_seam h.0 (codes "--!>" ++ h.1)))

  no_bracket : BeginsWith s (codes ">") → ⊥
  no_bracket h = is_not (get_or text p 0) 62 (rest_byte text p 62 (h.0 ++ (mark ++ r)) (front ∙ ap (λ q. q ++ (mark ++ r)) h.1)) body.no_bracket

  no_arrow : BeginsWith s (codes "->") → ⊥
  no_arrow h =
      let begun : drop p text ≡ 45 ∷ 62 ∷ (h.0 ++ (mark ++ r)) = front ∙ ap (λ q. q ++ (mark ++ r)) h.1 in
      not_arrow (get_or text p 0) (get_or text (p + 1) 0) (rest_byte text p 45 (62 ∷ (h.0 ++ (mark ++ r))) begun)
      (rest_byte text (p + 1) 62 (h.0 ++ (mark ++ r)) (rest_past text p (p + 1) (45 ∷ []) (62 ∷ (h.0 ++ (mark ++ r))) refl begun)) body.no_arrow

  marked : IsMarked (slice_range text i (e + 3)) s
  marked = record { whole = whole; no_end = no_end; no_bang = no_bang; no_bracket = no_bracket; no_arrow = no_arrow }

module _ (text : List ℕ) (i e : ℕ) (is : e ≡ bracket text (i + 1)) (x : get_or text i 0 ≡ 60) (y : get_or text (i + 1) 0 ≡ 63) (below : e < length text) where
  abbrev body : List ℕ
  body = slice_range text (i + 1) e

  first : i + 1 < e
  first = run_end_moves (is_not_byte 62) text (i + 1) e is (in_text text (i + 1) (omega arith)) (ap (is_not_byte 62) y)

  close : drop e text ≡ 62 ∷ drop (e + 1) text
  close = byte_rest text e (e + 1) 62 refl (omega arith) (is_byte (get_or text e 0) 62 (subst (λ n. is_not_byte 62 (get_or text n 0) ≡ false) (sym is) (run_end_stops (is_not_byte 62) text (i + 1) (omega arith))))

  query_front : drop (i + 1) text ≡ body ++ drop e text
  query_front = slice_rest text (i + 1) e (let l = first in omega arith)

  query_long : e ≡ i + 1 + length body
  query_long = slice_length text (i + 1) e (let l = first in omega arith) (omega arith)

  query_whole : slice_range text i (e + 1) ≡ codes "<" ++ (body ++ codes ">")
  query_whole =
      rest_slice text i (e + 1) (codes "<" ++ (body ++ codes ">")) (drop (e + 1) text) (let l = query_long in let k : length (codes "<" ++ (body ++ codes ">")) ≡ 1 + (length body + 1) = whole_length body in omega arith)
      (byte_rest text i (i + 1) 60 refl (omega arith) x ∙ ap (λ q. 60 ∷ q) (query_front ∙ ap (λ q. body ++ q) close ∙ sym (append_assoc body (codes ">") (drop (e + 1) text))))
    where
      whole_length : (a : List ℕ) → length (codes "<" ++ (a ++ codes ">")) ≡ 1 + (length a + 1)
      whole_length a = omega (arith, length-append (codes "<") (a ++ codes ">"), length-append a (codes ">"))

  asks_first : body ≡ codes "?" ++ slice_range text (i + 2) e
  asks_first =
      rest_slice text (i + 1) e (codes "?" ++ slice_range text (i + 2) e) (drop e text) (let l = first in let k = slice_length text (i + 2) e (omega arith) (omega arith) in let j : length (codes "?" ++ slice_range text (i + 2) e) ≡ 1 + length (slice_range text (i + 2) e) = length-append (codes "?") (slice_range text (i + 2) e) in omega arith)
      (byte_rest text (i + 1) (i + 2) 63 (omega arith) (omega arith) y ∙ ap (λ q. 63 ∷ q) (slice_rest text (i + 2) e (let l = first in omega arith)))

  no_close : Holds body (codes ">") → ⊥
  no_close h =
      let l = held_length text body (i + 1) e query_long (drop e text) query_front (codes ">") h.0 h.1 h.2 in
      let b = rest_byte text (i + 1 + length h.0) 62 (h.1 ++ drop e text) (held text body (i + 1) e query_long (drop e text) query_front (codes ">") h.0 h.1 h.2) in
      another (get_or text (i + 1 + length h.0) 0) 62 b (run_end_passes (is_not_byte 62) text (i + 1) (i + 1 + length h.0) (omega arith) (omega arith))

  queried : IsQuery (slice_range text i (e + 1)) body
  queried = record { whole = query_whole; query = (slice_range text (i + 2) e, asks_first); no_bracket = no_close }

-- a comment token, by its places
abbrev IsCommentAt : List ℕ → ℕ → TokenAt → Type 0
IsCommentAt text i (Start a b c d) = Unit {0}
IsCommentAt text i (End a b) = Unit {0}
IsCommentAt text i (Text a b) = Unit {0}
IsCommentAt text i (Comment a b to) = IsMarked (slice_range text i to) (slice_range text a b) ⊎ IsQuery (slice_range text i to) (slice_range text a b)
IsCommentAt text i (Doctype a) = Unit {0}

module _ (text : List ℕ) where
  comment_other : (i : ℕ) (t : TokenAt) → Other text i t → IsCommentAt text i t
  comment_other i t (ends n m e) = subst (IsCommentAt text i) (sym e) tt
  comment_other i t (marks a b m) =
      let body = comment_gives text (i + 4) t m.2 in
      subst (IsCommentAt text i) (sym body.is) (inl (marked text i (i + 4) _ t refl body a b m.0 m.1))
  comment_other i t (types m e) = subst (IsCommentAt text i) (sym e) tt
  comment_other i t (asks a b l e) = subst (IsCommentAt text i) (sym e) (inr (queried text i (bracket text (i + 1)) refl a b (ltb-true _ _ l)))
  comment_other i t (reads a b c e) = subst (IsCommentAt text i) (sym e) tt

  comment_at_place : (name : List ℕ) (i : ℕ) (t : TokenAt) → At text name i t → IsCommentAt text i t
  comment_at_place name i t (in_raw l e) = subst (IsCommentAt text i) (sym e) tt
  comment_at_place name i t (a_tag n m to slash e) = subst (IsCommentAt text i) (sym e) tt
  comment_at_place name i t (outside past start o) = comment_other i t o

comment_parts : (text : List ℕ) (i : ℕ) (parts : TokenAt) (from to : ℕ) (s : List ℕ) → comment_tok from to s ≡ tok_at text i parts → IsCommentAt text i parts → (from ≡ i) × (IsMarked (slice_range text i to) s ⊎ IsQuery (slice_range text i to) s)
comment_parts text i (Start a b c d) from to s e h = cc
comment_parts text i (End a b) from to s e h = cc
comment_parts text i (Text a b) from to s e h = cc
comment_parts text i (Comment a b c) from to s e h =
    let at : to ≡ c = cc in
    let is : s ≡ slice_range text a b = cc in
    let start : from ≡ i = cc in
    (start, subst (λ n. IsMarked (slice_range text i n) s ⊎ IsQuery (slice_range text i n) s) (sym at) (subst (λ z. IsMarked (slice_range text i c) z ⊎ IsQuery (slice_range text i c) z) (sym is) h))
comment_parts text i (Doctype a) from to s e h = cc

pub comment_text : CommentText
comment_text text name s i from to h = comment_parts text i h.0 from to s h.2 (comment_at_place text name i h.0 (step_gives text name i h.0 h.1))
