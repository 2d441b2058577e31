-- Texts that are written as tokens are read as these tokens: end tags, comments, texts and raw text.
use Rattle.std.proofs.Common.{◌≡◌, ℕ, suc, ◌+◌, ◌-◌, ◌<◌, ◌≤◌, ◌⊎◌, inl, inr, Bool, true, false, cond, ◌&&◌, ◌||◌, List, [], ◌∷◌, ◌++◌, length, get_or, take, drop, sym, refl, ◌∙◌, ap, subst, arith, ltb, leb, eq-eqb, length-drop, length-take, length-append, get_or-drop, get_or-take}
use Rattle.std.specs.Prelude.{◌==◌, slice_range, codes}
use Rattle.std.specs.Bool.{MatchBool}
use Rattle.std.specs.List.{AllPass}
use Rattle.std.proofs.lemmas.Bool.Decides.{nat_tests}
use Rattle.std.proofs.lemmas.List.{take-append-drop, take-append-le, drop-append-le, get_or-map}
use Rattle.std.proofs.lemmas.Slice.Eq.{bytes_eq-Decides}
use Rattle.std.proofs.Math.Seq.{take-append_seam, get_or-append_seam}
use Rattle.std.specs.Char.{to_ascii_lowercase}
use Rattle.std.proofs.lemmas.Bool.{cases_lt, false_from_ne_true, and_parts}
use Rattle.text_base.specs.Text.{run_end, find_where, first_place, begins_with, is_letter, is_space5}
use Rattle.text_base.specs.declared.reasons.PageReason.TheVariants.{BadTag, BadComment}
use Rattle.text_base.proofs.Places.{find_none, find_here}
use Rattle.html_lexer.specs.Kinds.{is_name_byte, is_gap}
use Rattle.std.specs.Str.{str_eq_ignore_ascii_case, str_to_ascii_lowercase}
use Rattle.std.proofs.Math.ListN.{get_or-append}
use Rattle.text_base.proofs.Boundaries.{in_text}
use Rattle.html_lexer.specs.Names.{is_raw, is_escapable, closes, has_letters}
use Rattle.html_lexer.specs.declared.steps.TokenAt.TheVariants.{End, Text, Comment}
use Rattle.html_lexer.specs.declared.steps.Step.{Step}
use Rattle.html_lexer.specs.declared.steps.Step.TheVariants.{Gives, Fails}
use Rattle.html_lexer.specs.Steps.{opens, is_opener, end_tag_at, has_bang_end, comment_at, declaration_at, other_at, starts_at, StartAt, MarkupAt, raw_end, StepAt}
use Rattle.html_lexer.specs.Tokens.{end_tok, text_tok, comment_tok}
use Rattle.html_lexer.specs.Lexing.{Begins}
use Rattle.html_lexer.specs.TokenLaws.{Holds, BeginsWith}
use Rattle.html_lexer.proofs.RestLemmas.{rest_byte, rest_past, rest_slice}
use Rattle.html_lexer.proofs.WrittenLemmas.{run_is, run_here, below}

one_more : (n : ℕ) → 1 + n ≡ suc n
one_more n = omega arith

pick_no : {A : Type 0} (b : Bool) (x y z : A) → b ≡ false → y ≡ z → cond b x y ≡ z
pick_no true x y z h e = cc
pick_no false x y z h e = e

pick_yes : {A : Type 0} (b : Bool) (x y z : A) → b ≡ true → x ≡ z → cond b x y ≡ z
pick_yes true x y z h e = e
pick_yes false x y z h e = cc

not_below : (a b : ℕ) → b ≡ a → ltb a b ≡ false
not_below a b e = grind (arith, nat_tests)

is_below : (a b : ℕ) → a < b → ltb a b ≡ true
is_below a b l = grind (arith, nat_tests)

-- where no raw text begins, and no start tag does
pub other_step : (text previous : List ℕ) (i : ℕ) (step : Step) → i < length text → raw_end text previous i ≡ i → starts_at text i ≡ false → step ≡ other_at text i → StepAt text previous i step
other_step text previous i step l raw starts is = (
  l,
  subst (λ b. MatchBool b (step ≡ Gives (Text (raw_end text previous i) (is_escapable previous))) (MarkupAt text i step)) (sym (not_below i (raw_end text previous i) raw))
      (subst (λ b. MatchBool b (StartAt text i (run_end is_name_byte text (i + 1)) step) (step ≡ other_at text i)) (sym starts) is),
)

pub plain_end : (text previous : List ℕ) (i : ℕ) → is_raw previous ≡ false → raw_end text previous i ≡ i
plain_end text previous i not_raw = ap (λ b. cond b (find_where (closes previous) text i) i) not_raw

no_letter : (a b : ℕ) → is_letter b ≡ false → ((a == 60) && is_letter b) ≡ false
no_letter a b h = grind (arith, nat_tests)

-- an end tag
module _ (text name y : List ℕ) (i : ℕ) (front : drop i text ≡ codes "</" ++ (name ++ 62 ∷ y)) (first : is_letter (get_or name 0 0) ≡ true) (bytes : AllPass is_name_byte name) where
  abbrev n : ℕ
  n = i + 2 + length name

  second : drop (i + 1) text ≡ 47 ∷ (name ++ 62 ∷ y)
  second = rest_past text i (i + 1) (60 ∷ []) (47 ∷ (name ++ 62 ∷ y)) refl front

  named : drop (i + 2) text ≡ name ++ 62 ∷ y
  named = rest_past text i (i + 2) (codes "</") (name ++ 62 ∷ y) refl front

  closed : drop n text ≡ 62 ∷ y
  closed = rest_past text (i + 2) n name (62 ∷ y) refl named

  first_of : (s : List ℕ) → drop (i + 2) text ≡ s ++ 62 ∷ y → is_letter (get_or s 0 0) ≡ true → is_letter (get_or text (i + 2) 0) ≡ true
  first_of [] h l = cc
  first_of (c ∷ s) h l = ap is_letter (rest_byte text (i + 2) c (s ++ 62 ∷ y) h) ∙ l

  is_end : end_tag_at text i ≡ Gives (End n (n + 1))
  is_end =
      let name_end : run_end is_name_byte text (i + 2) ≡ n = run_is is_name_byte text (i + 2) n name 62 y refl named bytes refl in
      ap (λ k. cond (is_letter (get_or text (i + 2) 0) && (get_or text (run_end is_space5 text k) 0 == 62)) (Gives (End k (run_end is_space5 text k + 1))) (Fails BadTag)) name_end
      ∙ ap (λ m. cond (is_letter (get_or text (i + 2) 0) && (get_or text m 0 == 62)) (Gives (End n (m + 1))) (Fails BadTag)) (run_here is_space5 text n 62 y closed refl)
      ∙ pick_yes (is_letter (get_or text (i + 2) 0) && (get_or text n 0 == 62)) _ _ _ (λ j. first_of name named first j && eq-eqb (get_or text n 0) 62 (rest_byte text n 62 y closed) j) refl

  pub end_back : (previous : List ℕ) → raw_end text previous i ≡ i → Begins text previous i (end_tok i (n + 1) name)
  end_back previous raw =
      let lt : get_or text i 0 ≡ 60 = rest_byte text i 60 (47 ∷ (name ++ 62 ∷ y)) front in
      let slash : get_or text (i + 1) 0 ≡ 47 = rest_byte text (i + 1) 47 (name ++ 62 ∷ y) second in
      let is : Gives (End n (n + 1)) ≡ other_at text i =
      sym (pick_yes ((get_or text i 0 == 60) && (get_or text (i + 1) 0 == 47)) _ _ _ (λ j. eq-eqb (get_or text i 0) 60 lt j && eq-eqb (get_or text (i + 1) 0) 47 slash j) is_end) in (
        End n (n + 1),
        other_step text previous i (Gives (End n (n + 1))) (below text i 60 (47 ∷ (name ++ 62 ∷ y)) front) raw (no_letter (get_or text i 0) (get_or text (i + 1) 0) (ap is_letter slash)) is,
        ap (λ z. end_tok i (n + 1) z) (sym (rest_slice text (i + 2) n name (62 ∷ y) refl named)),
      )

-- a comment
begins_no : (part s : List ℕ) → (take (length part) s ≡ part → ⊥) → begins_with part s ≡ false
begins_no part s h = false_from_ne_true (begins_with part s) (λ e. h ((bytes_eq-Decides (take (length part) s) part).0 e))

begins_yes : (part y : List ℕ) → begins_with part (part ++ y) ≡ true
begins_yes part y = (bytes_eq-Decides (take (length part) (part ++ y)) part).1 (take-append_seam part y)

-- the marks that end a comment are first found after its text
close_first : (s y : List ℕ) → (Holds s (codes "-->") → ⊥) → first_place (begins_with (codes "-->")) (s ++ (codes "-->" ++ y)) ≡ length s
close_first [] y h = ap (λ b. cond b 0 (1 + first_place (begins_with (codes "-->")) (codes "->" ++ y))) (begins_yes (codes "-->") y)
close_first (c ∷ []) y h =
    ap (λ b. cond b 0 (1 + first_place (begins_with (codes "-->")) (codes "-->" ++ y))) (begins_no (codes "-->") (c ∷ (codes "-->" ++ y)) (λ e. let t : 45 ≡ 62 = ap (λ l. get_or l 2 0) e in omega (arith, t)))
    ∙ ap (λ n. 1 + n) (close_first [] y (λ k. none_held k.0 k.1 k.2))
  where
    none_held : (before after : List ℕ) → [] ≡ before ++ (codes "-->" ++ after) → ⊥
    none_held before after e = omega (arith, ap length e, length-append before (codes "-->" ++ after), length-append (codes "-->") after)
close_first (c ∷ (d ∷ [])) y h =
    ap (λ b. cond b 0 (1 + first_place (begins_with (codes "-->")) (d ∷ (codes "-->" ++ y)))) (begins_no (codes "-->") (c ∷ (d ∷ (codes "-->" ++ y))) (λ e. let t : 45 ≡ 62 = ap (λ l. get_or l 2 0) e in omega (arith, t)))
    ∙ ap (λ n. 1 + n) (close_first (d ∷ []) y (λ k. h (c ∷ k.0, k.1, ap (λ l. c ∷ l) k.2)))
close_first (c ∷ (d ∷ (e ∷ s))) y h =
    ap (λ b. cond b 0 (1 + first_place (begins_with (codes "-->")) (d ∷ (e ∷ (s ++ (codes "-->" ++ y)))))) (begins_no (codes "-->") (c ∷ (d ∷ (e ∷ (s ++ (codes "-->" ++ y))))) (λ is. h ([], s, three is)))
    ∙ ap (λ n. 1 + n) (close_first (d ∷ (e ∷ s)) y (λ k. h (c ∷ k.0, k.1, ap (λ l. c ∷ l) k.2)))
    ∙ one_more (length (d ∷ (e ∷ s)))
  where
    three : take 3 (c ∷ (d ∷ (e ∷ (s ++ (codes "-->" ++ y))))) ≡ codes "-->" → c ∷ (d ∷ (e ∷ s)) ≡ codes "-->" ++ s
    three is = λ j. ap (λ l. get_or l 0 0) is j ∷ (ap (λ l. get_or l 1 0) is j ∷ (ap (λ l. get_or l 2 0) is j ∷ s))

-- a list that holds a part nowhere begins with it at no place
no_bang_end : (s : List ℕ) → (Holds s (codes "--!>") → ⊥) → has_bang_end s ≡ false
no_bang_end s h =
    let nowhere : find_where (begins_with (codes "--!>")) s 0 ≡ length s =
    find_none (begins_with (codes "--!>")) s 0 (omega arith) (λ k low l. begins_no (codes "--!>") (drop k s) (λ e. h (take k s, drop 4 (drop k s), sym (take-append-drop k s) ∙ ap (λ r. take k s ++ r) (sym (take-append-drop 4 (drop k s)) ∙ ap (λ r. r ++ drop 4 (drop k s)) e)))) in
    not_below (find_where (begins_with (codes "--!>")) s 0) (length s) (sym nowhere)

module _ (text s y : List ℕ) (i : ℕ) (front : drop i text ≡ codes "<!--" ++ (s ++ (codes "-->" ++ y))) (no_end : Holds s (codes "-->") → ⊥) (no_bang : Holds s (codes "--!>") → ⊥) (no_bracket : BeginsWith s (codes ">") → ⊥) (no_arrow : BeginsWith s (codes "->") → ⊥) where
  abbrev p : ℕ
  p = i + 4

  abbrev e : ℕ
  e = p + length s

  at_bang : drop (i + 1) text ≡ 33 ∷ (45 ∷ (45 ∷ (s ++ (codes "-->" ++ y))))
  at_bang = rest_past text i (i + 1) (60 ∷ []) (33 ∷ (45 ∷ (45 ∷ (s ++ (codes "-->" ++ y))))) refl front

  at_two : drop (i + 2) text ≡ 45 ∷ (45 ∷ (s ++ (codes "-->" ++ y)))
  at_two = rest_past text i (i + 2) (codes "<!") (45 ∷ (45 ∷ (s ++ (codes "-->" ++ y)))) refl front

  at_three : drop (i + 3) text ≡ 45 ∷ (s ++ (codes "-->" ++ y))
  at_three = rest_past text i (i + 3) (codes "<!-") (45 ∷ (s ++ (codes "-->" ++ y))) refl front

  at_text : drop p text ≡ s ++ (codes "-->" ++ y)
  at_text = rest_past text i p (codes "<!--") (s ++ (codes "-->" ++ y)) refl front

  at_close : drop e text ≡ codes "-->" ++ y
  at_close = rest_past text p e s (codes "-->" ++ y) refl at_text

  found : find_where (begins_with (codes "-->")) text p ≡ e
  found = ap (λ n. p + n) (ap (first_place (begins_with (codes "-->"))) at_text ∙ close_first s y no_end)

  first_no : (r : List ℕ) → r ≡ s → drop p text ≡ r ++ (codes "-->" ++ y) → (get_or text p 0 == 62) ≡ false
  first_no [] is h = ap (λ c. c == 62) (rest_byte text p 45 (codes "->" ++ y) h)
  first_no (c ∷ r) is h = ap (λ b. b == 62) (rest_byte text p c (r ++ (codes "-->" ++ y)) h) ∙ false_from_ne_true (c == 62) (λ k. no_bracket (r, sym is ∙ ap (λ b. b ∷ r) (eqb_eq c 62 k)))
    where
      eqb_eq : (a b : ℕ) → (a == b) ≡ true → a ≡ b
      eqb_eq a b h = grind (arith, nat_tests)

  arrow_no : (r : List ℕ) → r ≡ s → drop p text ≡ r ++ (codes "-->" ++ y) → ((get_or text p 0 == 45) && (get_or text (p + 1) 0 == 62)) ≡ false
  arrow_no [] is h =
      ap (λ c. (get_or text p 0 == 45) && (c == 62)) (rest_byte text (p + 1) 45 (codes ">" ++ y) (rest_past text p (p + 1) (45 ∷ []) (codes "->" ++ y) refl h)) ∙ and_false (get_or text p 0 == 45)
    where
      and_false : (b : Bool) → (b && false) ≡ false
      and_false true = refl
      and_false false = refl
  arrow_no (c ∷ []) is h =
      ap (λ d. (get_or text p 0 == 45) && (d == 62)) (rest_byte text (p + 1) 45 (codes "->" ++ y) (rest_past text p (p + 1) (c ∷ []) (codes "-->" ++ y) refl h)) ∙ and_false (get_or text p 0 == 45)
    where
      and_false : (b : Bool) → (b && false) ≡ false
      and_false true = refl
      and_false false = refl
  arrow_no (c ∷ (d ∷ r)) is h =
      false_from_ne_true ((get_or text p 0 == 45) && (get_or text (p + 1) 0 == 62))
      (λ k. no_arrow (r, sym is ∙ (λ j. two c d (rest_byte text p c (d ∷ (r ++ (codes "-->" ++ y))) h) (rest_byte text (p + 1) d (r ++ (codes "-->" ++ y)) (rest_past text p (p + 1) (c ∷ []) (d ∷ (r ++ (codes "-->" ++ y))) refl h)) k j ++ r)))
    where
      eq_left : (a b : ℕ) → ((a == 45) && (b == 62)) ≡ true → a ≡ 45
      eq_left a b h = grind (arith, nat_tests)

      eq_right : (a b : ℕ) → ((a == 45) && (b == 62)) ≡ true → b ≡ 62
      eq_right a b h = grind (arith, nat_tests)

      two : (c d : ℕ) → get_or text p 0 ≡ c → get_or text (p + 1) 0 ≡ d → ((get_or text p 0 == 45) && (get_or text (p + 1) 0 == 62)) ≡ true → c ∷ (d ∷ []) ≡ codes "->"
      two c d x z k = λ j. (sym x ∙ eq_left (get_or text p 0) (get_or text (p + 1) 0) k) j ∷ ((sym z ∙ eq_right (get_or text p 0) (get_or text (p + 1) 0) k) j ∷ [])

  slice_is : slice_range text p e ≡ s
  slice_is = rest_slice text p e s (codes "-->" ++ y) refl at_text

  is_comment : comment_at text p ≡ Gives (Comment p e (e + 3))
  is_comment =
      ap (λ k. cond (get_or text p 0 == 62) (Fails BadComment) (cond ((get_or text p 0 == 45) && (get_or text (p + 1) 0 == 62)) (Fails BadComment) (cond (leb (length text) k) (Fails BadComment) (cond (has_bang_end (slice_range text p k)) (Fails BadComment) (Gives (Comment p k (k + 3))))))) found
      ∙ pick_no (get_or text p 0 == 62) _ _ _ (first_no s refl at_text)
      (pick_no ((get_or text p 0 == 45) && (get_or text (p + 1) 0 == 62)) _ _ _ (arrow_no s refl at_text)
      (pick_no (leb (length text) e) _ _ _ (not_over (length text) e (below text e 45 (codes "->" ++ y) at_close))
      (pick_no (has_bang_end (slice_range text p e)) _ _ _ (ap has_bang_end slice_is ∙ no_bang_end s no_bang) refl)))
    where
      not_over : (a b : ℕ) → b < a → leb a b ≡ false
      not_over a b l = grind (arith, nat_tests)

  pub comment_back : (previous : List ℕ) → raw_end text previous i ≡ i → Begins text previous i (comment_tok i (e + 3) s)
  comment_back previous raw =
      let lt : get_or text i 0 ≡ 60 = rest_byte text i 60 (33 ∷ (45 ∷ (45 ∷ (s ++ (codes "-->" ++ y))))) front in
      let bang : get_or text (i + 1) 0 ≡ 33 = rest_byte text (i + 1) 33 (45 ∷ (45 ∷ (s ++ (codes "-->" ++ y)))) at_bang in
      let two : get_or text (i + 2) 0 ≡ 45 = rest_byte text (i + 2) 45 (45 ∷ (s ++ (codes "-->" ++ y))) at_two in
      let three : get_or text (i + 3) 0 ≡ 45 = rest_byte text (i + 3) 45 (s ++ (codes "-->" ++ y)) at_three in
      let declared : declaration_at text i ≡ Gives (Comment p e (e + 3)) = pick_yes ((get_or text (i + 2) 0 == 45) && (get_or text (i + 3) 0 == 45)) _ _ _ (λ j. eq-eqb (get_or text (i + 2) 0) 45 two j && eq-eqb (get_or text (i + 3) 0) 45 three j) is_comment in
      let is : other_at text i ≡ Gives (Comment p e (e + 3)) =
      pick_no ((get_or text i 0 == 60) && (get_or text (i + 1) 0 == 47)) _ _ _ (not_slash (get_or text i 0) (get_or text (i + 1) 0) bang)
      (pick_yes ((get_or text i 0 == 60) && (get_or text (i + 1) 0 == 33)) _ _ _ (λ j. eq-eqb (get_or text i 0) 60 lt j && eq-eqb (get_or text (i + 1) 0) 33 bang j) declared) in (
        Comment p e (e + 3),
        other_step text previous i (Gives (Comment p e (e + 3))) (below text i 60 (33 ∷ (45 ∷ (45 ∷ (s ++ (codes "-->" ++ y))))) front) raw (no_letter (get_or text i 0) (get_or text (i + 1) 0) (ap is_letter bang)) (sym is),
        ap (λ z. comment_tok i (e + 3) z) (sym slice_is),
      )
    where
      not_slash : (a b : ℕ) → b ≡ 33 → ((a == 60) && (b == 47)) ≡ false
      not_slash a b h = grind (arith, nat_tests)

-- a text outside raw text: no `<` stands in it, and after it markup begins, or nothing
abbrev pub IsNext : List ℕ → Type 0
IsNext y = (y ≡ []) ⊎ (opens y ≡ true)

opens_first : (s y : List ℕ) → ((k : ℕ) → k < length s → get_or s k 0 ≡ 60 → ⊥) → IsNext y → first_place opens (s ++ y) ≡ length s
opens_first [] y h (inl e) = ap (first_place opens) e
opens_first [] [] h (inr o) = refl
opens_first [] (c ∷ y) h (inr o) = ap (λ b. cond b 0 (1 + first_place opens y)) o
opens_first (c ∷ s) y h next =
    ap (λ b. cond (b && is_opener (get_or (c ∷ (s ++ y)) 1 0)) 0 (1 + first_place opens (s ++ y))) (false_from_ne_true (c == 60) (λ e. h 0 (omega arith) (eqb_eq c 60 e)))
    ∙ ap (λ n. 1 + n) (opens_first s y (λ k l. h (suc k) (omega arith)) next)
    ∙ one_more (length s)
  where
    eqb_eq : (a b : ℕ) → (a == b) ≡ true → a ≡ b
    eqb_eq a b h = grind (arith, nat_tests)

pub text_back : (text : List ℕ) (c : ℕ) (s y : List ℕ) (i : ℕ) → drop i text ≡ (c ∷ s) ++ y → ((k : ℕ) → k < length (c ∷ s) → get_or (c ∷ s) k 0 ≡ 60 → ⊥) → IsNext y → (previous : List ℕ) → raw_end text previous i ≡ i → Begins text previous i (text_tok i (i + length (c ∷ s)) (c ∷ s) true)
text_back text c s y i front no_lt next previous raw =
    let first : get_or text i 0 ≡ c = rest_byte text i c (s ++ y) front in
    let not_lt : (get_or text i 0 == 60) ≡ false = ap (λ b. b == 60) first ∙ false_from_ne_true (c == 60) (λ e. no_lt 0 (omega arith) (eqb_eq c 60 e)) in
    let to : find_where opens text i ≡ i + length (c ∷ s) = ap (λ n. i + n) (ap (first_place opens) front ∙ opens_first (c ∷ s) y no_lt next) in
    let is : other_at text i ≡ Gives (Text (i + length (c ∷ s)) true) =
    pick_no ((get_or text i 0 == 60) && (get_or text (i + 1) 0 == 47)) _ _ _ (neither _ (get_or text (i + 1) 0 == 47) not_lt)
    (pick_no ((get_or text i 0 == 60) && (get_or text (i + 1) 0 == 33)) _ _ _ (neither _ (get_or text (i + 1) 0 == 33) not_lt)
    (pick_no ((get_or text i 0 == 60) && (get_or text (i + 1) 0 == 63)) _ _ _ (neither _ (get_or text (i + 1) 0 == 63) not_lt) (ap (λ n. Gives (Text n true)) to))) in (
      Text (i + length (c ∷ s)) true,
      other_step text previous i (Gives (Text (i + length (c ∷ s)) true)) (below text i c (s ++ y) front) raw (neither _ (is_letter (get_or text (i + 1) 0)) not_lt) (sym is),
      ap (λ z. text_tok i (i + length (c ∷ s)) z true) (sym (rest_slice text i (i + length (c ∷ s)) (c ∷ s) y refl front)),
    )
  where
    eqb_eq : (a b : ℕ) → (a == b) ≡ true → a ≡ b
    eqb_eq a b h = grind (arith, nat_tests)

    neither : (a b : Bool) → a ≡ false → (a && b) ≡ false
    neither true b h = cc
    neither false b h = refl

-- raw text: nothing in it begins the end tag of its element, and after it that end tag stands
pub raw_back : (text : List ℕ) (c : ℕ) (s y : List ℕ) (i : ℕ) (previous : List ℕ) → drop i text ≡ (c ∷ s) ++ y → is_raw previous ≡ true → first_place (closes previous) ((c ∷ s) ++ y) ≡ length (c ∷ s)
    → Begins text previous i (text_tok i (i + length (c ∷ s)) (c ∷ s) (is_escapable previous))
raw_back text c s y i previous front raw found =
    let to : raw_end text previous i ≡ i + length (c ∷ s) = ap (λ b. cond b (find_where (closes previous) text i) i) raw ∙ ap (λ n. i + n) (ap (first_place (closes previous)) front ∙ found) in (
      Text (i + length (c ∷ s)) (is_escapable previous),
      (
        below text i c (s ++ y) front,
        subst (λ n. MatchBool (ltb i n) (Gives (Text (i + length (c ∷ s)) (is_escapable previous)) ≡ Gives (Text n (is_escapable previous))) (MarkupAt text i (Gives (Text (i + length (c ∷ s)) (is_escapable previous))))) (sym to)
            (subst (λ b. MatchBool b (Gives (Text (i + length (c ∷ s)) (is_escapable previous)) ≡ Gives (Text (i + length (c ∷ s)) (is_escapable previous))) (MarkupAt text i (Gives (Text (i + length (c ∷ s)) (is_escapable previous))))) (sym (is_below i (i + length (c ∷ s)) (omega arith))) refl),
      ),
      ap (λ z. text_tok i (i + length (c ∷ s)) z (is_escapable previous)) (sym (rest_slice text i (i + length (c ∷ s)) (c ∷ s) y refl front)),
    )

-- directly before its end tag the raw text is over
pub raw_over : (text : List ℕ) (i : ℕ) (previous : List ℕ) → is_raw previous ≡ true → i < length text → closes previous (drop i text) ≡ true → raw_end text previous i ≡ i
raw_over text i previous raw l h = ap (λ b. cond b (find_where (closes previous) text i) i) raw ∙ find_here (closes previous) text i l h

-- what begins an end tag begins it in each longer list
abbrev IsEndTag : List ℕ → List ℕ → Type 0
IsEndTag name s = (get_or s 0 0 ≡ 60) × (get_or s 1 0 ≡ 47) × (2 + length name < length s) × (str_eq_ignore_ascii_case (slice_range s 2 (2 + length name)) name ≡ true) × ((is_gap (get_or s (2 + length name) 0) || (get_or s (2 + length name) 0 == 62)) ≡ true)

eqb_is : (a b : ℕ) → (a == b) ≡ true → a ≡ b
eqb_is a b h = grind (arith, nat_tests)

is_leb : (a b : ℕ) → a ≤ b → leb a b ≡ true
is_leb a b l = grind (arith, nat_tests)

past_some : (b : ℕ) → (is_gap b || (b == 62)) ≡ true → 0 < b
past_some b h = grind (arith, nat_tests)

is_end_tag : (name s : List ℕ) → closes name s ≡ true → IsEndTag name s
is_end_tag name s h =
    let gap = is_gap (get_or s (2 + length name) 0) || (get_or s (2 + length name) 0 == 62) in
    let letters = has_letters s 2 name in
    let c = and_parts (((get_or s 0 0 == 60) && (get_or s 1 0 == 47)) && letters) gap h in
    let b = and_parts ((get_or s 0 0 == 60) && (get_or s 1 0 == 47)) letters c.0 in
    let a = and_parts (get_or s 0 0 == 60) (get_or s 1 0 == 47) b.0 in
    let d = and_parts (leb (2 + length name) (length s)) (str_eq_ignore_ascii_case (slice_range s 2 (2 + length name)) name) b.1 in
    (eqb_is (get_or s 0 0) 60 a.0, eqb_is (get_or s 1 0) 47 a.1, in_text s (2 + length name) (past_some (get_or s (2 + length name) 0) c.1), d.1, c.1)

end_tag_is : (name s : List ℕ) → IsEndTag name s → closes name s ≡ true
end_tag_is name s h =
    λ j. (((eq-eqb (get_or s 0 0) 60 h.0 j && eq-eqb (get_or s 1 0) 47 h.1 j) && (is_leb (2 + length name) (length s) (let l : 2 + length name < length s = h.2 in omega arith) j && h.3 j)) && h.4 j)

slice_front : (s r : List ℕ) (n : ℕ) → 2 + n ≤ length s → slice_range (s ++ r) 2 (2 + n) ≡ slice_range s 2 (2 + n)
slice_front s r n l = ap (take (2 + n - 2)) (drop-append-le 2 s r (omega arith)) ∙ take-append-le (2 + n - 2) (drop 2 s) r (omega (arith, length-drop 2 s))

pub closes_more : (name s r : List ℕ) → closes name s ≡ true → closes name (s ++ r) ≡ true
closes_more name s r h =
    let e = is_end_tag name s h in
    let l : 2 + length name < length s = e.2 in
    end_tag_is name (s ++ r)
    (get_or-append s r 0 0 (omega arith) ∙ e.0, get_or-append s r 0 1 (omega arith) ∙ e.1, omega (arith, l, length-append s r), ap (λ z. str_eq_ignore_ascii_case z name) (slice_front s r (length name) (omega arith)) ∙ e.3, ap (λ b. is_gap b || (b == 62)) (get_or-append s r 0 (2 + length name) l) ∙ e.4)

-- letters are no `<`
lower_lt : (b c : ℕ) → is_letter c ≡ true → to_ascii_lowercase 60 ≡ to_ascii_lowercase c → ⊥
lower_lt b c h e = grind (arith, nat_tests)

not_gap : (is_gap 60 || (60 == 62)) ≡ true → ⊥
not_gap e = cc

same_lower : (a b : List ℕ) → str_eq_ignore_ascii_case a b ≡ true → str_to_ascii_lowercase a ≡ str_to_ascii_lowercase b
same_lower a b h = (bytes_eq-Decides (str_to_ascii_lowercase a) (str_to_ascii_lowercase b)).0 h

-- an end tag that begins in a text and goes on after it does not meet the `<` there
pub closes_less : (name : List ℕ) (c : ℕ) (s r : List ℕ) → AllPass is_letter name → closes name ((c ∷ s) ++ (60 ∷ r)) ≡ true → closes name (c ∷ s) ≡ true
closes_less name c s r letters h =
    let t = (c ∷ s) ++ (60 ∷ r) in
    let e = is_end_tag name t h in
    let n = length (c ∷ s) in
    let seam : get_or t n 0 ≡ 60 = get_or-append_seam (c ∷ s) 60 r 0 in
    elim (cases_lt (2 + length name) n) [
      | inl long ↦
          end_tag_is name (c ∷ s)
          (sym (get_or-append (c ∷ s) (60 ∷ r) 0 0 (omega arith)) ∙ e.0, sym (get_or-append (c ∷ s) (60 ∷ r) 0 1 (omega arith)) ∙ e.1, long, ap (λ z. str_eq_ignore_ascii_case z name) (sym (slice_front (c ∷ s) (60 ∷ r) (length name) (omega arith))) ∙ e.3, ap (λ b. is_gap b || (b == 62)) (sym (get_or-append (c ∷ s) (60 ∷ r) 0 (2 + length name) long)) ∙ e.4)
      | inr short ↦ absurd (crosses t n e seam (omega arith) (omega arith))
    ]
  where
    crosses : (t : List ℕ) (n : ℕ) → IsEndTag name t → get_or t n 0 ≡ 60 → 1 ≤ n → n ≤ 2 + length name → ⊥
    crosses t n e seam low high =
        elim (cases_lt n 2) [
          | inl one ↦ (let k : n ≡ 1 = omega arith in let f : 60 ≡ 47 = sym seam ∙ ap (λ m. get_or t m 0) k ∙ e.1 in omega (arith, f))
          | inr two ↦ elim (cases_lt n (2 + length name)) [
            | inl inside ↦
                let k = n - 2 in
                let within : k < length (slice_range t 2 (2 + length name)) = omega (arith, e.2, length-take (2 + length name - 2) (drop 2 t), length-drop 2 t) in
                let byte : get_or (slice_range t 2 (2 + length name)) k 0 ≡ 60 = get_or-take (2 + length name - 2) (drop 2 t) k 0 (omega arith) ∙ get_or-drop 2 t k 0 ∙ ap (λ m. get_or t m 0) (let q : 2 + k ≡ n = omega arith in q) ∙ seam in
                lower_lt 0 (get_or name k 0) (letters k 0 (omega arith))
                (ap to_ascii_lowercase (sym byte) ∙ sym (get_or-map to_ascii_lowercase (slice_range t 2 (2 + length name)) k 0 0 within) ∙ ap (λ z. get_or z k 0) (same_lower (slice_range t 2 (2 + length name)) name e.3) ∙ get_or-map to_ascii_lowercase name k 0 0 (omega arith))
            | inr over ↦ (let k : 2 + length name ≡ n = omega arith in not_gap (sym (ap (λ b. is_gap b || (b == 62)) (ap (λ m. get_or t m 0) k ∙ seam)) ∙ e.4))
          ]
        ]

-- a text in which no end tag of the name begins, and then one
abbrev pub NoEnd : List ℕ → List ℕ → Type 0
NoEnd name [] = Unit {0}
NoEnd name (c ∷ s) = (closes name (c ∷ s) ≡ false) × NoEnd name s

pub raw_first : (name s y : List ℕ) → AllPass is_letter name → NoEnd name s → closes name (codes "</" ++ (name ++ 62 ∷ y)) ≡ true → first_place (closes name) (s ++ (codes "</" ++ (name ++ 62 ∷ y))) ≡ length s
raw_first name [] y letters h end = ap (λ b. cond b 0 (1 + first_place (closes name) (47 ∷ (name ++ 62 ∷ y)))) end
raw_first name (c ∷ s) y letters h end =
    ap (λ b. cond b 0 (1 + first_place (closes name) (s ++ (codes "</" ++ (name ++ 62 ∷ y))))) (false_from_ne_true (closes name (c ∷ (s ++ (codes "</" ++ (name ++ 62 ∷ y))))) (λ e. both_ways (closes_less name c s (47 ∷ (name ++ 62 ∷ y)) letters e) h.0))
    ∙ ap (λ n. 1 + n) (raw_first name s y letters h.1 end)
    ∙ one_more (length s)
  where
    both_ways : {b : Bool} → b ≡ true → b ≡ false → ⊥
    both_ways h k = cc

-- an end tag closes raw text of its name
pub closes_itself : (name y : List ℕ) → closes name (codes "</" ++ (name ++ 62 ∷ y)) ≡ true
closes_itself name y =
    let s = codes "</" ++ (name ++ 62 ∷ y) in
    let slice : slice_range s 2 (2 + length name) ≡ name = ap (λ n. take n (name ++ 62 ∷ y)) (omega arith) ∙ take-append_seam name (62 ∷ y) in
    let last : get_or s (2 + length name) 0 ≡ 62 = ap (λ n. get_or s n 0) (let q : 2 + length name ≡ length (60 ∷ (47 ∷ name)) = omega arith in q) ∙ get_or-append_seam (60 ∷ (47 ∷ name)) 62 y 0 in
    end_tag_is name s
    (refl, refl, omega (arith, length-append (codes "</") (name ++ 62 ∷ y), length-append name (62 ∷ y)), ap (λ z. str_eq_ignore_ascii_case z name) slice ∙ (bytes_eq-Decides (str_to_ascii_lowercase name) (str_to_ascii_lowercase name)).1 refl, ap (λ b. is_gap b || (b == 62)) last)

-- and what the page says of raw text
pub no_end : (name text : List ℕ) (n : ℕ) → n ≤ length text → ((k : ℕ) → k < n → closes name (drop k text) ≡ false) → NoEnd name (take n text)
no_end name text n within h = by_list name (take n text) (λ k l. false_from_ne_true _ (λ e. both_ways (subst (λ z. closes name z ≡ true) (sym (front text n k l)) (closes_more name (drop k (take n text)) (drop n text) e)) (h k (omega (arith, l, length-take n text)))))
  where
    both_ways : {b : Bool} → b ≡ true → b ≡ false → ⊥
    both_ways h k = cc

    front : (text : List ℕ) (n k : ℕ) → k < length (take n text) → drop k text ≡ drop k (take n text) ++ drop n text
    front text n k l = ap (drop k) (sym (take-append-drop n text)) ∙ drop-append-le k (take n text) (drop n text) (omega arith)

    by_list : (name s : List ℕ) → ((k : ℕ) → k < length s → closes name (drop k s) ≡ false) → NoEnd name s
    by_list name [] h = tt
    by_list name (c ∷ s) h = (h 0 (omega arith), by_list name s (λ k l. h (suc k) (omega arith)))
