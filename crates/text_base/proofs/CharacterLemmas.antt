-- Steps over the characters of a text, and its parts by positions.
use Rattle.std.proofs.Common.{◌≡◌, ℕ, zero, suc, ◌+◌, ◌-◌, ◌<◌, ◌≤◌, max, Bool, true, false, cond, List, [], ◌∷◌, ◌++◌, length, take, drop, IsUtf8, encode_utf8, refl, sym, ◌∙◌, ap, arith}
use Rattle.std.specs.Char.{len_utf8}
use Rattle.std.specs.Str.{chars}
use Rattle.std.proofs.lemmas.List.{take-append-drop, append_cancel_right, drop-drop, drop_all}
use Rattle.std.proofs.lemmas.Str.{chars-nil, chars-append, chars_past_char, drop_past_char, IsUtf8-take, IsUtf8-drop, IsCharBoundary-past_char}
use Rattle.text_base.specs.Text.{IsPlace}
use Rattle.text_base.specs.Positions.{at_positions}
use Rattle.text_base.proofs.Boundaries.{place, boundary}

module _ (text rest : List ℕ) (i c : ℕ) (utf8 : IsUtf8 text) (at : IsPlace text i) (is : drop i text ≡ encode_utf8 c ++ rest) where
  after : IsUtf8 (drop i text)
  after = IsUtf8-drop text i utf8 (boundary text i at)

  -- the place after the character that stands at i
  pub past_char : IsPlace text (i + len_utf8 c)
  past_char = place text _ (IsCharBoundary-past_char text rest i c at.within after is)

  -- and the characters from there on
  pub chars_after : chars (drop (i + len_utf8 c) text) ≡ drop 1 (chars (drop i text))
  chars_after = ap chars (drop_past_char text rest i c is) ∙ sym (ap (drop 1) (chars_past_char (drop i text) rest c after is))

-- a text cut at a place has its characters cut there
pub chars_cut : (text : List ℕ) (i n : ℕ) → IsUtf8 text → IsPlace text i → chars (drop i text) ≡ drop n (chars text) → chars (take i text) ≡ take n (chars text)
chars_cut text i n utf8 at e =
    append_cancel_right (chars (take i text)) (take n (chars text)) (drop n (chars text))
    (ap (λ s. chars (take i text) ++ s) (sym e)
    ∙ sym (chars-append (take i text) (drop i text) (IsUtf8-take text i utf8 (boundary text i at)))
    ∙ ap chars (take-append-drop i text)
    ∙ sym (take-append-drop n (chars text)))

take_none : (n : ℕ) → take n [] ≡ let none : List ℕ = [] in none
take_none zero = refl
take_none (suc n) = refl

drop_none : (n : ℕ) → drop n [] ≡ let none : List ℕ = [] in none
drop_none zero = refl
drop_none (suc n) = refl

-- the positions that pass are those from the one after lo on
pub at_from : (test : ℕ → Bool) (lo : ℕ) → ((q : ℕ) → q < lo → test (q + 1) ≡ false) → ((q : ℕ) → lo ≤ q → test (q + 1) ≡ true)
    → (i m : ℕ) → m ≡ lo - i → (cs : List ℕ) → at_positions test (i + 1) cs ≡ drop m cs
at_from test lo not_yet wanted i m e [] = sym (drop_none m)
at_from test lo not_yet wanted i zero e (c ∷ cs) =
    ap (λ b. cond b (c ∷ at_positions test (i + 1 + 1) cs) (at_positions test (i + 1 + 1) cs)) (wanted i (omega arith))
    ∙ ap (λ s. c ∷ s) (at_from test lo not_yet wanted (i + 1) zero (omega arith) cs)
at_from test lo not_yet wanted i (suc m) e (c ∷ cs) =
    ap (λ b. cond b (c ∷ at_positions test (i + 1 + 1) cs) (at_positions test (i + 1 + 1) cs)) (not_yet i (omega arith))
    ∙ at_from test lo not_yet wanted (i + 1) m (omega arith) cs

-- or of those the ones up to hi
pub at_span : (test : ℕ → Bool) (lo hi : ℕ) → ((q : ℕ) → q < lo → test (q + 1) ≡ false) → ((q : ℕ) → lo ≤ q → q < hi → test (q + 1) ≡ true) → ((q : ℕ) → hi ≤ q → test (q + 1) ≡ false)
    → (i m n : ℕ) → m ≡ lo - i → n ≡ hi - max lo i → (cs : List ℕ) → at_positions test (i + 1) cs ≡ take n (drop m cs)
at_span test lo hi not_yet wanted over i m n e f [] = sym (ap (take n) (drop_none m) ∙ take_none n)
at_span test lo hi not_yet wanted over i zero (suc n) e f (c ∷ cs) =
    ap (λ b. cond b (c ∷ at_positions test (i + 1 + 1) cs) (at_positions test (i + 1 + 1) cs)) (wanted i (omega arith) (omega arith))
    ∙ ap (λ s. c ∷ s) (at_span test lo hi not_yet wanted over (i + 1) zero n (omega arith) (omega arith) cs)
at_span test lo hi not_yet wanted over i zero zero e f (c ∷ cs) =
    ap (λ b. cond b (c ∷ at_positions test (i + 1 + 1) cs) (at_positions test (i + 1 + 1) cs)) (over i (omega arith))
    ∙ at_span test lo hi not_yet wanted over (i + 1) zero zero (omega arith) (omega arith) cs
at_span test lo hi not_yet wanted over i (suc m) n e f (c ∷ cs) =
    ap (λ b. cond b (c ∷ at_positions test (i + 1 + 1) cs) (at_positions test (i + 1 + 1) cs)) (not_yet i (omega arith))
    ∙ at_span test lo hi not_yet wanted over (i + 1) m n (omega arith) (omega arith) cs

-- one character less is left
pub one_left : (n : ℕ) (cs ds : List ℕ) → 0 < n → ds ≡ drop 1 cs → drop (n - 1) ds ≡ drop n cs
one_left n cs ds some e = ap (drop (n - 1)) e ∙ drop-drop (n - 1) 1 cs ∙ ap (λ m. drop m cs) (omega arith)

-- at the end of the text none is
pub none_left : (text : List ℕ) (at left n : ℕ) → length text ≤ at → drop left (chars (drop at text)) ≡ drop n (chars text) → chars (drop at text) ≡ drop n (chars text)
none_left text at left n end e =
    let none : chars (drop at text) ≡ [] = ap chars (drop_all at text end) ∙ chars-nil in
    none ∙ sym (drop_none left) ∙ ap (drop left) (sym none) ∙ e
