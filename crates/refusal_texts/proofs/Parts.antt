-- The characters before a place and from it on, and how many of them stand on its line.
use Rattle.std.proofs.Common.{◌≡◌, ℕ, ◌-◌, ◌<◌, ◌≤◌, Bool, not, List, [], ◌∷◌, ◌++◌, length, take, drop, map, encode_utf8, encode_utf8_all, sym, ◌∙◌, ap, arith, append_assoc, length-drop}
use Rattle.std.specs.Prelude.{slice_range}
use Rattle.std.specs.List.{after_last, suffix_len}
use Rattle.std.specs.Str.{chars}
use Rattle.std.proofs.lemmas.List.{take_rest, drop-drop, map-append, append-nil}
use Rattle.std.proofs.lemmas.List.Sums.{suffix_len-le-length}
use Rattle.std.proofs.lemmas.Str.{encodes-append}
use Rattle.refusal_texts.specs.Places.{outer, before, after}
use Rattle.refusal_texts.specs.Shown.{shown, last}

module _ (p : ℕ → Bool) (cs : List ℕ) where
  abbrev run : ℕ
  run = suffix_len (λ x. not (p x)) cs

  line_length : length (after_last p cs) ≡ run
  line_length = length-drop (length cs - run) cs ∙ omega (arith, suffix_len-le-length (λ x. not (p x)) cs)

  pub line_fits : length (after_last p cs) ≤ length cs
  line_fits = omega (arith, line_length, suffix_len-le-length (λ x. not (p x)) cs)

  -- of a longer line the last n characters, and of all of them so many
  pub last_far : (n line all : ℕ) → line ≡ length (after_last p cs) → all ≡ length cs → n < line → drop (all - n) cs ≡ last n (after_last p cs)
  last_far n line all e f far =
      sym (drop-drop (length (after_last p cs) - n) (length cs - run) cs ∙ ap (λ k. drop k cs) (omega (arith, line_length, line_fits)))

  -- a shorter line is shown whole
  pub last_near : (n line all : ℕ) → line ≡ length (after_last p cs) → all ≡ length cs → line ≤ n → drop (all - line) cs ≡ last n (after_last p cs)
  last_near n line all e f near =
      ap (λ k. drop k cs) (omega (arith, line_length))
      ∙ ap (λ k. drop k (after_last p cs)) (let none : 0 ≡ length (after_last p cs) - n = omega arith in none)

pub before_part : (text part : List ℕ) (place at : ℕ) → part ≡ slice_range text 0 at → take at text ≡ take (outer text place) text → chars part ≡ before text place
before_part text part place at e f = ap chars (e ∙ ap (λ n. take n text) (let whole : at - 0 ≡ at = omega arith in whole) ∙ f)

pub after_part : (text part : List ℕ) (place at : ℕ) → part ≡ slice_range text at (length text) → drop at text ≡ drop (outer text place) text → chars part ≡ after text place
after_part text part place at e f = ap chars (e ∙ take_rest text at ∙ f)

-- one more character is written
pub written_more : (old mid new ys : List ℕ) (c d : ℕ) → mid ≡ old ++ encode_utf8_all (map shown ys) → d ≡ shown c → new ≡ mid ++ encode_utf8 d → new ≡ old ++ encode_utf8_all (map shown (ys ++ c ∷ []))
written_more old mid new ys c d was is pushed =
    pushed
    ∙ ap (λ x. x ++ encode_utf8 d) was
    ∙ append_assoc old (encode_utf8_all (map shown ys)) (encode_utf8 d)
    ∙ ap (λ x. old ++ (encode_utf8_all (map shown ys) ++ encode_utf8 x)) is
    ∙ ap (λ x. old ++ (encode_utf8_all (map shown ys) ++ x)) (sym (append-nil (encode_utf8 (shown c))))
    ∙ ap (λ x. old ++ x) (sym (encodes-append (map shown ys) (shown c ∷ [])))
    ∙ ap (λ x. old ++ encode_utf8_all x) (sym (map-append shown ys (c ∷ [])))
