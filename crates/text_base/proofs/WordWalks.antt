-- A walk over the words of a text, from one to the next, and the words of its characters.
use Rattle.std.proofs.Common.{◌≡◌, ℕ, ◌-◌, ◌<◌, Bool, true, false, not, List, [], ◌∷◌, ◌||◌, length, map, take, drop, get_or, refl, sym, ◌∙◌, ap, arith, encode_utf8_all}
use Rattle.std.specs.Str.{chars, IsUtf8, bytes_eq}
use Rattle.std.proofs.lemmas.Bool.{not-true, not-false}
use Rattle.std.proofs.lemmas.Str.{encodes-chars}
use Rattle.text_base.specs.Strings.{is_among}
use Rattle.text_base.specs.Text.{run_end, IsNarrow}
use Rattle.text_base.specs.Words.{words_by}
use Rattle.text_base.proofs.ByteParts.{same_bytes}
use Rattle.text_base.proofs.Runs.{run_end_stops, run_end_moves}
use Rattle.text_base.proofs.WordLemmas.{words_on, word_at, words_bytes}

among_bytes : (v : List ℕ) (ws : List (List ℕ)) → is_among (encode_utf8_all v) (map encode_utf8_all ws) ≡ is_among v ws
among_bytes v [] = refl
among_bytes v (w ∷ ws) = ap (λ b. b || is_among (encode_utf8_all v) (map encode_utf8_all ws)) (same_bytes w v) ∙ ap (λ b. bytes_eq w v || b) (among_bytes v ws)

module _ (p : ℕ → Bool) where
  -- a text is one of the words where its characters are one of those of the characters
  pub among_chars : IsNarrow p → (x v : List ℕ) → IsUtf8 x → IsUtf8 v → is_among v (words_by p x) ≡ is_among (chars v) (words_by p (chars x))
  among_chars narrow x v utf8 other =
      ap (λ t. is_among t (words_by p x)) (sym (encodes-chars v other))
      ∙ ap (λ t. is_among (encode_utf8_all (chars v)) (words_by p t)) (sym (encodes-chars x utf8))
      ∙ ap (is_among (encode_utf8_all (chars v))) (words_bytes p narrow (chars x))
      ∙ among_bytes (chars v) (words_by p (chars x))

  module _ (text wanted : List ℕ) where
    -- behind a run that passes stands nothing that passes
    pub behind_space : (i j : ℕ) → j ≡ run_end p text i → j < length text → p (get_or text j 0) ≡ false
    behind_space i j e l = ap (λ n. p (get_or text n 0)) e ∙ run_end_stops p text i (omega arith)

    pub from_start : (j : ℕ) → j ≡ run_end p text 0 → is_among wanted (words_by p (drop j text)) ≡ is_among wanted (words_by p text)
    from_start j e = ap (is_among wanted) (sym (words_on p text 0 j e))

    module _ (at end : ℕ) (within : at < length text) (word : p (get_or text at 0) ≡ false) (e : end ≡ run_end (λ b. not (p b)) text at) where
      ends_later : at < end
      ends_later = run_end_moves (λ b. not (p b)) text at end e within (ap not word)

      first_word : is_among wanted (words_by p (drop at text)) ≡ (bytes_eq (take (end - at) (drop at text)) wanted || is_among wanted (words_by p (drop end text)))
      first_word =
          ap (is_among wanted) (word_at p (λ b. not (p b)) text at end (λ b. not-true (p b)) (λ b. not-false (p b)) ends_later (omega arith) e)

      module _ (r : Bool) (same : r ≡ bytes_eq (take (end - at) (drop at text)) wanted) where
        pub word_found : r ≡ true → true ≡ is_among wanted (words_by p (drop at text))
        word_found h = ap (λ b. b || is_among wanted (words_by p (drop end text))) (sym h ∙ same) ∙ sym first_word

        pub word_passed : (next : ℕ) → r ≡ false → next ≡ run_end p text end → is_among wanted (words_by p (drop next text)) ≡ is_among wanted (words_by p (drop at text))
        word_passed next h f =
            ap (is_among wanted) (sym (words_on p text end next f))
            ∙ ap (λ b. b || is_among wanted (words_by p (drop end text))) (sym h ∙ same) ∙ sym first_word
