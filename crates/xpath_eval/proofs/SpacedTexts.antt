-- The characters of a word between spaces, and the words of the characters of a text.
use Rattle.std.proofs.Common.{◌≡◌, ℕ, List, [], ◌∷◌, ◌++◌, refl, sym, ◌∙◌, ap, subst, arith, codes}
use Rattle.std.specs.List.{join_with_byte}
use Rattle.std.specs.Str.{chars, IsUtf8}
use Rattle.std.proofs.lemmas.Str.{chars-append, chars-IsAscii, IsUtf8-from_ascii}
use Rattle.std.proofs.lemmas.Str.Ascii.{IsAscii-cons, IsAscii-nil}
use Rattle.text_base.specs.Strings.{is_among, contains}
use Rattle.text_base.specs.Text.{is_space4}
use Rattle.text_base.specs.Words.{words_by}
use Rattle.text_base.proofs.SpacedWords as base
use Rattle.text_base.proofs.WordLemmas.{space4_ascii}
use Rattle.text_base.proofs.WordWalks.{among_chars}
use Rattle.xpath_values.specs.Strings.{words, normalized}
use Rattle.xpath_values.proofs.Words.{same_words, words_runs}
use Rattle.xpath_eval.specs.inner.Words.{IsWord, spaced}

pub space_chars : chars (codes " ") ≡ 32 ∷ []
unfolding chars
space_chars = refl

one_chars : chars (32 ∷ []) ≡ 32 ∷ []
one_chars = chars-IsAscii (32 ∷ []) (IsAscii-cons 32 [] (omega arith) IsAscii-nil)

-- the characters of a word between spaces
pub spaced_chars : (text word : List ℕ) → IsUtf8 word → text ≡ 32 ∷ (word ++ 32 ∷ []) → chars text ≡ spaced (chars word)
spaced_chars text word utf8 is =
    ap chars is ∙ chars-append (32 ∷ []) (word ++ 32 ∷ []) (IsUtf8-from_ascii (32 ∷ []) (IsAscii-cons 32 [] (omega arith) IsAscii-nil))
    ∙ ap (λ v. v ++ chars (word ++ 32 ∷ [])) one_chars
    ∙ ap (λ v. 32 ∷ v) (chars-append word (32 ∷ []) utf8 ∙ ap (λ v. chars word ++ v) one_chars)

pub word_chars : (x v : List ℕ) → IsUtf8 x → IsUtf8 v → is_among v (words_by is_space4 x) ≡ is_among (chars v) (words (chars x))
word_chars x v utf8 other = among_chars is_space4 space4_ascii x v utf8 other ∙ ap (is_among (chars v)) (same_words (chars x))

-- v is one of the words of x
pub word_between : (x v : List ℕ) → IsWord v → contains (spaced (normalized x)) (spaced v) ≡ is_among v (words x)
word_between x v is =
    let Holds : List (List ℕ) → Type 0 = λ ws. contains (spaced (join_with_byte 32 ws)) (spaced v) ≡ is_among v ws in
    subst Holds (sym (words_runs x)) (base.word_between is_space4 refl x v is.whole is.some)
