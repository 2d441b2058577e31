-- What the words say is what they spell.
use Rattle.std.proofs.Common.{◌≡◌, refl, ℕ, Bool, true, false, List, [], ◌∷◌, ap, ◌∙◌, codes, Option, Some, None, subst}
use Rattle.std.specs.Prelude.{if◌then◌else◌}
use Rattle.std.specs.Str.{bytes_eq}
use Rattle.std.proofs.lemmas.Slice.Eq.{bytes_eq-Decides}
use Rattle.css_selectors.specs.declared.selector.Dialect.{Dialect}
use Rattle.extract_call.specs.Words.{dialect_of, dialect_word}
use Rattle.extract_call.proofs.Forms.{dialect_read, word_dialect}
use Rattle.why_call.specs.Laws.{WordsLaw}
use Rattle.why_call.specs.Words.{Question, css, xpath, script, page, IsWords, read, read_three}

two_said : (w n : List ℕ) (q : Question) → read (w ∷ n ∷ []) ≡ Some q → IsWords q (w ∷ n ∷ [])
two_said w n q h = by_tests (bytes_eq w (codes "xpath")) refl (bytes_eq w (codes "page")) refl h
  where
    by_tests : (a : Bool) → bytes_eq w (codes "xpath") ≡ a → (b : Bool) → bytes_eq w (codes "page") ≡ b
        → (if a then Some (xpath n) else (if b then Some (page n) else None)) ≡ Some q → IsWords q (w ∷ n ∷ [])
    by_tests true p b r e =
        let same : xpath n ≡ q = (let x = e in cc) in
        subst (λ x. IsWords x (w ∷ n ∷ [])) same (ap (λ v. v ∷ n ∷ []) ((bytes_eq-Decides w (codes "xpath")).0 p))
    by_tests false p true r e =
        let same : page n ≡ q = (let x = e in cc) in
        subst (λ x. IsWords x (w ∷ n ∷ [])) same (ap (λ v. v ∷ n ∷ []) ((bytes_eq-Decides w (codes "page")).0 r))
    by_tests false p false r e = let x = e in absurd (cc)

three_said : (w d s : List ℕ) (q : Question) → read (w ∷ d ∷ s ∷ []) ≡ Some q → IsWords q (w ∷ d ∷ s ∷ [])
three_said w d s q h = by_dialect (dialect_of d) refl h
  where
    by_tests : (x : Dialect) → dialect_of d ≡ Some x → (a : Bool) → bytes_eq w (codes "css") ≡ a → (b : Bool) → bytes_eq w (codes "script") ≡ b
        → (if a then Some (css x s) else (if b then Some (script x s) else None)) ≡ Some q → IsWords q (w ∷ d ∷ s ∷ [])
    by_tests x p true r b t e =
        let same : css x s ≡ q = (let y = e in cc) in
        subst (λ y. IsWords y (w ∷ d ∷ s ∷ [])) same (ap (λ v. v ∷ d ∷ s ∷ []) ((bytes_eq-Decides w (codes "css")).0 r) ∙ ap (λ v. codes "css" ∷ v ∷ s ∷ []) (dialect_read d x p))
    by_tests x p false r true t e =
        let same : script x s ≡ q = (let y = e in cc) in
        subst (λ y. IsWords y (w ∷ d ∷ s ∷ [])) same (ap (λ v. v ∷ d ∷ s ∷ []) ((bytes_eq-Decides w (codes "script")).0 t) ∙ ap (λ v. codes "script" ∷ v ∷ s ∷ []) (dialect_read d x p))
    by_tests x p false r false t e = let y = e in absurd (cc)

    by_dialect : (o : Option Dialect) → dialect_of d ≡ o → read_three w o s ≡ Some q → IsWords q (w ∷ d ∷ s ∷ [])
    by_dialect None p e = let y = e in absurd (cc)
    by_dialect (Some x) p e = by_tests x p (bytes_eq w (codes "css")) refl (bytes_eq w (codes "script")) refl e

read_words : (words : List (List ℕ)) (q : Question) → read words ≡ Some q → IsWords q words
read_words [] q h = let x = h in absurd (cc)
read_words (w ∷ []) q h = let x = h in absurd (cc)
read_words (w ∷ n ∷ []) q h = two_said w n q h
read_words (w ∷ d ∷ s ∷ []) q h = three_said w d s q h
read_words (w ∷ d ∷ s ∷ n ∷ ns) q h = let x = h in absurd (cc)

words_back : (words : List (List ℕ)) (q : Question) → IsWords q words → read words ≡ Some q
words_back words (css d s) h = ap read h ∙ ap (λ o. read_three (codes "css") o s) (word_dialect d)
words_back words (xpath s) h = ap read h
words_back words (script d s) h = ap read h ∙ ap (λ o. read_three (codes "script") o s) (word_dialect d)
words_back words (page name) h = ap read h

pub words_read : WordsLaw
words_read words q = (read_words words q, words_back words q)
