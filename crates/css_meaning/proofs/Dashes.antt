-- A beginning that ends the value or stands before `-`.
use Rattle.std.proofs.Common.{◌≡◌, ℕ, Bool, true, false, eqb, leb, List, length, get_or, sym, ◌∙◌, ap}
use Rattle.std.specs.Prelude.{◌&&◌, ◌||◌}
use Rattle.std.specs.Char.{to_ascii_lowercase}
use Rattle.std.specs.Str.{chars, IsUtf8}
use Rattle.std.proofs.lemmas.List.{length-map}
use Rattle.text_base.specs.Strings.{starts_with}
use Rattle.css_meaning.specs.Attributes.{dash_test, lang_test}
use Rattle.text_base.proofs.ByteParts.{starts_chars}
use Rattle.css_meaning.proofs.ByteWords.{lower, dash_chars, lang_chars}
use Rattle.css_meaning.proofs.TextTests.{dashed, dash_at}

-- the text ends before the place, or `-` stands there
abbrev stops : List ℕ → ℕ → Bool
stops x n = leb (length x) n || eqb (get_or x n 0) 45

module _ (x v : List ℕ) (utf8 : IsUtf8 x) (other : IsUtf8 v) (b : Bool) where
  dash_by : b ≡ starts_with (chars x) (chars v) → (b && stops x (length v)) ≡ dash_test (chars x) (chars v)
  dash_by e = ap (λ t. t && stops x (length v)) (e ∙ sym (starts_chars x v utf8 other)) ∙ sym (dashed x v) ∙ dash_chars x v utf8 other

  pub dash_here : b ≡ starts_with (chars x) (chars v) → b ≡ true → stops x (length v) ≡ dash_test (chars x) (chars v)
  dash_here e h = ap (λ t. t && stops x (length v)) (sym h) ∙ dash_by e

  pub no_dash : b ≡ starts_with (chars x) (chars v) → b ≡ false → b ≡ dash_test (chars x) (chars v)
  no_dash e h = h ∙ ap (λ t. t && stops x (length v)) (sym h) ∙ dash_by e

  lower_stops : stops (lower x) (length (lower v)) ≡ stops x (length v)
  lower_stops =
      ap (λ n. leb n (length (lower v)) || eqb (get_or (lower x) (length (lower v)) 0) 45) (length-map x to_ascii_lowercase)
      ∙ ap (λ n. leb (length x) n || eqb (get_or (lower x) n 0) 45) (length-map v to_ascii_lowercase)
      ∙ ap (λ t. leb (length x) (length v) || t) (dash_at x (length v))

  lang_by : b ≡ starts_with (lower x) (lower v) → (b && stops x (length v)) ≡ lang_test (chars x) (chars v)
  lang_by e = ap (λ t. t && stops x (length v)) e ∙ ap (λ t. starts_with (lower x) (lower v) && t) (sym lower_stops) ∙ sym (dashed (lower x) (lower v)) ∙ lang_chars x v utf8 other

  pub lang_here : b ≡ starts_with (lower x) (lower v) → b ≡ true → stops x (length v) ≡ lang_test (chars x) (chars v)
  lang_here e h = ap (λ t. t && stops x (length v)) (sym h) ∙ lang_by e

  pub no_lang : b ≡ starts_with (lower x) (lower v) → b ≡ false → b ≡ lang_test (chars x) (chars v)
  no_lang e h = h ∙ ap (λ t. t && stops x (length v)) (sym h) ∙ lang_by e

-- of the bytes of a text
pub same_stops : (bytes x v : List ℕ) (n : ℕ) (r : Bool) → r ≡ stops bytes n → bytes ≡ x → n ≡ length v → r ≡ stops x (length v)
same_stops bytes x v n r h e m = h ∙ ap (λ t. stops t n) e ∙ ap (stops x) m
