-- The words of a value: those of XPath's white space, with single spaces between, hold a word between spaces.
use Rattle.std.proofs.Common.{◌≡◌, refl, ℕ, Bool, true, false, ◌||◌, cond, eqb, List, [], ◌∷◌, ◌++◌, ap, sym, ◌∙◌}
use Rattle.std.specs.List.{list_any, join_with_byte}
use Rattle.std.proofs.lemmas.Bool.{or_parts}
use Rattle.text_base.specs.Text.{is_space4, is_space5}
use Rattle.text_base.specs.Strings.{is_empty, contains, is_among, put, pieces, not_empty, runs}
use Rattle.text_base.proofs.SpacedWords as base
use Rattle.css_meaning.specs.Limits.{is_form_feed}
use Rattle.xpath_values.specs.Strings.{words, normalized}
use Rattle.xpath_values.proofs.Words.{words_runs}

-- without a form feed the two kinds of white space are one
spaces : (b e : Bool) → e ≡ false → b ≡ (b || e)
spaces true e h = refl
spaces false e h = sym h

same_space : (c : ℕ) → is_form_feed c ≡ false → is_space4 c ≡ is_space5 c
same_space c h = spaces (is_space4 c) (eqb c 12) h

pieces_same : (x : List ℕ) → list_any is_form_feed x ≡ false → pieces is_space4 x ≡ pieces is_space5 x
pieces_same [] h = refl
pieces_same (c ∷ x) h =
    let parts : (is_form_feed c ≡ false) × (list_any is_form_feed x ≡ false) = or_parts _ _ h in
    ap (λ b. cond b ([] ∷ pieces is_space4 x) (put c (pieces is_space4 x))) (same_space c parts.0)
    ∙ ap (λ ws. cond (is_space5 c) ([] ∷ ws) (put c ws)) (pieces_same x parts.1)

words_same : (x : List ℕ) → list_any is_form_feed x ≡ false → words x ≡ runs is_space5 x
words_same x h = words_runs x ∙ ap not_empty (pieces_same x h)

-- v is one of the words of x where x, its words parted and bounded by single spaces, holds v between spaces
pub word_between : (x v : List ℕ) → list_any is_form_feed x ≡ false → list_any is_space5 v ≡ false → is_empty v ≡ false
    → contains (32 ∷ (normalized x ++ 32 ∷ [])) (32 ∷ (v ++ 32 ∷ [])) ≡ is_among v (runs is_space5 x)
word_between x v calm clear some =
    ap (λ ws. contains (32 ∷ (join_with_byte 32 ws ++ 32 ∷ [])) (32 ∷ (v ++ 32 ∷ []))) (words_same x calm)
    ∙ base.word_between is_space5 refl x v (base.clear_whole is_space5 refl v clear) some
