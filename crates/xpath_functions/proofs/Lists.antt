-- Lists with nothing in them, and constant texts.
use Rattle.std.proofs.Common.{◌≡◌, refl, ◌∙◌, ap, ℕ, IfOk, Result, Ok, Err, String, string_bytes, Global, List, [], false, filter, ◌∷◌, length, codes, arith}
use Rattle.std.specs.Str.{chars}

pub no_items : {A : Type 0} (xs : List A) → length xs ≡ 0 → xs ≡ []
no_items [] h = refl
no_items (x ∷ xs) h = absurd (omega arith)

pub true_chars : chars (codes "true") ≡ codes "true"
unfolding chars
true_chars = refl

pub false_chars : chars (codes "false") ≡ codes "false"
unfolding chars
false_chars = refl

pub nan_chars : chars (codes "NaN") ≡ codes "NaN"
unfolding chars
nan_chars = refl

pub dash_chars : chars (codes "-") ≡ codes "-"
unfolding chars
dash_chars = refl

-- characters that are their own bytes
pub ascii_text : {E : Type 0} (bs : List ℕ) (r : Result (String Global) E) → chars bs ≡ bs → IfOk r (λ s. string_bytes s ≡ bs) → IfOk r (λ s. chars (string_bytes s) ≡ bs)
ascii_text bs (Ok s) h e = ap chars e ∙ h
ascii_text bs (Err x) h e = tt

pub lang_chars : chars (codes "xml:lang") ≡ codes "xml:lang"
unfolding chars
lang_chars = refl

pub id_chars : chars (codes "id") ≡ codes "id"
unfolding chars
id_chars = refl

pub filter_none : (xs : List ℕ) → filter (λ (x : ℕ). false) xs ≡ []
filter_none [] = refl
filter_none (x ∷ xs) = filter_none xs
