-- Texts by their bytes and by their characters.
use Rattle.std.proofs.Common.{◌≡◌, refl, sym, ◌∙◌, ap, ℕ, Bool, true, false, List, IsUtf8}
use Rattle.std.specs.Str.{chars, bytes_eq}
use Rattle.std.proofs.lemmas.Slice.Eq.{bytes_eq-Decides}
use Rattle.doc_model.proofs.Texts.{same_chars}

by_both : (p q : Bool) → (p ≡ true → q ≡ true) → (q ≡ true → p ≡ true) → p ≡ q
by_both true q f g = sym (f refl)
by_both false true f g = g refl
by_both false false f g = refl

bytes_eq_comm : (a b : List ℕ) → bytes_eq a b ≡ bytes_eq b a
bytes_eq_comm a b = by_both (bytes_eq a b) (bytes_eq b a) (λ h. (bytes_eq-Decides b a).1 (sym ((bytes_eq-Decides a b).0 h))) (λ h. (bytes_eq-Decides a b).1 (sym ((bytes_eq-Decides b a).0 h)))

-- a row's text against a key
pub key_test : (q text content : List ℕ) → IsUtf8 q → IsUtf8 text → chars text ≡ content → bytes_eq q text ≡ bytes_eq content (chars q)
key_test q text content u v e = bytes_eq_comm q text ∙ same_chars text q v u ∙ ap (λ t. bytes_eq t (chars q)) e

pub same_literal : (text content word : List ℕ) → IsUtf8 text → IsUtf8 word → chars word ≡ word → chars text ≡ content → bytes_eq text word ≡ bytes_eq content word
same_literal text content word u v w e = same_chars text word u v ∙ ap (λ t. bytes_eq t (chars word)) e ∙ ap (bytes_eq content) w
