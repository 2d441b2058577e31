-- The value of an attribute that a search by its name gives.
use Rattle.std.proofs.Common.{◌≡◌, ℕ, Bool, true, false, ◌&&◌, List, Option, Some, None, sym, ◌∙◌}
use Rattle.std.specs.Option.{option_to_list, is_some}
use Rattle.doc_model.specs.Document.{Document}
use Rattle.css_meaning.specs.Attributes.{has_attribute}
pub use Rattle.doc_model.proofs.Named.{named, value_found, value_there, no_value}

module _ (doc : Document) (n : List ℕ) (y : ℕ) where
  pub some_there : (o : Option ℕ) → named doc n y ≡ option_to_list o → is_some o ≡ has_attribute doc y n
  some_there (Some z) e = value_there doc n y (λ value. true) z e
  some_there None e = no_value doc n y (λ value. true) e

-- a test after another that comes first in the code
pub then_both : (p q r s : Bool) → r ≡ p → r ≡ true → s ≡ q → s ≡ (q && p)
then_both p true r s h k e = e ∙ sym k ∙ h
then_both p false r s h k e = e

pub else_none : (p q r : Bool) → r ≡ p → r ≡ false → r ≡ (q && p)
else_none p true r h k = h
else_none p false r h k = k
