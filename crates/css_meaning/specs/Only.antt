-- An only child is the first and the last. Selectors Level 3, sections 6.6.5.10 and 6.6.5.11.
use Rattle.std.specs.Prelude.{◌≡◌, ℕ, ◌&&◌, pos}
use Rattle.doc_model.specs.Document.{Document}
use Rattle.css_selectors.specs.declared.selector.Nth.TheVariants as nth
use Rattle.css_meaning.specs.Nth.{is_nth}
use Rattle.css_meaning.specs.Siblings.{is_sibling, is_of_type, is_only, position}

pub record OnlyLaws : Type 0 where
  pub child : (doc : Document) (e : ℕ)
      → is_only doc (is_sibling doc e) e ≡ (is_nth (pos 0) (pos 1) (position doc nth.Child e) && is_nth (pos 0) (pos 1) (position doc nth.LastChild e))
  pub of_type : (doc : Document) (e : ℕ)
      → is_only doc (is_of_type doc e) e ≡ (is_nth (pos 0) (pos 1) (position doc nth.OfType e) && is_nth (pos 0) (pos 1) (position doc nth.LastOfType e))
