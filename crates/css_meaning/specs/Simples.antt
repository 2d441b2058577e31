-- What the pseudo-classes without an argument ask of an element e. Selectors Level 3, section 6.6.
use Rattle.std.specs.Prelude.{ℕ, Bool, false, ◌&&◌, ◌||◌, not, List, [], ◌∷◌, codes}
use Rattle.std.specs.List.{list_any}
use Rattle.text_base.specs.Strings.{is_among}
use Rattle.doc_model.specs.Document.{Document, row, rows, is_element, is_text, is_parent}
use Rattle.css_selectors.specs.declared.selector.Dialect.{Dialect}
use Rattle.css_selectors.specs.declared.selector.Dialect.TheVariants.{Generic, Html}
use Rattle.css_selectors.specs.declared.selector.Pseudo.{Pseudo}
use Rattle.css_selectors.specs.declared.selector.Pseudo.TheVariants as pseudo
use Rattle.css_meaning.specs.Siblings.{is_sibling, is_of_type, is_only}
use Rattle.css_meaning.specs.Attributes.{has_attribute, has_value}

-- no child of e is an element or a text: section 6.6.5.12
abbrev pub is_empty_element : Document → ℕ → Bool
is_empty_element doc e = not (list_any (λ y. is_parent doc e y && (is_element doc y || is_text doc y)) (rows doc))

-- e has one of the names
abbrev pub is_one_of : Document → List (List ℕ) → ℕ → Bool
is_one_of doc names e = is_among (row doc e).name names

-- the source of a link, visited or not: section 6.6.1.1
abbrev pub is_link : Document → ℕ → Bool
is_link doc e = has_attribute doc e (codes "href") && is_one_of doc (codes "a" ∷ codes "area" ∷ codes "link" ∷ []) e

-- a chosen option, or a ticked box or radio button: section 6.6.4.2
abbrev pub is_checked : Document → ℕ → Bool
is_checked doc e =
    (has_attribute doc e (codes "selected") && is_one_of doc (codes "option" ∷ []) e)
    || (has_attribute doc e (codes "checked") && (is_one_of doc (codes "input" ∷ []) e
    && has_value doc e (codes "type") (λ value. is_among value (codes "checkbox" ∷ codes "radio" ∷ []))))

-- the elements that can be disabled: section 6.6.4.1
abbrev pub is_control : Document → ℕ → Bool
is_control doc e =
    is_one_of doc (codes "button" ∷ codes "fieldset" ∷ codes "input" ∷ codes "optgroup" ∷ codes "option" ∷ codes "select" ∷ codes "textarea" ∷ []) e

abbrev pub is_disabled : Document → ℕ → Bool
is_disabled doc e = has_attribute doc e (codes "disabled") && is_control doc e

abbrev pub is_enabled : Document → ℕ → Bool
is_enabled doc e = not (has_attribute doc e (codes "disabled")) && is_control doc e

-- what only the HTML dialect has
abbrev pub in_html : Dialect → Bool → Bool
in_html Generic b = false
in_html Html b = b

abbrev pub pseudo_holds : Document → Dialect → Pseudo → ℕ → Bool
pseudo_holds doc dialect pseudo.OnlyChild e = is_only doc (is_sibling doc e) e
pseudo_holds doc dialect pseudo.OnlyOfType e = is_only doc (is_of_type doc e) e
pseudo_holds doc dialect pseudo.Empty e = is_empty_element doc e
pseudo_holds doc dialect pseudo.Root e = is_parent doc 0 e
pseudo_holds doc dialect pseudo.Never e = false
pseudo_holds doc dialect pseudo.Link e = in_html dialect (is_link doc e)
pseudo_holds doc dialect pseudo.Checked e = in_html dialect (is_checked doc e)
pseudo_holds doc dialect pseudo.Enabled e = in_html dialect (is_enabled doc e)
pseudo_holds doc dialect pseudo.Disabled e = in_html dialect (is_disabled doc e)
