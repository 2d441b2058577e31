-- The language of an element: the nearest attribute upwards decides. Selectors Level 3, section 6.6.3.
use Rattle.std.specs.Prelude.{ℕ, Bool, ◌&&◌, ◌||◌, ◌==◌, nat_lt, not, List, codes}
use Rattle.std.specs.List.{list_any}
use Rattle.doc_model.specs.Document.{Document, rows, below}
use Rattle.css_selectors.specs.declared.selector.Dialect.{Dialect}
use Rattle.css_selectors.specs.declared.selector.Dialect.TheVariants.{Generic, Html}
use Rattle.css_meaning.specs.Attributes.{has_attribute, has_value, lang_test}

-- the attribute that names a language
abbrev pub lang_name : Dialect → List ℕ
lang_name Generic = codes "xml:lang"
lang_name Html = codes "lang"

-- z is e or an ancestor of e, and has the attribute
abbrev pub gives_language : Document → Dialect → ℕ → ℕ → Bool
gives_language doc dialect e z = ((z == e) || below doc z e) && has_attribute doc z (lang_name dialect)

-- and none nearer to e has it
abbrev pub is_nearest_language : Document → Dialect → ℕ → ℕ → Bool
is_nearest_language doc dialect e z =
    gives_language doc dialect e z && not (list_any (λ w. gives_language doc dialect e w && nat_lt z w) (rows doc))

-- the nearest language of e is x, or begins with x and `-`, ASCII letter case ignored
abbrev pub lang_holds : Document → Dialect → List ℕ → ℕ → Bool
lang_holds doc dialect x e =
    list_any (λ z. is_nearest_language doc dialect e z && has_value doc z (lang_name dialect) (λ value. lang_test value x)) (rows doc)
