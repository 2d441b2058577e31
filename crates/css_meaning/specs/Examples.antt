-- A small document and what some selectors give on it.
use Rattle.std.specs.Prelude.{◌≡◌, ℕ, List, [], ◌∷◌, Some, None, codes}
use Rattle.doc_model.specs.Document.{Document, Row}
use Rattle.doc_model.specs.declared.Kind.TheVariants as kind
use Rattle.css_selectors.specs.declared.selector.Dialect.TheVariants.{Generic, Html}
use Rattle.css_selectors.specs.declared.selector.Link.TheVariants as link
use Rattle.css_selectors.specs.declared.selector.Op.TheVariants as op
use Rattle.css_selectors.specs.declared.selector.Relative.{roll-Relative}
use Rattle.css_selectors.specs.declared.selector.Selector.{Selector}
use Rattle.css_selectors.specs.declared.selector.Test.TheVariants as test
use Rattle.css_selectors.specs.declared.selector.Weight.TheVariants as weight
use Rattle.css_selectors.specs.Examples.{is, is_not, part, compound, single, alone, odd_items, middle_text, later_paragraph, english}
use Rattle.css_meaning.specs.Matching.{answers}

abbrev pub element : List ℕ → ℕ → Row
element name parent = record { kind = kind.Element; name = name; text = []; parent = parent }

abbrev pub attribute : List ℕ → List ℕ → ℕ → Row
attribute name value parent = record { kind = kind.Attribute; name = name; text = value; parent = parent }

abbrev pub words : List ℕ → ℕ → Row
words content parent = record { kind = kind.Text; name = []; text = content; parent = parent }

-- <div><ul class="goods wide"><li>One</li><li lang="en-GB">Two</li><li></li></ul>more<p></p></div>
abbrev pub goods : Document
goods =
    record { kind = kind.Root; name = []; text = []; parent = 0 }
    ∷ element (codes "div") 0
    ∷ element (codes "ul") 1
    ∷ attribute (codes "class") (codes "goods wide") 2
    ∷ element (codes "li") 2
    ∷ words (codes "One") 4
    ∷ element (codes "li") 2
    ∷ attribute (codes "lang") (codes "en-GB") 6
    ∷ words (codes "Two") 6
    ∷ element (codes "li") 2
    ∷ words (codes "more") 1
    ∷ element (codes "p") 1
    ∷ []

-- :is(ul.wide, [lang], a)
abbrev pub either : Selector
either =
    single None
    (is (test.Any weight.Most (compound (Some (codes "ul")) (is (test.Class (codes "wide")) ∷ []) ∷ compound None (is (test.Attr (codes "lang") op.Exists []) ∷ []) ∷ compound (Some (codes "a")) [] ∷ []))
    ∷ [])

-- :not(li, :where(p))
abbrev pub others : Selector
others =
    single None
    (is_not (test.Any weight.Most (compound (Some (codes "li")) [] ∷ compound None (is (test.Any weight.Zero (compound (Some (codes "p")) [] ∷ [])) ∷ []) ∷ []))
    ∷ [])

-- li:has(+ [lang])
abbrev pub before_english : Selector
before_english =
    single (Some (codes "li"))
    (is (test.Has (roll-Relative (record { parts = part link.Next None (is (test.Attr (codes "lang") op.Exists []) ∷ []) ∷ [] }) ∷ [])) ∷ [])

-- what each gives from the root node, from another row, and in the other dialect
pub record WorkedAnswers : Type 0 where
  pub odd_in_html : answers goods Html (alone odd_items) 0 ≡ 4 ∷ 9 ∷ []
  pub odd_in_generic : answers goods Generic (alone odd_items) 0 ≡ []
  pub middle : answers goods Html (alone middle_text) 0 ≡ 8 ∷ []
  pub later : answers goods Generic (alone later_paragraph) 0 ≡ 11 ∷ []
  pub later_from_inside : answers goods Generic (alone later_paragraph) 4 ≡ []
  pub english_in_html : answers goods Html (alone english) 0 ≡ 7 ∷ []
  pub several : answers goods Html (record { items = later_paragraph ∷ odd_items ∷ odd_items ∷ [] }) 0 ≡ 4 ∷ 9 ∷ 11 ∷ []
  pub either_of_them : answers goods Html (alone either) 0 ≡ 2 ∷ 6 ∷ []
  pub none_of_them : answers goods Html (alone others) 0 ≡ 1 ∷ 2 ∷ []
  pub before_it : answers goods Html (alone before_english) 0 ≡ 4 ∷ []
