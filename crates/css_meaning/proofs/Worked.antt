-- The worked answers, by parts that compute.
use Rattle.std.proofs.Common.{◌≡◌, refl, ◌∙◌, [], ◌∷◌, map, Some, None, codes}
use Rattle.std.specs.Prelude.{pos, negsuc}
use Rattle.doc_model.specs.Document.{below_within}
use Rattle.css_selectors.specs.declared.selector.Dialect.TheVariants.{Generic, Html}
use Rattle.css_selectors.specs.declared.selector.Link.TheVariants as link
use Rattle.css_selectors.specs.declared.selector.Nth.TheVariants as nth
use Rattle.css_selectors.specs.declared.selector.Op.TheVariants as op
use Rattle.css_selectors.specs.declared.selector.Pseudo.TheVariants as pseudo
use Rattle.css_selectors.specs.declared.selector.Tail.TheVariants as tail
use Rattle.css_selectors.specs.declared.selector.Test.TheOpen as open_
use Rattle.css_selectors.specs.declared.selector.Weight.TheVariants as weight
use Rattle.css_selectors.specs.Examples.{alone, odd_items, middle_text, later_paragraph, english}
use Rattle.css_meaning.specs.Examples.{goods, either, others, before_english, WorkedAnswers}
use Rattle.css_meaning.specs.Holding as s
use Rattle.css_meaning.specs.Holding.{Where, Tied, element_holds, goes_on}
use Rattle.css_meaning.specs.Nth.{is_nth}
use Rattle.css_meaning.proofs.Plain as p
use Rattle.css_meaning.proofs.Plain.{Plain, opposite}

abbrev odd : Plain
odd = (((link.First, element_holds goods Html (Some (codes "ul")) (s.test_step goods Html (open_.Class (codes "wide")) ∷ [])) ∷ (link.Child, element_holds goods Html (Some (codes "LI")) (s.test_step goods Html (open_.Nth nth.Child (pos 2) (pos 1)) ∷ [])) ∷ []), tail.Element)

odd_is : map (p.plain goods Html) (odd_items ∷ []) ≡ odd ∷ []
odd_is = simp (p.part_is goods Html, p.is_is goods Html, p.class_is goods Html, p.nth_is goods Html) refl

abbrev generic_odd : Plain
generic_odd = (((link.First, element_holds goods Generic (Some (codes "ul")) (s.test_step goods Generic (open_.Class (codes "wide")) ∷ [])) ∷ (link.Child, element_holds goods Generic (Some (codes "LI")) (s.test_step goods Generic (open_.Nth nth.Child (pos 2) (pos 1)) ∷ [])) ∷ []), tail.Element)

generic_odd_is : map (p.plain goods Generic) (odd_items ∷ []) ≡ generic_odd ∷ []
generic_odd_is = simp (p.part_is goods Generic, p.is_is goods Generic, p.class_is goods Generic, p.nth_is goods Generic) refl

abbrev middle : Plain
middle = (((link.First, element_holds goods Html (Some (codes "li")) ([])) ∷ (link.Next, element_holds goods Html (Some (codes "li")) (opposite (s.test_step goods Html (open_.Nth nth.LastOfType (negsuc 0) (pos 1))) ∷ [])) ∷ []), tail.Text)

middle_is : map (p.plain goods Html) (middle_text ∷ []) ≡ middle ∷ []
middle_is = simp (p.part_is goods Html, p.not_is goods Html, p.nth_is goods Html) refl

abbrev later : Plain
later = (((link.First, element_holds goods Generic None (s.test_step goods Generic (open_.Attr (codes "class") op.Prefix (codes "good")) ∷ [])) ∷ (link.Later, element_holds goods Generic (Some (codes "p")) (s.test_step goods Generic (open_.Pseudo pseudo.Empty) ∷ [])) ∷ []), tail.Element)

later_is : map (p.plain goods Generic) (later_paragraph ∷ []) ≡ later ∷ []
later_is = simp (p.part_is goods Generic, p.is_is goods Generic, p.attr_is goods Generic, p.pseudo_is goods Generic) refl

abbrev html_later : Plain
html_later = (((link.First, element_holds goods Html None (s.test_step goods Html (open_.Attr (codes "class") op.Prefix (codes "good")) ∷ [])) ∷ (link.Later, element_holds goods Html (Some (codes "p")) (s.test_step goods Html (open_.Pseudo pseudo.Empty) ∷ [])) ∷ []), tail.Element)

html_later_is : map (p.plain goods Html) (later_paragraph ∷ []) ≡ html_later ∷ []
html_later_is = simp (p.part_is goods Html, p.is_is goods Html, p.attr_is goods Html, p.pseudo_is goods Html) refl

abbrev english_plain : Plain
english_plain = (((link.First, element_holds goods Html (Some (codes "ul")) (opposite (s.test_step goods Html (open_.Id (codes "a"))) ∷ [])) ∷ (link.Descendant, element_holds goods Html None (s.test_step goods Html (open_.Lang (codes "EN")) ∷ [])) ∷ []), tail.Attr (codes "lang"))

english_plain_is : map (p.plain goods Html) (english ∷ []) ≡ english_plain ∷ []
english_plain_is = simp (p.part_is goods Html, p.is_is goods Html, p.not_is goods Html, p.id_is goods Html, p.lang_is goods Html) refl

abbrev one_of : Plain
one_of = (((link.First, element_holds goods Html None (s.test_step goods Html (open_.Any weight.Most (element_holds goods Html (Some (codes "ul")) (s.test_step goods Html (open_.Class (codes "wide")) ∷ []) ∷ element_holds goods Html None (s.test_step goods Html (open_.Attr (codes "lang") op.Exists []) ∷ []) ∷ element_holds goods Html (Some (codes "a")) [] ∷ [])) ∷ [])) ∷ []), tail.Element)

one_of_is : map (p.plain goods Html) (either ∷ []) ≡ one_of ∷ []
one_of_is = simp (p.part_is goods Html, p.is_is goods Html, p.any_is goods Html, p.compound_is goods Html, p.class_is goods Html, p.attr_is goods Html) refl

abbrev none_of : Plain
none_of = (((link.First, element_holds goods Html None (opposite (s.test_step goods Html (open_.Any weight.Most (element_holds goods Html (Some (codes "li")) [] ∷ element_holds goods Html None (s.test_step goods Html (open_.Any weight.Zero (element_holds goods Html (Some (codes "p")) [] ∷ [])) ∷ []) ∷ []))) ∷ [])) ∷ []), tail.Element)

none_of_is : map (p.plain goods Html) (others ∷ []) ≡ none_of ∷ []
none_of_is = simp (p.part_is goods Html, p.is_is goods Html, p.not_is goods Html, p.any_is goods Html, p.compound_is goods Html) refl

abbrev before : Plain
before = (((link.First, element_holds goods Html (Some (codes "li")) (s.test_step goods Html (open_.Has (goes_on goods Html ((link.Next, element_holds goods Html None (s.test_step goods Html (open_.Attr (codes "lang") op.Exists []) ∷ [])) ∷ []) ∷ [])) ∷ [])) ∷ []), tail.Element)

before_is : map (p.plain goods Html) (before_english ∷ []) ≡ before ∷ []
before_is = simp (p.part_is goods Html, p.is_is goods Html, p.has_is goods Html, p.relative_is goods Html, p.attr_is goods Html) refl

several_is : map (p.plain goods Html) (later_paragraph ∷ odd_items ∷ odd_items ∷ []) ≡ html_later ∷ odd ∷ odd ∷ []
several_is = simp (p.part_is goods Html, p.is_is goods Html, p.class_is goods Html, p.nth_is goods Html, p.attr_is goods Html, p.pseudo_is goods Html) refl

pub worked : WorkedAnswers
unfolding is_nth below_within opposite
worked = record {
  odd_in_html = p.answers_plain goods Html (alone odd_items) (odd ∷ []) 0 odd_is ∙ refl;
  odd_in_generic = p.answers_plain goods Generic (alone odd_items) (generic_odd ∷ []) 0 generic_odd_is ∙ refl;
  middle = p.answers_plain goods Html (alone middle_text) (middle ∷ []) 0 middle_is ∙ refl;
  later = p.answers_plain goods Generic (alone later_paragraph) (later ∷ []) 0 later_is ∙ refl;
  later_from_inside = p.answers_plain goods Generic (alone later_paragraph) (later ∷ []) 4 later_is ∙ refl;
  english_in_html = p.answers_plain goods Html (alone english) (english_plain ∷ []) 0 english_plain_is ∙ refl;
  several = p.answers_plain goods Html (record { items = later_paragraph ∷ odd_items ∷ odd_items ∷ [] }) (html_later ∷ odd ∷ odd ∷ []) 0 several_is ∙ refl;
  either_of_them = p.answers_plain goods Html (alone either) (one_of ∷ []) 0 one_of_is ∙ refl;
  none_of_them = p.answers_plain goods Html (alone others) (none_of ∷ []) 0 none_of_is ∙ refl;
  before_it = p.answers_plain goods Html (alone before_english) (before ∷ []) 0 before_is ∙ refl;
}
