-- The texts of the examples, by computing.
use Rattle.std.proofs.Common.{◌≡◌, ℕ, List, Option, ◌∷◌, [], ◌++◌, ◌∙◌, ap, refl, codes, arith, map}
use Rattle.std.specs.List.{flat_map}
use Rattle.std.specs.Fmt.{decimal}
use Rattle.std.proofs.lemmas.Fmt.{decimal_digit}
use Rattle.css_selectors.specs.declared.selector.Dialect.{Dialect}
use Rattle.css_selectors.specs.declared.selector.Link.{Link}
use Rattle.css_selectors.specs.declared.selector.Part.{Part}
use Rattle.css_selectors.specs.declared.selector.Simple.{Simple}
use Rattle.css_selectors.specs.declared.selector.Test.{Test}
use Rattle.css_selectors.specs.declared.selector.Test.TheViews as views
use Rattle.css_selectors.specs.Examples.{part, compound, is, is_not}
use Rattle.css_selectors.specs.WellMade.{innermost}
use Rattle.css_printed.specs.Examples.{WorkedTexts, relative}
use Rattle.css_printed.specs.Links.{first_text, step_text}
use Rattle.css_printed.specs.Names.{element_text}
use Rattle.css_printed.specs.Printed.{part_text}
use Rattle.css_printed.specs.TestTexts.{test_said, compound_text, part_steps, path_text, relative_text, simple_text}
use Rattle.css_printed.proofs.PrintedAt.{text_at_simple, text_at_compound, said_element, said_id, said_class, said_attr, said_nth, said_pseudo, said_lang, said_any, said_has, text_at_first, text_at_part, text_at_relative}

pub zero_digit : decimal 0 ≡ 48 ∷ []
zero_digit = decimal_digit 0 (omega arith)

one_digit : decimal 1 ≡ 49 ∷ []
one_digit = decimal_digit 1 (omega arith)

pub two_digit : decimal 2 ≡ 50 ∷ []
two_digit = decimal_digit 2 (omega arith)

pub three_digit : decimal 3 ≡ 51 ∷ []
three_digit = decimal_digit 3 (omega arith)

-- the text of a part, of the first of a relative, of a relative, of a compound, of a simple and of a negated one
pub part_is : (d : Dialect) (l : Link) (n : Option (List ℕ)) (ss : List Simple) → part_text d (part l n ss) ≡ step_text d l n ++ flat_map (λ x. simple_text d x n) ss
part_is d l n ss = text_at_part d (part l n ss) ∙ ap (λ q. step_text d q.link q.element ++ flat_map (λ x. simple_text d x q.element) q.simples) (views.out-roll-Part (record { link = l; element = n; simples = ss }))

first_is : (d : Dialect) (l : Link) (n : Option (List ℕ)) (ss : List Simple) → (part_steps d (part l n ss)).first ≡ first_text d l n ++ flat_map (λ x. simple_text d x n) ss
first_is d l n ss = text_at_first d (part l n ss) ∙ ap (λ q. first_text d q.link q.element ++ flat_map (λ x. simple_text d x q.element) q.simples) (views.out-roll-Part (record { link = l; element = n; simples = ss }))

relative_is : (d : Dialect) (ps : List Part) → relative_text d (relative ps) ≡ path_text (map (part_steps d) ps)
relative_is d ps = text_at_relative d (relative ps) ∙ ap (λ q. path_text (map (part_steps d) q.parts)) (views.out-roll-Relative (record { parts = ps }))

compound_is : (d : Dialect) (n around : Option (List ℕ)) (ss : List Simple) → compound_text d (compound n ss) around ≡ codes "self::" ++ (element_text d n ++ flat_map (λ x. simple_text d x (innermost around n)) ss)
compound_is d n around ss =
    text_at_compound d (compound n ss) around
    ∙ ap (λ q. codes "self::" ++ (element_text d q.element ++ flat_map (λ x. simple_text d x (innermost around q.element)) q.simples)) (views.out-roll-Compound (record { element = n; simples = ss }))

pub plain_is : (d : Dialect) (u : Test) (around : Option (List ℕ)) → simple_text d (is u) around ≡ (test_said d u around).brackets
plain_is d u around = text_at_simple d (is u) around

pub not_is : (d : Dialect) (u : Test) (around : Option (List ℕ)) → simple_text d (is_not u) around ≡ codes "[not(" ++ ((test_said d u around).inside ++ codes ")]")
not_is d u around = text_at_simple d (is_not u) around

pub worked : WorkedTexts
unfolding lib.Utf8.encode
worked = record {
  one_name = simp part_is refl;
  star = simp part_is refl;
  word = simp (part_is, plain_is, said_class) refl;
  both_quotes = simp (part_is, plain_is, said_attr) refl;
  odd = simp (part_is, plain_is, said_nth) (rw (two_digit, zero_digit) refl);
  at_most = simp (part_is, plain_is, said_nth) (rw two_digit refl);
  none = simp (part_is, plain_is, said_nth) refl;
  third = simp (part_is, plain_is, said_nth) (rw (three_digit, one_digit) refl);
  not_last = simp (part_is, not_is, said_nth) (rw zero_digit refl);
  siblings = simp part_is refl;
  empty_prefix = simp (part_is, plain_is, said_attr) refl;
  spaced_word = simp (part_is, plain_is, said_class) refl;
  never = simp (part_is, plain_is, said_pseudo) refl;
  odd_name = simp (part_is, plain_is, said_attr) refl;
  lang_in_generic = simp (part_is, plain_is, said_lang) refl;
  lang_in_html = simp (part_is, plain_is, said_lang) refl;
  last_characters = simp (part_is, plain_is, said_attr) (rw one_digit refl);
  only_text = simp (part_is, plain_is, not_is, said_element, said_pseudo) (rw zero_digit refl);
  either = simp (part_is, plain_is, said_any, compound_is, said_class, said_id) refl;
  neither = simp (part_is, plain_is, not_is, said_any, compound_is, said_class) refl;
  of_type_around = simp (part_is, plain_is, said_any, compound_is, said_nth) (rw zero_digit refl);
  twice_negated = simp (part_is, not_is, said_any, compound_is, said_element) refl;
  has_child = simp (part_is, plain_is, said_has, relative_is, first_is, said_class) refl;
  has_sibling = simp (part_is, plain_is, said_has, relative_is, first_is) refl;
  has_not = simp (part_is, plain_is, not_is, said_any, compound_is, said_has, relative_is, first_is) refl;
}
