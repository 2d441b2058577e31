-- Texts that a slip in the templates would print. Each is a text that XPath reads and none keeps its selector's meaning, so the
-- promise refuses a slip in text and expression alike.
use Rattle.std.specs.Prelude.{[], ◌∷◌, Some, codes, pos, negsuc}
use Rattle.css_selectors.specs.declared.selector.Dialect.TheVariants.{Html}
use Rattle.css_selectors.specs.declared.selector.Link.TheVariants as link
use Rattle.css_selectors.specs.declared.selector.Nth.TheVariants as nth
use Rattle.css_selectors.specs.declared.selector.Pseudo.TheVariants as pseudo
use Rattle.css_selectors.specs.declared.selector.Selector.{Selector}
use Rattle.css_selectors.specs.declared.selector.Tail.TheVariants as tail
use Rattle.css_selectors.specs.declared.selector.Test.TheVariants as test
use Rattle.css_selectors.specs.Examples.{part, is, selector, single, alone}
use Rattle.css_printed.specs.Promise.{KeepsMeaning}

-- h1 + p
abbrev pub next_paragraph : Selector
next_paragraph = selector (part link.First (Some (codes "h1")) [] ∷ part link.Next (Some (codes "p")) [] ∷ []) tail.Element

-- p:nth-child(3n-4)
abbrev pub every_third : Selector
every_third = single (Some (codes "p")) (is (test.Nth nth.Child (pos 3) (negsuc 3)) ∷ [])

-- div:only-child
abbrev pub only_division : Selector
only_division = single (Some (codes "div")) (is (test.Pseudo pseudo.OnlyChild) ∷ [])

-- div
abbrev pub division : Selector
division = single (Some (codes "div")) []

pub record WrongTexts : Type 0 where
  -- every later sibling, for the next one
  pub any_later_sibling : KeepsMeaning Html (alone next_paragraph) (codes "descendant-or-self::h1/following-sibling::p") → ⊥
  -- the remainder 2 of -5 by 3, cut towards 0 and taken without its sign
  pub truncating_remainder : KeepsMeaning Html (alone every_third) (codes "descendant-or-self::p[count(preceding-sibling::*) mod 3 = 2]") → ⊥
  -- no element without a parent, for an only child
  pub root_never_only_child : KeepsMeaning Html (alone only_division) (codes "descendant-or-self::div[not(self::*[not(parent::*)])][count(preceding-sibling::*) = 0][count(following-sibling::*) = 0]") → ⊥
  -- what is below an element, for what is there or below it
  pub context_left_out : KeepsMeaning Html (alone division) (codes "descendant-or-self::*/descendant::div") → ⊥
