-- How the step of a part begins: its axis and its element.
use Rattle.std.specs.Prelude.{ℕ, List, [], ◌++◌, Option, Some, None, codes}
use Rattle.css_selectors.specs.declared.selector.Dialect.{Dialect}
use Rattle.css_selectors.specs.declared.selector.Link.{Link}
use Rattle.css_selectors.specs.declared.selector.Link.TheVariants as link
use Rattle.css_printed.specs.Names.{element_text}

-- the name of the nearest sibling, which is counted before its name is looked at
abbrev pub next_text : Dialect → Option (List ℕ) → List ℕ
next_text dialect None = []
next_text dialect (Some n) = codes "[self::" ++ (element_text dialect (Some n) ++ codes "]")

-- where no other step stands before it
abbrev pub first_text : Dialect → Link → Option (List ℕ) → List ℕ
first_text dialect link.First element = codes "descendant-or-self::" ++ element_text dialect element
first_text dialect link.Descendant element = codes "descendant::" ++ element_text dialect element
first_text dialect link.Child element = codes "child::" ++ element_text dialect element
first_text dialect link.Next element = codes "following-sibling::*[1]" ++ next_text dialect element
first_text dialect link.Later element = codes "following-sibling::" ++ element_text dialect element

-- Behind the step of the part before it, where the axis `child` is left out. The first part of a selector has none before it.
abbrev pub step_text : Dialect → Link → Option (List ℕ) → List ℕ
step_text dialect link.First element = first_text dialect link.First element
step_text dialect link.Descendant element = codes "/" ++ first_text dialect link.Descendant element
step_text dialect link.Child element = codes "/" ++ element_text dialect element
step_text dialect link.Next element = codes "/" ++ first_text dialect link.Next element
step_text dialect link.Later element = codes "/" ++ first_text dialect link.Later element
