-- What a selector asks of an element, at every depth. Selectors Level 3, sections 5 to 8, and Selectors Level 4, sections 4.2
-- to 4.5.
use Rattle.std.specs.Prelude.{ℕ, Bool, true, ◌&&◌, not, if◌then◌else◌, List, [], ◌∷◌, Option, codes}
use Rattle.std.specs.List.{list_any, list_all}
use Rattle.text_base.specs.Strings.{contains}
use Rattle.doc_model.specs.Document.{Document, rows, is_element}
use Rattle.doc_model.specs.StringValue.{string_value}
use Rattle.css_selectors.specs.declared.selector.Compound.{Compound}
use Rattle.css_selectors.specs.declared.selector.Dialect.{Dialect}
use Rattle.css_selectors.specs.declared.selector.Link.{Link}
use Rattle.css_selectors.specs.declared.selector.Op.TheVariants as op
use Rattle.css_selectors.specs.declared.selector.Part.{Part}
use Rattle.css_selectors.specs.declared.selector.Relative.{Relative}
use Rattle.css_selectors.specs.declared.selector.Simple.{Simple}
use Rattle.css_selectors.specs.declared.selector.Test.{Test}
use Rattle.css_selectors.specs.declared.selector.Test.TheFolds.{fold-Test, fold-Compound, fold-Part, fold-Relative, fold-Simple}
use Rattle.css_selectors.specs.declared.selector.Test.TheOpen as open_
use Rattle.css_meaning.specs.Attributes.{attribute_holds}
use Rattle.css_meaning.specs.Language.{lang_holds}
use Rattle.css_meaning.specs.Links.{linked}
use Rattle.css_meaning.specs.Names.{has_name}
use Rattle.css_meaning.specs.Nth.{is_nth}
use Rattle.css_meaning.specs.Siblings.{position}
use Rattle.css_meaning.specs.Simples.{pseudo_holds}

-- at which rows something holds
abbrev pub Where : Type 0
Where = ℕ → Bool

-- how a part stands to the one before it, and where it holds
abbrev pub Tied : Type 0
Tied = Link × Where

module _ (doc : Document) (dialect : Dialect) where
  -- From x on the parts hold at some rows, one for each. The first stands to x as its link says, and each next one so to the
  -- one before.
  abbrev pub goes_on : List Tied → ℕ → Bool
  goes_on [] x = true
  goes_on (p ∷ ps) x = list_any (λ y. linked doc p.0 x y && (p.1 y && goes_on ps y)) (rows doc)

  -- an element of that name, where there is one, at which each of the simples holds
  abbrev pub element_holds : Option (List ℕ) → List Where → Where
  element_holds name simples e = is_element doc e && (has_name doc dialect name e && list_all (λ x. x e) simples)

  abbrev pub test_step : open_.Test-F Where Where Tied Where Where → Where
  test_step (open_.Element n) e = has_name doc dialect n e
  test_step (open_.Id x) e = attribute_holds doc dialect (codes "id") op.Equals x e
  test_step (open_.Class x) e = attribute_holds doc dialect (codes "class") op.Word x e
  test_step (open_.Attr name o v) e = attribute_holds doc dialect name o v e
  test_step (open_.Nth kind a b) e = is_nth a b (position doc kind e)
  test_step (open_.Pseudo p) e = pseudo_holds doc dialect p e
  test_step (open_.Contains x) e = contains (string_value doc e) x
  test_step (open_.Lang x) e = lang_holds doc dialect x e
  test_step (open_.Any w list) e = list_any (λ c. c e) list
  test_step (open_.Has list) e = list_any (λ r. r e) list

  -- a negated simple holds where its test does not
  abbrev pub simple_step : open_.Simple-F Where Where Tied Where Where → Where
  simple_step x e = if x.negated then not (x.test e) else x.test e

  abbrev pub compound_step : open_.Compound-F Where Where Tied Where Where → Where
  compound_step c = element_holds c.element c.simples

  abbrev pub part_step : open_.Part-F Where Where Tied Where Where → Tied
  part_step p = (p.link, element_holds p.element p.simples)

  abbrev pub relative_step : open_.Relative-F Where Where Tied Where Where → Where
  relative_step r = goes_on r.parts

  unfoldable pub test_holds : Test → Where
  test_holds = fold-Test Where Where Tied Where Where test_step compound_step part_step relative_step simple_step

  unfoldable pub compound_holds : Compound → Where
  compound_holds = fold-Compound Where Where Tied Where Where test_step compound_step part_step relative_step simple_step

  unfoldable pub tied : Part → Tied
  tied = fold-Part Where Where Tied Where Where test_step compound_step part_step relative_step simple_step

  unfoldable pub relative_holds : Relative → Where
  relative_holds = fold-Relative Where Where Tied Where Where test_step compound_step part_step relative_step simple_step

  unfoldable pub simple_holds : Simple → Where
  simple_holds = fold-Simple Where Where Tied Where Where test_step compound_step part_step relative_step simple_step

  -- the part holds at e, which is an element
  abbrev pub holds : Part → Where
  holds p = (tied p).1
