-- How simple selectors are printed, at every depth: each as none, one or several predicates.
use Rattle.std.specs.Prelude.{ℕ, if◌then◌else◌, List, [], ◌∷◌, ◌++◌, flat_map, map, Option, codes, encode_utf8_all}
use Rattle.css_selectors.specs.declared.selector.Compound.{Compound}
use Rattle.css_selectors.specs.declared.selector.Dialect.{Dialect}
use Rattle.css_selectors.specs.declared.selector.Op.TheVariants as op
use Rattle.css_selectors.specs.declared.selector.Part.{Part}
use Rattle.css_selectors.specs.declared.selector.Relative.{Relative}
use Rattle.css_selectors.specs.declared.selector.Simple.{Simple}
use Rattle.css_selectors.specs.declared.selector.Test.{Test}
use Rattle.css_selectors.specs.declared.selector.Test.TheFolds.{fold-Test, fold-Compound, fold-Part, fold-Relative, fold-Simple}
use Rattle.css_selectors.specs.declared.selector.Test.TheOpen as open_
use Rattle.css_selectors.specs.WellMade.{innermost}
use Rattle.css_printed.specs.Links.{first_text, step_text}
use Rattle.css_printed.specs.Literals.{literal_text}
use Rattle.css_printed.specs.Names.{element_text, attribute_text}
use Rattle.css_printed.specs.Simples.{op_text, nth_text, pseudo_text, lang_text}

abbrev pub Bytes : Type 0
Bytes = List ℕ

-- what hangs on the name of the innermost compound around whose element is there
abbrev pub ByName : Type 0 → Type 0
ByName A = Option (List ℕ) → A

-- the predicates of a test, and what stands in its negation
pub record Said : Type 0 where
  pub brackets : Bytes
  pub inside : Bytes

-- predicates that are negated at the element itself
abbrev pub by_itself : Bytes → Said
by_itself x = record { brackets = x; inside = codes "self::*" ++ x }

-- what is one predicate, and is negated as it stands
abbrev pub alone : Bytes → Said
alone x = record { brackets = codes "[" ++ (x ++ codes "]"); inside = x }

-- one text after another, with ` or ` between
abbrev pub choice : List Bytes → Bytes
choice [] = []
choice (x ∷ []) = x
choice (x ∷ (y ∷ ys)) = x ++ (codes " or " ++ choice (y ∷ ys))

-- a part as the first of a relative, and behind another
pub record Steps : Type 0 where
  pub first : Bytes
  pub further : Bytes

-- one step behind the other
abbrev pub path_text : List Steps → Bytes
path_text [] = []
path_text (x ∷ xs) = x.first ++ flat_map (λ y. y.further) xs

module _ (dialect : Dialect) where
  abbrev pub test_step : open_.Test-F (ByName Said) (ByName Bytes) Steps Bytes (ByName Bytes) → ByName Said
  test_step (open_.Element n) around = alone (codes "self::" ++ element_text dialect n)
  test_step (open_.Id x) around = by_itself (codes "[@id = " ++ (literal_text (encode_utf8_all x) ++ codes "]"))
  test_step (open_.Class x) around = by_itself (op_text (attribute_text dialect (codes "class")) op.Word x)
  test_step (open_.Attr name o v) around = by_itself (op_text (attribute_text dialect name) o v)
  test_step (open_.Nth kind a b) around = by_itself (nth_text dialect around kind a b)
  test_step (open_.Pseudo p) around = by_itself (pseudo_text dialect around p)
  test_step (open_.Contains x) around = by_itself (codes "[contains(., " ++ (literal_text (encode_utf8_all x) ++ codes ")]"))
  test_step (open_.Lang x) around = by_itself (lang_text dialect x)
  test_step (open_.Any w list) around = alone (choice (map (λ c. c around) list))
  test_step (open_.Has list) around = by_itself (codes "[" ++ (choice list ++ codes "]"))

  abbrev pub simple_step : open_.Simple-F (ByName Said) (ByName Bytes) Steps Bytes (ByName Bytes) → ByName Bytes
  simple_step x around = if x.negated then codes "[not(" ++ ((x.test around).inside ++ codes ")]") else (x.test around).brackets

  abbrev pub compound_step : open_.Compound-F (ByName Said) (ByName Bytes) Steps Bytes (ByName Bytes) → ByName Bytes
  compound_step c around = codes "self::" ++ (element_text dialect c.element ++ flat_map (λ x. x (innermost around c.element)) c.simples)

  abbrev pub part_step : open_.Part-F (ByName Said) (ByName Bytes) Steps Bytes (ByName Bytes) → Steps
  part_step p = record {
    first = first_text dialect p.link p.element ++ flat_map (λ x. x p.element) p.simples;
    further = step_text dialect p.link p.element ++ flat_map (λ x. x p.element) p.simples;
  }

  abbrev pub relative_step : open_.Relative-F (ByName Said) (ByName Bytes) Steps Bytes (ByName Bytes) → Bytes
  relative_step r = path_text r.parts

  unfoldable pub test_said : Test → ByName Said
  test_said = fold-Test (ByName Said) (ByName Bytes) Steps Bytes (ByName Bytes) test_step compound_step part_step relative_step simple_step

  unfoldable pub compound_text : Compound → ByName Bytes
  compound_text = fold-Compound (ByName Said) (ByName Bytes) Steps Bytes (ByName Bytes) test_step compound_step part_step relative_step simple_step

  unfoldable pub part_steps : Part → Steps
  part_steps = fold-Part (ByName Said) (ByName Bytes) Steps Bytes (ByName Bytes) test_step compound_step part_step relative_step simple_step

  unfoldable pub relative_text : Relative → Bytes
  relative_text = fold-Relative (ByName Said) (ByName Bytes) Steps Bytes (ByName Bytes) test_step compound_step part_step relative_step simple_step

  unfoldable pub simple_text : Simple → ByName Bytes
  simple_text = fold-Simple (ByName Said) (ByName Bytes) Steps Bytes (ByName Bytes) test_step compound_step part_step relative_step simple_step
