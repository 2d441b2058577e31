-- Specificity. Selectors Level 3, section 9, and Selectors Level 4, section 17.
use Rattle.std.specs.Prelude.{ℕ, ◌+◌, Bool, ◌||◌, ◌&&◌, ◌==◌, ◌≤◌, nat_lt, if◌then◌else◌, List, [], ◌∷◌, map, Option, Some, None}
use Rattle.css_selectors.specs.declared.selector.Compound.{Compound}
use Rattle.css_selectors.specs.declared.selector.Part.{Part}
use Rattle.css_selectors.specs.declared.selector.Relative.{Relative}
use Rattle.css_selectors.specs.declared.selector.Selector.{Selector}
use Rattle.css_selectors.specs.declared.selector.Simple.{Simple}
use Rattle.css_selectors.specs.declared.selector.Tail.{Tail}
use Rattle.css_selectors.specs.declared.selector.Tail.TheVariants as tail
use Rattle.css_selectors.specs.declared.selector.Test.{Test}
use Rattle.css_selectors.specs.declared.selector.Test.TheFolds.{fold-Test, fold-Compound, fold-Part, fold-Relative, fold-Simple}
use Rattle.css_selectors.specs.declared.selector.Test.TheOpen as open_
use Rattle.css_selectors.specs.declared.selector.Triple.{Triple}
use Rattle.css_selectors.specs.declared.selector.Weight.{Weight}
use Rattle.css_selectors.specs.declared.selector.Weight.TheVariants as weight

-- an element's name
abbrev pub name_count : Option (List ℕ) → ℕ
name_count None = 0
name_count (Some n) = 1

abbrev pub tail_count : Tail → ℕ
tail_count tail.Element = 0
tail_count tail.Text = 1
tail_count (tail.Attr n) = 1

abbrev pub triple : ℕ → ℕ → ℕ → Triple
triple a b c = record { a = a; b = b; c = c }

abbrev pub none : Triple
none = triple 0 0 0

abbrev pub plus : Triple → Triple → Triple
plus s t = triple (s.a + t.a) (s.b + t.b) (s.c + t.c)

-- compared by a, then b, then c
abbrev pub is_less : Triple → Triple → Bool
is_less s t = nat_lt s.a t.a || ((s.a == t.a) && (nat_lt s.b t.b || ((s.b == t.b) && nat_lt s.c t.c)))

abbrev pub greater : Triple → Triple → Triple
greater s t = if is_less s t then t else s

abbrev pub sum_from : Triple → List Triple → Triple
sum_from s [] = s
sum_from s (t ∷ ts) = sum_from (plus s t) ts

abbrev pub greatest_from : Triple → List Triple → Triple
greatest_from s [] = s
greatest_from s (t ∷ ts) = greatest_from (greater s t) ts

-- the greatest, or nothing where there is none
abbrev pub greatest : List Triple → Triple
greatest ts = greatest_from none ts

abbrev pub weighed : Weight → List Triple → Triple
weighed weight.Most ts = greatest ts
weighed weight.Zero ts = none

-- ids, then classes, attributes and pseudo-classes, then types; a choice as the greatest of what it offers
abbrev pub test_triple_step : open_.Test-F Triple Triple Triple Triple Triple → Triple
test_triple_step (open_.Element n) = triple 0 0 (name_count n)
test_triple_step (open_.Id x) = triple 1 0 0
test_triple_step (open_.Class x) = triple 0 1 0
test_triple_step (open_.Attr a op v) = triple 0 1 0
test_triple_step (open_.Nth kind a b) = triple 0 1 0
test_triple_step (open_.Pseudo p) = triple 0 1 0
test_triple_step (open_.Contains x) = triple 0 1 0
test_triple_step (open_.Lang x) = triple 0 1 0
test_triple_step (open_.Any w list) = weighed w list
test_triple_step (open_.Has list) = greatest list

abbrev pub compound_triple_step : open_.Compound-F Triple Triple Triple Triple Triple → Triple
compound_triple_step c = sum_from (triple 0 0 (name_count c.element)) c.simples

abbrev pub part_triple_step : open_.Part-F Triple Triple Triple Triple Triple → Triple
part_triple_step p = sum_from (triple 0 0 (name_count p.element)) p.simples

abbrev pub relative_triple_step : open_.Relative-F Triple Triple Triple Triple Triple → Triple
relative_triple_step r = sum_from none r.parts

-- a negated simple counts as its test
abbrev pub simple_triple_step : open_.Simple-F Triple Triple Triple Triple Triple → Triple
simple_triple_step x = x.test

unfoldable pub test_triple : Test → Triple
test_triple = fold-Test Triple Triple Triple Triple Triple test_triple_step compound_triple_step part_triple_step relative_triple_step simple_triple_step

unfoldable pub compound_triple : Compound → Triple
compound_triple = fold-Compound Triple Triple Triple Triple Triple test_triple_step compound_triple_step part_triple_step relative_triple_step simple_triple_step

unfoldable pub part_triple : Part → Triple
part_triple = fold-Part Triple Triple Triple Triple Triple test_triple_step compound_triple_step part_triple_step relative_triple_step simple_triple_step

unfoldable pub relative_triple : Relative → Triple
relative_triple = fold-Relative Triple Triple Triple Triple Triple test_triple_step compound_triple_step part_triple_step relative_triple_step simple_triple_step

unfoldable pub simple_triple : Simple → Triple
simple_triple = fold-Simple Triple Triple Triple Triple Triple test_triple_step compound_triple_step part_triple_step relative_triple_step simple_triple_step

-- the parts of a selector together, and a type for a tail that is a pseudo-element
abbrev pub triple_of : Selector → Triple
triple_of s = sum_from (triple 0 0 (tail_count s.tail)) (map part_triple s.parts)

-- no count is more than n
pub record IsAtMost (n : ℕ) (t : Triple) : Type 0 where
  pub a : t.a ≤ n
  pub b : t.b ≤ n
  pub c : t.c ≤ n
