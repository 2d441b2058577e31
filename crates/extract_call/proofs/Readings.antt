-- Each text is one list, or is refused for one reason.
use Rattle.std.proofs.Common.{◌≡◌, refl, ℕ, ◌<◌, ◌≤◌, Bool, true, false, List, sym, ◌∙◌, arith, inl, inr, ◌⊎◌}
use Rattle.std.specs.Prelude.{nat_le}
use Rattle.std.proofs.lemmas.Bool.Decides.{nat_tests}
use Rattle.text_base.specs.declared.reasons.SelectorFault.{SelectorFault}
use Rattle.text_base.specs.declared.reasons.SelectorFault.TheVariants as fault
use Rattle.css_selectors.specs.declared.selector.Dialect.{Dialect}
use Rattle.css_selectors.specs.declared.selector.SelectorList.{SelectorList}
use Rattle.css_parser.specs.Selecting.{Accepts, IsFault}
use Rattle.extract_call.specs.Below.{Below}
use Rattle.query_script.specs.Queries.{IsCssFault, IsXPathLong}
use Rattle.extract_call.specs.Laws.{OneReading}
use Rattle.json_lines.specs.Lines.{IsSmall}
use Rattle.std.specs.List.{AllByRecursion}
use Rattle.std.proofs.lemmas.List.Elements.{All-weaker, recursion_from_All}
use Rattle.css_selectors.specs.WellMade.{WellMade, IsSelector}

-- the text is no list, or its XPath is too long
pub split : (d : Dialect) (text : List ℕ) (why : SelectorFault) → IsCssFault d text why → ((why ≡ fault.XPathLong) × IsXPathLong d text) ⊎ IsFault text why
split d text fault.XPathLong h = inl (refl, h)
split d text _ h = inr h

refused_for : (d : Dialect) (text : List ℕ) (why : SelectorFault) → IsFault text why → IsCssFault d text why
refused_for d text fault.XPathLong h = absurd h
refused_for d text _ h = h

at_most : (a b : ℕ) → nat_le a b ≡ true → a ≤ b
at_most a b h = grind (arith, nat_tests)

more_than : (a b : ℕ) → nat_le a b ≡ false → b < a
more_than a b h = grind (arith, nat_tests)

pub within_or_past : (a b : ℕ) → (a ≤ b) ⊎ (b < a)
within_or_past a b = by_test (nat_le a b) refl
  where
    by_test : (t : Bool) → nat_le a b ≡ t → (a ≤ b) ⊎ (b < a)
    by_test true e = inl (at_most a b e)
    by_test false e = inr (more_than a b e)

-- the triples of a well-made list fit 32 bits
pub all_small : (list : SelectorList) → WellMade list → AllByRecursion IsSmall list.items
all_small list h = recursion_from_All IsSmall list.items (All-weaker IsSelector IsSmall (λ s is. is.size) list.items h.each)

-- ---- what follows from what the crates below promise

module _ (below : Below) where
  pub one_or_other : (d : Dialect) (text : List ℕ) (list : SelectorList) → Accepts text list → (why : SelectorFault) → IsCssFault d text why → why ≡ fault.XPathLong
  one_or_other d text list h why r = elim (split d text why r) [
    | inl long ↦ long.0
    | inr cause ↦ absurd (below.list_or_fault text list why h cause)
  ]

  pub one_reason : (d : Dialect) (text : List ℕ) (a b : SelectorFault) → IsCssFault d text a → IsCssFault d text b → a ≡ b
  one_reason d text a b h g = elim (split d text a h) [
    | inl long ↦ long.0 ∙ sym (one_or_other d text long.1.list long.1.accepted b g)
    | inr cause ↦ by_other cause (split d text b g)
  ]
    where
      by_other : IsFault text a → ((b ≡ fault.XPathLong) × IsXPathLong d text) ⊎ IsFault text b → a ≡ b
      by_other cause (inl long) = one_or_other d text long.1.list long.1.accepted a h ∙ sym long.0
      by_other cause (inr other) = below.one_list_fault text a b cause other

  pub some_reading : (d : Dialect) (text : List ℕ) → ((a : SelectorList) × Accepts text a) ⊎ ((why : SelectorFault) × IsCssFault d text why)
  some_reading d text = elim (below.some_list text) [
    | inl list ↦ inl list
    | inr why ↦ inr (why.0, refused_for d text why.0 why.1)
  ]

  pub one_reading : (d : Dialect) (text : List ℕ) → OneReading d text
  one_reading d text = record {
    one_list = below.one_list text;
    one_reason = one_reason d text;
    one_or_other = one_or_other d text;
    some = some_reading d text;
  }
