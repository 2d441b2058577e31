-- A step is kept as one, or refused for one reason, and not both.
use Rattle.std.proofs.Common.{◌≡◌, ℕ, Bool, true, false, List, length, refl, sym, ◌∙◌, ap, arith, inl, inr, ◌⊎◌}
use Rattle.std.specs.Prelude.{Option, Some, encode_utf8_all}
use Rattle.std.specs.Str.{chars}
use Rattle.text_base.specs.declared.reasons.SelectorFault.{SelectorFault}
use Rattle.text_base.specs.declared.reasons.SelectorFault.TheVariants as fault
use Rattle.text_base.specs.declared.reasons.XPathFault.{XPathFault}
use Rattle.test_registry.specs.declared.kinds.TestKind.{TestKind}
use Rattle.test_registry.specs.Names.{Known}
use Rattle.css_selectors.specs.declared.selector.Dialect.{Dialect}
use Rattle.css_selectors.specs.declared.selector.SelectorList.{SelectorList}
use Rattle.css_parser.specs.Selecting.{Accepts, IsFault}
use Rattle.css_parser.proofs.SelectingLemmas.{one_reading, one_fault, list_or_fault}
use Rattle.css_printed.specs.Printed.{printed}
use Rattle.xpath_parser.specs.Faults.{IsFaultOver}
use Rattle.xpath_parser.specs.Laws.{NeverBoth}
use Rattle.xpath_parser.specs.Shapes.{is_nodes, shape_of}
use Rattle.xpath_parser.proofs.Complete.{one_expression_over}
use Rattle.xpath_parser.proofs.Refused.{one_fault_over}
use Rattle.query_script.specs.declared.script.ChainStep.{ChainStep}
use Rattle.query_script.specs.declared.script.ChainStep.TheVariants as step
use Rattle.query_script.specs.declared.script.Reason.{Reason}
use Rattle.query_script.specs.declared.script.Reason.TheVariants as reason
use Rattle.query_script.specs.declared.steps.RawStep.{RawStep}
use Rattle.query_script.specs.declared.steps.RawStep.TheVariants as raw
use Rattle.query_script.specs.Queries.{IsCssStep, IsXPathStep, IsKeepStep, IsKept, IsXPathLong, IsCssFault, IsCssRefused, IsXPathRefused, IsRefused}

-- ---- selectors

-- the text is no list of selectors, or its XPath is too long
css_cause : (d : Dialect) (text : List ℕ) (f : SelectorFault) → IsCssFault d text f → ((f ≡ fault.XPathLong) × IsXPathLong d text) ⊎ IsFault text f
css_cause d text fault.XPathLong h = inl (refl, h)
css_cause d text _ h = inr h

-- whichever list is accepted, its XPath is too long
long_for : (d : Dialect) (text : List ℕ) (l : SelectorList) → Accepts text l → (f : SelectorFault) → IsCssFault d text f → (f ≡ fault.XPathLong) × IsXPathLong d text
long_for d text l h f r = elim (css_cause d text f r) [
  | inl long ↦ long
  | inr cause ↦ absurd (list_or_fault text l f h cause)
]

css_one_fault : (d : Dialect) (text : List ℕ) (f g : SelectorFault) → IsCssFault d text f → IsCssFault d text g → f ≡ g
css_one_fault d text f g h k = elim (css_cause d text f h) [
  | inl long ↦ long.0 ∙ sym (long_for d text long.1.list long.1.accepted g k).0
  | inr cause ↦ by_other cause (css_cause d text g k)
]
  where
    by_other : IsFault text f → ((g ≡ fault.XPathLong) × IsXPathLong d text) ⊎ IsFault text g → f ≡ g
    by_other cause (inl long) = (long_for d text long.1.list long.1.accepted f h).0 ∙ sym long.0
    by_other cause (inr other) = one_fault text f g cause other

css_not_both : (d : Dialect) (text : List ℕ) (s : ChainStep) (nodes : Bool) (f : SelectorFault) → IsCssStep d text s nodes → IsCssFault d (encode_utf8_all text) f → ⊥
css_not_both d text s nodes f h r =
    let long = (long_for d (encode_utf8_all text) h.list h.accepted f r).1 in
    let same : printed d long.list ≡ printed d h.list = ap (printed d) (one_reading (encode_utf8_all text) long.list h.list long.accepted h.accepted) in
    let short = h.short in
    let over = long.long in
    let n : length (printed d long.list) ≡ length (printed d h.list) = ap length same in
    omega arith

css_same : (d : Dialect) (text : List ℕ) (s t : ChainStep) (n m : Bool) → IsCssStep d text s n → IsCssStep d text t m → (s ≡ t) × (n ≡ m)
css_same d text s t n m h g =
    let same : printed d h.list ≡ printed d g.list = ap (printed d) (one_reading (encode_utf8_all text) h.list g.list h.accepted g.accepted) in
    (h.is ∙ (ap (λ x. step.Query (chars x)) same ∙ sym g.is), h.shape ∙ sym g.shape)

css_reason : (d : Dialect) (text : List ℕ) (why : Reason) → IsCssRefused d text why → (f : SelectorFault) × ((why ≡ reason.Css f) × IsCssFault d (encode_utf8_all text) f)
css_reason d text (reason.Css f) h = (f, (refl, h))
css_reason d text _ h = absurd h

css_one_reason : (d : Dialect) (text : List ℕ) (why other : Reason) → IsCssRefused d text why → IsCssRefused d text other → why ≡ other
css_one_reason d text why other h g =
    let a = css_reason d text why h in
    let b = css_reason d text other g in
    a.1.0 ∙ (ap reason.Css (css_one_fault d (encode_utf8_all text) a.0 b.0 a.1.1 b.1.1) ∙ sym b.1.0)

-- ---- XPath texts and tests

module _ (tests : Known) where
  xpath_same : (text : List ℕ) (s t : ChainStep) (n m : Bool) → IsXPathStep tests text s n → IsXPathStep tests text t m → (s ≡ t) × (n ≡ m)
  xpath_same text s t n m h g =
      let same : is_nodes (shape_of h.expression) ≡ is_nodes (shape_of g.expression) = ap (λ x. is_nodes (shape_of x)) (one_expression_over tests (encode_utf8_all text) h.expression g.expression h.reads g.reads) in
      (h.is ∙ sym g.is, h.shape ∙ (same ∙ sym g.shape))

  xpath_reason : (text : List ℕ) (why : Reason) → IsXPathRefused tests text why → (f : XPathFault) × ((why ≡ reason.XPath f) × IsFaultOver tests (encode_utf8_all text) f)
  xpath_reason text (reason.XPath f) h = (f, (refl, h))
  xpath_reason text _ h = absurd h

  xpath_one_reason : (text : List ℕ) (why other : Reason) → IsXPathRefused tests text why → IsXPathRefused tests text other → why ≡ other
  xpath_one_reason text why other h g =
      let a = xpath_reason text why h in
      let b = xpath_reason text other g in
      a.1.0 ∙ (ap reason.XPath (one_fault_over tests (encode_utf8_all text) a.0 b.0 a.1.1 b.1.1) ∙ sym b.1.0)

  keep_same : (nodes : Bool) (name text : List ℕ) (s t : ChainStep) (n m : Bool) → IsKeepStep tests nodes name text s n → IsKeepStep tests nodes name text t m → (s ≡ t) × (n ≡ m)
  keep_same nodes name text s t n m h g =
      let found : ◌≡◌ {A = Option TestKind} (Some h.kind) (Some g.kind) = sym h.stored ∙ g.stored in
      let same : h.kind ≡ g.kind = cc in
      (h.is ∙ (ap (λ k. step.Keep k text) same ∙ sym g.is), h.shape ∙ sym g.shape)

  -- ---- steps

  module _ (d : Dialect) where
    pub one_kept : (nodes : Bool) (r : RawStep) (s t : ChainStep) (n m : Bool) → IsKept tests d nodes r s n → IsKept tests d nodes r t m → (s ≡ t) × (n ≡ m)
    one_kept nodes (raw.Css text) s t n m h g = css_same d text s t n m h.1 g.1
    one_kept nodes (raw.XPath text) s t n m h g = xpath_same text s t n m h.1 g.1
    one_kept nodes (raw.Re text) s t n m h g = (h.is ∙ sym g.is, h.shape ∙ sym g.shape)
    one_kept nodes (raw.Keep name text) s t n m h g = keep_same nodes name text s t n m h g

    pub one_refused : (nodes : Bool) (r : RawStep) (why other : Reason) → IsRefused tests d nodes r why → IsRefused tests d nodes r other → why ≡ other
    one_refused true (raw.Css text) why other h g = css_one_reason d text why other h g
    one_refused false (raw.Css text) why other h g = h ∙ sym g
    one_refused true (raw.XPath text) why other h g = xpath_one_reason text why other h g
    one_refused false (raw.XPath text) why other h g = h ∙ sym g
    one_refused nodes (raw.Re text) why other h g = absurd h
    one_refused nodes (raw.Keep name text) why other h g = h.0 ∙ sym g.0

    module _ (never_both : NeverBoth) where
      xpath_not_both : (text : List ℕ) (s : ChainStep) (n : Bool) (why : Reason) → IsXPathStep tests text s n → IsXPathRefused tests text why → ⊥
      xpath_not_both text s n why h g = let a = xpath_reason text why g in never_both tests (encode_utf8_all text) h.expression a.0 h.reads a.1.1

      pub kept_or_refused : (nodes : Bool) (r : RawStep) (s : ChainStep) (n : Bool) (why : Reason) → IsKept tests d nodes r s n → IsRefused tests d nodes r why → ⊥
      kept_or_refused true (raw.Css text) s n why h g = let a = css_reason d text why g in css_not_both d text s n a.0 h.1 a.1.1
      kept_or_refused false (raw.Css text) s n why h g = let no : false ≡ true = h.0 in cc
      kept_or_refused true (raw.XPath text) s n why h g = xpath_not_both text s n why h.1 g
      kept_or_refused false (raw.XPath text) s n why h g = let no : false ≡ true = h.0 in cc
      kept_or_refused nodes (raw.Re text) s n why h g = g
      kept_or_refused nodes (raw.Keep name text) s n why h g = let stored = h.stored in let missing = g.1 in cc
