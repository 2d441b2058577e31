-- The reasons that a field of a script may have.
use Rattle.std.proofs.Common.{◌≡◌, ◌≢◌, ℕ, Bool, true, false, List, [], ◌∷◌, sym, ◌∙◌, ap, subst, inl, inr, ◌⊎◌}
use Rattle.std.specs.Prelude.{Some, None, encode_utf8_all, if◌then◌else◌}
use Rattle.text_base.specs.declared.reasons.SelectorFault.{SelectorFault}
use Rattle.text_base.specs.declared.reasons.SelectorFault.TheVariants as selector
use Rattle.text_base.specs.declared.reasons.XPathFault.{XPathFault}
use Rattle.text_base.specs.declared.reasons.XPathFault.TheVariants as xpath
use Rattle.test_registry.specs.Names.{Known}
use Rattle.css_selectors.specs.declared.selector.Dialect.{Dialect}
use Rattle.xpath_parser.specs.declared.term.Term.{Term}
use Rattle.xpath_parser.specs.declared.term.Term.TheVariants as t
use Rattle.xpath_parser.specs.Shapes.{takes}
use Rattle.xpath_parser.specs.Terms.{terms_over}
use Rattle.xpath_parser.specs.Faults as faults
use Rattle.xpath_parser.specs.Faults.{IsFaultOver, first_fault, or_later, argument_count}
use Rattle.query_script.specs.declared.script.Chain.{Chain}
use Rattle.query_script.specs.declared.script.Chain.TheVariants as chain
use Rattle.query_script.specs.declared.script.Field.{Field}
use Rattle.query_script.specs.declared.script.Reason.{Reason}
use Rattle.query_script.specs.declared.script.Reason.TheVariants as reason
use Rattle.query_script.specs.declared.steps.RawStep.{RawStep}
use Rattle.query_script.specs.declared.steps.RawStep.TheVariants as raw
use Rattle.query_script.specs.Queries.{IsCssFault, IsCssRefused, IsXPathRefused, IsRefused, IsFirstRefusal}
use Rattle.query_script.specs.Names.{after_colon}
use Rattle.query_script.specs.Fields.{IsChain, IsFieldOver, IsUnnamedField, IsNamedField, IsFieldReason}

-- no text is refused for want of memory
no_term : (ts : List Term) → first_fault ts ≡ Some xpath.Memory → ⊥
no_term [] h = cc
no_term (t.Fraction ∷ ts) h = cc
no_term (t.TooLarge ∷ ts) h = cc
no_term (t.Div ∷ ts) h = cc
no_term (t.Variable ∷ ts) h = cc
no_term (t.Prefixed ∷ ts) h = cc
no_term (t.UnknownFunction ∷ ts) h = cc
no_term (t.Function g ∷ ts) h = by_count (takes g (argument_count ts)) (λ k. no_term ts k) h
  where
    by_count : (v : Bool) → (first_fault ts ≡ Some xpath.Memory → ⊥) → or_later (if v then None else Some xpath.Arguments) (first_fault ts) ≡ Some xpath.Memory → ⊥
    by_count true go e = go e
    by_count false go e = cc
no_term (_ ∷ ts) h = no_term ts h

not_for_memory : (tests : Known) (text : List ℕ) (f : XPathFault) → IsFaultOver tests text f → f ≢ xpath.Memory
not_for_memory tests text f (faults.too_long l) = λ e. cc
not_for_memory tests text f (faults.unspelled l n) = λ e. cc
not_for_memory tests text f (faults.too_deep l s n) = λ e. cc
not_for_memory tests text f (faults.unread fit n) = λ e. cc
not_for_memory tests text f (faults.at_token {ws = ws} fit r h) = λ e. no_term (terms_over tests ws) (h ∙ ap Some e)
not_for_memory tests text f (faults.wrong_type fit r n w) = λ e. cc

css_not_for_memory : (d : Dialect) (text : List ℕ) (f : SelectorFault) → IsCssFault d text f → f ≢ selector.Memory
css_not_for_memory d text selector.Memory h = absurd h
css_not_for_memory d text selector.Long h = λ e. cc
css_not_for_memory d text selector.Text h = λ e. cc
css_not_for_memory d text selector.Syntax h = λ e. cc
css_not_for_memory d text selector.Prefix h = λ e. cc
css_not_for_memory d text selector.UnknownPseudo h = λ e. cc
css_not_for_memory d text selector.PseudoElement h = λ e. cc
css_not_for_memory d text selector.Nested h = λ e. cc
css_not_for_memory d text selector.OfType h = λ e. cc
css_not_for_memory d text selector.Number h = λ e. cc
css_not_for_memory d text selector.XPathLong h = λ e. cc

of_css : (d : Dialect) (text : List ℕ) (why : Reason) → IsCssRefused d text why → IsFieldReason why
of_css d text (reason.Css f) h = css_not_for_memory d (encode_utf8_all text) f h
of_css d text _ h = absurd h

alone : (one why : Reason) → why ≡ one → IsFieldReason one → IsFieldReason why
alone one why e h = let P : Reason → Type 0 = λ r. IsFieldReason r in subst P (sym e) h

module _ (tests : Known) (d : Dialect) where
  of_xpath : (text : List ℕ) (why : Reason) → IsXPathRefused tests text why → IsFieldReason why
  of_xpath text (reason.XPath f) h = not_for_memory tests (encode_utf8_all text) f h
  of_xpath text _ h = absurd h

  of_step : (nodes : Bool) (r : RawStep) (why : Reason) → IsRefused tests d nodes r why → IsFieldReason why
  of_step true (raw.Css text) why h = of_css d text why h
  of_step false (raw.Css text) why h = alone reason.Order why h tt
  of_step true (raw.XPath text) why h = of_xpath text why h
  of_step false (raw.XPath text) why h = alone reason.Order why h tt
  of_step nodes (raw.Re text) why h = absurd h
  of_step nodes (raw.Keep name text) why h = alone reason.Test why h.0 tt

  of_first : (nodes : Bool) (steps : List RawStep) (why : Reason) → IsFirstRefusal tests d nodes steps why → IsFieldReason why
  of_first nodes [] why h = absurd h
  of_first nodes (r ∷ steps) why h = elim h [
    | inl here ↦ of_step nodes r why here
    | inr later ↦ of_first later.1.0 steps why later.1.1.1
  ]

  of_chain : (text : List ℕ) (why : Reason) → IsChain tests d text (chain.Refused why) → IsFieldReason why
  of_chain text reason.Name h = absurd h
  of_chain text reason.Chain h = tt
  of_chain text reason.Order h = tt
  of_chain text reason.Test h = tt
  of_chain text reason.Block h = of_first true h.steps reason.Block h.first
  of_chain text reason.Twice h = of_first true h.steps reason.Twice h.first
  of_chain text reason.Selection h = of_first true h.steps reason.Selection h.first
  of_chain text reason.Output h = of_first true h.steps reason.Output h.first
  of_chain text reason.Pattern h = of_first true h.steps reason.Pattern h.first
  of_chain text (reason.Css f) h = of_first true h.steps (reason.Css f) h.first
  of_chain text (reason.XPath f) h = of_first true h.steps (reason.XPath f) h.first

  pub of_field : (piece : List ℕ) (field : Field) (why : Reason) → IsFieldOver tests d piece field → field.chain ≡ chain.Refused why → IsFieldReason why
  of_field piece field why h e = by_name h.reads
    where
      name_alone : (r : Reason) → chain.Refused r ≡ chain.Refused reason.Name → IsFieldReason r
      name_alone r g = let same : r ≡ reason.Name = cc in alone reason.Name r same tt

      by_name : IsUnnamedField piece field ⊎ IsNamedField tests d piece field → IsFieldReason why
      by_name (inl none) = name_alone why (sym e ∙ none.is)
      by_name (inr some) = let P : Chain → Type 0 = λ c. IsChain tests d (after_colon piece) c in of_chain (after_colon piece) why (subst P e some.is)
