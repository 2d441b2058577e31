-- A text that has a fault is not accepted.
use Rattle.std.proofs.Common.{◌≡◌, ◌≢◌, ◌↔◌, ◌++◌, ℕ, Bool, false, List, Err, IsTrue, refl, arith, subst, sym}
use Rattle.std.proofs.lemmas.Bool.{both_ways}
use Rattle.css_lexer.specs.Laws.{IsReadOrStops}
use Rattle.css_lexer.specs.Tokens.{IsLexed, Lexes}
use Rattle.css_lexer.specs.declared.tokens.CssToken.{CssToken}
use Rattle.css_parser.specs.Laws.{IsListOrFault}
use Rattle.css_parser.specs.Selecting.{IsUnlisted}
use Rattle.text_base.specs.declared.reasons.SelectorFault.{SelectorFault}
use Rattle.text_base.specs.declared.reasons.SelectorFault.TheVariants as fault
use Rattle.text_base.specs.declared.reasons.XPathFault.{XPathFault}
use Rattle.text_base.specs.declared.reasons.XPathFault.TheVariants as xpath_fault
use Rattle.test_registry.specs.Names.{Known}
use Rattle.xpath_parser.specs.Faults.{IsFaultOver}
use Rattle.xpath_parser.specs.Laws.{IsReadOver, NeverBoth}
use Rattle.refusal_places.specs.SelectorPlaces.{GoesOnBy}
use Rattle.refusal_places.specs.inner.Accepted.{IsAccepted}

pub unaccepted : IsListOrFault → (text : List ℕ) (f : SelectorFault) → f ≢ fault.Memory → IsUnlisted text f → IsAccepted text → ⊥
unaccepted law text fault.Memory other _ _ = other refl
unaccepted law text fault.Long other is found = law text found.0 fault.Long found.1 is
unaccepted law text fault.Text other is found = law text found.0 fault.Text found.1 is
unaccepted law text fault.Syntax other is found = law text found.0 fault.Syntax found.1 is
unaccepted law text fault.XPathLong other is found = law text found.0 fault.XPathLong found.1 is
unaccepted law text fault.Prefix other is found = law text found.0 fault.Prefix found.1 is
unaccepted law text fault.UnknownPseudo other is found = law text found.0 fault.UnknownPseudo found.1 is
unaccepted law text fault.Nested other is found = law text found.0 fault.Nested found.1 is
unaccepted law text fault.OfType other is found = law text found.0 fault.OfType found.1 is
unaccepted law text fault.Number other is found = law text found.0 fault.Number found.1 is
unaccepted law text fault.PseudoElement other is found = law text found.0 fault.PseudoElement found.1 is

-- what is answered where a text has a fault
pub no_list : IsListOrFault → (text : List ℕ) (f : SelectorFault) (found : Bool) → (found ≡ false) × (f ≢ fault.Memory) → IsUnlisted text f → IsTrue found ↔ IsAccepted text
no_list law text f found said is = (λ yes. absurd (both_ways _ said.0 yes), λ list. absurd (unaccepted law text f said.1 is list))

pub unlexed : IsReadOrStops → (text : List ℕ) (f : SelectorFault) → f ≢ fault.Memory → IsLexed text (Err f) → (tokens : List CssToken) → Lexes text tokens → ⊥
unlexed law text fault.Memory other _ _ _ = other refl
unlexed law text fault.Long other is tokens lexes = absurd (let fits = lexes.fits in omega arith)
unlexed law text fault.Text other is tokens lexes = law text tokens lexes is
unlexed law text fault.Syntax other is tokens lexes = is
unlexed law text fault.XPathLong other is tokens lexes = is
unlexed law text fault.Prefix other is tokens lexes = is
unlexed law text fault.UnknownPseudo other is tokens lexes = is
unlexed law text fault.Nested other is tokens lexes = is
unlexed law text fault.OfType other is tokens lexes = is
unlexed law text fault.Number other is tokens lexes = is
unlexed law text fault.PseudoElement other is tokens lexes = is

pub no_expression : NeverBoth → (tests : Known) (text : List ℕ) (f : XPathFault) (found : Bool) → (found ≡ false) × (f ≢ xpath_fault.Memory) → (f ≢ xpath_fault.Memory → IsFaultOver tests text f) → IsTrue found ↔ IsReadOver tests text
no_expression law tests text f found said is =
    (λ yes. absurd (both_ways _ said.0 yes), λ read. absurd (law tests text read.expression f read.reads (is said.1)))

-- and where a beginning with an ending has one
pub no_beginning : IsReadOrStops → (beginning ending text : List ℕ) (f : SelectorFault) (found : Bool) → (found ≡ false) × (f ≢ fault.Memory) → text ≡ beginning ++ ending → IsLexed text (Err f) → IsTrue found ↔ GoesOnBy beginning ending
no_beginning law beginning ending text f found said e is =
    (λ yes. absurd (both_ways _ said.0 yes), λ goes. absurd (unlexed law text f said.1 is goes.tokens (subst (λ t. Lexes t goes.tokens) (sym e) goes.spelled)))
