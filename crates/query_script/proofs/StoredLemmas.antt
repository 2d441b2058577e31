-- The tests by which a script keeps items are stored.
use Rattle.std.proofs.Common.{◌≡◌, ℕ, Bool, true, List, [], ◌∷◌, sym, subst, inl, inr, ◌⊎◌}
use Rattle.std.specs.List.{AllByRecursion}
use Rattle.std.specs.Prelude.{Some, encode_utf8_all}
use Rattle.test_registry.specs.Kinds.{HasKind}
use Rattle.test_registry.specs.Names.{Known}
use Rattle.test_registry.proofs.Stored.{found_stored}
use Rattle.css_selectors.specs.declared.selector.Dialect.{Dialect}
use Rattle.query_script.specs.declared.script.Chain.{Chain}
use Rattle.query_script.specs.declared.script.Chain.TheVariants as chain
use Rattle.query_script.specs.declared.script.ChainStep.{ChainStep}
use Rattle.query_script.specs.declared.script.Field.{Field}
use Rattle.query_script.specs.declared.steps.RawStep.{RawStep}
use Rattle.query_script.specs.declared.steps.RawStep.TheVariants as raw
use Rattle.query_script.specs.Cuts.{fields_of}
use Rattle.query_script.specs.Names.{after_colon}
use Rattle.query_script.specs.Queries.{IsKept, AreKept}
use Rattle.query_script.specs.Ordered.{IsStepStored, AreStored, IsStoredChain, KeepsStored}
use Rattle.query_script.specs.Fields.{IsChain, IsUnnamedField, IsNamedField, IsFieldOver, AreFields, IsScriptOver}

module _ (tests : Known) (d : Dialect) where
  as_step : (s t : ChainStep) → s ≡ t → IsStepStored tests t → IsStepStored tests s
  as_step s t e h = let P : ChainStep → Type 0 = λ x. IsStepStored tests x in subst P (sym e) h

  pub step_stored : (nodes : Bool) (r : RawStep) (s : ChainStep) (after : Bool) → IsKept tests d nodes r s after → IsStepStored tests s
  step_stored nodes (raw.Css text) s after h = as_step s _ h.1.is tt
  step_stored nodes (raw.XPath text) s after h = as_step s _ h.1.is tt
  step_stored nodes (raw.Re text) s after h = as_step s _ h.is tt
  step_stored nodes (raw.Keep name text) s after h =
      let there : HasKind h.kind tests = found_stored (Some h.kind) tests (encode_utf8_all name) (sym h.stored) in
      as_step s _ h.is there

  steps_stored : (nodes : Bool) (steps : List RawStep) (kept : List ChainStep) → AreKept tests d nodes steps kept → AreStored tests kept
  steps_stored nodes [] [] h = tt
  steps_stored nodes [] (s ∷ kept) h = absurd h
  steps_stored nodes (r ∷ steps) [] h = absurd h
  steps_stored nodes (r ∷ steps) (s ∷ kept) h = (step_stored nodes r s h.0 h.1.0, steps_stored h.0 steps kept h.1.1)

  chain_stored : (text : List ℕ) (c : Chain) → IsChain tests d text c → IsStoredChain tests c
  chain_stored text (chain.Steps kept take) h = steps_stored true h.steps kept h.keeps
  chain_stored text (chain.Refused why) h = tt

  pub field_stored : (piece : List ℕ) (field : Field) → IsFieldOver tests d piece field → KeepsStored tests field
  field_stored piece field h = by_name h.reads
    where
      by_name : IsUnnamedField piece field ⊎ IsNamedField tests d piece field → KeepsStored tests field
      by_name (inl none) = let P : Chain → Type 0 = λ c. IsStoredChain tests c in subst P (sym none.is) tt
      by_name (inr some) = chain_stored (after_colon piece) field.chain some.is

  pub fields_stored : (pieces : List (List ℕ)) (fields : List Field) → AreFields tests d pieces fields → AllByRecursion (KeepsStored tests) fields
  fields_stored [] [] h = tt
  fields_stored [] (f ∷ fields) h = absurd h
  fields_stored (p ∷ pieces) [] h = absurd h
  fields_stored (p ∷ pieces) (f ∷ fields) h = (field_stored p f h.0, fields_stored pieces fields h.1)

  pub script_stored : (text : List ℕ) (fields : List Field) → IsScriptOver tests d text fields → AllByRecursion (KeepsStored tests) fields
  script_stored text fields h = fields_stored (fields_of text) fields h.are
