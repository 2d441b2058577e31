-- What is kept where no tests are stored is kept alike where some are.
use Rattle.std.proofs.Common.{◌≡◌, ℕ, Bool, true, List, [], ◌∷◌, sym, subst, inl, inr, ◌⊎◌}
use Rattle.std.specs.Prelude.{encode_utf8_all}
use Rattle.test_registry.specs.Names.{Known}
use Rattle.css_selectors.specs.declared.selector.Dialect.{Dialect}
use Rattle.xpath_parser.proofs.MoreTerms as terms
use Rattle.query_script.specs.declared.script.Chain.{Chain}
use Rattle.query_script.specs.declared.script.Chain.TheVariants as chain
use Rattle.query_script.specs.declared.script.ChainStep.{ChainStep}
use Rattle.query_script.specs.declared.script.Field.{Field}
use Rattle.query_script.specs.declared.script.Take.{Take}
use Rattle.query_script.specs.declared.steps.RawStep.{RawStep}
use Rattle.query_script.specs.declared.steps.RawStep.TheVariants as raw
use Rattle.query_script.specs.Names.{after_colon}
use Rattle.query_script.specs.Queries.{IsKept, AreKept}
use Rattle.query_script.specs.Fields.{IsAccepted, IsChain, IsUnnamedField, IsNamedField, IsField, IsFieldOver}

module _ (tests : Known) (d : Dialect) where
  kept_more : (nodes : Bool) (r : RawStep) (s : ChainStep) (after : Bool) → IsKept [] d nodes r s after → IsKept tests d nodes r s after
  kept_more nodes (raw.Css text) s after h = h
  kept_more nodes (raw.XPath text) s after h = (h.0, record { expression = h.1.expression; reads = terms.reads_more tests (encode_utf8_all text) h.1.expression h.1.reads; is = h.1.is; shape = h.1.shape })
  kept_more nodes (raw.Re text) s after h = h
  kept_more nodes (raw.Keep name text) s after h = let no = h.stored in cc

  all_more : (nodes : Bool) (steps : List RawStep) (kept : List ChainStep) → AreKept [] d nodes steps kept → AreKept tests d nodes steps kept
  all_more nodes [] [] h = tt
  all_more nodes [] (s ∷ kept) h = absurd h
  all_more nodes (r ∷ steps) [] h = absurd h
  all_more nodes (r ∷ steps) (s ∷ kept) h = (h.0, (kept_more nodes r s h.0 h.1.0, all_more h.0 steps kept h.1.1))

  accepted_more : (text : List ℕ) (kept : List ChainStep) (take : Take) → IsAccepted [] d text kept take → IsAccepted tests d text kept take
  accepted_more text kept take h = record { steps = h.steps; written = h.written; keeps = all_more true h.steps kept h.keeps }

  pub field_more : (piece : List ℕ) (field : Field) (kept : List ChainStep) (take : Take) → IsField d piece field → field.chain ≡ chain.Steps kept take → IsFieldOver tests d piece field
  field_more piece field kept take h e = record { name = h.name; reads = by_name h.reads }
    where
      by_name : IsUnnamedField piece field ⊎ IsNamedField [] d piece field → IsUnnamedField piece field ⊎ IsNamedField tests d piece field
      by_name (inl none) = inl none
      by_name (inr some) =
          let P : Chain → Type 0 = λ c. IsChain [] d (after_colon piece) c in
          let Q : Chain → Type 0 = λ c. IsChain tests d (after_colon piece) c in
          inr (record { named = some.named; is = subst Q (sym e) (accepted_more (after_colon piece) kept take (subst P e some.is)) })
