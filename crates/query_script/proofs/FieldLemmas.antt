-- Fields, one after the other.
use Rattle.std.proofs.Common.{◌≡◌, ℕ, ◌+◌, ◌<◌, Bool, true, false, List, [], ◌∷◌, ◌++◌, length, take, get_or, refl, sym, ◌∙◌, ap, subst, map, inl, inr}
use Rattle.std.specs.Prelude.{Some, None}
use Rattle.std.specs.List.{AllByRecursion}
use Rattle.std.specs.Str.{chars}
use Rattle.std.proofs.lemmas.List.{take_more, map-append}
use Rattle.test_registry.specs.Names.{Known}
use Rattle.css_selectors.specs.declared.selector.Dialect.{Dialect}
use Rattle.query_script.specs.declared.script.Chain.{Chain}
use Rattle.query_script.specs.declared.script.Chain.TheVariants as chain
use Rattle.query_script.specs.declared.script.Field.{Field}
use Rattle.query_script.specs.declared.script.Reason.{Reason}
use Rattle.query_script.specs.declared.script.Reason.TheVariants as reason
use Rattle.query_script.specs.declared.script.Take.{Take}
use Rattle.query_script.specs.declared.steps.RawStep.{RawStep}
use Rattle.query_script.specs.declared.steps.RawStep.TheVariants as raw
use Rattle.query_script.specs.Names.{is_named, name_of, label, after_colon}
use Rattle.query_script.specs.Steps.{IsChainText}
use Rattle.query_script.specs.Queries.{IsRefused, IsFirstRefusal}
use Rattle.query_script.specs.Fields.{IsRefusedChain, IsChain, IsFieldOver, AreFields}
use Rattle.query_script.specs.inner.Reader.{read_chain, AreFound}
use Rattle.query_script.proofs.ChainLemmas.{chain_sound, no_chain}

-- ---- one chain

module _ (tests : Known) (d : Dialect) where
  -- no step is refused for a reason of a name or of a chain
  named_step : (nodes : Bool) (s : RawStep) → IsRefused tests d nodes s reason.Name → ⊥
  named_step true (raw.Css text) h = h
  named_step false (raw.Css text) h = let no : reason.Name ≡ reason.Order = h in cc
  named_step true (raw.XPath text) h = h
  named_step false (raw.XPath text) h = let no : reason.Name ≡ reason.Order = h in cc
  named_step nodes (raw.Re text) h = h
  named_step nodes (raw.Keep name text) h = let no : reason.Name ≡ reason.Test = h.0 in cc

  chained_step : (nodes : Bool) (s : RawStep) → IsRefused tests d nodes s reason.Chain → ⊥
  chained_step true (raw.Css text) h = h
  chained_step false (raw.Css text) h = let no : reason.Chain ≡ reason.Order = h in cc
  chained_step true (raw.XPath text) h = h
  chained_step false (raw.XPath text) h = let no : reason.Chain ≡ reason.Order = h in cc
  chained_step nodes (raw.Re text) h = h
  chained_step nodes (raw.Keep name text) h = let no : reason.Chain ≡ reason.Test = h.0 in cc

  -- so no list of steps is, where none of them is
  module _ (why : Reason) (never : (nodes : Bool) (s : RawStep) → IsRefused tests d nodes s why → ⊥) where
    no_refusal : (nodes : Bool) (steps : List RawStep) → IsFirstRefusal tests d nodes steps why → ⊥
    no_refusal nodes [] h = h
    no_refusal nodes (s ∷ steps) h = elim h [
      | inl here ↦ never nodes s here
      | inr later ↦ no_refusal later.1.0 steps later.1.1.1
    ]

  refused_chain : (text : List ℕ) (why : Reason) → IsRefusedChain tests d text why → IsChain tests d text (chain.Refused why)
  refused_chain text reason.Name r = absurd (no_refusal reason.Name named_step true r.steps r.first)
  refused_chain text reason.Chain r = absurd (no_refusal reason.Chain chained_step true r.steps r.first)
  refused_chain text reason.Order r = r
  refused_chain text reason.Test r = r
  refused_chain text reason.Block r = r
  refused_chain text reason.Twice r = r
  refused_chain text reason.Selection r = r
  refused_chain text reason.Output r = r
  refused_chain text reason.Pattern r = r
  refused_chain text (reason.Css f) r = r
  refused_chain text (reason.XPath f) r = r

  pub chain_none : (text : List ℕ) → None ≡ read_chain text → IsChain tests d text (chain.Refused reason.Chain)
  chain_none text e = no_chain text (sym e)

  pub chain_some : (text : List ℕ) (steps : List RawStep) (t : Take) (c : Chain) → Some (steps, t) ≡ read_chain text → AreFound tests d steps t c → IsChain tests d text c
  chain_some text steps t (chain.Steps kept end) e h =
      let P : Take → Type 0 = λ x. IsChainText text steps x in
      record { steps = steps; written = subst P (sym h.1) (chain_sound text steps t (sym e)); keeps = h.0 }
  chain_some text steps t (chain.Refused why) e h = refused_chain text why (record { steps = steps; take = t; written = chain_sound text steps t (sym e); first = h })

-- ---- one field

pub named : (piece : List ℕ) → is_named piece ≡ true → chars (label piece) ≡ name_of piece
named piece e = rw e refl

pub unnamed : (piece : List ℕ) → is_named piece ≡ false → [] ≡ name_of piece
unnamed piece e = rw e refl

-- a name and what stands after its colon
pub is_field : (tests : Known) (d : Dialect) (piece word rest name : List ℕ) (c : Chain) → is_named piece ≡ true → word ≡ label piece → rest ≡ after_colon piece → name ≡ chars word → IsChain tests d rest c →
    IsFieldOver tests d piece (record { name = name; chain = c })
is_field tests d piece word rest name c e w r n h =
    let P : List ℕ → Type 0 = λ t. IsChain tests d t c in
    record { name = n ∙ (ap chars w ∙ named piece e); reads = inr (record { named = e; is = subst P r h }) }

-- ---- all fields

module _ (tests : Known) (d : Dialect) where
  fields_push : (pieces : List (List ℕ)) (fields : List Field) (p : List ℕ) (f : Field) → AreFields tests d pieces fields → IsFieldOver tests d p f → AreFields tests d (pieces ++ p ∷ []) (fields ++ f ∷ [])
  fields_push [] [] p f h g = (g, tt)
  fields_push [] (x ∷ fields) p f h g = absurd h
  fields_push (q ∷ pieces) [] p f h g = absurd h
  fields_push (q ∷ pieces) (x ∷ fields) p f h g = (h.0, fields_push pieces fields p f h.1 g)

  pub fields_more : {A : Type 0} (read : A → List ℕ) (all : List A) (i : ℕ) (x : A) (fields : List Field) (f : Field) → AreFields tests d (map read (take i all)) fields → i < length all →
      IsFieldOver tests d (read (get_or all i x)) f → AreFields tests d (map read (take (i + 1) all)) (fields ++ f ∷ [])
  fields_more {A} read all i x fields f h l g =
      let P : List (List ℕ) → Type 0 = λ ps. AreFields tests d ps (fields ++ f ∷ []) in
      subst P (sym (ap (map read) (take_more all i x l) ∙ map-append read (take i all) (get_or all i x ∷ []))) (fields_push (map read (take i all)) fields (read (get_or all i x)) f h g)

-- one field more of which the same holds
pub all_push : (P : Field → Type 0) (fields : List Field) (f : Field) → AllByRecursion P fields → P f → AllByRecursion P (fields ++ f ∷ [])
all_push P [] f h g = (g, tt)
all_push P (x ∷ fields) f h g = (h.0, all_push P fields f h.1 g)
