-- Each text reads as fields or is refused as a whole.
use Rattle.std.proofs.Common.{◌≡◌, ℕ, ◌<◌, ◌≤◌, Bool, true, false, List, [], ◌∷◌, length, refl, sym, inl, inr, ◌⊎◌}
use Rattle.std.specs.Prelude.{Option, Some, None, encode_utf8_all}
use Rattle.std.specs.Str.{chars}
use Rattle.std.proofs.lemmas.Bool.{cases_lt}
use Rattle.text_base.specs.Names.{named_in}
use Rattle.text_base.specs.declared.reasons.ScriptFault.{ScriptFault}
use Rattle.text_base.specs.declared.reasons.ScriptFault.TheVariants as script
use Rattle.text_base.specs.declared.reasons.SelectorFault.{SelectorFault}
use Rattle.text_base.specs.declared.reasons.SelectorFault.TheVariants as fault
use Rattle.test_registry.specs.declared.kinds.TestKind.{TestKind}
use Rattle.test_registry.specs.Names.{Known}
use Rattle.css_selectors.specs.declared.selector.Dialect.{Dialect}
use Rattle.css_selectors.specs.declared.selector.SelectorList.{SelectorList}
use Rattle.css_parser.specs.Selecting.{Accepts, IsFault}
use Rattle.css_parser.proofs.Existence.{each_list_or_fault}
use Rattle.css_printed.specs.Printed.{printed}
use Rattle.xpath_lexer.specs.Places.{most_xpath}
use Rattle.xpath_parser.specs.Shapes.{is_nodes, shape_of}
use Rattle.xpath_parser.proofs.Refused.{read_or_refused_over}
use Rattle.query_script.specs.declared.script.Chain.{Chain}
use Rattle.query_script.specs.declared.script.Chain.TheVariants as chain
use Rattle.query_script.specs.declared.script.ChainStep.{ChainStep}
use Rattle.query_script.specs.declared.script.ChainStep.TheVariants as step
use Rattle.query_script.specs.declared.script.Field.{Field}
use Rattle.query_script.specs.declared.script.Reason.{Reason}
use Rattle.query_script.specs.declared.script.Reason.TheVariants as reason
use Rattle.query_script.specs.declared.script.Take.{Take}
use Rattle.query_script.specs.declared.steps.RawStep.{RawStep}
use Rattle.query_script.specs.declared.steps.RawStep.TheVariants as raw
use Rattle.query_script.specs.Cuts.{fields_of}
use Rattle.query_script.specs.Names.{is_named, name_of, after_colon}
use Rattle.query_script.specs.Queries.{IsKept, AreKept, IsCssFault, IsRefused, IsFirstRefusal}
use Rattle.query_script.specs.Fields.{IsChain, IsFieldOver, AreFields, IsScriptOver, IsScriptFault, most_script, most_fields}
use Rattle.query_script.specs.inner.Reader.{read_chain}
use Rattle.query_script.proofs.FieldLemmas.{chain_none, chain_some}

css_fault : (d : Dialect) (text : List ℕ) (f : SelectorFault) → IsFault text f → IsCssFault d text f
css_fault d text fault.XPathLong h = absurd h
css_fault d text _ h = h

module _ (tests : Known) (d : Dialect) where
  -- ---- one step

  abbrev Step : Bool → RawStep → Type 0
  Step nodes r = ((s : ChainStep) × ((after : Bool) × IsKept tests d nodes r s after)) ⊎ ((why : Reason) × IsRefused tests d nodes r why)

  css_step : (text : List ℕ) → Step true (raw.Css text)
  css_step text = elim (each_list_or_fault (encode_utf8_all text)) [
    | inl list ↦ by_length list.0 list.1 (cases_lt most_xpath (length (printed d list.0)))
    | inr f ↦ inr (reason.Css f.0, css_fault d (encode_utf8_all text) f.0 f.1)
  ]
    where
      by_length : (l : SelectorList) → Accepts (encode_utf8_all text) l → (most_xpath < length (printed d l)) ⊎ (length (printed d l) ≤ most_xpath) → Step true (raw.Css text)
      by_length l h (inl long) = inr (reason.Css fault.XPathLong, record { list = l; accepted = h; long = long })
      by_length l h (inr short) = inl (step.Query (chars (printed d l)), (true, (refl, record { list = l; accepted = h; short = short; is = refl; shape = refl })))

  xpath_step : (text : List ℕ) → Step true (raw.XPath text)
  xpath_step text = elim (read_or_refused_over tests (encode_utf8_all text)) [
    | inl r ↦ inl (step.Query text, (is_nodes (shape_of r.expression), (refl, record { expression = r.expression; reads = r.reads; is = refl; shape = refl })))
    | inr f ↦ inr (reason.XPath f.fault, f.stands)
  ]

  keep_step : (nodes : Bool) (name text : List ℕ) → Step nodes (raw.Keep name text)
  keep_step nodes name text = by_name (named_in tests (encode_utf8_all name)) refl
    where
      by_name : (o : Option TestKind) → named_in tests (encode_utf8_all name) ≡ o → Step nodes (raw.Keep name text)
      by_name None e = inr (reason.Test, (refl, e))
      by_name (Some kind) e = inl (step.Keep kind text, (nodes, record { kind = kind; stored = e; is = refl; shape = refl }))

  pub a_step : (nodes : Bool) (r : RawStep) → Step nodes r
  a_step true (raw.Css text) = css_step text
  a_step false (raw.Css text) = inr (reason.Order, refl)
  a_step true (raw.XPath text) = xpath_step text
  a_step false (raw.XPath text) = inr (reason.Order, refl)
  a_step nodes (raw.Re text) = inl (step.Match text, (false, record { is = refl; shape = refl }))
  a_step nodes (raw.Keep name text) = keep_step nodes name text

  -- ---- all steps

  abbrev Steps : Bool → List RawStep → Type 0
  Steps nodes rs = ((kept : List ChainStep) × AreKept tests d nodes rs kept) ⊎ ((why : Reason) × IsFirstRefusal tests d nodes rs why)

  some_steps : (nodes : Bool) (rs : List RawStep) → Steps nodes rs
  some_steps nodes [] = inl ([], tt)
  some_steps nodes (r ∷ rs) = by_first (λ b. some_steps b rs) (a_step nodes r)
    where
      by_rest : (s : ChainStep) (after : Bool) → IsKept tests d nodes r s after → Steps after rs → Steps nodes (r ∷ rs)
      by_rest s after h (inl rest) = inl (s ∷ rest.0, (after, (h, rest.1)))
      by_rest s after h (inr why) = inr (why.0, inr (s, (after, (h, why.1))))

      by_first : ((b : Bool) → Steps b rs) → Step nodes r → Steps nodes (r ∷ rs)
      by_first go (inl kept) = by_rest kept.0 kept.1.0 kept.1.1 (go kept.1.0)
      by_first go (inr why) = inr (why.0, inl why.1)

  -- ---- fields

  a_chain : (text : List ℕ) → (c : Chain) × IsChain tests d text c
  a_chain text = by_text (read_chain text) refl
    where
      by_steps : (rs : List RawStep) (t : Take) → read_chain text ≡ Some (rs, t) → Steps true rs → (c : Chain) × IsChain tests d text c
      by_steps rs t e (inl kept) = (chain.Steps kept.0 t, chain_some tests d text rs t (chain.Steps kept.0 t) (sym e) (kept.1, refl))
      by_steps rs t e (inr why) = (chain.Refused why.0, chain_some tests d text rs t (chain.Refused why.0) (sym e) why.1)

      by_text : (o : Option (List RawStep × Take)) → read_chain text ≡ o → (c : Chain) × IsChain tests d text c
      by_text None e = (chain.Refused reason.Chain, chain_none tests d text (sym e))
      by_text (Some r) e = by_steps r.0 r.1 e (some_steps true r.0)

  pub a_field : (piece : List ℕ) → (f : Field) × IsFieldOver tests d piece f
  a_field piece = by_name (is_named piece) refl
    where
      by_name : (b : Bool) → is_named piece ≡ b → (f : Field) × IsFieldOver tests d piece f
      by_name false e = (record { name = name_of piece; chain = chain.Refused reason.Name }, record { name = refl; reads = inl (record { unnamed = e; is = refl }) })
      by_name true e =
          let c = a_chain (after_colon piece) in
          (record { name = name_of piece; chain = c.0 }, record { name = refl; reads = inr (record { named = e; is = c.1 }) })

  some_fields : (pieces : List (List ℕ)) → (fields : List Field) × AreFields tests d pieces fields
  some_fields [] = ([], tt)
  some_fields (p ∷ pieces) =
      let first = a_field p in
      let rest = some_fields pieces in
      (first.0 ∷ rest.0, (first.1, rest.1))

  pub some_reading : (text : List ℕ) → ((fields : List Field) × IsScriptOver tests d text fields) ⊎ ((f : ScriptFault) × IsScriptFault text f)
  some_reading text = by_bytes (cases_lt most_script (length text))
    where
      by_count : length text ≤ most_script → (most_fields < length (fields_of text)) ⊎ (length (fields_of text) ≤ most_fields) → ((fields : List Field) × IsScriptOver tests d text fields) ⊎ ((f : ScriptFault) × IsScriptFault text f)
      by_count short (inl many) = inr (script.Fields, record { short = short; many = many })
      by_count short (inr few) = let all = some_fields (fields_of text) in inl (all.0, record { short = short; few = few; are = all.1 })

      by_bytes : (most_script < length text) ⊎ (length text ≤ most_script) → ((fields : List Field) × IsScriptOver tests d text fields) ⊎ ((f : ScriptFault) × IsScriptFault text f)
      by_bytes (inl long) = inr (script.Long, long)
      by_bytes (inr short) = by_count short (cases_lt most_fields (length (fields_of text)))
