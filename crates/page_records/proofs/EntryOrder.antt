-- The entries of a UTF-8 script can be run, and the tests of each script are stored.
use Rattle.std.proofs.Common.{◌≡◌, ℕ, Bool, true, false, List, [], ◌∷◌, sym, ◌∙◌, subst, ◌⊎◌, inl, inr}
use Rattle.std.specs.Prelude.{Option, Some, None}
use Rattle.std.specs.List.{AllByRecursion}
use Rattle.std.specs.Str.{IsUtf8}
use Rattle.test_registry.specs.Names.{Known}
use Rattle.css_selectors.specs.declared.selector.Dialect.{Dialect}
use Rattle.query_script.specs.declared.script.ChainStep.{ChainStep}
use Rattle.query_script.specs.declared.script.ChainStep.TheVariants as step
use Rattle.query_script.specs.declared.script.Field.{Field}
use Rattle.query_script.specs.declared.steps.RawStep.{RawStep}
use Rattle.query_script.specs.declared.steps.RawStep.TheVariants as raw
use Rattle.query_script.specs.Cuts.{fields_of}
use Rattle.query_script.specs.Names.{after_colon}
use Rattle.query_script.specs.Ordered.{IsInOrder, IsOrderedOver, KeepsStored}
use Rattle.query_script.proofs.OrderedLemmas.{StepUtf8, rest_utf8, step_in_order, field_in_order, fields_in_order}
use Rattle.query_script.proofs.StoredLemmas.{field_stored, fields_stored}
use Rattle.query_script.proofs.Utf8Lemmas.{AreUtf8}
use Rattle.page_records.specs.declared.script.Block.{Block}
use Rattle.page_records.specs.declared.script.Entry.{Entry}
use Rattle.page_records.specs.declared.script.Entry.TheVariants as entry
use Rattle.page_records.specs.Braces.{entries_of}
use Rattle.page_records.specs.Blocks.{IsQueryKept, AreRowSteps, IsEmpty, IsContent, IsUnnamedBlock, IsNamedBlock}
use Rattle.page_records.specs.Ordered.{IsRowQuery, IsOrderedEntry, IsStoredEntry}
use Rattle.page_records.specs.Scripts.{IsEntry, AreEntries, IsRecordScript}
use Rattle.page_records.proofs.EntryTexts.{entries_utf8, block_steps_utf8, block_fields_utf8}

module _ (tests : Known) (d : Dialect) where
  -- ---- the steps of a block

  -- nodes come to each of them
  takes_nodes : (nodes : Bool) (r : RawStep) (s : ChainStep) (after : Bool) → IsQueryKept tests d nodes r s after → nodes ≡ true
  takes_nodes nodes (raw.Css text) s after h = h.1.0
  takes_nodes nodes (raw.XPath text) s after h = h.1.0
  takes_nodes nodes (raw.Re text) s after h = absurd (let clash : false ≡ true = h.0 in cc)
  takes_nodes nodes (raw.Keep name text) s after h = absurd (let clash : false ≡ true = h.0 in cc)

  nodes_come : (nodes : Bool) (written : List RawStep) (kept : List ChainStep) → AreRowSteps tests d nodes written kept → nodes ≡ true
  nodes_come nodes [] [] h = h
  nodes_come nodes [] (s ∷ kept) h = absurd h
  nodes_come nodes (r ∷ written) [] h = absurd h
  nodes_come nodes (r ∷ written) (s ∷ kept) h = takes_nodes nodes r s h.0 h.1.0

  -- a query that may stand where it stands, and of which nodes come
  as_query : (nodes after : Bool) (s : ChainStep) (text : List ℕ) → s ≡ step.Query text → after ≡ true → IsInOrder tests nodes s after → IsRowQuery tests s
  as_query nodes after s text is a h =
      let P : ChainStep → Type 0 = λ x. IsInOrder tests nodes x after in
      let Q : ChainStep → Type 0 = λ x. IsRowQuery tests x in
      let there : IsInOrder tests nodes (step.Query text) after = subst P is h in
      let query : IsRowQuery tests (step.Query text) = (there.1.0, (there.1.1.0, sym there.1.1.1 ∙ a)) in
      subst Q (sym is) query

  row_query : (nodes : Bool) (r : RawStep) (s : ChainStep) (after : Bool) → StepUtf8 r → after ≡ true → IsQueryKept tests d nodes r s after → IsRowQuery tests s
  row_query nodes (raw.Css text) s after utf8 a h =
      as_query nodes after s _ h.1.1.is a (step_in_order tests d nodes after (raw.Css text) s utf8 h.1)
  row_query nodes (raw.XPath text) s after utf8 a h = as_query nodes after s text h.1.1.is a (step_in_order tests d nodes after (raw.XPath text) s utf8 h.1)
  row_query nodes (raw.Re text) s after utf8 a h = absurd (let clash : false ≡ true = h.0 in cc)
  row_query nodes (raw.Keep name text) s after utf8 a h = absurd (let clash : false ≡ true = h.0 in cc)

  row_queries : (nodes : Bool) (written : List RawStep) (kept : List ChainStep) → AllByRecursion StepUtf8 written → AreRowSteps tests d nodes written kept → AllByRecursion (IsRowQuery tests) kept
  row_queries nodes [] [] utf8 h = tt
  row_queries nodes [] (s ∷ kept) utf8 h = absurd h
  row_queries nodes (r ∷ written) [] utf8 h = absurd h
  row_queries nodes (r ∷ written) (s ∷ kept) utf8 h = (row_query nodes r s h.0 utf8.0 (nodes_come h.0 written kept h.1.1) h.1.0, row_queries h.0 written kept utf8.1 h.1.1)

  -- ---- a block

  empty_ordered : (b : Block) → IsEmpty b → IsOrderedEntry tests (entry.Each b)
  empty_ordered b e =
      let P : List ChainStep → Type 0 = λ ss. AllByRecursion (IsRowQuery tests) ss in
      let Q : List Field → Type 0 = λ fs. AllByRecursion (IsOrderedOver tests) fs in
      (subst P (sym e.steps) tt, subst Q (sym e.fields) tt)

  content_ordered : (text : List ℕ) (r : Option _) (b : Block) → IsUtf8 text → IsContent tests d text r b → IsOrderedEntry tests (entry.Each b)
  content_ordered text None b utf8 h = (
    row_queries true h.written b.steps (block_steps_utf8 text h.written h.body h.is utf8) h.kept,
    fields_in_order tests d (fields_of h.body) b.fields (block_fields_utf8 text h.written h.body h.is utf8) h.are,
  )
  content_ordered text (Some why) b utf8 h = empty_ordered b h.1

  empty_stored : (b : Block) → IsEmpty b → IsStoredEntry tests (entry.Each b)
  empty_stored b e = let Q : List Field → Type 0 = λ fs. AllByRecursion (KeepsStored tests) fs in subst Q (sym e.fields) tt

  content_stored : (text : List ℕ) (r : Option _) (b : Block) → IsContent tests d text r b → IsStoredEntry tests (entry.Each b)
  content_stored text None b h = fields_stored tests d (fields_of h.body) b.fields h.are
  content_stored text (Some why) b h = empty_stored b h.1

  -- ---- an entry

  entry_ordered : (piece : List ℕ) (e : Entry) → IsUtf8 piece → IsEntry tests d piece e → IsOrderedEntry tests e
  entry_ordered piece (entry.Plain f) utf8 h = field_in_order tests d piece f utf8 h.1
  entry_ordered piece (entry.Each b) utf8 h = by_name h.1.reads
    where
      by_name : IsUnnamedBlock piece b ⊎ IsNamedBlock tests d piece b → IsOrderedEntry tests (entry.Each b)
      by_name (inl none) = empty_ordered b none.empty
      by_name (inr some) = content_ordered (after_colon piece) b.refused b (rest_utf8 piece some.named utf8) some.is

  entry_stored : (piece : List ℕ) (e : Entry) → IsEntry tests d piece e → IsStoredEntry tests e
  entry_stored piece (entry.Plain f) h = field_stored tests d piece f h.1
  entry_stored piece (entry.Each b) h = by_name h.1.reads
    where
      by_name : IsUnnamedBlock piece b ⊎ IsNamedBlock tests d piece b → IsStoredEntry tests (entry.Each b)
      by_name (inl none) = empty_stored b none.empty
      by_name (inr some) = content_stored (after_colon piece) b.refused b some.is

  -- ---- a script

  all_ordered : (pieces : List (List ℕ)) (entries : List Entry) → AreUtf8 pieces → AreEntries tests d pieces entries → AllByRecursion (IsOrderedEntry tests) entries
  all_ordered [] [] utf8 h = tt
  all_ordered [] (e ∷ entries) utf8 h = absurd h
  all_ordered (p ∷ pieces) [] utf8 h = absurd h
  all_ordered (p ∷ pieces) (e ∷ entries) utf8 h = (entry_ordered p e utf8.0 h.0, all_ordered pieces entries utf8.1 h.1)

  all_stored : (pieces : List (List ℕ)) (entries : List Entry) → AreEntries tests d pieces entries → AllByRecursion (IsStoredEntry tests) entries
  all_stored [] [] h = tt
  all_stored [] (e ∷ entries) h = absurd h
  all_stored (p ∷ pieces) [] h = absurd h
  all_stored (p ∷ pieces) (e ∷ entries) h = (entry_stored p e h.0, all_stored pieces entries h.1)

  pub script_ordered : (text : List ℕ) (entries : List Entry) → IsUtf8 text → IsRecordScript tests d text entries → AllByRecursion (IsOrderedEntry tests) entries
  script_ordered text entries utf8 h = all_ordered (entries_of text) entries (entries_utf8 text utf8) h.are

  pub script_stored : (text : List ℕ) (entries : List Entry) → IsRecordScript tests d text entries → AllByRecursion (IsStoredEntry tests) entries
  script_stored text entries h = all_stored (entries_of text) entries h.are
