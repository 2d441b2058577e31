-- The names of the fields of each block of a script differ.
use Rattle.std.proofs.Common.{◌⊎◌, ℕ, List, [], ◌∷◌, map, sym, subst, inl, inr}
use Rattle.std.specs.Prelude.{Option, Some, None}
use Rattle.std.specs.List.{AllByRecursion}
use Rattle.test_registry.specs.Names.{Known}
use Rattle.css_selectors.specs.declared.selector.Dialect.{Dialect}
use Rattle.query_script.specs.declared.script.Field.{Field}
use Rattle.query_script.specs.declared.script.Reason.{Reason}
use Rattle.query_script.specs.Cuts.{fields_of}
use Rattle.query_script.specs.Names.{after_colon}
use Rattle.page_records.specs.declared.script.Block.{Block}
use Rattle.page_records.specs.declared.script.Entry.{Entry}
use Rattle.page_records.specs.declared.script.Entry.TheVariants as entry
use Rattle.page_records.specs.Blocks.{Differ, IsEmpty, IsContent, IsUnnamedBlock, IsNamedBlock}
use Rattle.page_records.specs.Braces.{entries_of}
use Rattle.page_records.specs.Lines.{HasNames}
use Rattle.page_records.specs.Scripts.{IsEntry, AreEntries, IsRecordScript}
use Rattle.page_records.proofs.BodyLemmas.{same_names, none_differ}

empty_differ : (b : Block) → IsEmpty b → HasNames (entry.Each b)
empty_differ b e = let P : List Field → Type 0 = λ fs. Differ (map (λ (f : Field). f.name) fs) in subst P (sym e.fields) none_differ

content_differs : (tests : Known) (d : Dialect) (text : List ℕ) (r : Option Reason) (b : Block) → IsContent tests d text r b → HasNames (entry.Each b)
content_differs tests d text None b h = let P : List (List ℕ) → Type 0 = λ ns. Differ ns in subst P (sym (same_names tests d (fields_of h.body) b.fields h.are)) h.differ
content_differs tests d text (Some why) b h = empty_differ b h.1

entry_differs : (tests : Known) (d : Dialect) (piece : List ℕ) (e : Entry) → IsEntry tests d piece e → HasNames e
entry_differs tests d piece (entry.Plain f) h = tt
entry_differs tests d piece (entry.Each b) h = by_case h.1.reads
  where
    by_case : IsUnnamedBlock piece b ⊎ IsNamedBlock tests d piece b → HasNames (entry.Each b)
    by_case (inl u) = empty_differ b u.empty
    by_case (inr n) = content_differs tests d (after_colon piece) b.refused b n.is

pub all_differ : (tests : Known) (d : Dialect) (pieces : List (List ℕ)) (entries : List Entry) → AreEntries tests d pieces entries → AllByRecursion HasNames entries
all_differ tests d [] [] h = tt
all_differ tests d [] (e ∷ entries) h = absurd h
all_differ tests d (p ∷ pieces) [] h = absurd h
all_differ tests d (p ∷ pieces) (e ∷ entries) h = (entry_differs tests d p e h.0, all_differ tests d pieces entries h.1)

pub script_differs : (tests : Known) (d : Dialect) (text : List ℕ) (entries : List Entry) → IsRecordScript tests d text entries → AllByRecursion HasNames entries
script_differs tests d text entries h = all_differ tests d (entries_of text) entries h.are
