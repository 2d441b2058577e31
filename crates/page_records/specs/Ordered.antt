-- The entries that can be run where some tests are stored.
use Rattle.std.specs.List.{AllByRecursion}
use Rattle.test_registry.specs.Names.{Known}
use Rattle.query_script.specs.Ordered.{IsOrderedOver, KeepsStored}
pub use Rattle.query_chain.specs.Rows.{IsRowQuery}
use Rattle.page_records.specs.declared.script.Entry.{Entry}
use Rattle.page_records.specs.declared.script.Entry.TheVariants as entry

-- each field of the entry can be run, and each step of a block is a query of which rows come
abbrev pub IsOrderedEntry : Known → Entry → Type 0
IsOrderedEntry tests (entry.Plain field) = IsOrderedOver tests field
IsOrderedEntry tests (entry.Each block) = AllByRecursion (IsRowQuery tests) block.steps × AllByRecursion (IsOrderedOver tests) block.fields

-- the kind of each step of its fields that keeps items is stored
abbrev pub IsStoredEntry : Known → Entry → Type 0
IsStoredEntry tests (entry.Plain field) = KeepsStored tests field
IsStoredEntry tests (entry.Each block) = AllByRecursion (KeepsStored tests) block.fields
