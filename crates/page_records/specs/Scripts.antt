-- What a script of fields and blocks reads as.
use Rattle.std.specs.Prelude.{◌≡◌, ℕ, ◌<◌, ◌≤◌, true, false, List, [], ◌∷◌, length}
use Rattle.text_base.specs.declared.reasons.ScriptFault.{ScriptFault}
use Rattle.text_base.specs.declared.reasons.ScriptFault.TheVariants as script
use Rattle.test_registry.specs.Names.{Known}
use Rattle.css_selectors.specs.declared.selector.Dialect.{Dialect}
use Rattle.query_script.specs.Fields.{IsFieldOver, most_script, most_fields}
use Rattle.page_records.specs.declared.script.Entry.{Entry}
use Rattle.page_records.specs.declared.script.Entry.TheVariants as entry
use Rattle.page_records.specs.Braces.{entries_of, is_block}
use Rattle.page_records.specs.Blocks.{IsBlock}

-- the entry that a piece is where these tests are stored: a block where it has a `{` outside quotes, else a field
abbrev pub IsEntry : Known → Dialect → List ℕ → Entry → Type 0
IsEntry tests d piece (entry.Plain field) = (is_block piece ≡ false) × IsFieldOver tests d piece field
IsEntry tests d piece (entry.Each block) = (is_block piece ≡ true) × IsBlock tests d piece block

-- each piece is the entry at its place
abbrev pub AreEntries : Known → Dialect → List (List ℕ) → List Entry → Type 0
AreEntries tests d [] [] = Unit {0}
AreEntries tests d [] (e ∷ entries) = ⊥
AreEntries tests d (p ∷ pieces) [] = ⊥
AreEntries tests d (p ∷ pieces) (e ∷ entries) = IsEntry tests d p e × AreEntries tests d pieces entries

-- The script, as bytes, reads as these entries where these tests are stored: it is not too long, it has not too many pieces,
-- and these are they.
pub record IsRecordScript (tests : Known) (d : Dialect) (text : List ℕ) (entries : List Entry) : Type 0 where
  pub short : length text ≤ most_script
  pub few : length (entries_of text) ≤ most_fields
  pub are : AreEntries tests d (entries_of text) entries

-- not too long, and more pieces than a script may have
pub record HasManyEntries (text : List ℕ) : Type 0 where
  pub short : length text ≤ most_script
  pub many : most_fields < length (entries_of text)

-- Why the script is refused as a whole, whatever tests are stored. Memory is no reason of the text.
abbrev pub IsRecordFault : List ℕ → ScriptFault → Type 0
IsRecordFault text script.Long = most_script < length text
IsRecordFault text script.Fields = HasManyEntries text
IsRecordFault text script.Memory = ⊥

-- why the script gives no entries, where want of memory is always a reason
abbrev pub IsRecordUnread : List ℕ → ScriptFault → Type 0
IsRecordUnread text script.Memory = Unit {0}
IsRecordUnread text f = IsRecordFault text f
