-- The script of the bulk page is short and has few fields, and no block.
use Rattle.std.proofs.Common.{◌≡◌, false, length, refl, arith, inl, inr}
use Rattle.text_base.specs.declared.reasons.ScriptFault.{ScriptFault}
use Rattle.text_base.specs.declared.reasons.ScriptFault.TheVariants as script
use Rattle.css_selectors.specs.declared.selector.Dialect.TheVariants.{Html}
use Rattle.query_script.specs.Cuts.{fields_of}
use Rattle.query_script.specs.Fields.{IsScriptFault}
use Rattle.page_records.specs.Braces.{opens, stands}
use Rattle.extract_call.specs.Below.{Below}
use Rattle.extract_call.specs.Bulk.{bulk_script}
use Rattle.extract_call.specs.Laws.{BulkLaw}

five_fields : length (fields_of bulk_script) ≡ 5
five_fields = refl

not_refused : (why : ScriptFault) → IsScriptFault bulk_script why → ⊥
not_refused script.Long h = omega (arith, h)
not_refused script.Fields h = omega (arith, h.many, five_fields)
not_refused script.Memory h = h

pub no_block : stands opens 0 bulk_script ≡ false
no_block = refl

pub bulk_reads : Below → BulkLaw
bulk_reads below tests = elim (below.some_fields tests Html bulk_script) [
  | inl read ↦ (read.0, (read.1, below.reads_as_fields tests Html bulk_script read.0 no_block read.1))
  | inr why ↦ absurd (not_refused why.0 why.1)
]
