use Rattle.page_records.proofs.RecordLines.{record_value_text, record_line_text}
use Rattle.page_records.proofs.lines.record_line.Goals as goal

pub returns-in-Ok-to_string-clause-text : goal.returns-in-Ok-to_string-clause-text
returns-in-Ok-to_string-clause-text c =
    rw (← c.as_slice.ensures, ← c.as_slice-2.ensures) (record_line_text c.args.name.now c.as_slice.result.now c.as_slice-2.result.now _ _ c.in-Ok.ensures c.in-Ok-to_string.ensures.text)

pub returns-in-Ok-to_string-clause-value : goal.returns-in-Ok-to_string-clause-value
returns-in-Ok-to_string-clause-value c =
    rw (← c.as_slice.ensures, ← c.as_slice-2.ensures) (record_value_text c.args.name.now c.as_slice.result.now c.as_slice-2.result.now _ _ c.in-Ok.ensures c.in-Ok-to_string.ensures.text)
