use Rattle.json_lines.proofs.PageLines.{page_value_text, page_line_text}
use Rattle.json_lines.proofs.pages.page_line.Goals as goal

pub returns-in-Ok-to_string-clause-text : goal.returns-in-Ok-to_string-clause-text
returns-in-Ok-to_string-clause-text c =
    rw (← c.as_slice.ensures, ← c.as_slice-2.ensures) (page_line_text c.args.name.now c.as_slice.result.now c.as_slice-2.result.now _ _ c.in-Ok.ensures c.in-Ok-to_string.ensures.text)

pub returns-in-Ok-to_string-clause-value : goal.returns-in-Ok-to_string-clause-value
returns-in-Ok-to_string-clause-value c =
    rw (← c.as_slice.ensures, ← c.as_slice-2.ensures) (page_value_text c.args.name.now c.as_slice.result.now c.as_slice-2.result.now _ _ c.in-Ok.ensures c.in-Ok-to_string.ensures.text)
