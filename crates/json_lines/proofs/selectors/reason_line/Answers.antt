use Rattle.json_lines.proofs.LineLemmas.{reason_line_text}
use Rattle.json_lines.proofs.selectors.reason_line.Goals as goal

pub returns-in-Ok-to_string-clause-text : goal.returns-in-Ok-to_string-clause-text
returns-in-Ok-to_string-clause-text c = reason_line_text c.args.reason.now _ _ c.in-Ok.ensures c.in-Ok-to_string.ensures.text
