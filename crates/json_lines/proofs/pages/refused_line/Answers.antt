use Rattle.json_lines.proofs.PageLines.{refused_line_text}
use Rattle.json_lines.proofs.pages.refused_line.Goals as goal

pub returns-in-Ok-to_string-clause-text : goal.returns-in-Ok-to_string-clause-text
returns-in-Ok-to_string-clause-text c = refused_line_text c.args.name.now c.args.fault _ _ c.in-Ok.ensures c.in-Ok-to_string.ensures.text
