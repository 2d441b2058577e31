use Rattle.json_lines.proofs.LineLemmas.{css_value_text, css_line_text}
use Rattle.json_lines.proofs.selectors.css_line.Goals as goal

pub returns-in-Ok-to_string-clause-text : goal.returns-in-Ok-to_string-clause-text
returns-in-Ok-to_string-clause-text c = css_line_text c.args.list.now.items c.args.xpath.now _ _ c.in-Ok.ensures c.in-Ok-to_string.ensures.text

pub returns-in-Ok-to_string-clause-value : goal.returns-in-Ok-to_string-clause-value
returns-in-Ok-to_string-clause-value c = css_value_text c.args.list.now.items c.args.xpath.now _ _ c.in-Ok.ensures c.in-Ok-to_string.ensures.text
