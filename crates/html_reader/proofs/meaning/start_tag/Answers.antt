use Rattle.std.proofs.Common.{sym, ◌∙◌}
use Rattle.html_reader.proofs.KeptLemmas.{lower_some}
use Rattle.html_reader.proofs.meaning.start_tag.Goals as goal

pub returns-clause-kept : goal.returns-clause-kept
returns-clause-kept c = (λ none. lower_some c.args.name.now c.requires.some (sym c.in_ok-name.ensures ∙ none), c.in_ok-attrs.ensures.kept)
