use Rattle.std.proofs.Common.{◌∙◌, ap}
use Rattle.text_base.specs.Strings.{is_among}
use Rattle.markup_out.proofs.NameLemmas.{raw_same}
use Rattle.markup_out.proofs.names.is_raw.Goals as goal

pub returns : goal.returns
returns c = c.is_among.ensures ∙ ap (is_among c.args.name.now) c.literal_names.ensures ∙ raw_same c.args.name.now c.utf8.name
