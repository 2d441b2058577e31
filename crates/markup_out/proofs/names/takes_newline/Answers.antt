use Rattle.std.proofs.Common.{◌∙◌, ap}
use Rattle.text_base.specs.Strings.{is_among}
use Rattle.markup_out.proofs.NameLemmas.{newline_same}
use Rattle.markup_out.proofs.names.takes_newline.Goals as goal

pub returns : goal.returns
returns c = c.is_among.ensures ∙ ap (is_among c.args.name.now) c.newline_names.ensures ∙ newline_same c.args.name.now c.utf8.name
