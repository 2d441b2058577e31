use Rattle.std.proofs.Common.{◌∙◌, ap}
use Rattle.text_base.specs.Strings.{is_among}
use Rattle.markup_out.proofs.NameLemmas.{void_same}
use Rattle.markup_out.proofs.names.is_void.Goals as goal

pub returns : goal.returns
returns c = c.is_among.ensures ∙ ap (is_among c.args.name.now) c.void_names.ensures ∙ void_same c.args.name.now c.utf8.name
