use Rattle.std.proofs.Common.{sym, ap, ◌∙◌, encode_utf8_all}
use Rattle.std.specs.List.{list_any}
use Rattle.std.specs.Str.{chars}
use Rattle.text_base.proofs.Text.{encode-chars}
use Rattle.markup_out.specs.Escapes.{is_mark}
use Rattle.markup_out.proofs.AddingLemmas.{adds_last}
use Rattle.markup_out.proofs.EscapeLemmas.{plain_escaped, none_special}
use Rattle.markup_out.proofs.escapes.push_escaped.Goals as goal

pub returns-else-has_mark : goal.returns-else-has_mark
returns-else-has_mark c =
    let spelled = encode-chars c.args.text.now c.utf8.text in
    let none = none_special (chars c.args.text.now) (ap (list_any is_mark) spelled ∙ sym c.has_mark.ensures ∙ c.if-has_mark.false) in
    adds_last _ _ _ _ _ (ap encode_utf8_all (plain_escaped c.args.back c.args.quoted (chars c.args.text.now) none) ∙ spelled) c.push.ensures
