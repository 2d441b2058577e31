use Rattle.std.proofs.Common.{[], sym, ◌∙◌, ap, subst, string_bytes, encode_utf8_all, String, Global}
use Rattle.std.specs.Str.{IsUtf8}
use Rattle.std.proofs.lemmas.Str.{chars_from_encodes}
use Rattle.markup_out.specs.Markup.{styled}
use Rattle.markup_out.proofs.AddingLemmas.{held_within}
use Rattle.markup_out.proofs.writing.styled.Goals as goal

pub returns-in-Some-clause-chars : goal.returns-in-Some-clause-chars
returns-in-Some-clause-chars g c =
    let text = styled c.args.back (g.T.Tree.document c.args.tree.now) c.args.i in
    let told = c.in-Some.ensures in
    let held = held_within c.push_row.new.out (encode_utf8_all text) told.0 (c.in-Ok.ensures.bytes.each [] c.new-out.ensures.holds) in
    sym (chars_from_encodes text (string_bytes c.in-Some.text) (subst IsUtf8 c.as_str-read.ensures.value c.as_str-read.utf8) (sym held ∙ ap (λ (s : String Global). string_bytes s) (sym told.1)))
