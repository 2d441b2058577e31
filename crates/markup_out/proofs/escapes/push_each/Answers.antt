use Rattle.std.proofs.Common.{ap, sym, ◌∙◌, map-id}
use Rattle.std.proofs.lemmas.Iterator.{YieldsList-from_chars}
use Rattle.std.proofs.lemmas.Iterator.Consumers.{YieldsList-end}
use Rattle.markup_out.specs.Escapes.{escape, escaped}
use Rattle.markup_out.proofs.AddingLemmas.{both, same}
use Rattle.markup_out.proofs.EscapeLemmas.{escaped_push}
use Rattle.markup_out.proofs.escapes.push_each.Goals as goal

pub loop-c-preserved : goal.loop-c-preserved
loop-c-preserved c =
    same _ _ _ _ (sym (escaped_push c.args.back c.args.quoted c.loop-c.yielded c.in-Some.c))
    (both _ _ _ (escaped c.args.back c.args.quoted c.loop-c.yielded) (escape c.args.back c.args.quoted c.in-Some.c) c.loop-c.invariant c.in_ok-push_char.ensures)

pub returns : goal.returns
returns c =
    let end = YieldsList-end (YieldsList-from_chars c.args.text.now c.utf8.text cc) c.loop-c.yielded _ c.loop-c.yielded_by _ _ c.in-None.is c.next.ensures.steps in
    same _ _ _ _ (ap (escaped c.args.back c.args.quoted) (sym (map-id c.loop-c.yielded) ∙ end.0)) c.loop-c.invariant
