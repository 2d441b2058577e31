use Rattle.std.proofs.Common.{◌+◌, length, sym, ap, ◌∙◌, map-id}
use Rattle.std.specs.List.{count_by, after_last}
use Rattle.std.proofs.lemmas.Iterator.{YieldsList-from_chars}
use Rattle.std.proofs.lemmas.Iterator.Consumers.{YieldsList-end}
use Rattle.refusal_texts.specs.Places.{is_newline}
use Rattle.refusal_texts.proofs.places.end_of.Goals as goal

pub returns-clause-line : goal.returns-clause-line
returns-clause-line c =
    let end = YieldsList-end (YieldsList-from_chars c.args.text.now c.utf8.text cc) c.loop-c.yielded _ c.loop-c.yielded_by _ _ c.in-None.is c.next.ensures.steps in
    c.loop-c.invariant.line ∙ ap (λ cs. count_by is_newline cs + 1) (sym (map-id c.loop-c.yielded) ∙ end.0)

pub returns-clause-column : goal.returns-clause-column
returns-clause-column c =
    let end = YieldsList-end (YieldsList-from_chars c.args.text.now c.utf8.text cc) c.loop-c.yielded _ c.loop-c.yielded_by _ _ c.in-None.is c.next.ensures.steps in
    c.loop-c.invariant.column ∙ ap (λ cs. length (after_last is_newline cs) + 1) (sym (map-id c.loop-c.yielded) ∙ end.0)
