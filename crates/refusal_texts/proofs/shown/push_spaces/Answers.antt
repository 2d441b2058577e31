use Rattle.std.proofs.Common.{◌++◌, string_bytes, map, sym, ap, ◌∙◌, map-id}
use Rattle.std.proofs.lemmas.Iterator.{YieldsList-from_chars}
use Rattle.std.proofs.lemmas.Iterator.Adapters.{YieldsList-from_skip}
use Rattle.std.proofs.lemmas.Iterator.Consumers.{YieldsList-end}
use Rattle.refusal_texts.specs.Shown.{shown}
use Rattle.refusal_texts.proofs.shown.push_spaces.Goals as goal

pub returns : goal.returns
returns c =
    let all = YieldsList-from_skip c.args.skipped (YieldsList-from_chars c.args.text.now c.utf8.text cc) cc in
    let end = YieldsList-end all c.loop-c.yielded _ c.loop-c.yielded_by _ _ c.in-None.is c.next.ensures.steps in
    c.loop-c.invariant ∙ ap (λ cs. string_bytes c.args.out.now ++ map (λ c. 32) (map shown cs)) (sym (map-id c.loop-c.yielded) ∙ end.0)
