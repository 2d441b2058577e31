use Rattle.std.proofs.Common.{◌++◌, string_bytes, encode_utf8_all, map, take, sym, ap, ◌∙◌, map-id, eq-eqb, ne_eqb}
use Rattle.std.specs.List.{before_first}
use Rattle.std.specs.Str.{chars}
use Rattle.std.proofs.lemmas.Iterator.{YieldsList-from_chars, YieldsList-from_take}
use Rattle.std.proofs.lemmas.Iterator.Consumers.{YieldsList-end, YieldsList-so_far, YieldsList-turn}
use Rattle.refusal_texts.specs.Places.{is_newline}
use Rattle.refusal_texts.specs.Shown.{shown}
use Rattle.refusal_texts.proofs.LineParts.{all_more, take_before, none_passes, one_passes}
use Rattle.refusal_texts.proofs.Parts.{written_more}
use Rattle.refusal_texts.proofs.shown.push_line.Goals as goal

pub returns : goal.returns
returns c =
    let all = YieldsList-from_take c.args.most (YieldsList-from_chars c.args.text.now c.utf8.text cc) cc in
    let end = YieldsList-end all c.loop-c.yielded _ c.loop-c.yielded_by _ _ c.in-None.is c.next.ensures.steps in
    let same = sym (map-id c.loop-c.yielded) ∙ end.0 in
    let line = sym (none_passes is_newline c.loop-c.yielded c.loop-c.invariant.line) ∙ ap (before_first is_newline) same ∙ sym (take_before is_newline c.args.most (chars c.args.text.now)) in
    c.loop-c.invariant.written ∙ ap (λ cs. string_bytes c.args.out.now ++ encode_utf8_all (map shown cs)) line

pub returns-then-c-eq10 : goal.returns-then-c-eq10
returns-then-c-eq10 c =
    let all = YieldsList-from_take c.args.most (YieldsList-from_chars c.args.text.now c.utf8.text cc) cc in
    let so_far = YieldsList-so_far all c.loop-c.yielded _ c.loop-c.yielded_by in
    let turn = YieldsList-turn all c.loop-c.yielded _ c.loop-c.yielded_by _ _ c.in-Some.c c.in-Some.is c.next.ensures.steps in
    let front = sym (map-id c.loop-c.yielded) ∙ so_far in
    let line = one_passes is_newline (take c.args.most (chars c.args.text.now)) c.loop-c.yielded c.in-Some.c front turn.0 turn.1 c.loop-c.invariant.line (eq-eqb c.in-Some.c 10 c.if-c-eq10.true) in
    c.loop-c.invariant.written ∙ ap (λ cs. string_bytes c.args.out.now ++ encode_utf8_all (map shown cs)) (sym line ∙ sym (take_before is_newline c.args.most (chars c.args.text.now)))

pub loop-c-preserved : goal.loop-c-preserved
loop-c-preserved c = record {
  line = all_more is_newline c.loop-c.yielded c.in-Some.c c.loop-c.invariant.line (ne_eqb c.in-Some.c 10 c.if-c-eq10.false);
  written = written_more _ _ _ c.loop-c.yielded c.in-Some.c _ c.loop-c.invariant.written c.shown.ensures c.in_ok-push.ensures.bytes;
}
