use Rattle.std.proofs.Common.{◌≡◌, ◌-◌, ◌<◌, List, ℕ, length, take, drop, ◌∙◌, ap, arith}
use Rattle.std.specs.Str.{bytes_eq}
use Rattle.text_base.specs.Text.{is_space4}
use Rattle.text_base.proofs.WordWalks.{behind_space, from_start, word_found, word_passed}
use Rattle.xpath_eval.proofs.SpacedTexts.{word_chars}
use Rattle.xpath_eval.proofs.words.has_word.Goals as goal

pub loop-at-init : goal.loop-at-init
loop-at-init c = record {
  word = behind_space is_space4 c.args.text.now c.args.word.now 0 c.run_end-at.result c.run_end-at.ensures.end;
  rest = from_start is_space4 c.args.text.now c.args.word.now c.run_end-at.result c.run_end-at.ensures.end ∙ word_chars c.args.text.now c.args.word.now c.utf8.text c.utf8.word;
}

pub returns-then-eq : goal.returns-then-eq
returns-then-eq c =
    let text = c.args.text.now in
    let wanted = c.args.word.now in
    let at = c.loop-at.at in
    let end = c.run_end-end.result in
    let within : at < length text = omega arith in
    let same : c.eq.result ≡ bytes_eq (take (end - at) (drop at text)) wanted =
    c.eq.ensures ∙ ap (λ (t : List ℕ). bytes_eq (take (end - at) (drop at t)) c.as_bytes.result.now) c.as_bytes-bytes.ensures.value
    ∙ ap (λ (t : List ℕ). bytes_eq (take (end - at) (drop at text)) t) c.as_bytes.ensures.value in
    word_found is_space4 text wanted at end within (c.loop-at.invariant.word within) c.run_end-end.ensures.end c.eq.result same c.if-eq.true ∙ c.loop-at.invariant.rest

pub loop-at-preserved : goal.loop-at-preserved
loop-at-preserved c =
    let text = c.args.text.now in
    let wanted = c.args.word.now in
    let at = c.loop-at.at in
    let end = c.run_end-end.result in
    let next = c.run_end-at-in-loop-at.result in
    let within : at < length text = omega arith in
    let same : c.eq.result ≡ bytes_eq (take (end - at) (drop at text)) wanted =
    c.eq.ensures ∙ ap (λ (t : List ℕ). bytes_eq (take (end - at) (drop at t)) c.as_bytes.result.now) c.as_bytes-bytes.ensures.value
    ∙ ap (λ (t : List ℕ). bytes_eq (take (end - at) (drop at text)) t) c.as_bytes.ensures.value in
    record {
      word = behind_space is_space4 text wanted end next c.run_end-at-in-loop-at.ensures.end;
      rest = word_passed is_space4 text wanted at end within (c.loop-at.invariant.word within) c.run_end-end.ensures.end c.eq.result same next c.if-eq.false c.run_end-at-in-loop-at.ensures.end
          ∙ c.loop-at.invariant.rest;
    }
