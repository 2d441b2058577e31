use Rattle.std.proofs.Common.{◌≡◌, ℕ, List, Result, ◌≤◌, ◌<◌, length, subst, sym, ◌∙◌, ap, arith, Ok}
use Rattle.std.proofs.lemmas.Str.{utf8_valid_len-IsUtf8}
use Rattle.text_base.specs.declared.reasons.PageFault.{PageFault}
use Rattle.text_base.specs.Decoding.{newlines, without_mark}
use Rattle.text_base.proofs.NewlineLemmas.{decoded_text, cr_is}
use Rattle.text_base.proofs.PlainLemmas.{newlines_stay, mark_none, taken_not_plain, cr_not_plain}
use Rattle.text_base.proofs.decoding.plain_page.Goals as goal
use Rattle.text_base.proofs.decoding.plain_page.Goals.{then-without_mark-text-via-then-without_mark-text, then-without_mark-text-via-else-without_mark-text+then-find_byte-text}

pub returns-else-find_byte-text-clause-some : goal.returns-else-find_byte-text-clause-some
returns-else-find_byte-text-clause-some c = λ found.
    let bytes = c.args.bytes.now in
    let text = c.in-Ok.text.now in
    let is = c.in-Ok.ensures.cases.0 in
    decoded_text bytes c.zero_place.result (length bytes) c.zero_place.ensures (sym (utf8_valid_len-IsUtf8 bytes c.in-Ok.ensures.cases.1)) c.if-zero_place-bytes.false (omega arith)
    ∙ ap (λ t. Ok (newlines (without_mark t))) (sym is)
    ∙ ap (λ t. Ok (newlines t)) (mark_none text (subst (λ t. length text ≤ length t) c.without_mark.ensures c.if-without_mark-text.false))
    ∙ ap Ok (newlines_stay text c.find_byte.result c.find_byte.ensures.end c.if-find_byte-text.false)
    ∙ ap Ok is

pub returns-then-without_mark-text-clause-none : goal.returns-then-without_mark-text-clause-none
returns-then-without_mark-text-clause-none c = λ none same.
    let bytes = c.args.bytes.now in
    let text = c.in-Ok.text.now in
    let is = c.in-Ok.ensures.cases.0 in
    let read : ◌≡◌ {A = Result (List ℕ) PageFault} (Ok (newlines (without_mark bytes))) (Ok bytes) =
    sym (decoded_text bytes c.zero_place.result (length bytes) c.zero_place.ensures (sym (utf8_valid_len-IsUtf8 bytes c.in-Ok.ensures.cases.1)) c.if-zero_place-bytes.false (omega arith)) ∙ same in
    let own = subst (λ t. ◌≡◌ {A = Result (List ℕ) PageFault} (Ok (newlines (without_mark t))) (Ok t)) (sym is) read in
    elim c.then-without_mark-text.branch [
      | then-without_mark-text-via-then-without_mark-text w ↦ taken_not_plain text (without_mark text) (subst (λ t. length t < length text) c.without_mark.ensures w.if-without_mark-text.true) own
      | then-without_mark-text-via-else-without_mark-text+then-find_byte-text w ↦
          cr_not_plain text (without_mark text) w.find_byte.result (cr_is text 0 w.find_byte.result w.find_byte.ensures.end w.if-find_byte-text.true) own
    ]
