use Rattle.std.proofs.Common.{length, refl, subst, sym, ◌∙◌, ap, arith, inl, inr, Ok}
use Rattle.std.specs.Prelude.{IsOk}
use Rattle.std.proofs.lemmas.Str.{utf8_valid_len-IsUtf8}
use Rattle.text_base.specs.Decoding.{newlines, without_mark}
use Rattle.text_base.proofs.NewlineLemmas.{decoded_nul, decoded_text}
use Rattle.text_base.proofs.decoding.decode_page.Goals as goal

pub returns-then-zero_at-bytes : goal.returns-then-zero_at-bytes
returns-then-zero_at-bytes c =
    inl (decoded_nul c.args.bytes.now c.zero_place-zero_at.result (length c.args.bytes.now) c.zero_place-zero_at.ensures (sym (utf8_valid_len-IsUtf8 c.args.bytes.now c.in-Ok.ensures.cases.1)) c.if-zero_at-bytes.true)

pub returns-in-Ok-with_newlines : goal.returns-in-Ok-with_newlines
returns-in-Ok-with_newlines c =
    decoded_text c.args.bytes.now c.zero_place-zero_at.result (length c.args.bytes.now) c.zero_place-zero_at.ensures (sym (utf8_valid_len-IsUtf8 c.args.bytes.now c.in-Ok.ensures.cases.1)) c.if-zero_at-bytes.false (omega arith)
    ∙ ap (λ t. Ok (newlines (without_mark t))) (sym c.in-Ok.ensures.cases.0)
    ∙ ap (λ t. Ok (newlines t)) (sym c.without_mark.ensures)
    ∙ ap Ok (sym c.in-Ok-with_newlines.ensures)

pub returns-in-Err-with_newlines : goal.returns-in-Err-with_newlines
returns-in-Err-with_newlines c =
    inr (refl, subst IsOk (sym (decoded_text c.args.bytes.now c.zero_place-zero_at.result (length c.args.bytes.now) c.zero_place-zero_at.ensures (sym (utf8_valid_len-IsUtf8 c.args.bytes.now c.in-Ok.ensures.cases.1)) c.if-zero_at-bytes.false (omega arith))) refl)
