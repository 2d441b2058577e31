use Rattle.std.proofs.Common.{◌≡◌, refl, ℕ, [], ◌∷◌, ◌++◌, false, cond, ap, sym, ◌∙◌, slice_index, string_bytes, arith}
use Rattle.std.specs.Prelude.{not}
use Rattle.text_base.specs.Text.{is_not_byte}
use Rattle.text_base.proofs.Runs.{run_end_moves}
use Rattle.css_printed.specs.Literals.{is_apostrophe}
use Rattle.css_translate.proofs.WrittenRuns.{writes, other_byte}
use Rattle.css_translate.proofs.literals.push_run.Goals as goal

pub returns-in_ok-push_quoted : goal.returns-in_ok-push_quoted
returns-in_ok-push_quoted c =
    let first : slice_index c.args.text.now c.args.from ≡ 39 = sym c.byte_at.ensures ∙ c.if-byte_at-eq39.true in
    writes c.args.text.now c.args.from c.apostrophes_end-to.result 39 34 is_apostrophe _ _ c.requires.within (sym first) refl refl
    c.apostrophes_end-to.ensures.end c.apostrophes_end-to.ensures.moves c.apostrophes_end-to.ensures.within c.apostrophes_end-to.ensures.place
    (c.in_ok-push_quoted.ensures ∙ ap (λ t. string_bytes c.args.out.now ++ (34 ∷ (t ++ (34 ∷ [])))) c.part.ensures)

pub returns-in_ok-push_quoted-2 : goal.returns-in_ok-push_quoted-2
returns-in_ok-push_quoted-2 c =
    let b : ℕ = slice_index c.args.text.now c.args.from in
    let other : is_apostrophe b ≡ false = other_byte b (λ e. c.if-byte_at-eq39.false (c.byte_at.ensures ∙ e)) in
    writes c.args.text.now c.args.from c.find_byte-to.result b 39 (is_not_byte 39) _ _ c.requires.within refl (ap (λ a. cond a is_apostrophe (is_not_byte 39)) other) (ap (λ a. cond a 34 39) other)
    c.find_byte-to.ensures.end (run_end_moves (is_not_byte 39) c.args.text.now c.args.from c.find_byte-to.result c.find_byte-to.ensures.end c.requires.within (ap not other))
    c.find_byte-to.ensures.within (c.find_byte-to.ensures.boundary (omega arith))
    (c.in_ok-push_quoted-2.ensures ∙ ap (λ t. string_bytes c.args.out.now ++ (39 ∷ (t ++ (39 ∷ [])))) c.part-else-byte_at-eq39.ensures)
