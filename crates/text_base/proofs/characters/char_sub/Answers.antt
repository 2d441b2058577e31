use Rattle.std.proofs.Common.{SFits, ◌≡◌, ◌-◌, take, drop, sym, ◌∙◌, ap, rules, arith, ◌+ℤ◌}
use Rattle.std.proofs.lemmas.Int.{to_z-of_z}
use mir.Syntax.{w64}
use Rattle.std.proofs.lemmas.List.{take_rest}
use Rattle.std.specs.Str.{chars}
use Rattle.text_base.specs.Positions.{at_positions, is_wanted}
use Rattle.text_base.proofs.Wanted.{AreBelow, wanted_from, wanted_span}
use Rattle.text_base.proofs.characters.char_sub.Goals as goal

pub returns-in-None : goal.returns-in-None
returns-in-None c =
    let fits : SFits w64 c.args.from = search rules in
    let below : AreBelow c.positions_below-skipped.result c.args.from = simp to_z-of_z at c.positions_below-skipped.ensures in
    ap chars (c.part-rest.ensures ∙ take_rest c.args.text.now c.char_place.result)
    ∙ c.char_place.ensures.after
    ∙ sym (wanted_from c.args.from c.positions_below-skipped.result (chars c.args.text.now) below)
    ∙ ap (λ n. at_positions (is_wanted c.args.from n) 1 (chars c.args.text.now)) (sym c.in-None.is)

pub returns-in-Some : goal.returns-in-Some
returns-in-Some c =
    let fits : SFits w64 c.args.from = search rules in
    let fits_len : SFits w64 c.in-Some.len = search rules in
    let below : AreBelow c.positions_below-skipped.result c.args.from = simp to_z-of_z at c.positions_below-skipped.ensures in
    let below_end : AreBelow c.positions_below_sum-end.result (c.args.from +ℤ c.in-Some.len) = simp to_z-of_z at c.positions_below_sum-end.ensures in
    let rest = ap chars (c.part-rest.ensures ∙ take_rest c.args.text.now c.char_place.result) ∙ c.char_place.ensures.after in
    let end : c.char_place-in-Some.result - 0 ≡ c.char_place-in-Some.result = omega arith in
    ap chars c.part.ensures
    ∙ ap (λ n. chars (take n c.part-rest.result.now)) end
    ∙ c.char_place-in-Some.ensures.ahead
    ∙ ap (take c.saturating_sub.result) rest
    ∙ ap (λ n. take n (drop c.positions_below-skipped.result (chars c.args.text.now))) c.saturating_sub.ensures
    ∙ sym (wanted_span c.args.from c.in-Some.len c.positions_below-skipped.result c.positions_below_sum-end.result (chars c.args.text.now) below below_end)
    ∙ ap (λ n. at_positions (is_wanted c.args.from n) 1 (chars c.args.text.now)) (sym c.in-Some.is)
