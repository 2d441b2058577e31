use Rattle.std.proofs.Common.{◌≡◌, List, ℕ, true, false, sym, ◌∙◌, ap}
use Rattle.text_base.specs.Strings.{is_empty}
use Rattle.text_base.specs.Text.{find_where, begins_with}
use Rattle.text_base.proofs.ByteParts.{occurs_chars, none_empty}
use Rattle.text_base.proofs.TextTests.{empty_part, part_found}
use Rattle.text_base.proofs.containing.includes.Goals as goal

pub returns-then-is_empty : goal.returns-then-is_empty
returns-then-is_empty c =
    let none : is_empty c.args.part.now ≡ true = sym (c.is_empty.ensures ∙ none_empty c.args.part.now) ∙ c.if-is_empty.true in
    c.if-is_empty.true ∙ sym (empty_part c.args.text.now c.args.part.now none) ∙ occurs_chars c.args.text.now c.args.part.now c.utf8.text c.utf8.part

pub returns-else-is_empty : goal.returns-else-is_empty
returns-else-is_empty c =
    let some : is_empty c.args.part.now ≡ false = sym (c.is_empty.ensures ∙ none_empty c.args.part.now) ∙ c.if-is_empty.false in
    let place : c.find_text.result ≡ find_where (begins_with c.args.part.now) c.args.text.now 0 =
    c.find_text.ensures.end ∙ ap (λ (v : List ℕ). find_where (begins_with v) c.args.text.now 0) c.as_bytes.ensures.value in
    part_found c.args.text.now c.args.part.now c.find_text.result some place
    ∙ occurs_chars c.args.text.now c.args.part.now c.utf8.text c.utf8.part
