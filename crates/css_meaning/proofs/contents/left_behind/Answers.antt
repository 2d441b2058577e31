use Rattle.std.proofs.Common.{◌&&◌, sym, ◌∙◌, ap, arith, length, drop, ◌-◌}
use Rattle.std.proofs.lemmas.List.{take_all, length-drop}
use Rattle.text_base.specs.Strings.{starts_with}
use Rattle.css_meaning.proofs.TextPlaces.{left_of}
use Rattle.css_meaning.proofs.contents.left_behind.Goals as goal

pub returns-then-eq : goal.returns-then-eq
returns-then-eq c = λ rest.
    let left = drop c.min-shared.result c.args.wanted.now in
    left_of c.min-shared.result c.args.piece.now c.args.wanted.now rest c.min-shared.ensures
    ∙ ap (λ b. b && starts_with rest left) (sym c.eq.ensures ∙ c.if-eq.true)
    ∙ ap (starts_with rest) (sym (take_all (length c.args.wanted.now - c.min-shared.result) left (omega (arith, length-drop c.min-shared.result c.args.wanted.now))))

pub returns-else-eq : goal.returns-else-eq
returns-else-eq c = λ rest.
    left_of c.min-shared.result c.args.piece.now c.args.wanted.now rest c.min-shared.ensures
    ∙ ap (λ b. b && starts_with rest (drop c.min-shared.result c.args.wanted.now)) (sym c.eq.ensures ∙ c.if-eq.false)
