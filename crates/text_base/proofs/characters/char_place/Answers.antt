use Rattle.std.proofs.Common.{◌≡◌, drop, ◌∙◌, ap, arith}
use Rattle.std.specs.Str.{chars}
use Rattle.text_base.proofs.Boundaries.{at_start}
use Rattle.text_base.proofs.CharacterLemmas.{chars_cut, one_left, none_left}
use Rattle.text_base.proofs.characters.char_place.Goals as goal
use Rattle.std.proofs.Common.{refl}

pub loop-left-init : goal.loop-left-init
loop-left-init c = record { place = at_start c.args.text.now c.utf8.text; same = refl }

pub loop-left-preserved : goal.loop-left-preserved
loop-left-preserved c = record {
  place = c.next_place-at.ensures.place;
  same = one_left c.loop-left.left (chars (drop c.loop-left.at c.args.text.now)) _ (omega arith) c.next_place-at.ensures.next ∙ c.loop-left.invariant.same;
}

pub returns-else-at-text-clause-after : goal.returns-else-at-text-clause-after
returns-else-at-text-clause-after c =
    none_left c.args.text.now c.loop-left.at c.loop-left.left c.args.count (omega arith) c.loop-left.invariant.same

pub returns-else-at-text-clause-ahead : goal.returns-else-at-text-clause-ahead
returns-else-at-text-clause-ahead c =
    chars_cut c.args.text.now c.loop-left.at c.args.count c.utf8.text c.loop-left.invariant.place
    (none_left c.args.text.now c.loop-left.at c.loop-left.left c.args.count (omega arith) c.loop-left.invariant.same)

pub returns-after-loop-left-clause-ahead : goal.returns-after-loop-left-clause-ahead
returns-after-loop-left-clause-ahead c =
    let none = c.loop-left-test.false in
    chars_cut c.args.text.now c.loop-left.at c.args.count c.utf8.text c.loop-left.invariant.place
    (let zero_left : 0 ≡ c.loop-left.left = omega arith in ap (λ n. drop n (chars (drop c.loop-left.at c.args.text.now))) zero_left ∙ c.loop-left.invariant.same)
