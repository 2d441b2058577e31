use Rattle.std.proofs.Common.{◌≡◌, [], ◌∷◌, true, false, eqb, length, drop, cond, Some, is_some, sym, ◌∙◌, ap, map-id}
use Rattle.std.specs.BTreeMap.{get_by}
use Rattle.std.specs.Ordering.{nat_cmp}
use Rattle.std.specs.Str.{chars}
use Rattle.std.proofs.lemmas.Iterator.{YieldsList-from_chars}
use Rattle.std.proofs.lemmas.Iterator.Consumers.{YieldsList-end}
use Rattle.std.proofs.lemmas.List.{length-append}
use Rattle.xpath_functions.specs.inner.Translations.{image_in}
use Rattle.xpath_functions.proofs.Translations.{reads_on, known_more, new_more, same_cmp}
use Rattle.xpath_functions.proofs.building.table_of.Goals as goal

pub loop-c-preserved-in_ok-insert : goal.loop-c-preserved-in_ok-insert
loop-c-preserved-in_ok-insert c =
    let to = chars c.args.to.now in
    let from = c.loop-c.yielded in
    let d = c.in-Some.c in
    let read = reads_on to (length from) c.loop-c.images c.next-image.new.self c.next-image.result c.next-image.ensures.steps c.loop-c.invariant.utf8 c.loop-c.invariant.ahead in
    let absent : is_some (image_in from to d) ≡ false = ap is_some (sym (c.loop-c.invariant.table d)) ∙ sym c.contains_key.ensures ∙ c.if-not-contains_key.true in
    record {
      utf8 = read.utf8;
      ahead = read.ahead ∙ ap (λ n. drop n to) (sym (length-append from (d ∷ [])));
      table = λ k.
          c.in_ok-insert.ensures.updates.0 k
          ∙ ap (λ b. cond b (Some c.next-image.result) (get_by (nat_cmp k) c.loop-c.table)) (same_cmp d k)
          ∙ ap (λ v. cond (eqb d k) (Some c.next-image.result) v) (c.loop-c.invariant.table k)
          ∙ new_more from to d k c.next-image.result absent read.read;
    }

pub loop-c-preserved : goal.loop-c-preserved
loop-c-preserved c =
    let to = chars c.args.to.now in
    let from = c.loop-c.yielded in
    let d = c.in-Some.c in
    let read = reads_on to (length from) c.loop-c.images c.next-image.new.self c.next-image.result c.next-image.ensures.steps c.loop-c.invariant.utf8 c.loop-c.invariant.ahead in
    let known : is_some (image_in from to d) ≡ true = ap is_some (sym (c.loop-c.invariant.table d)) ∙ sym c.contains_key.ensures ∙ c.if-not-contains_key.false in
    record {
      utf8 = read.utf8;
      ahead = read.ahead ∙ ap (λ n. drop n to) (sym (length-append from (d ∷ [])));
      table = λ k. c.loop-c.invariant.table k ∙ known_more from to d k known;
    }

pub returns : goal.returns
returns c =
    let end = YieldsList-end (YieldsList-from_chars c.args.from.now c.utf8.from cc) c.loop-c.yielded _ c.loop-c.yielded_by _ _ c.in-None.is c.next.ensures.steps in
    λ k. c.loop-c.invariant.table k ∙ ap (λ cs. image_in cs (chars c.args.to.now) k) (sym (map-id c.loop-c.yielded) ∙ end.0)
