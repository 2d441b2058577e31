use Rattle.std.proofs.Common.{◌≡◌, ◌+◌, sym, ◌∙◌, ap, arith, false, encode_utf8_all}
use Rattle.css_meaning.specs.inner.TextPlaces.{text_at, bytes_from, begins_in}
use Rattle.css_meaning.proofs.TextPlaces.{row_passed, row_found, at_text, at_other, below_by_chars, nothing_left}
use Rattle.css_meaning.proofs.contents.contains_below.Goals as goal
use Rattle.css_meaning.proofs.contents.contains_below.Goals.{else-is_text-via-then-is_text+else-begins_within, else-is_text-via-else-is_text}

pub loop-y-preserved : goal.loop-y-preserved
loop-y-preserved g c =
    let doc = g.T.Tree.document c.args.tree.now in
    let rest = bytes_from doc (c.loop-y.y + 1) c.end-to.result in
    let none : begins_in (encode_utf8_all (text_at doc c.loop-y.y)) rest c.args.wanted.now ≡ false = (elim c.else-is_text.branch [
      | else-is_text-via-then-is_text+else-begins_within w ↦
          ap (λ t. begins_in t rest c.args.wanted.now) (sym (at_text doc c.loop-y.y w.text.result.now (sym c.is_text.ensures ∙ w.if-is_text.true) w.text.ensures.bytes))
          ∙ sym w.begins_within.ensures ∙ w.if-begins_within.false
      | else-is_text-via-else-is_text w ↦ at_other doc c.loop-y.y rest c.args.wanted.now (sym c.is_text.ensures ∙ w.if-is_text.false)
    ]) in
    record {
      after = omega (arith, c.loop-y.invariant.after);
      within = omega (arith, c.loop-y-test.true);
      same = c.loop-y.invariant.same ∙ row_passed doc c.loop-y.y c.end-to.result c.args.wanted.now c.loop-y-test.true none;
    }

pub returns-then-begins_within : goal.returns-then-begins_within
returns-then-begins_within g c =
    let doc = g.T.Tree.document c.args.tree.now in
    let rest = bytes_from doc (c.loop-y.y + 1) c.end-to.result in
    sym (sym (below_by_chars doc c.args.e c.end-to.result c.args.wanted.now (g.met.T.Tree.is_document c.args.tree.now) c.end-to.ensures c.utf8.wanted)
    ∙ c.loop-y.invariant.same
    ∙ row_found doc c.loop-y.y c.end-to.result c.args.wanted.now c.loop-y-test.true
    (ap (λ t. begins_in t rest c.args.wanted.now) (sym (at_text doc c.loop-y.y c.text.result.now (sym c.is_text.ensures ∙ c.if-is_text.true) c.text.ensures.bytes))
    ∙ sym c.begins_within.ensures ∙ c.if-begins_within.true))

pub returns : goal.returns
returns g c =
    let doc = g.T.Tree.document c.args.tree.now in
    sym (sym (below_by_chars doc c.args.e c.end-to.result c.args.wanted.now (g.met.T.Tree.is_document c.args.tree.now) c.end-to.ensures c.utf8.wanted)
    ∙ c.loop-y.invariant.same
    ∙ nothing_left doc c.loop-y.y c.end-to.result c.args.wanted.now c.loop-y-test.false c.requires.some)
