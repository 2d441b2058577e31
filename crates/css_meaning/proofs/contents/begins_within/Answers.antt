use Rattle.std.proofs.Common.{◌≡◌, ◌++◌, ℕ, List, sym, ◌∙◌, ap, arith, drop, Bool}
use Rattle.text_base.specs.Strings.{starts_with}
use Rattle.css_meaning.specs.inner.TextPlaces.{bytes_from}
use Rattle.text_base.proofs.ByteParts.{occurs_chars}
use Rattle.css_meaning.proofs.TextPlaces.{begins_found, begins_late, begins_step, begins_here}
use Rattle.css_meaning.proofs.contents.begins_within.Goals as goal

-- the test at a place, as it is called
at_place : (text wanted rest piece bytes : List ℕ) (i : ℕ) (b : Bool) → piece ≡ drop i text → bytes ≡ wanted → b ≡ starts_with (piece ++ rest) bytes → starts_with (drop i text ++ rest) wanted ≡ b
at_place text wanted rest piece bytes i b p w h = ap (λ t. starts_with (t ++ rest) wanted) (sym p) ∙ ap (starts_with (piece ++ rest)) (sym w) ∙ sym h

pub returns-then-includes : goal.returns-then-includes
returns-then-includes g c =
    let text = c.args.text.now in
    let wanted = c.args.wanted.now in
    sym (begins_found text (bytes_from (g.T.Tree.document c.args.tree.now) c.args.from c.args.to) wanted c.requires.some
    (occurs_chars text wanted c.utf8.text c.utf8.wanted ∙ sym c.includes.ensures ∙ c.if-includes.true))

pub loop-at-init : goal.loop-at-init
loop-at-init g c =
    let text = c.args.text.now in
    let wanted = c.args.wanted.now in
    record {
      within = omega (arith, c.saturating_sub-at.ensures);
      same = begins_late c.saturating_sub-at.result text (bytes_from (g.T.Tree.document c.args.tree.now) c.args.from c.args.to) wanted c.saturating_sub-at.ensures c.requires.some
          (occurs_chars text wanted c.utf8.text c.utf8.wanted ∙ sym c.includes.ensures ∙ c.if-includes.false);
    }

pub returns-then-begins_at : goal.returns-then-begins_at
returns-then-begins_at g c =
    let rest = bytes_from (g.T.Tree.document c.args.tree.now) c.args.from c.args.to in
    let i = c.loop-at.at in
    sym (c.loop-at.invariant.same
    ∙ begins_here c.args.text.now rest c.args.wanted.now i c.loop-at-test.true
    (at_place c.args.text.now c.args.wanted.now rest c.bytes_from.result.now c.as_bytes.result.now i c.begins_at.result c.bytes_from.ensures c.as_bytes.ensures.value c.begins_at.ensures ∙ c.if-begins_at.true))

pub loop-at-preserved : goal.loop-at-preserved
loop-at-preserved g c =
    let rest = bytes_from (g.T.Tree.document c.args.tree.now) c.args.from c.args.to in
    let i = c.loop-at.at in
    record {
      within = omega (arith, c.loop-at-test.true);
      same = c.loop-at.invariant.same
          ∙ begins_step c.args.text.now rest c.args.wanted.now i c.loop-at-test.true
          (at_place c.args.text.now c.args.wanted.now rest c.bytes_from.result.now c.as_bytes.result.now i c.begins_at.result c.bytes_from.ensures c.as_bytes.ensures.value c.begins_at.ensures ∙ c.if-begins_at.false);
    }
