use Rattle.std.proofs.Common.{◌≡◌, ◌++◌, [], cond, string_bytes, ap, sym, ◌∙◌, arith}
use Rattle.std.proofs.lemmas.Str.{chars-nil}
use Rattle.std.specs.Str.{chars}
use Rattle.doc_model.specs.Document.{row, is_text}
use Rattle.doc_model.specs.StringValue.{texts_below}
use Rattle.doc_model.proofs.Texts.{texts_before, texts_start, texts_more, texts_all, utf8_bytes, utf8_none}
use Rattle.doc_model.proofs.string_values.texts_below.Goals as goal

pub loop-y-init : goal.loop-y-init
loop-y-init g c = record {
  after = omega arith;
  within = omega (arith, c.end-end.ensures.after);
  found = ap chars c.new-text.ensures.bytes ∙ chars-nil ∙ sym (texts_start (g.T.Tree.document c.args.tree.now) c.args.i (g.met.T.Tree.is_document c.args.tree.now));
  utf8 = utf8_none (string_bytes c.new-text.result) c.new-text.ensures.bytes;
}

pub loop-y-preserved : goal.loop-y-preserved
loop-y-preserved g c =
    let doc = g.T.Tree.document c.args.tree.now in
    let i = c.loop-y.invariant in
    record {
      after = omega (arith, i.after);
      within = omega (arith, c.loop-y-test.true);
      found = c.in_ok-push_text.ensures.chars ∙ ap (λ v. v ++ cond (is_text doc c.loop-y.y) (row doc c.loop-y.y).text []) i.found
          ∙ sym (texts_more doc c.args.i c.end-end.result c.loop-y.y c.end-end.ensures i.after c.loop-y-test.true);
      utf8 = c.in_ok-push_text.ensures.utf8;
    }

pub returns-clause-chars : goal.returns-clause-chars
returns-clause-chars g c =
    let doc = g.T.Tree.document c.args.tree.now in
    let all : c.loop-y.y ≡ c.end-end.result = omega (arith, c.loop-y-test.false, c.loop-y.invariant.within) in
    c.loop-y.invariant.found ∙ ap (texts_before doc c.args.i) all ∙ texts_all doc c.args.i c.end-end.result (g.met.T.Tree.is_document c.args.tree.now) c.end-end.ensures

pub returns-clause-bytes : goal.returns-clause-bytes
returns-clause-bytes g c =
    let doc = g.T.Tree.document c.args.tree.now in
    let all : c.loop-y.y ≡ c.end-end.result = omega (arith, c.loop-y-test.false, c.loop-y.invariant.within) in
    utf8_bytes (string_bytes c.loop-y.text) (texts_below doc c.args.i) c.loop-y.invariant.utf8
    (c.loop-y.invariant.found ∙ ap (texts_before doc c.args.i) all ∙ texts_all doc c.args.i c.end-end.result (g.met.T.Tree.is_document c.args.tree.now) c.end-end.ensures)
