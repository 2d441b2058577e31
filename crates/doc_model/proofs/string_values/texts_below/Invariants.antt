use Rattle.std.proofs.Common.{◌≡◌, ◌<◌, ◌≤◌, ◌-◌, string_bytes}
use Rattle.std.specs.Str.{chars, IsUtf8}
use Rattle.doc_model.proofs.Texts.{texts_before}
use Rattle.doc_model.proofs.string_values.texts_below.Given as goal

abbrev pub invariant-loop-y : goal.invariant-loop-y
invariant-loop-y g l = record {
  after : l.i < l.y;
  within : l.y ≤ l.end;
  found : chars (string_bytes l.text) ≡ texts_before (g.T.Tree.document l.tree) l.i l.y;
  utf8 : IsUtf8 (string_bytes l.text);
}

abbrev pub decreases-loop-y : goal.decreases-loop-y
decreases-loop-y g l = l.end - l.y
