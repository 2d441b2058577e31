use Rattle.std.proofs.Common.{◌∙◌, refl, subst}
use Rattle.doc_model.specs.inner.Merging.{Follows}
use Rattle.doc_model.proofs.Runs as runs
use Rattle.doc_model.proofs.row_lists.gather.Goals as goal

pub returns-then-follows : goal.returns-then-follows
returns-then-follows c = λ n r q.
    c.in_ok-extend_from_slice.ensures.items ∙ runs.appended c.args.a.items c.args.b.now (subst (λ v. Follows v c.args.b.now) c.as_slice.ensures.value (c.if-follows.ensures refl)) n r q
