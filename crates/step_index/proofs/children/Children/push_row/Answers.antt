use Rattle.std.proofs.Common.{◌++◌, ◌∷◌, [], ◌+◌, get_or, sym, ◌∙◌, ap, arith, refl}
use Rattle.std.proofs.Math.ListN.{set}
use Rattle.doc_model.specs.Document.{is_element_kind}
use Rattle.step_index.proofs.Counted as counted
use Rattle.step_index.proofs.children.Children.push_row.Goals as goal

pub push-requires-clause-within : goal.push-requires-clause-within
push-requires-clause-within g c =
    counted.parent_within (g.T.Tree.document c.args.tree.now) c.args.self.now.ranks.items c.args.self.now.counts.items c.args.y c.parent.result (g.met.T.Tree.is_document c.args.tree.now)
    (ap is_element_kind (sym c.kind.ensures ∙ c.in-Element.is)) c.parent.ensures c.requires.before

pub push-requires-clause-small : goal.push-requires-clause-small
push-requires-clause-small g c =
    omega (
      arith,
      counted.room (g.T.Tree.document c.args.tree.now) c.args.self.now.ranks.items c.args.self.now.counts.items c.args.y c.parent.result (g.met.T.Tree.is_document c.args.tree.now)
          (ap is_element_kind (sym c.kind.ensures ∙ c.in-Element.is)) c.parent.ensures c.requires.before,
      c.requires.row,
      g.met.T.Tree.is_small c.args.tree.now,
    )

pub returns-in-Element : goal.returns-in-Element
returns-in-Element g c =
    let doc = g.T.Tree.document c.args.tree.now in
    let ranks = c.args.self.now.ranks.items in
    let counts = c.args.self.now.counts.items in
    let p = c.parent.result in
    counted.both_ok c.push.result
    (λ e f. counted.moved doc (ranks ++ get_or counts p 0 ∷ []) (set counts p (get_or counts p 0 + 1) ++ 0 ∷ []) c.push.new.self.ranks.items c.push.new.self.counts.items (c.args.y + 1) e f
    (counted.element_row doc ranks counts c.args.y p (get_or counts p 0) (g.met.T.Tree.is_document c.args.tree.now) (ap is_element_kind (sym c.kind.ensures ∙ c.in-Element.is)) c.parent.ensures refl c.requires.before))
    c.push.ensures.ranks c.push.ensures.counts

pub returns-in_default : goal.returns-in_default
returns-in_default g c =
    let doc = g.T.Tree.document c.args.tree.now in
    let ranks = c.args.self.now.ranks.items in
    let counts = c.args.self.now.counts.items in
    counted.both_ok c.push_other.result
    (λ e f. counted.moved doc (ranks ++ 0 ∷ []) (counts ++ 0 ∷ []) c.push_other.new.self.ranks.items c.push_other.new.self.counts.items (c.args.y + 1) e f
    (counted.other_row doc ranks counts c.args.y (g.met.T.Tree.is_document c.args.tree.now) (ap is_element_kind (sym c.kind.ensures) ∙ counted.not_element c.kind.result c.in_default.not-Element) c.requires.before))
    c.push_other.ensures.ranks c.push_other.ensures.counts
