use Rattle.std.proofs.Common.{◌+◌, ◌-◌, length, arith, sym, ◌∙◌}
use Rattle.std.specs.Str.{chars}
use Rattle.doc_model.proofs.Runs.{on_err}
use Rattle.step_index.specs.Named.{is_named, named_before, named_below}
use Rattle.step_index.proofs.Places as places
use Rattle.step_index.proofs.indexed.Indexed.named_below.Goals as goal

pub returns-in_err-push-clause-err : goal.returns-in_err-push-clause-err
returns-in_err-push-clause-err g c =
    let doc = g.T.Tree.document c.args.self.now.tree in
    let name = chars c.args.name.now in
    on_err c.from_residual.result
    (places.front_found c.args.out.now.items c.loop-y.out.items c.push.new.self.items (named_below doc c.args.x name) (c.loop-y.k - length (named_before doc name (c.args.x + 1))) c.loop-y.invariant.found c.in_err-push.ensures.items)

pub returns-in_err-push-clause-cost : goal.returns-in_err-push-clause-cost
returns-in_err-push-clause-cost g c =
    let doc = g.T.Tree.document c.args.self.now.tree in
    let name = chars c.args.name.now in
    places.all_cost c.args.steps.now c.loop-y.steps c.row_before.new.steps (length (named_below doc c.args.x name)) (c.loop-y.k - length (named_before doc name (c.args.x + 1))) (length doc)
    c.row_before.ensures.one c.loop-y.invariant.rose c.loop-y.invariant.within c.loop-y.invariant.cost

pub overflow_add-k : goal.overflow_add-k
overflow_add-k g c =
    let doc = g.T.Tree.document c.args.self.now.tree in
    let name = chars c.args.name.now in
    omega (arith, places.within_some (named_before doc name c.end-end.result) c.loop-y.k c.in-Some.y (sym (c.in-Some.ensures.row (is_named doc name) (length doc) c.end-end.ensures.within (c.under-list.ensures ∙ c.args.self.now.named c.args.name.now c.utf8.name))), places.filter_le (is_named doc name) c.end-end.result 0, c.end-end.type_inv)

pub loop-y-smaller : goal.loop-y-smaller
loop-y-smaller g c =
    let doc = g.T.Tree.document c.args.self.now.tree in
    let name = chars c.args.name.now in
    omega (arith, places.within_some (named_before doc name c.end-end.result) c.loop-y.k c.in-Some.y (sym (c.in-Some.ensures.row (is_named doc name) (length doc) c.end-end.ensures.within (c.under-list.ensures ∙ c.args.self.now.named c.args.name.now c.utf8.name))))

pub loop-y-preserved : goal.loop-y-preserved
loop-y-preserved g c =
    let doc = g.T.Tree.document c.args.self.now.tree in
    let name = chars c.args.name.now in
    let inv = c.loop-y.invariant in
    let front = length (named_before doc name (c.args.x + 1)) in
    let answers = named_below doc c.args.x name in
    let next = places.next_answer doc c.args.x c.end-end.result c.loop-y.k c.in-Some.y name (g.met.T.Tree.is_document c.args.self.now.tree) c.end-end.ensures inv.from (c.in-Some.ensures.row (is_named doc name) (length doc) c.end-end.ensures.within (c.under-list.ensures ∙ c.args.self.now.named c.args.name.now c.utf8.name)) in
    record {
      from = omega (arith, inv.from);
      within = omega (arith, inv.from, places.within_some answers (c.loop-y.k - front) c.in-Some.y next);
      found = places.more_found c.args.out.now.items c.loop-y.out.items c.push.new.self.items answers c.loop-y.k front c.in-Some.y inv.from next inv.found c.in_ok-push.ensures.items;
      rose = omega (arith, inv.from, inv.rose, c.row_before.ensures.one);
      cost = places.more_cost c.loop-y.steps c.row_before.new.steps c.args.steps.now c.loop-y.k front (length doc) c.row_before.ensures.one inv.from inv.rose inv.cost;
    }

pub returns-clause-ok : goal.returns-clause-ok
returns-clause-ok g c =
    let doc = g.T.Tree.document c.args.self.now.tree in
    let name = chars c.args.name.now in
    places.all_found c.args.out.now.items c.loop-y.out.items (named_below doc c.args.x name) (c.loop-y.k - length (named_before doc name (c.args.x + 1)))
    (places.no_answer doc c.args.x c.end-end.result c.loop-y.k name (g.met.T.Tree.is_document c.args.self.now.tree) c.end-end.ensures (c.in_default.ensures.row (is_named doc name) (length doc) c.end-end.ensures.within (c.under-list.ensures ∙ c.args.self.now.named c.args.name.now c.utf8.name))) c.loop-y.invariant.found

pub returns-clause-cost : goal.returns-clause-cost
returns-clause-cost g c =
    let doc = g.T.Tree.document c.args.self.now.tree in
    let name = chars c.args.name.now in
    places.all_cost c.args.steps.now c.loop-y.steps c.row_before.new.steps (length (named_below doc c.args.x name)) (c.loop-y.k - length (named_before doc name (c.args.x + 1))) (length doc)
    c.row_before.ensures.one c.loop-y.invariant.rose c.loop-y.invariant.within c.loop-y.invariant.cost
