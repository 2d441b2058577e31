use Rattle.std.proofs.Common.{◌≡◌, [], ◌∷◌, refl, sym, ◌∙◌, ap, inl, option_to_list, arith}
use Rattle.doc_model.proofs.Below.{small}
use Rattle.doc_model.proofs.WalkSteps.{up_over}
use Rattle.css_meaning.specs.Language.{lang_name}
use Rattle.css_meaning.proofs.FoundValues.{named}
use Rattle.css_meaning.proofs.Nearest.{none_after, none_here, further, nearest, topmost}
use Rattle.css_meaning.proofs.languages.nearest_language.Goals as goal

pub loop-y-init : goal.loop-y-init
loop-y-init g c = record {
  within = c.requires;
  over = inl refl;
  after = λ k l m. none_after (g.T.Tree.document c.args.tree.now) c.args.dialect c.args.e (g.met.T.Tree.is_document c.args.tree.now) k l;
}

pub returns-in-Some-clause-says : goal.returns-in-Some-clause-says
returns-in-Some-clause-says g c = λ x.
    let doc = g.T.Tree.document c.args.tree.now in
    let i = c.loop-y.invariant in
    let found : named doc (lang_name c.args.dialect) c.loop-y.y ≡ c.in-Some.z ∷ [] = ap (λ n. named doc n c.loop-y.y) (sym c.language_name-name.ensures) ∙ c.in-Some.ensures.named in
    nearest doc c.args.dialect c.args.e (g.met.T.Tree.is_document c.args.tree.now) x c.loop-y.y c.in-Some.z i.within i.over found i.after

pub loop-y-preserved : goal.loop-y-preserved
loop-y-preserved g c =
    let doc = g.T.Tree.document c.args.tree.now in
    let d = g.met.T.Tree.is_document c.args.tree.now in
    let i = c.loop-y.invariant in
    let found : named doc (lang_name c.args.dialect) c.loop-y.y ≡ [] = ap (λ n. named doc n c.loop-y.y) (sym c.language_name-name.ensures) ∙ c.in-None.ensures.named in
    record {
      within = omega (arith, i.within, c.parent-y.ensures, small doc d c.loop-y.y (omega (arith, c.loop-y-test.true)));
      over = up_over doc c.args.e c.loop-y.y c.parent-y.result d i.over (omega (arith, c.loop-y-test.true)) c.parent-y.ensures;
      after = further doc c.args.dialect c.args.e d c.loop-y.y c.parent-y.result i.over c.parent-y.ensures (none_here doc c.args.dialect c.args.e d c.loop-y.y found) i.after;
    }

pub returns-clause-says : goal.returns-clause-says
returns-clause-says g c = λ x.
    let doc = g.T.Tree.document c.args.tree.now in
    let i = c.loop-y.invariant in
    let found : named doc (lang_name c.args.dialect) c.loop-y.y ≡ option_to_list c.attribute_named-2.result = ap (λ n. named doc n c.loop-y.y) (sym c.language_name-name.ensures) ∙ c.attribute_named-2.ensures.named in
    topmost doc c.args.dialect c.args.e (g.met.T.Tree.is_document c.args.tree.now) x c.loop-y.y c.attribute_named-2.result (omega (arith, c.loop-y-test.false)) i.within i.over found i.after
