use Rattle.std.proofs.Common.{◌≡◌, true, false, sym, ◌∙◌, ap}
use Rattle.css_meaning.specs.inner.Searching.{is_end}
use Rattle.css_meaning.proofs.SearchSteps as steps
use Rattle.css_meaning.proofs.searching.follow.Goals as goal

pub returns-then-not-held : goal.returns-then-not-held
returns-then-not-held g c = λ d parts p w is l e.
    c.retry.ensures d c.args.from parts w (steps.fails (g.T.Tree.document c.args.tree.now) d c.args.from parts c.args.search p w is (sym e ∙ c.if-not-held.true))

pub returns-in-Some : goal.returns-in-Some
returns-in-Some g c = λ d parts p w is l e. c.in-Some.ensures d c.args.from parts p w is l (sym e ∙ c.if-not-held.false)

pub returns-then-ends : goal.returns-then-ends
returns-then-ends g c = λ d parts p w is l e.
    let doc = g.T.Tree.document c.args.tree.now in
    let s = c.args.search in
    let at_end : is_end doc c.args.from c.args.link s.at.row ≡ true = sym c.ends.ensures ∙ c.if-ends.true in
    steps.reached doc d c.args.from parts s p w c.if-search-gt1.false is (sym e ∙ c.if-not-held.false) (ap (λ k. is_end doc c.args.from k s.at.row) l ∙ at_end)

pub returns-else-ends : goal.returns-else-ends
returns-else-ends g c = λ d parts p w is l e.
    let doc = g.T.Tree.document c.args.tree.now in
    let s = c.args.search in
    let no_end : is_end doc c.args.from c.args.link s.at.row ≡ false = sym c.ends.ensures ∙ c.if-ends.false in
    c.retry-else-ends.ensures d c.args.from parts w
    (steps.stops doc d c.args.from parts s p w c.if-search-gt1.false is (sym e ∙ c.if-not-held.false) (ap (λ k. is_end doc c.args.from k s.at.row) l ∙ no_end))
