use Rattle.std.proofs.Common.{◌≡◌, ◌∙◌, ap, rules, true}
use Rattle.html_reader.specs.inner.Pieces.{owned_bytes}
use Rattle.doc_model.specs.Growing.{rest_of, Growing}
use Rattle.html_reader.specs.Places.{Grown}
use Rattle.html_reader.specs.inner.States.{the_state}
use Rattle.html_reader.proofs.ReadLemmas.{rest_none}
use Rattle.html_reader.proofs.reader.Reader.close_root.Goals as goal

pub returns-clause-open : goal.returns-clause-open
returns-clause-open g c =
    let old = the_state c.args.self.now.tags.items c.args.self.now.rooted (g.G.Grow.growing c.args.self.now.grow) (owned_bytes c.args.self.now.waits) in
    let made : (c.args.self.now.rooted.made ≡ true) = search rules in
    ap (λ (x : Growing). x.open_rows) c.close.ensures
    ∙ ap (λ (x : Grown). rest_of x.open_rows) c.in_ok-flush.ensures.grown
    ∙ rest_none old c.requires.sound.level made c.requires.none
