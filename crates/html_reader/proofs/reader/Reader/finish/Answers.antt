use Rattle.std.proofs.Common.{◌≡◌, ◌∙◌, [], refl, sym, subst, rules, arith, None, true, false, inr}
use Rattle.html_reader.specs.inner.Pieces.{owned_bytes}
use Rattle.html_reader.specs.inner.Machine.{shuts}
use Rattle.html_reader.specs.inner.States.{the_state}
use Rattle.html_reader.specs.Reading.{Refuses}
use Rattle.html_reader.specs.Places.{all_rows}
use Rattle.html_reader.proofs.ReadLemmas.{mid_sound, mid_size, refuses_open, refuses_rootless, builds}
use Rattle.html_reader.proofs.reader.Reader.finish.Goals as goal

pub returns-then-not-has_none-clause-err : goal.returns-then-not-has_none-clause-err
returns-then-not-has_none-clause-err g c =
    let old = the_state c.args.self.tags.items c.args.self.rooted (g.G.Grow.growing c.args.self.grow) (owned_bytes c.args.self.waits) in
    let mid = the_state c.shut_ends.new.self.tags.items c.shut_ends.new.self.rooted (g.G.Grow.growing c.shut_ends.new.self.grow) (owned_bytes c.shut_ends.new.self.waits) in
    let is : (mid ≡ shuts None old) = search rules in
    let some : (c.has_none.result ≡ false) = search rules in
    let fault = c.fault-then-not-has_none in
    inr (fault.ensures.at, λ tokens led. subst (Refuses c.args.self.rooted.made tokens None) (sym fault.ensures.reason) (refuses_open old mid is (sym c.has_none.ensures ∙ some) tokens led))

pub returns-then-not-self-clause-err : goal.returns-then-not-self-clause-err
returns-then-not-self-clause-err g c =
    let old = the_state c.args.self.tags.items c.args.self.rooted (g.G.Grow.growing c.args.self.grow) (owned_bytes c.args.self.waits) in
    let mid = the_state c.shut_ends.new.self.tags.items c.shut_ends.new.self.rooted (g.G.Grow.growing c.shut_ends.new.self.grow) (owned_bytes c.shut_ends.new.self.waits) in
    let is : (mid ≡ shuts None old) = search rules in
    let none : (c.has_none.result ≡ true) = search rules in
    let rootless : (c.shut_ends.new.self.rooted.some ≡ false) = search rules in
    let fault = c.fault-then-not-self in
    inr (fault.ensures.at, λ tokens led. subst (Refuses c.args.self.rooted.made tokens None) (sym fault.ensures.reason) (refuses_rootless old mid is (sym c.has_none.ensures ∙ none) rootless tokens led))

pub finish-requires : goal.finish-requires
finish-requires g c κs =
    let old = the_state c.args.self.tags.items c.args.self.rooted (g.G.Grow.growing c.args.self.grow) (owned_bytes c.args.self.waits) in
    let mid = the_state c.shut_ends.new.self.tags.items c.shut_ends.new.self.rooted (g.G.Grow.growing c.shut_ends.new.self.grow) (owned_bytes c.shut_ends.new.self.waits) in
    let is : (mid ≡ shuts None old) = search rules in
    let shut : ((g.G.Grow.growing c.close_root.new.self.grow).open_rows ≡ []) = search rules in
    ((refl, tt), shut)

pub returns-in-Ok-clause-ok : goal.returns-in-Ok-clause-ok
returns-in-Ok-clause-ok g c =
    let old = the_state c.args.self.tags.items c.args.self.rooted (g.G.Grow.growing c.args.self.grow) (owned_bytes c.args.self.waits) in
    let mid = the_state c.shut_ends.new.self.tags.items c.shut_ends.new.self.rooted (g.G.Grow.growing c.shut_ends.new.self.grow) (owned_bytes c.shut_ends.new.self.waits) in
    let is : (mid ≡ shuts None old) = search rules in
    let none : (c.has_none.result ≡ true) = search rules in
    let rooted : (c.shut_ends.new.self.rooted.some ≡ true) = search rules in
    let rows : ((g.G.Grow.growing c.close_root.new.self.grow).rows ≡ all_rows mid.grown) = search rules in
    λ tokens led. builds old mid _ is (sym c.has_none.ensures ∙ none) rooted (c.in-Ok.ensures ∙ rows) tokens led

pub close_root-requires : goal.close_root-requires
close_root-requires g c κs =
    let old = the_state c.args.self.tags.items c.args.self.rooted (g.G.Grow.growing c.args.self.grow) (owned_bytes c.args.self.waits) in
    let mid = the_state c.shut_ends.new.self.tags.items c.shut_ends.new.self.rooted (g.G.Grow.growing c.shut_ends.new.self.grow) (owned_bytes c.shut_ends.new.self.waits) in
    let is : (mid ≡ shuts None old) = search rules in
    let none : (c.has_none.result ≡ true) = search rules in
    ((refl, tt), (mid_sound None old mid is c.requires.led, (sym c.has_none.ensures ∙ none, omega (arith, c.requires.room, mid_size None old mid is))))
