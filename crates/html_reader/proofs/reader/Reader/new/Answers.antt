use Rattle.std.proofs.Common.{◌≡◌, [], false, rules}
use Rattle.html_reader.specs.inner.States.{the_state}
use Rattle.html_reader.specs.inner.Machine.{state}
use Rattle.html_reader.specs.inner.States.{tags_onto}
use Rattle.html_reader.proofs.ReadLemmas.{starts_led}
use Rattle.html_reader.proofs.reader.Reader.new.Goals as goal

pub returns-clause-led : goal.returns-clause-led
returns-clause-led g c =
    let none : (c.new.result.items ≡ []) = search rules in
    starts_led c.args.made (the_state c.new.result.items (record { made = c.args.made; some = false }) (g.G.Grow.growing c.begin.new.grow) []) (λ i. state (tags_onto [] (none i)) (record { made = c.args.made; some = false }) (c.in_ok-begin.ensures i))
