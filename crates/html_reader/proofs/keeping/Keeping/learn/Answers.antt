use Rattle.std.proofs.Common.{◌≡◌, get_or, rules}
use Rattle.std.specs.Prelude.{string_bytes, true}
use Rattle.std.specs.BTreeSet.{contains_text}
use Rattle.std.proofs.lemmas.Map.Text.{btree_set_updates_text}
use Rattle.html_reader.specs.inner.Pieces.{owned_bytes}
use Rattle.html_reader.proofs.KeepLemmas.{learns}
use Rattle.html_reader.proofs.keeping.Keeping.learn.Goals as goal

pub returns-clause-knows : goal.returns-clause-knows
returns-clause-knows c =
    let old = c.args.self.now in
    let named : string_bytes c.in_ok-name.name ≡ owned_bytes (get_or old.attrs.items old.known c.index-next.result.now).name = search rules in
    learns (contains_text old.names) (contains_text c.insert.new.self) old.attrs.items old.known c.index-next.result.now (string_bytes c.in_ok-name.name) c.requires.knows c.requires.more named
    (btree_set_updates_text (string_bytes c.in_ok-name.name) old.names c.insert.new.self true c.in_ok-insert.ensures.updates)
