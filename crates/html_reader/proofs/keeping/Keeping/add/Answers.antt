use Rattle.std.proofs.Common.{subst}
use Rattle.std.specs.Str.{IsUtf8}
use Rattle.html_reader.specs.inner.Pieces.{owned_bytes}
use Rattle.html_reader.proofs.KeepLemmas.{texts_pushed}
use Rattle.html_reader.proofs.keeping.Keeping.add.Goals as goal

pub returns-clause-texts : goal.returns-clause-texts
returns-clause-texts c =
    let utf8 : IsUtf8 (owned_bytes c.args.name) = subst IsUtf8 c.as_str.ensures c.as_str.utf8 in
    texts_pushed c.push.result c.args.self.now.attrs.items c.push.new.self.attrs.items (record { name = c.args.name; value = c.in_ok-value.value }) c.requires.texts utf8 c.push.ensures.pushed
