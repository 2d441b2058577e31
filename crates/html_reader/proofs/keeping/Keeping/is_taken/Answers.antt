use Rattle.std.proofs.Common.{◌≡◌, ◌||◌, true, false, sym, ◌∙◌, ap, map, drop}
use Rattle.std.specs.BTreeSet.{contains_text}
use Rattle.html_reader.specs.inner.States.{attr_of}
use Rattle.html_reader.specs.inner.Keeping.{has_name}
use Rattle.html_reader.proofs.KeepLemmas.{taken, rest_of}
use Rattle.html_reader.proofs.keeping.Keeping.is_taken.Goals as goal

pub returns-then-contains : goal.returns-then-contains
returns-then-contains c =
    let k = c.args.self.now in
    let name = c.args.name.now in
    let has : contains_text k.names name ≡ true = sym c.contains.ensures ∙ c.if-contains.true in
    ap (λ b. b || has_name (map attr_of (drop k.known k.attrs.items)) name) (sym has) ∙ taken (contains_text k.names) k.attrs.items k.known name c.requires.knows

pub returns : goal.returns
returns c =
    let k = c.args.self.now in
    let name = c.args.name.now in
    let has : contains_text k.names name ≡ false = sym c.contains.ensures ∙ c.if-contains.false in
    let last : c.any_named.result ≡ has_name (map attr_of (drop k.known k.attrs.items)) name = c.any_named.ensures ∙ ap (λ attrs. has_name (map attr_of attrs) name) (rest_of k.known c.deref.result.now) ∙ ap (λ attrs. has_name (map attr_of (drop k.known attrs)) name) c.deref.ensures.value in
    last ∙ ap (λ b. b || has_name (map attr_of (drop k.known k.attrs.items)) name) (sym has) ∙ taken (contains_text k.names) k.attrs.items k.known name c.requires.knows
