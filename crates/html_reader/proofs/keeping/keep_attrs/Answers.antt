use Rattle.std.proofs.Common.{◌≡◌, ℕ, List, sym, ◌∙◌, ap, subst, map}
use Rattle.char_refs.specs.References.{decoded}
use Rattle.html_lexer.specs.State.{AttrReading}
use Rattle.html_lexer.specs.Attributes.{IsLast, pair_at}
use Rattle.html_lexer.specs.Tags.{attr_at}
use Rattle.html_lexer.specs.declared.tags.AttrStep.TheVariants.{Reads}
use Rattle.html_reader.specs.inner.States.{attr_of}
use Rattle.html_reader.specs.inner.Keeping.{HasKept, Keeps}
use Rattle.html_reader.specs.Tokens.{Attr}
use Rattle.html_reader.proofs.KeepLemmas.{with_kept, more_kept, all_kept, keeps_kept}
use Rattle.html_reader.proofs.keeping.keep_attrs.Goals as goal

pub loop-name-preserved : goal.loop-name-preserved
loop-name-preserved c =
    let h = c.in-Some.ensures.next in
    let inv = c.loop-name.invariant in
    let raw = c.args.raw.now in
    let old = map attr_of c.loop-name.keeping.attrs.items in
    let new = map attr_of c.add.new.self.attrs.items in
    let name = c.in-Some.name.now in
    let value = c.in-Some.value.now in
    let reads : attr_at raw c.loop-name.list.at ≡ Reads h.0 = subst (λ (t : List ℕ). attr_at t c.loop-name.list.at ≡ Reads h.0) inv.same h.1 in
    let pair : (name, value) ≡ pair_at raw h.0 = subst (λ (t : List ℕ). (name, value) ≡ pair_at t h.0) inv.same h.2 in
    let lower = c.in_ok-lower.ensures in
    let added = c.in_ok-add.ensures.added ∙ ap (λ (n : List ℕ). let a : Attr = record { name = n; value = decoded value } in with_kept old a) lower in
    record {
      same = ap (λ (r : AttrReading). r.text) h.3 ∙ inv.same;
      knows = c.in_ok-add.ensures.knows;
      kept = subst (λ (n : ℕ). HasKept raw n new) (sym (ap (λ (r : AttrReading). r.at) h.3)) (more_kept raw c.loop-name.list.at old new h.0 name value inv.kept reads pair c.in_ok-add.ensures.texts added);
    }

pub returns-clause-keeps : goal.returns-clause-keeps
returns-clause-keeps c =
    let inv = c.loop-name.invariant in
    all_kept c.args.raw.now c.loop-name.list.at (map attr_of c.loop-name.keeping.attrs.items) inv.kept (subst (λ (t : List ℕ). IsLast (attr_at t c.loop-name.list.at)) inv.same c.in_default.ensures.next.0)

pub returns-clause-kept : goal.returns-clause-kept
returns-clause-kept c =
    let inv = c.loop-name.invariant in
    let attrs = map attr_of c.loop-name.keeping.attrs.items in
    let all : Keeps c.args.raw.now attrs = all_kept c.args.raw.now c.loop-name.list.at attrs inv.kept (subst (λ (t : List ℕ). IsLast (attr_at t c.loop-name.list.at)) inv.same c.in_default.ensures.next.0) in
    keeps_kept c.args.raw.now attrs all inv.kept.texts
