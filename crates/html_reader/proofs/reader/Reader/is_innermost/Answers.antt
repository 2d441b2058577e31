use Rattle.std.proofs.Common.{◌≡◌, ◌∙◌, ap, ◌-◌, sym, subst, length, Some}
use Rattle.std.specs.Prelude.{slice_get}
use Rattle.std.specs.Str.{bytes_eq}
use Rattle.html_reader.proofs.TestLemmas.{named_last}
use Rattle.html_reader.proofs.reader.Reader.is_innermost.Goals as goal

pub returns-in-Some : goal.returns-in-Some
returns-in-Some g c =
    c.eq.ensures
    ∙ ap (λ b. bytes_eq b c.args.name.now) c.as_str.ensures
    ∙ sym (named_last c.args.self.now.tags.items c.in-Some.tag.now c.args.name.now (subst (λ xs. slice_get xs (length xs - 1) ≡ Some c.in-Some.tag.now) c.deref.ensures.value (sym c.in-Some.ensures.value)))
