use Rattle.std.proofs.Common.{◌≡◌, ◌∙◌, ◌-◌, ◌||◌, ap, sym, subst, length, Some}
use Rattle.std.specs.Prelude.{slice_get}
use Rattle.html_reader.specs.inner.States.{is_single_last, next_of}
use Rattle.html_reader.specs.inner.Pieces.{owned_bytes}
use Rattle.html_reader.specs.Words.{ends_at}
use Rattle.html_reader.proofs.TestLemmas.{shut_last}
use Rattle.html_reader.proofs.reader.Reader.is_shut.Goals as goal

pub returns-in-Some : goal.returns-in-Some
returns-in-Some g c =
    c.tag_ends.ensures
    ∙ ap (λ xs. is_single_last xs c.in-Some.tag.now || ends_at (owned_bytes c.in-Some.tag.now.name) (next_of c.args.next)) c.as_slice.ensures.value
    ∙ sym (shut_last c.args.self.now.tags.items c.in-Some.tag.now (next_of c.args.next) (subst (λ xs. slice_get xs (length xs - 1) ≡ Some c.in-Some.tag.now) c.deref.ensures.value (sym c.in-Some.ensures.value)))
