use Rattle.std.proofs.Common.{◌≡◌, ◌+◌, ◌++◌, encode_utf8, subst, sym, ◌∙◌, ap, drop}
use Rattle.std.proofs.lemmas.List.{take_rest}
use Rattle.std.specs.Str.{chars}
use Rattle.text_base.specs.Text.{IsPlace}
use Rattle.text_base.proofs.CharacterLemmas.{past_char, chars_after}
use Rattle.text_base.proofs.characters.next_place.Goals as goal

-- what stands at the place: a character and the rest
begins : (c : goal.After-len_utf8) → drop c.args.at c.args.text.now ≡ encode_utf8 c.in-Some.c ++ c.next.new.self.rest.now
begins c = sym (take_rest c.args.text.now c.args.at) ∙ sym c.part.ensures ∙ sym c.chars.ensures.rest ∙ c.in-Some.ensures.steps.0

pub returns-in-Some-clause-place : goal.returns-in-Some-clause-place
returns-in-Some-clause-place c =
    subst (λ n. IsPlace c.args.text.now (c.args.at + n)) (sym c.len_utf8.ensures.value)
    (past_char c.args.text.now _ c.args.at c.in-Some.c c.utf8.text c.requires.place (begins c))

pub returns-in-Some-clause-next : goal.returns-in-Some-clause-next
returns-in-Some-clause-next c =
    ap (λ n. chars (drop (c.args.at + n) c.args.text.now)) c.len_utf8.ensures.value
    ∙ chars_after c.args.text.now _ c.args.at c.in-Some.c c.utf8.text c.requires.place (begins c)
