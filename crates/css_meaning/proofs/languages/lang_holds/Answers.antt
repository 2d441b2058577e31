use Rattle.std.proofs.Common.{sym, ◌∙◌, ap}
use Rattle.std.specs.Str.{chars}
use Rattle.css_meaning.specs.Attributes.{lang_test}
use Rattle.css_meaning.proofs.languages.lang_holds.Goals as goal

pub returns-in-Some : goal.returns-in-Some
returns-in-Some g c =
    c.is_language.ensures ∙ ap (λ value. lang_test value (chars c.args.wanted.now)) c.text.ensures.chars ∙ sym (c.in-Some.ensures.says (chars c.args.wanted.now))

pub returns-in-None : goal.returns-in-None
returns-in-None g c = sym (c.in-None.ensures.says (chars c.args.wanted.now))
