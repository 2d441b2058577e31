use Rattle.std.proofs.Common.{sym, ◌∙◌, ap}
use Rattle.std.specs.Str.{chars}
use Rattle.text_base.specs.Strings.{contains}
use Rattle.text_base.proofs.SpacedWords.{no_space}
use Rattle.xpath_eval.proofs.Covering.{was_false}
use Rattle.xpath_eval.proofs.SpacedTexts.{space_chars}
use Rattle.xpath_eval.proofs.words.is_word.Goals as goal

pub returns-then-not-is_empty-clause-word : goal.returns-then-not-is_empty-clause-word
returns-then-not-is_empty-clause-word c = λ h.
    let x = chars c.args.text.now in
    record {
      some = sym c.is_empty.ensures ∙ c.if-not-is_empty.true;
      whole = no_space x (ap (contains x) (sym space_chars) ∙ sym c.includes.ensures ∙ was_false _ h);
    }
