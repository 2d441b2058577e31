use Rattle.std.proofs.Common.{◌≡◌, codes, string_bytes, subst, sym, IfOk}
use Rattle.std.specs.Str.{chars}
use Rattle.xpath_values.specs.Numbers.{num_text}
use Rattle.xpath_functions.proofs.Lists.{ascii_text, nan_chars}
use Rattle.xpath_functions.proofs.texts.number_text.Goals as goal

pub returns-in-NaN : goal.returns-in-NaN
returns-in-NaN c =
    subst (λ n. IfOk c.num_text.result (λ s. chars (string_bytes s) ≡ num_text n)) (sym c.in-NaN.is) (ascii_text (codes "NaN") c.num_text.result nan_chars c.num_text.ensures)
