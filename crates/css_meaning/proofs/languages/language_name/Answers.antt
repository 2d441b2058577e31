use Rattle.std.proofs.Common.{sym, ap}
use Rattle.std.specs.Str.{chars}
use Rattle.css_meaning.specs.Language.{lang_name}
use Rattle.css_meaning.proofs.languages.language_name.Goals as goal

pub returns-in-Generic : goal.returns-in-Generic
unfolding chars
returns-in-Generic c = ap lang_name (sym c.in-Generic.is)

pub returns-in-Html : goal.returns-in-Html
unfolding chars
returns-in-Html c = ap lang_name (sym c.in-Html.is)
