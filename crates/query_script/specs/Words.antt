-- The two words of the reason of a field, as it is printed with a point between them: what was looked at, and the
-- variant's name.
use Rattle.std.specs.Prelude.{ℕ, List, codes}
use Rattle.text_base.specs.Reasons.{selector_word, xpath_word}
use Rattle.query_script.specs.declared.script.Reason.{Reason}
use Rattle.query_script.specs.declared.script.Reason.TheVariants as reason

abbrev pub first_word : Reason → List ℕ
first_word reason.Name = codes "field"
first_word reason.Chain = codes "field"
first_word reason.Order = codes "field"
first_word reason.Test = codes "field"
first_word reason.Block = codes "field"
first_word reason.Twice = codes "field"
first_word reason.Selection = codes "field"
first_word reason.Output = codes "field"
first_word reason.Pattern = codes "re"
first_word (reason.Css f) = codes "css"
first_word (reason.XPath f) = codes "xpath"

abbrev pub second_word : Reason → List ℕ
second_word reason.Name = codes "Name"
second_word reason.Chain = codes "Chain"
second_word reason.Order = codes "Order"
second_word reason.Test = codes "Test"
second_word reason.Block = codes "Block"
second_word reason.Twice = codes "Twice"
second_word reason.Selection = codes "Selection"
second_word reason.Output = codes "Output"
second_word reason.Pattern = codes "Pattern"
second_word (reason.Css f) = selector_word f
second_word (reason.XPath f) = xpath_word f
