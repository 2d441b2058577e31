-- The words of the reasons, as they are printed: each is its variant's name.
use Rattle.std.specs.Prelude.{ℕ, List, codes}
use Rattle.text_base.specs.declared.reasons.PageReason.{PageReason}
use Rattle.text_base.specs.declared.reasons.SelectorFault.{SelectorFault}
use Rattle.text_base.specs.declared.reasons.XPathFault.{XPathFault}
use Rattle.text_base.specs.declared.reasons.ScriptFault.{ScriptFault}

abbrev pub page_word : PageReason → List ℕ
page_word PageReason.TooLong = codes "TooLong"
page_word PageReason.NotUtf8 = codes "NotUtf8"
page_word PageReason.Nul = codes "Nul"
page_word PageReason.BadTag = codes "BadTag"
page_word PageReason.BadAttribute = codes "BadAttribute"
page_word PageReason.BadComment = codes "BadComment"
page_word PageReason.BadMarkup = codes "BadMarkup"
page_word PageReason.StrayEnd = codes "StrayEnd"
page_word PageReason.Unclosed = codes "Unclosed"
page_word PageReason.TextOutside = codes "TextOutside"
page_word PageReason.SecondRoot = codes "SecondRoot"
page_word PageReason.NoRoot = codes "NoRoot"
page_word PageReason.Deep = codes "Deep"
page_word PageReason.Memory = codes "Memory"

abbrev pub selector_word : SelectorFault → List ℕ
selector_word SelectorFault.Long = codes "Long"
selector_word SelectorFault.Text = codes "Text"
selector_word SelectorFault.Syntax = codes "Syntax"
selector_word SelectorFault.Prefix = codes "Prefix"
selector_word SelectorFault.UnknownPseudo = codes "UnknownPseudo"
selector_word SelectorFault.PseudoElement = codes "PseudoElement"
selector_word SelectorFault.Nested = codes "Nested"
selector_word SelectorFault.OfType = codes "OfType"
selector_word SelectorFault.Number = codes "Number"
selector_word SelectorFault.XPathLong = codes "XPathLong"
selector_word SelectorFault.Memory = codes "Memory"

abbrev pub xpath_word : XPathFault → List ℕ
xpath_word XPathFault.Long = codes "Long"
xpath_word XPathFault.Text = codes "Text"
xpath_word XPathFault.Deep = codes "Deep"
xpath_word XPathFault.Syntax = codes "Syntax"
xpath_word XPathFault.Fraction = codes "Fraction"
xpath_word XPathFault.Range = codes "Range"
xpath_word XPathFault.Div = codes "Div"
xpath_word XPathFault.Variable = codes "Variable"
xpath_word XPathFault.Prefix = codes "Prefix"
xpath_word XPathFault.Function = codes "Function"
xpath_word XPathFault.Arguments = codes "Arguments"
xpath_word XPathFault.WrongType = codes "WrongType"
xpath_word XPathFault.Memory = codes "Memory"

abbrev pub script_word : ScriptFault → List ℕ
script_word ScriptFault.Long = codes "Long"
script_word ScriptFault.Fields = codes "Fields"
script_word ScriptFault.Memory = codes "Memory"
