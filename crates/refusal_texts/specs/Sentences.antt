-- The reasons of refusals, each in one sentence.
use Rattle.std.specs.Prelude.{ℕ, List, codes}
use Rattle.text_base.specs.declared.reasons.SelectorFault.{SelectorFault}
use Rattle.text_base.specs.declared.reasons.XPathFault.{XPathFault}
use Rattle.text_base.specs.declared.reasons.PageReason.{PageReason}
use Rattle.query_script.specs.declared.script.Reason.{Reason}
use Rattle.text_base.specs.declared.reasons.ScriptFault.{ScriptFault}
use Rattle.refusal_texts.specs.declared.refusal.Refusal.{Refusal}
use Rattle.refusal_texts.specs.declared.refusal.Refusal.TheVariants as refusal

abbrev pub selector_sentence : SelectorFault → List ℕ
selector_sentence SelectorFault.Long = codes "the selector has more than 16384 bytes"
selector_sentence SelectorFault.Text = codes "no token begins at this character"
selector_sentence SelectorFault.Syntax = codes "the tokens do not read as a selector"
selector_sentence SelectorFault.Prefix = codes "a name has a namespace prefix"
selector_sentence SelectorFault.UnknownPseudo = codes "no class of this name is known, or its argument is missing or one too many"
selector_sentence SelectorFault.PseudoElement = codes "this pseudo-element is not known, or something stands after it"
selector_sentence SelectorFault.Nested = codes "a choice stands inside eight others, or a :has inside another"
selector_sentence SelectorFault.OfType = codes "a class that counts by type has no type to count"
selector_sentence SelectorFault.Number = codes "a number is larger than a million"
selector_sentence SelectorFault.XPathLong = codes "the XPath of the selector would have more than 1048576 bytes"
selector_sentence SelectorFault.Memory = codes "no memory was found"

abbrev pub xpath_sentence : XPathFault → List ℕ
xpath_sentence XPathFault.Long = codes "the expression has more than 1048576 bytes"
xpath_sentence XPathFault.Text = codes "no token begins at this character"
xpath_sentence XPathFault.Deep = codes "more than 64 brackets are open"
xpath_sentence XPathFault.Syntax = codes "the tokens do not read as an expression"
xpath_sentence XPathFault.Fraction = codes "a number has a point, and all numbers here are whole"
xpath_sentence XPathFault.Range = codes "a number is larger than 9007199254740991"
xpath_sentence XPathFault.Div = codes "there is no division"
xpath_sentence XPathFault.Variable = codes "there are no variables"
xpath_sentence XPathFault.Prefix = codes "a name has a prefix"
xpath_sentence XPathFault.Function = codes "no function of this name is known"
xpath_sentence XPathFault.Arguments = codes "the function takes another number of arguments"
xpath_sentence XPathFault.WrongType = codes "a text, a number or a boolean stands where nodes must stand"
xpath_sentence XPathFault.Memory = codes "no memory was found"

abbrev pub page_sentence : PageReason → List ℕ
page_sentence PageReason.TooLong = codes "the page has more than 4194304 bytes"
page_sentence PageReason.NotUtf8 = codes "no character of UTF-8 begins at this byte"
page_sentence PageReason.Nul = codes "a byte of the page is zero"
page_sentence PageReason.BadTag = codes "the tag breaks off or cannot be read"
page_sentence PageReason.BadAttribute = codes "no attribute begins where one must: a quote, a = or a < stands alone in the tag"
page_sentence PageReason.BadComment = codes "the comment cannot be read"
page_sentence PageReason.BadMarkup = codes "this is no comment and no doctype, or it has no end"
page_sentence PageReason.StrayEnd = codes "the end tag is not that of the innermost open element"
page_sentence PageReason.Unclosed = codes "the page ends in an element that must have an end tag"
page_sentence PageReason.TextOutside = codes "a text stands outside the element html"
page_sentence PageReason.SecondRoot = codes "an element begins after the end of the element html"
page_sentence PageReason.NoRoot = codes "the page has no element, and no text but white space"
page_sentence PageReason.Deep = codes "512 elements are open, and one more begins"
page_sentence PageReason.Memory = codes "no memory was found"

abbrev pub field_sentence : Reason → List ℕ
field_sentence Reason.Name = codes "no name stands before the first colon, or there is no colon"
field_sentence Reason.Chain = codes "what stands after the colon is no steps and an end"
field_sentence Reason.Order = codes "a step wants elements where the step before it gives strings"
field_sentence Reason.Test = codes "no test of this name is known"
field_sentence Reason.Block = codes "this is no steps, each and fields in braces"
field_sentence Reason.Twice = codes "two fields of the block have the same name"
field_sentence Reason.Selection = codes "a step gives more than 1000000 items, or a block more than 10000 rows"
field_sentence Reason.Output = codes "the strings have more than 8388608 bytes together"
field_sentence Reason.Pattern = codes "the pattern is no regular expression as it is read here"
field_sentence (Reason.Css f) = selector_sentence f
field_sentence (Reason.XPath f) = xpath_sentence f

abbrev pub script_sentence : ScriptFault → List ℕ
script_sentence ScriptFault.Long = codes "the script has more than 65536 bytes"
script_sentence ScriptFault.Fields = codes "the script has more than 32 fields"
script_sentence ScriptFault.Memory = codes "no memory was found"

abbrev pub sentence : Refusal → List ℕ
sentence (refusal.Css f) = selector_sentence f
sentence (refusal.XPath f) = xpath_sentence f
sentence (refusal.Page f) = page_sentence f
sentence (refusal.Field f) = field_sentence f
sentence (refusal.Script f) = script_sentence f
