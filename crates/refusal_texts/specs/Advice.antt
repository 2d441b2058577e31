-- What to write in place of what is refused: a line for each reason.
use Rattle.std.specs.Prelude.{ℕ, List, codes}
use Rattle.text_base.specs.declared.reasons.SelectorFault.{SelectorFault}
use Rattle.text_base.specs.declared.reasons.XPathFault.{XPathFault}
use Rattle.text_base.specs.declared.reasons.PageReason.{PageReason}
use Rattle.query_script.specs.declared.script.Reason.{Reason}
use Rattle.text_base.specs.declared.reasons.ScriptFault.{ScriptFault}
use Rattle.refusal_texts.specs.declared.refusal.Refusal.{Refusal}
use Rattle.refusal_texts.specs.declared.refusal.Refusal.TheVariants as refusal

abbrev pub selector_advice : SelectorFault → List ℕ
selector_advice SelectorFault.Long = codes "a shorter selector, or several fields in place of one list"
selector_advice SelectorFault.Text = codes "put a value that is not a name in quotes: a[href=\"/p/1\"]; close each quote; an attribute is given by a::attr(href)"
selector_advice SelectorFault.Syntax = codes "put a value that is not a name in quotes: a[href=\"/p/1\"]; close each bracket; a class begins with a letter: [class~=\"2col\"]"
selector_advice SelectorFault.Prefix = codes "the name alone, as path for svg|path, or with the colon of the page: [xlink\\:href]"
selector_advice SelectorFault.UnknownPseudo = codes "a class of the list in SELECTORS.md, as :first-child, :nth-child(2), :not(.x), :has(> a) or :contains('x'); get() gives the first of all"
selector_advice SelectorFault.PseudoElement = codes "::text for texts or ::attr(href) for an attribute, at the selector's end and in no bracket"
selector_advice SelectorFault.Nested = codes "fewer brackets in each other: a:has(b c) for a:has(b:has(c))"
selector_advice SelectorFault.OfType = codes "an element's name before the class: p:first-of-type"
selector_advice SelectorFault.Number = codes "a number up to 1000000"
selector_advice SelectorFault.XPathLong = codes "a shorter selector, or several fields in place of one list"
selector_advice SelectorFault.Memory = codes "try again where more memory is free"

abbrev pub xpath_advice : XPathFault → List ℕ
xpath_advice XPathFault.Long = codes "a shorter expression"
xpath_advice XPathFault.Text = codes "close each quote; an id is asked by @id = 'main', a class by contains(@class, 'note')"
xpath_advice XPathFault.Deep = codes "fewer brackets in each other: [a and b] for [(a) and (b)]"
xpath_advice XPathFault.Syntax = codes "close each bracket; after each / and each operator stands a step or a value: //li[@class = 'book']/a"
xpath_advice XPathFault.Fraction = codes "a whole number; where texts have points, take them out: translate(., '.', '') > 999"
xpath_advice XPathFault.Range = codes "a smaller number, or its digits compared as a text: . = '9007199254740992'"
xpath_advice XPathFault.Div = codes "multiply the other side: a > 2 * b for a div b > 2; mod gives what is left"
xpath_advice XPathFault.Variable = codes "the value itself, in quotes: @class = 'book'"
xpath_advice XPathFault.Prefix = codes "compare the whole name: *[name() = 'svg:path']"
xpath_advice XPathFault.Function = codes "a function of XPath 1.0, as contains or translate, or same, ends-with, has-word or near; a pattern stands in a step re('..') of a script"
xpath_advice XPathFault.Arguments = codes "all its arguments, with commas between: contains(@href, '1')"
xpath_advice XPathFault.WrongType = codes "a path in its place: count(//a) for count('a')"
xpath_advice XPathFault.Memory = codes "try again where more memory is free"

abbrev pub page_advice : PageReason → List ℕ
page_advice PageReason.TooLong = codes "cut it into parts"
page_advice PageReason.NotUtf8 = codes "write the page in UTF-8: iconv -f WINDOWS-1252 -t UTF-8 < PAGE"
page_advice PageReason.Nul = codes "take such bytes out: tr -d '\\000' < PAGE"
page_advice PageReason.BadTag = codes "end each tag by > and close the quotes of its values; an end tag has a name alone: </p>; before a letter write &lt; for a < that begins no tag"
page_advice PageReason.BadAttribute = codes "put each value in one pair of quotes: <a href=\"/p/1\" class=\"x\">; &quot; stands for a quote in a value"
page_advice PageReason.BadComment = codes "begin a comment by <!-- and a character other than > and end it by -->, with no --!> in it"
page_advice PageReason.BadMarkup = codes "end a doctype and <? by >; take <![CDATA[ and its ]]> out and keep the text between"
page_advice PageReason.StrayEnd = codes "drop it where its element has ended before, as </p> after a list or a table; end inner elements first: <b><i>x</i></b>; <br> has no end tag"
page_advice PageReason.Unclosed = codes "write its end tag; <div/> begins a div and does not end it: <div></div>"
page_advice PageReason.TextOutside = codes "move it into the element"
page_advice PageReason.SecondRoot = codes "move it before </html>"
page_advice PageReason.NoRoot = codes "give a page with an element or a text; is this the file that was meant?"
page_advice PageReason.Deep = codes "look for elements that are never ended, as <b> or <font>, and end them"
page_advice PageReason.Memory = codes "try again where more memory is free"

abbrev pub field_advice : Reason → List ℕ
field_advice Reason.Name = codes "a name of letters, digits and _ that begins with no digit, and a colon: title: css('title::text').get(); it is the script's text that is given, not its file"
field_advice Reason.Chain = codes "steps and .get() or .getall(), all on one line: css('li').css('a::text').re('[0-9]+').get(); close each quote and bracket; a quote in a text is written twice: 'It''s'"
field_advice Reason.Order = codes "let the steps before give elements: re last, and //li for string(//li); re and keep of a block stand inside its braces"
field_advice Reason.Test = codes "keep(same, '..'), keep(ends-with, '..'), keep(has-word, '..') or keep(near, '..')"
field_advice Reason.Block = codes "rows: css('li').each{ name: css('a::text').get() }, with no end before each, 1 to 32 fields, both braces and no block inside"
field_advice Reason.Twice = codes "a name of its own for each; a field without a name has the empty one"
field_advice Reason.Selection = codes "narrow the steps, or take a field with .getall() in place of a block"
field_advice Reason.Output = codes "take ::text or ::attr(href) and not the markup of elements"
field_advice Reason.Pattern = codes "write \\( for a bracket and close each ( and [; look-around and back-references are not there"
field_advice (Reason.Css f) = selector_advice f
field_advice (Reason.XPath f) = xpath_advice f

abbrev pub script_advice : ScriptFault → List ℕ
script_advice ScriptFault.Long = codes "a shorter script, or two scripts in two runs"
script_advice ScriptFault.Fields = codes "fewer fields, or two scripts in two runs; a block counts as one field"
script_advice ScriptFault.Memory = codes "try again where more memory is free"

abbrev pub advice : Refusal → List ℕ
advice (refusal.Css f) = selector_advice f
advice (refusal.XPath f) = xpath_advice f
advice (refusal.Page f) = page_advice f
advice (refusal.Field f) = field_advice f
advice (refusal.Script f) = script_advice f
