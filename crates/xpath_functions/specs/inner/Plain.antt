-- A value as one that is no node-set: a node-set is the boolean that it is.
use Rattle.xpath_values.specs.declared.value.Value.{Value}
use Rattle.xpath_values.specs.declared.value.Value.TheVariants.{Nodes, Num, Str, Bool as Truth}
use Rattle.xpath_values.specs.Compares.{Plain, truth, num, chars}
use Rattle.xpath_parser.specs.Conversions.{is_any}

abbrev pub as_plain : Value → Plain
as_plain (Nodes xs) = truth (is_any xs)
as_plain (Num n) = num n
as_plain (Str s) = chars s
as_plain (Truth b) = truth b
