-- Values that are rows.
use Rattle.std.specs.Prelude.{Bool, true, false}
use Rattle.xpath_values.specs.declared.value.Value.{Value}
use Rattle.xpath_values.specs.declared.value.Value.TheVariants.{Nodes, Num, Str, Bool as Truth}

abbrev pub is_rows : Value → Bool
is_rows (Nodes rows) = true
is_rows (Num n) = false
is_rows (Str s) = false
is_rows (Truth b) = false
