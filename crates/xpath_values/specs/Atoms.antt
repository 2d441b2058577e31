-- What a borrowed value stands for.
use Rattle.std.specs.Str.{chars}
use Rattle.xpath_values.specs.declared.value.Atom.{Atom}
use Rattle.xpath_values.specs.declared.value.Atom.TheVariants as atom
use Rattle.xpath_values.specs.Compares as plain
use Rattle.xpath_values.specs.Compares.{Plain, truth, num}

abbrev pub plain_of : Atom → Plain
plain_of (atom.Bool b) = truth b
plain_of (atom.Num n) = num n
plain_of (atom.Str s) = plain.chars (chars s.now)
