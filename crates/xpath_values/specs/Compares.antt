-- Comparisons of values that are no nodes.
use Rattle.std.specs.Prelude.{ℕ, Bool, true, false, not, List, ℤ, int_lt, int_le}
use Rattle.std.specs.Ordering.{int_eq}
use Rattle.std.specs.Str.{bytes_eq}
use Rattle.text_base.specs.Strings.{is_empty}
use Rattle.xpath_values.specs.declared.value.XNum.{XNum}
use Rattle.xpath_values.specs.declared.value.XNum.TheVariants.{Whole, NaN}
use Rattle.xpath_values.specs.declared.value.Compare.{Compare}
use Rattle.xpath_values.specs.declared.value.Compare.TheVariants as op
use Rattle.xpath_values.specs.Numbers.{to_number, number_of_bool, truth_of_num, num_text}
use Rattle.xpath_values.specs.Strings.{text_of_bool}

-- A value that is no nodes.
pub data Plain : Type 0 where
  truth : Bool → Plain
  num : XNum → Plain
  chars : List ℕ → Plain

abbrev pub truth_of : Plain → Bool
truth_of (truth b) = b
truth_of (num n) = truth_of_num n
truth_of (chars s) = not (is_empty s)

abbrev pub number_of : Plain → XNum
number_of (truth b) = number_of_bool b
number_of (num n) = n
number_of (chars s) = to_number s

abbrev pub text_of : Plain → List ℕ
text_of (truth b) = text_of_bool b
text_of (num n) = num_text n
text_of (chars s) = s

abbrev pub whole_fits : Compare → ℤ → ℤ → Bool
whole_fits op.Equal a b = int_eq a b
whole_fits op.Unequal a b = not (int_eq a b)
whole_fits op.Less a b = int_lt a b
whole_fits op.LessEqual a b = int_le a b
whole_fits op.Greater a b = int_lt b a
whole_fits op.GreaterEqual a b = int_le b a

-- NaN equals nothing, and no order holds with it
abbrev pub nan_fits : Compare → Bool
nan_fits op.Equal = false
nan_fits op.Unequal = true
nan_fits op.Less = false
nan_fits op.LessEqual = false
nan_fits op.Greater = false
nan_fits op.GreaterEqual = false

abbrev pub num_fits : Compare → XNum → XNum → Bool
num_fits c (Whole a) (Whole b) = whole_fits c a b
num_fits c (Whole a) NaN = nan_fits c
num_fits c NaN b = nan_fits c

abbrev pub bool_eq : Bool → Bool → Bool
bool_eq true b = b
bool_eq false b = not b

-- `=` by boolean where one side is a boolean, else by number where one side is a number, else by string
abbrev pub equal : Plain → Plain → Bool
equal (truth a) b = bool_eq a (truth_of b)
equal (num a) (truth b) = bool_eq (truth_of_num a) b
equal (num a) (num b) = num_fits op.Equal a b
equal (num a) (chars b) = num_fits op.Equal a (to_number b)
equal (chars a) (truth b) = bool_eq (not (is_empty a)) b
equal (chars a) (num b) = num_fits op.Equal (to_number a) b
equal (chars a) (chars b) = bytes_eq a b

-- between two values that are no nodes `!=` is the opposite of `=`, with NaN too; the four orders go by number
abbrev pub plain_fits : Compare → Plain → Plain → Bool
plain_fits op.Equal a b = equal a b
plain_fits op.Unequal a b = not (equal a b)
plain_fits op.Less a b = num_fits op.Less (number_of a) (number_of b)
plain_fits op.LessEqual a b = num_fits op.LessEqual (number_of a) (number_of b)
plain_fits op.Greater a b = num_fits op.Greater (number_of a) (number_of b)
plain_fits op.GreaterEqual a b = num_fits op.GreaterEqual (number_of a) (number_of b)
