-- The least and the greatest of numbers, of which NaN is left out.
use Rattle.std.specs.Prelude.{ℕ, Bool, true, false, if◌then◌else◌, List, int_lt}
use Rattle.std.specs.List.{fold}
use Rattle.doc_model.specs.Document.{Document}
use Rattle.doc_model.specs.StringValue.{string_value}
use Rattle.xpath_values.specs.declared.value.XNum.{XNum}
use Rattle.xpath_values.specs.declared.value.XNum.TheVariants.{Whole, NaN}
use Rattle.xpath_values.specs.declared.value.Compare.{Compare}
use Rattle.xpath_values.specs.declared.value.Compare.TheVariants as op
use Rattle.xpath_values.specs.Numbers.{to_number}

-- the smaller of two numbers where `least` is true, else the larger
abbrev pub extreme : Bool → XNum → XNum → XNum
extreme least NaN b = b
extreme least (Whole a) NaN = Whole a
extreme true (Whole a) (Whole b) = if int_lt b a then Whole b else Whole a
extreme false (Whole a) (Whole b) = if int_lt a b then Whole b else Whole a

-- that of the numbers of all rows; NaN where no row has a number
abbrev pub extreme_of : Document → Bool → List ℕ → XNum
extreme_of doc least xs = fold (λ n x. extreme least n (to_number (string_value doc x))) NaN xs

-- one of the four orders
abbrev pub is_order : Compare → Bool
is_order op.Equal = false
is_order op.Unequal = false
is_order op.Less = true
is_order op.LessEqual = true
is_order op.Greater = true
is_order op.GreaterEqual = true

-- the order asks for the least number on its left side, and for the greatest on its right one
abbrev pub goes_up : Compare → Bool
goes_up op.Less = true
goes_up op.LessEqual = true
goes_up _ = false
