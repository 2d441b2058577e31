-- Reading a number from left to right. This is the order of the code's work, and serves its contracts; which number a string
-- stands for is said in Numbers.
use Rattle.std.specs.Prelude.{◌≡◌, ℕ, ◌+◌, ◌-◌, ◌*◌, Bool, true, false, ◌==◌, nat_lt, if◌then◌else◌, List, ℤ, pos, neg_ℤ}
use Rattle.std.specs.List.{fold}
use Rattle.text_base.specs.Text.{is_digit, is_space4}
use Rattle.xpath_values.specs.declared.value.XNum.{XNum}
use Rattle.xpath_values.specs.declared.value.XNum.TheVariants.{NaN}
use Rattle.xpath_values.specs.declared.reading.Reading.{Reading}
use Rattle.xpath_values.specs.declared.reading.Reading.TheVariants as r
use Rattle.xpath_values.specs.Numbers.{largest_whole, whole}

abbrev pub is_digit_true : ℕ → Type 0
is_digit_true c = is_digit c ≡ true

abbrev pub more : ℕ → ℕ → ℕ
more value c = if nat_lt largest_whole value then value else value * 10 + (c - 48)

abbrev pub next : Reading → ℕ → Reading
next r.Front c =
    if is_space4 c then r.Front else
    if c == 45 then r.Sign else
    if is_digit c then r.Digits false (more 0 c) else r.Unfit
next r.Sign c = if is_digit c then r.Digits true (more 0 c) else r.Unfit
next (r.Digits minus value) c =
    if is_digit c then r.Digits minus (more value c) else
    if is_space4 c then r.After minus value else r.Unfit
next (r.After minus value) c = if is_space4 c then r.After minus value else r.Unfit
next r.Unfit c = r.Unfit

abbrev pub sign : Bool → ℤ → ℤ
sign true z = neg_ℤ z
sign false z = z

abbrev pub signed : Bool → ℕ → XNum
signed minus value = whole (sign minus (pos value))

abbrev pub number : Reading → XNum
number (r.Digits minus value) = signed minus value
number (r.After minus value) = signed minus value
number _ = NaN

abbrev pub after : Reading → List ℕ → Reading
after state cs = fold next state cs
