-- XPath's numbers: whole numbers from -(2^53 - 1) to 2^53 - 1, and NaN.
use Rattle.std.specs.Prelude.{ℕ, zero, suc, Bool, true, false, ◌==◌, not, nat_le, if◌then◌else◌, List, [], ◌∷◌, reverse, drop, ℤ, pos, negsuc, ◌+ℤ◌, ◌-ℤ◌, ◌*ℤ◌, neg_ℤ, unsigned_abs, int_rem, codes, Option, Some, None}
use Rattle.std.specs.List.{list_all, prefix_len}
use Rattle.std.specs.Fmt.{signed_decimal}
use Rattle.text_base.specs.Text.{is_digit, is_space4, digits_value}
use Rattle.xpath_values.specs.declared.value.XNum.{XNum}
use Rattle.xpath_values.specs.declared.value.XNum.TheVariants.{Whole, NaN}

-- the largest whole number, 2^53 - 1
abbrev pub largest_whole : ℕ
largest_whole = 9007199254740991

abbrev pub in_range : ℤ → Bool
in_range z = nat_le (unsigned_abs z) largest_whole

-- the whole number, or NaN where it is outside the range
abbrev pub whole : ℤ → XNum
whole z = if in_range z then Whole z else NaN

abbrev pub whole_or_none : Option ℤ → XNum
whole_or_none None = NaN
whole_or_none (Some z) = whole z

abbrev pub is_zero : ℤ → Bool
is_zero (pos zero) = true
is_zero (pos (suc n)) = false
is_zero (negsuc n) = false

-- a result with NaN in it is NaN
abbrev pub both : (ℤ → ℤ → XNum) → XNum → XNum → XNum
both f (Whole a) (Whole b) = f a b
both f (Whole a) NaN = NaN
both f NaN b = NaN

abbrev pub num_add : XNum → XNum → XNum
num_add a b = both (λ x y. whole (x +ℤ y)) a b

abbrev pub num_sub : XNum → XNum → XNum
num_sub a b = both (λ x y. whole (x -ℤ y)) a b

abbrev pub num_mul : XNum → XNum → XNum
num_mul a b = both (λ x y. whole (x *ℤ y)) a b

-- the remainder has the sign of its left side
abbrev pub whole_rem : ℤ → ℤ → XNum
whole_rem a b = if is_zero b then NaN else whole (int_rem a b)

abbrev pub num_rem : XNum → XNum → XNum
num_rem a b = both whole_rem a b

abbrev pub num_neg : XNum → XNum
num_neg (Whole a) = whole (neg_ℤ a)
num_neg NaN = NaN

-- without Space4 at its two ends
abbrev pub trimmed : List ℕ → List ℕ
trimmed cs =
    let front = drop (prefix_len is_space4 cs) cs in
    reverse (drop (prefix_len is_space4 (reverse front)) (reverse front))

-- a number by its digits alone, of which there is at least one
abbrev pub unsigned_number : (ℤ → ℤ) → List ℕ → XNum
unsigned_number sign [] = NaN
unsigned_number sign (c ∷ cs) = if list_all is_digit (c ∷ cs) then whole (sign (pos (digits_value (c ∷ cs)))) else NaN

abbrev pub signed_number : List ℕ → XNum
signed_number [] = NaN
signed_number (c ∷ cs) = if c == 45 then unsigned_number neg_ℤ cs else unsigned_number (λ z. z) (c ∷ cs)

-- a string is a number where it is Space4, an optional `-`, digits and Space4
abbrev pub to_number : List ℕ → XNum
to_number cs = signed_number (trimmed cs)

abbrev pub num_text : XNum → List ℕ
num_text (Whole a) = signed_decimal a
num_text NaN = codes "NaN"

abbrev pub number_of_bool : Bool → XNum
number_of_bool true = Whole (pos 1)
number_of_bool false = Whole (pos 0)

abbrev pub truth_of_num : XNum → Bool
truth_of_num (Whole a) = not (is_zero a)
truth_of_num NaN = false
